-- The first pass over a text, line by line.
use mathlib.Core.Path.{◌≡◌, refl, sym, ◌∙◌, ap}
use mathlib.Core.Bool.{true, false}
use mathlib.Core.List.{List, [], ◌∷◌, ◌++◌, append_assoc, append_cancel_left}
use mathlib.Core.Logic.{by_cases}
use Prim.Native.Nat.{ℕ, suc, ◌+◌, ◌-◌, ◌≤◌, ◌<◌}
use native.Mathlib.Omega.{arith}
use native.Mathlib.Decide.{dec_lt}
use lib.Dec.{ltb}
use lib.ListN.{length, get_or, drop, length-append, length-drop, drop_of_length-le}
use lib.Seq.{get_or-append-add}
use borrow.Author.Tests.{lt-ltb, ltb-true}
use Rattle.sets.proofs.Bits.{bit-none}
use Rattle.sets.specs.Masks.{bit}
use Rattle.sets.proofs.Bools.{bif}
use Rattle.slice_text.specs.Decimal.{word}
use Rattle.listing_lines_spec.specs.Lines.{newline, lines}
use Rattle.hoa_spec.specs.Lines.{hoa_line, states_line, ap_line, acceptance_lines, end_line}
use Rattle.hoa_spec.specs.Text.{start_of, block_of, automaton_text}
use Rattle.hoa_spec.specs.Shape.{flags_from, Marked, Shaped}
use Rattle.hoa_laws.specs.Took.{Ended, Took, TookOne}
use Rattle.hoa_laws.proofs.Lines.{states-once, ap-once}
use Rattle.hoa_laws.proofs.Starts.{start-yes, start-no}
use Rattle.hoa_laws.proofs.Blocks.{Same, blocks-left, blocks-bits}
use Rattle.hoa_laws.proofs.Marks.{flags-length, accepting-bit, initial-bit, marked-length, marked-bit}
use Rattle.hoa_laws.proofs.Once.{ap-no-start, end-no-edge, text-parts, body_text, low_text_lem, high_text_lem}
use Rattle.hoa_laws.proofs.Taking.{after}
use Rattle.hoa_laws.specs.Parts.{Starting, accepting_first, BlocksOf, TookBlocks}
use Rattle.hoa_laws.proofs.Starting.{bit-1}
use Rattle.hoa_laws.proofs.Blocking.{first-length, first_bit}
use Rattle.hoa_read.specs.Survey.{NoShape, HeadOf, Surveyed}

-- ---- the lines before those of the macrostates

module _ {text : List ℕ} where
  pub no-survey : {n b accepting m starts blocks end : ℕ} → end ≡ 0 → NoShape text → Surveyed text n b accepting m starts blocks end
  no-survey e h = record { found = λ l. absurd (omega arith); absent = λ z. h }

  -- a text ends in a newline
  pub text-ended : (b : ℕ) (fs ts : List ℕ) → text ≡ automaton_text b fs ts → Ended text
  unfolding automaton_text
  text-ended b fs ts e =
      let front = hoa_line ++ (states_line (length fs) ++ (lines start_of 0 fs ++ (ap_line b ++ (acceptance_lines ++ lines (block_of b ts) 0 fs)))) in
      let f : text ≡ front ++ end_line = e ∙ simp append_assoc in
      let n : length text - 1 ≡ length front + 7 = omega (arith, ap length f, length-append front end_line) in
      ap (λ (k : ℕ). get_or text k 0) n ∙ ap (λ (s : List ℕ). get_or s (length front + 7) 0) f ∙ get_or-append-add front end_line 7 0

  pub no-newline : (get_or text (length text - 1) 0 ≡ 10 → ⊥) → NoShape text
  no-newline n b fs ts P e = n (text-ended b fs ts e)

  module _ {a : ℕ} (A : Took text 0 hoa_line a) where
    pub head-no-name : a ≡ 0 → NoShape text
    head-no-name z c fs ts P e = A.absent z (states_line (length fs) ++ high_text_lem c fs ts) (e ∙ text-parts c fs ts)

    module _ (l : 0 < a) {n s : ℕ} (N : TookOne text a (λ x. x ≤ 65536) (λ x. (83 ∷ 116 ∷ 97 ∷ 116 ∷ 101 ∷ 115 ∷ 58 ∷ []) ++ (word x ++ newline)) n s) where
      after-name : (c : ℕ) (fs ts : List ℕ) → text ≡ automaton_text c fs ts → drop a text ≡ states_line (length fs) ++ high_text_lem c fs ts
      after-name c fs ts e = after hoa_line (A.found l).1 (e ∙ text-parts c fs ts)

      pub head-no-states : s ≡ 0 → NoShape text
      unfolding states_line
      head-no-states z c fs ts P e = N.absent z (length fs) P.few (high_text_lem c fs ts) (after-name c fs ts e)

      module _ (m : 0 < s) where
        states-here : drop a text ≡ states_line n ++ drop s text
        unfolding states_line
        states-here = (N.found m).2

        -- the text after the number of macrostates
        high_part : (c : ℕ) (fs ts : List ℕ) → text ≡ automaton_text c fs ts → (length fs ≡ n) × (drop s text ≡ high_text_lem c fs ts)
        high_part c fs ts e =
            let r = states-once n (length fs) (sym states-here ∙ after-name c fs ts e) in
            (sym r.0, r.1)

        module _ {initial : List ℕ} {last r : ℕ} (S : Starting text s n n initial last r) where
          -- the text after the start lines
          low_part : (c : ℕ) (fs ts : List ℕ) → text ≡ automaton_text c fs ts → drop r text ≡ low_text_lem c fs ts
          unfolding lines
          low_part c fs ts e =
              let h = high_part c fs ts e in
              let o = S.only fs (low_text_lem c fs ts) h.0 (ap-no-start c _) h.1 in
              o.0 ∙ ap (λ (gs : List ℕ). lines start_of n gs ++ low_text_lem c fs ts) (drop_of_length-le fs {i = n} (omega arith))

          module _ {b q : ℕ} (B : TookOne text r (λ b. b ≤ 4) ap_line b q) where
            pub head-no-ap : q ≡ 0 → NoShape text
            head-no-ap z c fs ts P e = B.absent z c P.propositions (acceptance_lines ++ body_text c fs ts) (low_part c fs ts e)

            module _ (k : 0 < q) {d : ℕ} (D : Took text q acceptance_lines d) where
              pub head-no-body : d ≡ 0 → NoShape text
              head-no-body z c fs ts P e =
                  let f = B.found k in
                  let o = ap-once b c f.0 P.propositions (sym f.2 ∙ low_part c fs ts e) in
                  D.absent z (body_text c fs ts) o.1

              pub head_read : 0 < d → HeadOf text n b last s d
              head_read z =
                  let f = B.found k in
                  let g = N.found m in
                  let w = D.found z in
                  record {
                    few = g.0;
                    propositions = f.0;
                    within = g.1;
                    goes_on = w.0;
                    low = r;
                    initial = initial;
                    read = S;
                    high_text = (A.found l).1 ∙ ap (λ (x : List ℕ). hoa_line ++ x) states-here;
                    low_text = f.2 ∙ ap (λ (x : List ℕ). ap_line b ++ x) w.1;
                  }

-- ---- the whole text

-- start lines are told by the initial flags alone
starts-bits : (i : ℕ) (fs gs : List ℕ) → length fs ≡ length gs → ((j : ℕ) → j < length fs → bit (get_or fs j 0) 0 ≡ bit (get_or gs j 0) 0) → lines start_of i fs ≡ lines start_of i gs
unfolding lines
starts-bits i [] [] h e = refl
starts-bits i [] (g ∷ gs) h e = absurd (omega arith)
starts-bits i (f ∷ fs) [] h e = absurd (omega arith)
starts-bits i (f ∷ fs) (g ∷ gs) h e =
    let k = starts-bits (suc i) fs gs (omega arith) (λ j l. e (suc j) (omega arith)) in
    let first : start_of i f ≡ start_of i g =
    bif (bit g 0)
    (λ t. start-yes i f (e 0 (omega arith) ∙ t) ∙ sym (start-yes i g t))
    (λ t. start-no i f (e 0 (omega arith) ∙ t) ∙ sym (start-no i g t)) in
    cc

module _ {text : List ℕ} {n b last starts blocks : ℕ} (H : HeadOf text n b last starts blocks) where
  -- the text after `--BODY--`
  body-part : (c : ℕ) (fs ts : List ℕ) → Shaped c fs ts → text ≡ automaton_text c fs ts
      → (length fs ≡ n) × (c ≡ b) × (drop blocks text ≡ body_text c fs ts) × ((j : ℕ) → j < n → bit (get_or fs j 0) 0 ≡ bit (get_or H.initial j 0) 0)
  unfolding lines
  body-part c fs ts P e =
      let f = after hoa_line H.high_text (e ∙ text-parts c fs ts) in
      let h = states-once n (length fs) f in
      let o = H.read.only fs (low_text_lem c fs ts) (sym h.0) (ap-no-start c _) h.1 in
      let low = o.0 ∙ ap (λ (gs : List ℕ). lines start_of n gs ++ low_text_lem c fs ts) (drop_of_length-le fs {i = n} (omega (arith, h.0))) in
      let a = ap-once b c H.propositions P.propositions (sym H.low_text ∙ low) in
      (sym h.0, sym a.0, append_cancel_left acceptance_lines _ _ a.1, o.1)

  module _ {old : List ℕ} {accepting m q : ℕ} {new : List ℕ} (B : TookBlocks text blocks b n old accepting m q new) where
    -- over the same number of propositions
    same-b : (c : ℕ) (fs ts : List ℕ) → c ≡ b → Shaped c fs ts → Shaped b fs ts
    same-b c fs ts e P = rw (sym e) P

    pub survey-no-blocks : q ≡ 0 → NoShape text
    survey-no-blocks z c fs ts P e =
        let k = body-part c fs ts P e in
        B.absent z fs ts end_line (same-b c fs ts k.1 P) k.0 end-no-edge (k.2 ∙ ap (λ (d : ℕ). body_text d fs ts) k.1)

    module _ (l : 0 < q) where
      -- what was read
      abbrev F : BlocksOf text blocks b n old accepting m q new
      F = B.found l

      -- any table that has the text has the accepting numbers and the transitions that were read
      same : (c : ℕ) (fs ts : List ℕ) → Shaped c fs ts → text ≡ automaton_text c fs ts → Same b F.moves ts 0 (accepting_first accepting n) fs (drop q text) end_line
      same c fs ts P e =
          let k = body-part c fs ts P e in
          let R = F.read in
          let w = first-length accepting n R.first in
          blocks-left b F.moves ts R.letter (λ t i. rw k.1 at (P.ranges t i).letter) 0 (accepting_first accepting n) fs (drop q text) end_line
          (omega (arith, k.0)) (λ z. R.next (omega arith)) end-no-edge
          (sym R.is ∙ k.2 ∙ ap (λ (d : ℕ). body_text d fs ts) k.1)

      -- an initial number is accepting
      pub survey-rejecting : accepting < last → NoShape text
      survey-rejecting g c fs ts P e =
          let k = body-part c fs ts P e in
          let R = F.read in let S = H.read in let M = P.marked in
          let j = last - 1 in
          let hi = S.high in
          let jn : j < n = omega arith in
          let w = first-length accepting n R.first in
          let one : bit (get_or fs j 0) 0 ≡ true = k.3 j jn ∙ ap (λ (x : ℕ). bit x 0) (S.reached (omega arith)) ∙ bit-1 in
          let len = k.0 in
          let jf : j < length M.starts = omega (arith, marked-length M) in
          let start : bit (get_or M.starts j 0) 0 ≡ true =
          sym (initial-bit M.accepting M.starts M.each M.begins j jf) ∙ ap (λ (gs : List ℕ). bit (get_or gs j 0) 0) (sym M.flags_are) ∙ one in
          by_cases (dec_lt j M.accepting)
          (λ a. let t = (same c fs ts P e).bits j (omega arith) in
          let u : ltb j accepting ≡ true = sym (first_bit accepting n j jn) ∙ t ∙ marked-bit M j (omega arith) ∙ lt-ltb j M.accepting a in
          let v = ltb-true j accepting u in omega arith)
          (λ a. let t : true ≡ false = sym start ∙ ap (λ (x : ℕ). bit x 0) (M.begins j (omega arith)) ∙ bit-none 0 in
          let z : ◌≡◌ {A = ℕ} 0 1 = cc in omega arith)

      end-part : (c : ℕ) (fs ts : List ℕ) → Shaped c fs ts → text ≡ automaton_text c fs ts → drop q text ≡ end_line
      unfolding lines
      end-part c fs ts P e =
          let k = body-part c fs ts P e in
          let R = F.read in
          let w = first-length accepting n R.first in
          (same c fs ts P e).left
          ∙ ap (λ (gs : List ℕ). lines (block_of b ts) (0 + length (accepting_first accepting n)) gs ++ end_line)
          (drop_of_length-le fs {i = length (accepting_first accepting n)} (omega (arith, k.0)))

      module _ {r : ℕ} (E : Took text q end_line r) where
        pub survey-no-end : r ≡ 0 → NoShape text
        survey-no-end z c fs ts P e = E.absent z [] (end-part c fs ts P e)

        module _ (g : 0 < r) where
          pub survey-more : (r ≡ length text → ⊥) → NoShape text
          survey-more n c fs ts P e =
              let f = E.found g in
              let d : drop r text ≡ [] = append_cancel_left end_line _ _ (sym f.1 ∙ end-part c fs ts P e) in
              n (omega (arith, f.0, length-drop r text, ap length d))

          pub survey-done : last ≤ accepting → r ≡ length text → 0 < blocks → Surveyed text n b accepting m starts blocks r
          survey-done high e some =
              let R = F.read in let S = H.read in
              let f = E.found g in
              let flags = flags_from accepting 0 H.initial in
              let len : length flags ≡ length H.initial = flags-length accepting 0 H.initial in
              let long = S.long in
              let w = first-length accepting n R.first in
              let begins : (i : ℕ) → accepting ≤ i → get_or H.initial i 0 ≡ 0 = λ i l. S.beyond i (omega arith) in
              let M : Marked flags = record { accepting = accepting; starts = H.initial; enough = let x = R.first in omega arith; each = S.each; begins = begins; flags_are = refl } in
              let P : Shaped b flags F.moves = record {
                few = let x = H.few in omega arith;
                propositions = H.propositions;
                marked = M;
                ascend = R.ascending;
                ranges = λ t k. record { source = let x = R.source t k in omega arith; letter = R.letter t k; target = let x = R.target t k in omega arith };
              } in
              let last-part : drop q text ≡ end_line = f.1 ∙ ap (λ (x : List ℕ). end_line ++ x) (drop_of_length-le text {i = r} (omega arith)) in
              let body : drop blocks text ≡ body_text b flags F.moves =
              R.is
              ∙ ap (λ (x : List ℕ). x ++ drop q text)
              (blocks-bits b F.moves 0 (accepting_first accepting n) flags (omega arith)
              (λ j l. first_bit accepting n j (omega arith) ∙ sym (accepting-bit accepting H.initial S.each begins j (omega arith))))
              ∙ ap (λ (x : List ℕ). lines (block_of b F.moves) 0 flags ++ x) last-part in
              let high_part : drop starts text ≡ high_text_lem b flags F.moves =
              S.is
              ∙ ap (λ (x : List ℕ). x ++ drop H.low text)
              (starts-bits 0 H.initial flags (sym len) (λ j l. sym (initial-bit accepting H.initial S.each begins j l)))
              ∙ ap (λ (x : List ℕ). lines start_of 0 flags ++ x) (H.low_text ∙ ap (λ (x : List ℕ). ap_line b ++ (acceptance_lines ++ x)) body) in
              let count : length flags ≡ n = omega arith in
              let whole : text ≡ automaton_text b flags F.moves =
              H.high_text
              ∙ ap (λ (x : List ℕ). hoa_line ++ (states_line n ++ x)) high_part
              ∙ ap (λ (k : ℕ). hoa_line ++ (states_line k ++ high_text_lem b flags F.moves)) (sym count)
              ∙ sym (text-parts b flags F.moves) in
              record {
                found = λ z. record {
                  flags = flags;
                  moves = F.moves;
                  shaped = P;
                  first = refl;
                  macrostates = sym count;
                  transitions = F.counted;
                  text_is = whole;
                  within = H.within;
                  some = some;
                  goes_on = H.goes_on;
                  high = high_part;
                  body = body;
                };
                absent = λ z. absurd (omega arith);
              }
