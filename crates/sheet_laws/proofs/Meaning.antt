-- What the judge of a sheet answers and writes, as it is computed, is what plans and tidy spellings say.
use mathlib.Core.Path.{◌≡◌, refl, ◌∙◌, ap}
use mathlib.Core.Logic.{⊎_elim, by_cases}
use mathlib.Core.List.Memᴰ
use mathlib.Core.List.{List, [], ◌∷◌, ◌++◌, map, append_assoc, Memᴰ}
use Prim.Native.Nat.{ℕ, zero, suc, ◌+◌, ◌-◌, ◌*◌, ◌≤◌, ◌<◌}
use native.Mathlib.Omega.{arith}
use native.Mathlib.Decide.{dec_lt}
use lib.ListN.{length, length-map, get_or, take, drop, replicate, length-take, length-append, length-replicate, get_or-replicate, get_or-eq_default}
use lib.Seq.{get_or-append-add, drop-append-add, take_at, drop_at}
use Rattle.theory.specs.Rule.{Rule}
use Rattle.theory.specs.Passing.{Passing}
use Rattle.theory.specs.Truth.{truth_masks}
use Rattle.theory.specs.Word.{places, letters, WordOver}
use Rattle.theory_laws.proofs.Truth.{truth-length}
use Rattle.judge_spec.specs.Judge.{holds_start, verdict, after}
use Rattle.judge_spec.proofs.Meaning.{meaning}
use Rattle.word_spelling_spec.specs.Spelling.{Tidy}
use Rattle.word_spelling_spec.specs.SpellingComputed.{tidy_lead}
use Rattle.word_spelling_spec.proofs.Tidied.{tidied, tidy-unique}
use Rattle.sheet_spec.specs.Words.{SheetWord, lone, spelled, words_in, words_of, lead_of, cycle_of, fault_of}
use Rattle.sheet_spec.specs.Sheet.{byte_of}
use Rattle.sheet_spec.specs.Computed.{answer_of, masks_of_lem, all_masks, cycles_after, cycle_count, totals, tidy_of_lem}
use Rattle.sheet_spec.specs.Judged.{WordMeant, TidyCycles, SheetServed}
use Rattle.sheet_spec.specs.declared.Totals.{Totals}
use Rattle.std.specs.Prelude.{Result, Ok}
use Rattle.refusals.specs.declared.Refusal.{Refusal}
use Rattle.sheet_laws.proofs.Distinct.{mem-of, zero-or-suc, counted}
use Rattle.sheet_laws.proofs.Alone.{sound, lead-size, cycle-size, verdict-byte}

-- ---- the words of a sheet

-- a word has no more letters than its length bytes say
abbrev pub Sized : SheetWord → Type 0
Sized (lone a) = Unit {0}
Sized (spelled a b t) = length t ≤ a + b

words-sized : (k : ℕ) (s : List ℕ) (w : SheetWord) → Memᴰ w (words_in k s) → Sized w
unfolding words_in
words-sized zero s w m = absurd (Memᴰ.not-nil m)
words-sized (suc k) [] w m = absurd (Memᴰ.not-nil m)
words-sized (suc k) (a ∷ []) w m = ⊎_elim (λ e. rw e tt) (λ n. absurd (Memᴰ.not-nil n)) (Memᴰ.cases_cons m)
words-sized (suc k) (a ∷ (b ∷ s)) w m = ⊎_elim (λ e. rw e (omega (arith, length-take (a + b) s))) (words-sized k (drop (a + b) s) w) (Memᴰ.cases_cons m)

pub sheet-sized : (s : List ℕ) (w : SheetWord) → Memᴰ w (words_of s) → Sized w
unfolding words_of
sheet-sized s w m = words-sized (length s) s w m

-- ---- one word

-- n times a, and a where nothing stands
repeated-at : (a n i : ℕ) → get_or (replicate n a) i a ≡ a
repeated-at a n i =
    by_cases (dec_lt i n)
    (λ l. get_or-replicate n i a a l)
    (λ l. get_or-eq_default (replicate n a) a {n = i} (omega (arith, length-replicate {A = ℕ} n a)))

module _ (r : Rule) where
  word_served : (w : SheetWord) → fault_of r.s w ≡ 0 → (answer_of r w ≡ byte_of (Ok (holds_start r (lead_of w) (cycle_of w))))
      × (masks_of_lem r w ≡ truth_masks r (lead_of w) (cycle_of w) ++ replicate (64 - places (lead_of w) (cycle_of w)) 0)
  unfolding answer_of masks_of_lem
  word_served w e = rw e (verdict-byte (holds_start r (lead_of w) (cycle_of w)), refl)

  word-faulty : (w : SheetWord) (k : ℕ) → fault_of r.s w ≡ suc k → (answer_of r w ≡ suc k) × (masks_of_lem r w ≡ replicate 64 0)
  unfolding answer_of masks_of_lem
  word-faulty w k e = rw e (refl, refl)

-- a word that is not faulty is over the rule's letters and has at most 64 places
fine : (s : ℕ) (w : SheetWord) → Sized w → fault_of s w ≡ 0 → WordOver s (lead_of w) (cycle_of w) × (places (lead_of w) (cycle_of w) ≤ 64)
unfolding fault_of lead_of cycle_of
fine s (lone a) z e = absurd (omega (arith, e))
fine s (spelled a b t) z e =
    let S = sound s a b t z e in
    (S.word, omega (arith, S.lead-short, S.cycle-short, lead-size a b t S.whole, cycle-size a b t S.whole))

module _ (r : Rule) (w : SheetWord) (z : Sized w) where
  pub masks-long : length (masks_of_lem r w) ≡ 64
  masks-long =
      ⊎_elim
      (λ e. let few = (fine r.s w z e).1 in
      ap length (word_served r w e).1 ∙ length-append (truth_masks r (lead_of w) (cycle_of w)) (replicate (64 - places (lead_of w) (cycle_of w)) 0)
      ∙ omega (arith, truth-length r (lead_of w) (cycle_of w), length-replicate {A = ℕ} (64 - places (lead_of w) (cycle_of w)) 0))
      (λ k. ap length (word-faulty r w k.0 k.1).1)
      (zero-or-suc (fault_of r.s w))

  masks-past : fault_of r.s w ≡ 0 → (p : ℕ) → places (lead_of w) (cycle_of w) ≤ p → get_or (masks_of_lem r w) p 0 ≡ 0
  masks-past e p l =
      let T = truth_masks r (lead_of w) (cycle_of w) in let n = 64 - places (lead_of w) (cycle_of w) in
      let at : p ≡ length T + (p - places (lead_of w) (cycle_of w)) = omega (arith, truth-length r (lead_of w) (cycle_of w)) in
      ap (λ (m : List ℕ). get_or m p 0) (word_served r w e).1
      ∙ ap (λ (i : ℕ). get_or (T ++ replicate n 0) i 0) at
      ∙ get_or-append-add T (replicate n 0) (p - places (lead_of w) (cycle_of w)) 0
      ∙ repeated-at 0 n (p - places (lead_of w) (cycle_of w))

  word-meant : Passing r → WordMeant r w (answer_of r w) (masks_of_lem r w)
  word-meant P = record {
    long = masks-long;
    alone = λ e. (
      Ok (holds_start r (lead_of w) (cycle_of w)),
      (word_served r w e).0,
      rw (word_served r w e).1 (meaning r P (lead_of w) (cycle_of w) (fine r.s w z e).0 (replicate (64 - places (lead_of w) (cycle_of w)) 0)),
    );
    past = masks-past;
    faulty = word-faulty r w;
  }

-- ---- the words in their order

module _ (r : Rule) where
  -- an answer byte each
  answers_at : (ws : List SheetWord) (rest : List ℕ) (i : ℕ) → i < length ws → get_or (map (answer_of r) ws ++ rest) i 0 ≡ answer_of r (get_or ws i (lone 0))
  answers_at [] rest i l = absurd (omega arith)
  answers_at (w ∷ ws) rest zero l = refl
  answers_at (w ∷ ws) rest (suc i) l = answers_at ws rest i (omega arith)

  -- 64 mask bytes each
  abbrev Longs : List SheetWord → Type 0
  Longs ws = (i : ℕ) → i < length ws → length (masks_of_lem r (get_or ws i (lone 0))) ≡ 64

  masks-at : (ws : List SheetWord) → Longs ws → (rest : List ℕ) (i : ℕ) → i < length ws → take 64 (drop (64 * i) (all_masks r ws ++ rest)) ≡ masks_of_lem r (get_or ws i (lone 0))
  unfolding all_masks
  masks-at [] long rest i l = absurd (omega arith)
  masks-at (w ∷ ws) long rest zero l =
      ap (take 64) (append_assoc (masks_of_lem r w) (all_masks r ws) rest) ∙ take_at (masks_of_lem r w) (all_masks r ws ++ rest) 64 (long 0 (omega arith))
  masks-at (w ∷ ws) long rest (suc i) l =
      let at : 64 * suc i ≡ length (masks_of_lem r w) + 64 * i = omega (arith, long 0 (omega arith)) in
      ap (λ (k : ℕ). take 64 (drop k ((masks_of_lem r w ++ all_masks r ws) ++ rest))) at
      ∙ ap (λ (m : List ℕ). take 64 (drop (length (masks_of_lem r w) + 64 * i) m)) (append_assoc (masks_of_lem r w) (all_masks r ws) rest)
      ∙ ap (take 64) (drop-append-add (masks_of_lem r w) (all_masks r ws ++ rest) (64 * i))
      ∙ masks-at ws (λ j k. long (suc j) (omega arith)) rest i (omega arith)

  all-long : (ws : List SheetWord) → Longs ws → length (all_masks r ws) ≡ 64 * length ws
  unfolding all_masks
  all-long [] long = refl
  all-long (w ∷ ws) long =
      length-append (masks_of_lem r w) (all_masks r ws) ∙ omega (arith, long 0 (omega arith), all-long ws (λ j k. long (suc j) (omega arith)))

-- ---- the cycles

module _ (s : ℕ) (ws : List SheetWord) (sized : (w : SheetWord) → Memᴰ w ws → Sized w) where
  tidy_of : (w : SheetWord) → Memᴰ w ws → fault_of s w ≡ 0 → Tidy (letters (lead_of w) (cycle_of w)) (tidy_lead (lead_of w) (cycle_of w)) (tidy_of_lem w)
  tidy_of w m e = tidied (lead_of w) (cycle_of w) (fine s w (sized w m) e).0.repeats

  tidy-cycles : TidyCycles s ws (cycles_after s [] ws)
  tidy-cycles =
      let C = counted s [] ws (λ i j h l e. omega (arith, l)) in
      record {
        once = C.once;
        all = λ w m e lead cycle T. Memᴰ.cast (tidy-unique (letters (lead_of w) (cycle_of w)) lead cycle (tidy_lead (lead_of w) (cycle_of w)) (tidy_of_lem w) T (tidy_of w m e)).1 (C.all w m e);
        only = λ cycle m. ⊎_elim (λ n. absurd (Memᴰ.not-nil n))
            (λ x. (x.0, tidy_lead (lead_of x.0) (cycle_of x.0), x.1, x.2, rw x.3 (tidy_of x.0 x.1 x.2))) (C.only cycle m);
      }

-- ---- a served call

module _ (r : Rule) (P : Passing r) (sheet answers masks answers' masks' : List ℕ) (v : Result Totals Refusal)
    (a : v ≡ totals (Ok tt) (length (words_of sheet)) (cycle_count r.s (words_of sheet)))
    (b : answers' ≡ after 0 (map (answer_of r) (words_of sheet)) answers) (c : masks' ≡ after 0 (all_masks r (words_of sheet)) masks) where
  pub sheet-meant : SheetServed r (words_of sheet) answers masks answers' masks' v
  unfolding after cycle_count
  sheet-meant =
      let ws = words_of sheet in
      let sized : (i : ℕ) → i < length ws → Sized (get_or ws i (lone 0)) = λ i l. sheet-sized sheet (get_or ws i (lone 0)) (mem-of ws i (lone 0) l) in
      let long : (i : ℕ) → i < length ws → length (masks_of_lem r (get_or ws i (lone 0))) ≡ 64 = λ i l. masks-long r (get_or ws i (lone 0)) (sized i l) in
      let A = drop (length (map (answer_of r) ws)) answers in let M = drop (length (all_masks r ws)) masks in
      record {
        cycles = cycles_after r.s [] ws;
        distinct = tidy-cycles r.s ws (sheet-sized sheet);
        answered = a;
        words = λ i l. rw (b, c, answers_at r ws A i l, masks-at r ws long M i l) (word-meant r (get_or ws i (lone 0)) (sized i l) P);
        answers_rest = rw b (drop_at (map (answer_of r) ws) A (length ws) (length-map ws (answer_of r)) ∙ ap (λ (n : ℕ). drop n answers) (length-map ws (answer_of r)));
        masks_rest = rw c (drop_at (all_masks r ws) M (64 * length ws) (all-long r ws long) ∙ ap (λ (n : ℕ). drop n masks) (all-long r ws long));
      }
