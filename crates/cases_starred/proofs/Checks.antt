-- The checks of a case, computed from the definitions; a case that passes them meets the claim.
use mathlib.Core.Path.{◌≡◌, refl}
use mathlib.Core.Logic.{◌↔◌, ⊎_elim}
use mathlib.Core.Bool.{Bool, true, false, ◌&&◌, beq, false≢true}
use mathlib.Core.List.Memᴰ
use mathlib.Core.List.{List, [], ◌∷◌, Memᴰ}
use Prim.Native.Nat.{ℕ, ◌<◌}
use native.Mathlib.Omega.{arith}
use lib.Dec.{eqb, leb}
use lib.ListN.{length, get_or}
use borrow.Author.Tests.{eqb-true, leb-true}
use Rattle.sets.specs.Masks.{bit}
use Rattle.sets.proofs.Bits.{bit_below}
use Rattle.sets.proofs.Bools.{and_l, and_r, beq-true}
use Rattle.theory.specs.Rule.{Rule}
use Rattle.theory.specs.Passing.{Passing}
use Rattle.theory.specs.Word.{places, WordOver, letters}
use Rattle.theory.specs.Plan.{AcceptsFrom, AcceptsWord}
use Rattle.theory.specs.Macrostate.{holds_initial, is_initial_lem, is_accepting_lem}
use Rattle.theory.specs.TableComputed.{macrostates, transitions}
use Rattle.theory.specs.Truth.{truth_masks}
use Rattle.theory_laws.proofs.Tables.{reachable-iff, macrostates-ascending, transitions-ascending, transition-iff}
use Rattle.theory_laws.proofs.Truth.{truth-length, truth-lt, truth-accepts}
use Rattle.theory_laws.proofs.Demand.{demand3}
use Rattle.file_spec.specs.File.{rule_in}
use Rattle.file_spec.specs.Rows.{file_row}
use Rattle.file_read.proofs.FileRows.{accepted-passing}
use Rattle.word_rows.specs.Words.{word_row_lem}
use Rattle.slice_search.specs.Same.{same_lists}
use Rattle.word_rows.proofs.Checks.{word_over}
use Rattle.slice_search.proofs.Same.{lists-equal}
use Rattle.cases_starred.specs.Claim.{codes_of, Builds, Said, Judges, through, Begins, Starts, Meets, Claim}
use Rattle.cases_starred.specs.Case.{Line, Start, unsaid, from, Expected, builds, judges, Case}
use Rattle.cases_starred.proofs.Lasso.{conj, conj-at, loops, loop-accepts}

-- two lists of numbers are equal
abbrev equal : List ℕ → List ℕ → Bool
equal = same_lists

-- the marks of a line are read off its code
abbrev marks : Rule → Line → Bool
marks r l = beq l.initial (is_initial_lem r l.code) && beq l.accepting (is_accepting_lem l.code)

unfoldable pub all_marks : Rule → List Line → Bool
all_marks r [] = true
all_marks r (l ∷ ls) = marks r l && all_marks r ls

-- ---- the checks

abbrev build_tests : Rule → ℕ → ℕ → List Line → List ℕ → List Bool
build_tests r codeCount moveCount lines moves =
    equal (macrostates r) (codes_of lines)
    ∷ equal (transitions r) moves
    ∷ eqb (length (codes_of lines)) codeCount
    ∷ eqb (length moves) moveCount
    ∷ all_marks r lines
    ∷ leb (length (codes_of lines)) 65536
    ∷ []

abbrev judge_tests : Rule → List ℕ → List ℕ → Bool → List ℕ → List Bool
judge_tests r lead cycle accepted masks =
    eqb (word_row_lem r.s lead cycle) 0 ∷ equal (truth_masks r lead cycle) masks ∷ beq accepted (bit (get_or masks 0 0) r.initial) ∷ []

abbrev run_tests : Rule → List ℕ → List ℕ → ℕ → ℕ → List ℕ → List ℕ → List Bool
run_tests r lead cycle number code first loop =
    eqb (through first loop 0) number
    ∷ eqb (get_or (macrostates r) number 0) code
    ∷ loops (macrostates r) (transitions r) (holds_initial r) lead cycle first loop
    ∷ leb (length (macrostates r)) 65536
    ∷ []

unfoldable pub start_passes : Rule → List ℕ → List ℕ → Start → Bool
start_passes r lead cycle unsaid = true
start_passes r lead cycle (from number code first loop) = conj (run_tests r lead cycle number code first loop)

unfoldable pub passes : Rule → Expected → Bool
passes r (builds codeCount moveCount lines moves) = conj (build_tests r codeCount moveCount lines moves)
passes r (judges lead cycle accepted masks start) = conj (judge_tests r lead cycle accepted masks) && start_passes r lead cycle start

unfoldable pub case_passes : Case → Bool
case_passes c = eqb (file_row c.file) 0 && passes (rule_in c.file) c.expected

-- ---- they give the claim

said : (b : Bool) {A : Type 0} → (b ≡ true) ↔ A → Said b A
said true h = h.0 refl
said false h = λ a. false≢true (h.1 a)

marked : (r : Rule) (ls : List Line) → all_marks r ls ≡ true → (l : Line) → Memᴰ l ls
    → (l.initial ≡ is_initial_lem r l.code) × (l.accepting ≡ is_accepting_lem l.code)
unfolding all_marks
marked r [] e l m = absurd (Memᴰ.not-nil m)
marked r (k ∷ ls) e l m =
    let told = and_l (marks r k) (all_marks r ls) e in
    ⊎_elim
    (λ h. rw h (beq-true _ _ (and_l _ (beq k.accepting (is_accepting_lem k.code)) told), beq-true _ _ (and_r (beq k.initial (is_initial_lem r k.code)) _ told)))
    (λ h. marked r ls (and_r (marks r k) (all_marks r ls) e) l h)
    (Memᴰ.cases_cons m)

module _ (r : Rule) (P : Passing r) where
  builds-so : (codeCount moveCount : ℕ) (lines : List Line) (moves : List ℕ) → conj (build_tests r codeCount moveCount lines moves) ≡ true → Builds r codeCount moveCount lines moves
  builds-so codeCount moveCount lines moves e =
      let test = conj-at (build_tests r codeCount moveCount lines moves) e in
      let coded : macrostates r ≡ codes_of lines = lists-equal _ _ (test 0) in
      let moved : transitions r ≡ moves = lists-equal _ _ (test 1) in
      record {
        codes_counted = eqb-true _ _ (test 2);
        moves_counted = eqb-true _ _ (test 3);
        codes_ascend = rw coded at (macrostates-ascending r P (holds_initial r));
        codes_reachable = rw coded at (reachable-iff r P (holds_initial r));
        initial_marked = λ l m. (marked r lines (test 4) l m).0;
        accepting_marked = λ l m. (marked r lines (test 4) l m).1;
        moves_ascend = rw moved at (transitions-ascending r P (holds_initial r));
        moves_there = rw (coded, moved) at (transition-iff r P (holds_initial r) (rw coded (leb-true _ _ (test 5))));
      }

  pairs-so : (lead cycle : List ℕ) → WordOver r.s lead cycle → (q p : ℕ) → p < places lead cycle → (bit (get_or (truth_masks r lead cycle) p 0) q ≡ true) ↔ ((q < r.n) × AcceptsFrom r lead cycle q p)
  pairs-so lead cycle W q p l = (
    λ t. let b = bit_below r.n _ q (truth-lt r lead cycle p) t in (b, (truth-accepts r P lead cycle W.repeats p q l b).0 t),
    λ a. (truth-accepts r P lead cycle W.repeats p q l a.0).1 a.1,
  )

  judges-so : (lead cycle : List ℕ) (accepted : Bool) (masks : List ℕ) → conj (judge_tests r lead cycle accepted masks) ≡ true → Judges r lead cycle accepted masks
  judges-so lead cycle accepted masks e =
      let test = conj-at (judge_tests r lead cycle accepted masks) e in
      let word : word_row_lem r.s lead cycle ≡ 0 = eqb-true _ _ (test 0) in
      let W = word_over r.s lead cycle word in
      let m : truth_masks r lead cycle ≡ masks = lists-equal _ _ (test 1) in
      let y : accepted ≡ bit (get_or masks 0 0) r.initial = beq-true _ _ (test 2) in
      let s : (bit (get_or masks 0 0) r.initial ≡ true) ↔ AcceptsWord r lead cycle = rw m at (truth-accepts r P lead cycle W.repeats 0 r.initial (omega arith) P.formed.initial_state) in
      record {
        word_served = word;
        verdict = said accepted (rw y s);
        masks_counted = rw m at (truth-length r lead cycle);
        pairs = rw m at (pairs-so lead cycle W);
      }

  begins-so : (lead cycle : List ℕ) (number code : ℕ) (first loop : List ℕ) → conj (run_tests r lead cycle number code first loop) ≡ true → Begins r lead cycle number code first loop
  begins-so lead cycle number code first loop e =
      let test = conj-at (run_tests r lead cycle number code first loop) e in
      let R = loop-accepts (macrostates r) (transitions r) (holds_initial r) lead cycle first loop (test 2) in
      record {
        begins = eqb-true _ _ (test 0);
        coded = eqb-true _ _ (test 1);
        accepts = R;
        only = λ x X. (demand3 r P (leb-true _ _ (test 3))).unambiguous (letters lead cycle) x (through first loop) X R;
      }

  starts-so : (lead cycle : List ℕ) (start : Start) → start_passes r lead cycle start ≡ true → Starts r lead cycle start
  unfolding start_passes
  starts-so lead cycle unsaid e = tt
  starts-so lead cycle (from number code first loop) e = begins-so lead cycle number code first loop e

  meets : (x : Expected) → passes r x ≡ true → Meets r x
  unfolding passes
  meets (builds codeCount moveCount lines moves) e = builds-so codeCount moveCount lines moves e
  meets (judges lead cycle accepted masks start) e =
      (judges-so lead cycle accepted masks (and_l _ (start_passes r lead cycle start) e), starts-so lead cycle start (and_r (conj (judge_tests r lead cycle accepted masks)) _ e))

pub claim : (c : Case) → case_passes c ≡ true → Claim c
unfolding case_passes
claim c e =
    let f : file_row c.file ≡ 0 = eqb-true _ _ (and_l (eqb (file_row c.file) 0) (passes (rule_in c.file) c.expected) e) in
    record { served = f; meets = meets (rule_in c.file) (accepted-passing c.file f) c.expected (and_r (eqb (file_row c.file) 0) (passes (rule_in c.file) c.expected) e) }
