-- What the judge answers and writes is what plans say.
use mathlib.Core.Path.{◌≡◌, refl, sym, ◌∙◌, ap}
use mathlib.Core.Logic.{◌↔◌}
use mathlib.Core.Bool.{Bool, true, false, true≢false}
use mathlib.Core.List.{List, ◌∷◌, [], ◌++◌}
use Prim.Native.Nat.{ℕ, zero, suc, ◌<◌}
use native.Mathlib.Omega.{arith}
use lib.ListN.{length, get_or, drop, get_or-append}
use Rattle.sets.specs.Masks.{bit}
use Rattle.sets.proofs.Bools.{bif}
use Rattle.theory.specs.Rule.{Rule}
use Rattle.theory.specs.Word.{places, WordOver}
use Rattle.theory.specs.Passing.{Passing}
use Rattle.theory.specs.Plan.{AcceptsWord}
use Rattle.theory.specs.Truth.{truth_masks}
use Rattle.theory_laws.proofs.Truth.{truth-length, truth-bit, truth-accepts}
use Rattle.file_spec.specs.File.{rule_in}
use Rattle.file_spec.specs.Rows.{file_rows_lem, file_row}
use Rattle.std.specs.Prelude.{Result, Ok, Err, ⊤}
use Rattle.refusals.specs.Rows.{number_of, first_refusal}
use Rattle.refusals.specs.declared.Refusal.{Refusal}
use Rattle.refusals.proofs.Rows.{number-above, row-passes, refusal-passes, refused-row, refused-some}
use Rattle.file_read.proofs.FileRows.{accepted-passing}
use Rattle.word_rows.proofs.Checks.{word_over}
use Rattle.judge_spec.specs.Judge.{judge_call_rows, judge_call_row, judge_rows, judge_row, verdict, holds_start, judge_of, after, Meant, JudgeCalled, Judged}
use Rattle.judge_spec.proofs.Rows.{call_passes, file-refuses, file-passes, row-passed}

-- ---- examples: two masks at the start of a slice of three bytes, and a refusal

two-masks : after 0 (1 ∷ 3 ∷ []) (9 ∷ 8 ∷ 7 ∷ []) ≡ 1 ∷ 3 ∷ 7 ∷ []
unfolding after
two-masks = refl

no-masks : after 14 (1 ∷ 3 ∷ []) (9 ∷ 8 ∷ 7 ∷ []) ≡ 9 ∷ 8 ∷ 7 ∷ []
unfolding after
no-masks = refl

-- an answer is yes where the test holds, no where it does not
ok-same : {a b : Bool} → ◌≡◌ {A = Result Bool Refusal} (Ok a) (Ok b) → a ≡ b
ok-same e = cc

-- a refusal leaves the slice
pub leaves : (k : ℕ) → 0 < k → (masks old : List ℕ) → old ≡ after k masks old
unfolding after
leaves zero l masks old = absurd (omega arith)
leaves (suc k) l masks old = refl

module _ (r : Rule) (P : Passing r) (lead cycle : List ℕ) (W : WordOver r.s lead cycle) where
  start-iff : (holds_start r lead cycle ≡ true) ↔ AcceptsWord r lead cycle
  start-iff = let h = W.repeats in truth-accepts r P lead cycle h 0 r.initial (omega arith) P.formed.initial_state

  pub meaning : (rest : List ℕ) → Meant r lead cycle (truth_masks r lead cycle ++ rest) (Ok (holds_start r lead cycle))
  meaning rest =
      let b = holds_start r lead cycle in
      let s = start-iff in
      record {
        pairs = λ q p l k.
            let t = truth-bit r lead cycle P W q p l k in
            let e : get_or (truth_masks r lead cycle ++ rest) p 0 ≡ get_or (truth_masks r lead cycle) p 0 =
            get_or-append (truth_masks r lead cycle) rest 0 p (let x = truth-length r lead cycle in omega arith) in
            rw e t;
        yes = (λ e. s.0 (ok-same e), λ a. ap Ok (s.1 a));
        no = (λ e a. true≢false (sym (s.1 a) ∙ ok-same e), λ f. ap Ok (bif b (λ t. absurd (f (s.0 t))) (λ t. t)));
      }

-- a served call
pub called-meant : (r : Rule) → Passing r → (lead cycle old new : List ℕ) (v : Result Bool Refusal) → JudgeCalled r lead cycle old new v → judge_call_row r lead cycle (length old) ≡ 0 → Meant r lead cycle new v
unfolding after judge_call_row
called-meant r P lead cycle old new v c e =
    let p = call_passes r lead cycle (length old) e in
    let a : v ≡ Ok (holds_start r lead cycle) = c.answer ∙ ap (λ (k : Result ⊤ Refusal). verdict k (holds_start r lead cycle)) (refusal-passes (judge_call_rows r lead cycle (length old)) e) in
    let w : new ≡ truth_masks r lead cycle ++ drop (length (truth_masks r lead cycle)) old = c.written ∙ ap (λ (k : ℕ). after k (truth_masks r lead cycle) old) e in
    rw (a, w) (meaning r P lead cycle (word_over r.s lead cycle p.word) (drop (length (truth_masks r lead cycle)) old))

module _ (f lead cycle old new : List ℕ) where
  -- a file that is refused
  pub judged-refused : (k : Refusal) → first_refusal (file_rows_lem f) ≡ Err k → Judged f lead cycle old old (Err k)
  unfolding judge_of judge_row
  judged-refused k e =
      let j = file-refuses f lead cycle (length old) k e in
      let n = refused-row (judge_rows f lead cycle (length old)) k j in
      record {
        answer = rw j;
        written = rw n (leaves (number_of k) (number-above k) (truth_masks (rule_in f) lead cycle) old);
        meant = λ z. absurd (refused-some (judge_rows f lead cycle (length old)) k j z);
      }

  -- a file that is accepted
  pub judged-called : (v : Result Bool Refusal) → file_row f ≡ 0 → JudgeCalled (rule_in f) lead cycle old new v → Judged f lead cycle old new v
  unfolding judge_of
  judged-called v e c =
      let i = file-passes f lead cycle (length old) e in
      let j = row-passed f lead cycle (length old) e in
      record {
        answer = rw i c.answer;
        written = rw j c.written;
        meant = λ z. called-meant (rule_in f) (accepted-passing f e) lead cycle old new v c (sym j ∙ z);
      }

-- ---- a rule that is read
module _ (r : Rule) (lead cycle old : List ℕ) where
  pub called-refused : (k : Refusal) → first_refusal (judge_call_rows r lead cycle (length old)) ≡ Err k → JudgeCalled r lead cycle old old (Err k)
  unfolding judge_call_row
  called-refused k e =
      let n = refused-row (judge_call_rows r lead cycle (length old)) k e in
      record { answer = rw e; written = rw n (leaves (number_of k) (number-above k) (truth_masks r lead cycle) old) }

  -- the masks are written; b tells whether the first holds the initial state
  pub called-served : first_refusal (judge_call_rows r lead cycle (length old)) ≡ Ok tt → (new : List ℕ) → new ≡ truth_masks r lead cycle ++ drop (places lead cycle) old → 0 < length cycle
      → (b : Bool) → bit (get_or new 0 0) r.initial ≡ b → JudgeCalled r lead cycle old new (Ok b)
  unfolding after judge_call_row
  called-served j new w h b t =
      let first : get_or new 0 0 ≡ get_or (truth_masks r lead cycle) 0 0
      = ap (λ (x : List ℕ). get_or x 0 0) w ∙ get_or-append (truth_masks r lead cycle) (drop (places lead cycle) old) 0 0 (let x = truth-length r lead cycle in omega arith) in
      let held : holds_start r lead cycle ≡ b = ap (λ (x : ℕ). bit x r.initial) (sym first) ∙ t in
      let n = row-passes (judge_call_rows r lead cycle (length old)) j in
      record { answer = rw (j, held); written = rw n (w ∙ ap (λ (n : ℕ). truth_masks r lead cycle ++ drop n old) (sym (truth-length r lead cycle))) }
