-- The two judges: on a table of demand 3, as every built table is, the judge on the table says yes exactly when the judge on the rule does.
use mathlib.Core.Path.{◌≡◌, refl, sym, ap, ◌∙◌}
use mathlib.Core.Logic.{◌↔◌, by_cases}
use mathlib.Core.List.{List}
use Prim.Native.Nat.{ℕ}
use native.Mathlib.Omega.{arith}
use native.Mathlib.Decide.{dec_lt}
use lib.ListN.{length}
use Rattle.std.specs.Prelude.{Bool, true, Result, Ok, Err, Option, Some, None, ⊤}
use Rattle.refusals.specs.declared.Refusal.{Refusal}
use Rattle.refusals.proofs.Rows.{refusal-passes}
use Rattle.theory.specs.Demand.{Demand3}
use Rattle.theory.specs.Macrostate.{holds_initial}
use Rattle.theory.specs.Plan.{AcceptsWord}
use Rattle.theory.specs.Rule.{Rule}
use Rattle.theory.specs.Run.{AcceptingRun}
use Rattle.theory.specs.Word.{WordOver, letters}
use Rattle.file_spec.specs.File.{rule_in}
use Rattle.word_rows.proofs.Checks.{word_over}
use Rattle.table_lent.specs.Lent.{Lent}
use Rattle.judge_spec.specs.Judge.{judge_row, Judged}
use Rattle.table_judge.specs.Tables.{judge_table_rows, judge_table_row, JudgedTable}
use Rattle.table_call.specs.Calls.{Answered}
use Rattle.table_call.specs.Starts.{Begins}
use Rattle.table_judge.proofs.Rows.{file-passed}
use Rattle.table_call.proofs.CallRows.{call_passes}

-- the definition leaves one answer
pub one_answer : (k : Result ⊤ Refusal) (begins : ℕ → Type 0) (a b : Result (Option ℕ) Refusal) → Answered k begins a → Answered k begins b → a ≡ b
one_answer (Ok u) B (Ok (Some m)) (Ok (Some n)) (x, l) (y, k) =
    by_cases (dec_lt m n) (λ h. absurd (k m h x)) (λ h. by_cases (dec_lt n m) (λ g. absurd (l n g y)) (λ g. let e : m ≡ n = omega arith in ap (λ (i : ℕ). Ok (Some i)) e))
one_answer (Ok u) B (Ok (Some m)) (Ok None) (x, l) k = absurd (k m x)
one_answer (Ok u) B (Ok (Some m)) (Err j) x k = absurd k
one_answer (Ok u) B (Ok None) (Ok (Some n)) l (y, k) = absurd (l n y)
one_answer (Ok u) B (Ok None) (Ok None) l k = refl
one_answer (Ok u) B (Ok None) (Err j) l k = absurd k
one_answer (Ok u) B (Err j) b l k = absurd l
one_answer (Err i) B a b l k = l ∙ sym k

module _ {r : Rule} {codes transitions lead cycle : List ℕ} (D : Demand3 r codes transitions) (W : WordOver r.s lead cycle) where
  -- yes exactly if the rule accepts
  yes-accepts : (a : Result (Option ℕ) Refusal) → Answered (Ok tt) (Begins (holds_initial r) codes transitions lead cycle) a → ((m : ℕ) × (a ≡ Ok (Some m))) → AcceptsWord r lead cycle
  yes-accepts a A (m, e) = let (x, f, y) = (rw e at A).0 in (D.exact lead cycle W).1 (x, y)

  accepts-yes : (a : Result (Option ℕ) Refusal) → Answered (Ok tt) (Begins (holds_initial r) codes transitions lead cycle) a → AcceptsWord r lead cycle → ((m : ℕ) × (a ≡ Ok (Some m)))
  accepts-yes (Ok (Some m)) A w = (m, refl)
  accepts-yes (Ok None) A w = let (x, y) = (D.exact lead cycle W).0 w in absurd (A (x 0) (x, refl, y))
  accepts-yes (Err k) A w = absurd A

-- the answers v on the rule and a on the table
pub record Agree (f lead cycle codes transitions : List ℕ) (v : Result Bool Refusal) (a : Result (Option ℕ) Refusal) : Type 0 where
  pub both : (v ≡ Ok true) ↔ ((m : ℕ) × (a ≡ Ok (Some m)))
  pub begins : (m : ℕ) → a ≡ Ok (Some m) → Begins (holds_initial (rule_in f)) codes transitions lead cycle m
  pub only : (m : ℕ) → a ≡ Ok (Some m) → (x : ℕ → ℕ) → AcceptingRun codes transitions (holds_initial (rule_in f)) (letters lead cycle) x → x 0 ≡ m

pub both-judges : (f lead cycle : List ℕ) (codes transitions : Lent) (masks filled scratch cleared : List ℕ) (v : Result Bool Refusal) (a : Result (Option ℕ) Refusal)
    → Judged f lead cycle masks filled v → judge_row f lead cycle (length masks) ≡ 0
    → JudgedTable f lead cycle codes transitions scratch cleared a → judge_table_row f lead cycle codes transitions (length scratch) ≡ 0
    → Demand3 (rule_in f) codes.numbers transitions.numbers
    → Agree f lead cycle codes.numbers transitions.numbers v a
unfolding judge_table_row
both-judges f lead cycle codes transitions masks filled scratch cleared v a J e T t D =
    let W : WordOver (rule_in f).s lead cycle = word_over (rule_in f).s lead cycle
    (call_passes (rule_in f).s lead cycle codes transitions (length scratch) (file-passed f lead cycle codes transitions (length scratch) t).1).word in
    let A : Answered (Ok tt) (Begins (holds_initial (rule_in f)) codes.numbers transitions.numbers lead cycle) a
    = rw (refusal-passes (judge_table_rows f lead cycle codes transitions (length scratch)) t) at T.answer in
    let y = (J.meant e).yes in
    record {
      both = (λ h. accepts-yes D W a A (y.0 h), λ h. y.1 (yes-accepts D W a A h));
      begins = λ m h. (rw h at A).0;
      -- its number is where the one accepting run begins
      only = λ m h x r. let (z, b, w) = (rw h at A).0 in D.unambiguous (letters lead cycle) x z r w 0 ∙ b;
    }
