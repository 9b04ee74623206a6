-- Marks by the codes of the nodes.
use mathlib.Core.Path.{◌≡◌, refl, sym, ap, ◌∙◌}
use mathlib.Core.Bool.{true, false, cond}
use mathlib.Core.Logic.{by_cases}
use mathlib.Core.List.{List}
use Prim.Native.Nat.{ℕ, ◌+◌, ◌%◌, ◌<◌, ◌≤◌}
use native.Mathlib.Omega.{arith}
use native.Mathlib.Decide.{dec_lt, ℕ_discrete}
use lib.ListN.{length, get_or, set, length-set, get_or-eq_default}
use lib.Dec.{eqb}
use lib.Seq.{set-get_or}
use Rattle.graph_walks.proofs.Sums.{split-set}
use borrow.Author.Tests.{eq-eqb, ne_eqb}
use Rattle.sets.proofs.Bools.{bif}
use Rattle.theory.specs.Code.{classes_in}
use Rattle.theory.specs.Macrostate.{is_accepting_lem}
use Rattle.table_runs.specs.Tracks.{flag_of_lem, flagged_at}

-- accepting macrostates are flagged 2
flags : flag_of_lem 257 ≡ 2
unfolding flag_of_lem is_accepting_lem classes_in
flags = refl

flags-1 : flag_of_lem 17592186044673 ≡ 1
unfolding flag_of_lem is_accepting_lem classes_in
flags-1 = refl

pub flag-accepting : (c : ℕ) → is_accepting_lem c ≡ true → flag_of_lem c ≡ 2
unfolding flag_of_lem
flag-accepting c e = rw e refl

pub flag-other : (c : ℕ) → is_accepting_lem c ≡ false → flag_of_lem c ≡ 1
unfolding flag_of_lem
flag-other c e = rw e refl

pub flag-low : (c : ℕ) → (0 < flag_of_lem c) × (flag_of_lem c ≤ 2)
flag-low c = bif (is_accepting_lem c) (λ t. rw (flag-accepting c t) (omega arith, omega arith)) (λ t. rw (flag-other c t) (omega arith, omega arith))

pub accepting-flag : (c : ℕ) → 1 < flag_of_lem c → is_accepting_lem c ≡ true
accepting-flag c l = bif (is_accepting_lem c) (λ t. t) (λ t. let k = flag-other c t in absurd (omega arith))

pub flagged-out : (codes marks : List ℕ) (x : ℕ) → get_or marks x 0 ≡ 0 → flagged_at codes x marks ≡ marks
unfolding flagged_at
flagged-out codes marks x e = rw (eq-eqb (get_or marks x 0) 0 e)

pub flagged-in : (codes marks : List ℕ) (x : ℕ) → (get_or marks x 0 ≡ 0 → ⊥) → flagged_at codes x marks ≡ set marks x (flag_of_lem (get_or codes (x % length codes) 0))
unfolding flagged_at
flagged-in codes marks x n = rw (ne_eqb (get_or marks x 0) 0 n)

-- ---- a loop that gives each node j that is in the mark k j

module _ (old : List ℕ) (k : ℕ → ℕ) where
  -- the nodes before x have theirs
  pub record MarkedTo (x : ℕ) (ms : List ℕ) : Type 0 where
    pub long : length ms ≡ length old
    pub before : (j : ℕ) → j < x → get_or ms j 0 ≡ cond (eqb (get_or old j 0) 0) 0 (k j)
    pub rest : (j : ℕ) → x ≤ j → get_or ms j 0 ≡ get_or old j 0

module _ {old : List ℕ} {k : ℕ → ℕ} where
  pub mark-turn : {x : ℕ} {ms : List ℕ} (v : ℕ) → x < length ms → v ≡ cond (eqb (get_or ms x 0) 0) 0 (k x) → MarkedTo old k x ms → MarkedTo old k (x + 1) (set ms x v)
  mark-turn {x} {ms} v l e r = record {
    long = length-set ms x v ∙ r.long;
    before = split-set (λ j w. j < x + 1 → w ≡ cond (eqb (get_or old j 0) 0) 0 (k j)) ms x v l (λ h. rw (sym (r.rest x (omega arith))) e) (λ j n h. r.before j (omega arith));
    rest = split-set (λ j w. x + 1 ≤ j → w ≡ get_or old j 0) ms x v l (λ h. absurd (omega arith)) (λ j n h. r.rest j (omega arith));
  }

  pub all-marked : {x : ℕ} {ms : List ℕ} → length ms ≤ x → MarkedTo old k x ms → (j : ℕ) → get_or ms j 0 ≡ cond (eqb (get_or old j 0) 0) 0 (k j)
  all-marked {x} {ms} l r j =
      by_cases (dec_lt j x) (r.before j)
      (λ h. get_or-eq_default ms 0 {n = j} (omega arith) ∙ rw (get_or-eq_default old 0 {n = j} (omega (arith, r.long))))

-- ---- the marks of the codes

pub flagged-set : (codes marks : List ℕ) (x : ℕ) → flagged_at codes x marks ≡ set marks x (cond (eqb (get_or marks x 0) 0) 0 (flag_of_lem (get_or codes (x % length codes) 0)))
unfolding flagged_at
flagged-set codes marks x =
    by_cases (ℕ_discrete (get_or marks x 0) 0)
    (λ e. rw (eq-eqb (get_or marks x 0) 0 e) (sym (ap (set marks x) (sym e) ∙ set-get_or marks x 0)))
    (λ n. rw (ne_eqb (get_or marks x 0) 0 n))
