-- Laws of tables of eight masks.
use mathlib.Core.Path.{◌≡◌, refl, sym, ◌∙◌}
use mathlib.Core.Bool.{cond}
use mathlib.Core.Logic.{by_cases}
use Prim.Native.Nat.{ℕ, ◌+◌, ◌<◌, ◌≤◌}
use native.Mathlib.Omega.{arith}
use native.Mathlib.Nat.{zero-add}
use native.Mathlib.Decide.{dec_lt, ℕ_discrete}
use lib.Dec.{ltb}
use lib.ListN.{length, get_or, set, replicate, length-set}
use lib.Seq.{ext_get_or, get_or-set_same, get_or-set_other}
use borrow.Author.Tests.{lt-ltb, le-ltb}
use Rattle.sets.specs.Lists.{tabulate}
use Rattle.rule_reach.specs.Tables.{table}
use Rattle.sets.proofs.Lists.{tabulate-at, length-tabulate}

pub table-length : (n : ℕ) (f : ℕ → ℕ) → length (table n f) ≡ 8
table-length n f = unfold table in length-tabulate 8 (λ q. cond (ltb q n) (f q) 0) 0

at : (n : ℕ) (f : ℕ → ℕ) (q : ℕ) → q < 8 → get_or (table n f) q 0 ≡ cond (ltb q n) (f q) 0
at n f q l = unfold table in tabulate-at 8 (λ q. cond (ltb q n) (f q) 0) 0 q l ∙ rw zero-add

pub table_at : (n : ℕ) (f : ℕ → ℕ) (q : ℕ) → q < n → q < 8 → get_or (table n f) q 0 ≡ f q
table_at n f q h l = at n f q l ∙ rw (lt-ltb q n h)

pub table-out : (n : ℕ) (f : ℕ → ℕ) (q : ℕ) → n ≤ q → q < 8 → get_or (table n f) q 0 ≡ 0
table-out n f q h l = at n f q l ∙ rw (le-ltb q n h)

pub table_none : (f : ℕ → ℕ) → replicate 8 0 ≡ table 0 f
table_none f = unfold table tabulate in refl

-- one element more
pub table-set : (n : ℕ) (f : ℕ → ℕ) (v : ℕ) → n < 8 → v ≡ f n → set (table n f) n v ≡ table (n + 1) f
table-set n f v l e =
    ext_get_or 0 (set (table n f) n v) (table (n + 1) f)
    (length-set (table n f) n v ∙ table-length n f ∙ sym (table-length (n + 1) f))
    (λ i h. let k : i < 8 = omega (arith, length-set (table n f) n v, table-length n f) in
    by_cases (ℕ_discrete i n)
    (λ x. rw x (get_or-set_same (table n f) n v 0 (rw (table-length n f) l) ∙ e ∙ sym (table_at (n + 1) f n (omega arith) l)))
    (λ x. get_or-set_other (table n f) n i v 0 x ∙ by_cases (dec_lt i n)
    (λ y. table_at n f i y k ∙ sym (table_at (n + 1) f i (omega arith) k))
    (λ y. table-out n f i (omega arith) k ∙ sym (table-out (n + 1) f i (omega arith) k))))
