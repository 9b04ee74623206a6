-- Laws of tidying on masks of eight states: containment as a conjunction, one clause of an entry more, one entry more.
use mathlib.Core.Path.{◌≡◌, refl, sym, ◌∙◌, ap, ap₂}
use mathlib.Core.Bool.{Bool, true, false, not}
use mathlib.Core.List.{List, ◌++◌}
use Prim.Native.Nat.{ℕ, suc, ◌+◌, ◌-◌, ◌≤◌, ◌<◌}
use native.Mathlib.Omega.{arith}
use native.Mathlib.Numerals.{add-one}
use lib.Dec.{eqb}
use lib.Bits.{bit_and}
use lib.ListN.{length, get_or, take, drop, set, drop_of_length-le, take-append-drop, length-take, length-set}
use lib.Seq.{take-suc-set, drop-set-lt, drop-drop}
use Rattle.sets.specs.Lists.{any_of}
use Rattle.sets.proofs.Bools.{bif}
use Rattle.sets.proofs.Walks.{drop-next}
use Rattle.rule_entries.proofs.Clauses.{inside-and}
use Rattle.rule_tidy_spec.specs.Tidy.{contains, properly_contains, drops, tidy_from}
use Rattle.rule_tidy_spec.proofs.Contains.{contains-refl, contains-antisym, properly-irrefl}
use Rattle.rule_tidy_spec.proofs.Minimal.{tidy-drop, tidy-keep}
use Rattle.rule_tidy.specs.Filled.{containing, filled, kept_with, Kept}

-- ---- one clause in another

-- two clauses: containment is proper
properly-other : (c d : ℕ) → c < 256 → d < 256 → (c ≡ d → ⊥) → contains 8 c d ≡ properly_contains 8 c d
unfolding properly_contains
properly-other c d k l n =
    bif (contains 8 c d) (λ t. bif (contains 8 d c) (λ v. absurd (n (contains-antisym 8 c d k l t v))) (λ v. rw (t, v))) (λ t. rw t)

pub containing-same : (properly : Bool) (c d : ℕ) → c ≡ d → not properly ≡ containing properly c d
containing-same true c d e = rw (← e) (sym (properly-irrefl 8 c))
containing-same false c d e = rw (← e) (sym (contains-refl 8 c))

pub containing-other : (properly : Bool) (c d : ℕ) → c < 256 → d < 256 → (c ≡ d → ⊥) → eqb (bit_and d c) d ≡ containing properly c d
containing-other true c d k l n = inside-and c d l ∙ properly-other c d k l n
containing-other false c d k l n = inside-and c d l

-- ---- one clause of an entry

pub drops-kept : (all kept : List ℕ) (c : ℕ) → any_of kept (contains 8 c) ≡ true → true ≡ drops 8 all kept c
drops-kept all kept c e = unfold drops in rw e

pub drops-rest : (all kept : List ℕ) (c : ℕ) → any_of kept (contains 8 c) ≡ false → any_of all (properly_contains 8 c) ≡ drops 8 all kept c
drops-rest all kept c e = unfold drops in rw e

-- a clause that is dropped leaves the slice as it was
pub kept-drop : (all old : List ℕ) (k c : ℕ) → drops 8 all (take k old) c ≡ true → Kept all old k c old k
unfolding kept_with
kept-drop all old k c e = record { fewest = omega arith; most = omega arith; long = refl; front = rw e; rest = refl }

-- one that is kept is put after the others
pub kept_put : (all old : List ℕ) (k c : ℕ) → k < length old → drops 8 all (take k old) c ≡ false → Kept all old k c (set old k c) (k + 1)
unfolding kept_with
kept_put all old k c l e = record {
  fewest = omega arith;
  most = omega arith;
  long = length-set old k c;
  front = rw (e, add-one k) (take-suc-set old k c l);
  rest = rw (add-one k) (drop-set-lt (suc k) old k c (omega arith));
}

-- the walk over an entry: what stays of the clauses from place i on
pub tidy-next : (all kept : List ℕ) (i : ℕ) → i < length all → tidy_from 8 all kept (drop i all) ≡ tidy_from 8 all (kept_with all kept (get_or all i 0)) (drop (i + 1) all)
unfolding kept_with
tidy-next all kept i l =
    let c = get_or all i 0 in
    ap (tidy_from 8 all kept) (drop-next all i l) ∙ bif (drops 8 all kept c)
    (λ t. tidy-drop 8 all kept c (drop (i + 1) all) t ∙ rw t)
    (λ t. tidy-keep 8 all kept c (drop (i + 1) all) t ∙ rw t)

pub tidy-end : (all kept : List ℕ) (i : ℕ) → length all ≤ i → tidy_from 8 all kept (drop i all) ≡ kept
tidy-end all kept i l = unfold tidy_from in rw (drop_of_length-le all {i = i} l)

-- lists that agree from place k on
pub drop-later : (xs ys : List ℕ) (k m : ℕ) → k ≤ m → drop k xs ≡ drop k ys → drop m xs ≡ drop m ys
drop-later xs ys k m l e =
    let d : k + (m - k) ≡ m = omega arith in
    ap (λ (j : ℕ). drop j xs) (sym d) ∙ sym (drop-drop (m - k) k xs) ∙ ap (drop (m - k)) e ∙ drop-drop (m - k) k ys ∙ ap (λ (j : ℕ). drop j ys) d

-- a slice by its first k elements, which are the front, and the others, which are as they were
pub filled-by : (front new old : List ℕ) (k : ℕ) → k ≤ length new → take k new ≡ front → drop k new ≡ drop k old → (k ≡ length front) × (new ≡ filled front old)
filled-by front new old k l e h =
    let n : k ≡ length front = (let a = ap length e in omega (arith, length-take k new)) in
    (n, sym (take-append-drop k new) ∙ ap₂ (λ (x y : List ℕ). x ++ y) e (h ∙ ap (λ (j : ℕ). drop j old) n))
