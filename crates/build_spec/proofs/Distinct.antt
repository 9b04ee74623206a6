-- Lists of different numbers.
use mathlib.Core.Path.{◌≡◌, refl, sym}
use mathlib.Core.List.Memᴰ
use mathlib.Core.List.{List, [], ◌∷◌, map, Memᴰ}
use Prim.Native.Nat.{ℕ, suc, ◌<◌}
use native.Mathlib.Omega.{arith}
use lib.ListN.{length, get_or}
use Rattle.sets.specs.Lists.{none}
use Rattle.sets.proofs.Lists.{place_of}
use Rattle.slice_sort.specs.Order.{Distinct}
use Rattle.slice_sort.proofs.Distinct.{asc-distinct, cons-distinct, distinct_tail, distinct_head}

-- no two places hold the same number
pub distinct-at : (l : List ℕ) → ((i j : ℕ) → i < j → j < length l → get_or l i 0 ≡ get_or l j 0 → ⊥) → Distinct l
distinct-at [] h = asc-distinct [] none
distinct-at (x ∷ l) h = cons-distinct x l (distinct-at l (λ i j a b e. h (suc i) (suc j) (omega arith) (omega arith) e))
    (λ m. let p = place_of l x m in h 0 (suc p.0) (omega arith) (omega (arith, p.1)) (sym p.2))

-- through a function that tells its members apart
pub distinct-through : (f : ℕ → ℕ) (l : List ℕ) → Distinct l → ((x y : ℕ) → Memᴰ x l → Memᴰ y l → f x ≡ f y → x ≡ y) → Distinct (map f l)
distinct-through f [] o h = asc-distinct [] none
distinct-through f (x ∷ l) o h =
    cons-distinct (f x) (map f l) (distinct-through f l (distinct_tail x l o) (λ y z k j. h y z (Memᴰ.tail k) (Memᴰ.tail j)))
    (λ m. let b = Memᴰ.of_map f l m in let e = h b.0 x (Memᴰ.tail b.1) (Memᴰ.head refl) b.2 in distinct_head x l o (rw e at b.1))
