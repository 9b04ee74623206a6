-- Every code with small enough parts is among the candidates.
use mathlib.Core.Path.{◌≡◌, refl, sym, ◌∙◌, ap, ap₂}
use mathlib.Core.Bool.{Bool, true, cond}
use mathlib.Core.List.{Memᴰ}
use Prim.Native.Nat.{ℕ, zero, suc, ◌+◌, ◌*◌, ◌^◌, ◌≤◌, ◌<◌}
use native.Mathlib.Omega.{arith}
use lib.Dec.{eqb}
use borrow.Author.Tests.{eqb-true, lt-ltb}
use Rattle.sets.specs.Digits.{num}
use Rattle.sets.specs.Lists.{tabulate}
use Rattle.sets.specs.Masks.{mask}
use Rattle.sets.proofs.Digits.{num-ext, num-trim}
use Rattle.sets.proofs.Lists.{tabulate-0, flat_in}
use Rattle.sets.proofs.Masks.{mask_lt, mask-trim}
use Rattle.theory.specs.Automaton.{Automaton}
use Rattle.theory.specs.Code.{set_in, rank_in, component_in, classes_in, fields, pack, well_coded}
use Rattle.theory.specs.TableComputed.{digitals, candidates}
use Rattle.theory_laws.proofs.Goes.{set-trim, rank-trim}

digitals-in : (b m : ℕ) (f : ℕ → ℕ) → ((j : ℕ) → j < m → f j < b) → Memᴰ (num 16 m f) (digitals b m)
unfolding digitals num
digitals-in b zero f h = Memᴰ.head refl
digitals-in b (suc m) f h =
    flat_in (digitals b m) (λ y. tabulate b (λ d. d * 16 ^ m + y) 0) (num 16 m f) (f m * 16 ^ m + num 16 m f)
    (digitals-in b m f (λ j l. h j (omega arith))) (tabulate-0 b (λ d. d * 16 ^ m + num 16 m f) (f m) (h m (omega arith)))

-- ---- candidates

module _ (A : Automaton) (small : A.n ≤ 8) (c : ℕ) (coded : well_coded A c ≡ true) where
  -- the code by its parts
  made : c ≡ (classes_in c * 16 ^ 9 + (component_in c * 16 ^ 8 + num 16 A.n (rank_in A c))) * 2 ^ 8 + mask A.n (set_in A c)
  unfolding well_coded pack num fields
  made =
      sym (eqb-true _ _ coded)
      ∙ ap₂ (λ (x y : ℕ). (classes_in c * 16 ^ 9 + (component_in c * 16 ^ 8 + x)) * 2 ^ 8 + y)
      (num-ext 16 (omega arith) 8 (fields (rank_in A c) (component_in c) (classes_in c)) (rank_in A c)
      (λ j l. ap (λ (b : Bool). cond b (rank_in A c j) (cond (eqb j 8) (component_in c) (classes_in c))) (lt-ltb j 8 l))
      ∙ num-trim 16 8 A.n (rank_in A c) small (λ j l m. rank-trim A c j l))
      (mask-trim 8 A.n (set_in A c) small (λ j l m. set-trim A c j l))

  pub candidate : ((q : ℕ) → q < A.n → rank_in A c q ≤ A.n) → component_in c < A.components → classes_in c ≤ A.n → Memᴰ c (candidates A)
  unfolding candidates
  candidate hr hK hk =
      rw made
      (flat_in (digitals (suc A.n) A.n) _ (num 16 A.n (rank_in A c)) _ (digitals-in (suc A.n) A.n (rank_in A c) (λ j l. let h = hr j l in omega arith))
      (flat_in (tabulate (2 ^ A.n) (λ x. x) 0) _ (mask A.n (set_in A c)) _ (tabulate-0 (2 ^ A.n) (λ x. x) (mask A.n (set_in A c)) (mask_lt A.n (set_in A c)))
      (flat_in (tabulate A.components (λ x. x) 0) _ (component_in c) _ (tabulate-0 A.components (λ x. x) (component_in c) hK)
      (tabulate-0 (suc A.n) (λ x. (x * 16 ^ 9 + (component_in c * 16 ^ 8 + num 16 A.n (rank_in A c))) * 2 ^ 8 + mask A.n (set_in A c)) (classes_in c) (omega arith)))))
