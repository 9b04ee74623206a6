-- The keys of a chained list: each once, and those that it lists.
use mathlib.Core.Path.{◌≡◌, ap, sym, ◌∙◌}
use mathlib.Core.List.{List, Memᴰ}
use Prim.Native.Nat.{ℕ, ◌%◌, ◌^◌, ◌≤◌, ◌<◌}
use native.Mathlib.Omega.{arith}
use lib.ListN.{length, get_or, take, length-map, get_or-map}
use lib.Seq.{length-take-le, get_or-take}
use Rattle.sets.proofs.Lists.{place_of, mem-at}
use Rattle.slice_sort.specs.Order.{Distinct}
use Rattle.build_spec.specs.Chains.{key_at, Lists}
use Rattle.build_spec.proofs.Distinct.{distinct-at}
use Rattle.build_closure.specs.Closure.{keys_of}

module _ (m : ℕ) (ys : List ℕ) (fits : m ≤ length ys) where
  pub keys-long : length (keys_of m ys) ≡ m
  keys-long = length-map (take m ys) (λ (e : ℕ). e % 2 ^ 48) ∙ length-take-le m ys fits

  keys-at : (p : ℕ) → p < m → get_or (keys_of m ys) p 0 ≡ key_at ys p
  keys-at p h = get_or-map (λ (e : ℕ). e % 2 ^ 48) (take m ys) p 0 ∙ ap (λ (e : ℕ). e % 2 ^ 48) (get_or-take m ys p 0 h)

  pub lists-in : (y : ℕ) → Lists ys m y → Memᴰ y (keys_of m ys)
  lists-in y h = let e : get_or (keys_of m ys) h.0 0 ≡ y = keys-at h.0 h.1 ∙ h.2 in
      rw e at (mem-at (keys_of m ys) h.0 (omega (arith, h.1, keys-long)))

  pub in-lists : (y : ℕ) → Memᴰ y (keys_of m ys) → Lists ys m y
  in-lists y k =
      let p = place_of (keys_of m ys) y k in
      let l : p.0 < m = omega (arith, p.1, keys-long) in
      (p.0, l, sym (keys-at p.0 l) ∙ p.2)

  pub keys-once : ((p q : ℕ) → p < q → q < m → key_at ys p ≡ key_at ys q → ⊥) → Distinct (keys_of m ys)
  keys-once h = distinct-at (keys_of m ys) (λ i j a b e. let l : j < m = omega (arith, keys-long) in h i j a l (sym (keys-at i (omega arith)) ∙ e ∙ keys-at j l))
