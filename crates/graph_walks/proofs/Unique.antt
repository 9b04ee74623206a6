-- What is left when a graph is solved is one thing: the nodes on endless walks that are again and again accepting.
use mathlib.Core.Path.{◌≡◌, sym, ◌∙◌}
use mathlib.Core.Logic.{⊎_elim}
use mathlib.Core.List.{List}
use Prim.Native.Nat.{ℕ, zero, suc, ◌<◌}
use native.Mathlib.Omega.{arith}
use lib.ListN.{get_or}
use lib.Seq.{ext_get_or}
use Rattle.graph_walks.specs.Walks.{Solved}
use Rattle.graph_walks.proofs.Endless.{endless}

module _ (E : ℕ → ℕ → Type 0) (old : List ℕ) where
  -- what one solution leaves, another does
  solved-sub : (a b : List ℕ) → Solved E old a → Solved E old b → (x : ℕ) → 0 < get_or a x 0 → 0 < get_or b x 0
  solved-sub a b s t x l =
      let W = endless E a s.sound x l in
      let same : (i : ℕ) → get_or a (W.node i) 0 ≡ get_or old (W.node i) 0 = λ i. let k = W.stays i in ⊎_elim (λ e. absurd (omega arith)) (λ e. e) (s.each (W.node i)) in
      let left : 0 < get_or b (W.node 0) 0 = t.keeps W.node W.walk (λ i. omega (arith, W.stays i, same i))
      (λ i. let (j, h, k) = W.again i in (j, h, omega (arith, k, same j))) 0 in
      rw W.begins at left

  pub solved-unique : (a b : List ℕ) → Solved E old a → Solved E old b → a ≡ b
  solved-unique a b s t =
      ext_get_or 0 a b (s.long ∙ sym t.long)
      (λ x l. let f = solved-sub a b s t x in let g = solved-sub b a t s x in
      ⊎_elim
      (λ e. ⊎_elim (λ k. omega arith) (λ k. by_zero (get_or a x 0) (get_or b x 0) g e) (t.each x))
      (λ e. ⊎_elim (λ k. sym (by_zero (get_or b x 0) (get_or a x 0) f k)) (λ k. omega arith) (t.each x))
      (s.each x))
    where
      by_zero : (v u : ℕ) → (0 < u → 0 < v) → v ≡ 0 → v ≡ u
      by_zero v zero h e = e
      by_zero v (suc u) h e = absurd (omega (arith, h (omega arith)))
