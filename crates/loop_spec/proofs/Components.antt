-- A rule has a mixed loop exactly if a component is mixed: the report is none exactly where row 11 passes.
use mathlib.Core.Path.{◌≡◌, refl, sym, ◌∙◌, ap}
use mathlib.Core.Logic.{◌⊎◌, inl, inr, ⊎_elim, ◌↔◌}
use mathlib.Core.Bool.{true, false}
use mathlib.Core.List.{List, [], ◌∷◌, ◌++◌, Memᴰ}
use Prim.Native.Nat.{ℕ, ◌<◌, ◌≤◌}
use borrow.Author.Tests.{lt-ltb}
use Rattle.sets.specs.Lists.{any_of, all_of}
use Rattle.sets.proofs.Bools.{bif, clash, and_l, and_r, and_i, not_t}
use Rattle.sets.proofs.Lists.{any-in, any_out, among_in}
use Rattle.theory.specs.Rule.{Rule}
use Rattle.theory.specs.Components.{leads, LeadsTo, here, step, Together, mixed}
use Rattle.theory_laws.proofs.Components.{unmixed-iff, leads-to-state}
use Rattle.loop_spec.specs.Loops.{along, all_below, is_closed_walk, passes_both, is_mixed_loop, Reported, none, loop}
use Rattle.loop_spec.specs.Search.{loop_of}
use Rattle.loop_spec.proofs.Walks.{below_parts, below-i, among-split, closed-i, closed_parts, join-below, split_below, split-along, join-along, accepts, rejects, mixed-i, mixed-parts, no-empty}
use Rattle.loop_spec.proofs.Reported.{reported, one-report}

module _ (r : Rule) where
  -- ---- states of a closed walk lead to each other

  onward : (s q : ℕ) (ps : List ℕ) (t : ℕ) → LeadsTo r s q → all_below r.n ps ≡ true → t < r.n → along (leads r) q ps t ≡ true → LeadsTo r s t
  unfolding along
  onward s q [] t h b l e = step h l e
  onward s q (p ∷ ps) t h b l e =
      let (k, c) = below_parts r.n p ps b in
      onward s p ps t (step h k (and_l (leads r q p) (along (leads r) p ps t) e)) c l (and_r (leads r q p) (along (leads r) p ps t) e)

  -- where x stands behind q
  split-together : (q : ℕ) (bs : List ℕ) (x : ℕ) (cs : List ℕ) → is_closed_walk r (q ∷ (bs ++ (x ∷ cs))) ≡ true → (x < r.n) × Together r q x
  split-together q bs x cs e =
      let p = closed_parts r q (bs ++ (x ∷ cs)) e in
      let b = split_below r (q ∷ bs) (x ∷ cs) p.0 in let w = split-along r q bs x cs q p.1 in
      let (k, f) = below_parts r.n q bs b.0 in let (l, g) = below_parts r.n x cs b.1 in
      (l, record { there = onward q q bs x here f l w.0; back = onward x x cs q here g k w.1 })

  walk-together : (q : ℕ) (ps : List ℕ) → is_closed_walk r (q ∷ ps) ≡ true → (x : ℕ) → Memᴰ x (q ∷ ps) → (x < r.n) × Together r q x
  walk-together q ps e x m =
      ⊎_elim
      (λ i. rw i ((below_parts r.n q ps (closed_parts r q ps e).0).0, record { there = here; back = here }))
      (λ k. let c = among-split ps x (among_in ps x k) in split-together q c.0 x c.1 (rw c.2 at e))
      (mathlib.Core.List.Memᴰ.cases_cons m)

  -- without a mixed component there is no mixed loop
  pub unmixed-none : mixed r ≡ false → (ps : List ℕ) → is_mixed_loop r ps ≡ false
  unfolding passes_both
  unmixed-none u [] = no-empty r
  unmixed-none u (q ∷ ps) =
      bif (is_mixed_loop r (q ∷ ps))
      (λ e. let (c, b) = mixed-parts r (q ∷ ps) e in
      let y = any_out (q ∷ ps) (accepts r) (and_l (any_of (q ∷ ps) (accepts r)) (any_of (q ∷ ps) (rejects r)) b) in
      let z = any_out (q ∷ ps) (rejects r) (and_r (any_of (q ∷ ps) (accepts r)) (any_of (q ∷ ps) (rejects r)) b) in
      let k = (below_parts r.n q ps (closed_parts r q ps c).0).0 in
      let i = walk-together q ps c y.0 y.1 in let j = walk-together q ps c z.0 z.1 in let same = (unmixed-iff r).0 u in
      clash y.2 (sym (same q y.0 k i.0 i.1) ∙ same q z.0 k j.0 j.1 ∙ not_t (accepts r z.0) z.2))
      (λ e. e)

  -- ---- a mixed component has a mixed loop

  -- states below n that lead on from q to p
  abbrev Between : ℕ → ℕ → Type 0
  Between q p = (ps : List ℕ) × (all_below r.n ps ≡ true) × (along (leads r) q ps p ≡ true)

  walk_of : (q p : ℕ) → q < r.n → LeadsTo r q p → (q ≡ p) ⊎ Between q p
  unfolding along all_below all_of
  walk_of q p l here = inl refl
  walk_of q t l (step {p = p} h m e) =
      inr (⊎_elim
      (λ i. ([], refl, rw i e))
      (λ w. (w.0 ++ (p ∷ []), join-below r w.0 (p ∷ []) w.1 (and_i (lt-ltb p r.n (leads-to-state r q p l h)) refl), join-along r q w.0 p [] t w.2 e))
      (walk_of q p l h))

  joined : (q p : ℕ) → q < r.n → p < r.n → (v : Between q p) → Between p q → accepts r q ≡ true → accepts r p ≡ false → (ps : List ℕ) × (is_mixed_loop r ps ≡ true)
  unfolding passes_both
  joined q p l m v w a b =
      let ps = q ∷ (v.0 ++ (p ∷ w.0)) in
      let in-q : Memᴰ q ps = mathlib.Core.List.Memᴰ.head refl in
      let in_p : Memᴰ p ps = mathlib.Core.List.Memᴰ.tail (mathlib.Core.List.Memᴰ.append_right v.0 (mathlib.Core.List.Memᴰ.head refl)) in (
        ps,
        mixed-i r ps
            (closed-i r q (v.0 ++ (p ∷ w.0))
            (join-below r (q ∷ v.0) (p ∷ w.0) (below-i r.n q v.0 l v.1) (below-i r.n p w.0 m w.1))
            (join-along r q v.0 p w.0 q v.2 w.2))
            (and_i (any-in ps (accepts r) q in-q a) (any-in ps (rejects r) p in_p (rw b))),
      )

  -- an accepting and a rejecting state that lead to each other
  pub pair-loop : (q p : ℕ) → q < r.n → p < r.n → Together r q p → accepts r q ≡ true → accepts r p ≡ false → (ps : List ℕ) × (is_mixed_loop r ps ≡ true)
  pair-loop q p l m h a b =
      ⊎_elim
      (λ i. clash a (ap (accepts r) i ∙ b))
      (λ v. ⊎_elim (λ i. clash a (ap (accepts r) (sym i) ∙ b)) (λ w. joined q p l m v w a b) (walk_of p q m h.back))
      (walk_of q p l h.there)

  pub none-unmixed : ((ps : List ℕ) → is_mixed_loop r ps ≡ false) → mixed r ≡ false
  none-unmixed h =
      (unmixed-iff r).1
      (λ q p l m t. bif (accepts r q)
      (λ a. bif (accepts r p) (λ b. a ∙ sym b) (λ b. let v = pair-loop q p l m t a b in clash v.1 (h v.0)))
      (λ a. bif (accepts r p) (λ b. let v = pair-loop p q m l (record { there = t.back; back = t.there }) b a in clash v.1 (h v.0)) (λ b. a ∙ sym b)))

  reported-none : Reported r [] → (ps : List ℕ) → is_mixed_loop r ps ≡ false
  reported-none (none f) = f
  reported-none (loop s h) = clash s.loop (no-empty r)

-- The report is none exactly if no component is mixed.
pub none-iff-unmixed : (r : Rule) → r.n ≤ 8 → (loop_of r ≡ []) ↔ (mixed r ≡ false)
none-iff-unmixed r small = (
  λ e. none-unmixed r (reported-none r (rw e at (reported r small))),
  λ u. one-report r (loop_of r) [] (reported r small) (none (unmixed-none r u)),
)
