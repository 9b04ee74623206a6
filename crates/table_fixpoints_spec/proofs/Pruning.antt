-- A round of pruning at one place of the cycle, and an example.
use mathlib.Core.Path.{◌≡◌, sym, ◌∙◌}
use mathlib.Core.Logic.{◌⊎◌, inl, inr, ⊎_elim}
use mathlib.Core.Bool.{Bool}
use mathlib.Core.List.{List, [], ◌∷◌}
use Prim.Native.Nat.{ℕ, zero, suc, ◌+◌, ◌*◌, ◌≤◌, ◌<◌}
use native.Mathlib.Omega.{arith}
use lib.ListN.{length, get_or}
use Rattle.theory.specs.Run.{source_of}
use Rattle.graph_walks.specs.Walks.{Walk, Solved}
use Rattle.graph_walks.specs.Rounds.{Settling, Marking, PruneRound}
use Rattle.graph_walks.proofs.Marking.{marking-start}
use Rattle.graph_walks.proofs.Rounds.{where-cases, back-each, back-stays, back-less}
use Rattle.table_fixpoints_spec.specs.Product.{NodeEdge, Fits}
use Rattle.table_fixpoints_spec.specs.Marks.{marked_at}
use Rattle.table_fixpoints_spec.proofs.Places.{At, same_place, elsewhere, round-at, marking-at, ExampleEdge, on, around}

-- ---- an example

-- the walk along 0 and 3
abbrev turns : ℕ → ℕ
turns zero = 0
turns (suc zero) = 3
turns (suc (suc i)) = turns i

walk : Walk ExampleEdge turns
walk zero = on
walk (suc zero) = around
walk (suc (suc i)) = walk i

members : (i : ℕ) → 0 < get_or (2 ∷ 1 ∷ 1 ∷ 1 ∷ []) (turns i) 0
members zero = omega arith
members (suc zero) = omega arith
members (suc (suc i)) = members i

again : (i : ℕ) → (j : ℕ) × (i < j) × (1 < get_or (2 ∷ 1 ∷ 1 ∷ 1 ∷ []) (turns j) 0)
again zero = (2, omega arith, omega arith)
again (suc zero) = (2, omega arith, omega arith)
again (suc (suc i)) = let (j, l, h) = again i in (suc (suc j), omega arith, h)

-- its nodes stay
turns-stay : (new : List ℕ) → Solved ExampleEdge (2 ∷ 1 ∷ 1 ∷ 1 ∷ []) new → (0 < get_or new 0 0) × (0 < get_or new 3 0)
turns-stay new s = (s.keeps turns walk members again 0, s.keeps turns walk members again 1)

-- ---- one place

module _ {n : ℕ} {cycle ts ms new : List ℕ} {changed : Bool} where
  -- the nodes at place p without an edge to a node that is in go out
  pub prune-at : (p : ℕ) → Fits n cycle ts ms → ((x : ℕ) → (get_or ms x 0 ≡ 0) ⊎ (get_or ms x 0 ≡ 2)) → p < length cycle
      → Settling (p * n) (p * n + n) (marked_at n cycle ts p ms) new changed → PruneRound (NodeEdge n cycle ts) ms new changed
  prune-at p f even l s = record {
    pruned = record { long = s.long ∙ m.long; each = each; keeps = keeps };
    even = λ x. ⊎_elim (λ e. inl e) (λ e. ⊎_elim (λ k. inl (e ∙ k)) (λ k. inr (e ∙ k)) (even x)) (each x);
    less = back-less (At n cycle ts p) ms mid new (p * n) (p * n + n) changed low m s out;
  }
    where
      mid : List ℕ
      mid = marked_at n cycle ts p ms

      low : (x : ℕ) → get_or ms x 0 ≤ 2
      low x = ⊎_elim (λ e. omega arith) (λ e. omega arith) (even x)

      m : Marking (At n cycle ts p) ms mid
      m = marking-at n cycle ts (At n cycle ts p) ms p l (λ x y a. a) ms (marking-start (At n cycle ts p) ms)

      -- the source of an edge is at its place
      inside : (x y : ℕ) (e : NodeEdge n cycle ts x y) → (p * n ≤ x) → (x < p * n + n) → e.place ≡ p
      inside x y e a b = same_place n p e.place (source_of e.transition) (f.sources _ e.listed) (rw (sym e.source) a) (rw (sym e.source) b)

      out : (x : ℕ) → (x < p * n) ⊎ (p * n + n ≤ x) → get_or mid x 0 ≡ get_or ms x 0
      out = elsewhere n cycle ts ms p f l

      each : (x : ℕ) → (get_or new x 0 ≡ 0) ⊎ (get_or new x 0 ≡ get_or ms x 0)
      each = back-each (At n cycle ts p) ms mid new (p * n) (p * n + n) changed low m s out

      keeps : (z : ℕ → ℕ) → Walk (NodeEdge n cycle ts) z → ((i : ℕ) → 0 < get_or ms (z i) 0) → (i : ℕ) → 0 < get_or new (z i) 0
      keeps z w h i =
          where-cases (p * n) (p * n + n) (z i)
          (λ a b. let two : 1 < get_or ms (z (suc i)) 0 = ⊎_elim (λ e. absurd (omega (arith, h (suc i)))) (λ e. omega arith) (even (z (suc i))) in
          back-stays (At n cycle ts p) ms mid new (p * n) (p * n + n) changed low m s out (z i)
          ((round-at n cycle ts p ms).closed (z i) (z (suc i)) (w i, inside (z i) (z (suc i)) (w i) a b) two (h i)))
          (λ o. let e = s.outside (z i) o in let k = out (z i) o in omega (arith, h i))
