-- The reported loop passes no state twice, so it has at most n states, and it begins at its smallest.
use mathlib.Core.Path.{◌≡◌}
use mathlib.Core.Logic.{⊎_elim}
use mathlib.Core.Bool.{false, ◌||◌}
use mathlib.Core.List.{List, ◌∷◌, ◌++◌, Memᴰ}
use Prim.Native.Nat.{ℕ, ◌<◌, ◌≤◌}
use native.Mathlib.Omega.{arith}
use lib.ListN.{length, length-append}
use Rattle.sets.specs.Lists.{among}
use Rattle.sets.proofs.Bools.{bif, clash, or-fl}
use Rattle.sets.proofs.Lists.{among_in}
use Rattle.theory.specs.Rule.{Rule}
use Rattle.loop_spec.specs.Loops.{repeats, Shortest, Reported, none, loop}
use Rattle.loop_spec.proofs.Walks.{mixed-below, once-few, shorter, rotated, among-split}
use Rattle.loop_spec.proofs.Reported.{at-most-cons}

module _ (r : Rule) where
  -- A shortest mixed loop passes no state twice.
  pub shortest-once : (ps : List ℕ) → Shortest r ps → repeats ps ≡ false
  shortest-once ps s = bif (repeats ps) (λ e. let t = shorter r ps s.loop e in absurd (omega (arith, t.less, s.fewest t.states t.loop))) (λ e. e)

  -- So it has at most n states.
  pub shortest-few : (ps : List ℕ) → Shortest r ps → length ps ≤ r.n
  shortest-few ps s = once-few r.n ps (mixed-below r ps s.loop) (shortest-once ps s)

  repeats-cons : (q : ℕ) (ps : List ℕ) → repeats (q ∷ ps) ≡ false → among ps q || repeats ps ≡ false
  unfolding repeats
  repeats-cons q ps e = e

  -- a loop that is turned is as long
  turned : (q : ℕ) (ps : List ℕ) (x : ℕ) (qs : List ℕ) → Shortest r (q ∷ (ps ++ (x ∷ qs))) → Shortest r (x ∷ (qs ++ (q ∷ ps)))
  turned q ps x qs s =
      record {
        loop = rotated r q ps x qs s.loop;
        fewest = λ us e. omega (arith, s.fewest us e, length-append ps (x ∷ qs), length-append qs (q ∷ ps));
      }

  -- The reported loop begins at its smallest state.
  pub reported-smallest : (q : ℕ) (ps : List ℕ) → Reported r (q ∷ ps) → (x : ℕ) → Memᴰ x ps → q < x
  reported-smallest q ps (loop s h) x m =
      let c = among-split ps x (among_in ps x m) in
      let s' = rw c.2 at s in
      ⊎_elim
      (λ l. l)
      (λ e. clash (among_in ps q (rw e.0 m)) (or-fl (among ps q) (repeats ps) (repeats-cons q ps (shortest-once (q ∷ ps) s))))
      (at-most-cons q ps x (c.1 ++ (q ∷ c.0)) (h (x ∷ (c.1 ++ (q ∷ c.0))) (turned q c.0 x c.1 s')))

  pub reported-few : (ps : List ℕ) → Reported r ps → length ps ≤ r.n
  reported-few ps (none f) = omega arith
  reported-few ps (loop {ps = us} s h) = shortest-few us s
