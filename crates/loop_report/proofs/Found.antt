-- What the search finds is the loop of the rule, and the rows of its slice.
use mathlib.Core.Path.{◌≡◌, refl, sym, ◌∙◌, ap}
use mathlib.Core.Bool.{true, false}
use mathlib.Core.List.{List, [], ◌∷◌, ◌++◌}
use Prim.Native.Nat.{ℕ, suc, ◌+◌, ◌≤◌, ◌<◌}
use native.Mathlib.Omega.{arith}
use lib.ListN.{length, drop}
use borrow.Author.Tests.{lt-ltb, le-ltb}
use Rattle.sets.specs.Tests.{some_below}
use Rattle.sets.specs.Masks.{bit}
use Rattle.refusals.specs.Rows.{refusal_at, first_row}
use Rattle.sets.proofs.Tests.{first-at, first-le, some-get}
use Rattle.theory.specs.Rule.{Rule}
use Rattle.rule_reach.specs.Tables.{successors_of}
use Rattle.loop_spec.specs.Search.{others_of_lem, ways, route, begins, further, loop_by, loop_of}
use Rattle.std.specs.Prelude.{Some, None, Ok, Err}
use Rattle.refusals.specs.declared.Refusal.TheVariants.{Slice}
use Rattle.loop_spec.proofs.Reported.{first_found}
use Rattle.loop_spec.proofs.Routes.{best}
use Rattle.loop_search.specs.declared.Start.{Start}
use Rattle.loop_search.specs.Begins.{Begins}
use Rattle.loop_spec.specs.Reported.{slice_rows, answer, after}

-- ---- row 16, and the answer

row_fits : (states : List ℕ) (room : ℕ) → length states ≤ room → first_row (slice_rows states room) ≡ 0
unfolding first_row slice_rows
row_fits states room l = rw (le-ltb room (length states) l)

row-short : (states : List ℕ) (room : ℕ) → room < length states → first_row (slice_rows states room) ≡ 16
unfolding first_row slice_rows
row-short states room l = rw (lt-ltb room (length states) l)

answer-states : (states : List ℕ) (k : ℕ) → length states ≡ k + 1 → answer 0 states ≡ Ok (Some (k + 1))
unfolding answer
answer-states [] k e = absurd (omega arith)
answer-states (q ∷ ps) k e = ap (λ (x : ℕ). Ok (Some x)) e

module _ (states : List ℕ) (old : List ℕ) where
  -- the row of the slice
  abbrev row : ℕ
  row = first_row (slice_rows states (length old))

  pub report-none : states ≡ [] → (Ok None ≡ answer row states) × (old ≡ after row states old)
  unfolding answer after first_row slice_rows
  report-none e = rw e (rw (le-ltb (length old) 0 (omega arith)) (refl, refl))

  pub report-short : length old < length states → (Err Slice ≡ answer row states) × (old ≡ after row states old)
  unfolding answer refusal_at after
  report-short l = rw (row-short states (length old) l) (refl, refl)

  pub report-states : (k : ℕ) → length states ≡ k + 1 → k < length old → (Ok (Some (k + 1)) ≡ answer row states) × (states ++ drop (k + 1) old ≡ after row states old)
  unfolding after
  report-states k e l = rw (row_fits states (length old) (omega arith)) (sym (answer-states states k e), ap (λ (x : ℕ). states ++ drop x old) (sym e))

-- ---- the loop of the rule

module _ (r : Rule) (s : Start) (b : Begins r.n (successors_of r) r.accepting s) where
  abbrev others : ℕ
  others = others_of_lem r.n r.accepting s.at

  pub found_none : r.n ≤ s.further → loop_of r ≡ []
  unfolding loop_of loop_by
  found_none l = rw (le-ltb (further r.n (successors_of r) r.accepting) r.n (omega (arith, b.length)))

  module _ (l : s.further < r.n) where
    pub found-route : loop_of r ≡ route r.n (successors_of r) (bit others) s.at s.further false s.at
    unfolding loop_of loop_by
    found-route = rw (sym b.length, sym (b.smallest l), lt-ltb s.further r.n l)

    some-begins : some_below r.n (begins r.n (successors_of r) r.accepting s.further) ≡ true
    unfolding further
    some-begins = rw b.length (first_found r.n (λ k. some_below r.n (begins r.n (successors_of r) r.accepting k)) 0 (omega (arith, b.length)))

    pub found-state : s.at < r.n
    found-state =
        let x = some-get r.n (begins r.n (successors_of r) r.accepting s.further) some-begins in
        omega (arith, b.smallest l, first-le r.n (begins r.n (successors_of r) r.accepting s.further) 0 x.0 (omega arith) x.2, x.1)

    pub found-begins : bit (ways r.n (successors_of r) (bit others) s.at (suc s.further)).mixed s.at ≡ true
    unfolding begins
    found-begins =
        let x = some-get r.n (begins r.n (successors_of r) r.accepting s.further) some-begins in
        rw (b.smallest l) (first-at r.n (begins r.n (successors_of r) r.accepting s.further) 0 x.0 (omega arith) (omega (arith, x.1)) x.2)

    pub found-length : length (loop_of r) ≡ s.further + 1
    found-length =
        let x = best r.n (successors_of r) (bit others) s.at found-state s.further false s.at found-state found-begins in
        ap length (found-route ∙ x.1) ∙ omega (arith, x.2.long)
