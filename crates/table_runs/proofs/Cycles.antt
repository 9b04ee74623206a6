-- The walks of the product of a table and a cycle are the runs of the table over the cycle: so of thinned and solved marks number m is in
-- at the cycle's first place exactly if an accepting run goes on from it.
use mathlib.Core.Path.{◌≡◌, sym, ap, ◌∙◌}
use mathlib.Core.List.{List, [], Memᴰ}
use Prim.Native.Nat.{ℕ, zero, suc, ◌+◌, ◌*◌, ◌/◌, ◌%◌, ◌<◌}
use native.Mathlib.Omega.{arith}
use native.Mathlib.Nat.{zero-mul, zero-add, mod-eq_of_lt}
use lib.Arith.{digits_lt, digits_div, digits_mod}
use lib.ListN.{length, get_or, replicate, length-replicate, get_or-replicate, get_or-eq_default}
use Rattle.theory.specs.Run.{source_of, target_of, Leads}
use Rattle.theory.specs.Word.{next_place_lem, letter_at_lem, place, letters}
use Rattle.theory_laws.proofs.Places.{places-low}
use Rattle.graph_walks.specs.Walks.{Walk}
use Rattle.table_fixpoints_spec.specs.Product.{NodeEdge}
use Rattle.table_runs.specs.Tracks.{Track, TrackFrom, Found}
use mathlib.Core.Bool.{true}
use mathlib.Core.Logic.{◌↔◌, ◌⊎◌, inl, inr, ⊎_elim, by_cases}
use native.Mathlib.Decide.{dec_lt}
use Rattle.theory.specs.Macrostate.{is_accepting_lem}
use Rattle.graph_walks.proofs.Endless.{endless}
use Rattle.table_runs.proofs.Flagging.{accepting-flag}

pub all_two : (k x : ℕ) → let twos : List ℕ = replicate k 2 in (get_or twos x 0 ≡ 0) ⊎ (get_or twos x 0 ≡ 2)
all_two k x =
    let twos : List ℕ = replicate k 2 in
    let e : length twos ≡ k = length-replicate {A = ℕ} k 2 in
    by_cases (dec_lt x k) (λ l. inr (get_or-replicate {A = ℕ} k x 2 0 l)) (λ l. inl (get_or-eq_default twos 0 {n = x} (omega arith)))

module _ (codes transitions cycle : List ℕ) (repeats : 0 < length cycle)
    (sources : (t : ℕ) → Memᴰ t transitions → source_of t < length codes) (targets : (t : ℕ) → Memᴰ t transitions → target_of t < length codes) where
  abbrev n : ℕ
  n = length codes

  -- the place of a step
  abbrev at : ℕ → ℕ
  at = place (next_place_lem [] cycle)

  at_low : (i : ℕ) → at i < length cycle
  at_low i = let l = places-low [] cycle repeats i in omega arith

  -- the node of a step
  abbrev node_of : (ℕ → ℕ) → ℕ → ℕ
  node_of x i = at i * n + x i

  node-low : (x : ℕ → ℕ) → ((i : ℕ) → x i < n) → (i : ℕ) → node_of x i < length cycle * n
  node-low x l i = digits_lt (at_low i) (l i)

  node-number : (x : ℕ → ℕ) → ((i : ℕ) → x i < n) → (i : ℕ) → node_of x i % n ≡ x i
  node-number x l i = digits_mod (at i) (l i)

  node-first : (x : ℕ → ℕ) → node_of x 0 ≡ x 0
  unfolding place
  node-first x = ap (λ (k : ℕ). k + x 0) (zero-mul n) ∙ zero-add (x 0)

  walk_of : (x : ℕ → ℕ) → Track codes transitions (letters [] cycle) x → Walk (NodeEdge n cycle transitions) (node_of x)
  unfolding place
  walk_of x T i =
      let m = T.moves i in
      record {
        place = at i;
        transition = m.0;
        inside = at_low i;
        listed = m.1;
        letter = m.2.letter;
        source = ap (λ (k : ℕ). at i * n + k) (sym m.2.source);
        target = ap (λ (k : ℕ). next_place_lem [] cycle (at i) * n + k) (sym m.2.target);
      }

  module _ (z : ℕ → ℕ) (walk : Walk (NodeEdge n cycle transitions) z) (low : z 0 < n) where
    -- the edges go from place to place
    walk-place : (i : ℕ) → (walk i).place ≡ at i
    unfolding place
    walk-place zero =
        let e = walk 0 in
        sym (ap (λ (k : ℕ). k / n) e.source ∙ digits_div e.place (sources e.transition e.listed))
        ∙ ap (λ (k : ℕ). k / n) (sym (zero-add (z 0)) ∙ ap (λ (k : ℕ). k + z 0) (sym (zero-mul n)))
        ∙ digits_div 0 low
    walk-place (suc i) =
        let e = walk i in let f = walk (suc i) in
        sym (ap (λ (k : ℕ). k / n) f.source ∙ digits_div f.place (sources f.transition f.listed))
        ∙ ap (λ (k : ℕ). k / n) e.target
        ∙ digits_div (next_place_lem [] cycle e.place) (targets e.transition e.listed)
        ∙ ap (next_place_lem [] cycle) (walk-place i)

    source-number : (i : ℕ) → source_of (walk i).transition ≡ z i % n
    source-number i = let e = walk i in sym (ap (λ (k : ℕ). k % n) e.source ∙ digits_mod e.place (sources e.transition e.listed))

    target-number : (i : ℕ) → target_of (walk i).transition ≡ z (suc i) % n
    target-number i = let e = walk i in sym (ap (λ (k : ℕ). k % n) e.target ∙ digits_mod (next_place_lem [] cycle e.place) (targets e.transition e.listed))

    walk-within : (i : ℕ) → z i % n < n
    walk-within i = rw (sym (source-number i)) (sources (walk i).transition (walk i).listed)

    walk-moves : (i : ℕ) → (t : ℕ) × Memᴰ t transitions × Leads t (z i % n) (letters [] cycle i) (z (suc i) % n)
    walk-moves i =
        let e = walk i in
        (e.transition, e.listed, record { source = source-number i; letter = e.letter ∙ ap (letter_at_lem [] cycle) (walk-place i); target = target-number i })

  -- ---- the solution

  module _ (old solved : List ℕ) (full : (x : ℕ) → x < length cycle * n → get_or old x 0 ≡ 2) (F : Found (NodeEdge n cycle transitions) codes old solved) where
    -- what is left of an accepting node is flagged as one
    left-accepting : (x : ℕ) → 1 < get_or solved x 0 → is_accepting_lem (get_or codes (x % n) 0) ≡ true
    left-accepting x l = ⊎_elim (λ z. absurd (omega arith)) (λ e. accepting-flag (get_or codes (x % n) 0) (omega (arith, e.1))) (F.thinned.each x)

    pub solution : (m : ℕ) → m < n → (0 < get_or solved m 0) ↔ TrackFrom codes transitions [] cycle m
    solution m low = (onward, back)
      where
        onward : 0 < get_or solved m 0 → TrackFrom codes transitions [] cycle m
        onward l =
            let E = endless (NodeEdge n cycle transitions) solved F.sound m l in
            let b : E.node 0 < n = rw E.begins low in (
              λ i. E.node i % n,
              mod-eq_of_lt b ∙ E.begins,
              record {
                within = walk-within E.node E.walk b;
                moves = walk-moves E.node E.walk b;
                again = λ i. let a = E.again i in (a.0, a.1, left-accepting (E.node a.0) a.2);
              },
            )

        back : TrackFrom codes transitions [] cycle m → 0 < get_or solved m 0
        back (x, e, T) =
            rw (sym (node-first x ∙ e)) (F.thinned.keeps (node_of x) (walk_of x T)
            (λ i. let f = full (node_of x i) (node-low x T.within i) in omega arith)
            (λ i. let a = T.again i in (a.0, a.1, ap (λ (k : ℕ). is_accepting_lem (get_or codes k 0)) (node-number x T.within a.0) ∙ a.2)) 0)
