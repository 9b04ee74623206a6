-- Going round the cycle: at places that do not wait nothing is left to mark, and when none waits all is marked.
use mathlib.Core.Path.{◌≡◌, refl, sym}
use mathlib.Core.Logic.{inl, inr, ⊎_elim, by_cases}
use mathlib.Core.Bool.{Bool, true, false, not, true≢false, false≢true}
use mathlib.Core.List.{List, []}
use Prim.Native.Nat.{ℕ, zero, suc, ◌+◌, ◌-◌, ◌*◌, ◌≤◌, ◌<◌}
use native.Mathlib.Omega.{arith}
use native.Mathlib.Decide.{dec_lt, ℕ_discrete}
use lib.ListN.{length, get_or}
use borrow.Author.Tests.{lt-ltb, le-ltb}
use Rattle.sets.specs.Lists.{sum}
use Rattle.sets.proofs.Bools.{bif}
use Rattle.theory.specs.Run.{target_of}
use Rattle.theory.specs.Word.{next_place_lem}
use Rattle.theory_laws.proofs.Places.{next-place-last, next-place-other}
use Rattle.graph_walks.specs.Rounds.{Marking, Stable, PruneRound}
use Rattle.graph_walks.proofs.Marking.{Round, marking-start}
use Rattle.graph_walks.proofs.Rounds.{where-cases, marking-sum, pruned-sum}
use Rattle.graph_walks.proofs.Sums.{sum-le}
use Rattle.table_fixpoints_spec.specs.Product.{NodeEdge, Fits}
use Rattle.table_fixpoints_spec.specs.Marks.{marked_at, is_new_at, ordered}
use Rattle.table_fixpoints_spec.specs.Waiting.{place_before_lem, Waits, waiting_after_lem}
use Rattle.table_fixpoints_spec.proofs.Places.{At, same_place, elsewhere, round-at, marking-at}
use Rattle.table_fixpoints_spec.proofs.Orders.{ordered-in, edge-listed, ordered-from, fits-ordered}

-- ---- how many wait

pub record Left (new : Bool) (waiting after : ℕ) : Type 0 where
  pub least : waiting ≤ suc after
  pub most : after ≤ waiting
  pub some : new ≡ true → 0 < after
  pub none : new ≡ false → suc after ≡ waiting

after-few : (w : ℕ) → w < 2 → waiting_after_lem true w ≡ 1
unfolding waiting_after_lem
after-few w l = rw (lt-ltb w 2 l)

after-many : (w : ℕ) → 2 ≤ w → waiting_after_lem true w ≡ w - 1
unfolding waiting_after_lem
after-many w l = rw (le-ltb w 2 l)

pub waits-old : (new : Bool) (w : ℕ) → not new ≡ true → w - 1 ≡ waiting_after_lem new w
unfolding waiting_after_lem
waits-old true w e = absurd (false≢true e)
waits-old false w e = refl

pub waits-few : (new : Bool) (w : ℕ) → not new ≡ false → w < 2 → 1 ≡ waiting_after_lem new w
waits-few true w e l = sym (after-few w l)
waits-few false w e l = absurd (true≢false e)

pub waits-many : (new : Bool) (w : ℕ) → not new ≡ false → 2 ≤ w → w - 1 ≡ waiting_after_lem new w
waits-many true w e l = sym (after-many w l)
waits-many false w e l = absurd (true≢false e)

pub left_after : (new : Bool) (w : ℕ) → 0 < w → Left new w (waiting_after_lem new w)
left_after true w h =
    by_cases (dec_lt w 2)
    (λ l. let e = after-few w l in record { least = omega arith; most = omega arith; some = λ t. omega arith; none = λ t. absurd (true≢false t) })
    (λ l. let e = after-many w (omega arith) in record { least = omega arith; most = omega arith; some = λ t. omega arith; none = λ t. absurd (true≢false t) })
left_after false w h =
    let e = waits-old false w refl in record { least = omega arith; most = omega arith; some = λ t. absurd (false≢true t); none = λ t. omega arith }

-- ---- which wait

pub before-first : (c p : ℕ) → p ≡ 0 → c - 1 ≡ place_before_lem c p
unfolding place_before_lem
before-first c zero e = refl
before-first c (suc p) e = absurd (omega arith)

pub before-other : (c p : ℕ) → (p ≡ 0 → ⊥) → p - 1 ≡ place_before_lem c p
unfolding place_before_lem
before-other c zero n = absurd (n refl)
before-other c (suc p) n = omega arith

pub before-low : (c p : ℕ) → p < c → place_before_lem c p < c
unfolding place_before_lem
before-low c zero l = omega arith
before-low c (suc p) l = omega arith

waits-on : (c p w v q : ℕ) → p < c → q < c → (q ≡ place_before_lem c p → ⊥) → w ≤ suc v → Waits c p w q → Waits c (place_before_lem c p) v q
unfolding place_before_lem
waits-on c zero w v q l m d h s = ⊎_elim (λ t. absurd (omega (arith, t.0))) (λ t. inl (omega arith, omega arith)) s
waits-on c (suc p) w v q l m d h s = ⊎_elim (λ t. inl (omega (arith, t.0), omega (arith, t.1))) (λ t. inr (omega arith)) s

waits-before : (cycle : List ℕ) (v q : ℕ) → q < length cycle → 0 < v → Waits (length cycle) (next_place_lem [] cycle q) v q
waits-before cycle v q l h =
    by_cases (ℕ_discrete (q + 1) (length cycle))
    (λ e. let k = next-place-last [] cycle q (omega arith) in inr (omega arith))
    (λ e. let k = next-place-other [] cycle q (λ x. e (omega arith)) in inl (omega arith, omega arith))

-- ---- the marks: b at first, ms when p was the last place that was swept

module _ (n : ℕ) (cycle ts b : List ℕ) where
  pub record Around (ms : List ℕ) (p waiting : ℕ) : Type 0 where
    pub inside : p < length cycle
    pub marking : Marking (NodeEdge n cycle ts) b ms
    pub closed : (x y : ℕ) (e : NodeEdge n cycle ts x y) → (Waits (length cycle) p waiting e.place → ⊥) → 1 < get_or ms y 0 → 0 < get_or b x 0 → 2 < get_or ms x 0

  module _ (ms : List ℕ) (back : Bool) (p w v : ℕ) (f : Fits n cycle ts ms) (a : Around ms p w)
      (s : Left (is_new_at n cycle (ordered back ts) (place_before_lem (length cycle) p) ms) w v) where
    abbrev k : ℕ
    k = place_before_lem (length cycle) p

    low : k < length cycle
    low = before-low (length cycle) p a.inside

    abbrev new : List ℕ
    new = marked_at n cycle (ordered back ts) k ms

    round : Round (At n cycle (ordered back ts) k) ms new (is_new_at n cycle (ordered back ts) k ms)
    round = round-at n cycle (ordered back ts) k ms

    -- a target that is known was known before the sweep, unless its edge is at a place that waits
    known : (x y : ℕ) (e : NodeEdge n cycle ts x y) → (Waits (length cycle) k v e.place → ⊥) → 1 < get_or new y 0 → 1 < get_or ms y 0
    known x y e free h =
        bif (is_new_at n cycle (ordered back ts) k ms)
        (λ t. let other : next_place_lem [] cycle e.place ≡ k → ⊥ = λ i. free (rw (sym i) (waits-before cycle v e.place e.inside (s.some t))) in
        where-cases (k * n) (k * n + n) y
        (λ i j. absurd (other (same_place n k (next_place_lem [] cycle e.place) (target_of e.transition) (f.targets _ e.listed) (rw (sym e.target) i) (rw (sym e.target) j))))
        (λ o. let u = elsewhere n cycle (ordered back ts) ms k (fits-ordered back f) low y o in omega arith))
        (λ t. round.still t y h)

    member : (x : ℕ) → 0 < get_or b x 0 → 0 < get_or ms x 0
    member x h = ⊎_elim (λ e. omega arith) (λ e. omega (arith, e.0)) (a.marking.each x)

    around-swept : Around new k v
    around-swept = record {
      inside = low;
      marking = marking-at n cycle (ordered back ts) (NodeEdge n cycle ts) b k low (λ x y e. edge-listed (ordered-from back ts) e.0) ms a.marking;
      closed = λ x y e free h m. by_cases (ℕ_discrete e.place k)
          (λ q. round.closed x y (edge-listed (ordered-in back ts) e, q) (known x y e free h) (member x m))
          (λ q. let o = a.closed x y e (λ u. free (waits-on (length cycle) p w v e.place a.inside e.inside q s.least u)) (known x y e free h) m in
          omega (arith, round.more x));
    }

pub around-start : {n : ℕ} {cycle ts b : List ℕ} → 0 < length cycle → Around n cycle ts b b 0 (length cycle)
around-start {n} {cycle} {ts} {b} l = record { inside = l; marking = marking-start (NodeEdge n cycle ts) b; closed = λ x y e free. absurd (free (inr (omega arith))) }

module _ {n : ℕ} {cycle ts b : List ℕ} where
  -- a sweep over the place before p, in either order
  pub around-next : {ms new : List ℕ} (back : Bool) {r : Bool} {p k w v : ℕ} → Fits n cycle ts ms → Around n cycle ts b ms p w → k ≡ place_before_lem (length cycle) p
      → new ≡ marked_at n cycle (ordered back ts) k ms → r ≡ is_new_at n cycle (ordered back ts) k ms → Left r w v → Around n cycle ts b new k v
  around-next {ms} back {r} {p} {k} {w} {v} f a q e g s = rw (e, q) (around-swept n cycle ts b ms back p w v f a (rw (sym (rw q at g)) s))

  pub around-end : {ms : List ℕ} {p : ℕ} → Around n cycle ts b ms p 0 → Stable (NodeEdge n cycle ts) b ms
  around-end a = record {
    marking = a.marking;
    closed = λ x y e h m. a.closed x y e (λ s. ⊎_elim (λ t. omega (arith, t.0, t.1)) (λ t. omega (arith, e.inside)) s) h m;
  }

  -- each sweep marks a node or leaves one place less that waits
  pub around-less : (ms : List ℕ) {new : List ℕ} (back : Bool) {r : Bool} {k w v : ℕ} → ((x : ℕ) → get_or b x 0 ≤ 2) → Around n cycle ts b new k v → new ≡ marked_at n cycle (ordered back ts) k ms
      → r ≡ is_new_at n cycle (ordered back ts) k ms → Left r w v → 4 * length b - sum new + v < 4 * length b - sum ms + w
  around-less ms {new} back {r} {k} low a e g s =
      let d : Round (At n cycle (ordered back ts) k) ms new r = rw (e, g) (round-at n cycle (ordered back ts) k ms) in
      let most = marking-sum (NodeEdge n cycle ts) b new low a.marking in
      bif r
      (λ t. omega (arith, d.grown t, s.most))
      (λ t. omega (arith, sum-le ms new (sym d.long) d.more, s.none t))

-- each place that is pruned loses a node, or one place less waits
pub prune-less : {E : ℕ → ℕ → Type 0} {old new : List ℕ} {r : Bool} {w v : ℕ} → PruneRound E old new r → Left r w v → sum new + v < sum old + w
prune-less {E} {old} {new} {r} p s = bif r (λ t. omega (arith, p.less t, s.most)) (λ t. omega (arith, pruned-sum E old new p.pruned, s.none t))
