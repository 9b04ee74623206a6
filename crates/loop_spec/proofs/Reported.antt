-- The computed list is the reported one, and there is no other.
use mathlib.Core.Path.{◌≡◌, refl, sym, ◌∙◌}
use mathlib.Core.Logic.{◌⊎◌, inl, inr, by_cases, ⊎_elim}
use mathlib.Core.Bool.{true, false, ◌&&◌, false≢true}
use mathlib.Core.List.{List, [], ◌∷◌, Memᴰ}
use Prim.Native.Nat.{ℕ, zero, suc, ◌+◌, ◌<◌, ◌≤◌}
use native.Mathlib.Omega.{arith}
use native.Mathlib.Decide.{dec_lt}
use native.Mathlib.Nat.{add-suc}
use lib.Dec.{eqb, ltb}
use lib.ListN.{length}
use borrow.Author.Tests.{eqb-true, eq-eqb, lt-ltb, le-ltb, ltb-true}
use Rattle.sets.specs.Tests.{Set, first, some_below}
use Rattle.sets.specs.Masks.{bit, mask, exclusive}
use Rattle.sets.specs.Lists.{any_of}
use Rattle.sets.proofs.Bools.{bif, clash, and_l, and_r, and_i, or_l, or_r, or_cases}
use Rattle.sets.proofs.Tests.{first-at, first-le, first-yes, first-no, some_at, some-get}
use Rattle.sets.proofs.Masks.{bit_mask}
use Rattle.sets.proofs.Lists.{any-in, any_out}
use Rattle.sets.proofs.Members.{all-of-at}
use Rattle.theory.specs.Rule.{Rule}
use Rattle.theory.specs.Components.{leads}
use Rattle.rule_reach.specs.Tables.{successors_of}
use Rattle.rule_reach.proofs.Tables.{table_at}
use Rattle.loop_spec.specs.Loops.{all_below, at_most, passes_both, is_mixed_loop, Shortest, Reported, none, loop}
use Rattle.loop_spec.specs.Search.{leads_by, others_of_lem, route, begins, further, loop_by, loop_of}
use Rattle.loop_spec.proofs.Walks.{along-ext, below_parts, below-i, accepts, rejects, closed-i, closed_parts, mixed-i, mixed-parts, no-empty, few}
use Rattle.loop_spec.proofs.Masks.{Goes, walk_can}
use Rattle.loop_spec.proofs.Routes.{Best, best}

-- a search that ends before its bound ends at a number that passes
pub first_found : (k : ℕ) (f : Set) (a : ℕ) → first k f a < a + k → f (first k f a) ≡ true
unfolding first
first_found zero f a l = absurd (omega arith)
first_found (suc k) f a l =
    bif (f a)
    (λ t. rw (first-yes k f a t) t)
    (λ t. rw (first-no k f a t) (first_found k f (suc a) (let h = rw (first-no k f a t) at l in omega (arith, add-suc a k))))

-- ---- both kinds of states are passed exactly if one is of the other kind than the first

module _ (r : Rule) (t : ℕ) (ps : List ℕ) (states : all_below r.n (t ∷ ps) ≡ true) where
  abbrev others : Set
  others = bit (others_of_lem r.n r.accepting t)

  -- of a state of the list
  others-at : (x : ℕ) → Memᴰ x (t ∷ ps) → others x ≡ exclusive (accepts r t) (accepts r x)
  unfolding others_of_lem all_below
  others-at x m = bit_mask r.n (λ p. exclusive (accepts r t) (accepts r p)) x (ltb-true x r.n (all-of-at (t ∷ ps) (λ p. ltb p r.n) states x m))

  pub both-other : passes_both r (t ∷ ps) ≡ true → any_of (t ∷ ps) others ≡ true
  unfolding passes_both
  both-other e =
      let y = any_out (t ∷ ps) (accepts r) (and_l (any_of (t ∷ ps) (accepts r)) (any_of (t ∷ ps) (rejects r)) e) in
      let z = any_out (t ∷ ps) (rejects r) (and_r (any_of (t ∷ ps) (accepts r)) (any_of (t ∷ ps) (rejects r)) e) in
      bif (accepts r t)
      (λ b. any-in (t ∷ ps) others z.0 z.1 (others-at z.0 z.1 ∙ rw b z.2))
      (λ b. any-in (t ∷ ps) others y.0 y.1 (others-at y.0 y.1 ∙ rw b y.2))

  pub other-both : any_of (t ∷ ps) others ≡ true → passes_both r (t ∷ ps) ≡ true
  unfolding passes_both
  other-both e =
      let y = any_out (t ∷ ps) others e in
      let d : exclusive (accepts r t) (accepts r y.0) ≡ true = sym (others-at y.0 y.1) ∙ y.2 in
      bif (accepts r t)
      (λ b. and_i (any-in (t ∷ ps) (accepts r) t (Memᴰ.head refl) b) (any-in (t ∷ ps) (rejects r) y.0 y.1 (rw b at d)))
      (λ b. and_i (any-in (t ∷ ps) (accepts r) y.0 y.1 (rw b at d)) (any-in (t ∷ ps) (rejects r) t (Memᴰ.head refl) (rw b)))

-- ---- the rule's loops by the masks

module _ (r : Rule) (small : r.n ≤ 8) where
  abbrev es : List ℕ
  es = successors_of r

  abbrev kind : ℕ → Set
  kind t = bit (others_of_lem r.n r.accepting t)

  agree : (q p : ℕ) → q < r.n → p < r.n → leads r q p ≡ leads_by es q p
  agree q p l m = sym (rw (table_at r.n (λ q. mask r.n (leads r q)) q l (omega arith)) (bit_mask r.n (leads r q) p m))

  first-state : (t : ℕ) (ps : List ℕ) → is_mixed_loop r (t ∷ ps) ≡ true → t < r.n
  first-state t ps e = (below_parts r.n t ps (closed_parts r t ps (mixed-parts r (t ∷ ps) e).0).0).0

  loop-goes : (t : ℕ) (ps : List ℕ) → is_mixed_loop r (t ∷ ps) ≡ true → (l : t < r.n) → Goes r.n es (kind t) t l false t ps
  loop-goes t ps e l =
      let m = mixed-parts r (t ∷ ps) e in let c = closed_parts r t ps m.0 in let b = (below_parts r.n t ps c.0).1 in
      record { leads = record { states = b; steps = sym (along-ext r.n (leads r) (leads_by es) agree t ps t l b l) ∙ c.1 }; passes = both-other r t ps c.0 m.1 }

  goes-loop : (t : ℕ) (ps : List ℕ) (l : t < r.n) → Goes r.n es (kind t) t l false t ps → is_mixed_loop r (t ∷ ps) ≡ true
  goes-loop t ps l g =
      let b = below-i r.n t ps l g.leads.states in
      mixed-i r (t ∷ ps)
      (closed-i r t ps b
      (along-ext r.n (leads r) (leads_by es) agree t ps t l g.leads.states l ∙ g.leads.steps))
      (other-both r t ps b g.passes)

  abbrev start : ℕ → Set
  start k = begins r.n es r.accepting k

  loop-begins : (t : ℕ) (ps : List ℕ) → is_mixed_loop r (t ∷ ps) ≡ true → start (length ps) t ≡ true
  unfolding begins
  loop-begins t ps e = let l = first-state t ps e in walk_can r.n es (kind t) t l false t ps l (loop-goes t ps e l)

  abbrev more : ℕ
  more = further r.n es r.accepting

  -- no mixed loop has fewer states
  more-le : (t : ℕ) (ps : List ℕ) → is_mixed_loop r (t ∷ ps) ≡ true → more ≤ length ps
  unfolding further
  more-le t ps e =
      first-le r.n (λ k. some_below r.n (start k)) 0 (length ps) (omega arith)
      (some_at r.n (start (length ps)) t (first-state t ps e) (loop-begins t ps e))

  more-found : more < r.n → some_below r.n (start more) ≡ true
  unfolding further
  more-found l = first_found r.n (λ k. some_below r.n (start k)) 0 (omega arith)

  none_found : r.n ≤ more → (qs : List ℕ) → is_mixed_loop r qs ≡ false
  none_found l qs = bif (is_mixed_loop r qs) (λ e. let f = few r (suc (length qs)) qs (omega arith) e in absurd (beyond f.states f.loop f.few)) (λ e. e)
    where
      beyond : (us : List ℕ) → is_mixed_loop r us ≡ true → length us ≤ r.n → ⊥
      beyond [] e k = false≢true (sym (no-empty r) ∙ e)
      beyond (t ∷ ps) e k = omega (arith, more-le t ps e)

  -- the smallest state where a shortest loop begins
  abbrev at : ℕ
  at = first r.n (start more) 0

  at-le : (t : ℕ) → start more t ≡ true → at ≤ t
  at-le t e = first-le r.n (start more) 0 t (omega arith) e

  at-state : more < r.n → (at < r.n) × (start more at ≡ true)
  at-state l =
      let s = some-get r.n (start more) (more-found l) in
      (omega (arith, at-le s.0 s.2, s.1), first-at r.n (start more) 0 s.0 (omega arith) (omega (arith, s.1)) s.2)

  loop-is : more < r.n → loop_of r ≡ route r.n es (kind at) at more false at
  unfolding loop_of loop_by
  loop-is l = rw (lt-ltb more r.n l)

  loop-none : r.n ≤ more → loop_of r ≡ []
  unfolding loop_of loop_by
  loop-none l = rw (le-ltb more r.n l)

  -- ps follow the smallest state where a shortest loop begins, and are the least that may
  module _ (l : at < r.n) (ps : List ℕ) (b : Best r.n es (kind at) at l more false at ps) where
    found-loop : is_mixed_loop r (at ∷ ps) ≡ true
    found-loop = goes-loop at ps l b.goes

    found-fewest : (qs : List ℕ) → is_mixed_loop r qs ≡ true → length (at ∷ ps) ≤ length qs
    found-fewest [] e = clash e (no-empty r)
    found-fewest (t ∷ qs) e = omega (arith, more-le t qs e, b.long)

    found-least : (qs : List ℕ) → Shortest r qs → at_most (at ∷ ps) qs ≡ true
    unfolding at_most
    found-least [] s = clash s.loop (no-empty r)
    found-least (t ∷ qs) s =
        let j : length qs ≡ more = omega (arith, s.fewest (at ∷ ps) found-loop, more-le t qs s.loop, b.long) in
        let k = at-le t (rw j at (loop-begins t qs s.loop)) in
        by_cases (dec_lt at t)
        (λ y. or_l (ltb at t) (eqb at t && at_most ps qs) (lt-ltb at t y))
        (λ y. let i : t ≡ at = omega arith in
        or_r (ltb at t) (eqb at t && at_most ps qs)
        (and_i (eq-eqb at t (sym i)) (b.least qs j (loop-goes at qs (rw i at s.loop) l))))

    found : Reported r (at ∷ ps)
    found = loop (record { loop = found-loop; fewest = found-fewest }) found-least

  -- The computed list is the reported one.
  pub reported : Reported r (loop_of r)
  unfolding begins
  reported =
      by_cases (dec_lt more r.n)
      (λ l. let s = at-state l in
      let b = best r.n es (kind at) at s.0 more false at s.0 s.1 in
      rw (loop-is l ∙ b.1) (found s.0 b.0 b.2))
      (λ l. rw (loop-none (omega arith)) (none (none_found (omega arith))))

-- ---- there is one report

pub at-most-cons : (x : ℕ) (xs : List ℕ) (y : ℕ) (ys : List ℕ) → at_most (x ∷ xs) (y ∷ ys) ≡ true → (x < y) ⊎ ((x ≡ y) × (at_most xs ys ≡ true))
unfolding at_most
at-most-cons x xs y ys e =
    ⊎_elim
    (λ t. inl (ltb-true x y t))
    (λ t. inr (eqb-true x y (and_l (eqb x y) (at_most xs ys) t), and_r (eqb x y) (at_most xs ys) t))
    (or_cases (ltb x y) (eqb x y && at_most xs ys) e)

both_ways : (xs ys : List ℕ) → length xs ≡ length ys → at_most xs ys ≡ true → at_most ys xs ≡ true → xs ≡ ys
both_ways [] [] h e f = refl
both_ways [] (y ∷ ys) h e f = absurd (omega arith)
both_ways (x ∷ xs) [] h e f = absurd (omega arith)
both_ways (x ∷ xs) (y ∷ ys) h e f =
    ⊎_elim
    (λ a. ⊎_elim (λ b. absurd (omega arith)) (λ b. absurd (omega (arith, b.0))) (at-most-cons y ys x xs f))
    (λ a. ⊎_elim
    (λ b. absurd (omega (arith, a.0)))
    (λ b. rw (a.0, both_ways xs ys (omega arith) a.1 b.1))
    (at-most-cons y ys x xs f))
    (at-most-cons x xs y ys e)

-- No other list is reported.
pub one-report : (r : Rule) (ps qs : List ℕ) → Reported r ps → Reported r qs → ps ≡ qs
one-report r ps qs (none f) (none g) = refl
one-report r ps qs (none f) (loop {ps = us} s h) = clash s.loop (f us)
one-report r ps qs (loop {ps = us} s h) (none g) = clash s.loop (g us)
one-report r ps qs (loop {ps = us} s h) (loop {ps = vs} t k) = both_ways us vs (omega (arith, s.fewest vs t.loop, t.fewest us s.loop)) (h vs t) (k us s)
