-- The masks of the search: the states from which a walk of one length leads to t.
use mathlib.Core.Path.{◌≡◌, refl, sym, ◌∙◌, ap}
use mathlib.Core.Logic.{◌⊎◌, ⊎_elim}
use mathlib.Core.Bool.{Bool, true, false, ◌&&◌, ◌||◌, cond, false≢true, or_assoc}
use mathlib.Core.List.{List, [], ◌∷◌}
use Prim.Native.Nat.{ℕ, zero, suc, ◌<◌}
use lib.Dec.{eqb}
use lib.ListN.{length}
use borrow.Author.Tests.{eqb-true, eq-eqb}
use Rattle.sets.specs.Tests.{Set, some_below}
use Rattle.sets.specs.Masks.{bit}
use Rattle.sets.specs.Lists.{any_of, all_of}
use Rattle.sets.proofs.Bools.{clash, and_l, and_r, and_i, or_l, or_r, or_cases}
use Rattle.sets.proofs.Tests.{some_at, some-get}
use Rattle.sets.proofs.Masks.{bit_mask}
use Rattle.sets.proofs.Bits.{bit-shl-one, bit-none}
use Rattle.sets.proofs.Lists.{any-cons}
use Rattle.loop_spec.specs.Loops.{along, all_below}
use Rattle.loop_spec.specs.Search.{leads_by, sources, step_back_lem, ways}
use Rattle.loop_spec.proofs.Walks.{below_parts, below-i}

module _ (n : ℕ) (es : List ℕ) where
  source-out : (m q : ℕ) → q < n → bit (sources n es m) q ≡ true → (p : ℕ) × (p < n) × (leads_by es q p ≡ true) × (bit m p ≡ true)
  unfolding sources
  source-out m q l e =
      let s = some-get n (λ p. leads_by es q p && bit m p) (sym (bit_mask n (λ q. some_below n (λ p. leads_by es q p && bit m p)) q l) ∙ e) in
      (s.0, s.1, and_l (leads_by es q s.0) (bit m s.0) s.2, and_r (leads_by es q s.0) (bit m s.0) s.2)

  source_in : (m q p : ℕ) → q < n → p < n → leads_by es q p ≡ true → bit m p ≡ true → bit (sources n es m) q ≡ true
  unfolding sources
  source_in m q p l k e b =
      bit_mask n (λ q. some_below n (λ p. leads_by es q p && bit m p)) q l ∙ some_at n (λ p. leads_by es q p && bit m p) p k (and_i e b)

  module _ (other : Set) (t : ℕ) (t-state : t < n) where
    abbrev pub any : ℕ → ℕ
    any k = (ways n es other t k).any

    abbrev pub mixed : ℕ → ℕ
    mixed k = (ways n es other t k).mixed

    any-suc : (k : ℕ) → any (suc k) ≡ sources n es (any k)
    unfolding ways step_back_lem
    any-suc k = refl

    mixed-suc : (k q : ℕ) → q < n → bit (mixed (suc k)) q ≡ bit (sources n es (mixed k)) q || (bit (any (suc k)) q && other q)
    unfolding ways step_back_lem
    mixed-suc k q l = bit_mask n _ q l

    any-zero : (p : ℕ) → bit (any zero) p ≡ eqb t p
    unfolding ways
    any-zero p = bit-shl-one t p

    mixed-zero : (p : ℕ) → bit (mixed zero) p ≡ false
    unfolding ways
    mixed-zero p = bit-none p

    -- the states ps lead on from q to t
    pub record Leads (q : ℕ) (ps : List ℕ) : Type 0 where
      pub states : all_below n ps ≡ true
      pub steps : along (leads_by es) q ps t ≡ true

    leads-nil : (q : ℕ) → leads_by es q t ≡ true → Leads q []
    unfolding all_below all_of along
    leads-nil q e = record { states = refl; steps = e }

    leads-cons : (q p : ℕ) (ps : List ℕ) → p < n → leads_by es q p ≡ true → Leads p ps → Leads q (p ∷ ps)
    unfolding along
    leads-cons q p ps l e w = record { states = below-i n p ps l w.states; steps = and_i e w.steps }

    leads-last : (q : ℕ) → Leads q [] → leads_by es q t ≡ true
    unfolding along
    leads-last q w = w.steps

    leads-parts : (q p : ℕ) (ps : List ℕ) → Leads q (p ∷ ps) → (p < n) × (leads_by es q p ≡ true) × Leads p ps
    unfolding along
    leads-parts q p ps w =
        let (l, b) = below_parts n p ps w.states in
        let e = leads_by es q p in let f = along (leads_by es) p ps t in
        (l, and_l e f w.steps, record { states = b; steps = and_r e f w.steps })

    -- ---- any walk

    any-walk : (k q : ℕ) → q < n → bit (any (suc k)) q ≡ true → (ps : List ℕ) × (length ps ≡ k) × Leads q ps
    any-walk zero q l e =
        let s = source-out (any zero) q l (rw any-suc at e) in
        let i = eqb-true t s.0 (sym (any-zero s.0) ∙ s.3) in
        ([], refl, leads-nil q (rw i s.2))
    any-walk (suc k) q l e =
        let s = source-out (any (suc k)) q l (rw any-suc at e) in
        let w = any-walk k s.0 s.1 s.3 in
        (s.0 ∷ w.0, ap suc w.1, leads-cons q s.0 w.0 s.1 s.2 w.2)

    walk_any : (q : ℕ) (ps : List ℕ) → q < n → Leads q ps → bit (any (suc (length ps))) q ≡ true
    walk_any q [] l w = rw any-suc (source_in (any zero) q t l t-state (leads-last q w) (any-zero t ∙ eq-eqb t t refl))
    walk_any q (p ∷ ps) l w = let (k, s, v) = leads-parts q p ps w in rw any-suc (source_in (any (suc (length ps))) q p l k s (walk_any p ps k v))

    -- ---- walks that pass a state of the other kind

    -- k states that lead on from q to t; q or one of them is of the other kind
    abbrev pub MixedWalk : ℕ → ℕ → Type 0
    MixedWalk k q = (ps : List ℕ) × (length ps ≡ k) × Leads q ps × (any_of (q ∷ ps) other ≡ true)

    -- q is
    walk_here : (k q : ℕ) → q < n → bit (any (suc k)) q && other q ≡ true → MixedWalk k q
    walk_here k q l e =
        let w = any-walk k q l (and_l (bit (any (suc k)) q) (other q) e) in
        (w.0, w.1, w.2, any-cons other q w.0 ∙ or_l (other q) (any_of w.0 other) (and_r (bit (any (suc k)) q) (other q) e))

    mixed-cases : (k q : ℕ) → q < n → bit (mixed (suc k)) q ≡ true → (bit (sources n es (mixed k)) q ≡ true) ⊎ (bit (any (suc k)) q && other q ≡ true)
    mixed-cases k q l e = or_cases (bit (sources n es (mixed k)) q) (bit (any (suc k)) q && other q) (sym (mixed-suc k q l) ∙ e)

    mixed-walk : (k q : ℕ) → q < n → bit (mixed (suc k)) q ≡ true → MixedWalk k q
    mixed-walk zero q l e =
        ⊎_elim (λ s. let p = source-out (mixed zero) q l s in clash p.3 (mixed-zero p.0)) (λ s. walk_here zero q l s) (mixed-cases zero q l e)
    mixed-walk (suc k) q l e =
        ⊎_elim
        (λ s. let p = source-out (mixed (suc k)) q l s in
        let w = mixed-walk k p.0 p.1 p.3 in
        (p.0 ∷ w.0, ap suc w.1, leads-cons q p.0 w.0 p.1 p.2 w.2, any-cons other q (p.0 ∷ w.0) ∙ or_r (other q) (any_of (p.0 ∷ w.0) other) w.3))
        (λ s. walk_here (suc k) q l s)
        (mixed-cases (suc k) q l e)

    mixed-here : (q : ℕ) (ps : List ℕ) → q < n → Leads q ps → other q ≡ true → bit (mixed (suc (length ps))) q ≡ true
    mixed-here q ps l w o =
        mixed-suc (length ps) q l ∙ or_r (bit (sources n es (mixed (length ps))) q) (bit (any (suc (length ps))) q && other q) (and_i (walk_any q ps l w) o)

    walk-mixed : (q : ℕ) (ps : List ℕ) → q < n → Leads q ps → any_of (q ∷ ps) other ≡ true → bit (mixed (suc (length ps))) q ≡ true
    unfolding any_of
    walk-mixed q [] l w e = ⊎_elim (λ o. mixed-here q [] l w o) (λ o. absurd (false≢true o)) (or_cases (other q) false (sym (any-cons other q []) ∙ e))
    walk-mixed q (p ∷ ps) l w e =
        ⊎_elim
        (λ o. mixed-here q (p ∷ ps) l w o)
        (λ o. let (k, s, v) = leads-parts q p ps w in
        mixed-suc (suc (length ps)) q l
        ∙ or_l (bit (sources n es (mixed (suc (length ps)))) q) (bit (any (suc (suc (length ps)))) q && other q)
        (source_in (mixed (suc (length ps))) q p l k s (walk-mixed p ps k v o)))
        (or_cases (other q) (any_of (p ∷ ps) other) (sym (any-cons other q (p ∷ ps)) ∙ e))

    -- ---- by whether a state of the other kind was passed before

    -- k states lead on from q to t as wanted
    abbrev pub can : ℕ → Bool → ℕ → Bool
    can k passed q = bit (cond passed (any (suc k)) (mixed (suc k))) q

    pub record Goes (passed : Bool) (q : ℕ) (ps : List ℕ) : Type 0 where
      pub leads : Leads q ps
      pub passes : passed || any_of (q ∷ ps) other ≡ true

    pub can-walk : (k : ℕ) (passed : Bool) (q : ℕ) → q < n → can k passed q ≡ true → (ps : List ℕ) × (length ps ≡ k) × Goes passed q ps
    can-walk k true q l e = let w = any-walk k q l e in (w.0, w.1, record { leads = w.2; passes = refl })
    can-walk k false q l e = let w = mixed-walk k q l e in (w.0, w.1, record { leads = w.2; passes = w.3 })

    pub walk_can : (passed : Bool) (q : ℕ) (ps : List ℕ) → q < n → Goes passed q ps → can (length ps) passed q ≡ true
    walk_can true q ps l g = walk_any q ps l g.leads
    walk_can false q ps l g = walk-mixed q ps l g.leads g.passes

    -- one state further
    pub goes_parts : (passed : Bool) (q p : ℕ) (ps : List ℕ) → Goes passed q (p ∷ ps) → (p < n) × (leads_by es q p ≡ true) × Goes (passed || other q) p ps
    goes_parts passed q p ps g =
        let (l, e, w) = leads-parts q p ps g.leads in
        (l, e, record { leads = w; passes = or_assoc passed (other q) (any_of (p ∷ ps) other) ∙ ap (λ (b : Bool). passed || b) (sym (any-cons other q (p ∷ ps))) ∙ g.passes })

    pub goes-cons : (passed : Bool) (q p : ℕ) (ps : List ℕ) → p < n → leads_by es q p ≡ true → Goes (passed || other q) p ps → Goes passed q (p ∷ ps)
    goes-cons passed q p ps l e g =
        record { leads = leads-cons q p ps l e g.leads; passes = ap (λ (b : Bool). passed || b) (any-cons other q (p ∷ ps)) ∙ sym (or_assoc passed (other q) (any_of (p ∷ ps) other)) ∙ g.passes }
