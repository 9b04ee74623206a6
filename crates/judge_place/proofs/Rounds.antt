-- The laws of rounds: what opening a state keeps, that something grows, and that the masks are right when nothing is left to open.
use mathlib.Core.Path.{◌≡◌, refl, sym, ◌∙◌, ap, subst}
use mathlib.Core.Logic.{by_cases}
use mathlib.Core.Bool.{Bool, true, false, ◌&&◌, not, cond, true≢false, false≢true, not-not, ◌||◌}
use mathlib.Core.List.{List, [], ◌∷◌}
use Prim.Native.Nat.{ℕ, zero, suc, ◌+◌, ◌*◌, ◌^◌, ◌≤◌, ◌<◌}
use native.Mathlib.Omega.{arith}
use native.Mathlib.Nat.{zero-add}
use native.Mathlib.Decide.{ℕ_discrete}
use lib.Dec.{eqb}
use lib.ListN.{length, get_or, set, replicate, length-set, length-replicate, get_or-replicate}
use lib.Seq.{get_or-set_same, get_or-set_other, set-get_or, ext_get_or}
use borrow.Author.Tests.{eq-eqb, ne_eqb, eqb-true, eqb-false}
use Rattle.sets.specs.Tests.{Set}
use Rattle.sets.specs.Masks.{bit, mask, exclusive}
use Rattle.sets.proofs.Bools.{bif, and_l, and_r, and_i, not_t, not_f}
use Rattle.sets.proofs.Masks.{mask_lt, bit_mask, mask-trim}
use Rattle.sets.proofs.Bits.{bit_high, bit-ext, subset-le}
use Rattle.sets.proofs.Tests.{count-lt, count-max}
use Rattle.theory.specs.Rule.{Rule}
use Rattle.theory.specs.Components.{reaches}
use Rattle.theory.specs.Passing.{Passing}
use Rattle.theory.specs.Automaton.{automaton}
use Rattle.theory.specs.Core.{is_open}
use Rattle.theory.specs.Truth.{height_of, truth_masks}
use Rattle.theory_laws.proofs.Components.{reach-refl}
use Rattle.theory_laws.proofs.Truth.{truth-length, truth-lt}
use Rattle.theory_laws.proofs.TruthLaws.{sound-step, layer-truth}
use Rattle.judge_place.specs.Rounds.{layer_of, open_in, opens, opened, Part, extent, Round}

-- what holds at place p of a new mask, and elsewhere of the old ones
pub split-set : (Q : ℕ → ℕ → Type 0) (ms : List ℕ) (p v : ℕ) → p < length ms → Q p v → ((j : ℕ) → Q j (get_or ms j 0)) → (j : ℕ) → Q j (get_or (set ms p v) j 0)
split-set Q ms p v l a b j = by_cases (ℕ_discrete j p) (λ e. rw (e, get_or-set_same ms p v 0 l) a) (λ e. rw (get_or-set_other ms p j v 0 e) (b j))

-- a state of one side, and of the other
xor_self : (a : Bool) → exclusive a a ≡ false
xor_self true = refl
xor_self false = refl

xor-other : (a : Bool) → exclusive a (not a) ≡ true
xor-other true = refl
xor-other false = refl

xor-back : (a b c : Bool) → exclusive a b ≡ exclusive a c → b ≡ c
xor-back true b c e = sym (not-not b) ∙ ap not e ∙ not-not c
xor-back false b c e = e

-- ---- one height

module _ (r : Rule) (P : Passing r) (cycle : List ℕ) (repeats : 0 < length cycle) (h : ℕ) where
  abbrev T : ℕ → ℕ
  T p = get_or (truth_masks r [] cycle) p 0

  eight : (q : ℕ) → q < r.n → q < 8
  eight q l = omega (arith, P.formed.few_states)

  layer-in : (q : ℕ) → q < r.n → height_of r q ≡ h → bit (layer_of r h) q ≡ true
  layer-in q l e = bit_mask r.n (λ p. eqb (height_of r p) h) q l ∙ eq-eqb _ _ e

  layer-out : (q : ℕ) → q < r.n → (height_of r q ≡ h → ⊥) → bit (layer_of r h) q ≡ false
  layer-out q l e = bit_mask r.n (λ p. eqb (height_of r p) h) q l ∙ ne_eqb _ _ e

  module _ (ms : List ℕ) (p : ℕ) where
    abbrev v : ℕ
    v = opened r cycle (layer_of r h) ms p

    opened-at : (q : ℕ) → q < 8 → bit v q ≡ cond (bit (layer_of r h) q && opens r cycle ms p q) (not (bit r.accepting q)) (bit (get_or ms p 0) q)
    unfolding opened
    opened-at q l = bit_mask 8 (λ x. cond (bit (layer_of r h) x && opens r cycle ms p x) (not (bit r.accepting x)) (bit (get_or ms p 0) x)) q l

    opened_out : (q : ℕ) → q < r.n → (height_of r q ≡ h → ⊥) → bit v q ≡ bit (get_or ms p 0) q
    opened_out q l e = opened-at q (eight q l) ∙ rw (layer-out q l e)

    opened-yes : (q : ℕ) → q < r.n → height_of r q ≡ h → opens r cycle ms p q ≡ true → bit v q ≡ not (bit r.accepting q)
    opened-yes q l e o = opened-at q (eight q l) ∙ rw (layer-in q l e, o)

    opened-no : (q : ℕ) → q < r.n → height_of r q ≡ h → opens r cycle ms p q ≡ false → bit v q ≡ bit (get_or ms p 0) q
    opened-no q l e o = opened-at q (eight q l) ∙ rw (layer-in q l e, o)

    opened-lt : get_or ms p 0 < 2 ^ r.n → v < 2 ^ r.n
    unfolding opened
    opened-lt k =
        let f : Set = λ q. cond (bit (layer_of r h) q && opens r cycle ms p q) (not (bit r.accepting q)) (bit (get_or ms p 0) q) in
        let e : v ≡ mask r.n f = mask-trim 8 r.n f P.formed.few_states
        (λ q l m. ap (λ (b : Bool). cond (b && opens r cycle ms p q) (not (bit r.accepting q)) (bit (get_or ms p 0) q)) (bit_high r.n (layer_of r h) q (mask_lt r.n _) l)
        ∙ bit_high r.n (get_or ms p 0) q k l) in
        rw e (mask_lt r.n f)

  -- opening what the following mask opens keeps the masks a part of the way
  pub part-opened : (ms : List ℕ) (p : ℕ) → p < length cycle → Part r cycle h ms → Part r cycle h (set ms p (opened r cycle (layer_of r h) ms p))
  unfolding is_open automaton
  part-opened ms p l k =
      let w = opened r cycle (layer_of r h) ms p in
      let s : p < length ms = omega (arith, k.long) in
      record {
        long = length-set ms p w ∙ k.long;
        known = λ j q a b c. split-set (λ i m. (q : ℕ) → i < length cycle → q < r.n → height_of r q < h → bit m q ≡ bit (T i) q) ms p w s
            (λ x y z e. opened_out ms p x z (λ t. omega arith) ∙ k.known p x y z e)
            (λ i x y z e. k.known i x y z e) j q a b c;
        sound = λ j q a b c. split-set (λ i m. (q : ℕ) → i < length cycle → q < r.n → height_of r q ≡ h → open_in r m q ≡ true → open_in r (T i) q ≡ true) ms p w s
            (λ x y z e o. bif (opens r cycle ms p x)
            (λ t. sound-step r P [] cycle repeats (λ i. bit (get_or ms i 0)) h
            (λ i u c d f. k.known i u (omega arith) d f) (λ i u c d f g. k.sound i u (omega arith) d f g) p x (omega arith) z e t)
            (λ t. k.sound p x y z e (ap (exclusive (bit r.accepting x)) (sym (opened-no ms p x z e t)) ∙ o)))
            (λ i x y z e. k.sound i x y z e) j q a b c;
        later = λ j q a b c. split-set (λ i m. (q : ℕ) → i < length cycle → q < r.n → h < height_of r q → bit m q ≡ bit r.accepting q) ms p w s
            (λ x y z e. opened_out ms p x z (λ t. omega arith) ∙ k.later p x y z e)
            (λ i x y z e. k.later i x y z e) j q a b c;
        low = λ j a. split-set (λ i m. i < length cycle → m < 2 ^ r.n) ms p w s (λ x. opened-lt ms p (k.low p x)) (λ i x. k.low i x) j a;
      }

  -- with nothing left to open this height is done
  pub part-done : (ms : List ℕ) → Part r cycle h ms → ((p : ℕ) → p < length cycle → opened r cycle (layer_of r h) ms p ≡ get_or ms p 0) → Part r cycle (h + 1) ms
  unfolding is_open automaton
  part-done ms k d =
      let right : (p q : ℕ) → p < length cycle → q < r.n → height_of r q ≡ h → bit (get_or ms p 0) q ≡ bit (T p) q
      = λ p q l m e. layer-truth r P [] cycle repeats (λ i. bit (get_or ms i 0)) h
      (λ i u c d f. k.known i u (omega arith) d f) (λ i u c d f g. k.sound i u (omega arith) d f g)
      (λ i u c m f o. let e = ap (λ (x : ℕ). bit x u) (sym (d i (omega arith))) ∙ opened-yes ms i u m f o in ap (exclusive (bit r.accepting u)) e ∙ xor-other (bit r.accepting u))
      p q (omega arith) m e in
      record {
        long = k.long;
        known = λ p q l m e. by_cases (ℕ_discrete (height_of r q) h) (λ x. right p q l m x) (λ x. k.known p q l m (omega arith));
        sound = λ p q l m e o. let x = k.later p q l m (omega arith) in absurd (false≢true (sym (ap (exclusive (bit r.accepting q)) x ∙ xor_self (bit r.accepting q)) ∙ o));
        later = λ p q l m e. k.later p q l m (omega arith);
        low = k.low;
      }

-- ---- the start and the end

module _ (r : Rule) (P : Passing r) (cycle : List ℕ) where
  height-low : (q : ℕ) → q < r.n → 0 < height_of r q
  unfolding height_of
  height-low q l = let x = count-lt q r.n (reaches r q) l (reach-refl r q l) in omega arith

  height-top : (q : ℕ) → height_of r q ≤ r.n
  unfolding height_of
  height-top q = count-max r.n (reaches r q)

  -- every state closed
  pub part-start : (ms : List ℕ) → ms ≡ replicate (length cycle) r.accepting → Part r cycle 1 ms
  part-start ms e =
      let at : (p : ℕ) → p < length cycle → get_or ms p 0 ≡ r.accepting = λ p l. rw e (get_or-replicate (length cycle) p r.accepting 0 l) in
      record {
        long = ap length e ∙ length-replicate (length cycle) r.accepting;
        known = λ p q l m k. absurd (let x = height-low q m in omega arith);
        sound = λ p q l m k o. absurd (false≢true (sym (ap (λ (x : ℕ). open_in r x q) (at p l) ∙ xor_self (bit r.accepting q)) ∙ o));
        later = λ p q l m k. ap (λ (x : ℕ). bit x q) (at p l);
        low = λ p l. rw (at p l) P.formed.accepting_states;
      }

  -- every height done
  pub part_end : (ms : List ℕ) → Part r cycle (r.n + 1) ms → ms ≡ truth_masks r [] cycle
  part_end ms k =
      let t : length (truth_masks r [] cycle) ≡ length cycle = truth-length r [] cycle ∙ zero-add (length cycle) in
      ext_get_or 0 ms (truth_masks r [] cycle) (omega (arith, k.long))
      (λ p l. let m : p < length cycle = omega (arith, k.long) in
      bit-ext r.n _ _ (k.low p m) (truth-lt r [] cycle p) (λ q x. k.known p q m x (let y = height-top q in omega arith)))

-- ---- growth

module _ (r : Rule) (cycle : List ℕ) (layer : ℕ) where
  -- the open states of the layer in a mask
  abbrev weight : ℕ → ℕ
  weight m = mask 8 (λ q. bit layer q && open_in r m q)

  extent-set : (ms : List ℕ) (p v : ℕ) → p < length ms → extent r cycle layer (set ms p v) + weight (get_or ms p 0) ≡ extent r cycle layer ms + weight v
  unfolding extent
  extent-set [] p v l = absurd (omega arith)
  extent-set (m ∷ ms) zero v l = omega arith
  extent-set (m ∷ ms) (suc p) v l = let ih = extent-set ms p v (omega arith) in omega arith

  pub extent-le : (ms : List ℕ) → extent r cycle layer ms ≤ 255 * length ms
  unfolding extent
  extent-le [] = omega arith
  extent-le (m ∷ ms) = let ih = extent-le ms in let k = mask_lt 8 (λ q. bit layer q && open_in r m q) in omega arith

  module _ (ms : List ℕ) (p : ℕ) (small : get_or ms p 0 < 256) where
    abbrev new : ℕ
    new = opened r cycle layer ms p

    new-at : (q : ℕ) → q < 8 → bit new q ≡ cond (bit layer q && opens r cycle ms p q) (not (bit r.accepting q)) (bit (get_or ms p 0) q)
    unfolding opened
    new-at q l = bit_mask 8 (λ x. cond (bit layer x && opens r cycle ms p x) (not (bit r.accepting x)) (bit (get_or ms p 0) x)) q l

    new-lt : new < 256
    unfolding opened
    new-lt = mask_lt 8 (λ x. cond (bit layer x && opens r cycle ms p x) (not (bit r.accepting x)) (bit (get_or ms p 0) x))

    new-open : (q : ℕ) → q < 8 → open_in r (get_or ms p 0) q ≡ true → open_in r new q ≡ true
    new-open q l o =
        bif (bit layer q && opens r cycle ms p q)
        (λ t. let e : bit new q ≡ not (bit r.accepting q) = new-at q l ∙ rw t in ap (exclusive (bit r.accepting q)) e ∙ xor-other (bit r.accepting q))
        (λ t. let e : bit new q ≡ bit (get_or ms p 0) q = new-at q l ∙ rw t in ap (exclusive (bit r.accepting q)) e ∙ o)

    weight-le : weight (get_or ms p 0) ≤ weight new
    weight-le =
        subset-le 8 _ _ (mask_lt 8 _)
        (λ q l b. let x = sym (bit_mask 8 (λ t. bit layer t && open_in r (get_or ms p 0) t) q l) ∙ b in
        bit_mask 8 (λ t. bit layer t && open_in r new t) q l ∙ and_i (and_l (bit layer q) _ x) (new-open q l (and_r (bit layer q) _ x)))

    weight-same : weight (get_or ms p 0) ≡ weight new → new ≡ get_or ms p 0
    weight-same e =
        bit-ext 8 _ _ new-lt small
        (λ q l. bif (bit layer q)
        (λ t. let x : (bit layer q && open_in r (get_or ms p 0) q) ≡ (bit layer q && open_in r new q)
        = sym (bit_mask 8 (λ t. bit layer t && open_in r (get_or ms p 0) t) q l) ∙ ap (λ (m : ℕ). bit m q) e ∙ bit_mask 8 (λ t. bit layer t && open_in r new t) q l in
        sym (xor-back (bit r.accepting q) (bit (get_or ms p 0) q) (bit new q) (rw t at x)))
        (λ t. new-at q l ∙ rw t))

    -- a mask that changes grows
    pub grows : p < length ms → (new ≡ get_or ms p 0 → ⊥) → extent r cycle layer ms < extent r cycle layer (set ms p new)
    grows l n =
        let b = weight-le in
        by_cases (ℕ_discrete (weight (get_or ms p 0)) (weight new)) (λ e. absurd (n (weight-same e))) (λ e. omega (arith, extent-set ms p new l))

-- ---- one round: places p and on are passed

pub record Walk (r : Rule) (cycle : List ℕ) (layer : ℕ) (old ms : List ℕ) (changed : Bool) (p : ℕ) : Type 0 where
  pub long : length ms ≡ length old
  pub part : (h : ℕ) → layer ≡ layer_of r h → Part r cycle h old → Part r cycle h ms
  pub same : changed ≡ false → ms ≡ old
  pub still : changed ≡ false → (j : ℕ) → p ≤ j → j < length cycle → opened r cycle layer ms j ≡ get_or ms j 0
  pub most : extent r cycle layer old ≤ extent r cycle layer ms
  pub grown : changed ≡ true → extent r cycle layer old < extent r cycle layer ms

module _ (r : Rule) (cycle : List ℕ) (layer : ℕ) (old : List ℕ) where
  module _ (P : Passing r) (repeats : 0 < length cycle) (ms : List ℕ) (changed : Bool) (p : ℕ) (w : Walk r cycle layer old ms changed (p + 1)) (fits : length old ≡ length cycle)
      (l : p < length cycle) (small : get_or ms p 0 < 256) where
    room : p < length ms
    room = omega (arith, w.long)

    parted : (h : ℕ) → layer ≡ layer_of r h → Part r cycle h old → Part r cycle h (set ms p (opened r cycle layer ms p))
    parted h e k = subst (λ (a : ℕ). Part r cycle h (set ms p (opened r cycle a ms p))) (sym e) (part-opened r P cycle repeats h ms p l (w.part h e k))

    -- the mask at p changed
    pub walk-changed : (opened r cycle layer ms p ≡ get_or ms p 0 → ⊥) → Walk r cycle layer old (set ms p (opened r cycle layer ms p)) true p
    walk-changed n =
        let g = grows r cycle layer ms p small room n in
        record {
          long = length-set ms p _ ∙ w.long;
          part = parted;
          same = λ e. absurd (true≢false e);
          still = λ e. absurd (true≢false e);
          most = omega (arith, w.most);
          grown = λ e. omega (arith, w.most);
        }

    -- it did not
    pub walk_same : opened r cycle layer ms p ≡ get_or ms p 0 → Walk r cycle layer old (set ms p (opened r cycle layer ms p)) changed p
    walk_same e =
        let kept : set ms p (opened r cycle layer ms p) ≡ ms = ap (set ms p) e ∙ set-get_or ms p 0 in
        rw kept (record {
          long = w.long;
          part = w.part;
          same = w.same;
          still = λ f j a b. by_cases (ℕ_discrete j p) (λ x. rw x e) (λ x. w.still f j (omega arith) b);
          most = w.most;
          grown = w.grown;
        })

    -- either way
    pub walk-next : (b : Bool) → not (eqb (opened r cycle layer ms p) (get_or ms p 0)) ≡ b → Walk r cycle layer old (set ms p (opened r cycle layer ms p)) (b || changed) p
    walk-next true t = walk-changed (eqb-false _ _ (not_t _ t))
    walk-next false t = walk_same (eqb-true _ _ (not_f _ t))

-- ---- rounds until nothing is opened

pub record Rounds (r : Rule) (cycle : List ℕ) (layer : ℕ) (old ms : List ℕ) : Type 0 where
  pub long : length ms ≡ length old
  pub part : (h : ℕ) → layer ≡ layer_of r h → Part r cycle h old → Part r cycle h ms

pub rounds-on : (r : Rule) (cycle : List ℕ) (layer : ℕ) (old ms t : List ℕ) (changed : Bool) → Rounds r cycle layer old ms → Round r cycle layer ms t changed → Rounds r cycle layer old t
rounds-on r cycle layer old ms t changed a b = record { long = b.long ∙ a.long; part = λ h e k. b.part h e (a.part h e k) }
