-- The computed masks hold exactly the states from which the rule accepts by some plan.
use mathlib.Core.Path.{◌≡◌, refl, sym, ◌∙◌, ap}
use mathlib.Core.Logic.{◌↔◌, ⊎_elim, by_cases}
use mathlib.Core.Bool.{Bool, true, false, not, cond}
use mathlib.Core.List.{List, Memᴰ}
use Prim.Native.Nat.{ℕ, zero, suc, ◌*◌, ◌^◌, ◌<◌}
use native.Mathlib.Omega.{arith}
use native.Mathlib.Decide.{dec_lt, ℕ_discrete}
use lib.Dec.{eqb}
use lib.ListN.{length, get_or, get_or-eq_default}
use borrow.Author.Tests.{eq-eqb, ne_eqb}
use Rattle.sets.specs.Tests.{Set}
use Rattle.sets.specs.Masks.{bit, mask, exclusive}
use Rattle.sets.specs.Lists.{tabulate}
use Rattle.sets.proofs.Bools.{bif}
use Rattle.sets.proofs.Masks.{mask_lt, bit_mask}
use Rattle.sets.proofs.Bits.{bit-none, bit_below}
use Rattle.sets.proofs.Lists.{length-tabulate, tabulate-at}
use Rattle.theory.specs.Rule.{Rule, entry, satisfies}
use Rattle.theory.specs.Passing.{Passing}
use Rattle.theory.specs.Automaton.{Automaton, automaton}
use Rattle.theory.specs.Layered.{Layered}
use Rattle.theory.specs.Core.{is_open}
use Rattle.theory.specs.Word.{places, next_place_lem, letter_at_lem, WordOver}
use Rattle.theory.specs.Plan.{AcceptsFrom}
use Rattle.theory.specs.Truth.{height_of, layer, rounds_at, solved_below, truth_masks}
use Rattle.theory_laws.proofs.Certified.{rounds, solved}
use Rattle.theory_laws.proofs.Components.{height, height-in}
use Rattle.theory_laws.proofs.FixedPoint.{Sp, exact, near-open}
use Rattle.theory_laws.proofs.Layers.{layered}
use Rattle.theory_laws.proofs.Places.{next-place-low}
use Rattle.theory_laws.proofs.PlanOfSet.{accepted}
use Rattle.theory_laws.proofs.Pursuit.{open-kind, open_of}
use Rattle.theory_laws.proofs.Satisfies.{satisfies-ext}
use Rattle.theory_laws.proofs.Settled.{settled-in-ext, settled-all}
use Rattle.theory_laws.proofs.SetOfPlan.{true-in}

-- the layers by height
unfoldable pub heights : (r : Rule) → Passing r → Layered (automaton r)
unfolding layered
heights r P = layered r P

pub height-is : (r : Rule) (q : ℕ) → q < r.n → height_of r q ≡ height r q
unfolding height_of
height-is r q l = sym (height-in r q l)

tabulated : (k : ℕ) (f : ℕ → ℕ) (i : ℕ) → i < k → get_or (tabulate k f 0) i 0 ≡ f i
tabulated k f i l = tabulate-at k f 0 i l ∙ ap f (omega arith)

module _ (r : Rule) (P : Passing r) (lead cycle : List ℕ) (repeats : 0 < length cycle) where
  abbrev A : Automaton
  A = automaton r

  abbrev L : ℕ
  L = places lead cycle

  abbrev next : ℕ → ℕ
  next = next_place_lem lead cycle

  abbrev letter : ℕ → ℕ
  letter = letter_at_lem lead cycle

  -- the sets that FixedPoint solves, for the heights below h
  abbrev sets : ℕ → ℕ → Set
  sets h = solved A next letter (height r) (L * A.n) h

  layer-at : (h : ℕ) (f : ℕ → ℕ → Bool) (ms : List ℕ) (p q : ℕ) → p < L → q < r.n
      → bit (get_or (layer r lead cycle h f ms) p 0) q ≡ cond (eqb (height r q) h) (f p q) (bit (get_or ms p 0) q)
  unfolding layer
  layer-at h f ms p q l k =
      let g : Set = λ x. cond (eqb (height_of r x) h) (f p x) (bit (get_or ms p 0) x) in
      ap (λ (m : ℕ). bit m q) (tabulated L _ p l) ∙ bit_mask r.n g q k ∙ ap (λ (x : ℕ). cond (eqb x h) (f p q) (bit (get_or ms p 0) q)) (height-is r q k)

  layer-in : (h : ℕ) (f : ℕ → ℕ → Bool) (ms : List ℕ) (p q : ℕ) → p < L → q < r.n → height r q ≡ h → bit (get_or (layer r lead cycle h f ms) p 0) q ≡ f p q
  layer-in h f ms p q l k e = layer-at h f ms p q l k ∙ ap (λ (b : Bool). cond b (f p q) (bit (get_or ms p 0) q)) (eq-eqb _ _ e)

  layer-out : (h : ℕ) (f : ℕ → ℕ → Bool) (ms : List ℕ) (p q : ℕ) → p < L → q < r.n → (height r q ≡ h → ⊥) → bit (get_or (layer r lead cycle h f ms) p 0) q ≡ bit (get_or ms p 0) q
  layer-out h f ms p q l k e = layer-at h f ms p q l k ∙ ap (λ (b : Bool). cond b (f p q) (bit (get_or ms p 0) q)) (ne_eqb _ _ e)

  -- other heights keep their states
  rounds-out : (h : ℕ) (ms : List ℕ) (d p q : ℕ) → p < L → q < r.n → (height r q ≡ h → ⊥) → bit (get_or (rounds_at r lead cycle h ms d) p 0) q ≡ bit (get_or ms p 0) q
  unfolding rounds_at
  rounds-out h ms zero p q l k e = layer-out h _ ms p q l k e
  rounds-out h ms (suc d) p q l k e = layer-out h _ (rounds_at r lead cycle h ms d) p q l k e ∙ rounds-out h ms d p q l k e

  -- after d rounds the open states of height h are those discharged within d rounds
  rounds-open : (h : ℕ) (ms : List ℕ) → ((p q : ℕ) → p < L → q < r.n → bit (get_or ms p 0) q ≡ sets h p q)
      → (d p q : ℕ) → p < L → q < r.n → height r q ≡ h → is_open A (bit (get_or (rounds_at r lead cycle h ms d) p 0)) q ≡ rounds A next letter (sets h) d p q
  unfolding rounds_at automaton rounds heights
  rounds-open h ms below zero p q l k e =
      bif (bit r.accepting q) (λ a. open-kind A true _ q a ∙ ap not (layer-in h _ ms p q l k e ∙ a))
      (λ a. open-kind A false _ q a ∙ layer-in h _ ms p q l k e ∙ a)
  rounds-open h ms below (suc d) p q l k e =
      let t = rounds_at r lead cycle h ms d in
      let S = bit (get_or t (next p) 0) in
      let z = next-place-low lead cycle repeats p l in
      let inner : (c x : ℕ) → Memᴰ c (A.entry q (letter p)) → x < A.n → bit c x ≡ true → A.component x ≡ A.component q → rounds A next letter (sets h) d (next p) x ≡ is_open A S x
      = λ c x m i b s. sym (rounds-open h ms below d (next p) x z i ((heights r P).level x q i k s ∙ e)) in
      let outer : (c x : ℕ) → Memᴰ c (A.entry q (letter p)) → x < A.n → bit c x ≡ true → (A.component x ≡ A.component q → ⊥) → sets h (next p) x ≡ S x
      = λ c x m i b n. ⊎_elim (λ s. absurd (n s))
      (λ lt. sym (rounds-out h ms d (next p) x z i (λ s. omega arith) ∙ below (next p) x z i))
      ((heights r P).down q (letter p) c x k i m b) in
      open-kind A (A.accepting q) _ q refl ∙ ap (exclusive (A.accepting q)) (layer-in h _ t p q l k e)
      ∙ sym (settled-in-ext A _ S _ (is_open A S) q _ inner outer ∙ settled-all A (heights r P) S q k _)

  solved-is : (h p q : ℕ) → p < L → q < r.n → bit (get_or (solved_below r lead cycle h) p 0) q ≡ sets h p q
  unfolding solved_below solved automaton
  solved-is zero p q l k = ap (λ (m : ℕ). bit m q) (tabulated L (λ x. 0) p l) ∙ bit-none q
  solved-is (suc h) p q l k =
      by_cases (ℕ_discrete (height r q) h)
      (λ e. let o = rounds-open h (solved_below r lead cycle h) (solved-is h) (L * r.n) p q l k e in
      rw (eq-eqb _ _ e) (open_of A (A.accepting q) _ _ q refl o))
      (λ e. rw (ne_eqb _ _ e) (rounds-out h (solved_below r lead cycle h) (L * r.n) p q l k e ∙ solved-is h p q l k))

  -- the masks' bits
  abbrev pub truth : ℕ → Set
  truth p = bit (get_or (truth_masks r lead cycle) p 0)

  -- the certified sets of the word
  abbrev pub certain : ℕ → Set
  certain = Sp A (heights r P) L next letter (next-place-low lead cycle repeats)

  pub truth-certain : (p q : ℕ) → p < L → q < r.n → truth p q ≡ certain p q
  unfolding truth_masks heights automaton
  truth-certain p q l k = solved-is (suc r.n) p q l k

  pub truth-exact : (p q : ℕ) → p < L → q < r.n → truth p q ≡ satisfies r.n (truth (next p)) (entry r q (letter p))
  unfolding automaton
  truth-exact p q l k =
      truth-certain p q l k ∙ exact A (heights r P) L next letter (next-place-low lead cycle repeats) p q l k
      ∙ satisfies-ext r.n _ _ (λ x m. sym (truth-certain (next p) x (next-place-low lead cycle repeats p l) m)) (entry r q (letter p))

  -- acceptance from a pair is decided by the masks
  pub truth-accepts : (p q : ℕ) → p < L → q < r.n → (truth p q ≡ true) ↔ AcceptsFrom r lead cycle q p
  unfolding automaton
  truth-accepts p q l k = (
    λ t. accepted A (heights r P) L next letter (next-place-low lead cycle repeats) certain (exact A (heights r P) L next letter (next-place-low lead cycle repeats)) (L * A.n)
        (near-open A (heights r P) L next letter (next-place-low lead cycle repeats)) q p k l (sym (truth-certain p q l k) ∙ t),
    λ a. truth-certain p q l k ∙ true-in A (heights r P) L next letter (next-place-low lead cycle repeats) certain (exact A (heights r P) L next letter (next-place-low lead cycle repeats)) (L * A.n)
        (near-open A (heights r P) L next letter (next-place-low lead cycle repeats)) q p a k l,
  )

-- the masks are as many as the places, and hold no state but the rule's
module _ (r : Rule) (lead cycle : List ℕ) where
  record Sized (ms : List ℕ) : Type 0 where
    long : length ms ≡ places lead cycle
    low : (p : ℕ) → get_or ms p 0 < 2 ^ r.n

  sized-table : (f : ℕ → Set) → Sized (tabulate (places lead cycle) (λ p. mask r.n (f p)) 0)
  sized-table f = record {
    long = length-tabulate (places lead cycle) _ 0;
    low = λ p. by_cases (dec_lt p (places lead cycle))
        (λ l. rw (tabulated (places lead cycle) (λ x. mask r.n (f x)) p l) (mask_lt r.n (f p)))
        (λ l. let h = length-tabulate (places lead cycle) (λ x. mask r.n (f x)) 0 in
        let k = mask_lt r.n (f p) in
        let e : get_or (tabulate (places lead cycle) (λ x. mask r.n (f x)) 0) p 0 ≡ 0 = get_or-eq_default (tabulate (places lead cycle) (λ x. mask r.n (f x)) 0) 0 {n = p} (omega arith) in
        omega arith);
  }

  sized-rounds : (h : ℕ) (ms : List ℕ) (d : ℕ) → Sized (rounds_at r lead cycle h ms d)
  unfolding rounds_at layer
  sized-rounds h ms zero = sized-table _
  sized-rounds h ms (suc d) = sized-table _

  sized-truth : Sized (truth_masks r lead cycle)
  unfolding truth_masks solved_below
  sized-truth = sized-rounds r.n (solved_below r lead cycle r.n) (places lead cycle * r.n)

  pub truth-length : length (truth_masks r lead cycle) ≡ places lead cycle
  truth-length = sized-truth.long

  pub truth-lt : (p : ℕ) → get_or (truth_masks r lead cycle) p 0 < 2 ^ r.n
  truth-lt p = sized-truth.low p

-- the judge's masks: "the mask of accepting pairs' states"
pub truth-bit : (r : Rule) (lead cycle : List ℕ) → Passing r → WordOver r.s lead cycle → (q p : ℕ) → q < 8 → p < places lead cycle
    → (bit (get_or (truth_masks r lead cycle) p 0) q ≡ true) ↔ ((q < r.n) × AcceptsFrom r lead cycle q p)
truth-bit r lead cycle P W q p l k = (
  λ t. let b = bit_below r.n _ q (truth-lt r lead cycle p) t in (b, (truth-accepts r P lead cycle W.repeats p q k b).0 t),
  λ a. (truth-accepts r P lead cycle W.repeats p q k a.0).1 a.1,
)
