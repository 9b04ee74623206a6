-- A walk along the chain of the earlier core writes a transition for each of its keys.
use mathlib.Core.Path.{◌≡◌, refl, ap, sym, ◌∙◌}
use mathlib.Core.Logic.{◌⊎◌, ⊎_elim, by_cases}
use mathlib.Core.Bool.{Bool, true, false, true≢false}
use mathlib.Core.List.{List}
use Prim.Native.Nat.{ℕ, ◌+◌, ◌*◌, ◌%◌, ◌≤◌, ◌<◌}
use native.Mathlib.Omega.{arith}
use native.Mathlib.Decide.{dec_lt}
use lib.ListN.{length, get_or}
use Rattle.codes.specs.Codes.{transition_of}
use Rattle.build_spec.specs.Chains.{key_at, link_at, bucket_of, Chained, Found}
use Rattle.build_spec.proofs.Chains.{bucket-low}
use Rattle.build_spec.proofs.Walks.{Walked, walk_from, walk-below, walk_inside, walk-part, walk-next}
use Rattle.build_spec.specs.Emission.{Emitted, Crossing, Crossings}
use Rattle.build_spec.proofs.Emission.{emitted-none, emitted_then}

-- the key that place p goes on to is there, and at no other place
pub crossed : {earlier core : ℕ} {onto : ℕ → ℕ} (a : ℕ) {keys heads last : List ℕ} {n : ℕ} (p : ℕ) {r : ℕ} → Chained keys heads last n → Found keys n (core * 256 + onto (key_at keys p % 256)) r → r < n
    → (y : ℕ) → Crossing earlier core onto a keys n p y → y ≡ transition_of p a r
crossed {core = core} {onto} a {keys} {n = n} p {r} C f l y h = h.3 ∙ ap (transition_of p a) (only h.0 h.1 h.2.to)
  where
    only : (t : ℕ) → t < n → key_at keys t ≡ core * 256 + onto (key_at keys p % 256) → t ≡ r
    only t k e = by_cases (dec_lt t r)
        (λ b. absurd (C.once t r b l (e ∙ sym (f.hit l))))
        (λ b. by_cases (dec_lt r t) (λ c. absurd (C.once r t c k (f.hit l ∙ sym e))) (λ c. omega arith))

module _ (earlier core : ℕ) (onto : ℕ → ℕ) (a : ℕ) (keys : List ℕ) (n : ℕ) where
  -- from a place from d on
  abbrev From : ℕ → ℕ → Type 0
  From d y = (p : ℕ) × (d ≤ p) × (p < n) × Crossing earlier core onto a keys n p y

  -- the walk has come to place i, and wrote the transitions from the places of the bucket behind it
  pub record Turn (xs : List ℕ) (m : ℕ) (ys : List ℕ) (r : ℕ) (full : Bool) (i : ℕ) : Type 0 where
    pub room : full ≡ false
    pub walked : Walked (λ d. Emitted (From d) xs m ys r full) keys n (bucket_of earlier) i

module _ {earlier core : ℕ} {onto : ℕ → ℕ} {a : ℕ} {keys : List ℕ} {n : ℕ} {xs : List ℕ} {m : ℕ} where
  pub turn-start : {heads last : List ℕ} → Chained keys heads last n → 0 < n → m ≤ length xs → Turn earlier core onto a keys n xs m xs m false (get_or heads (bucket_of earlier) 0)
  turn-start C h l = record { room = refl; walked = walk_from h (C.begin (bucket_of earlier) (bucket-low earlier)) (emitted-none l (λ y f. omega (arith, f.1, f.2))) }

  module _ {ys : List ℕ} {r : ℕ} {full : Bool} {i : ℕ} (t : Turn earlier core onto a keys n xs m ys r full i) {heads last : List ℕ} (C : Chained keys heads last n) {zs : List ℕ} {u : ℕ} {full' : Bool}
      (g : Emitted (Crossing earlier core onto a keys n i) ys r zs u full') where
    -- transitions from different places are different
    apart : (y : ℕ) → From earlier core onto a keys n t.walked.done y → Crossing earlier core onto a keys n i y → ⊥
    apart y f h = let e : transition_of f.0 a f.3.0 ≡ transition_of i a h.0 = sym f.3.3 ∙ h.3 in
        omega (arith, walk-below t.walked, f.1, f.3.1, h.1, C.fits, C.few)

    all : (y : ℕ) → From earlier core onto a keys n t.walked.done y ⊎ Crossing earlier core onto a keys n i y → Crossings earlier core onto a keys n y
    all y = ⊎_elim (λ f. (f.0, f.2, f.3)) (λ h. (i, walk_inside t.walked, h))

    part : (p y : ℕ) → i ≤ p → p < n → Crossing earlier core onto a keys n p y → From earlier core onto a keys n t.walked.done y ⊎ Crossing earlier core onto a keys n i y
    part = walk-part t.walked (Crossing earlier core onto a keys n) (λ p y f. ap bucket_of f.2.from)

    -- no room
    pub turn-full : full' ≡ true → Emitted (Crossings earlier core onto a keys n) xs m zs u full'
    turn-full e = emitted_then t.walked.made t.room g apart all (λ f. absurd (true≢false (sym e ∙ f)))

    -- at the end of the chain, place 0
    pub turn_end : i ≡ 0 → Emitted (Crossings earlier core onto a keys n) xs m zs u full'
    turn_end z = emitted_then t.walked.made t.room g apart all (λ e y h. part h.0 y (omega arith) h.1 h.2)

    -- on along the link
    pub turn-next : full' ≡ false → (i ≡ 0 → ⊥) → Turn earlier core onto a keys n xs m zs u full' (link_at keys i)
    turn-next e o = record {
      room = e;
      walked = walk-next t.walked C.links o (emitted_then t.walked.made t.room g apart
          (λ y. ⊎_elim (λ f. (f.0, omega (arith, f.1, walk-below t.walked), f.2, f.3)) (λ h. (i, omega arith, walk_inside t.walked, h)))
          (λ e y f. part f.0 y f.1 f.2 f.3));
    }
