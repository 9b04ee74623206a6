-- The keys of the earlier core go on, one after the other, as a walk along their chain meets them.
use mathlib.Core.Path.{◌≡◌, refl, ap, sym, ◌∙◌}
use mathlib.Core.Logic.{◌⊎◌, by_cases}
use mathlib.Core.Bool.{Bool, true, false, true≢false}
use mathlib.Core.List.{List}
use Prim.Native.Nat.{ℕ, ◌+◌, ◌*◌, ◌/◌, ◌%◌, ◌^◌, ◌≤◌, ◌<◌}
use native.Mathlib.Omega.{arith}
use native.Mathlib.Decide.{ℕ_discrete}
use native.Mathlib.Nat.{mod-lt}
use lib.ListN.{get_or}
use lib.Bits.{bit_and, bit_or, and_mask}
use Rattle.codes.proofs.Low.{put_byte}
use Rattle.build_cores.specs.Onward.{next_in, onward_in}
use Rattle.build_cores.proofs.Pairs.{next-lt, class-count-low, onward-turn, onward-stay}
use Rattle.build_spec.specs.Chains.{key_at, link_at, bucket_of, Chained}
use Rattle.build_spec.specs.Growth.{Grown, After}
use Rattle.build_spec.proofs.Chains.{bucket-low}
use Rattle.build_spec.proofs.Walks.{Walked, walk_from, walk_inside, walk-behind, walk-part, walk-less, walk-next}
use Rattle.build_spec.proofs.Appended.{appended-none, appended-as}
use Rattle.build_spec.proofs.Growth.{grown-then}
use Rattle.build_spec.specs.Keys.{Paired, Moved}

-- a pair goes on to a pair
pub onward-low : (ranks : ℕ) (parts : List ℕ) (C : ℕ) (levels : List ℕ) (x : ℕ) → C ≤ 8 → x % 16 < C → onward_in ranks parts C levels x < 256
onward-low ranks parts C levels x few l = by_cases (ℕ_discrete (x / 16) 0)
    (λ z. let e = onward-turn ranks parts C levels x z in let n = next-lt C (x % 16) l in let k = class-count-low ranks (get_or parts (next_in C (x % 16)) 0) in omega arith)
    (λ z. let e = onward-stay ranks parts C levels x z in let k = mod-lt (get_or levels (x % 16) 0 / 2 ^ (4 * (x / 16))) {m = 16} (omega arith) in omega arith)

-- the key of a core with the pair that a key goes on to, by shifts and masks
pub key-onward : (ranks : ℕ) (parts : List ℕ) (C : ℕ) (levels : List ℕ) (core key : ℕ) {pair : ℕ} → C ≤ 8 → key % 16 < C → core < 2 ^ 40 → pair ≡ onward_in ranks parts C levels (bit_and key 255)
    → (bit_or (core * 2 ^ 8 % 2 ^ 64) pair ≡ core * 256 + onward_in ranks parts C levels (key % 256)) × (core * 256 + onward_in ranks parts C levels (key % 256) < 2 ^ 48)
key-onward ranks parts C levels core key {pair} few l fits e =
    let same : pair ≡ onward_in ranks parts C levels (key % 256) = e ∙ ap (onward_in ranks parts C levels) (and_mask key 8) in
    let low = onward-low ranks parts C levels (key % 256) few (omega arith) in
    (put_byte core pair (omega arith) (rw same low) ∙ ap (λ (x : ℕ). core * 256 + x) same, omega arith)

module _ (earlier core : ℕ) (onto : ℕ → ℕ) (xs : List ℕ) (n : ℕ) where
  -- what the keys from place d on go on to
  abbrev Gone : ℕ → ℕ → Type 0
  Gone d = After d n xs (Moved earlier core onto)

  -- the walk has come to place i, and the keys that it met have gone on
  pub record Turn (ys heads last : List ℕ) (m : ℕ) (full : Bool) (i : ℕ) : Type 0 where
    pub room : full ≡ false
    pub walked : Walked (λ d. Grown (Gone d) (Gone 0) xs n ys heads last m full) xs n (bucket_of earlier) i

module _ {earlier core : ℕ} {onto : ℕ → ℕ} {xs : List ℕ} {n : ℕ} where
  pub turn-start : {heads last : List ℕ} → Chained xs heads last n → 0 < n → Turn earlier core onto xs n xs heads last n false (get_or heads (bucket_of earlier) 0)
  turn-start C h = record { room = refl; walked = walk_from h (C.begin (bucket_of earlier) (bucket-low earlier)) (appended-none C (λ y f. absurd (omega (arith, f.1, f.2)))) }

  module _ {ys hs ls : List ℕ} {m : ℕ} {full : Bool} {i : ℕ} (t : Turn earlier core onto xs n ys hs ls m full i) where
    turn-read : get_or ys i 0 ≡ get_or xs i 0
    turn-read = t.walked.made.same i (walk_inside t.walked)

    -- the key that is read
    turn-key : bit_and (get_or ys i 0) 281474976710655 ≡ key_at xs i
    turn-key = and_mask (get_or ys i 0) 48 ∙ ap (λ (x : ℕ). x % 2 ^ 48) turn-read

    pub turn-paired : {C : ℕ} → Paired C xs n → bit_and (get_or ys i 0) 281474976710655 % 16 < C
    turn-paired p = rw turn-key (p i (walk_inside t.walked))

    pub turn-less : {hs' ls' : List ℕ} → Chained xs hs' ls' n → (i ≡ 0 → ⊥) → link_at ys i < i
    turn-less C o = rw turn-read (walk-less t.walked C.links o)

    -- the chain goes on below place `from`
    pub turn-stop : {from : ℕ} → i < from → Grown (Gone earlier core onto xs n from) (Gone earlier core onto xs n 0) xs n ys hs ls m full
    turn-stop l = appended-as t.walked.made (λ e y h. (h.0, walk-behind t.walked h.0 (omega (arith, h.1)) (ap bucket_of h.3.from), h.2, h.3)) (λ y h. h)

    module _ {zs heads last : List ℕ} {u : ℕ} {full' : Bool}
        (g : Grown (Moved earlier core onto (bit_and (get_or ys i 0) 281474976710655)) (Moved earlier core onto (bit_and (get_or ys i 0) 281474976710655)) ys m zs heads last u full') where
      after : {X : ℕ → Type 0} → (full' ≡ false → (y : ℕ) → X y → Gone earlier core onto xs n t.walked.done y ⊎ Moved earlier core onto (key_at xs i) y)
          → Grown X (Gone earlier core onto xs n 0) xs n zs heads last u full'
      after = grown-then t.walked.made t.room (appended-as (rw turn-key at g) (λ e y h. h) (λ y h. (i, omega arith, walk_inside t.walked, h)))

      -- from a place that is not below i
      upto : (d : ℕ) → i ≤ d → Grown (Gone earlier core onto xs n d) (Gone earlier core onto xs n 0) xs n zs heads last u full'
      upto d k = after (λ e y h. walk-part t.walked (λ p. Moved earlier core onto (key_at xs p)) (λ p y f. ap bucket_of f.from) h.0 y (omega (arith, h.1)) h.2 h.3)

      -- no room
      pub turn-full : {from : ℕ} → full' ≡ true → Grown (Gone earlier core onto xs n from) (Gone earlier core onto xs n 0) xs n zs heads last u full'
      turn-full e = after (λ f. absurd (true≢false (sym e ∙ f)))

      -- at the end of the chain, place 0
      pub turn_end : {from : ℕ} → i ≡ 0 → Grown (Gone earlier core onto xs n from) (Gone earlier core onto xs n 0) xs n zs heads last u full'
      turn_end {from} z = upto from (omega arith)

      -- on along the link
      pub turn-next : full' ≡ false → {hs' ls' : List ℕ} → Chained xs hs' ls' n → (i ≡ 0 → ⊥) → Turn earlier core onto xs n zs heads last u full' (link_at ys i)
      turn-next e C o = rw turn-read record { room = e; walked = walk-next t.walked C.links o (upto i (omega arith)) }
