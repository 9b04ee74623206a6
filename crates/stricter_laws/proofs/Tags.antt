-- What tags show, and that the lists come back without them.
use mathlib.Core.Path.{◌≡◌, sym, ◌∙◌, ap}
use mathlib.Core.Bool.{Bool, ◌&&◌}
use mathlib.Core.List.{List, Memᴰ}
use Prim.Native.Nat.{ℕ, ◌+◌, ◌*◌, ◌/◌, ◌%◌, ◌^◌, ◌≤◌, ◌<◌}
use native.Mathlib.Omega.{arith}
use lib.Dec.{eqb, ltb}
use lib.ListN.{length, get_or}
use lib.Pow.{shr-shr}
use lib.Seq.{ext_get_or}
use borrow.Author.Tests.{lt-ltb}
use Rattle.sets.specs.Masks.{bit, mask}
use Rattle.sets.proofs.Lists.{mem-at}
use Rattle.sets.proofs.Masks.{bit_mask}
use Rattle.slice_search.proofs.LowParts.{low-long, low-at}
use Rattle.theory.specs.Automaton.{Automaton}
use Rattle.theory.specs.Run.{source_of, letter_of_lem, target_of}
use Rattle.trim_spec.specs.Graph.{Inside}
use Rattle.stricter_spec.specs.Tags.{first_of, spares_at, TaggedCodes, told_of, ToldCodes, tag_of, TaggedMoves, core_number_lem, row_of_lem, onto_of_lem, sparing, untagged, plain}
use Rattle.stricter_spec.specs.Tables.{Shown}
use Rattle.stricter_laws.proofs.First.{first-low}

-- ---- without tags, by place

pub untagged-long : (ts : List ℕ) → length (untagged ts) ≡ length ts
untagged-long ts = low-long 1099511627776 ts

pub untagged-at : (ts : List ℕ) (i : ℕ) → get_or (untagged ts) i 0 ≡ get_or ts i 0 % 1099511627776
untagged-at ts i = low-at 1099511627776 (omega arith) ts i

-- ---- the lists come back

pub codes-back : (codes marks tagged : List ℕ) → ToldCodes codes marks tagged → ((i : ℕ) → i < length codes → get_or codes i 0 < 281474976710656) → plain tagged ≡ codes
codes-back codes marks tagged T low =
    ext_get_or 0 (plain tagged) codes (low-long 281474976710656 tagged ∙ T.long)
    (λ i l. let m : i < length codes = omega (arith, low-long 281474976710656 tagged, T.long) in omega (arith, low-at 281474976710656 (omega arith) tagged i, T.each i m, low i m))

pub told-number : {codes marks tagged : List ℕ} → ToldCodes codes marks tagged → ((i : ℕ) → i < length codes → get_or codes i 0 < 281474976710656)
    → (i : ℕ) → i < length codes → core_number_lem (get_or tagged i 0) ≡ told_of codes marks i
told-number T low i l = omega (arith, T.each i l, low i l)

pub core-number : {codes tagged : List ℕ} → TaggedCodes codes tagged → ((i : ℕ) → i < length codes → get_or codes i 0 < 281474976710656)
    → (i : ℕ) → i < length codes → core_number_lem (get_or tagged i 0) ≡ first_of codes i
core-number T low i l = omega (arith, T.each i l, low i l)

pub moves-back : (A : Automaton) (codes moves tagged : List ℕ) → TaggedMoves A codes moves tagged → ((t : ℕ) → Memᴰ t moves → t < 1099511627776) → untagged tagged ≡ moves
moves-back A codes moves tagged T low =
    ext_get_or 0 (untagged tagged) moves (untagged-long tagged ∙ T.long)
    (λ i l. let m : i < length moves = omega (arith, untagged-long tagged, T.long) in omega (arith, untagged-at tagged i, T.each i m, low _ (mem-at moves i m)))

-- ---- what they show

-- a digit of the part above
bit-above : (k x y q : ℕ) → x / 2 ^ k ≡ y → bit x (k + q) ≡ bit y q
unfolding bit
bit-above k x y q e = ap (λ (z : ℕ). eqb (z % 2) 1) (sym (shr-shr x k q) ∙ ap (λ (z : ℕ). z / 2 ^ q) e)

module _ {A : Automaton} {codes moves tagged : List ℕ} (few : A.components ≤ 8) (low : length codes ≤ 65536) (I : Inside (length codes) moves) (T : TaggedMoves A codes moves tagged) where
  module _ (k : ℕ) (l : k < length moves) where
    abbrev move : ℕ
    move = get_or moves k 0

    abbrev spared : ℕ
    spared = mask 8 (λ K. ltb K A.components && spares_at A codes move K)

    tagged-at : get_or tagged k 0 ≡ move + 1099511627776 * (first_of codes (target_of move) + 65536 * spared)
    unfolding tag_of
    tagged-at = T.each k l

    source-low : source_of move < 65536
    source-low = let h = I.sources move (mem-at moves k l) in omega arith

    core-low : first_of codes (target_of move) < 65536
    core-low = let h = first-low codes (target_of move) in omega arith

    row_is : row_of_lem (get_or tagged k 0) ≡ source_of move
    row_is = omega (arith, tagged-at, source-low, core-low)

    letter-is : letter_of_lem (get_or tagged k 0) ≡ letter_of_lem move
    letter-is = omega (arith, tagged-at, source-low, core-low)

    onto_is : onto_of_lem (get_or tagged k 0) ≡ first_of codes (target_of move)
    onto_is = omega (arith, tagged-at, source-low, core-low)

    top-is : get_or tagged k 0 / 2 ^ 56 ≡ spared
    top-is = omega (arith, tagged-at, source-low, core-low)

    spares-is : (K : ℕ) → K < A.components → sparing (get_or tagged k 0) K ≡ spares_at A codes move K
    unfolding sparing
    spares-is K h =
        bit-above 56 (get_or tagged k 0) spared K top-is
        ∙ bit_mask 8 (λ K. ltb K A.components && spares_at A codes move K) K (omega arith)
        ∙ ap (λ (b : Bool). b && spares_at A codes move K) (lt-ltb K A.components h)

  pub shown : Shown codes moves A.components (first_of codes) (spares_at A codes) tagged
  shown = record { long = T.long; row = row_is; letter = letter-is; onto = onto_is; spares = λ k K l h. spares-is k l K h }
