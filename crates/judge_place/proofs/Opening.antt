-- One place of a cycle: the bits of the mask that is written there.
use mathlib.Core.Path.{◌≡◌, refl, sym, ◌∙◌, ap}
use mathlib.Core.Bool.{Bool, true, false, ◌&&◌, not, cond}
use mathlib.Core.List.{List, []}
use Prim.Native.Nat.{ℕ, ◌^◌, ◌≤◌, ◌<◌}
use native.Mathlib.Omega.{arith}
use lib.Bits.{bit_and, bit_xor, xor_lt, and_le_l}
use lib.ListN.{get_or}
use Rattle.sets.specs.Tests.{Set}
use Rattle.sets.specs.Masks.{bit, exclusive}
use Rattle.sets.proofs.Bools.{and_l}
use Rattle.sets.proofs.Masks.{mask_lt, bit_mask}
use Rattle.sets.proofs.Bits.{bit-and, bit-xor, mask-unique, subset-le}
use Rattle.theory.specs.Rule.{Rule, entry, satisfies}
use Rattle.theory.specs.Word.{next_place_lem, letter_at_lem}
use Rattle.set_masks.specs.Sets.{difference_of}
use Rattle.judge_place.specs.Starts.{met_by_lem}
use Rattle.judge_place.specs.Rounds.{opens, opened}

-- l: in the layer, o: in the old mask, a: accepting, s: the entry is satisfied
turn : (l o a s : Bool) → exclusive o ((l && not (exclusive o a)) && exclusive ((l && not (exclusive o a)) && s) a) ≡ cond (l && exclusive a s) (not a) o
turn false true a s = refl
turn false false a s = refl
turn true true true true = refl
turn true true true false = refl
turn true true false true = refl
turn true true false false = refl
turn true false true true = refl
turn true false true false = refl
turn true false false true = refl
turn true false false false = refl

module _ (r : Rule) (cycle : List ℕ) (layer : ℕ) (ms : List ℕ) (p : ℕ) where
  abbrev old : ℕ
  old = get_or ms p 0

  -- the closed states of the layer
  abbrev pub closed : ℕ
  closed = difference_of layer (bit_xor old r.accepting)

  pub closed-le : layer < 2 ^ r.n → closed < 2 ^ r.n
  closed-le l =
      let k : closed ≤ layer = subset-le 8 closed layer (mask_lt 8 _) (λ q m b. and_l (bit layer q) _ (sym (bit_mask 8 (λ x. bit layer x && not (bit (bit_xor old r.accepting) x)) q m) ∙ b)) in
      omega arith

  -- the mask that is written
  pub opened-is : old < 256 → r.accepting < 256 → (met : ℕ) → met ≡ met_by_lem r (letter_at_lem [] cycle p) (get_or ms (next_place_lem [] cycle p) 0) closed
      → bit_xor old (bit_and closed (bit_xor met r.accepting)) ≡ opened r cycle layer ms p
  unfolding opened met_by_lem
  opened-is h k met e =
      let s : Set = λ q. satisfies r.n (bit (get_or ms (next_place_lem [] cycle p) 0)) (entry r q (letter_at_lem [] cycle p)) in
      let c : ℕ = closed in
      mask-unique 8 (bit_xor old (bit_and c (bit_xor met r.accepting))) (λ q. cond (bit layer q && opens r cycle ms p q) (not (bit r.accepting q)) (bit old q))
      (xor_lt 8 old (bit_and c (bit_xor met r.accepting)) h (let x = and_le_l c (bit_xor met r.accepting) in let y = mask_lt 8 (λ x. bit layer x && not (bit (bit_xor old r.accepting) x)) in
      omega arith))
      (λ q l.
      let bc : bit c q ≡ (bit layer q && not (exclusive (bit old q) (bit r.accepting q))) =
      bit_mask 8 (λ x. bit layer x && not (bit (bit_xor old r.accepting) x)) q l ∙ ap (λ (b : Bool). bit layer q && not b) (bit-xor old r.accepting q) in
      let bm : bit met q ≡ (bit c q && s q) = ap (λ (x : ℕ). bit x q) e ∙ bit_mask 8 (λ x. bit c x && s x) q l in
      rw (bit-xor old (bit_and c (bit_xor met r.accepting)) q, bit-and c (bit_xor met r.accepting) q, bit-xor met r.accepting q, bm, bc)
      (turn (bit layer q) (bit old q) (bit r.accepting q) (s q)))
