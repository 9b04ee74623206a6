-- `first_of` meets its contract: the place found is that of the pair h over the core of i, or none has it.
use Rattle.std.proofs.Common.{◌≡◌, sym, ap, ◌∙◌, List, ℕ, ◌+◌, ◌*◌, ◌≤◌, ◌<◌, length, get_or, take, bit_and, arith}
use lib.Seq.{length-take-le}
use lib.Bits.{and_mask}
use borrow.Author.Rules.{scaled_Fits}
use Rattle.slice_search.specs.Places.{below}
use Rattle.slice_search.proofs.Search.{below-le}
use Rattle.stricter_spec.specs.Tags.{core_in}
use Rattle.stricter_tags_first.proofs.First.{front-asc, hit, miss, last}
use Rattle.stricter_tags_first.proofs.first_of.Goals as goal

low : (x h : ℕ) → bit_and x 1099511627775 + h * 1099511627776 ≡ core_in x + h * 1099511627776
low x h = ap (λ (y : ℕ). y + h * 1099511627776) (and_mask x 40)

-- the place is at most i
near : (codes : List ℕ) (i key : ℕ) {p : ℕ} → i < length codes → p ≡ below key (take i codes) → p ≤ i
near codes i key l e = omega (arith, below-le key (take i codes), length-take-le i codes (omega arith))

pub place-p-requires : goal.place-p-requires
place-p-requires c = (omega arith, front-asc c.args.codes.now c.args.i c.requires.0 c.requires.1)

pub offset_bounds-codes-p : goal.offset_bounds-codes-p
offset_bounds-codes-p c = scaled_Fits _ (length c.args.codes.now) 8 (omega (arith, near c.args.codes.now c.args.i _ c.requires.0 c.place-p.ensures)) c.well_formed.0.1

pub bounds-codes-p : goal.bounds-codes-p
bounds-codes-p c = omega (arith, near c.args.codes.now c.args.i _ c.requires.0 c.place-p.ensures)

pub returns-then-codes-p : goal.returns-then-codes-p
returns-then-codes-p c =
    hit c.args.codes.now c.args.i c.requires.0 c.requires.1 c.loop-h.h c.loop-h.invariant c.place-p.result (near c.args.codes.now c.args.i _ c.requires.0 c.place-p.ensures)
    (c.if-codes-p.true ∙ low (get_or c.args.codes.now c.args.i 0) c.loop-h.h)

pub loop-h-preserved : goal.loop-h-preserved
loop-h-preserved c = let e = low (get_or c.args.codes.now c.args.i 0) c.loop-h.h in
    miss c.args.codes.now c.args.i c.requires.0 c.requires.1 c.loop-h.h c.loop-h.invariant c.place-p.result
    (c.place-p.ensures ∙ ap (λ (x : ℕ). below x (take c.args.i c.args.codes.now)) e) (λ f. c.if-codes-p.false (f ∙ sym e))

pub returns : goal.returns
returns c = last c.args.codes.now c.args.i c.requires.0 c.requires.1 c.loop-h.h c.loop-h.invariant (omega arith)
