-- `settled_code` meets its contract: a mark below 3 goes, another loses 2.
use Rattle.std.proofs.Common.{◌≡◌, ◌-◌, ◌/◌, ◌%◌, ◌^◌, bit_and, arith}
use Rattle.std.proofs.lemmas.Bool.{lt-ltb, le-ltb}
use lib.Bits.{and_mask}
use Rattle.graph_walks.specs.Marks.{settled}
use Rattle.trim.proofs.marks.settled_code.Goals as goal

pub returns-then-c-lt3 : goal.returns-then-c-lt3
unfolding settled
returns-then-c-lt3 c =
    let x = c.args.c in let out : settled (x / 2 ^ 48) ≡ 0 = rw (lt-ltb (x / 2 ^ 48) 3 (omega arith)) in let low : bit_and x 281474976710655 ≡ x % 2 ^ 48 = and_mask x 48 in
    (omega arith, omega arith)

pub returns : goal.returns
unfolding settled
returns c = let x = c.args.c in let back : settled (x / 2 ^ 48) ≡ x / 2 ^ 48 - 2 = rw (le-ltb (x / 2 ^ 48) 3 (omega arith)) in (omega arith, omega arith)
