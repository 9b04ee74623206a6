-- `build_cores::used_ranks` meets its contract.
use Prim.Native.Nat.{◌-◌, ◌*◌, ◌/◌, ◌%◌, ◌^◌, ◌<◌}
use native.Mathlib.Omega.{arith}
use lib.Bits.{and_mask, and_le_r}
use lib.Count.{count_trailing_zeros}
use Rattle.sets.proofs.Members.{least_lt}
use Rattle.sets.proofs.Bits.{shl_one}
use Rattle.build_cores.specs.Vectors.{rank_at}
use Rattle.build_cores.proofs.Gaps.{Walk, walk_start, walk-on, walk_end, rank-low}
use Rattle.build_cores.proofs.used_ranks.Statement.{statement}
use Rattle.build_cores.proofs.used_ranks.Tie as tie

abbrev invariant-loop : tie.invariant-loop-left
invariant-loop ranks part found₀ left₀ found left = (left < 256) × Walk ranks part found left

abbrev decreases-loop : tie.decreases-loop-left
decreases-loop ranks part found₀ left₀ found left = left

abbrev Start : Type 0
Start = tie.Start invariant-loop decreases-loop

-- the least state of what is left is a state
below : (c : tie.In-loop-left invariant-loop decreases-loop) → count_trailing_zeros 8 c.before.loop-left.left < 8
below c = least_lt 8 c.before.loop-left.left (omega arith) (omega arith)

cast-found-2 : tie.Need-overflow_cast-found-in-loop-left invariant-loop decreases-loop
cast-found-2 c = let start : Start = search in rw (and_mask (start.args.ranks / 2 ^ (4 * count_trailing_zeros 8 c.before.loop-left.left)) 4) (omega arith)

shl-found : tie.Need-overflow_shl-found invariant-loop decreases-loop
shl-found c = let start : Start = search in rw (and_mask (start.args.ranks / 2 ^ (4 * count_trailing_zeros 8 c.before.loop-left.left)) 4) (omega arith)

loop-again : tie.Need-loop-left-preserved invariant-loop decreases-loop
unfolding rank_at
loop-again c = let l = c.before.loop-left in let start : Start = search in let x = start.args.ranks in let q = count_trailing_zeros 8 l.left in
    let low : rank_at x q < 16 = rank-low x q in (
      omega (arith, and_le_r l.left (l.left - 1)),
      rw (and_mask (x / 2 ^ (4 * q)) 4) (walk-on x start.args.part l.found l.left (1 * 2 ^ rank_at x q % 4294967296) (omega arith) low (shl_one 32 (rank_at x q) (omega arith))
          (omega (arith, and_le_r l.left (l.left - 1))) l.invariant.1),
    )

returns : tie.Need-returns invariant-loop decreases-loop
returns c =
    let l = c.before.loop-left in let start : Start = search in walk_end start.args.ranks start.args.part l.found l.left c.loop-left-test.false l.invariant.1

pub used_ranks_spec : {M : Type 1} → statement M
used_ranks_spec = tie.close (tie.spec
    invariant-loop decreases-loop (λ c. (omega arith, walk_start c.args.ranks c.args.part (omega arith))) (λ c. omega (arith, below c)) (λ c. omega (arith, below c))
    (λ c. omega (arith, below c)) cast-found-2 shl-found (λ c. omega arith) (λ c. omega (arith, and_le_r c.before.loop-left.left (c.before.loop-left.left - 1))) loop-again returns)
