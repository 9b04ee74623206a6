-- `number_at` meets its contract: the two bytes, low byte first, but not above 512.
use Rattle.std.proofs.Common.{◌≡◌, ◌+◌, List, ℕ, suc, get_or, ap, add-one, arith}
use Rattle.live_spec.specs.State.{number_at_lem}
use Rattle.live_set.proofs.letters.number_at.Goals as goal

-- the place of the second byte, as the definition writes it
high : (state : List ℕ) (at : ℕ) → get_or state (at + 1) 0 ≡ get_or state (suc at) 0
high state at = ap (λ (k : ℕ). get_or state k 0) (add-one at)

pub returns-then-n-gt512 : goal.returns-then-n-gt512
unfolding number_at_lem
returns-then-n-gt512 c = omega (arith, high c.args.state.now c.args.at)

pub returns : goal.returns
unfolding number_at_lem
returns c = omega (arith, high c.args.state.now c.args.at)
