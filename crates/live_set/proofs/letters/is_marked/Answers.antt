-- `is_marked` meets its contract: a byte that is not 0 is above 0.
use Rattle.std.proofs.Common.{◌∙◌, ℕ, ap}
use mathlib.Core.Bool.{not}
use lib.Dec.{eqb}
use Rattle.live_spec.specs.State.{is_marked_lem}
use Rattle.live_set.proofs.Puts.{not-zero}
use Rattle.live_set.proofs.letters.is_marked.Goals as goal

pub returns : goal.returns
unfolding is_marked_lem
returns c = ap (λ (v : ℕ). not (eqb v 0)) c.byte_at.ensures ∙ not-zero _
