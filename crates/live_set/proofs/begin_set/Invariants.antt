-- `begin_set` meets its contract: the bytes before the index are those of the initial macrostates.
use Rattle.std.proofs.Common.{◌≡◌, ℕ, ◌<◌, get_or}
use Rattle.sets.specs.Masks.{bit}
use Rattle.sets.specs.Tests.{one}
use Rattle.theory.specs.Macrostate.{begun}
use Rattle.table_lent.specs.Lent.{words_in}
use Rattle.live_set.proofs.begin_set.Given as goal

abbrev pub invariant-loop-i : goal.invariant-loop-i
invariant-loop-i l = (j : ℕ) → j < l.i → get_or l.set j 0 ≡ one (begun (λ c. bit c l.fn.initial) (get_or (words_in l.codes) j 0))
