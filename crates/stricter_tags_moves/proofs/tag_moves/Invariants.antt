-- `tag_moves` meets its contract: the transitions before the place have their tags, the others are as they were.
use Rattle.std.proofs.Common.{◌≡◌, ◌+◌, ◌*◌, ◌≤◌, length, get_or}
use Rattle.sets.specs.Tests.{Set}
use Rattle.theory.specs.Automaton.{automaton}
use Rattle.theory.specs.Rule.{Rule}
use Rattle.theory.specs.TableComputed.{macrostates_from, transitions_from}
use Rattle.build_spec.specs.Tables.{RuleTables}
use Rattle.stricter_spec.specs.Tags.{TaggedCodes, tag_of}
use Rattle.stricter_laws.specs.Fill.{Filled}
use Rattle.stricter_tags_moves.proofs.tag_moves.Given as goal

abbrev pub invariant-loop-t : goal.invariant-loop-t
invariant-loop-t l = (r : Rule) (start : Set) → RuleTables r l.opens l.parts l.fn.shape → length l.codes ≤ 65536 → TaggedCodes (macrostates_from r start) l.codes
    → l.fn.moves ≡ transitions_from r start
    → Filled (λ k. get_or l.fn.moves k 0 + 1099511627776 * tag_of (automaton r) (macrostates_from r start) (get_or l.fn.moves k 0)) 0 l.t-index l.fn.moves l.moves
