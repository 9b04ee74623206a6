-- `take_starts` meets its contract: the start lines of the numbers below i were read, and their flags stored.
use Rattle.std.proofs.Common.{◌≡◌, ℕ, List}
use lib.Seq.{sets}
use Rattle.hoa_spec.specs.Shape.{flags_from}
use Rattle.hoa_laws.specs.Parts.{Starting}
use Rattle.hoa_read_parts.proofs.take_starts.Given as goal

abbrev pub invariant-loop-i : goal.invariant-loop-i
invariant-loop-i l = record {
  starts : List ℕ;
  read : Starting l.text l.p l.n l.i starts l.last l.end;
  stored : l.flags ≡ sets l.fn.flags 0 (flags_from l.accepting 0 starts);
}
