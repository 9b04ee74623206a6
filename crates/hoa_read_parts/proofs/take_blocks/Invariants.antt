-- `take_blocks` meets its contract: the lines of the numbers below i were read, and their transitions stored.
use Rattle.std.proofs.Common.{◌≡◌, ◌≤◌, ◌<◌, ℕ, List, length}
use lib.Seq.{sets}
use Rattle.hoa_laws.specs.Parts.{Blocking}
use Rattle.hoa_read_parts.proofs.take_blocks.Given as goal

abbrev pub invariant-loop-i : goal.invariant-loop-i
invariant-loop-i l = record {
  goes_on : 0 < l.end;
  few : l.count ≤ l.end;
  moves : List ℕ;
  read : Blocking l.text l.p l.b l.n l.i l.accepting moves l.end;
  counted : l.count ≡ length moves;
  stored : l.transitions ≡ sets l.fn.transitions 0 moves;
}
