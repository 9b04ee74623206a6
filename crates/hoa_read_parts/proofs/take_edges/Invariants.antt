-- `take_edges` meets its contract: the edge lines up to place end were read, and their transitions stored; each line goes on.
use Rattle.std.proofs.Common.{◌≡◌, ◌+◌, ◌-◌, ◌≤◌, ℕ, List, length}
use lib.Seq.{sets}
use Rattle.hoa_laws.specs.Parts.{Edging}
use Rattle.hoa_read_parts.proofs.take_edges.Given as goal

abbrev pub invariant-loop-end : goal.invariant-loop-end
invariant-loop-end l = record {
  onward : l.p ≤ l.end;
  few : l.count ≤ l.end;
  edges : List ℕ;
  read : Edging l.text l.p l.b l.n l.i edges l.low l.end;
  counted : l.count ≡ l.m + length edges;
  stored : l.transitions ≡ sets l.fn.transitions l.m edges;
}

abbrev pub decreases-loop-end : goal.decreases-loop-end
decreases-loop-end l = length l.text - l.end
