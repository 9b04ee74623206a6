-- `take_digits` meets its contract: x is what the digits up to place q tell, and the text goes on there.
use Rattle.std.proofs.Common.{◌≡◌, ◌≤◌, ◌<◌, ◌++◌, length, drop}
use Rattle.slice_text.specs.Decimal.{decimal}
use Rattle.hoa_read_parts.proofs.lines.take_digits.Given as goal

abbrev pub invariant-loop-q : goal.invariant-loop-q
invariant-loop-q l = record {
  inside : l.q < length l.text;
  small : l.x ≤ 65536;
  so_far : decimal l.v ++ drop l.p l.text ≡ decimal l.x ++ drop l.q l.text;
}
