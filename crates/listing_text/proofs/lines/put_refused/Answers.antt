-- `put_refused` meets its contract: its words one after the other.
use Rattle.std.proofs.Common.{arith}
use Rattle.listing_lines_spec.specs.Lines.{refused_line}
use Rattle.listing_lines_spec.proofs.Lengths.{refused-length}
use Rattle.slice_text.proofs.Puts.{put_then}
use Rattle.listing_text.proofs.lines.put_refused.Goals as goal

pub put-a-requires : goal.put-a-requires
put-a-requires c = omega (arith, c.requires, refused-length c.args.row)

pub put_word-b-requires : goal.put_word-b-requires
put_word-b-requires c = omega (arith, c.requires, c.put-a.ensures.ends, c.put-a.ensures.fits, refused-length c.args.row)

pub put_byte-requires : goal.put_byte-requires
put_byte-requires c = omega (arith, c.requires, c.put-a.ensures.ends, c.put_word-b.ensures.ends, c.put_word-b.ensures.fits, refused-length c.args.row)

pub returns : goal.returns
unfolding refused_line
returns c = put_then c.put-a.ensures (put_then c.put_word-b.ensures c.put_byte.ensures)
