-- `put_acceptance` meets its contract: the one text stands after the other.
use Rattle.slice_text.proofs.Puts.{put_then}
use Rattle.hoa_text.proofs.writer.put_acceptance.Goals as goal

pub returns : goal.returns
returns c = put_then c.put-a.ensures c.put.ensures
