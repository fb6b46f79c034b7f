-- `writing::put_pair` meets its contract: one digit, then the other.
use Rattle.writing.proofs.Putting.{put_then}
use Rattle.writing.proofs.put_pair.Goals as goal

pub returns : goal.returns
returns c = put_then c.put_byte-next.ensures c.put_byte.ensures
