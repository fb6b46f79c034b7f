-- `writing::put_number` meets its contract: the space, then the number.
use Rattle.writing.proofs.Putting.{put_then}
use Rattle.writing.proofs.put_number.Goals as goal

pub returns : goal.returns
returns c = put_then c.put_byte-next.ensures c.put_decimal.ensures
