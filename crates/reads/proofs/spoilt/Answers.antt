-- `reads::spoilt` meets its contract.
use Rattle.reads.proofs.Reading.{spoils}
use Rattle.reads.proofs.spoilt.Goals as goal

pub returns : goal.returns
returns c = spoils c.args.p _ _ _ c.with_mouse-q.ensures c.only_above-right.ensures c.with_right.ensures
