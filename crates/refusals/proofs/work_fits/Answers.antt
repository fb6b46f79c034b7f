-- `refusals::work_fits` meets its contract.
use Rattle.refusals.proofs.Refusals.{work_is}
use Rattle.refusals.proofs.work_fits.Goals as goal

pub returns : goal.returns
returns c = work_is _ _ c.cell_count-cells.ensures.0 _
