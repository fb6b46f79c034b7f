-- `unit::lmt_report` meets its contract.
use Rattle.unit.proofs.Making.{report_flat}
use Rattle.unit.proofs.lmt_report.Goals as goal

pub returns : goal.returns
returns c = report_flat c.args.f _ _ _ c.from.ensures c.report.ensures c.from-2.ensures
