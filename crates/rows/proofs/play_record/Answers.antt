-- `rows::play_record` meets its contract.
use Rattle.rows.proofs.Records.{entry_played, entry_ended}
use Rattle.rows.proofs.play_record.Goals as goal

pub returns : goal.returns
returns c = let a = c.args in entry_played a.mines.now a.section.now a.e a.p a.shown.now a.bits.now a.work.now c.nth.ensures _ c.in-Some.is c.next_event.ensures

pub returns-in_default : goal.returns-in_default
returns-in_default c = let a = c.args in entry_ended a.mines.now a.section.now a.e a.p a.shown.now a.bits.now a.work.now c.nth.ensures c.in_default.is c.refused.ensures
