-- `flagging::flag_pass` meets its contract: one scan that flags each cell as it is found is the whole pass.
use Rattle.flagging.proofs.AsFound.{pass_is}
use Rattle.flagging.proofs.flag_pass.Goals as goal

pub returns : goal.returns
returns c = pass_is _ _ _ _ _ _ _ _ _ _ c.from-rows.ensures c.from-columns.ensures c.flag_rows.ensures c.with_flag.ensures
