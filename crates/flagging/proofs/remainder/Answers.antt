-- `flagging::remainder` meets its contract: the difference of two numbers below 9 fits a signed byte.
use Rattle.flagging.proofs.Signed.{sub_fits, sub_is}
use Rattle.flagging.proofs.remainder.Goals as goal

pub overflow_sub-result : goal.overflow_sub-result
overflow_sub-result c = sub_fits _ _ c.requires.0 c.requires.1

pub returns : goal.returns
returns c = sub_is _ _ c.requires.0 c.requires.1
