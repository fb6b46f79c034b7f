-- `trainer::ask` meets its contract.
use Rattle.trainer.proofs.Scoring.{asked_made}
use Rattle.trainer.proofs.ask.Goals as goal

pub returns : goal.returns
returns c = asked_made _ _ _ _ c.hint_on-hint.ensures c.after_hint-after.ensures
