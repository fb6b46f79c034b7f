-- `lawful::states_lawful` meets its contract.
use Rattle.rules.specs.Lawful.{states_lawful}
use Rattle.lawful.proofs.states_lawful.Goals as goal

pub returns : goal.returns
unfolding states_lawful
returns c = λ B shown bits h e. simp (← c.is_not_flag.ensures, ← c.rules_ok-ruled.ensures, ← (c.game_lawful-asked.ensures B shown bits h e))
