-- `game::play_event` meets its contract.
use Rattle.game.proofs.Steps.{event_counts}
use Rattle.game.proofs.play_event.Goals as goal

pub returns : goal.returns
returns c = let a = c.args in record { outcome = event_counts _ a.p a.e c.by_game-o.result _ _ _ _ _ c.by_game-o.ensures.outcome c.counted.ensures; same = c.by_game-o.ensures.same }
