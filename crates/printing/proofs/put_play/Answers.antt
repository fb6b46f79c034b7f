-- `printing::put_play` meets its contract.
use Rattle.printing.proofs.Ending.{play_line}
use Rattle.printing.proofs.put_play.Goals as goal

pub returns : goal.returns
returns c = play_line _ _ c.from-game.ensures c.from-mouse.ensures c.put_event_line.ensures
