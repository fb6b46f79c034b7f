-- `player::mine_board` meets its contract: by the law, and not by counting.
use mathlib.Core.Path.{sym}
use lib.IntN.{ℤ, pos}
use lib.ListN.{length-replicate}
use Rattle.player.proofs.mine_board.Goals as goal

pub returns : goal.returns
returns c = sym (length-replicate {0} {A = ℤ} 2048 (pos 0))
