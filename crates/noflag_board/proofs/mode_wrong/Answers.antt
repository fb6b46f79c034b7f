-- `noflag_board::mode_wrong` meets its contract.
use Rattle.noflag_board.proofs.mode_wrong.Goals as goal

pub returns : goal.returns
returns c = simp c.size_ok-size_right.ensures
