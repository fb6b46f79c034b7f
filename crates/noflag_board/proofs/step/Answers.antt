-- `noflag_board::step` meets its contract: what is not played, and what the board's step plays on the code resolved.
use Rattle.noflag_board.proofs.Stepping.{step_unplayed, step_played}
use Rattle.noflag_board.proofs.step.Goals as goal

pub returns-then-barred-mode : goal.returns-then-barred-mode
returns-then-barred-mode c = let a = c.args in step_unplayed a.p a.code a.row a.column _ _ _ _ _ _ c.forbidden-barred.ensures c.if-barred-mode.true c.unplayed.ensures

pub returns : goal.returns
returns c = let a = c.args in step_played a.p a.code a.row a.column _ _ _ _ _ _ _ _ _ _ _ _ _ c.forbidden-barred.ensures c.if-barred-mode.false c.code_at-plain.ensures c.flip-middle.ensures c.with_middle-q.ensures c.step-a.ensures c.given_back.ensures
