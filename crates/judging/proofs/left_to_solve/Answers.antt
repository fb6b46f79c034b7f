-- `judging::left_to_solve`: both counts added up, the work cleared in between.
use native.Mathlib.Omega.{arith}
use Rattle.judging.proofs.Tallying.{cleared, board_few, left_is}
use Rattle.judging.proofs.left_to_solve.Goals as goal

pub overflow_add-result : goal.overflow_add-result
overflow_add-result c = omega (arith, board_few _ _ _ _ _ _ _ _ c.judge_board-openings.ensures, c.lone_board-numbers.ensures.few, c.requires.mined.sized.cells)

pub returns : goal.returns
returns c = record {
  outcome = left_is _ _ _ _ _ _ _ _ c.judge_board-openings.ensures c.lone_board-numbers.ensures;
  same = cleared _ _ _ _ c.requires.zeros c.judge_board-openings.ensures.rest c.judge_board-openings.ensures.long c.clear.ensures c.clear.auto.work;
}
