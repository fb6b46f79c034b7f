-- `cells::face_at` meets its contract.
use lib.ListN.{get_or}
use lib.IntN.{pos}
use Rattle.cells.proofs.Face.{face_mine, face_number}
use Rattle.cells.proofs.face_at.Goals as goal

pub returns-then-v-lt0 : goal.returns-then-v-lt0
returns-then-v-lt0 c = face_mine (get_or c.args.mines.now c.args.cell (pos 0)) (c.requires.valued _ c.requires.cell_in_bounds) c.if-v-lt0.true

pub overflow_cast-result : goal.overflow_cast-result
overflow_cast-result c = (face_number (get_or c.args.mines.now c.args.cell (pos 0)) (c.requires.valued _ c.requires.cell_in_bounds) c.if-v-lt0.false).0

pub returns : goal.returns
returns c = (face_number (get_or c.args.mines.now c.args.cell (pos 0)) (c.requires.valued _ c.requires.cell_in_bounds) c.if-v-lt0.false).1
