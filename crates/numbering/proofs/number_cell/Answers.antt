-- `numbering::number_cell` meets its contract: a mine is left, and any other cell gets the count of faces 15 around it. Assumes nothing.
use mathlib.Core.Path.{sym, ◌∙◌}
use Rattle.cells.proofs.Grid.{on_grid}
use Rattle.numbering.proofs.Numbering.{number_left, number_stored}
use Rattle.numbering.proofs.number_cell.Goals as goal

pub returns-then-face_at-eq15 : goal.returns-then-face_at-eq15
returns-then-face_at-eq15 c = number_left _ _ _ _ (sym c.face_at.ensures ∙ c.if-face_at-eq15.true)

pub faces_around-n-requires : goal.faces_around-n-requires
faces_around-n-requires c = record { mined = c.requires.mined; row_lt_rows = on_grid _ _ _ c.requires.mined.sized.column c.requires.cell_bound }

pub returns : goal.returns
returns c = number_stored _ _ _ _ _ c.faces_around-n.ensures.1 (λ e. c.if-face_at-eq15.false (c.face_at.ensures ∙ e))
    c.faces_around-n.ensures.0
