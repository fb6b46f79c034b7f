-- `left_click`: not closed, a number, or a 0 or a mine.
use mathlib.Core.Path.{refl, ◌∙◌}
use native.Mathlib.Omega.{arith}
use Rattle.cells.proofs.Grid.{cell_lt}
use Rattle.clicks.proofs.Steps.{added_laid, added_place, added_room, left_idle, left_closed, number_at}
use Rattle.clicks.proofs.left_click.Goals as goal

pub overflow_mul-cell : goal.overflow_mul-cell
overflow_mul-cell c = let i = cell_lt c.args.p.settings.rows c.args.p.settings.columns c.args.row c.args.column c.requires.row_lt_rows.0 c.requires.row_lt_rows.1 in rw c.from-columns.ensures (omega (arith, c.requires.laid_at.fits.mined.sized.cells))

pub overflow_add-cell : goal.overflow_add-cell
overflow_add-cell c = let i = cell_lt c.args.p.settings.rows c.args.p.settings.columns c.args.row c.args.column c.requires.row_lt_rows.0 c.requires.row_lt_rows.1 in rw c.from-columns.ensures (omega (arith, c.requires.laid_at.fits.mined.sized.cells))

pub bounds-shown-cell : goal.bounds-shown-cell
bounds-shown-cell c = let i = cell_lt c.args.p.settings.rows c.args.p.settings.columns c.args.row c.args.column c.requires.row_lt_rows.0 c.requires.row_lt_rows.1 in rw c.from-columns.ensures (omega (arith, c.requires.laid_at.fits.board))

pub returns-then-shown-cell-ne10 : goal.returns-then-shown-cell-ne10
returns-then-shown-cell-ne10 c = left_idle _ _ _ _ _ _ c.add_left-q.ensures (rw c.from-columns.ensures at c.if-shown-cell-ne10.true)

pub face_at-face-requires : goal.face_at-face-requires
face_at-face-requires c = let i = cell_lt c.args.p.settings.rows c.args.p.settings.columns c.args.row c.args.column c.requires.row_lt_rows.0 c.requires.row_lt_rows.1 in record { cell_in_bounds = rw c.from-columns.ensures (omega (arith, c.requires.laid_at.fits.mined.long)); valued = c.requires.laid_at.fits.mined.valued }

pub lone_number-lone-requires : goal.lone_number-lone-requires
lone_number-lone-requires c = let number = c.is_number.ensures.yes c.if-is_number.true in record { mined = rw (c.from-rows.ensures, c.from-columns.ensures) c.requires.laid_at.fits.mined; row_lt_rows = rw (c.from-rows.ensures, c.from-columns.ensures) c.requires.row_lt_rows; fact = ((λ e. number.0 (c.face_at-face.ensures ∙ e)), (λ e. number.1 (c.face_at-face.ensures ∙ e))) }

pub left_number-requires : goal.left_number-requires
left_number-requires c = record { cell_in_bounds = rw c.from-columns.ensures (omega (arith, cell_lt _ _ _ _ c.requires.row_lt_rows.0 c.requires.row_lt_rows.1, c.requires.laid_at.fits.board)); room_at = c.requires.room_at }

pub returns-then-is_number : goal.returns-then-is_number
returns-then-is_number c = λ bits. record { outcome = (rw c.from-columns.ensures at c.left_number.ensures) _ bits (number_at _ c.requires.laid_at (cell_lt _ _ _ _ c.requires.row_lt_rows.0 c.requires.row_lt_rows.1) (rw c.from-columns.ensures at c.if-shown-cell-ne10.false) (rw c.from-columns.ensures at c.face_at-face.ensures) (c.is_number.ensures.yes c.if-is_number.true) (rw (c.from-rows.ensures, c.from-columns.ensures) at c.lone_number-lone.ensures)); same = refl }

pub left_spreads-requires : goal.left_spreads-requires
left_spreads-requires c = record { laid_at = added_laid c.args.p _ c.add_left-q-2.ensures c.requires.laid_at; cell_bound = rw c.from-columns.ensures (added_place c.args.p _ c.add_left-q-2.ensures _ (cell_lt _ _ _ _ c.requires.row_lt_rows.0 c.requires.row_lt_rows.1)); lce_bound = added_room c.args.p _ c.add_left-q-2.ensures c.requires.room_at; spreads_at = record { own = c.face_at-face.ensures; zero = c.is_number.ensures.no c.if-is_number.false } }

pub returns : goal.returns
returns c = left_closed _ _ _ _ _ _ c.add_left-q-2.ensures (rw c.from-columns.ensures at c.if-shown-cell-ne10.false) _ _ _ (rw c.from-columns.ensures at c.left_spreads.ensures)
