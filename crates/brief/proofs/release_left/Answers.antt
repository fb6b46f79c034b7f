-- `release_left`: a closed number from DownUp, or not brief.
use mathlib.Core.Path.{◌∙◌, refl}
use Rattle.std.proofs.lemmas.Grind.{common_steps}
use native.Mathlib.Omega.{arith}
use borrow.Author.Tests.{not-false}
use Rattle.brief.proofs.Ways.{on_board, lone_asks, number_asks, lr_left}
use mathlib.Core.Path.{ap}
use mathlib.Core.Bool.{not}
use Rattle.brief.proofs.release_left.Goals as goal

pub bounds-shown-cell : goal.bounds-shown-cell
bounds-shown-cell c = let i = on_board c.args.p.settings c.args.row c.args.column c.requires.inside in omega arith

pub face_at-face-requires : goal.face_at-face-requires
face_at-face-requires c = let i = on_board c.args.p.settings c.args.row c.args.column c.requires.inside in record { cell_in_bounds = omega arith; valued = c.requires.mined.valued }

pub lone_number-lone-requires : goal.lone_number-lone-requires
lone_number-lone-requires c = let a = c.args in let number = c.is_number.ensures.yes (not-false _ (ap not c.if-not-is_number.false)) in let whole = lone_asks _ a.row a.column _ a.p c.cell-cell.ensures _ c.face_at-face.ensures number c.requires.mined c.requires.inside _ _ _ _ c.from-rows.ensures c.from-columns.ensures c.from-r.ensures c.from-c.ensures in record { mined = whole.0; row_lt_rows = whole.1.0; fact = whole.1.1 }

pub left_number-requires : goal.left_number-requires
left_number-requires c = let asks = (let a = c.args in let number = c.is_number.ensures.yes (not-false _ (ap not c.if-not-is_number.false)) in number_asks _ a.row a.column _ a.p c.cell-cell.ensures _ c.face_at-face.ensures number c.requires.mined c.requires.inside _ _ _ _ c.from-rows.ensures c.from-columns.ensures c.from-r.ensures c.from-c.ensures _ c.lone_number-lone.ensures _ c.moved-up.ensures _ c.requires.shown_len c.requires.room_at c.if-shown-cell-ne10.false) in record { cell_in_bounds = omega (arith, asks.0.inside, asks.0.board); room_at = asks.1 }

pub returns : goal.returns
returns c = λ bits. let asks = (let a = c.args in let number = c.is_number.ensures.yes (not-false _ (ap not c.if-not-is_number.false)) in number_asks _ a.row a.column _ a.p c.cell-cell.ensures _ c.face_at-face.ensures number c.requires.mined c.requires.inside _ _ _ _ c.from-rows.ensures c.from-columns.ensures c.from-r.ensures c.from-c.ensures _ c.lone_number-lone.ensures _ c.moved-up.ensures _ c.requires.shown_len c.requires.room_at c.if-shown-cell-ne10.false) in let a = c.args in c.left_number.ensures _ bits asks.0 ∙ lr_left _ a.row a.column _ a.p c.cell-cell.ensures _ _ c.moved-up.ensures _ refl (grind (arith, common_steps)) bits
