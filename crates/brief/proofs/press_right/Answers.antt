-- `press_right`: a flag in a mode in which no pass follows it, or not brief.
use mathlib.Core.Path.{◌∙◌, refl}
use Rattle.std.proofs.lemmas.Grind.{common_steps}
use native.Mathlib.Omega.{arith}
use Rattle.brief.proofs.Ways.{on_board, rc_flags, flag_asks, flag_leaves}
use Rattle.brief.proofs.press_right.Goals as goal

pub bounds-shown-cell : goal.bounds-shown-cell
bounds-shown-cell c = let i = on_board c.args.p.settings c.args.row c.args.column c.requires.inside in omega arith

pub flag-position-requires : goal.flag-position-requires
flag-position-requires c = let whole = flag_asks _ c.args.p _ _ _ c.args.row c.args.column _ c.requires.lawful_at c.requires.inside c.cell-cell.ensures c.moved-down.ensures in record { cell_in_bounds = whole.0; valued = whole.1.0; room_at = whole.1.1 }

pub returns : goal.returns
returns c = flag_leaves _ _ c.args.p _ _ c.args.shown.now c.args.bits.now _ _ c.moved-down.ensures c.flag-position.ensures ∙ rc_flags c.args.mines.now c.args.row c.args.column _ c.args.p _ _ c.cell-cell.ensures _ refl (grind (arith, common_steps)) c.if-shown-cell-ne10.false (omega arith)
