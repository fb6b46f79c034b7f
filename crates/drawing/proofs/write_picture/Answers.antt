-- `drawing::write_picture` meets its contract: a refusal leaves the room as it was, and the plain form fits it.
use mathlib.Core.Path.{refl, sym, ◌∙◌}
use native.Mathlib.Omega.{arith}
use Rattle.drawing.proofs.Drawing.{draw_refused, draw_room, draw_fits, draw_written, drawn_as}
use Rattle.cells.proofs.Refused.{never_0}
use Rattle.drawing.proofs.write_picture.Goals as goal

pub returns-in-Err : goal.returns-in-Err
returns-in-Err c = drawn_as c.answer-in-Err.ensures
    (draw_refused _ _ _ _ (c.from.ensures ∙ c.in-Err.ensures) (λ z. never_0 _ (sym c.from.ensures ∙ z)))

pub put_picture-long-requires : goal.put_picture-long-requires
put_picture-long-requires c = draw_room _ _ _ _ c.in-Ok.ensures refl

pub overflow_cast-long : goal.overflow_cast-long
overflow_cast-long c = let h = draw_fits _ _ _ _ c.in-Ok.ensures refl c.put_picture-long.ensures in omega arith

pub returns-in-Ok : goal.returns-in-Ok
returns-in-Ok c = drawn_as c.answer.ensures (draw_written _ _ _ _ c.in-Ok.ensures refl c.put_picture-long.ensures)
