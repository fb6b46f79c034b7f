-- `hands::chording_click` meets its contract: the chord, its count, and the passes after it.
use native.Mathlib.Omega.{arith}
use Rattle.hands.proofs.Hand.{chord_asks, chord_dce, chord_then, chord_done}
use Rattle.hands.proofs.chording_click.Goals as goal

pub overflow_add-n : goal.overflow_add-n
overflow_add-n c = omega (arith, c.requires.able_at.room.double)

pub perform_chord-o-requires : goal.perform_chord-o-requires
perform_chord-o-requires c = let whole = chord_asks _ _ _ _ _ _ c.requires.able_at _ c.with_double-q.ensures c.requires.cell_bound in record { laid_at = whole.0; cell_bound = whole.1.0; pass_room_at = whole.1.1 }

pub add_dce-c-requires : goal.add_dce-c-requires
add_dce-c-requires c = chord_dce _ _ _ _ _ _ c.requires.able_at _ c.with_double-q.ensures _ _ _ c.perform_chord-o.ensures

pub passes_after_chord-position-requires : goal.passes_after_chord-position-requires
passes_after_chord-position-requires c = chord_then _ _ _ _ _ _ c.requires.able_at _ c.with_double-q.ensures _ _ _ c.perform_chord-o.ensures _ c.add_dce-c.ensures

pub returns : goal.returns
returns c = chord_done _ _ _ _ _ _ c.requires.able_at _ c.with_double-q.ensures _ _ _ c.perform_chord-o.ensures _ c.add_dce-c.ensures _ _ c.passes_after_chord-position.ensures
