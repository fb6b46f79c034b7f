-- `perform_chord`: a chord that is not useful changes nothing; any other counts, then opens.
use native.Mathlib.Omega.{arith}
use borrow.Author.Tests.{not-true, not-false}
use Rattle.chords.proofs.Gather.{collected_below}
use Rattle.chords.proofs.Steps.{chord_none, chord_laid, chord_below, chord_done}
use mathlib.Core.Path.{ap}
use mathlib.Core.Bool.{not}
use Rattle.chords.proofs.perform_chord.Goals as goal

pub returns-then-not-chord_is_useful : goal.returns-then-not-chord_is_useful
returns-then-not-chord_is_useful c = chord_none _ _ _ _ _ _ (rw (c.from-rows.ensures, c.from-columns.ensures) at c.chord_is_useful.ensures) (not-true _ (ap not c.if-not-chord_is_useful.true))

pub chord_counts-q-requires : goal.chord_counts-q-requires
chord_counts-q-requires c = let a = c.args in record { laid_at = c.requires.laid_at; below = collected_below _ _ a.shown.now a.cell _ _ _ c.requires.laid_at.fits.board (rw (c.from-rows.ensures, c.from-columns.ensures) at c.closed_around-cells.ensures); solved_chord_bound = omega (arith, c.requires.pass_room_at.solved) }

pub open_cells-requires : goal.open_cells-requires
open_cells-requires c = let a = c.args in record { laid_at = chord_laid _ _ _ _ _ _ (rw (c.from-rows.ensures, c.from-columns.ensures) at c.chord_is_useful.ensures) _ (rw (c.from-rows.ensures, c.from-columns.ensures) at c.closed_around-cells.ensures) _ _ c.chord_counts-q.ensures c.requires.laid_at; below = chord_below _ _ _ _ _ _ (rw (c.from-rows.ensures, c.from-columns.ensures) at c.chord_is_useful.ensures) _ (rw (c.from-rows.ensures, c.from-columns.ensures) at c.closed_around-cells.ensures) _ _ c.chord_counts-q.ensures (collected_below _ _ a.shown.now a.cell _ _ _ c.requires.laid_at.fits.board (rw (c.from-rows.ensures, c.from-columns.ensures) at c.closed_around-cells.ensures)) }

pub returns : goal.returns
returns c = chord_done _ _ _ _ _ _ (rw (c.from-rows.ensures, c.from-columns.ensures) at c.chord_is_useful.ensures) _ (rw (c.from-rows.ensures, c.from-columns.ensures) at c.closed_around-cells.ensures) _ _ c.chord_counts-q.ensures (not-false _ (ap not c.if-not-chord_is_useful.false)) _ _ _ c.open_cells.ensures
