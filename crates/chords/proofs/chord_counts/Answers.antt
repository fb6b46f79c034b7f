-- `chord_counts`: each of the two numbers added is at most 8.
use native.Mathlib.Omega.{arith}
use Rattle.chords.proofs.Steps.{judged_few, chord_added}
use Rattle.cells.proofs.Stack.{listed_few}
use Rattle.chords.proofs.chord_counts.Goals as goal

pub lone_cells-lone-requires : goal.lone_cells-lone-requires
lone_cells-lone-requires c = record { mined = rw (c.from-rows.ensures, c.from-columns.ensures) c.requires.laid_at.fits.mined; below = rw (c.from-rows.ensures, c.from-columns.ensures) c.requires.below }

pub op_num_around_cell-judged-requires : goal.op_num_around_cell-judged-requires
op_num_around_cell-judged-requires c = record { laid = rw (c.from-rows.ensures, c.from-columns.ensures) c.requires.laid_at; below = rw (c.from-rows.ensures, c.from-columns.ensures) c.requires.below }

pub overflow_add-n : goal.overflow_add-n
overflow_add-n c = omega (arith, c.lone_cells-lone.ensures.few, c.requires.solved_chord_bound)

pub overflow_cast-n-2 : goal.overflow_cast-n-2
overflow_cast-n-2 c = let few = judged_few _ _ _ _ _ _ (listed_few c.args.cells) c.op_num_around_cell-judged.ensures.outcome in omega arith

pub overflow_add-n-2 : goal.overflow_add-n-2
overflow_add-n-2 c = let few = judged_few _ _ _ _ _ _ (listed_few c.args.cells) c.op_num_around_cell-judged.ensures.outcome in omega (arith, c.lone_cells-lone.ensures.few, c.requires.solved_chord_bound)

pub returns : goal.returns
returns c = chord_added _ _ _ _ _ _ _ _ _ (rw (c.from-rows.ensures, c.from-columns.ensures) at c.lone_cells-lone.ensures.answer) (rw (c.from-rows.ensures, c.from-columns.ensures) at c.op_num_around_cell-judged.ensures) c.with_solved_chord.ensures
