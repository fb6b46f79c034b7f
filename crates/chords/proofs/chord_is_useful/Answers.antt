-- `chord_is_useful`: a cell is that of its row and column.
use mathlib.Core.Path.{ap, ◌∙◌}
use Rattle.rules.specs.Clicks.{chord_is_useful}
use Rattle.cells.proofs.Grid.{cell_back}
use Rattle.cells.proofs.Grid.{on_grid}
use Rattle.chords.proofs.chord_is_useful.Goals as goal

pub useful_at-requires : goal.useful_at-requires
useful_at-requires c = record { sized = c.requires.sized; row_lt_rows = on_grid _ _ _ c.requires.sized.column c.requires.cell_bound; shown_len = c.requires.shown_len }

pub returns : goal.returns
returns c = c.useful_at.ensures ∙ ap (chord_is_useful c.args.rows c.args.columns c.args.shown.now) (cell_back c.args.columns c.args.cell)
