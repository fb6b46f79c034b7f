-- `numbering::number_cells` meets its contract: the first `i` cells are numbered, and the board stays one of its size and values. Assumes nothing.
use mathlib.Core.Path.{◌≡◌}
use Rattle.cells.specs.Ground.{Mined}
use Rattle.numbering.specs.Numbering.{number_first}
use Rattle.numbering.proofs.number_cells.Given as goal

abbrev pub invariant-loop-i : goal.invariant-loop-i
invariant-loop-i l = Mined l.mines l.rows l.columns × (l.mines ≡ number_first l.rows l.columns l.i l.initial.mines)
