-- `numbering::place_mines` meets its contract: the first `n` mines are placed. Assumes nothing.
use mathlib.Core.Path.{◌≡◌}
use Rattle.numbering.specs.Numbering.{placed}
use Rattle.numbering.proofs.place_mines.Given as goal

abbrev pub invariant-loop-n : goal.invariant-loop-n
invariant-loop-n l = l.mines ≡ placed l.columns l.list l.n l.initial.mines
