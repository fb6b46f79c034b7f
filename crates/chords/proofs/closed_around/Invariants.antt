-- `closed_around`: after k places the list holds the closed ones among the first k neighbours.
use mathlib.Core.List.{[]}
use Rattle.rules.specs.Grid.{pushed}
use Rattle.rules.specs.Opening.{closed_at}
use Rattle.rules.specs.Cells.{cell_list}
use Rattle.chords.specs.Collected.{Collected}
use Rattle.chords.proofs.closed_around.Given as goal

abbrev pub invariant-loop-k : goal.invariant-loop-k
invariant-loop-k l = Collected (pushed l.rows l.columns (closed_at l.shown) l.cell l.k []) l.k (cell_list l.found)
