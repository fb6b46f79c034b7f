-- `chording::useful_from` meets its contract. The loop: none before this column is useful.
use Rattle.rules.specs.Grid.{cell_of}
use Rattle.rules.specs.Clicks.{chord_is_useful}
use Rattle.chording.proofs.Seeking.{Sought}
use Rattle.chording.proofs.useful_from.Given as goal

abbrev pub invariant-loop-column : goal.invariant-loop-column
invariant-loop-column l = Sought (λ c. chord_is_useful l.rows l.columns l.shown (cell_of l.columns l.row c)) l.from l.columns l.column
