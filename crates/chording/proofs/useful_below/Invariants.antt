-- `chording::useful_below` meets its contract. The loop: no row before this one has a useful cell.
use Prim.Native.Nat.{◌*◌}
use Rattle.rules.specs.Clicks.{chord_is_useful}
use Rattle.chording.proofs.Seeking.{Sought}
use Rattle.chording.proofs.useful_below.Given as goal

abbrev pub invariant-loop-row : goal.invariant-loop-row
invariant-loop-row l = Sought (chord_is_useful l.rows l.columns l.shown) (l.from * l.columns) (l.rows * l.columns) (l.row * l.columns)
