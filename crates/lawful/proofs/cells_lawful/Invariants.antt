-- `lawful::cells_lawful` meets its contract: every cell passed shows what it may.
use mathlib.Core.Path.{◌≡◌}
use mathlib.Core.Bool.{true}
use Rattle.lawful.specs.Parts.{cells_lawful}
use Rattle.lawful.proofs.cells_lawful.Given as goal

abbrev pub invariant-loop-i : goal.invariant-loop-i
invariant-loop-i l = cells_lawful l.question l.loss l.mines l.shown l.i ≡ true
