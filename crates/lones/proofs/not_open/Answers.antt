-- `lones::not_open`: past the shown board nothing is open; on it the cell's own value tells.
use mathlib.Core.Path.{◌∙◌}
use native.Mathlib.Omega.{arith}
use borrow.Author.Tests.{le-leb}
use Rattle.lones.proofs.Lones.{not_open_off, not_open_on}
use Rattle.lones.proofs.not_open.Goals as goal

pub returns-then-shown-cell : goal.returns-then-shown-cell
returns-then-shown-cell c = le-leb _ _ c.if-shown-cell.true ∙ not_open_off _ _ c.if-shown-cell.true

pub returns-else-shown-cell : goal.returns-else-shown-cell
returns-else-shown-cell c = not_open_on _ _ (omega arith)
