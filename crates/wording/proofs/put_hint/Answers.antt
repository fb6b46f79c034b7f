-- `wording::put_hint` meets its contract: each kind of hint is at most 51 bytes long.
use mathlib.Core.Path.{sym}
use Rattle.rules.specs.declared.Hint.TheVariants.{Cell, Refused}
use Rattle.wording.proofs.Lengths.{words_room, words_put}
use Rattle.wording.proofs.put_hint.Goals as goal

pub put_cell-requires : goal.put_cell-requires
put_cell-requires c = words_room (Cell _ _ _ _) c.requires

pub put_refused-requires : goal.put_refused-requires
put_refused-requires c = words_room (Refused _) c.requires

pub returns-in-Cell : goal.returns-in-Cell
returns-in-Cell c = words_put (sym c.in-Cell.is) c.put_cell.ensures

pub returns-in-Nothing : goal.returns-in-Nothing
returns-in-Nothing c = words_put (sym c.in-Nothing.is) c.put_bytes.ensures

pub returns-in-Refused : goal.returns-in-Refused
returns-in-Refused c = words_put (sym c.in-Refused.is) c.put_refused.ensures
