-- `noflag_console::lm_noflag_read_book` meets its contract.
use mathlib.Core.Path.{ap, ◌∙◌}
use Rattle.flats.specs.Flat.{flat_book}
use Rattle.noflag_console.proofs.lm_noflag_read_book.Goals as goal

pub returns : goal.returns
returns c = c.from.ensures ∙ ap flat_book c.read_book-b.ensures
