-- `boards::fresh_desk` meets its contract: both boards are filled over their whole length.
use native.Mathlib.Omega.{arith}
use Rattle.boards.proofs.Fresh.{filled_fresh}
use Rattle.boards.proofs.fresh_desk.Goals as goal

pub safe_cells-safe-requires : goal.safe_cells-safe-requires
safe_cells-safe-requires c = record { valued = c.requires.mined.valued; mines_len_bound = omega (arith, c.requires.mined.long, c.requires.mined.sized.cells) }

pub returns : goal.returns
returns c = filled_fresh _ c.requires.shown_len c.requires.bits_len c.fresh.ensures c.safe_cells-safe.ensures c.fill.ensures c.fill-2.ensures
