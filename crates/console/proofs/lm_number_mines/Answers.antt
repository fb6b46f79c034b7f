-- `console::lm_number_mines` meets its contract.
use Rattle.console.proofs.lm_number_mines.Goals as goal

pub returns : goal.returns
returns c = simp c.from.ensures c.number_mines.ensures
