-- `trainer::hint_at` meets its contract: a number that justifies is on the board.
use mathlib.Core.Path.{◌∙◌, sym}
use Rattle.cells.proofs.Grid.{on_grid}
use Rattle.trainer.proofs.Firsts.{found_there, some_found}
use Rattle.trainer.proofs.Hints.{number_below, hint_made}
use Rattle.trainer.proofs.hint_at.Goals as goal

pub unwrap-k-requires : goal.unwrap-k-requires
unwrap-k-requires c = rw c.justifier_of.ensures (found_there 8 _ c.requires.cell_bound_2)

pub neighbour_at-q-requires : goal.neighbour_at-q-requires
neighbour_at-q-requires c = record {
  sized = c.requires.sized;
  row_lt_rows = on_grid _ _ _ c.requires.sized.column c.requires.cell_bound;
  k_bound = (some_found _ _ _ (sym c.unwrap-k.ensures ∙ c.justifier_of.ensures)).1;
}

pub place_of-by_row-requires : goal.place_of-by_row-requires
place_of-by_row-requires c = let k = some_found _ _ _ (sym c.unwrap-k.ensures ∙ c.justifier_of.ensures) in
    record { sized = c.requires.sized; cell_bound = number_below _ _ c.args.shown.now _ k.0 c.neighbour_at-q.ensures c.requires.shown_len c.requires.cell_bound_2 }

pub returns : goal.returns
returns c = let k = some_found _ _ _ (sym c.unwrap-k.ensures ∙ c.justifier_of.ensures) in
    hint_made _ _ c.args.shown.now _ k.0 c.neighbour_at-q.ensures c.place_of-row.ensures.0 c.place_of-row.ensures.1 c.place_of-by_row.ensures.0 c.place_of-by_row.ensures.1
