-- `trainer::offer` meets its contract.
use mathlib.Core.Path.{◌∙◌}
use Rattle.trainer.proofs.Firsts.{some_found}
use Rattle.trainer.proofs.Hints.{offer_none, offer_cell, offer_justified}
use Rattle.trainer.proofs.offer.Goals as goal

pub hint_at-requires : goal.hint_at-requires
hint_at-requires c = record {
  sized = c.requires.sized;
  shown_len = c.requires.shown_len;
  cell_bound = (some_found _ _ _ c.in-Some.ensures).1;
  cell_bound_2 = offer_justified _ _ c.args.shown.now _ c.in-Some.ensures;
}

pub returns-in-Some : goal.returns-in-Some
returns-in-Some c = c.hint_at.ensures ∙ offer_cell _ _ c.args.shown.now _ c.in-Some.ensures

pub returns-in-None : goal.returns-in-None
returns-in-None c = offer_none _ _ c.args.shown.now c.in-None.ensures
