-- `trainer::hint_on` meets its contract: refused, or the offer on a board without a fault.
use mathlib.Core.Path.{◌∙◌, sym}
use Rattle.trainer.proofs.Hints.{hint_refused, wide_sized, wide_long, wide_offer}
use Rattle.cells.proofs.Refused.{never_0}
use Rattle.trainer.proofs.hint_on.Goals as goal

pub offer-requires : goal.offer-requires
offer-requires c = record { sized = wide_sized _ _ _ c.in-Ok.ensures c.from.ensures c.from-in-Ok.ensures; shown_len = wide_long _ _ _ c.in-Ok.ensures c.from.ensures c.from-in-Ok.ensures }

pub returns-in-Ok : goal.returns-in-Ok
returns-in-Ok c = wide_offer _ _ _ c.in-Ok.ensures c.from.ensures c.from-in-Ok.ensures c.offer.ensures

pub returns-in-Err : goal.returns-in-Err
returns-in-Err c = hint_refused _ _ _ (c.from-in-Err.ensures ∙ c.in-Err.ensures) (λ z. never_0 _ (sym c.from-in-Err.ensures ∙ z))
