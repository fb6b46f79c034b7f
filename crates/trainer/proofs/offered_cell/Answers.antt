-- `trainer::offered_cell` meets its contract: no cell passed so far is offered.
use mathlib.Core.Path.{sym, ap, ◌∙◌}
use mathlib.Core.Bool.{not}
use native.Mathlib.Omega.{arith}
use Rattle.cells.proofs.Words.{every_turn}
use Rattle.rules.specs.Trainer.{offered}
use Rattle.trainer.proofs.Firsts.{misses, none_all, first_found, found_at}
use Rattle.trainer.proofs.Hints.{all_tried}
use Rattle.trainer.proofs.offered_cell.Goals as goal

pub loop-i-init : goal.loop-i-init
loop-i-init c = let a = c.args in none_all (offered a.rows a.columns a.shown.now) 0 (λ i l. absurd (omega arith))

pub offered_at-fine-requires : goal.offered_at-fine-requires
offered_at-fine-requires c = record { sized = c.requires.sized; shown_len = c.requires.shown_len; cell_bound = omega arith }

pub returns-then-fine : goal.returns-then-fine
returns-then-fine c = let a = c.args in
    found_at _ _ _ (first_found (offered a.rows a.columns a.shown.now) _ _ c.loop-i.invariant (sym c.offered_at-fine.ensures ∙ c.if-fine.true) (omega arith)) (omega arith)

pub loop-i-preserved : goal.loop-i-preserved
loop-i-preserved c = let a = c.args in
    every_turn (misses (offered a.rows a.columns a.shown.now)) _ c.loop-i.invariant (ap not (sym c.offered_at-fine.ensures ∙ c.if-fine.false))

pub returns : goal.returns
returns c = let a = c.args in
    all_tried a.rows a.columns a.shown.now c.requires.shown_len (omega arith) c.loop-i-test.false c.loop-i.invariant
