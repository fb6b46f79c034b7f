-- `chording::none_inside` meets its contract. The loop: none before this one is useful, or it says no.
use mathlib.Core.Bool.{not}
use mathlib.Core.Path.{refl, ap, ◌∙◌}
use Prim.Native.Nat.{◌+◌}
use native.Mathlib.Omega.{arith}
use Rattle.rules.specs.Words.{every}
use Rattle.chording.specs.Seeking.{useful_inside}
use Rattle.cells.proofs.Words.{every_more}
use Rattle.chording.proofs.none_inside.Goals as goal

pub loop-k-init : goal.loop-k-init
unfolding every
loop-k-init c = (omega arith, refl)

pub useful_inside-useful-requires : goal.useful_inside-useful-requires
useful_inside-useful-requires c = record { columns_bound = c.requires.le_columns.1; columns_in_bounds = omega arith; shown_len_bound = c.requires.shown_len_bound }

pub loop-k-preserved : goal.loop-k-preserved
loop-k-preserved c = (omega arith, every_more (λ j. not (useful_inside c.args.columns c.args.shown.now (c.args.above + j))) _ _ _ c.loop-k.invariant.1 (ap not c.useful_inside-useful.ensures))

pub returns : goal.returns
returns c = c.loop-k.invariant.1 ∙ ap (every (λ j. not (useful_inside c.args.columns c.args.shown.now (c.args.above + j)))) (omega arith)
