-- `game::by_game` meets its contract.
use mathlib.Core.Path.{◌≡◌}
use mathlib.Core.Logic.{◌⊎◌, inl, inr}
use Rattle.rules.specs.declared.GameState.TheVariants.{Win, Loss}
use Rattle.rules.specs.Clicks.{desk, done}
use Rattle.cells.proofs.Contracts.{leaves_by, leaves_here}
use Rattle.rules.specs.Step.{by_game}
use Rattle.game.proofs.Steps.{lawful_asked}
use Rattle.game.proofs.by_game.Goals as goal

pub ready-requires : goal.ready-requires
ready-requires c = let a = c.args in let k = lawful_asked _ a.p _ _ _ c.requires.lawful_at c.requires.blank in record { able_at = k.able; inside_of = c.requires.inside_of; preflags_bound = k.few }

pub pre_flaging-requires : goal.pre_flaging-requires
pre_flaging-requires c = let a = c.args in let k = lawful_asked _ a.p _ _ _ c.requires.lawful_at c.requires.blank in record { able_at = k.able; inside_of = c.requires.inside_of; le_right = k.held; preflags_bound = k.few; by_index = k.preflags c.in-PreFlaging.is }

pub playing-requires : goal.playing-requires
playing-requires c = let a = c.args in let k = lawful_asked _ a.p _ _ _ c.requires.lawful_at c.requires.blank in record { able_at = k.able; inside_of = c.requires.inside_of; le_right = k.held }

pub returns-in-Ready : goal.returns-in-Ready
unfolding by_game
returns-in-Ready c = leaves_by c.ready.ensures (simp c.in-Ready.is)

pub returns-in-PreFlaging : goal.returns-in-PreFlaging
unfolding by_game
returns-in-PreFlaging c = leaves_by c.pre_flaging.ensures (simp c.in-PreFlaging.is)

pub returns-in-Playing : goal.returns-in-Playing
unfolding by_game
returns-in-Playing c = leaves_by c.playing.ensures (simp c.in-Playing.is)

pub returns-in-Win : goal.returns-in-Win
unfolding by_game
returns-in-Win c = leaves_here (over c.in-Win.is)
  where
    over : (c.args.p.game ≡ Win) ⊎ (c.args.p.game ≡ Loss)
        → done c.answered.result.answer (desk c.answered.result.position c.args.shown.now c.args.bits.now) ≡ by_game c.args.p.game c.args.mines.now c.args.e (desk c.args.p c.args.shown.now c.args.bits.now)
    over (inl q) = simp (q, c.answered.ensures)
    over (inr q) = simp (q, c.answered.ensures)
