-- `brief::play_brief` meets its contract.
use mathlib.Core.Path.{subst, subst⁻¹}
use Rattle.rules.specs.declared.Pointer.{Pointer}
use Rattle.keep.specs.Kept.{Inside}
use Rattle.brief.specs.Briefly.{Briefly}
use Rattle.brief.proofs.play_brief.Goals as goal

pub on_cell-requires : goal.on_cell-requires
on_cell-requires c = record { lawful_at = c.requires.lawful_at; inside = subst (Inside c.args.p.settings) c.in-Cell.is c.requires.inside; events_bound = c.requires.events_bound }

pub returns-in-Cell : goal.returns-in-Cell
returns-in-Cell c = let a = c.args in subst⁻¹ (λ (x : Pointer). Briefly a.mines.now a.code x a.p a.shown.now a.bits.now c.on_cell.result c.on_cell.new.shown c.on_cell.new.bits) c.in-Cell.is c.on_cell.ensures
