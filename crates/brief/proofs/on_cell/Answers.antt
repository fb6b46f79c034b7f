-- `brief::on_cell` meets its contract.
use Rattle.rules.specs.States.{is_playing}
use mathlib.Core.Path.{◌∙◌, sym}
use Rattle.rules.specs.declared.Pointer.TheVariants.{Cell}
use Rattle.brief.proofs.Heard.{button_code, button_briefly, move_steps}
use Rattle.brief.proofs.on_cell.Goals as goal

pub button-requires : goal.button-requires
button-requires c = record { lawful_at = c.requires.lawful_at; inside = c.requires.inside; code_bound = button_code (is_playing c.args.p.game) c.args.code (sym c.is_button.ensures ∙ c.if-is_button.true) }

pub returns-then-is_button : goal.returns-then-is_button
returns-then-is_button c = let a = c.args in button_briefly a.mines.now a.code (Cell a.row a.column) a.p a.shown.now a.bits.now c.requires.events_bound (sym c.is_button.ensures ∙ c.if-is_button.true) c.button.result c.button.new.shown c.button.new.bits c.button.ensures

pub returns-then-code-eq4 : goal.returns-then-code-eq4
returns-then-code-eq4 c = let a = c.args in rw c.answered.ensures (move_steps a.mines.now a.code (Cell a.row a.column) a.p a.shown.now a.bits.now c.requires.events_bound c.if-code-eq4.true)
