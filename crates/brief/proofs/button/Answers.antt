-- `brief::button` meets its contract.
use mathlib.Core.Path.{◌∙◌}
use native.Mathlib.Omega.{arith}
use Rattle.rules.specs.Step.{play_lr, play_rc, play_rr, playing, event_of}
use Rattle.rules.specs.declared.Pointer.TheVariants.{Cell}
use Rattle.brief.proofs.Ways.{plainly_by, lc_turns, code_lc, code_lr, code_rc, code_rr, last_code}
use Rattle.keep.proofs.Able.{lawful_room}
use Rattle.brief.proofs.button.Goals as goal

pub returns-in-0 : goal.returns-in-0
returns-in-0 c = let a = c.args in lc_turns a.mines.now a.code a.row a.column a.p _ _ _ c.moves.ensures ∙ code_lc a.mines.now a.code a.row a.column a.p _ _ c.in-0.is

pub release_left-requires : goal.release_left-requires
release_left-requires c = record { mined = c.requires.lawful_at.kept.sound.ground.mined; shown_len = c.requires.lawful_at.kept.sound.ground.board; inside = c.requires.inside; room_at = lawful_room c.requires.lawful_at }

pub returns-in-1 : goal.returns-in-1
returns-in-1 c = let a = c.args in plainly_by (play_lr a.mines.now (Cell a.row a.column)) (playing a.mines.now (event_of a.code (Cell a.row a.column))) a.p a.shown.now a.bits.now c.release_left.result c.release_left.new.shown a.bits.now (code_lr a.mines.now a.code a.row a.column a.p _ _ c.in-1.is) (c.release_left.ensures a.bits.now)

pub press_right-requires : goal.press_right-requires
press_right-requires c = record { lawful_at = c.requires.lawful_at; inside = c.requires.inside }

pub returns-in-2 : goal.returns-in-2
returns-in-2 c = let a = c.args in plainly_by (play_rc a.mines.now (Cell a.row a.column)) (playing a.mines.now (event_of a.code (Cell a.row a.column))) a.p a.shown.now a.bits.now c.press_right.result c.press_right.new.shown c.press_right.new.bits (code_rc a.mines.now a.code a.row a.column a.p _ _ c.in-2.is) c.press_right.ensures

pub returns-in_default : goal.returns-in_default
returns-in_default c = let a = c.args in plainly_by (play_rr a.mines.now (Cell a.row a.column)) (playing a.mines.now (event_of a.code (Cell a.row a.column))) a.p a.shown.now a.bits.now c.release_right.result a.shown.now a.bits.now (code_rr a.mines.now a.code a.row a.column a.p _ _ (last_code a.code c.requires.code_bound (omega arith) (omega arith) (omega arith))) (c.release_right.ensures a.mines.now a.row a.column a.shown.now a.bits.now)
