-- `scrub::walk` meets its contract.
use mathlib.Core.Path.{◌∙◌}
use Rattle.scrub.proofs.walk.Goals as goal

pub take_word-requires : goal.take_word-requires
take_word-requires g c = c.requires

pub shape_of-room-in_default : goal.shape_of-room-in_default
shape_of-room-in_default g c = c.take_word.auto.room ∙ c.loop-i.invariant

pub loop-i-preserved : goal.loop-i-preserved
loop-i-preserved g c = c.take_word.auto.room ∙ c.loop-i.invariant

pub shape_of-room : goal.shape_of-room
shape_of-room g c = c.loop-i.invariant
