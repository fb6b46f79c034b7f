-- `vectors::play_next` meets its contract: the prefix has the length asked for.
use mathlib.Core.Path.{sym}
use native.Mathlib.Omega.{arith}
use lib.Seq.{length-take-le}
use Rattle.vectors.proofs.play_next.Goals as goal

pub slice_bounds-play_in-end : goal.slice_bounds-play_in-end
slice_bounds-play_in-end g c = sym (length-take-le _ _ (omega arith))
