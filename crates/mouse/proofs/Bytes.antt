-- A mouse state's number is small.
use Prim.Native.Nat.{◌<◌}
use native.Mathlib.Omega.{arith}
use Rattle.rules.specs.declared.MouseState.{MouseState}
use Rattle.rules.specs.declared.MouseState.TheVariants.{UpUp, UpDown, UpDownNotFlag, DownUp, Chording, ChordingNotFlag, DownUpAfterChording}
use Rattle.rules.specs.States.{mouse_number}

pub mouse_small : (m : MouseState) → mouse_number m < 7
mouse_small UpUp = omega arith
mouse_small UpDown = omega arith
mouse_small UpDownNotFlag = omega arith
mouse_small DownUp = omega arith
mouse_small Chording = omega arith
mouse_small ChordingNotFlag = omega arith
mouse_small DownUpAfterChording = omega arith
