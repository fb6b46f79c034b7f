-- What moves the mouse state, by event code.
use Rattle.std.specs.Prelude.{ℕ}
use Rattle.mouse.specs.declared.Motion.{Motion}
use Rattle.mouse.specs.declared.Motion.TheVariants.{LeftPress, LeftRelease, RightPress, RightRelease, BothPress}

abbrev pub motion_code : Motion → ℕ
motion_code LeftPress = 0
motion_code LeftRelease = 1
motion_code RightPress = 2
motion_code RightRelease = 3
motion_code BothPress = 7
