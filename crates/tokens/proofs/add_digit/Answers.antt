-- `tokens::add_digit` meets its contract: a digit after a number below 10 makes one below 100, after any other one from 100 on.
use native.Mathlib.Omega.{arith}
use Rattle.tokens.proofs.Counted.{digit_low, digit_high, digit_fits, digit_over}
use Rattle.tokens.proofs.add_digit.Goals as goal

pub returns-then-value-gt9 : goal.returns-then-value-gt9
returns-then-value-gt9 c = digit_over _ _ c.requires c.if-value-gt9.true

pub overflow_sub-result : goal.overflow_sub-result
overflow_sub-result c = let l = digit_low _ c.requires in omega arith

pub overflow_add-result : goal.overflow_add-result
overflow_add-result c = let h = digit_high _ c.requires in omega arith

pub returns : goal.returns
returns c = digit_fits _ _ c.requires c.if-value-gt9.false
