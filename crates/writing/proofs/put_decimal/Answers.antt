-- `writing::put_decimal` meets its contract: a number below 10 is its own digit.
use mathlib.Core.Path.{sym}
use Rattle.writing.proofs.Putting.{room_as, put_length, put_as}
use Rattle.writing.proofs.Decimal.{decimal_one}
use Rattle.writing.proofs.put_decimal.Goals as goal

pub put_byte-requires : goal.put_byte-requires
put_byte-requires c = room_as (decimal_one _ c.if-n-lt10.true) c.requires

pub shape_of-out-then-n-lt10 : goal.shape_of-out-then-n-lt10
shape_of-out-then-n-lt10 c = put_length c.put_byte.ensures

pub returns-then-n-lt10 : goal.returns-then-n-lt10
returns-then-n-lt10 c = put_as (sym (decimal_one _ c.if-n-lt10.true)) c.put_byte.ensures

pub shape_of-out : goal.shape_of-out
shape_of-out c = put_length c.put_digits.ensures

pub returns : goal.returns
returns c = c.put_digits.ensures
