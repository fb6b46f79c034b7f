-- `writing::put_digits` meets its contract: a number below 10 is its own digit, one below 100 two digits, any other the hundredth of it and then
-- its last two digits.
use mathlib.Core.Path.{sym, ◌∙◌}
use native.Mathlib.Omega.{arith}
use Rattle.writing.proofs.Putting.{room_first, room_second, room_as, put_length, put_then, put_as}
use Rattle.writing.proofs.Decimal.{decimal_one, decimal_two, decimal_pair}
use Rattle.writing.proofs.+put_digits.Goals as goal

pub put_byte-requires : goal.put_byte-requires
put_byte-requires t c = room_as (decimal_one _ c.if-n-lt10.true) c.requires

pub shape_of-out-then-n-lt10 : goal.shape_of-out-then-n-lt10
shape_of-out-then-n-lt10 t c = put_length c.put_byte.ensures

pub returns-then-n-lt10 : goal.returns-then-n-lt10
returns-then-n-lt10 t c = put_as (sym (decimal_one _ c.if-n-lt10.true)) c.put_byte.ensures

pub put_pair-requires : goal.put_pair-requires
put_pair-requires t c = record { n_bound = c.if-n-lt100.true; room = room_as (decimal_two _ c.if-n-lt10.false c.if-n-lt100.true) c.requires }

pub shape_of-out-then-n-lt100 : goal.shape_of-out-then-n-lt100
shape_of-out-then-n-lt100 t c = put_length c.put_pair.ensures

pub returns-then-n-lt100 : goal.returns-then-n-lt100
returns-then-n-lt100 t c = put_as (sym (decimal_two _ c.if-n-lt10.false c.if-n-lt100.true)) c.put_pair.ensures

pub put_digits-next-requires : goal.put_digits-next-requires
put_digits-next-requires t c = (omega arith, room_first _ (room_as (decimal_pair _ c.if-n-lt100.false (omega arith)) c.requires))

pub put_pair-requires-2 : goal.put_pair-requires-2
put_pair-requires-2 t c = record { n_bound = omega arith; room = room_second (room_as (decimal_pair _ c.if-n-lt100.false (omega arith)) c.requires) c.put_digits-next.ensures }

pub shape_of-out : goal.shape_of-out
shape_of-out t c = put_length c.put_pair-2.ensures ∙ put_length c.put_digits-next.ensures

pub returns : goal.returns
returns t c = put_as (sym (decimal_pair _ c.if-n-lt100.false (omega arith))) (put_then c.put_digits-next.ensures c.put_pair-2.ensures)
