-- `packed::numbers` meets its contract: each number as its function gives it.
use Rattle.packed.proofs.Reading.{numbers_are}
use Rattle.cells.proofs.Words.{byte_bit}
use Rattle.packed.proofs.numbers.Goals as goal

pub returns : goal.returns
returns c = numbers_are c.args.a c.from.ensures c.row_byte.ensures c.from-2.ensures c.column_byte.ensures c.from-3.ensures c.from-4.ensures c.from-5.ensures (byte_bit _ c.from-6.ensures).0 c.from-8.ensures c.from-7.ensures c.from-10.ensures c.from-9.ensures (byte_bit _ c.from-11.ensures).0 c.from-12.ensures
