-- `scrub::numbers` meets its contract.
use Rattle.scrub.proofs.Telling.{numbers_are}
use Rattle.cells.proofs.Words.{byte_bit}
use Rattle.scrub.proofs.numbers.Goals as goal

pub returns : goal.returns
returns c = numbers_are c.args.o c.from.ensures c.from-3.ensures c.from-2.ensures c.from-5.ensures c.from-4.ensures (byte_bit _ c.from-6.ensures).0
