-- `packed::counts_in` meets its contract: each count is the number at its place.
use Rattle.packed.proofs.Reading.{counts_read}
use Rattle.packed.proofs.counts_in.Goals as goal

pub returns : goal.returns
returns c = counts_read c.args.s.now c.four_at.ensures c.four_at-2.ensures c.four_at-3.ensures c.four_at-4.ensures c.four_at-5.ensures c.four_at-6.ensures c.four_at-7.ensures
