-- `keeping::counts_in` meets its contract.
use Rattle.keeping.proofs.Reading.{counts_read}
use Rattle.keeping.proofs.counts_in.Goals as goal

pub returns : goal.returns
returns c = counts_read c.args.s.now c.four_at.ensures c.four_at-2.ensures c.four_at-3.ensures c.four_at-4.ensures c.four_at-5.ensures c.four_at-6.ensures c.four_at-7.ensures
