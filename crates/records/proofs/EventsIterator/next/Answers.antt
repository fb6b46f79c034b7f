-- The reader's `next` gives what stands at its index, moves on, and ends.
use Rattle.records.proofs.Entries.{goes}
use Rattle.records.proofs.EventsIterator.next.Goals as goal

pub returns-clause-goes : goal.returns-clause-goes
returns-clause-goes c = rw (c.entry_at-record.ensures, c.index_after-self.ensures) (goes c.args.self.now)
