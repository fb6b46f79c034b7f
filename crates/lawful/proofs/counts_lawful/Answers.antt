-- `lawful::counts_lawful` meets its contract.
use Rattle.lawful.proofs.Tests.{counts_is}
use Rattle.lawful.proofs.counts_lawful.Goals as goal

pub returns : goal.returns
returns c = λ B shown bits h e.
    rw (c.from.ensures, c.from-2.ensures, c.from-3.ensures, c.from-4.ensures, c.from-5.ensures, c.from-6.ensures, c.from-7.ensures, c.from-8.ensures, c.from-9.ensures, c.from-10.ensures)
    (counts_is shown _ h B _ e _ bits)
