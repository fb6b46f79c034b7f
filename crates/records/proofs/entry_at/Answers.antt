-- `records::entry_at` meets its contract: at each return the test that led there says which case holds.
use mathlib.Core.Path.{sym}
use Rattle.records.proofs.Entries.{entry_end, entry_event}
use Rattle.records.proofs.entry_at.Goals as goal

pub returns-then-section-n : goal.returns-then-section-n
returns-then-section-n c = sym (entry_end _ _ c.if-section-n.true)

pub returns : goal.returns
returns c = sym (entry_event _ _ c.if-section-n.false)
