-- `records::index_after` meets its contract: at each return the test that led there says which case holds.
use mathlib.Core.Path.{sym}
use Rattle.records.proofs.Entries.{after_end, after_event}
use Rattle.records.proofs.index_after.Goals as goal

pub returns-then-n-section : goal.returns-then-n-section
returns-then-n-section c = sym (after_event _ _ c.if-n-section.true)

pub returns : goal.returns
returns c = sym (after_end _ _ c.if-n-section.false)
