-- `noflag_board::forbids` meets its contract: the pointer is taken apart once, then the events are looked at.
use mathlib.Core.Path.{◌∙◌, sym}
use borrow.Author.Tests.{leb-true, leb-false}
use Rattle.noflag_board.proofs.Moding.{forbids_off, forbids_full, forbids_barred}
use Rattle.noflag_board.proofs.forbids.Goals as goal

pub returns-in_default : goal.returns-in_default
returns-in_default c = forbids_off _ _ c.decode.ensures _ c.in_default.is

pub returns-then-is_full : goal.returns-then-is_full
returns-then-is_full c = forbids_full _ _ c.decode.ensures _ _ c.in-Some.is (leb-true 65535 c.args.p.events (sym c.is_full.ensures ∙ c.if-is_full.true))

pub returns : goal.returns
returns c = forbids_barred _ _ c.decode.ensures _ _ c.in-Some.is (leb-false 65535 c.args.p.events (sym c.is_full.ensures ∙ c.if-is_full.false))
