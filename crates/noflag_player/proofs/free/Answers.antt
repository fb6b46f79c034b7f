-- `noflag_player::free` meets its contract: the bytes passed over hold no forbidden event.
use mathlib.Core.Path.{◌∙◌, sym}
use native.Mathlib.Omega.{arith}
use Rattle.noflag_player.proofs.Freeing.{freeing_start, freeing_on, freeing_found, freeing_end}
use Rattle.noflag_player.proofs.free.Goals as goal

pub loop-k-init : goal.loop-k-init
loop-k-init c = freeing_start _

pub returns-then-forbidden : goal.returns-then-forbidden
returns-then-forbidden c = freeing_found c.requires c.loop-k.invariant c.loop-k-test.true (sym c.forbidden.ensures ∙ c.if-forbidden.true)

pub loop-k-preserved : goal.loop-k-preserved
loop-k-preserved c = freeing_on c.requires c.loop-k.invariant c.loop-k-test.true (sym c.forbidden.ensures ∙ c.if-forbidden.false)

pub returns : goal.returns
returns c = freeing_end c.requires c.loop-k.invariant c.loop-k-test.false

pub returns-else-forbidden : goal.returns-else-forbidden
returns-else-forbidden c = freeing_end c.requires (freeing_on c.requires c.loop-k.invariant c.loop-k-test.true (sym c.forbidden.ensures ∙ c.if-forbidden.false)) (omega arith)
