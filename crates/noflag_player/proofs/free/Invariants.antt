-- `noflag_player::free` meets its contract: the bytes passed over hold no forbidden event.
use Rattle.noflag_player.proofs.Freeing.{Freeing}
use Rattle.noflag_player.proofs.free.Given as goal

abbrev pub invariant-loop-k : goal.invariant-loop-k
invariant-loop-k l = Freeing l.events l.k
