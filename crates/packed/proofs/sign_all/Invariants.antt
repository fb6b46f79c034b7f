-- `packed::sign_all` meets its contract. The invariant: the cells passed are signed.
use Rattle.packed.proofs.Signs.{Signing}
use Rattle.packed.proofs.sign_all.Given as goal

abbrev pub invariant-loop-i : goal.invariant-loop-i
invariant-loop-i l = Signing l.bytes l.mines l.i
