-- `chording::chord_round` meets its contract. The loop: the cells before this one are chorded, or passed over.
use Prim.Native.Nat.{◌≤◌, ◌-◌}
use Rattle.chording.proofs.Chording.{Scanning}
use Rattle.chording.proofs.chord_round.Given as goal

abbrev pub invariant-loop-i : goal.invariant-loop-i
invariant-loop-i l = (l.i ≤ l.cells) × Scanning l.mines l.initial.t l.initial.shown l.initial.work l.t l.shown l.work l.i

abbrev pub decreases-loop-i : goal.decreases-loop-i
decreases-loop-i l = l.cells - l.i
