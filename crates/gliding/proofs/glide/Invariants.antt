-- `gliding::glide` meets its contract.
use Prim.Native.Nat.{◌-◌, ◌<◌, ◌≤◌}
use Rattle.rules.specs.Clicks.{desk}
use Rattle.keeping.specs.Keeps.{kept_of}
use Rattle.gliding.proofs.Ways.{Way}
use Rattle.gliding.proofs.glide.Given as goal

abbrev pub invariant-loop-g : goal.invariant-loop-g
invariant-loop-g l = Way l.mines l.section l.k l.from (desk l.initial.g.position l.initial.shown l.initial.bits) (kept_of l.kept l.initial.room) l.initial.work l.g l.shown l.bits l.work l.room × (l.g.answer < 20) × (l.g.at ≤ l.to)

abbrev pub decreases-loop-g : goal.decreases-loop-g
decreases-loop-g l = l.to - l.g.at
