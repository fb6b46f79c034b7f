-- `bench_face::bench_refresh_board` meets its contract: the one cell is a stack of one. Assumes nothing.
use mathlib.Core.Path.{◌≡◌, ap}
use mathlib.Core.List.{List}
use Prim.Native.Nat.{ℕ}
use Rattle.rules.specs.Words.{stack_of}
use Rattle.rules.specs.Opening.{Opened}
use Rattle.cells.specs.Promises.{Leaves}
use borrow.Author.Rules.{rules}
use Rattle.bench_face.proofs.bench_refresh_board.Goals as goal

-- what an opening leaves, without whether it hit a mine
parts : {o p : Opened} {work work' : List ℕ} {T : Type 0} → Leaves o p work work' × T → (o.shown ≡ p.shown) × (work' ≡ work) × T
parts r = (ap (λ (x : Opened). x.shown) r.0.outcome, r.0.same, r.1)

pub refresh_board-o-requires : goal.refresh_board-o-requires
unfolding stack_of
refresh_board-o-requires c = record { laid = search rules; below = rw c.only.ensures (search rules, Prim.tt {0}) }

pub returns : goal.returns
unfolding stack_of
returns c = parts (rw c.only.ensures at c.refresh_board-o.ensures)
