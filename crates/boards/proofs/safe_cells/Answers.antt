-- `boards::safe_cells` meets its contract: the cells before `i` are counted.
use mathlib.Core.Path.{refl, ap, ◌∙◌}
use mathlib.Core.Bool.{not}
use Prim.Native.Nat.{ℕ}
use native.Mathlib.Omega.{arith}
use lib.Dec.{eqb}
use Rattle.rules.specs.Words.{bit, count}
use Rattle.rules.specs.Board.{mine_at, safe_in}
use Rattle.cells.proofs.Words.{count_le, count_turn, byte_bit}
use Rattle.boards.proofs.safe_cells.Goals as goal

pub loop-i-init : goal.loop-i-init
unfolding count
loop-i-init c = refl

pub overflow_add-n : goal.overflow_add-n
overflow_add-n c = let k = count_le (λ j. not (mine_at c.args.mines.now j)) c.loop-i.i in omega (arith, (byte_bit _ c.from-one.ensures).1)

pub loop-i-preserved : goal.loop-i-preserved
loop-i-preserved c = count_turn (λ j. not (mine_at c.args.mines.now j)) _ _ _ c.loop-i.invariant
    ((byte_bit _ c.from-one.ensures).0 ∙ ap (λ (f : ℕ). bit (not (eqb f 15))) c.face_at-f.ensures)

pub returns : goal.returns
unfolding safe_in
returns c = c.loop-i.invariant ∙ ap (count (λ j. not (mine_at c.args.mines.now j))) (omega arith)
