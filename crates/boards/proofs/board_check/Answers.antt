-- `boards::board_check` meets its contract: the chain, with the length as the one thing to fit. Assumes nothing.
use mathlib.Core.Path.{ap, ◌∙◌}
use Prim.Native.Nat.{ℕ}
use borrow.Author.Tests.{eqb-true}
use lib.Dec.{eqb}
use lib.ListN.{length}
use Rattle.rules.specs.Board.{board_check, board_refusal}
use Rattle.boards.proofs.board_check.Goals as goal

pub board_refusal-requires : goal.board_refusal-requires
board_refusal-requires c = λ e. eqb-true _ _ e ∙ c.cell_count.ensures.0

pub returns : goal.returns
unfolding board_check
returns c = let a = c.args in
    c.board_refusal.ensures ∙ ap (λ (n : ℕ). board_refusal a.rows a.columns (eqb (length a.mines.now) n) a.mines.now)
    c.cell_count.ensures.0
