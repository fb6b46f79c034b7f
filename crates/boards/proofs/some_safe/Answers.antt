-- `boards::some_safe` meets its contract: the cells before `i` are mines; the first that is none answers for all. Assumes nothing.
use mathlib.Core.Path.{ap, refl, sym, ◌∙◌}
use mathlib.Core.Bool.{not}
use native.Mathlib.Omega.{arith}
use borrow.Author.Rules.{rules}
use borrow.Author.Tests.{eq-eqb, ne_eqb}
use lib.ListN.{length}
use Rattle.rules.specs.Board.{some_safe, mine_at}
use Rattle.rules.specs.Words.{every}
use Rattle.cells.proofs.Words.{every_fails, every_turn}
use Rattle.boards.proofs.Scans.{every_end}
use Rattle.boards.proofs.some_safe.Goals as goal

pub loop-i-init : goal.loop-i-init
unfolding every
loop-i-init c = refl

pub returns-then-face_at-ne15 : goal.returns-then-face_at-ne15
unfolding some_safe
returns-then-face_at-ne15 c = let B = c.args.mines.now in
    sym
    (ap not
    (every_fails (mine_at B) (length B) c.loop-i.i (search rules)
    (ne_eqb _ _ (λ e. c.if-face_at-ne15.true (c.face_at.ensures ∙ e)))))

pub loop-i-preserved : goal.loop-i-preserved
loop-i-preserved c = every_turn (mine_at c.args.mines.now) c.loop-i.i
    c.loop-i.invariant (eq-eqb _ _ (sym c.face_at.ensures ∙ c.if-face_at-ne15.false))

pub returns : goal.returns
unfolding some_safe
returns c = let B = c.args.mines.now in
    sym (ap not (every_end (mine_at B) (length B) c.loop-i.i (omega arith) (omega arith) c.loop-i.invariant))
