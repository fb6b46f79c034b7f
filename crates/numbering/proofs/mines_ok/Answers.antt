-- `numbering::mines_ok` meets its contract: the mines before `n` are right; the first that is not answers for all. Assumes nothing.
use mathlib.Core.Path.{refl, sym}
use native.Mathlib.Omega.{arith}
use Rattle.rules.specs.Words.{every}
use Rattle.rules.specs.Board.{mines_in, mine_ok}
use Rattle.cells.proofs.Words.{every_turn, every_fails}
use Rattle.boards.proofs.Scans.{every_end}
use Rattle.boards.proofs.Tests.{says_no, says_yes}
use mathlib.Core.Path.{ap}
use mathlib.Core.Bool.{not}
use Rattle.numbering.proofs.mines_ok.Goals as goal

pub loop-n-init : goal.loop-n-init
unfolding every
loop-n-init c = refl

pub returns-then-not-mine_ok : goal.returns-then-not-mine_ok
returns-then-not-mine_ok c = let a = c.args in
    sym
    (every_fails (mine_ok a.rows a.columns a.list.now) (mines_in a.list.now) c.loop-n.n
    c.loop-n-test.true (says_no c.mine_ok.ensures (ap not c.if-not-mine_ok.true)))

pub loop-n-preserved : goal.loop-n-preserved
loop-n-preserved c = let a = c.args in every_turn (mine_ok a.rows a.columns a.list.now) c.loop-n.n
    c.loop-n.invariant (says_yes c.mine_ok.ensures (ap not c.if-not-mine_ok.false))

pub returns : goal.returns
returns c = let a = c.args in
    sym
    (every_end (mine_ok a.rows a.columns a.list.now) (mines_in a.list.now) c.loop-n.n (omega arith) (omega arith) c.loop-n.invariant)
