-- `judging::walk_top`: each way out is a kind of the definition: marked, number, flag, 0.
use borrow.Author.Tests.{not-true, not-false}
use lib.ListN.{get_or}
use mathlib.Core.Path.{◌≡◌, sym, ◌∙◌}
use mathlib.Core.Bool.{true}
use Prim.Native.Nat.{◌-◌, ◌*◌}
use native.Mathlib.Omega.{arith}
use Rattle.rules.specs.Judging.{free_at}
use Rattle.judging.specs.Parts.{marks_of}
use Rattle.judging.proofs.Marks.{free_cell}
use Rattle.judging.proofs.Walking.{stepped_marked, stepped_number, stepped_stop, stepped_mark}
use mathlib.Core.Path.{ap}
use mathlib.Core.Bool.{not}
use Rattle.judging.proofs.walk_top.Goals as goal

pub returns-then-not-free : goal.returns-then-not-free
returns-then-not-free c = stepped_marked _ _ _ _ _ _ _ _ (sym (rw c.from-cell.ensures at c.free.ensures) ∙ not-true _ (ap not c.if-not-free.true))

pub face_at-v-requires : goal.face_at-v-requires
face_at-v-requires c = record { cell_in_bounds = rw (c.from-cell.ensures, c.requires.walkable.mined.long) (free_cell _ _ c.requires.walkable.room _ (sym (rw c.from-cell.ensures at c.free.ensures) ∙ not-false _ (ap not c.if-not-free.false))); valued = c.requires.walkable.mined.valued }

pub returns-then-v-ne0 : goal.returns-then-v-ne0
returns-then-v-ne0 c = stepped_number _ _ _ _ _ _ _ _ _ (rw c.from-cell.ensures at c.face_at-v.ensures) c.if-v-ne0.true

pub returns-then-flagged : goal.returns-then-flagged
returns-then-flagged c = stepped_stop _ _ _ _ _ _ _ _ _ _ (sym (rw c.from-cell.ensures at c.free.ensures) ∙ not-false _ (ap not c.if-not-free.false)) (rw c.from-cell.ensures at c.face_at-v.ensures) c.if-v-ne0.false (rw c.from-cell.ensures at c.flagged.ensures) c.if-flagged.true

pub mark_zero-t-requires : goal.mark_zero-t-requires
mark_zero-t-requires c = let a = c.args in
    let e : free_at (marks_of (a.rows * a.columns) a.work.now) (get_or a.work.now (a.top - 1) 0) ≡ true = sym (rw c.from-cell.ensures at c.free.ensures) ∙ not-false _ (ap not c.if-not-free.false) in
    let h = c.requires.top_bound_2 e in record { sized = c.requires.walkable.mined.sized; cell_bound = rw c.from-cell.ensures (free_cell _ _ c.requires.walkable.room _ e); columns_in_bounds = c.requires.walkable.room; top_bound = omega arith }

pub returns : goal.returns
returns c = let a = c.args in
    let e : free_at (marks_of (a.rows * a.columns) a.work.now) (get_or a.work.now (a.top - 1) 0) ≡ true = sym (rw c.from-cell.ensures at c.free.ensures) ∙ not-false _ (ap not c.if-not-free.false) in
    let h = c.requires.top_bound_2 e in
    stepped_mark _ _ _ _ _ _ _ _ _ _ e (rw c.from-cell.ensures at c.face_at-v.ensures) c.if-v-ne0.false (rw c.from-cell.ensures at c.flagged.ensures) c.if-flagged.false c.requires.walkable.room (free_cell _ _ c.requires.walkable.room _ e) (omega arith) _ _ (rw c.from-cell.ensures at c.mark_zero-t.ensures) c.mark_zero-t.auto.work
