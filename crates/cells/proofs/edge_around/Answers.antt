-- `cells::edge_around` meets its contract.
use mathlib.Core.Path.{refl}
use native.Mathlib.Omega.{arith}
use Rattle.rules.specs.Words.{count}
use Rattle.rules.specs.Opening.{closed_at}
use Rattle.rules.specs.Clicks.{flag_at}
use Rattle.cells.proofs.Grid.{around_turn, around_done}
use Rattle.cells.proofs.Words.{bit_le}
use Rattle.cells.proofs.edge_around.Goals as goal

pub loop-k-init : goal.loop-k-init
unfolding count
loop-k-init c = (omega arith, refl, refl, omega arith, omega arith)

pub loop-k-preserved : goal.loop-k-preserved
loop-k-preserved c = let a = c.args in (
  omega arith,
  around_turn a.rows a.columns a.row a.column (flag_at a.shown.now) _ _ _ _ c.requires.row_lt_rows.1 c.neighbour_at-q.ensures c.loop-k.invariant.1 c.see-seen.ensures.flag,
  around_turn a.rows a.columns a.row a.column (closed_at a.shown.now) _ _ _ _ c.requires.row_lt_rows.1 c.neighbour_at-q.ensures c.loop-k.invariant.2 c.see-seen.ensures.close,
  omega (arith, bit_le (flag_at a.shown.now c.neighbour_at-q.result), c.see-seen.ensures.flag),
  omega (arith, bit_le (closed_at a.shown.now c.neighbour_at-q.result), c.see-seen.ensures.close),
)

pub returns : goal.returns
returns c = let a = c.args in record {
  flag = around_done a.rows a.columns _ (flag_at a.shown.now) _ _ (omega arith) c.loop-k.invariant.1;
  close = around_done a.rows a.columns _ (closed_at a.shown.now) _ _ (omega arith) c.loop-k.invariant.2;
}
