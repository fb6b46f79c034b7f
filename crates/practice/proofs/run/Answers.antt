-- `practice::run` meets its contract: the first call is reached with the score to start from.
use mathlib.Core.Path.{sym}
use native.Mathlib.Omega.{arith}
use lib.Seq.{length-take-le}
use borrow.Author.Tests.{lt-leb}
use Rattle.practice.specs.Practice.{short}
use Rattle.practice.proofs.Calls.{reached_start}
use Rattle.practice.proofs.Lines.{handed_fits, handed_whole}
use Rattle.practice.proofs.run.Goals as goal

pub slice_bounds-hand-end : goal.slice_bounds-hand-end
slice_bounds-hand-end g c = sym (length-take-le _ _ (handed_fits c.line_room-out.ensures c.put_broken-long.ensures c.put_broken-long.auto.out))

pub hand-requires : goal.hand-requires
hand-requires g c = short (lt-leb 4 _ c.if-s-lt4.true) (handed_whole c.line_room-out.ensures c.put_broken-long.ensures)

pub run_calls-requires : goal.run_calls-requires
run_calls-requires g c = record { in_bounds = (omega arith, c.requires); reached = reached_start c.args.s.now c.two_at-asked.ensures c.two_at-followed.ensures }
