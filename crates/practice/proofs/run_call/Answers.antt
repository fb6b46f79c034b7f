-- `practice::run_call` meets its contract: what is handed over is the line of the call.
use mathlib.Core.Path.{sym}
use lib.Seq.{length-take-le}
use Rattle.practice.specs.Practice.{call}
use Rattle.practice.proofs.Calls.{call_some}
use Rattle.practice.proofs.Lines.{handed_fits, handed_whole}
use Rattle.streams.proofs.Handing.{anyway}
use Rattle.practice.proofs.run_call.Goals as goal

pub slice_bounds-hand-end : goal.slice_bounds-hand-end
slice_bounds-hand-end g c = sym (length-take-le _ _ (handed_fits c.line_room-out.ensures c.tell_call-told.ensures.line c.tell_call-told.auto.out))

pub hand-requires : goal.hand-requires
hand-requires g c = call c.requires.reached (call_some _ _ _ c.requires.call_is) (handed_whole c.line_room-out.ensures c.tell_call-told.ensures.line)

pub returns-in_err-hand-clause-err : goal.returns-in_err-hand-clause-err
returns-in_err-hand-clause-err g c =
    anyway c.from_residual.result
    (_, call c.requires.reached (call_some _ _ _ c.requires.call_is) (handed_whole c.line_room-out.ensures c.tell_call-told.ensures.line), c.in_err-hand.ensures.err)
