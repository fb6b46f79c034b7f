-- `telling::play_rest` meets its contract: reading keeps the lengths, so the line has its room.
use mathlib.Core.Path.{sym, ap, subst, ◌∙◌}
use lib.ListN.{take}
use Rattle.std.specs.Io.KnownBytes.{Appends}
use Rattle.streams.proofs.Handing.{anyway}
use Rattle.telling.proofs.Telling.{line_handed}
use native.Mathlib.Omega.{arith}
use lib.Seq.{length-take-le}
use Rattle.telling.proofs.play_rest.Goals as goal

pub slice_bounds-write_all-end-2 : goal.slice_bounds-write_all-end-2
slice_bounds-write_all-end-2 g c = sym (length-take-le _ _ (omega arith))

pub shape_of-bytes : goal.shape_of-bytes
shape_of-bytes g c = c.read_lent.auto.bytes

pub shape_of-mines : goal.shape_of-mines
shape_of-mines g c = c.tell_step-n.auto.mines

pub shape_of-shown : goal.shape_of-shown
shape_of-shown g c = c.tell_step-n.auto.shown ∙ c.read_lent.auto.shown

pub shape_of-bits : goal.shape_of-bits
shape_of-bits g c = c.tell_step-n.auto.bits ∙ c.read_lent.auto.bits

pub shape_of-work : goal.shape_of-work
shape_of-work g c = c.tell_step-n.auto.work

pub shape_of-out : goal.shape_of-out
shape_of-out g c = c.tell_step-n.auto.out

pub returns-clause-whole : goal.returns-clause-whole
returns-clause-whole g c = λ _. record {
  shown = c.read_lent.new.shown;
  bits = c.read_lent.new.bits;
  read = c.in_ok-read_lent.ensures.whole c.if-not-branch.false;
  line = subst (Appends _ _) (line_handed c.args.head.now c.read_lent.new.bytes c.read_lent.new.shown c.read_lent.new.bits c.args.work.now c.read_lent.auto.shown c.read_lent.auto.bits c.requires.bits_in_bounds c.tell_step-n.ensures) c.in_ok-write_all.ensures.ok;
}

pub returns-in_err-write_all-clause-err : goal.returns-in_err-write_all-clause-err
returns-in_err-write_all-clause-err g c =
    let (long, _, line) = c.in_err-write_all.ensures.err in
    anyway c.from_residual-in_err-write_all.result (record {
      shown = c.read_lent.new.shown;
      bits = c.read_lent.new.bits;
      long = long;
      line = subst (Appends _ _) (ap (take long) (line_handed c.args.head.now c.read_lent.new.bytes c.read_lent.new.shown c.read_lent.new.bits c.args.work.now c.read_lent.auto.shown c.read_lent.auto.bits c.requires.bits_in_bounds c.tell_step-n.ensures)) line;
    })
