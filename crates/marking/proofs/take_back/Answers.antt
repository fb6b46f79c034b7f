-- `take_back`: a flag, a question mark, anything else.
use mathlib.Core.Path.{sym}
use native.Mathlib.Omega.{arith}
use Rattle.marking.proofs.Marks.{back_flag, back_question, back_open}
use Rattle.marking.proofs.take_back.Goals as goal

pub overflow_sub-n : goal.overflow_sub-n
overflow_sub-n c = omega (arith, c.requires.room_at.flagged _ c.if-v-eq11.true)

pub returns-then-v-eq11 : goal.returns-then-v-eq11
returns-then-v-eq11 c = λ bits. simp (c.with_flag-q.ensures, c.add_right-y.ensures, c.after_flag-to.ensures) (sym (back_flag _ _ c.if-v-eq11.true))

pub returns-then-v-eq17 : goal.returns-then-v-eq17
returns-then-v-eq17 c = λ bits. simp c.add_right-y.ensures (sym (back_question _ _ c.if-v-eq17.true))

pub returns : goal.returns
returns c = λ bits. simp c.add_right-y.ensures (sym (back_open _ _ c.if-v-eq11.false c.if-v-eq17.false))
