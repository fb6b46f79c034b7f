-- The count of a chord by hand.
use Rattle.std.specs.Prelude.{◌+◌, eqb}
use Rattle.rules.specs.declared.Played.{Played}
use Rattle.rules.specs.Words.{pick}
use Rattle.rules.specs.States.{with_dce}

-- a chord by hand that opened adds to dce
abbrev pub counted : Played → Played
counted o = pick (eqb o.answer 0) o (record { answer = o.answer; position = with_dce o.position (o.position.counts.dce + 1) })
