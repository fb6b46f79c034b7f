-- How a flat position is read for a call, and what is answered for it. Where a byte means nothing, the call's own chain of refusals refuses the
-- position that is read, with 264 where it has nothing else, and the bytes go back as they were given.
use Rattle.std.specs.Prelude.{◌≡◌, Bool, true, false, List, ℕ, eqb, ℤ}
use Rattle.rules.specs.declared.Position.{Position}
use Rattle.rules.specs.declared.Answer.{Answer}
use Rattle.rules.specs.Words.{pick}
use Rattle.rules.specs.Clicks.{desk}
use Rattle.rules.specs.Calls.{position_refusal}
use Rattle.flats.specs.declared.FlatPosition.{FlatPosition}
use Rattle.flats.specs.declared.FlatAnswer.{FlatAnswer}
use Rattle.flats.specs.Flat.{means, unclear, position_in, gives, flat_answer}

-- q has p's settings and is refused with p's number, or with 264 where p is not refused
pub record Spoils (p q : Position) : Type 0 where
  pub settings : q.settings ≡ p.settings
  pub refused : (fit : Bool) (B : List ℤ) (shown bits : List ℕ) → position_refusal fit B (desk q shown bits) ≡ unclear (position_refusal fit B (desk p shown bits))

-- p is what a call on f is made on
pub record Reads (f : FlatPosition) (p : Position) : Type 0 where
  pub clear : means f ≡ true → p ≡ position_in f
  pub spoilt : means f ≡ false → Spoils (position_in f) p

-- what a call on f answers: a is board's answer for the position that was read
abbrev pub answer_for : FlatPosition → Answer → FlatAnswer
answer_for f a = pick (means f) (flat_answer a) (gives a.number a.place f 0)

-- reset never answers 264; where it is refused it gives the bytes back too
abbrev pub reset_for : FlatPosition → Answer → FlatAnswer
reset_for f a = pick (eqb a.number 0) (flat_answer a) (gives a.number a.place f 0)
