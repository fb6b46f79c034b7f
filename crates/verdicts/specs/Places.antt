-- The byte place that a verdict tells: the one number in it that is wider than 32 bits.
use Rattle.std.specs.Prelude.{ℕ}
use Rattle.rules.specs.declared.Verdict.{Verdict}
use Rattle.rules.specs.declared.Verdict.TheVariants.{Accepted, Refused, EventRefused, NotEnded, ClaimDiffers}

abbrev pub place_in : Verdict → ℕ
place_in Accepted = 0
place_in (Refused n place) = place
place_in (EventRefused event) = 0
place_in NotEnded = 0
place_in (ClaimDiffers claim says is) = 0
