-- What the reader answers for a head whose cells were taken, or for a refusal.
use Rattle.std.specs.Prelude.{Result, Ok, Err}
use Rattle.rules.specs.declared.Picture.{Picture}
use Rattle.rules.specs.declared.Refusal.{Refusal}
use Rattle.rules.specs.Refusals.{refusal_number}
use Rattle.heads.specs.declared.Head.{Head}

abbrev pub answered : Result Head Refusal → Picture
answered (Ok h) = record { number = 0; rows = h.rows; columns = h.columns }
answered (Err e) = record { number = refusal_number e; rows = 0; columns = 0 }
