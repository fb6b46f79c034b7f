-- What the bytes of a flat score mean, how hints and scores go back into bytes, and what each exported call promises.
use Rattle.std.specs.Prelude.{◌≡◌, ◌&&◌, List, ℕ, eqb}
use Rattle.rules.specs.declared.Place.{Place}
use Rattle.rules.specs.declared.Place.TheVariants.{Nowhere, At}
use Rattle.rules.specs.Words.{pick}
use Rattle.rules.specs.Board.{row_byte, column_byte}
use Rattle.rules.specs.declared.Hint.{Hint}
use Rattle.rules.specs.declared.Hint.TheVariants.{Cell, Nothing, Refused}
use Rattle.rules.specs.declared.Score.{Score}
use Rattle.rules.specs.declared.Advice.{Advice}
use Rattle.rules.specs.Trainer.{hint_of, ask_of, report_of}
use Rattle.unit.specs.declared.FlatScore.{FlatScore}
use Rattle.unit.specs.declared.FlatHint.{FlatHint}
use Rattle.unit.specs.declared.FlatAdvice.{FlatAdvice}

-- 255 255 is no hint
abbrev pub place_in : ℕ → ℕ → Place
place_in row column = pick (eqb row 255 && eqb column 255) Nowhere (At row column)

abbrev pub score_in : FlatScore → Score
score_in f = record { asked = f.asked; followed = f.followed; hint = place_in f.row f.column }

abbrev pub flat_score : Score → FlatScore
flat_score s = record { asked = s.asked; followed = s.followed; row = row_byte s.hint; column = column_byte s.hint }

-- nothing to show and a refusal have no cell
abbrev pub flat_hint : Hint → FlatHint
flat_hint (Cell row column byRow byColumn) = record { number = 0; row = row; column = column; by_row = byRow; by_column = byColumn }
flat_hint Nothing = record { number = 0; row = 255; column = 255; by_row = 255; by_column = 255 }
flat_hint (Refused n) = record { number = n; row = 255; column = 255; by_row = 255; by_column = 255 }

abbrev pub flat_advice : Advice → FlatAdvice
flat_advice a = record { hint = flat_hint a.hint; score = flat_score a.score }

-- ---- the promises of the three calls ---------------------------------------------------------------------------------------------------

abbrev pub HintIs : ℕ → ℕ → List ℕ → FlatHint → Type 0
HintIs rows columns shown r = r ≡ flat_hint (hint_of rows columns shown)

abbrev pub AskIs : FlatScore → ℕ → ℕ → List ℕ → FlatAdvice → Type 0
AskIs f rows columns shown r = r ≡ flat_advice (ask_of (score_in f) rows columns shown)

abbrev pub ReportIs : FlatScore → ℕ → ℕ → ℕ → FlatScore → Type 0
ReportIs f row column opened r = r ≡ flat_score (report_of (score_in f) row column opened)
