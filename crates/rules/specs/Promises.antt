-- The promises of the public calls: each one equation between what the call leaves and its definition, over the answer and every lent list.
-- A list with a prime is what stands in the lent memory after the call.
use Rattle.std.specs.Prelude.{◌≡◌, List, ℕ, ℤ}
use Rattle.rules.specs.declared.Position.{Position}
use Rattle.rules.specs.declared.Settings.{Settings}
use Rattle.rules.specs.declared.Answer.{Answer}
use Rattle.rules.specs.declared.Value.{Value}
use Rattle.rules.specs.Clicks.{desk}
use Rattle.rules.specs.Calls.{Numbered, Totalled, Asked, set_up, outcome, numbering_of, total_of, board_check_of, setup_of, reset_of, position_check_of, resolve_of, step_of, flow_of, game_state_of, bbbv_solved_of, left_to_solve_of}

-- an outcome: what is answered, with what the lent lists are then
abbrev pub numbers : ℕ → List ℤ → Numbered
numbers r B' = record { number = r; board = B' }

abbrev pub totals : Value → List ℕ → Totalled
totals r work' = record { answer = r; work = work' }

abbrev pub asks : Answer → List ℕ → Asked
asks r work' = record { answer = r; work = work' }

abbrev pub CheckBoardIs : ℕ → ℕ → List ℤ → Value → Type 0
CheckBoardIs rows columns B r = r ≡ board_check_of rows columns B

abbrev pub NumberMinesIs : ℕ → ℕ → List ℕ → List ℤ → ℕ → List ℤ → Type 0
NumberMinesIs rows columns list B r B' = numbers r B' ≡ numbering_of rows columns list B

abbrev pub Total3bvIs : ℕ → ℕ → List ℤ → List ℕ → Value → List ℕ → Type 0
Total3bvIs rows columns B work r work' = totals r work' ≡ total_of rows columns B work

abbrev pub SetupIs : Settings → List ℤ → List ℕ → List ℕ → Answer → List ℕ → List ℕ → Type 0
SetupIs s B shown bits r shown' bits' = set_up r shown' bits' ≡ setup_of s B shown bits

abbrev pub ResetIs : Position → List ℤ → List ℕ → List ℕ → Answer → List ℕ → List ℕ → Type 0
ResetIs p B shown bits r shown' bits' = set_up r shown' bits' ≡ reset_of B (desk p shown bits)

abbrev pub CheckPositionIs : Position → List ℤ → List ℕ → List ℕ → Value → Type 0
CheckPositionIs p B shown bits r = r ≡ position_check_of B (desk p shown bits)

abbrev pub ResolveIs : Position → ℕ → ℕ → ℕ → List ℤ → List ℕ → List ℕ → Answer → Type 0
ResolveIs p code row column B shown bits r = r ≡ resolve_of B code row column (desk p shown bits)

abbrev pub StepIs : Position → ℕ → ℕ → ℕ → List ℤ → List ℕ → List ℕ → List ℕ → Answer → List ℕ → List ℕ → List ℕ → Type 0
StepIs p code row column B shown bits work r shown' bits' work' = outcome r shown' bits' work' ≡ step_of B code row column (desk p shown bits) work

abbrev pub StepFlowIs : Position → List ℕ → List ℤ → List ℕ → List ℕ → List ℕ → Answer → List ℕ → List ℕ → List ℕ → Type 0
StepFlowIs p events B shown bits work r shown' bits' work' = outcome r shown' bits' work' ≡ flow_of B events (desk p shown bits) work

abbrev pub StepGameStateIs : Position → List ℤ → List ℕ → List ℕ → ℕ → Answer → Type 0
StepGameStateIs p B shown bits event r = r ≡ game_state_of B event (desk p shown bits)

abbrev pub BbbvSolvedIs : Position → List ℤ → List ℕ → List ℕ → Answer → Type 0
BbbvSolvedIs p B shown bits r = r ≡ bbbv_solved_of B (desk p shown bits)

abbrev pub LeftToSolveIs : Position → List ℤ → List ℕ → List ℕ → List ℕ → Answer → List ℕ → Type 0
LeftToSolveIs p B shown bits work r work' = asks r work' ≡ left_to_solve_of B (desk p shown bits) work
