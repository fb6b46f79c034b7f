-- What each exported call promises of its outcome, over the flat position: one equation with rules' definition of the call on the position
-- that the bytes mean; where a state byte means nothing, the call's refusal of what the bytes are read as, else 264, the position as given, and
-- nothing written.
-- A list with a prime is what stands in the lent memory after the call. Numbering promises what board's does.
use Rattle.std.specs.Prelude.{◌≡◌, List, [], ◌∷◌, ℕ, eqb, ℤ}
use Rattle.rules.specs.Words.{pick}
use Rattle.rules.specs.Board.{fault_of}
use Rattle.rules.specs.Clicks.{desk}
use Rattle.rules.specs.Calls.{Outcome, SetUp, Asked, Totalled, checks, board_check_of, position_check, lent_refusal, flow_refusal, setup_of, reset_of, resolve_of, step_of, flow_of, game_state_of, bbbv_solved_of, left_to_solve_of, total_of}
use Rattle.rules.specs.Book.{book_of}
use Rattle.flats.specs.declared.FlatPosition.{FlatPosition}
use Rattle.flats.specs.declared.FlatAnswer.{FlatAnswer}
use Rattle.flats.specs.declared.FlatValue.{FlatValue}
use Rattle.flats.specs.declared.FlatBook.{FlatBook}
use Rattle.flats.specs.Flat.{means, unclear, settings_of, position_in, gives, flat_answer, flat_value, flat_book}

-- an outcome: what is answered, and what the lent lists are then, in the order of the call
pub record Leaves (A : Type 0) : Type 0 where
  pub answer : A
  pub lent : List (List ℕ)

abbrev pub leaves : {A : Type 0} → A → List (List ℕ) → Leaves A
leaves a ls = record { answer = a; lent = ls }

-- ---- a state byte that means nothing ---------------------------------------------------------------------------------------------------

-- a refusal gives the flat position back as it was given, and beside 22 and 23 the faulty cell of the board
abbrev pub refuses_flat : List ℤ → FlatPosition → ℕ → FlatAnswer
refuses_flat B f n = gives n (fault_of f.rows f.columns B n) f 0

-- ---- setup and reset -------------------------------------------------------------------------------------------------------------------

abbrev pub flat_set_up : SetUp → Leaves FlatAnswer
flat_set_up o = leaves (flat_answer o.answer) (o.shown ∷ o.bits ∷ [])

-- setup and reset test 20 to 25 and 45, and never answer 264: of the question byte they ask only whether it is 0
unfoldable pub setup_flat : ℕ → ℕ → ℕ → ℕ → ℕ → List ℤ → List ℕ → List ℕ → Leaves FlatAnswer
setup_flat rows columns mode question rules B shown bits = flat_set_up (setup_of (settings_of rows columns mode question rules) B shown bits)

-- a refusal gives the flat position back as it was given
abbrev pub reset_or : FlatPosition → SetUp → Leaves FlatAnswer
reset_or f o = pick (eqb o.answer.number 0) (flat_set_up o) (leaves (gives o.answer.number o.answer.place f 0) (o.shown ∷ o.bits ∷ []))

unfoldable pub reset_flat : List ℤ → FlatPosition → List ℕ → List ℕ → Leaves FlatAnswer
reset_flat B f shown bits = reset_or f (reset_of B (desk (position_in f) shown bits))

-- ---- resolving, a step, and a row of events ----------------------------------------------------------------------------------------------

abbrev pub flat_outcome : Outcome → Leaves FlatAnswer
flat_outcome o = leaves (flat_answer o.answer) (o.shown ∷ o.bits ∷ o.work ∷ [])

unfoldable pub resolve_flat : List ℤ → ℕ → ℕ → ℕ → FlatPosition → List ℕ → List ℕ → FlatAnswer
resolve_flat B code r c f shown bits =
    pick (means f)
    (flat_answer (resolve_of B code r c (desk (position_in f) shown bits)))
    (refuses_flat B f (unclear (position_check B (desk (position_in f) shown bits))))

unfoldable pub step_flat : List ℤ → ℕ → ℕ → ℕ → FlatPosition → List ℕ → List ℕ → List ℕ → Leaves FlatAnswer
step_flat B code r c f shown bits work =
    pick (means f)
    (flat_outcome (step_of B code r c (desk (position_in f) shown bits) work))
    (leaves (refuses_flat B f (unclear (lent_refusal B (desk (position_in f) shown bits) work))) (shown ∷ bits ∷ work ∷ []))

unfoldable pub flow_flat : List ℤ → List ℕ → FlatPosition → List ℕ → List ℕ → List ℕ → Leaves FlatAnswer
flow_flat B events f shown bits work =
    pick (means f)
    (flat_outcome (flow_of B events (desk (position_in f) shown bits) work))
    (leaves (refuses_flat B f (unclear (flow_refusal B events (desk (position_in f) shown bits) work))) (shown ∷ bits ∷ work ∷ []))

-- ---- the other calls -------------------------------------------------------------------------------------------------------------------

-- the number of the position check
unfoldable pub position_flat : List ℤ → FlatPosition → List ℕ → List ℕ → ℕ
position_flat B f shown bits = pick (means f) (position_check B (desk (position_in f) shown bits)) (unclear (position_check B (desk (position_in f) shown bits)))

unfoldable pub game_state_flat : List ℤ → ℕ → FlatPosition → List ℕ → List ℕ → FlatAnswer
game_state_flat B event f shown bits =
    pick (means f)
    (flat_answer (game_state_of B event (desk (position_in f) shown bits)))
    (refuses_flat B f (unclear (position_check B (desk (position_in f) shown bits))))

unfoldable pub bbbv_solved_flat : List ℤ → FlatPosition → List ℕ → List ℕ → FlatAnswer
bbbv_solved_flat B f shown bits =
    pick (means f)
    (flat_answer (bbbv_solved_of B (desk (position_in f) shown bits)))
    (refuses_flat B f (unclear (position_check B (desk (position_in f) shown bits))))

abbrev pub flat_asked : Asked → Leaves FlatAnswer
flat_asked o = leaves (flat_answer o.answer) (o.work ∷ [])

unfoldable pub left_flat : List ℤ → FlatPosition → List ℕ → List ℕ → List ℕ → Leaves FlatAnswer
left_flat B f shown bits work =
    pick (means f)
    (flat_asked (left_to_solve_of B (desk (position_in f) shown bits) work))
    (leaves (refuses_flat B f (unclear (lent_refusal B (desk (position_in f) shown bits) work))) (work ∷ []))

abbrev pub flat_totalled : Totalled → Leaves FlatValue
flat_totalled o = leaves (flat_value o.answer) (o.work ∷ [])

-- ---- the promises ----------------------------------------------------------------------------------------------------------------------

abbrev pub CheckBoardIs : ℕ → ℕ → List ℤ → FlatValue → Type 0
CheckBoardIs rows columns B r = r ≡ flat_value (board_check_of rows columns B)

abbrev pub SetupIs : ℕ → ℕ → ℕ → ℕ → ℕ → List ℤ → List ℕ → List ℕ → FlatAnswer → List ℕ → List ℕ → Type 0
SetupIs rows columns mode question rules B shown bits r shown' bits' =
    leaves r (shown' ∷ bits' ∷ []) ≡ setup_flat rows columns mode question rules B shown bits

abbrev pub ResetIs : FlatPosition → List ℤ → List ℕ → List ℕ → FlatAnswer → List ℕ → List ℕ → Type 0
ResetIs f B shown bits r shown' bits' = leaves r (shown' ∷ bits' ∷ []) ≡ reset_flat B f shown bits

abbrev pub ResolveIs : FlatPosition → ℕ → ℕ → ℕ → List ℤ → List ℕ → List ℕ → FlatAnswer → Type 0
ResolveIs f code row column B shown bits r = r ≡ resolve_flat B code row column f shown bits

abbrev pub StepIs : FlatPosition → ℕ → ℕ → ℕ → List ℤ → List ℕ → List ℕ → List ℕ → FlatAnswer → List ℕ → List ℕ → List ℕ → Type 0
StepIs f code row column B shown bits work r shown' bits' work' =
    leaves r (shown' ∷ bits' ∷ work' ∷ []) ≡ step_flat B code row column f shown bits work

abbrev pub StepFlowIs : FlatPosition → List ℕ → List ℤ → List ℕ → List ℕ → List ℕ → FlatAnswer → List ℕ → List ℕ → List ℕ → Type 0
StepFlowIs f events B shown bits work r shown' bits' work' = leaves r (shown' ∷ bits' ∷ work' ∷ []) ≡ flow_flat B events f shown bits work

abbrev pub CheckPositionIs : FlatPosition → List ℤ → List ℕ → List ℕ → FlatValue → Type 0
CheckPositionIs f B shown bits r = r ≡ flat_value (checks f.rows f.columns B (position_flat B f shown bits))

abbrev pub StepGameStateIs : FlatPosition → List ℤ → List ℕ → List ℕ → ℕ → FlatAnswer → Type 0
StepGameStateIs f B shown bits event r = r ≡ game_state_flat B event f shown bits

abbrev pub BbbvSolvedIs : FlatPosition → List ℤ → List ℕ → List ℕ → FlatAnswer → Type 0
BbbvSolvedIs f B shown bits r = r ≡ bbbv_solved_flat B f shown bits

abbrev pub LeftToSolveIs : FlatPosition → List ℤ → List ℕ → List ℕ → List ℕ → FlatAnswer → List ℕ → Type 0
LeftToSolveIs f B shown bits work r work' = leaves r (work' ∷ []) ≡ left_flat B f shown bits work

abbrev pub Total3bvIs : ℕ → ℕ → List ℤ → List ℕ → FlatValue → List ℕ → Type 0
Total3bvIs rows columns B work r work' = leaves r (work' ∷ []) ≡ flat_totalled (total_of rows columns B work)

abbrev pub ReadBookIs : List ℕ → FlatBook → Type 0
ReadBookIs s r = r ≡ flat_book (book_of s)
