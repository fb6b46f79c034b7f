-- One outcome for every input: any two outcomes that a call's promise allows are equal, number, place, flat position, value and every lent list.
-- For numbering that is board's own theorem: its promise is board's.
use mathlib.Core.Path.{◌≡◌, ap}
use mathlib.Core.List.{List, [], ◌∷◌}
use Prim.Native.Nat.{ℕ}
use lib.IntN.{ℤ}
use Rattle.cells.proofs.Words.{one}
use Rattle.flats.specs.declared.FlatPosition.{FlatPosition}
use Rattle.flats.specs.declared.FlatAnswer.{FlatAnswer}
use Rattle.flats.specs.declared.FlatValue.{FlatValue}
use Rattle.flats.specs.declared.FlatBook.{FlatBook}
use Rattle.console.specs.Promises.{Leaves, leaves, CheckBoardIs, SetupIs, ResetIs, ResolveIs, StepIs, StepFlowIs, CheckPositionIs, StepGameStateIs, BbbvSolvedIs, LeftToSolveIs, Total3bvIs, ReadBookIs}

-- the law for all calls with lent lists: both answers are the same, and so are all the lists
leaves_one : {A : Type 0} {o : Leaves A} {r q : A} {ls ms : List (List ℕ)} → leaves r ls ≡ o → leaves q ms ≡ o → (r ≡ q) × (ls ≡ ms)
leaves_one {A} h k = let e = one h k in (ap (λ (o : Leaves A). o.answer) e, ap (λ (o : Leaves A). o.lent) e)

module _ (B : List ℤ) (shown bits : List ℕ) where
  pub setup_one : (rows columns mode question rules : ℕ) (r q : FlatAnswer) (shown' shown'' bits' bits'' : List ℕ) → SetupIs rows columns mode question rules B shown bits r shown' bits'
      → SetupIs rows columns mode question rules B shown bits q shown'' bits'' → (r ≡ q) × ((shown' ∷ bits' ∷ []) ≡ (shown'' ∷ bits'' ∷ []))
  setup_one rows columns mode question rules r q shown' shown'' bits' bits'' h k = leaves_one h k

  module _ (f : FlatPosition) where
    pub reset_one : (r q : FlatAnswer) (shown' shown'' bits' bits'' : List ℕ) → ResetIs f B shown bits r shown' bits' → ResetIs f B shown bits q shown'' bits''
        → (r ≡ q) × ((shown' ∷ bits' ∷ []) ≡ (shown'' ∷ bits'' ∷ []))
    reset_one r q shown' shown'' bits' bits'' h k = leaves_one h k

    pub step_one : (code row column : ℕ) (work : List ℕ) (r q : FlatAnswer) (shown' shown'' bits' bits'' work' work'' : List ℕ)
        → StepIs f code row column B shown bits work r shown' bits' work' → StepIs f code row column B shown bits work q shown'' bits'' work''
        → (r ≡ q) × ((shown' ∷ bits' ∷ work' ∷ []) ≡ (shown'' ∷ bits'' ∷ work'' ∷ []))
    step_one code row column work r q shown' shown'' bits' bits'' work' work'' h k = leaves_one h k

    pub step_flow_one : (events work : List ℕ) (r q : FlatAnswer) (shown' shown'' bits' bits'' work' work'' : List ℕ)
        → StepFlowIs f events B shown bits work r shown' bits' work' → StepFlowIs f events B shown bits work q shown'' bits'' work''
        → (r ≡ q) × ((shown' ∷ bits' ∷ work' ∷ []) ≡ (shown'' ∷ bits'' ∷ work'' ∷ []))
    step_flow_one events work r q shown' shown'' bits' bits'' work' work'' h k = leaves_one h k

    pub left_to_solve_one : (work : List ℕ) (r q : FlatAnswer) (work' work'' : List ℕ) → LeftToSolveIs f B shown bits work r work' → LeftToSolveIs f B shown bits work q work''
        → (r ≡ q) × ((work' ∷ []) ≡ (work'' ∷ []))
    left_to_solve_one work r q work' work'' h k = leaves_one h k

    pub check_position_one : (r q : FlatValue) → CheckPositionIs f B shown bits r → CheckPositionIs f B shown bits q → r ≡ q
    check_position_one r q h k = one h k

    pub resolve_one : (code row column : ℕ) (r q : FlatAnswer) → ResolveIs f code row column B shown bits r → ResolveIs f code row column B shown bits q → r ≡ q
    resolve_one code row column r q h k = one h k

    pub step_game_state_one : (event : ℕ) (r q : FlatAnswer) → StepGameStateIs f B shown bits event r → StepGameStateIs f B shown bits event q → r ≡ q
    step_game_state_one event r q h k = one h k

    pub bbbv_solved_one : (r q : FlatAnswer) → BbbvSolvedIs f B shown bits r → BbbvSolvedIs f B shown bits q → r ≡ q
    bbbv_solved_one r q h k = one h k

pub check_board_one : (rows columns : ℕ) (B : List ℤ) (r q : FlatValue) → CheckBoardIs rows columns B r → CheckBoardIs rows columns B q → r ≡ q
check_board_one rows columns B r q h k = one h k

pub total_3bv_one : (rows columns : ℕ) (B : List ℤ) (work : List ℕ) (r q : FlatValue) (work' work'' : List ℕ) → Total3bvIs rows columns B work r work'
    → Total3bvIs rows columns B work q work'' → (r ≡ q) × ((work' ∷ []) ≡ (work'' ∷ []))
total_3bv_one rows columns B work r q work' work'' h k = leaves_one h k

pub read_book_one : (s : List ℕ) (r q : FlatBook) → ReadBookIs s r → ReadBookIs s q → r ≡ q
read_book_one s r q h k = one h k
