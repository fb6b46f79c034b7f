-- One outcome for every input; a refused setup gives the fresh position of its settings, a refused step the flat position back byte for byte. Assumes nothing.
use mathlib.Core.Path.{◌≡◌, refl, ap}
use mathlib.Core.Bool.{Bool, true, false}
use mathlib.Core.List.{List, [], ◌∷◌}
use Prim.Native.Nat.{ℕ, ◌≤◌}
use lib.IntN.{ℤ}
use Rattle.rules.specs.Words.{pick}
use Rattle.rules.specs.States.{fresh_of}
use Rattle.rules.specs.Clicks.{desk}
use Rattle.cells.proofs.Words.{one}
use Rattle.flats.specs.declared.FlatPosition.{FlatPosition}
use Rattle.flats.specs.declared.FlatAnswer.{FlatAnswer}
use Rattle.flats.specs.declared.FlatBook.{FlatBook}
use Rattle.flats.specs.Flat.{means, unclear, settings_of, position_in, flat_of}
use Rattle.console.specs.Promises.{Leaves, leaves, refuses_flat, flat_set_up, flat_outcome}
use Rattle.console.proofs.Given.{outcome_back}
use Rattle.rules.specs.Noflag.{class_setup_refusal, class_lent_refusal, class_step_of}
use Rattle.noflag_board.proofs.Outcomes.{setup_refused, step_gives_back}
use Rattle.noflag_console.specs.Promises.{setup_flat, step_flat, SetupIs, StepIs, ReadBookIs}

pub setup_one : (rows columns mode question rules : ℕ) (B : List ℤ) (shown bits : List ℕ) (r q : FlatAnswer) (shown' shown'' bits' bits'' : List ℕ)
    → SetupIs rows columns mode question rules B shown bits r shown' bits' → SetupIs rows columns mode question rules B shown bits q shown'' bits''
    → leaves r (shown' ∷ bits' ∷ []) ≡ leaves q (shown'' ∷ bits'' ∷ [])
setup_one rows columns mode question rules B shown bits r q shown' shown'' bits' bits'' h k = one h k

pub step_one : (f : FlatPosition) (code row column : ℕ) (B : List ℤ) (shown bits work : List ℕ) (r q : FlatAnswer) (shown' shown'' bits' bits'' work' work'' : List ℕ)
    → StepIs f code row column B shown bits work r shown' bits' work' → StepIs f code row column B shown bits work q shown'' bits'' work''
    → leaves r (shown' ∷ bits' ∷ work' ∷ []) ≡ leaves q (shown'' ∷ bits'' ∷ work'' ∷ [])
step_one f code row column B shown bits work r q shown' shown'' bits' bits'' work' work'' h k = one h k

pub read_book_one : (s : List ℕ) (r q : FlatBook) → ReadBookIs s r → ReadBookIs s q → r ≡ q
read_book_one s r q h k = one h k

-- 20 to 25, 45
pub setup_back : (rows columns mode question rules : ℕ) (B : List ℤ) (shown bits : List ℕ) → (class_setup_refusal (settings_of rows columns mode question rules) B shown bits ≡ 0 → ⊥)
    → setup_flat rows columns mode question rules B shown bits
    ≡ leaves (refuses_flat B (flat_of (fresh_of (settings_of rows columns mode question rules) 0)) (class_setup_refusal (settings_of rows columns mode question rules) B shown bits)) (shown ∷ bits ∷ [])
unfolding setup_flat
setup_back rows columns mode question rules B shown bits h = ap flat_set_up (setup_refused (settings_of rows columns mode question rules) B shown bits h)

-- 20 to 264, 30 to 34
pub step_back : (B : List ℤ) (f : FlatPosition) (shown bits : List ℕ) (code r c : ℕ) (work : List ℕ) → 20 ≤ (step_flat B code r c f shown bits work).answer.number
    → step_flat B code r c f shown bits work ≡ leaves (refuses_flat B f (step_flat B code r c f shown bits work).answer.number) (shown ∷ bits ∷ work ∷ [])
unfolding step_flat
step_back B f shown bits code r c work = go (means f) refl
  where
    no : ℕ
    no = unclear (class_lent_refusal B (desk (position_in f) shown bits) work)

    out : Bool → Leaves FlatAnswer
    out b = pick b (flat_outcome (class_step_of B code r c (desk (position_in f) shown bits) work)) (leaves (refuses_flat B f no) (shown ∷ bits ∷ work ∷ []))

    go : (b : Bool) → means f ≡ b → 20 ≤ (out b).answer.number → out b ≡ leaves (refuses_flat B f (out b).answer.number) (shown ∷ bits ∷ work ∷ [])
    go true m h = outcome_back B f m _ _ shown bits work (step_gives_back (position_in f) code r c B shown bits work _ _ _ _ refl h)
    go false m h = refl
