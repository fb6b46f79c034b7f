-- What the class's exported calls promise of their outcome, over the console's flat position: one equation with the class's definition of the call on
-- the position that the bytes mean; where a state byte means nothing, the call's refusal of what the bytes are read as, else 264, the position as
-- given, and nothing written. Reset promises what the console's does.
use Rattle.std.specs.Prelude.{◌≡◌, List, [], ◌∷◌, ℕ, ℤ}
use Rattle.rules.specs.Words.{pick}
use Rattle.rules.specs.Clicks.{desk}
use Rattle.rules.specs.Noflag.{class_setup_of, class_lent_refusal, class_step_of, class_book_of}
use Rattle.flats.specs.declared.FlatPosition.{FlatPosition}
use Rattle.flats.specs.declared.FlatAnswer.{FlatAnswer}
use Rattle.flats.specs.declared.FlatBook.{FlatBook}
use Rattle.flats.specs.Flat.{means, unclear, settings_of, position_in, flat_book}
use Rattle.console.specs.Promises.{Leaves, leaves, refuses_flat, flat_set_up, flat_outcome}

unfoldable pub setup_flat : ℕ → ℕ → ℕ → ℕ → ℕ → List ℤ → List ℕ → List ℕ → Leaves FlatAnswer
setup_flat rows columns mode question rules B shown bits = flat_set_up (class_setup_of (settings_of rows columns mode question rules) B shown bits)

unfoldable pub step_flat : List ℤ → ℕ → ℕ → ℕ → FlatPosition → List ℕ → List ℕ → List ℕ → Leaves FlatAnswer
step_flat B code r c f shown bits work =
    pick (means f)
    (flat_outcome (class_step_of B code r c (desk (position_in f) shown bits) work))
    (leaves (refuses_flat B f (unclear (class_lent_refusal B (desk (position_in f) shown bits) work))) (shown ∷ bits ∷ work ∷ []))

abbrev pub SetupIs : ℕ → ℕ → ℕ → ℕ → ℕ → List ℤ → List ℕ → List ℕ → FlatAnswer → List ℕ → List ℕ → Type 0
SetupIs rows columns mode question rules B shown bits r shown' bits' =
    leaves r (shown' ∷ bits' ∷ []) ≡ setup_flat rows columns mode question rules B shown bits

abbrev pub StepIs : FlatPosition → ℕ → ℕ → ℕ → List ℤ → List ℕ → List ℕ → List ℕ → FlatAnswer → List ℕ → List ℕ → List ℕ → Type 0
StepIs f code row column B shown bits work r shown' bits' work' =
    leaves r (shown' ∷ bits' ∷ work' ∷ []) ≡ step_flat B code row column f shown bits work

abbrev pub ReadBookIs : List ℕ → FlatBook → Type 0
ReadBookIs s r = r ≡ flat_book (class_book_of s)
