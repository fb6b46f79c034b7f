-- The printout by its parts, as the functions of this crate write them.
use mathlib.Core.Path.{◌≡◌, refl, ap}
use mathlib.Core.Bool.{Bool, true, false}
use mathlib.Core.List.{List, [], ◌∷◌, ◌++◌}
use Prim.Native.Nat.{ℕ, suc, ◌*◌, ◌≤◌}
use native.Mathlib.Omega.{arith}
use lib.Dec.{leb}
use lib.IntN.{ℤ}
use lib.ListN.{length}
use borrow.Author.Tests.{eq-eqb, ne_eqb}
use Rattle.rules.specs.declared.Book.{Book}
use Rattle.rules.specs.Words.{pick}
use Rattle.rules.specs.Judging.{total3bv, left_to_solve}
use Rattle.rules.specs.Clicks.{Desk, Play}
use Rattle.rules.specs.Calls.{plays}
use Rattle.rules.specs.Step.{step_on}
use Rattle.rules.specs.Printout.{game_line, event_line, event_lines, end_lines, book_board, book_plays, book_end, printout_by}
use Rattle.text.specs.Texts.{refused_text, end_text}

first_of : {t : Bool} (x y : List ℕ) → t ≡ true → pick t x y ≡ x
first_of x y e = ap (λ (b : Bool). pick b x y) e

second_of : {t : Bool} (x y : List ℕ) → t ≡ false → pick t x y ≡ y
second_of x y e = ap (λ (b : Bool). pick b x y) e

-- a refused book
pub printout_refused : (s : List ℕ) (b : Book) → (b.number ≡ 0 → ⊥) → printout_by s b ≡ refused_text b.number b.place
unfolding printout_by
printout_refused s b h = second_of _ _ (ne_eqb b.number 0 h)

-- a book that is played
pub printout_played : (s : List ℕ) (b : Book) → b.number ≡ 0
    → printout_by s b ≡ game_line b.settings ++ (event_lines 1 (book_plays s b) ++ end_lines (book_board s b) (book_end s b))
unfolding printout_by
printout_played s b h = first_of _ _ (eq-eqb b.number 0 h)

-- a line for each event
pub events_none : (n : ℕ) → event_lines n [] ≡ []
unfolding event_lines
events_none n = refl

pub events_next : (n : ℕ) (o : Play) (os : List Play) → event_lines n (o ∷ os) ≡ event_line n o ++ event_lines (suc n) os
unfolding event_lines
events_next n o os = refl

-- no more lines than events
pub plays_few : (B : List ℤ) (es : List ℕ) (d : Desk) → 3 * length (plays B es d) ≤ length es
unfolding plays
plays_few B [] d = omega arith
plays_few B (code ∷ []) d = omega arith
plays_few B (code ∷ r ∷ []) d = omega arith
plays_few B (code ∷ r ∷ c ∷ es) d = go (leb 20 (step_on B code r c d).answer) (plays_few B es (step_on B code r c d).desk)
  where
    go : (t : Bool) → 3 * length (plays B es (step_on B code r c d).desk) ≤ length es
        → 3 * suc (length (pick t [] (plays B es (step_on B code r c d).desk))) ≤ suc (suc (suc (length es)))
    go true h = omega arith
    go false h = omega arith

-- the end, with the 3BV's numbers
pub end_same : (B : List ℤ) (d : Desk)
    → end_text d.position (total3bv B d.position.settings.rows d.position.settings.columns)
    (left_to_solve B d.position.settings.rows d.position.settings.columns d.shown) d.shown
    ≡ end_lines B d
end_same B d = refl
