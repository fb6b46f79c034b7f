-- hint-safe: the law of a number whose flags are as many as it says, which chords have too, at the number that justifies. Assumes nothing.
use mathlib.Core.Path.{◌≡◌, ◌∙◌, sym, refl, ap}
use mathlib.Core.Bool.{Bool, true, false, not, ◌||◌}
use mathlib.Core.List.{List, [], ◌∷◌}
use Prim.Native.Nat.{ℕ, ◌-◌, ◌*◌, ◌<◌}
use native.Mathlib.Omega.{arith}
use borrow.Author.Tests.{lt-ltb, le-leb, leb-true, eq-eqb, ne_eqb, eqb-true}
use lib.Dec.{eqb, leb}
use lib.IntN.{ℤ, pos, negsuc}
use lib.ListN.{length, get_or}
use Rattle.rules.specs.declared.Hint.{Hint}
use Rattle.rules.specs.declared.Hint.TheVariants.{Cell, Nothing, Refused}
use Rattle.rules.specs.Words.{count, every, first_not}
use Rattle.rules.specs.Grid.{size_ok, ninth, cell_before, cell_of, neighbour, around}
use Rattle.rules.specs.Board.{face_at, mine_at, values_ok, number_ok, numbers_ok, some_safe, board_refusal, board_check}
use Rattle.rules.specs.Opening.{closed_at}
use Rattle.rules.specs.Clicks.{Desk, rows_of, columns_of, flag_at, chord_is_useful}
use Rattle.rules.specs.Calls.{position_check}
use Rattle.rules.specs.Picture.{is_shown, all_shown, shown_refusal}
use Rattle.rules.specs.Trainer.{justifies, offered, justifier, hint_by, hint_of}
use Rattle.cells.proofs.Grid.{neighbour_back, cell_back}
use Rattle.cells.proofs.Words.{and_left, and_right, and_both, count_le, count_some, every_at}
use Rattle.opening.proofs.Lists.{count_less}
use Rattle.keep.proofs.Lawful.{board_accepted}
use Rattle.showing.proofs.Shown.{Showable, shown_passed}
use Rattle.harmless.specs.Harmless.{FlagsOnMines}
use Rattle.harmless.proofs.Numbers.{own_number, OwnNumbers, full_safe}
use Rattle.harmless.proofs.Harmless.{lawful_fair}
use Rattle.trainer.proofs.Hints.{justifies_on, offered_closed, offered_justifier, justifier_justifies, number_on}
use Rattle.hinting.specs.Hints.{Fine, First, Found, HintChords, ShowsNumbers, HintSafe, HintMisled}
use Rattle.hinting.proofs.Hints.{hint_first}

module _ (R C : ℕ) (B : List ℤ) (shown : List ℕ) (t : OwnNumbers B R C shown) (flags : FlagsOnMines B shown) where
  -- its number's flags are full, so the number's closed neighbours are safe
  offered_safe : length shown ≡ R * C → (i : ℕ) → i < R * C → offered R C shown i ≡ true → mine_at B i ≡ false
  unfolding justifies
  offered_safe fits i lt o =
      let k : ℕ = justifier R C shown i in
      let j : ℕ = neighbour R C i k in
      let x : ℕ = get_or shown j 0 in
      let k8 : k < 8 = offered_justifier R C shown i o in
      let n = number_on R C shown i k8 in
      let on : j < R * C = omega arith in
      let back = neighbour_back R C i k lt k8 on in
      let u : justifies R C shown j ≡ true = justifier_justifies R C shown i k8 in
      let a = and_right (leb 1 x) _ u in
      ap (mine_at B) (sym back)
      ∙ full_safe t flags j (omega arith) (leb-true x 8 (and_left (leb x 8) _ a)) (eqb-true _ _ (and_right (leb x 8) _ a)) (7 - k) (omega arith)
      (ap (closed_at shown) back ∙ eq-eqb _ _ (offered_closed R C shown i o))

  -- the hint's own cell
  hint_safe_at : (r c x y : ℕ) → hint_of R C shown ≡ Cell r c x y → mine_at B (cell_of C r c) ≡ false
  hint_safe_at r c x y e =
      let p = hint_first.only R C shown r c x y e in
      let f = p.1 in
      let i : ℕ = f.cell in
      let here : cell_of C r c ≡ i =
      ap (λ (h : Hint). placed h) f.same ∙ cell_back C i in
      ap (mine_at B) here ∙ offered_safe (shown_passed R C shown true p.0).0.long i f.first.on f.first.offer
    where
      placed : Hint → ℕ
      placed (Cell r c x y) = cell_of C r c
      placed Nothing = 0
      placed (Refused n) = 0

-- ---- the boards ----------------------------------------------------------------------------------------------------------------------------

-- an accepted board, and a shown board as large whose open cells show their numbers
own_numbers : (R C : ℕ) (B : List ℤ) (shown : List ℕ) → board_check R C B ≡ 0 → length shown ≡ R * C → ShowsNumbers R C B shown → OwnNumbers B R C shown
unfolding board_check
own_numbers R C B shown e long own =
    let a = board_accepted R C (eqb (length B) (R * C)) B e in
    record { numbers = a.numbers; long = eqb-true _ _ a.fits ∙ sym long; own = λ i lt. own i (omega arith) }

gives_safe : (R C : ℕ) (B : List ℤ) (shown : List ℕ) → board_check R C B ≡ 0 → ShowsNumbers R C B shown → FlagsOnMines B shown
    → (r c x y : ℕ) → hint_of R C shown ≡ Cell r c x y → mine_at B (cell_of C r c) ≡ false
gives_safe R C B shown e own flags r c x y h =
    let long = (shown_passed R C shown true (hint_first.only R C shown r c x y h).0).0.long in
    hint_safe_at R C B shown (own_numbers R C B shown e long own) flags r c x y h

lawful_safe : (B : List ℤ) (d : Desk) → position_check B d ≡ 0 → FlagsOnMines B d.shown
    → (r c x y : ℕ) → hint_of (rows_of d) (columns_of d) d.shown ≡ Cell r c x y → mine_at B (cell_of (columns_of d) r c) ≡ false
lawful_safe B d e flags =
    let f = lawful_fair B d e in
    hint_safe_at (rows_of d) (columns_of d) B d.shown
    (record { numbers = f.numbers; long = f.board.long ∙ sym f.size; own = λ i lt le. own_number _ _ _ _ le (f.cells i lt) }) flags

-- HINT-SAFE
pub hint_safe : HintSafe
hint_safe = record {
  offers = λ R C B shown e long own flags. offered_safe R C B shown (own_numbers R C B shown e long own) flags long;
  gives = gives_safe;
  lawful = lawful_safe;
}

-- ---- a wrong flag -----------------------------------------------------------------------------------------------------------------------

-- open cells show their numbers, as a test
shows_met : (R C : ℕ) (B : List ℤ) (shown : List ℕ) → every (λ i. not (leb (get_or shown i 0) 8) || eqb (get_or shown i 0) (face_at B i)) (R * C) ≡ true
    → ShowsNumbers R C B shown
shows_met R C B shown t i lt le =
    eqb-true _ _
    (sym (ap (λ (b : Bool). not b || eqb (get_or shown i 0) (face_at B i)) (le-leb (get_or shown i 0) 8 le))
    ∙ every_at (λ i. not (leb (get_or shown i 0) 8) || eqb (get_or shown i 0) (face_at B i)) (R * C) t i lt)

pub hint_misled : HintMisled
unfolding board_check board_refusal values_ok numbers_ok number_ok some_safe size_ok every count around neighbour ninth cell_before hint_of hint_by first_not justifies offered shown_refusal is_shown all_shown
hint_misled = record {
  mines = negsuc 0 ∷ pos 1 ∷ pos 0 ∷ [];
  shown = 10 ∷ 1 ∷ 11 ∷ [];
  board = refl;
  numbers = shows_met 1 3 (negsuc 0 ∷ pos 1 ∷ pos 0 ∷ []) (10 ∷ 1 ∷ 11 ∷ []) refl;
  gives = refl;
  mine = refl;
}

-- ---- the number's chord ------------------------------------------------------------------------------------------------------------------

-- the cell is one of eight around the number and shows no flag, so the number is below 8
pub hint_chords : HintChords
unfolding chord_is_useful justifies around
hint_chords R C shown i k fine f =
    let j : ℕ = neighbour R C i k in
    let x : ℕ = get_or shown j 0 in
    let l = justifies_on R C shown j f.number in
    let z = (shown_passed R C shown true fine).0.long in
    let on : j < R * C = omega arith in
    let k8 = f.place in
    let back = neighbour_back R C i k f.on k8 on in
    let shut : get_or shown (neighbour R C j (7 - k)) 0 ≡ 10 = ap (λ (y : ℕ). get_or shown y 0) back ∙ offered_closed R C shown i f.offer in
    let same = and_right (leb x 8) _ (and_right (leb 1 x) _ f.number) in
    let number : count (λ k. flag_at shown (neighbour R C j k)) 8 ≡ x = eqb-true _ _ same in
    let less = count_less (λ k. flag_at shown (neighbour R C j k)) (λ _. true) 8 (7 - k) (omega arith) (ne_eqb (get_or shown (neighbour R C j (7 - k)) 0) 11 (λ e. omega arith)) refl (λ _ _ _. refl) in
    let most = count_le (λ _. true) 8 in
    let some = count_some (λ k. closed_at shown (neighbour R C j k)) 8 (7 - k) (omega arith) (eq-eqb _ _ shut) in
    and_both _ _ (lt-ltb x 8 (omega arith)) (and_both _ _ same (lt-ltb 0 _ some))
