-- Flat and back: the bytes of a position mean that position, and a flat position whose bytes mean something is the bytes of what it means.
use mathlib.Core.Path.{◌≡◌, refl}
use mathlib.Core.Bool.{Bool, true, false}
use Prim.Native.Nat.{ℕ, zero, suc, ◌≤◌}
use native.Mathlib.Omega.{arith}
use borrow.Author.Tests.{leb-true}
use lib.Dec.{leb}
use Rattle.rules.specs.declared.Position.{Position}
use Rattle.rules.specs.declared.GameState.{GameState}
use Rattle.rules.specs.declared.GameState.TheVariants.{Ready, Playing, Win, Loss, PreFlaging}
use Rattle.rules.specs.declared.MouseState.{MouseState}
use Rattle.rules.specs.declared.MouseState.TheVariants.{UpUp, UpDown, UpDownNotFlag, DownUp, Chording, ChordingNotFlag, DownUpAfterChording}
use Rattle.rules.specs.Words.{bit}
use Rattle.rules.specs.States.{game_number, game_at, mouse_number, mouse_at}
use Rattle.cells.proofs.Words.{and_left, and_right}
use Rattle.flats.specs.declared.FlatPosition.{FlatPosition}
use Rattle.flats.specs.Flat.{is_on, means, position_in, flat_of}

-- ---- a byte at a time ------------------------------------------------------------------------------------------------------------------

game_back : (g : GameState) → game_at (game_number g) ≡ g
unfolding game_at
game_back Ready = refl
game_back Playing = refl
game_back Win = refl
game_back Loss = refl
game_back PreFlaging = refl

game_byte : (n : ℕ) → n ≤ 4 → game_number (game_at n) ≡ n
unfolding game_at
game_byte zero h = refl
game_byte (suc zero) h = refl
game_byte (suc (suc zero)) h = refl
game_byte (suc (suc (suc zero))) h = refl
game_byte (suc (suc (suc (suc zero)))) h = refl
game_byte (suc (suc (suc (suc (suc n))))) h = absurd (omega arith)

mouse_back : (m : MouseState) → mouse_at (mouse_number m) ≡ m
unfolding mouse_at
mouse_back UpUp = refl
mouse_back UpDown = refl
mouse_back UpDownNotFlag = refl
mouse_back DownUp = refl
mouse_back Chording = refl
mouse_back ChordingNotFlag = refl
mouse_back DownUpAfterChording = refl

mouse_byte : (n : ℕ) → n ≤ 6 → mouse_number (mouse_at n) ≡ n
unfolding mouse_at
mouse_byte zero h = refl
mouse_byte (suc zero) h = refl
mouse_byte (suc (suc zero)) h = refl
mouse_byte (suc (suc (suc zero))) h = refl
mouse_byte (suc (suc (suc (suc zero)))) h = refl
mouse_byte (suc (suc (suc (suc (suc zero))))) h = refl
mouse_byte (suc (suc (suc (suc (suc (suc zero)))))) h = refl
mouse_byte (suc (suc (suc (suc (suc (suc (suc n))))))) h = absurd (omega arith)

on_back : (b : Bool) → is_on (bit b) ≡ b
on_back true = refl
on_back false = refl

on_byte : (n : ℕ) → n ≤ 1 → bit (is_on n) ≡ n
on_byte zero h = refl
on_byte (suc zero) h = refl
on_byte (suc (suc n)) h = absurd (omega arith)

-- ---- within their limits ---------------------------------------------------------------------------------------------------------------

game_small : (g : GameState) → leb (game_number g) 4 ≡ true
game_small Ready = refl
game_small Playing = refl
game_small Win = refl
game_small Loss = refl
game_small PreFlaging = refl

mouse_small : (m : MouseState) → leb (mouse_number m) 6 ≡ true
mouse_small UpUp = refl
mouse_small UpDown = refl
mouse_small UpDownNotFlag = refl
mouse_small DownUp = refl
mouse_small Chording = refl
mouse_small ChordingNotFlag = refl
mouse_small DownUpAfterChording = refl

on_small : (b : Bool) → leb (bit b) 1 ≡ true
on_small true = refl
on_small false = refl

-- ---- the whole position ----------------------------------------------------------------------------------------------------------------

-- what each byte of a flat position that means something is
pub record Meant (f : FlatPosition) : Type 0 where
  pub question : f.question ≤ 1
  pub game : f.game ≤ 4
  pub mouse : f.mouse ≤ 6
  pub middle : f.middle ≤ 1

pub meant : (f : FlatPosition) → means f ≡ true → Meant f
unfolding means
meant f e =
    let e₂ = and_right (leb f.question 1) _ e in
    let e₃ = and_right (leb f.game 4) _ e₂ in
    let e₄ = and_right (leb f.mouse 6) _ e₃ in
    record {
      question = leb-true _ _ (and_left (leb f.question 1) _ e);
      game = leb-true _ _ (and_left (leb f.game 4) _ e₂);
      mouse = leb-true _ _ (and_left (leb f.mouse 6) _ e₃);
      middle = leb-true _ _ e₄;
    }

-- the bytes of a position mean that position ..
pub position_back : (p : Position) → position_in (flat_of p) ≡ p
position_back p = simp (on_back, game_back, mouse_back)

-- .. and every one of them means something
pub flat_means : (p : Position) → means (flat_of p) ≡ true
unfolding means
flat_means p = simp (on_small p.settings.question, game_small p.game, mouse_small p.mouse, on_small p.middle)

-- a flat position whose bytes mean something is the bytes of what it means
pub flat_back : (f : FlatPosition) → means f ≡ true → flat_of (position_in f) ≡ f
flat_back f e =
    let m = meant f e in
    simp (on_byte _ m.question, game_byte _ m.game, mouse_byte _ m.mouse, on_byte _ m.middle)
