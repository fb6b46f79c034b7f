-- A question beside a number misleads the flag pass, and no hypothesis can be left out: games of one row in mode 13. proofs/Needed.antt computes them.
use Rattle.std.specs.Prelude.{◌≡◌, Bool, true, false, List, [], ◌∷◌, ℕ, ℤ, pos, negsuc}
use Rattle.rules.specs.declared.Settings.{Settings}
use Rattle.rules.specs.declared.GameState.TheVariants.{Playing, Loss}
use Rattle.rules.specs.Board.{mine_at}
use Rattle.rules.specs.Clicks.{Desk, showing, done}
use Rattle.rules.specs.Passes.{flag_pass, chord_pass}
use Rattle.rules.specs.Step.{step_on}
use Rattle.rules.specs.Calls.{fresh_desk, plays, last_play, position_check}
use Rattle.harmless.specs.Harmless.{Board, Size, Numbers, Cells, Fair, FlagsOnMines, Right, NoQuestions, Harmless}
use Rattle.harmless.specs.Hands.{by_hand}

-- ---- the games ---------------------------------------------------------------------------------------------------------------------------

abbrev pub line : ℕ → Bool → Settings
line n q = record { rows = 1; columns = n; mode = 13; question = q; rules = 1 }

-- open is lc, lr; flag is rc, rr
abbrev pub opens : ℕ → List ℕ → List ℕ
opens c es = 0 ∷ 0 ∷ c ∷ 1 ∷ 0 ∷ c ∷ es

abbrev pub flags : ℕ → List ℕ → List ℕ
flags c es = 2 ∷ 0 ∷ c ∷ 3 ∷ 0 ∷ c ∷ es

-- the desk that a game from a fresh start ends with
abbrev pub end : Settings → List ℕ → List ℤ → Desk
end s events B = (last_play (done 0 (fresh_desk s B)) (plays B events (fresh_desk s B))).desk

abbrev pub mine : ℤ
mine = negsuc 0

-- a mine at the left, at the right, and at either end
abbrev pub mine_left : List ℤ
mine_left = mine ∷ pos 1 ∷ pos 0 ∷ []

abbrev pub mine_right : List ℤ
mine_right = pos 0 ∷ pos 1 ∷ mine ∷ []

abbrev pub mine_both : List ℤ
mine_both = mine ∷ pos 1 ∷ pos 0 ∷ pos 1 ∷ mine ∷ []

-- a board of two cells, and one of three that begins alike: a game on the second goes on after its first cell, and the first has not its size
abbrev pub short : List ℤ
short = pos 1 ∷ mine ∷ []

abbrev pub between : List ℤ
between = pos 1 ∷ mine ∷ pos 1 ∷ []

-- boards that 23 refuses: the 1 has no mine beside it; the first 1 has two
abbrev pub many : List ℤ
many = pos 0 ∷ pos 1 ∷ pos 0 ∷ []

abbrev pub few : List ℤ
few = mine ∷ pos 1 ∷ mine ∷ pos 1 ∷ []

-- a question on the left mine, then the number opened: 17 1 10
abbrev pub asked : Desk
asked = end (line 3 true) (flags 0 (flags 0 (opens 1 []))) mine_left

-- a question on the left mine, then both numbers opened: 17 1 10 1 10
abbrev pub asked_two : Desk
asked_two = end (line 5 true) (flags 0 (flags 0 (opens 1 (opens 3 [])))) mine_both

-- a flag on the safe cell, then the number opened: 10 1 11
abbrev pub wrongly_flagged : Desk
wrongly_flagged = end (line 3 false) (flags 2 (opens 1 [])) mine_left

-- the number opened, then the mine: 15 1 10, Loss
abbrev pub lost : Desk
lost = end (line 3 false) (opens 1 (opens 0 [])) mine_left

-- a number opened, and then other cells shown
abbrev pub shown : List ℤ → ℕ → List ℕ → Desk
shown B i cells = showing (end (line 3 false) (opens i []) B) cells

-- on the wrong boards: 10 1 0, and with a flag on the first mine 11 1 10 10
abbrev pub many_told : Desk
many_told = end (line 3 false) (opens 1 (opens 2 [])) many

abbrev pub few_told : Desk
few_told = end (line 4 false) (flags 0 (opens 1 [])) few

-- ---- a question beside a number ------------------------------------------------------------------------------------------------------------

-- a lawful and right game in which the flag pass flags (0,2), which is safe, because it does not see a mine under the question;
-- so does mode 13 after a chord by hand (`mr`) at (0,1)
pub record QuestionMisleads : Type 0 where
  pub lawful : position_check mine_left asked ≡ 0
  pub right : Right mine_left asked
  pub asks : asked.position.settings.question ≡ true
  pub shows : asked.shown ≡ 17 ∷ 1 ∷ 10 ∷ []
  pub flagged : (flag_pass mine_left asked).shown ≡ 17 ∷ 1 ∷ 11 ∷ []
  pub played : (step_on mine_left 6 0 1 asked).desk.shown ≡ 17 ∷ 1 ∷ 11 ∷ []
  pub safe : mine_at mine_left 2 ≡ false

-- and mode 13 can lose by it: a chord by hand at (0,0) does nothing itself, and the passes after it open the mine at (0,4)
pub record QuestionLoses : Type 0 where
  pub lawful : position_check mine_both asked_two ≡ 0
  pub shows : asked_two.shown ≡ 17 ∷ 1 ∷ 10 ∷ 1 ∷ 10 ∷ []
  pub hand : (step_on mine_both 6 0 0 (by_hand asked_two)).desk.shown ≡ 17 ∷ 1 ∷ 10 ∷ 1 ∷ 10 ∷ []
  pub right : Right mine_both (step_on mine_both 6 0 0 (by_hand asked_two)).desk
  pub lost : (step_on mine_both 6 0 0 asked_two).desk.position.game ≡ Loss
  pub after : (step_on mine_both 6 0 0 asked_two).desk.shown ≡ 17 ∷ 1 ∷ 14 ∷ 1 ∷ 15 ∷ []

-- ---- each hypothesis ---------------------------------------------------------------------------------------------------------------------

-- a desk that meets these, and a pass that does harm to it
pub record Misled (Met : List ℤ → Desk → Type 0) (pass : List ℤ → Desk → Desk) : Type 0 where
  pub B : List ℤ
  pub d : Desk
  pub met : Met B d
  pub harm : Harmless B d (pass B d) → ⊥

abbrev pub chords : List ℤ → Desk → Desk
chords B d = (chord_pass B d).desk

-- each hypothesis is needed beside the others; the last three by games on an accepted board
pub record Needed : Type 0 where
  pub board : Misled (λ B d. Size d × Numbers B d × Cells B d × Right B d × NoQuestions d) chords
  pub size : Misled (λ B d. Board B d × Numbers B d × Cells B d × Right B d × NoQuestions d) flag_pass
  pub numbers_flag : Misled (λ B d. Board B d × Size d × Cells B d × Right B d × NoQuestions d) flag_pass
  pub numbers_chord : Misled (λ B d. Board B d × Size d × Cells B d × Right B d × NoQuestions d) chords
  pub cells_flag : Misled (λ B d. Board B d × Size d × Numbers B d × Right B d × NoQuestions d) flag_pass
  pub cells_chord : Misled (λ B d. Board B d × Size d × Numbers B d × Right B d × NoQuestions d) chords
  pub playing : Misled (λ B d. Fair B d × FlagsOnMines B d.shown × NoQuestions d) flag_pass
  pub flags : Misled (λ B d. Fair B d × (d.position.game ≡ Playing) × NoQuestions d) chords
  pub questions : Misled (λ B d. Fair B d × Right B d) flag_pass
