-- Demand 3, the statement: a player learns nothing from a closed cell. proofs/Secrecy.antt proves it.
-- Two games from a fresh start, with the same settings and the same events, on two boards that the first game cannot have told apart.
use Rattle.std.specs.Prelude.{◌≡◌, List, [], ◌∷◌, ℕ, ◌<◌, ◌≤◌, get_or, replicate, ℤ}
use Rattle.rules.specs.declared.Settings.{Settings}
use Rattle.rules.specs.declared.Counts.{Counts}
use Rattle.rules.specs.declared.GameState.{GameState}
use Rattle.rules.specs.declared.MouseState.{MouseState}
use Rattle.rules.specs.Words.{count}
use Rattle.rules.specs.Board.{face_at, mine_at, board_check}
use Rattle.rules.specs.Opening.{opened_in}
use Rattle.rules.specs.Clicks.{Desk, Play}
use Rattle.rules.specs.Step.{step_on}
use Rattle.rules.specs.Calls.{cells_in, fresh_desk, plays}

-- ---- what is seen ----------------------------------------------------------------------------------------------------------------------

-- what is seen of a play: its answer or refusal, how many cells it opened, the shown board, the states, and the counts left, right, double,
-- lce, dce and flag, with the safe cells still closed
pub record Seen : Type 0 where
  pub answer : ℕ
  pub opened : ℕ
  pub shown : List ℕ
  pub game : GameState
  pub mouse : MouseState
  pub counts : Counts

-- `before` is what was shown when it began: a refused play leaves it, and has opened none
abbrev pub seen : List ℕ → Play → Seen
seen before o = record {
  answer = o.answer;
  opened = opened_in before o.desk.shown;
  shown = o.desk.shown;
  game = o.desk.position.game;
  mouse = o.desk.position.mouse;
  counts = o.desk.position.counts;
}

-- what is seen after each play, in order
unfoldable pub seen_all : List ℕ → List Play → List Seen
seen_all before [] = []
seen_all before (o ∷ os) = seen before o ∷ seen_all o.desk.shown os

-- ---- a game ----------------------------------------------------------------------------------------------------------------------------

-- the plays of a row of events, three bytes each: a refused event gives its number and leaves the desk, and the next one is played on it
unfoldable pub plays_on : List ℤ → List ℕ → Desk → List Play
plays_on B [] d = []
plays_on B (code ∷ []) d = []
plays_on B (code ∷ r ∷ []) d = []
plays_on B (code ∷ r ∷ c ∷ es) d =
    let o = step_on B code r c d in
    o ∷ plays_on B es o.desk

-- a game goes on after a refused event; one that is stopped ends with it
abbrev pub game : Settings → List ℕ → List ℤ → List Play
game s events B = plays_on B events (fresh_desk s B)

abbrev pub stopped : Settings → List ℕ → List ℤ → List Play
stopped s events B = plays B events (fresh_desk s B)

-- the last desk of a row of plays, or the one that it began with
unfoldable pub last_desk : Desk → List Play → Desk
last_desk d [] = d
last_desk d (o ∷ os) = last_desk o.desk os

-- what is seen of a game, from its fresh start, where every cell is closed
abbrev pub seen_of : Settings → List Play → List Seen
seen_of s os = seen_all (replicate (cells_in s) 10) os

-- what is shown at its end, on board B
abbrev pub end_of : Settings → List ℤ → List Play → List ℕ
end_of s B os = (last_desk (fresh_desk s B) os).shown

-- ---- twins: `end` is what is shown at the end of the first game ------------------------------------------------------------------------

-- equally many mines
abbrev pub SameMines : Settings → List ℕ → List ℤ → List ℤ → Type 0
SameMines s end A B = count (mine_at A) (cells_in s) ≡ count (mine_at B) (cells_in s)

-- the boards agree at every cell that shows such a value at the end
abbrev pub AgreeWhere : (ℕ → Type 0) → Settings → List ℕ → List ℤ → List ℤ → Type 0
AgreeWhere P s end A B = (i : ℕ) → i < cells_in s → P (get_or end i 0) → face_at A i ≡ face_at B i

-- the boards agree at 0 to 8, at 14, at 15, and at 11 if any cell shows 15
abbrev pub AgreeOpen : Settings → List ℕ → List ℤ → List ℤ → Type 0
AgreeOpen = AgreeWhere (λ x. x ≤ 8)

abbrev pub AgreeWrong : Settings → List ℕ → List ℤ → List ℤ → Type 0
AgreeWrong = AgreeWhere (λ x. x ≡ 14)

abbrev pub AgreeHit : Settings → List ℕ → List ℤ → List ℤ → Type 0
AgreeHit = AgreeWhere (λ x. x ≡ 15)

abbrev pub AgreeFlag : Settings → List ℕ → List ℤ → List ℤ → Type 0
AgreeFlag s end A B = (k : ℕ) → k < cells_in s → get_or end k 0 ≡ 15 → AgreeWhere (λ x. x ≡ 11) s end A B

-- two accepted boards of one size with equally many mines; they agree at every cell that shows 0 to 8, 14 or 15 at the end of the first
-- game, and also at every cell showing 11 if any shows 15
pub record Twins (s : Settings) (end : List ℕ) (A B : List ℤ) : Type 0 where
  pub first : board_check s.rows s.columns A ≡ 0
  pub second : board_check s.rows s.columns B ≡ 0
  pub mines : SameMines s end A B
  pub opens : AgreeOpen s end A B
  pub wrong : AgreeWrong s end A B
  pub hits : AgreeHit s end A B
  pub flags : AgreeFlag s end A B

-- ---- the demand ------------------------------------------------------------------------------------------------------------------------

-- THE demand: after every event, refused ones too, both games give the same answer or refusal, sum of opened cells, shown board, game and mouse
-- state and counts; in every mode, with question marks on or off, whatever the events are
abbrev pub Demand : Type 0
Demand =
    (s : Settings) (events : List ℕ) (A B : List ℤ) → Twins s (end_of s A (game s events A)) A B → seen_of s (game s events A) ≡ seen_of s (game s events B)

-- the same of games that are stopped, as a book's is
abbrev pub StoppedDemand : Type 0
StoppedDemand =
    (s : Settings) (events : List ℕ) (A B : List ℤ) → Twins s (end_of s A (stopped s events A)) A B
    → seen_of s (stopped s events A) ≡ seen_of s (stopped s events B)
