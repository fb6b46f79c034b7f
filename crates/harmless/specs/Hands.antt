-- What a coach may read of an event: a click by hand and a step, with the passes that follow. proofs/Hands.antt proves it.
use Rattle.std.specs.Prelude.{◌≡◌, true, List, ℕ, ◌<◌, length, ℤ}
use Rattle.rules.specs.declared.Position.{Position}
use Rattle.rules.specs.declared.GameState.TheVariants.{Playing}
use Rattle.rules.specs.Board.{mine_at}
use Rattle.rules.specs.Opening.{closed_at}
use Rattle.rules.specs.Clicks.{Desk, on}
use Rattle.rules.specs.Passes.{mode_both, passes_after_flag, passes_after_chord, right_click, chording_click}
use Rattle.rules.specs.Step.{step_on}
use Rattle.rules.specs.Calls.{Outcome, left_by, position_check, lent_refusal}
use Rattle.rules.specs.Promises.{StepIs}
use Rattle.keep.specs.Kept.{Kept}
use Rattle.harmless.specs.Harmless.{Fair, Right, NoQuestions, Harmless}

-- ---- the hand's own action ---------------------------------------------------------------------------------------------------------------

abbrev pub with_mode : Position → ℕ → Position
with_mode p m = record {
  settings = record { rows = p.settings.rows; columns = p.settings.columns; mode = m; question = p.settings.question; rules = p.settings.rules };
  game = p.game;
  mouse = p.mouse;
  middle = p.middle;
  preflags = p.preflags;
  events = p.events;
  counts = p.counts;
  secrets = p.secrets;
}

abbrev pub in_mode : ℕ → Desk → Desk
in_mode m d = on d (with_mode d.position m)

-- the hand's own action is the same click or step in mode 0, in which no pass runs
abbrev pub by_hand : Desk → Desk
by_hand = in_mode 0

-- where the hand left a right game and no question mark, what the passes added up to desk e is harmless
abbrev pub AddsNoHarm : List ℤ → Desk → Desk → Type 0
AddsNoHarm B hand e = Right B hand → NoQuestions hand → Harmless B hand e

-- ---- the theorem -------------------------------------------------------------------------------------------------------------------------

pub record HandsHarmless : Type 0 where
  -- mode 0 runs no pass
  pub no_flags : (B : List ℤ) (d : Desk) → passes_after_flag B (by_hand d) ≡ by_hand d
  pub no_chords : (B : List ℤ) (d : Desk) → passes_after_chord B (by_hand d) ≡ by_hand d
  -- a click by hand at a lawful desk, amid an event too
  pub right_click_lem : (n : ℕ) (B : List ℤ) (i : ℕ) (d : Desk) → Kept n B d → d.position.game ≡ Playing → i < length d.shown
      → AddsNoHarm B (right_click B i (by_hand d)).desk (right_click B i d).desk
  pub chording_click_lem : (n : ℕ) (B : List ℤ) (i : ℕ) (d : Desk) → Kept n B d → d.position.game ≡ Playing
      → AddsNoHarm B (chording_click B i (by_hand d)).desk (chording_click B i d).desk
  -- every event at a lawful desk, in any game state, refused ones too
  pub step : (B : List ℤ) (code r c : ℕ) (d : Desk) → position_check B d ≡ 0 → AddsNoHarm B (step_on B code r c (by_hand d)).desk (step_on B code r c d).desk
  -- board::step by its contract: a call that 20 to 264 do not refuse, and the same call in mode 0
  pub call : (B : List ℤ) (code r c : ℕ) (d : Desk) (work : List ℕ) (o hand : Outcome)
      → StepIs d.position code r c B d.shown d.bits work o.answer o.shown o.bits o.work
      → StepIs (with_mode d.position 0) code r c B d.shown d.bits work hand.answer hand.shown hand.bits hand.work
      → lent_refusal B d work ≡ 0 → AddsNoHarm B (left_by hand) (left_by o)
  -- in a right game a flag by hand on a mine, and a chord by hand, are harmless from the hand on
  pub flag_on_a_mine : (B : List ℤ) (i : ℕ) (d : Desk) → Fair B d → Right B d → NoQuestions d → closed_at d.shown i ≡ true → mine_at B i ≡ true
      → Harmless B d (right_click B i d).desk
  pub chord_in_a_right_game : (B : List ℤ) (i : ℕ) (d : Desk) → Fair B d → Right B d → (mode_both d.position.settings.mode ≡ true → NoQuestions d) → i < length d.shown
      → Harmless B d (chording_click B i d).desk
