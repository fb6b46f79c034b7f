-- The class's setup and step as calls: in mode 0 they are the board's but for forbidden codes, every other mode is 25, and the lawful position is kept.
-- proofs/Calls.antt proves it.
use Rattle.std.specs.Prelude.{◌≡◌, false, ◌&&◌, List, ℕ, ℤ}
use Rattle.rules.specs.declared.Settings.{Settings}
use Rattle.rules.specs.Board.{board_refusal}
use Rattle.rules.specs.Clicks.{Desk}
use Rattle.rules.specs.Step.{step_on}
use Rattle.rules.specs.Calls.{left_by, boards_fit, work_fits, position_check, fresh_desk, setup_of, tested}
use Rattle.rules.specs.Noflag.{forbidden, class_setup_refusal, class_setup_of, class_lent_refusal, class_step_of}

pub record ClassCalls : Type 0 where
  -- in mode 0 setup is the board's, and an event that is not forbidden is the full game's as one call
  pub setup_same : (s : Settings) (B : List ℤ) (shown bits : List ℕ) → s.mode ≡ 0 → class_setup_of s B shown bits ≡ setup_of s B shown bits
  pub step_same : (B : List ℤ) (code r c : ℕ) (d : Desk) (work : List ℕ) → d.position.settings.mode ≡ 0 → forbidden code ≡ false
      → class_step_of B code r c d work ≡ tested B d work (step_on B code r c d)
  -- on an accepted board every other mode is 25, before 45 and 261 to 264
  pub setup_mode : (s : Settings) (B : List ℤ) (shown bits : List ℕ) → board_refusal s.rows s.columns (boards_fit s B shown bits) B ≡ 0
      → (s.mode ≡ 0 → ⊥) → class_setup_refusal s B shown bits ≡ 25
  pub step_mode : (B : List ℤ) (d : Desk) (work : List ℕ)
      → board_refusal d.position.settings.rows d.position.settings.columns
      (boards_fit d.position.settings B d.shown d.bits && work_fits d.position.settings work) B ≡ 0
      → (d.position.settings.mode ≡ 0 → ⊥) → class_lent_refusal B d work ≡ 25
  -- what setup accepts the position check accepts, and no step, accepted or refused, leads from such a position to another kind
  pub setup_keeps : (s : Settings) (B : List ℤ) (shown bits : List ℕ) → class_setup_refusal s B shown bits ≡ 0 → position_check B (fresh_desk s B) ≡ 0
  pub step_keeps : (B : List ℤ) (code r c : ℕ) (d : Desk) (work : List ℕ) → position_check B d ≡ 0
      → position_check B (left_by (class_step_of B code r c d work)) ≡ 0
