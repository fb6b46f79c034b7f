-- Demands 1 and 3 by the league's rules, each of them by its number.
use Rattle.std.specs.Prelude.{◌≡◌, List, map, ℕ, ◌≤◌, ℤ}
use Rattle.rules.specs.declared.Settings.{Settings}
use Rattle.rules.specs.States.{fresh_of}
use Rattle.rules.specs.Clicks.{Desk}
use Rattle.rules.specs.Calls.{Outcome, refuses, set_up, refused_at, setup_refusal, setup_of, reset_of, resolve_of, step_of, flow_refusal, flow_of, game_state_of}
use Rattle.secrecy.specs.Demand.{end_of, Twins}
use Rattle.league.specs.Secret.{Call, play_of, seen_by, Game}

-- a position by these rules
abbrev pub By : ℕ → Desk → Type 0
By rules d = d.position.settings.rules ≡ rules

-- demand 1: whatever is refused has its number, and the position and all that is lent are as they were
pub record FirstDemand (rules : ℕ) : Type 0 where
  pub setup : (s : Settings) (B : List ℤ) (shown bits : List ℕ) → s.rules ≡ rules → (setup_refusal s B shown bits ≡ 0 → ⊥)
      → setup_of s B shown bits ≡ set_up (refuses B (fresh_of s 0) (setup_refusal s B shown bits)) shown bits
  pub reset : (B : List ℤ) (d : Desk) → By rules d → (setup_refusal d.position.settings B d.shown d.bits ≡ 0 → ⊥)
      → reset_of B d ≡ set_up (refuses B d.position (setup_refusal d.position.settings B d.shown d.bits)) d.shown d.bits
  pub resolve : (B : List ℤ) (code r c : ℕ) (d : Desk) → By rules d → ((resolve_of B code r c d).number ≡ 0 → ⊥)
      → resolve_of B code r c d ≡ refuses B d.position (resolve_of B code r c d).number
  pub step : (B : List ℤ) (code r c : ℕ) (d : Desk) (work : List ℕ) → By rules d → 20 ≤ (step_of B code r c d work).answer.number
      → step_of B code r c d work ≡ refused_at B (step_of B code r c d work).answer.number d work
  pub flow : (B : List ℤ) (events : List ℕ) (d : Desk) (work : List ℕ) → By rules d → (flow_refusal B events d work ≡ 0 → ⊥)
      → flow_of B events d work ≡ refused_at B (flow_refusal B events d work) d work
  pub state : (B : List ℤ) (event : ℕ) (d : Desk) → By rules d → ((game_state_of B event d).number ≡ 0 → ⊥)
      → game_state_of B event d ≡ refuses B d.position (game_state_of B event d).number

-- demand 3: two games of the same calls on twin boards, by these rules, show the same after every call
abbrev pub ThirdDemand : ℕ → Type 0
ThirdDemand rules =
    (s : Settings) (calls : List Call) (A B : List ℤ) (os ps : List Outcome) → s.rules ≡ rules → Game s calls A os → Game s calls B ps
    → Twins s (end_of s A (map play_of os)) A B → map seen_by os ≡ map seen_by ps
