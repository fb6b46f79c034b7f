-- The states by number, and the position with one part changed.
use Rattle.std.specs.Prelude.{Bool, true, false, ℕ, eqb}
use Rattle.rules.specs.declared.Settings.{Settings}
use Rattle.rules.specs.declared.Position.{Position}
use Rattle.rules.specs.declared.Counts.{Counts}
use Rattle.rules.specs.declared.Secrets.{Secrets}
use Rattle.rules.specs.declared.GameState.{GameState}
use Rattle.rules.specs.declared.GameState.TheVariants.{Ready, Playing, Win, Loss, PreFlaging}
use Rattle.rules.specs.declared.MouseState.{MouseState}
use Rattle.rules.specs.declared.MouseState.TheVariants.{UpUp, UpDown, UpDownNotFlag, DownUp, Chording, ChordingNotFlag, DownUpAfterChording}
use Rattle.rules.specs.Words.{pick}

-- game states by number
abbrev pub game_number : GameState → ℕ
game_number Ready = 0
game_number Playing = 1
game_number Win = 2
game_number Loss = 3
game_number PreFlaging = 4

-- and back; all from 4 on are the last
unfoldable pub game_at : ℕ → GameState
game_at n = pick (eqb n 0) Ready (pick (eqb n 1) Playing (pick (eqb n 2) Win (pick (eqb n 3) Loss PreFlaging)))

-- mouse states by number
abbrev pub mouse_number : MouseState → ℕ
mouse_number UpUp = 0
mouse_number UpDown = 1
mouse_number UpDownNotFlag = 2
mouse_number DownUp = 3
mouse_number Chording = 4
mouse_number ChordingNotFlag = 5
mouse_number DownUpAfterChording = 6

-- and back; all from 6 on are the last
unfoldable pub mouse_at : ℕ → MouseState
mouse_at n =
    pick (eqb n 0) UpUp (pick (eqb n 1) UpDown (pick (eqb n 2) UpDownNotFlag (pick (eqb n 3) DownUp
    (pick (eqb n 4) Chording (pick (eqb n 5) ChordingNotFlag DownUpAfterChording)))))

abbrev pub is_playing : GameState → Bool
is_playing Ready = false
is_playing Playing = true
is_playing Win = false
is_playing Loss = false
is_playing PreFlaging = false

abbrev pub is_loss : GameState → Bool
is_loss Ready = false
is_loss Playing = false
is_loss Win = false
is_loss Loss = true
is_loss PreFlaging = false

-- UpDownNotFlag or ChordingNotFlag
abbrev pub is_not_flag : MouseState → Bool
is_not_flag UpUp = false
is_not_flag UpDown = false
is_not_flag UpDownNotFlag = true
is_not_flag DownUp = false
is_not_flag Chording = false
is_not_flag ChordingNotFlag = true
is_not_flag DownUpAfterChording = false

-- a fresh position: Ready, the mouse up, every count 0 but that of the safe cells still closed
abbrev pub fresh_of : Settings → ℕ → Position
fresh_of s unopened = record {
  settings = s;
  game = Ready;
  mouse = UpUp;
  middle = false;
  preflags = 0;
  events = 0;
  counts = record { left = 0; right = 0; double = 0; lce = 0; dce = 0; flag = 0; unopened = unopened };
  secrets = record { rce = 0; solved_left = 0; solved_chord = 0 };
}

abbrev pub with_game : Position → GameState → Position
with_game p g = record { settings = p.settings; game = g; mouse = p.mouse; middle = p.middle; preflags = p.preflags; events = p.events; counts = p.counts; secrets = p.secrets }

abbrev pub with_mouse : Position → MouseState → Position
with_mouse p m = record { settings = p.settings; game = p.game; mouse = m; middle = p.middle; preflags = p.preflags; events = p.events; counts = p.counts; secrets = p.secrets }

abbrev pub with_middle : Position → Bool → Position
with_middle p b = record { settings = p.settings; game = p.game; mouse = p.mouse; middle = b; preflags = p.preflags; events = p.events; counts = p.counts; secrets = p.secrets }

abbrev pub with_preflags : Position → ℕ → Position
with_preflags p n = record { settings = p.settings; game = p.game; mouse = p.mouse; middle = p.middle; preflags = n; events = p.events; counts = p.counts; secrets = p.secrets }

abbrev pub with_events : Position → ℕ → Position
with_events p n = record { settings = p.settings; game = p.game; mouse = p.mouse; middle = p.middle; preflags = p.preflags; events = n; counts = p.counts; secrets = p.secrets }

abbrev pub with_counts : Position → Counts → Position
with_counts p c = record { settings = p.settings; game = p.game; mouse = p.mouse; middle = p.middle; preflags = p.preflags; events = p.events; counts = c; secrets = p.secrets }

abbrev pub with_secrets : Position → Secrets → Position
with_secrets p k = record { settings = p.settings; game = p.game; mouse = p.mouse; middle = p.middle; preflags = p.preflags; events = p.events; counts = p.counts; secrets = k }

abbrev pub with_left : Position → ℕ → Position
with_left p n = with_counts p (record { left = n; right = p.counts.right; double = p.counts.double; lce = p.counts.lce; dce = p.counts.dce; flag = p.counts.flag; unopened = p.counts.unopened })

abbrev pub with_right : Position → ℕ → Position
with_right p n = with_counts p (record { left = p.counts.left; right = n; double = p.counts.double; lce = p.counts.lce; dce = p.counts.dce; flag = p.counts.flag; unopened = p.counts.unopened })

abbrev pub with_double : Position → ℕ → Position
with_double p n = with_counts p (record { left = p.counts.left; right = p.counts.right; double = n; lce = p.counts.lce; dce = p.counts.dce; flag = p.counts.flag; unopened = p.counts.unopened })

abbrev pub with_lce : Position → ℕ → Position
with_lce p n = with_counts p (record { left = p.counts.left; right = p.counts.right; double = p.counts.double; lce = n; dce = p.counts.dce; flag = p.counts.flag; unopened = p.counts.unopened })

abbrev pub with_dce : Position → ℕ → Position
with_dce p n = with_counts p (record { left = p.counts.left; right = p.counts.right; double = p.counts.double; lce = p.counts.lce; dce = n; flag = p.counts.flag; unopened = p.counts.unopened })

abbrev pub with_flag : Position → ℕ → Position
with_flag p n = with_counts p (record { left = p.counts.left; right = p.counts.right; double = p.counts.double; lce = p.counts.lce; dce = p.counts.dce; flag = n; unopened = p.counts.unopened })

abbrev pub with_unopened : Position → ℕ → Position
with_unopened p n = with_counts p (record { left = p.counts.left; right = p.counts.right; double = p.counts.double; lce = p.counts.lce; dce = p.counts.dce; flag = p.counts.flag; unopened = n })

abbrev pub with_rce : Position → ℕ → Position
with_rce p n = with_secrets p (record { rce = n; solved_left = p.secrets.solved_left; solved_chord = p.secrets.solved_chord })

abbrev pub with_solved_left : Position → ℕ → Position
with_solved_left p n = with_secrets p (record { rce = p.secrets.rce; solved_left = n; solved_chord = p.secrets.solved_chord })

abbrev pub with_solved_chord : Position → ℕ → Position
with_solved_chord p n = with_secrets p (record { rce = p.secrets.rce; solved_left = p.secrets.solved_left; solved_chord = n })

-- back to Ready with the counts cleared, but for the safe cells still closed, the solved counts, the pre-flag count and the events
abbrev pub zeroed : Position → Position
zeroed p = record {
  settings = p.settings;
  game = Ready;
  mouse = p.mouse;
  middle = p.middle;
  preflags = p.preflags;
  events = p.events;
  counts = record { left = 0; right = 0; double = 0; lce = 0; dce = 0; flag = 0; unopened = p.counts.unopened };
  secrets = record { rce = 0; solved_left = p.secrets.solved_left; solved_chord = p.secrets.solved_chord };
}
