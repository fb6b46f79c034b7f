-- A packed step: where the numbers of its position stand in its head of 80 bytes, and what a byte of its mine board is. Bytes 51 to 53 are the
-- event's code, row and column, 54 the rules, 55 says which call it is for, 56 to 59 the safe cells still closed; 60 to 71 are reserved, 0 and not read;
-- from 72 on stand the lengths of the mine board, the shown board, the bits and the work.
use Rattle.std.specs.Prelude.{Bool, not, List, map, ℕ, ◌+◌, ◌*◌, ◌-◌, eqb, ltb, ℤ, pos, negsuc, get_or}
use Rattle.rules.specs.declared.Settings.{Settings}
use Rattle.rules.specs.declared.Position.{Position}
use Rattle.rules.specs.declared.Counts.{Counts}
use Rattle.rules.specs.declared.Secrets.{Secrets}
use Rattle.rules.specs.Words.{pick}
use Rattle.rules.specs.States.{game_at, mouse_at}

-- numbers of two and of four bytes, low byte first
abbrev pub two_at : List ℕ → ℕ → ℕ
two_at s k = get_or s k 0 + 256 * get_or s (k + 1) 0

abbrev pub four_at : List ℕ → ℕ → ℕ
four_at s k = two_at s k + 65536 * two_at s (k + 2)

-- 0 is no, any other byte yes
abbrev pub yes : ℕ → Bool
yes b = not (eqb b 0)

abbrev pub settings_in : List ℕ → Settings
settings_in s = record { rows = get_or s 0 0; columns = get_or s 1 0; mode = get_or s 2 0; question = yes (get_or s 3 0); rules = get_or s 54 0 }

abbrev pub counts_in : List ℕ → Counts
counts_in s =
    record { left = four_at s 15; right = four_at s 19; double = four_at s 23; lce = four_at s 27; dce = four_at s 35; flag = four_at s 39; unopened = four_at s 56 }

abbrev pub secrets_in : List ℕ → Secrets
secrets_in s = record { rce = four_at s 31; solved_left = four_at s 43; solved_chord = four_at s 47 }

abbrev pub position_in : List ℕ → Position
position_in s = record {
  settings = settings_in s;
  game = game_at (get_or s 4 0);
  mouse = mouse_at (get_or s 5 0);
  middle = yes (get_or s 6 0);
  preflags = four_at s 7;
  events = four_at s 11;
  counts = counts_in s;
  secrets = secrets_in s;
}

-- a byte of the mine board: 255 is -1
abbrev pub signed_of : ℕ → ℤ
signed_of b = pick (ltb b 128) (pos b) (negsuc (255 - b))

abbrev pub signed_all : List ℕ → List ℤ
signed_all bs = map signed_of bs
