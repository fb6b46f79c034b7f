-- Four pairs of games that meet the hypotheses of the demand, with a hidden mine in different places: one still played, one lost, one that
-- goes on after refused events, one by rules 2. proofs/Witness.antt computes them.
use Rattle.std.specs.Prelude.{◌≡◌, false, List, [], ◌∷◌, ℕ, ℤ, pos, negsuc}
use Rattle.rules.specs.declared.Settings.{Settings}
use Rattle.rules.specs.Clicks.{Desk, Play}
use Rattle.rules.specs.Calls.{fresh_desk}
use Rattle.secrecy.specs.Demand.{Seen, game, last_desk}

-- one row in mode 0, question marks off, rules 1
abbrev pub line : ℕ → Settings
line n = record { rows = 1; columns = n; mode = 0; question = false; rules = 1 }

abbrev pub mine : ℤ
mine = negsuc 0

-- open is lc, lr; flag is rc, rr; chord is mr
abbrev pub opens : ℕ → List ℕ → List ℕ
opens c es = 0 ∷ 0 ∷ c ∷ 1 ∷ 0 ∷ c ∷ es

abbrev pub flags : ℕ → List ℕ → List ℕ
flags c es = 2 ∷ 0 ∷ c ∷ 3 ∷ 0 ∷ c ∷ es

abbrev pub chords : ℕ → List ℕ → List ℕ
chords c es = 6 ∷ 0 ∷ c ∷ es

-- mines at 1, 7, 9, 15, and at 1, 6, 9, 14; both end as 10 10 1 0 0 11 11 10 10 11 1 0 0 11 10 10
abbrev pub played_a : List ℤ
played_a =
    pos 1 ∷ mine ∷ pos 1 ∷ pos 0 ∷ pos 0 ∷ pos 0 ∷ pos 1 ∷ mine ∷ pos 2 ∷ mine ∷ pos 1 ∷ pos 0 ∷ pos 0 ∷ pos 0 ∷ pos 1 ∷ mine ∷ []

abbrev pub played_b : List ℤ
played_b =
    pos 1 ∷ mine ∷ pos 1 ∷ pos 0 ∷ pos 0 ∷ pos 1 ∷ mine ∷ pos 1 ∷ pos 1 ∷ mine ∷ pos 1 ∷ pos 0 ∷ pos 0 ∷ pos 1 ∷ mine ∷ pos 1 ∷ []

abbrev pub played_events : List ℕ
played_events = flags 5 (flags 6 (opens 4 (flags 13 (opens 10 (flags 9 (chords 10 []))))))

-- mines at 1, 3, 8, and at 1, 3, 9; both end as 10 11 2 15 14 10 10 10 10 10
abbrev pub lost_a : List ℤ
lost_a = pos 1 ∷ mine ∷ pos 2 ∷ mine ∷ pos 1 ∷ pos 0 ∷ pos 0 ∷ pos 1 ∷ mine ∷ pos 1 ∷ []

abbrev pub lost_b : List ℤ
lost_b = pos 1 ∷ mine ∷ pos 2 ∷ mine ∷ pos 1 ∷ pos 0 ∷ pos 0 ∷ pos 0 ∷ pos 1 ∷ mine ∷ []

abbrev pub lost_events : List ℕ
lost_events = flags 1 (flags 4 (opens 2 (opens 3 [])))

-- mines at 1, 3, and at 1, 4; both end as 1 11 10 10 10
abbrev pub onward_a : List ℤ
onward_a = pos 1 ∷ mine ∷ pos 2 ∷ mine ∷ pos 1 ∷ []

abbrev pub onward_b : List ℤ
onward_b = pos 1 ∷ mine ∷ pos 1 ∷ pos 1 ∷ mine ∷ []

-- lc; pf off the board, refused with 32; lr; pf while Playing, with 33; mv neither on a cell nor off the board, with 30; a flag
abbrev pub onward_events : List ℕ
onward_events = 0 ∷ 0 ∷ 0 ∷ 8 ∷ 1 ∷ 5 ∷ 1 ∷ 0 ∷ 0 ∷ 8 ∷ 0 ∷ 2 ∷ 4 ∷ 0 ∷ 5 ∷ flags 1 []

-- the same by rules 2
abbrev pub by_rules2 : Settings → Settings
by_rules2 s = record { rows = s.rows; columns = s.columns; mode = s.mode; question = s.question; rules = 2 }

-- on the same boards: open 0, rc and r on the open cell, flag 1; both end as 1 11 10 10 10 by rules 2, and by rules 1 without the flag
abbrev pub released_events : List ℕ
released_events = opens 0 (2 ∷ 0 ∷ 0 ∷ 10 ∷ 0 ∷ 0 ∷ flags 1 [])

-- the answers and refusals of a row of plays
unfoldable pub heard : List Play → List ℕ
heard [] = []
heard (o ∷ os) = o.answer ∷ heard os

-- the sums of opened cells beside them
unfoldable pub sums : List Seen → List ℕ
sums [] = []
sums (x ∷ xs) = x.opened ∷ sums xs

-- the desk that a game ends with
abbrev pub end : Settings → List ℕ → List ℤ → Desk
end s events B = last_desk (fresh_desk s B) (game s events B)

-- what the demand does not promise, and why it is shown only after the game: rce, both solved counts and the bits can differ
pub record Differ (d e : Desk) : Type 0 where
  pub rce : d.position.secrets.rce ≡ e.position.secrets.rce → ⊥
  pub left : d.position.secrets.solved_left ≡ e.position.secrets.solved_left → ⊥
  pub chord : d.position.secrets.solved_chord ≡ e.position.secrets.solved_chord → ⊥
  pub bits : d.bits ≡ e.bits → ⊥
