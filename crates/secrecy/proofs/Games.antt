-- The games of the witnesses, computed: what the boards must agree on as tests, and what the games come to. Assumes nothing.
use mathlib.Core.Path.{◌≡◌, refl, sym, ap, ◌∙◌}
use mathlib.Core.List.{List, [], ◌∷◌}
use mathlib.Core.Bool.{Bool, true, false, not, ◌||◌, true≢false, false≢true}
use Prim.Native.Nat.{ℕ, ◌+◌, ◌*◌, ◌≤◌}
use lib.ListN.{get_or}
use lib.IntN.{ℤ, pos}
use lib.Dec.{leb, eqb}
use borrow.Author.Tests.{eqb-true, eq-eqb, le-leb}
use Rattle.rules.specs.declared.Settings.{Settings}
use Rattle.rules.specs.Words.{count, every, in_order, stack_of, rounds}
use Rattle.rules.specs.States.{game_number, mouse_at}
use Rattle.rules.specs.Grid.{size_ok, ninth, cell_before, neighbour, around, pushed}
use Rattle.rules.specs.Board.{face_at, zero_at, lone_at, values_ok, number_ok, numbers_ok, some_safe, safe_in, board_refusal, board_check}
use Rattle.rules.specs.Lent.{bit_at, with_bit}
use Rattle.rules.specs.Opening.{shown_after, stack_after, hit_after, run, crossed, refreshed, count_shown}
use Rattle.rules.specs.Judging.{free_at, kind, walk, walk_from, judged_left, judge_one, tally, openings_judged, lones}
use Rattle.rules.specs.Clicks.{Play, ended, solves_left, left_opens, left_click, bits_with, adds_rce, take_back, chord_is_useful, chord_opens, perform_chord}
use Rattle.rules.specs.Passes.{all_closed_of, ripe_at, listed, flag_one, flag_all, flag_round, flag_pass, chord_one, chord_scan, chord_round, chord_pass, both_round, both_pass, passes_after_flag, passes_after_chord, right_click, chording_click}
use Rattle.rules.specs.Mouse.{mouse_table, next_mouse, moved, both_down, resolved, flipped}
use Rattle.rules.specs.Step.{seen_at, left_at, right_at, chord_at, chord_from, play_lc, play_lr, play_rc, play_rr, playing, pre_flag, ready_lc, ready_rc, ready, pre_left, pre_lr, pre_cell, pre_right, pre_rc, pre_flaging, by_game, pointer_of, event_of, errs_playing, errs_pre_flaging, bad_pre_flag, event_refusal, plain_of, refusal_at, play_at, step_at, step_by_of, step_on}
use Rattle.rules.specs.Calls.{plays, cells_in}
use Rattle.cells.proofs.Words.{every_at}
use Rattle.secrecy.specs.Demand.{Seen, seen_all, seen_of, plays_on, game, stopped, last_desk, end_of, AgreeWhere, AgreeOpen, AgreeFlag}
use Rattle.secrecy.specs.Witness.{line, mine, opens, flags, played_a, played_b, played_events, lost_a, lost_b, lost_events, onward_a, onward_b, onward_events, by_rules2, released_events, heard, sums, end}

-- ---- the hypotheses as tests -------------------------------------------------------------------------------------------------------------

-- a number of what is seen last: the game state, and what cell 1 shows
pub last_seen : ℕ → List Seen → ℕ
last_seen n [] = n
last_seen n (x ∷ xs) = last_seen (100 * game_number x.game + get_or x.shown 1 0) xs

-- what the games of a pair compute to; `shown` is what is shown at such an end
pub record Pair (ending : Settings → List ℕ → List ℤ → List Play) (s : Settings) (events : List ℕ) (A B : List ℤ) (shown : List ℕ) (a b : ℕ) : Type 0 where
  pub first : board_check s.rows s.columns A ≡ 0
  pub second : board_check s.rows s.columns B ≡ 0
  pub ends : end_of s A (ending s events A) ≡ shown
  pub seen_a : last_seen 0 (seen_of s (game s events A)) ≡ a
  pub seen_b : last_seen 0 (seen_of s (game s events B)) ≡ b

module _ {ending : Settings → List ℕ → List ℤ → List Play} {s : Settings} {events : List ℕ} {A B : List ℤ} {shown : List ℕ} {a b : ℕ}
    (c : Pair ending s events A B shown a b) where
  -- agreement at the values that pass p
  agree_by : (P : ℕ → Type 0) (p : ℕ → Bool) → ((x : ℕ) → P x → p x ≡ true)
      → every (λ i. not (p (get_or shown i 0)) || eqb (face_at A i) (face_at B i)) (cells_in s) ≡ true → AgreeWhere P s (end_of s A (ending s events A)) A B
  agree_by P p f t i l k =
      go (p (get_or shown i 0)) (f (get_or shown i 0) (rw c.ends at k)) (every_at (λ i. not (p (get_or shown i 0)) || eqb (face_at A i) (face_at B i)) (cells_in s) t i l)
    where
      go : (b : Bool) → b ≡ true → (not b || eqb (face_at A i) (face_at B i)) ≡ true → face_at A i ≡ face_at B i
      go true t e = eqb-true (face_at A i) (face_at B i) e
      go false t e = absurd (false≢true t)

  pub open_agree : every (λ i. not (leb (get_or shown i 0) 8) || eqb (face_at A i) (face_at B i)) (cells_in s) ≡ true → AgreeOpen s (end_of s A (ending s events A)) A B
  open_agree = agree_by (λ x. x ≤ 8) (λ x. leb x 8) (λ x. le-leb x 8)

  pub agree_at : (v : ℕ) → every (λ i. not (eqb (get_or shown i 0) v) || eqb (face_at A i) (face_at B i)) (cells_in s) ≡ true
      → AgreeWhere (λ x. x ≡ v) s (end_of s A (ending s events A)) A B
  agree_at v = agree_by (λ x. x ≡ v) (λ x. eqb x v) (λ x. eq-eqb x v)

  -- where no cell shows 15, nothing is asked of the flags
  pub no_hit : every (λ i. not (eqb (get_or shown i 0) 15)) (cells_in s) ≡ true → AgreeFlag s (end_of s A (ending s events A)) A B
  no_hit t k l q =
      absurd (true≢false (sym (every_at (λ i. not (eqb (get_or shown i 0) 15)) (cells_in s) t k l) ∙ ap not (eq-eqb (get_or shown k 0) 15 (rw c.ends at q))))

-- ---- the games ---------------------------------------------------------------------------------------------------------------------------

-- still played, with a hidden mine in different places
abbrev pub Played : Type 0
Played =
    Pair game (line 16) played_events played_a played_b (10 ∷ 10 ∷ 1 ∷ 0 ∷ 0 ∷ 11 ∷ 11 ∷ 10 ∷ 10 ∷ 11 ∷ 1 ∷ 0 ∷ 0 ∷ 11 ∷ 10 ∷ 10 ∷ []) 110 110

-- lost, with a hidden mine in different places
abbrev pub Lost : Type 0
Lost = Pair game (line 10) lost_events lost_a lost_b (10 ∷ 11 ∷ 2 ∷ 15 ∷ 14 ∷ 10 ∷ 10 ∷ 10 ∷ 10 ∷ 10 ∷ []) 311 311

-- opened at 0, three mines are won where one mine is not
abbrev pub Mines : Type 0
Mines = Pair game (line 4) (opens 0 []) (pos 1 ∷ mine ∷ mine ∷ mine ∷ []) (pos 1 ∷ mine ∷ pos 1 ∷ pos 0 ∷ []) (1 ∷ 10 ∷ 10 ∷ 10 ∷ []) 210 110

-- a mine beside or under the cell that is opened
abbrev pub Opened : Type 0
Opened = Pair game (line 2) (opens 0 []) (pos 1 ∷ mine ∷ []) (mine ∷ pos 1 ∷ []) (1 ∷ 10 ∷ []) 210 310

abbrev pub Hit : Type 0
Hit = Pair game (line 2) (opens 0 []) (mine ∷ pos 1 ∷ []) (pos 1 ∷ mine ∷ []) (15 ∷ 10 ∷ []) 310 210

-- a flag on a safe cell or on a mine when the mine beside it is hit
abbrev pub Wrong : Type 0
Wrong = Pair game (line 3) (flags 1 (opens 0 [])) (mine ∷ pos 2 ∷ mine ∷ []) (mine ∷ mine ∷ pos 1 ∷ []) (15 ∷ 14 ∷ 10 ∷ []) 314 311

abbrev pub Flag : Type 0
Flag = Pair game (line 3) (flags 1 (opens 0 [])) (mine ∷ mine ∷ pos 1 ∷ []) (mine ∷ pos 2 ∷ mine ∷ []) (15 ∷ 11 ∷ 10 ∷ []) 311 314

-- goes on after refused events, with a hidden mine in different places
abbrev pub Onward : Type 0
Onward = Pair game (line 5) onward_events onward_a onward_b (1 ∷ 11 ∷ 10 ∷ 10 ∷ 10 ∷ []) 111 111

-- nothing is open where the game is first refused; then a mine beside or under the cell that is opened
abbrev pub Refused : Type 0
Refused = Pair stopped (line 2) (4 ∷ 0 ∷ 2 ∷ opens 0 []) (pos 1 ∷ mine ∷ []) (mine ∷ pos 1 ∷ []) (10 ∷ 10 ∷ []) 210 310

-- by rules 2 the button is released and a flag is set, with a hidden mine in different places
abbrev pub Released : Type 0
Released = Pair game (by_rules2 (line 5)) released_events onward_a onward_b (1 ∷ 11 ∷ 10 ∷ 10 ∷ 10 ∷ []) 111 111

-- what is heard in the game that goes on, with its sums, and if it were stopped; and of the same events by rules 2 and by rules 1
pub record Heard : Type 0 where
  pub sums : sums (seen_of (line 5) (game (line 5) onward_events onward_a)) ≡ 0 ∷ 0 ∷ 1 ∷ 0 ∷ 0 ∷ 0 ∷ 0 ∷ []
  pub onward : heard (game (line 5) onward_events onward_a) ≡ 0 ∷ 32 ∷ 2 ∷ 33 ∷ 30 ∷ 1 ∷ 0 ∷ []
  pub broken : heard (stopped (line 5) onward_events onward_a) ≡ 0 ∷ 32 ∷ []
  pub two : heard (game (by_rules2 (line 5)) released_events onward_a) ≡ 0 ∷ 2 ∷ 0 ∷ 0 ∷ 1 ∷ 0 ∷ []
  pub one : heard (game (line 5) released_events onward_a) ≡ 0 ∷ 2 ∷ 0 ∷ 0 ∷ 0 ∷ 0 ∷ []

-- what the game still played hides on either board
pub record Kept : Type 0 where
  pub secrets_a : (end (line 16) played_events played_a).position.secrets ≡ record { rce = 1; solved_left = 0; solved_chord = 0 }
  pub secrets_b : (end (line 16) played_events played_b).position.secrets ≡ record { rce = 2; solved_left = 1; solved_chord = 1 }
  pub bits_a : (end (line 16) played_events played_a).bits ≡ 0 ∷ 2 ∷ []
  pub bits_b : (end (line 16) played_events played_b).bits ≡ 64 ∷ 2 ∷ []

pub record Games : Type 0 where
  pub played : Played
  pub lost : Lost
  pub mines : Mines
  pub opened : Opened
  pub hit : Hit
  pub wrong : Wrong
  pub flag : Flag
  pub onward : Onward
  pub refused : Refused
  pub released : Released
  pub heard : Heard
  pub kept : Kept

pub games : Games
unfolding last_seen heard sums count_shown seen_all plays_on last_desk count every in_order stack_of rounds mouse_at size_ok ninth cell_before neighbour around pushed zero_at lone_at values_ok number_ok numbers_ok some_safe board_refusal board_check bit_at with_bit shown_after stack_after
    hit_after run crossed refreshed free_at kind walk walk_from judged_left judge_one tally openings_judged lones safe_in ended solves_left left_opens left_click bits_with
    adds_rce take_back chord_is_useful chord_opens perform_chord all_closed_of ripe_at listed flag_one flag_all flag_round flag_pass chord_one chord_scan chord_round chord_pass
    both_round both_pass passes_after_flag passes_after_chord right_click chording_click mouse_table next_mouse moved both_down resolved flipped seen_at left_at right_at
    chord_at chord_from play_lc play_lr play_rc play_rr playing pre_flag ready_lc ready_rc ready pre_left pre_lr pre_cell pre_right pre_rc pre_flaging by_game pointer_of
    event_of errs_playing errs_pre_flaging bad_pre_flag event_refusal plain_of refusal_at play_at step_at step_by_of step_on plays
games = record {
  played = record { first = refl; second = refl; ends = refl; seen_a = refl; seen_b = refl };
  lost = record { first = refl; second = refl; ends = refl; seen_a = refl; seen_b = refl };
  mines = record { first = refl; second = refl; ends = refl; seen_a = refl; seen_b = refl };
  opened = record { first = refl; second = refl; ends = refl; seen_a = refl; seen_b = refl };
  hit = record { first = refl; second = refl; ends = refl; seen_a = refl; seen_b = refl };
  wrong = record { first = refl; second = refl; ends = refl; seen_a = refl; seen_b = refl };
  flag = record { first = refl; second = refl; ends = refl; seen_a = refl; seen_b = refl };
  onward = record { first = refl; second = refl; ends = refl; seen_a = refl; seen_b = refl };
  refused = record { first = refl; second = refl; ends = refl; seen_a = refl; seen_b = refl };
  released = record { first = refl; second = refl; ends = refl; seen_a = refl; seen_b = refl };
  heard = record { sums = refl; onward = refl; broken = refl; two = refl; one = refl };
  kept = record { secrets_a = refl; secrets_b = refl; bits_a = refl; bits_b = refl };
}
