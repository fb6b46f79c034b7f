-- The games of specs/Games.antt, computed. Assumes nothing.
use mathlib.Core.Path.{◌≡◌, refl}
use mathlib.Core.List.{[], ◌∷◌}
use Prim.Native.Nat.{ℕ, zero, suc, ◌<◌, ◌≤◌}
use native.Mathlib.Omega.{arith}
use lib.ListN.{get_or}
use Rattle.rules.specs.Words.{count, every}
use Rattle.rules.specs.States.{mouse_at}
use Rattle.rules.specs.Grid.{size_ok, ninth, cell_before, neighbour, around, pushed}
use Rattle.rules.specs.Board.{face_at, zero_at, lone_at, values_ok, number_ok, numbers_ok, some_safe, safe_in, board_refusal, board_check}
use Rattle.rules.specs.Opening.{shown_after, stack_after, hit_after, run, crossed, refreshed, count_shown}
use Rattle.rules.specs.Judging.{free_at, kind, walk, walk_from, judged_left}
use Rattle.rules.specs.Clicks.{ended, solves_left, left_opens, left_click, chord_is_useful, perform_chord}
use Rattle.rules.specs.Passes.{passes_after_chord, chording_click}
use Rattle.rules.specs.Mouse.{mouse_table, next_mouse, moved, both_down, resolved, flipped}
use Rattle.rules.specs.Step.{
  seen_at,
  left_at,
  chord_at,
  chord_from,
  play_lc,
  play_lr,
  playing,
  ready_lc,
  ready,
  pre_left,
  pre_lr,
  pre_flaging,
  by_game,
  pointer_of,
  event_of,
  errs_playing,
  errs_pre_flaging,
  bad_pre_flag,
  event_refusal,
  plain_of,
  play_at,
}
use Rattle.secrecy.specs.Demand.{last_desk}
use Rattle.rules.specs.Noflag.{forbidden, class_refusal_at, class_step_at, class_step_by, class_step_on}
use Rattle.noflag.specs.Class.{class_on}
use Rattle.noflag.specs.Games.{answers, strip, other_strip, Worked}

-- the boards agree at cell 0, and no other cell is open or hit
open_agree : (i : ℕ) → i < 5 → get_or (1 ∷ 10 ∷ 10 ∷ 10 ∷ 10 ∷ []) i 0 ≤ 8 → face_at strip i ≡ face_at other_strip i
open_agree zero l h = refl
open_agree (suc zero) l h = refl
open_agree (suc (suc zero)) l h = absurd (omega arith)
open_agree (suc (suc (suc zero))) l h = absurd (omega arith)
open_agree (suc (suc (suc (suc zero)))) l h = absurd (omega arith)
open_agree (suc (suc (suc (suc (suc i))))) l h = absurd (omega arith)

hit_agree : (i : ℕ) → i < 5 → ◌≡◌ {A = ℕ} (get_or (1 ∷ 10 ∷ 10 ∷ 10 ∷ 10 ∷ []) i 0) 15 → face_at strip i ≡ face_at other_strip i
hit_agree zero l h = refl
hit_agree (suc zero) l h = refl
hit_agree (suc (suc zero)) l h = absurd (omega arith)
hit_agree (suc (suc (suc zero))) l h = absurd (omega arith)
hit_agree (suc (suc (suc (suc zero)))) l h = absurd (omega arith)
hit_agree (suc (suc (suc (suc (suc i))))) l h = absurd (omega arith)

pub worked : Worked
unfolding answers count_shown last_desk count every mouse_at size_ok ninth cell_before neighbour around pushed zero_at lone_at values_ok number_ok numbers_ok some_safe safe_in
    board_refusal board_check shown_after stack_after hit_after run crossed refreshed free_at kind walk walk_from judged_left ended solves_left left_opens left_click
    chord_is_useful perform_chord passes_after_chord chording_click mouse_table next_mouse moved both_down resolved flipped seen_at left_at chord_at chord_from play_lc
    play_lr playing ready_lc ready pre_left pre_lr pre_flaging by_game pointer_of event_of errs_playing errs_pre_flaging bad_pre_flag event_refusal plain_of play_at
    forbidden class_refusal_at class_step_at class_step_by class_step_on class_on
worked = record {
  goes_on = refl;
  twins = record {
    first = refl;
    second = refl;
    mines = refl;
    opens = λ i l h. open_agree i l h;
    hits = λ i l h. hit_agree i l h;
  };
}
