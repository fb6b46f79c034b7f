-- A question beside a number misleads, and each hypothesis is needed: positions of three to five cells, computed.
use mathlib.Core.Path.{◌≡◌, ◌∙◌, sym, ap, refl, subst}
use mathlib.Core.Bool.{Bool, true, false, not, ◌&&◌, ◌||◌, true≢false, false≢true}
use mathlib.Core.List.{List, [], ◌∷◌}
use Prim.Native.Nat.{ℕ, ◌<◌}
use native.Mathlib.Omega.{arith}
use native.Mathlib.Decide.{dec_lt}
use borrow.Author.Tests.{eqb-true}
use lib.Dec.{eqb}
use lib.ListN.{length, get_or, get_or-eq_default}
use lib.IntN.{ℤ}
use Rattle.rules.specs.declared.GameState.TheVariants.{Playing, Loss}
use Rattle.rules.specs.Words.{count, every, in_order, stack_of, rounds}
use Rattle.rules.specs.States.{mouse_at, is_playing, is_loss}
use Rattle.rules.specs.Grid.{size_ok, ninth, cell_before, neighbour, around, pushed}
use Rattle.rules.specs.Board.{safe_in, face_at, mine_at, zero_at, lone_at, values_ok, number_ok, numbers_ok, some_safe, board_refusal}
use Rattle.rules.specs.Lent.{bit_at, with_bit}
use Rattle.rules.specs.Opening.{shown_after, stack_after, hit_after, run, crossed, refreshed, count_shown}
use Rattle.rules.specs.Judging.{free_at, kind, walk, walk_from, judged_left, judge_one, tally, openings_judged, lones}
use Rattle.rules.specs.Clicks.{Desk, rows_of, columns_of, cells_of, ended, solves_left, left_opens, left_click, bits_with, adds_rce, take_back, chord_is_useful, chord_opens, perform_chord}
use Rattle.rules.specs.Passes.{all_closed_of, ripe_at, listed, flag_one, flag_all, flag_round, flag_pass, chord_one, chord_scan, chord_round, chord_pass, both_round, both_pass, passes_after_flag, passes_after_chord, right_click, chording_click}
use Rattle.rules.specs.Mouse.{mouse_table, next_mouse, moved, both_down, rules_ok, resolved, flipped}
use Rattle.rules.specs.Step.{seen_at, left_at, right_at, chord_at, chord_from, play_lc, play_lr, play_rc, play_rr, playing, pre_flag, ready_lc, ready_rc, ready, pre_left, pre_lr, pre_cell, pre_right, pre_rc, pre_flaging, by_game, pointer_of, event_of, errs_playing, errs_pre_flaging, bad_pre_flag, event_refusal, plain_of, refusal_at, play_at, step_at, step_by_of, step_on}
use Rattle.rules.specs.Lawful.{is_won, unopened_in, cell_lawful, shown_lawful, bits_lawful, counts_lawful, game_lawful, states_lawful, lawful_refusal}
use Rattle.rules.specs.Calls.{plays, last_play, boards_fit, mode_ok, settings_refusal, position_refusal, position_check}
use Rattle.cells.proofs.Words.{and_left, and_right, every_at}
use Rattle.cells.proofs.Face.{values_valued}
use Rattle.cells.proofs.Grid.{size_limits}
use Rattle.keep.proofs.Passes.{playing_is}
use Rattle.harmless.specs.Harmless.{Board, Size, Numbers, Cells, Fair, FlagsOnMines, Right, NoQuestions, NotLost, Harmless}
use Rattle.harmless.specs.Hands.{by_hand}
use Rattle.harmless.specs.Needed.{mine_left, mine_right, mine_both, short, between, many, few, asked, asked_two, wrongly_flagged, lost, shown, many_told, few_told, Misled, Needed, QuestionMisleads, QuestionLoses}

-- ---- the hypotheses as tests -------------------------------------------------------------------------------------------------------------

record Tests : Type 0 where
  pub board : Bool
  pub size : Bool
  pub numbers : Bool
  pub cells : Bool
  pub playing : Bool
  pub flags : Bool
  pub questions : Bool

tests_of : List ℤ → Desk → Tests
tests_of B d = record {
  board = size_ok (rows_of d) (columns_of d) && (eqb (length B) (cells_of d) && values_ok B);
  size = eqb (length d.shown) (cells_of d);
  numbers = numbers_ok B (rows_of d) (columns_of d);
  cells = every (λ i. cell_lawful d.position.settings.question (is_loss d.position.game) (face_at B i) (get_or d.shown i 0)) (length d.shown);
  playing = is_playing d.position.game;
  flags = every (λ i. not (eqb (get_or d.shown i 0) 11) || mine_at B i) (length d.shown);
  questions = every (λ i. not (eqb (get_or d.shown i 0) 17)) (length d.shown);
}

-- what passes a test that 0 passes wherever something is shown passes it everywhere
shown_all : (f : ℕ → ℕ → Bool) (l : List ℕ) → ((i : ℕ) → f i 0 ≡ true) → every (λ i. f i (get_or l i 0)) (length l) ≡ true → (i : ℕ) → f i (get_or l i 0) ≡ true
shown_all f l z t i = go (dec_lt i (length l))
  where
    go : Dec (i < length l) → f i (get_or l i 0) ≡ true
    go (yes lt) = every_at (λ i. f i (get_or l i 0)) (length l) t i lt
    go (no ge) = ap (f i) (get_or-eq_default l 0 (omega arith)) ∙ z i

module _ {t : Tests} (B : List ℤ) (d : Desk) (c : tests_of B d ≡ t) where
  passes : (get : Tests → Bool) → get t ≡ true → get (tests_of B d) ≡ true
  passes get e = ap get c ∙ e

  board_met : t.board ≡ true → Board B d
  unfolding tests_of
  board_met e =
      let a = passes (λ t. t.board) e in
      let b = and_right (size_ok (rows_of d) (columns_of d)) _ a in
      record {
        sized = size_limits (rows_of d) (columns_of d) (and_left (size_ok (rows_of d) (columns_of d)) _ a);
        long = eqb-true _ _ (and_left (eqb (length B) (cells_of d)) _ b);
        valued = values_valued B (and_right (eqb (length B) (cells_of d)) _ b);
      }

  size_met : t.size ≡ true → Size d
  unfolding tests_of
  size_met e = eqb-true _ _ (passes (λ t. t.size) e)

  numbers_met : t.numbers ≡ true → Numbers B d
  unfolding tests_of
  numbers_met e = passes (λ t. t.numbers) e

  cells_met : t.cells ≡ true → Cells B d
  unfolding tests_of
  cells_met e =
      every_at (λ i. cell_lawful d.position.settings.question (is_loss d.position.game) (face_at B i) (get_or d.shown i 0)) (length d.shown) (passes (λ t. t.cells) e)

  playing_met : t.playing ≡ true → d.position.game ≡ Playing
  unfolding tests_of
  playing_met e = playing_is d.position.game (passes (λ t. t.playing) e)

  flags_met : t.flags ≡ true → FlagsOnMines B d.shown
  unfolding tests_of
  flags_met e i h =
      sym (ap (λ (x : ℕ). not (eqb x 11) || mine_at B i) h) ∙ shown_all (λ i x. not (eqb x 11) || mine_at B i) d.shown (λ i. refl) (passes (λ t. t.flags) e) i

  questions_met : t.questions ≡ true → NoQuestions d
  unfolding tests_of
  questions_met e i h =
      false≢true (sym (ap (λ (x : ℕ). not (eqb x 17)) h) ∙ shown_all (λ i x. not (eqb x 17)) d.shown (λ i. refl) (passes (λ t. t.questions) e) i)

  fair_met : t.board ≡ true → t.size ≡ true → t.numbers ≡ true → t.cells ≡ true → Fair B d
  fair_met a b e f = record { board = board_met a; size = size_met b; numbers = numbers_met e; cells = cells_met f }

  right_met : t.playing ≡ true → t.flags ≡ true → Right B d
  right_met a b = record { playing = playing_met a; flags = flags_met b }

-- ---- harm --------------------------------------------------------------------------------------------------------------------------------

-- a flag on a safe cell, and Loss
wrong_flag_lem : {B : List ℤ} {d e : Desk} (i : ℕ) → get_or e.shown i 0 ≡ 11 → mine_at B i ≡ false → Harmless B d e → ⊥
wrong_flag_lem i x m h = true≢false (sym (h.flags i x) ∙ m)

is_lost : {B : List ℤ} {d e : Desk} → e.position.game ≡ Loss → Harmless B d e → ⊥
is_lost x h = subst NotLost x h.game

shows_at : {s l : List ℕ} (i : ℕ) → s ≡ l → get_or s i 0 ≡ get_or l i 0
shows_at i e = ap (λ (s : List ℕ). get_or s i 0) e

-- ---- the positions -----------------------------------------------------------------------------------------------------------------------

-- in the order of the record: each position fails one test
tests : Bool → Bool → Bool → Bool → Bool → Bool → Bool → Tests
tests a b c d e f g = record { board = a; size = b; numbers = c; cells = d; playing = e; flags = f; questions = g }

record Met : Type 0 where
  pub asked : tests_of mine_left asked ≡ tests true true true true true true false
  pub wrongly_flagged : tests_of mine_left wrongly_flagged ≡ tests true true true true true false true
  pub lost : tests_of mine_left lost ≡ tests true true true true false true true
  pub small : tests_of short (shown between 0 (1 ∷ 10 ∷ 0 ∷ [])) ≡ tests false true true true true true true
  pub narrow : tests_of mine_right (shown mine_right 1 (10 ∷ 1 ∷ [])) ≡ tests true false true true true true true
  pub many : tests_of many many_told ≡ tests true true false true true true true
  pub few : tests_of few few_told ≡ tests true true false true true true true
  pub two : tests_of mine_left (shown mine_left 1 (10 ∷ 2 ∷ 10 ∷ [])) ≡ tests true true true false true true true
  pub none : tests_of mine_left (shown mine_left 1 (10 ∷ 0 ∷ 10 ∷ [])) ≡ tests true true true false true true true
  -- the game of the second witness after the hand's own action
  pub hand : tests_of mine_both (step_on mine_both 6 0 0 (by_hand asked_two)).desk ≡ tests true true true true true true false

-- and what the passes do to it
record Harmed : Type 0 where
  pub asked : (flag_pass mine_left asked).shown ≡ 17 ∷ 1 ∷ 11 ∷ []
  pub wrongly_flagged : (chord_pass mine_left wrongly_flagged).desk.position.game ≡ Loss
  pub lost : (flag_pass mine_left lost).shown ≡ 15 ∷ 1 ∷ 11 ∷ []
  pub small : (chord_pass short (shown between 0 (1 ∷ 10 ∷ 0 ∷ []))).desk.position.game ≡ Loss
  pub narrow : (flag_pass mine_right (shown mine_right 1 (10 ∷ 1 ∷ []))).shown ≡ 11 ∷ 1 ∷ []
  pub many : (flag_pass many many_told).shown ≡ 11 ∷ 1 ∷ 0 ∷ []
  pub few : (chord_pass few few_told).desk.position.game ≡ Loss
  pub two : (flag_pass mine_left (shown mine_left 1 (10 ∷ 2 ∷ 10 ∷ []))).shown ≡ 11 ∷ 2 ∷ 11 ∷ []
  pub none : (chord_pass mine_left (shown mine_left 1 (10 ∷ 0 ∷ 10 ∷ []))).desk.position.game ≡ Loss

-- the two games of the questions
record Asked : Type 0 where
  pub lawful : position_check mine_left asked ≡ 0
  pub asks : asked.position.settings.question ≡ true
  pub shows : asked.shown ≡ 17 ∷ 1 ∷ 10 ∷ []
  pub played : (step_on mine_left 6 0 1 asked).desk.shown ≡ 17 ∷ 1 ∷ 11 ∷ []
  pub lawful_two : position_check mine_both asked_two ≡ 0
  pub shows_two : asked_two.shown ≡ 17 ∷ 1 ∷ 10 ∷ 1 ∷ 10 ∷ []
  pub hand : (step_on mine_both 6 0 0 (by_hand asked_two)).desk.shown ≡ 17 ∷ 1 ∷ 10 ∷ 1 ∷ 10 ∷ []
  pub lost : (step_on mine_both 6 0 0 asked_two).desk.position.game ≡ Loss
  pub after : (step_on mine_both 6 0 0 asked_two).desk.shown ≡ 17 ∷ 1 ∷ 14 ∷ 1 ∷ 15 ∷ []

record Computed : Type 0 where
  pub met : Met
  pub harmed : Harmed
  pub asked : Asked

computed : Computed
unfolding tests_of tests count every in_order stack_of rounds mouse_at size_ok ninth cell_before neighbour around pushed zero_at lone_at values_ok number_ok numbers_ok some_safe board_refusal bit_at with_bit shown_after stack_after
    hit_after run crossed refreshed free_at kind walk walk_from judged_left judge_one tally openings_judged lones safe_in is_won unopened_in ended solves_left left_opens left_click bits_with
    adds_rce take_back chord_is_useful chord_opens perform_chord all_closed_of ripe_at listed flag_one flag_all flag_round flag_pass chord_one chord_scan chord_round chord_pass
    both_round both_pass passes_after_flag passes_after_chord right_click chording_click mouse_table next_mouse moved both_down rules_ok resolved flipped seen_at left_at right_at
    chord_at chord_from play_lc play_lr play_rc play_rr playing pre_flag ready_lc ready_rc ready pre_left pre_lr pre_cell pre_right pre_rc pre_flaging by_game pointer_of
    event_of errs_playing errs_pre_flaging bad_pre_flag event_refusal plain_of refusal_at play_at step_at step_by_of step_on plays last_play
    count_shown cell_lawful shown_lawful bits_lawful counts_lawful game_lawful states_lawful lawful_refusal boards_fit mode_ok settings_refusal position_refusal position_check
computed = record {
  met = record { asked = refl; wrongly_flagged = refl; lost = refl; small = refl; narrow = refl; many = refl; few = refl; two = refl; none = refl; hand = refl };
  harmed = record { asked = refl; wrongly_flagged = refl; lost = refl; small = refl; narrow = refl; many = refl; few = refl; two = refl; none = refl };
  asked = record { lawful = refl; asks = refl; shows = refl; played = refl; lawful_two = refl; shows_two = refl; hand = refl; lost = refl; after = refl };
}

-- THEOREM: with a question beside a number the flag pass can flag a safe cell
pub question_misleads : QuestionMisleads
unfolding tests
question_misleads =
    let a = computed.asked in
    record {
      lawful = a.lawful;
      right = right_met mine_left asked computed.met.asked refl refl;
      asks = a.asks;
      shows = a.shows;
      flagged = computed.harmed.asked;
      played = a.played;
      safe = refl;
    }

-- THEOREM: and mode 13 can lose by it
pub question_loses : QuestionLoses
unfolding tests
question_loses =
    let a = computed.asked in
    record {
      lawful = a.lawful_two;
      shows = a.shows_two;
      hand = a.hand;
      right = right_met mine_both (step_on mine_both 6 0 0 (by_hand asked_two)).desk computed.met.hand refl refl;
      lost = a.lost;
      after = a.after;
    }

-- a board or a shown board that is wrong in its numbers
but_numbers : {pass : List ℤ → Desk → Desk} (B : List ℤ) (d : Desk) → tests_of B d ≡ tests true true false true true true true → (Harmless B d (pass B d) → ⊥)
    → Misled (λ B d. Board B d × Size d × Cells B d × Right B d × NoQuestions d) pass
unfolding tests
but_numbers B d c harm = record { B = B; d = d; met = (board_met B d c refl, size_met B d c refl, cells_met B d c refl, right_met B d c refl refl, questions_met B d c refl); harm = harm }

but_cells : {pass : List ℤ → Desk → Desk} (B : List ℤ) (d : Desk) → tests_of B d ≡ tests true true true false true true true → (Harmless B d (pass B d) → ⊥)
    → Misled (λ B d. Board B d × Size d × Numbers B d × Right B d × NoQuestions d) pass
unfolding tests
but_cells B d c harm = record { B = B; d = d; met = (board_met B d c refl, size_met B d c refl, numbers_met B d c refl, right_met B d c refl refl, questions_met B d c refl); harm = harm }

-- THEOREM: no hypothesis can be left out
pub needed : Needed
unfolding tests
needed =
    let m = computed.met in
    let h = computed.harmed in
    record {
      board =
          let d : Desk = shown between 0 (1 ∷ 10 ∷ 0 ∷ []) in
          let c = m.small in
          record {
            B = short;
            d = d;
            met = (size_met short d c refl, numbers_met short d c refl, cells_met short d c refl, right_met short d c refl refl, questions_met short d c refl);
            harm = is_lost h.small;
          };
      size =
          let d : Desk = shown mine_right 1 (10 ∷ 1 ∷ []) in
          let c = m.narrow in
          record {
            B = mine_right;
            d = d;
            met = (board_met mine_right d c refl, numbers_met mine_right d c refl, cells_met mine_right d c refl, right_met mine_right d c refl refl, questions_met mine_right d c refl);
            harm = wrong_flag_lem 0 (shows_at 0 h.narrow) refl;
          };
      numbers_flag = but_numbers many many_told m.many (wrong_flag_lem 0 (shows_at 0 h.many) refl);
      numbers_chord = but_numbers few few_told m.few (is_lost h.few);
      cells_flag = but_cells mine_left (shown mine_left 1 (10 ∷ 2 ∷ 10 ∷ [])) m.two (wrong_flag_lem 2 (shows_at 2 h.two) refl);
      cells_chord = but_cells mine_left (shown mine_left 1 (10 ∷ 0 ∷ 10 ∷ [])) m.none (is_lost h.none);
      playing = record {
        B = mine_left;
        d = lost;
        met = (fair_met mine_left lost m.lost refl refl refl refl, flags_met mine_left lost m.lost refl, questions_met mine_left lost m.lost refl);
        harm = wrong_flag_lem 2 (shows_at 2 h.lost) refl;
      };
      flags = record {
        B = mine_left;
        d = wrongly_flagged;
        met = (fair_met mine_left wrongly_flagged m.wrongly_flagged refl refl refl refl, playing_met mine_left wrongly_flagged m.wrongly_flagged refl, questions_met mine_left wrongly_flagged m.wrongly_flagged refl);
        harm = is_lost h.wrongly_flagged;
      };
      questions = record {
        B = mine_left;
        d = asked;
        met = (fair_met mine_left asked m.asked refl refl refl refl, right_met mine_left asked m.asked refl refl);
        harm = wrong_flag_lem 2 (shows_at 2 h.asked) refl;
      };
    }
