-- The positions that document 01 marks P, and twelve beside them, as one table and one theorem that the checker computes over the definitions; after it
-- the same for the number of safe cells still closed, for positions that are refused, for events that are resolved or played as they are, for the
-- no-flag class, for the slider and for the trainer's hints and scores.
-- Open is lc, lr; flag rc, rr. Each row is a game from its fresh start: settings, mine list, events, all that stands at its end, and what each event opened.
use Rattle.std.specs.Prelude.{◌≡◌, refl, Bool, true, false, ◌&&◌, List, [], ◌∷◌, ◌++◌, ℕ, zero, suc, leb, eqb, get_or, set, replicate, ℤ, pos, negsuc}
use Rattle.rules.specs.declared.Settings.{Settings}
use Rattle.rules.specs.declared.MouseState.{MouseState}
use Rattle.rules.specs.declared.MouseState.TheVariants.{UpUp, UpDownNotFlag, DownUp}
use Rattle.rules.specs.declared.GameState.{GameState}
use Rattle.rules.specs.declared.GameState.TheVariants.{Ready, Loss}
use Rattle.rules.specs.Words.{pick, bit, count, every, first_not, in_order, stack_of, rounds}
use Rattle.rules.specs.States.{game_number, mouse_number, mouse_at, fresh_of, with_game, with_mouse, with_middle, with_events, with_right, with_flag}
use Rattle.rules.specs.Grid.{size_ok, ninth, cell_before, neighbour, around, pushed, cells_if}
use Rattle.rules.specs.Board.{zero_at, lone_at, values_ok, number_ok, numbers_ok, some_safe, safe_in, board_refusal, row_byte, column_byte, fault_of, mine_ok, listed_mine, numbered_at, numbered, numbering_refusal}
use Rattle.rules.specs.Lent.{bit_at, with_bit}
use Rattle.rules.specs.Opening.{shown_after, stack_after, hit_after, run, crossed, refreshed, count_shown, opened_in}
use Rattle.rules.specs.Judging.{free_at, kind, walk, walk_from, judged_left, judge_one, tally, openings_judged, lones, total3bv, bv_of, not_open_at, left_to_solve}
use Rattle.rules.specs.Clicks.{Desk, Play, desk, done, rows_of, columns_of, cells_of, flag_at, ended, solves_left, left_opens, left_click, bits_with, adds_rce, take_back, chord_is_useful, chord_opens, perform_chord}
use Rattle.rules.specs.Passes.{remainder, all_closed_of, ripe_at, listed, flag_one, flag_all, flag_round, flag_pass, chord_one, chord_scan, chord_round, chord_pass, both_round, both_pass, passes_after_flag, passes_after_chord, right_click, chording_click}
use Rattle.rules.specs.Mouse.{mouse_table, next_mouse, moved, both_down, rules_ok, resolved, flipped}
use Rattle.rules.specs.Step.{seen_at, left_at, right_at, chord_at, chord_from, play_lc, play_lr, play_rc, play_rr, playing, pre_flag, ready_lc, ready_rc, ready, pre_left, pre_lr, pre_cell, pre_right, pre_rc, pre_flaging, by_game, pointer_of, event_of, errs_playing, errs_pre_flaging, bad_pre_flag, event_refusal, plain_of, refusal_at, play_at, step_at, step_by_of, step_on, plain_code, plain_on}
use Rattle.rules.specs.Lawful.{cell_lawful, shown_lawful, bits_lawful, counts_lawful, game_lawful, states_lawful, lawful_refusal, unopened_in}
use Rattle.rules.specs.Calls.{boards_fit, work_fits, mode_ok, settings_refusal, position_refusal, position_check, position_check_of, fresh_desk, resolve_by, resolve_of, plays, last_play}
use Rattle.rules.specs.Book.{events_from, mines_from, mines_section, settings_section, sections_of, book_ends, book_of}
use Rattle.rules.specs.Printout.{nine_counts, two_bv}
use Rattle.rules.specs.Noflag.{forbidden, class_refusal_at, class_step_at, class_step_by, class_step_on, class_settings_refusal, class_setup_refusal, class_settings_section, class_sections_of, class_book_of, class_plays}
use Rattle.rules.specs.Slides.{Tape, flow_number, Slots, Kept, emptied, turn, glide, slide_from, slide_to, lent_fits_of, room_fits, drag_refusal, drag_by, drag_of}
use Rattle.rules.specs.declared.Place.TheVariants.{Nowhere}
use Rattle.rules.specs.declared.Hint.{Hint}
use Rattle.rules.specs.declared.Hint.TheVariants.{Cell, Nothing, Refused}
use Rattle.rules.specs.declared.Score.{Score}
use Rattle.rules.specs.Picture.{is_shown, all_shown, shown_refusal}
use Rattle.rules.specs.Trainer.{justifies, offered, hint_by, hint_of, score, report_of, Call, question, report, call_of}

pub record Row : Type 0 where
  pub name : ℕ
  pub settings : Settings
  pub mines : List ℕ
  pub events : List ℕ
  pub gives : List ℕ
  pub remainders : List ℤ
  pub opened : List ℕ

-- the last answer, the game and mouse states, the nine counts, the bv line, the shown cells
unfoldable told : Settings → List ℕ → Play → List ℕ
told s mines o =
    (o.answer ∷ game_number o.desk.position.game ∷ mouse_number o.desk.position.mouse ∷ nine_counts o.desk.position)
    ++ (two_bv (numbered s.rows s.columns mines) o.desk ++ o.desk.shown)

-- the mine board of a row, and the refusal of its mine list
abbrev board_in : Row → List ℤ
board_in t = numbered t.settings.rows t.settings.columns t.mines

abbrev refusal_in : Row → ℕ
refusal_in t = numbering_refusal t.settings.rows t.settings.columns t.mines (board_in t)

-- its fresh start, the plays of its game, and the last
unfoldable fresh : Row → Desk
fresh t = fresh_desk t.settings (board_in t)

unfoldable played : Row → List Play
played t = plays (board_in t) t.events (fresh t)

unfoldable last : Row → Play
last t = last_play (done 0 (fresh t)) (played t)

-- what each play opened
unfoldable opened_from : List ℕ → List Play → List ℕ
opened_from before [] = []
opened_from before (o ∷ os) = opened_in before o.desk.shown ∷ opened_from o.desk.shown os

-- a game played, or that refusal
unfoldable ends : Row → List ℕ
ends t = pick (eqb (refusal_in t) 0) (told t.settings t.mines (last t)) (refusal_in t ∷ [])

-- the remainders of those of the first n cells that show 1 to 8, in row order
unfoldable remainders_in : Desk → ℕ → List ℤ
remainders_in d zero = []
remainders_in d (suc n) =
    let x = get_or d.shown n 0 in
    remainders_in d n ++ pick (leb 1 x && leb x 8) (remainder x (around (rows_of d) (columns_of d) (flag_at d.shown) n) ∷ []) []

eqz : ℤ → ℤ → Bool
eqz (pos m) (pos n) = eqb m n
eqz (pos m) (negsuc n) = false
eqz (negsuc m) (pos n) = false
eqz (negsuc m) (negsuc n) = eqb m n

unfoldable pub same : {A : Type 0} → (A → A → Bool) → List A → List A → Bool
same eq [] [] = true
same eq (x ∷ xs) [] = false
same eq [] (y ∷ ys) = false
same eq (x ∷ xs) (y ∷ ys) = eq x y && same eq xs ys

-- the names of the rows that do not hold
pub wrong_rows : List Row → List ℕ
wrong_rows [] = []
wrong_rows (t ∷ ts) =
    let more = wrong_rows ts in
    pick
    (same eqb (ends t) t.gives
    && (same eqz (remainders_in (last t).desk (cells_of (last t).desk)) t.remainders && same eqb (opened_from (fresh t).shown (played t)) t.opened))
    more (t.name ∷ more)

-- rows, columns, mode, question marks; rules 1
size : ℕ → ℕ → ℕ → Bool → Settings
size R C mode q = record { rows = R; columns = C; mode = mode; question = q; rules = 1 }

-- the same under other rules
by_rules : ℕ → Settings → Settings
by_rules n s = record { rows = s.rows; columns = s.columns; mode = s.mode; question = s.question; rules = n }

row : ℕ → Settings → List ℕ → List ℕ → List ℕ → List ℤ → List ℕ → Row
row n s mines events gives remainders opened =
    record { name = n; settings = s; mines = mines; events = events; gives = gives; remainders = remainders; opened = opened }

open' : ℕ → ℕ → List ℕ → List ℕ
open' r c es = 0 ∷ r ∷ c ∷ 1 ∷ r ∷ c ∷ es

flag' : ℕ → ℕ → List ℕ → List ℕ
flag' r c es = 2 ∷ r ∷ c ∷ 3 ∷ r ∷ c ∷ es

event : ℕ → ℕ → ℕ → List ℕ → List ℕ
event code r c es = code ∷ r ∷ c ∷ es

-- each row gives: answer, game, mouse; left, right, double, lce, rce, dce, flag, solved_left, solved_chord; total, left to solve; the shown cells;
-- the remainder of each cell that then shows 1 to 8, where negsuc 0 is -1; and how many cells each event opened
pub table : List Row
table =
    -- the worked printout: 1×3, mine (0,1); open (0,0), flag (0,1), open (0,2)
    row 1 (size 1 3 0 false) (0 ∷ 1 ∷ []) (open' 0 0 (flag' 0 1 (open' 0 2 [])))
    (2 ∷ 2 ∷ 0 ∷ 2 ∷ 1 ∷ 0 ∷ 2 ∷ 1 ∷ 0 ∷ 1 ∷ 2 ∷ 0 ∷ 2 ∷ 0 ∷ 1 ∷ 11 ∷ 1 ∷ []) (pos 0 ∷ pos 0 ∷ []) (0 ∷ 1 ∷ 0 ∷ 0 ∷ 0 ∷ 1 ∷ [])
    -- 2×2, mine (0,0); open (1,1), flag (0,0), mr (1,1): 3, Win, solved 1 and 2
    ∷ row 2 (size 2 2 0 false) (0 ∷ 0 ∷ []) (open' 1 1 (flag' 0 0 (event 6 1 1 [])))
    (3 ∷ 2 ∷ 0 ∷ 1 ∷ 1 ∷ 1 ∷ 1 ∷ 1 ∷ 1 ∷ 1 ∷ 1 ∷ 2 ∷ 3 ∷ 0 ∷ 11 ∷ 1 ∷ 1 ∷ 1 ∷ []) (pos 0 ∷ pos 0 ∷ pos 0 ∷ []) (0 ∷ 1 ∷ 0 ∷ 0 ∷ 2 ∷ [])
    -- 3×3, mine (2,2); open (1,1), flag (2,0), mr (1,1): 4, rows 0 0 0 / 0 1 1 / 14 1 15, solved_chord 1
    ∷ row 3 (size 3 3 0 false) (2 ∷ 2 ∷ []) (open' 1 1 (flag' 2 0 (event 6 1 1 [])))
    (4 ∷ 3 ∷ 0 ∷ 1 ∷ 1 ∷ 1 ∷ 1 ∷ 0 ∷ 1 ∷ 1 ∷ 0 ∷ 1 ∷ 1 ∷ 1 ∷ 0 ∷ 0 ∷ 0 ∷ 0 ∷ 1 ∷ 1 ∷ 14 ∷ 1 ∷ 15 ∷ []) (pos 1 ∷ pos 1 ∷ pos 1 ∷ []) (0 ∷ 1 ∷ 0 ∷ 0 ∷ 6 ∷ [])
    -- 1×3, mine (0,0), mode 11; open (0,1), flag (0,2), mr (0,0): answer 0, Loss, 15 1 14, dce 0
    ∷ row 4 (size 1 3 11 false) (0 ∷ 0 ∷ []) (open' 0 1 (flag' 0 2 (event 6 0 0 [])))
    (0 ∷ 3 ∷ 0 ∷ 1 ∷ 1 ∷ 1 ∷ 1 ∷ 0 ∷ 0 ∷ 1 ∷ 0 ∷ 0 ∷ 1 ∷ 1 ∷ 15 ∷ 1 ∷ 14 ∷ []) (pos 1 ∷ []) (0 ∷ 1 ∷ 0 ∷ 0 ∷ 0 ∷ [])
    -- 1×3, mine (0,1), questions on; rc, rr on (0,0), (0,2), (0,0), (0,2), then rc (0,0): 1, Ready, right 0, 10 10 17
    ∷ row 5 (size 1 3 0 true) (0 ∷ 1 ∷ []) (flag' 0 0 (flag' 0 2 (flag' 0 0 (flag' 0 2 (event 2 0 0 [])))))
    (1 ∷ 0 ∷ 1 ∷ 0 ∷ 0 ∷ 0 ∷ 0 ∷ 0 ∷ 0 ∷ 0 ∷ 0 ∷ 0 ∷ 2 ∷ 2 ∷ 10 ∷ 10 ∷ 17 ∷ []) [] (0 ∷ 0 ∷ 0 ∷ 0 ∷ 0 ∷ 0 ∷ 0 ∷ 0 ∷ 0 ∷ [])
    -- 3×4, all eight around (1,1) mined, mode 12; open (1,1), flag (0,0): eight flags, rce 1
    ∷ row 6 (size 3 4 12 false) (0 ∷ 0 ∷ 0 ∷ 1 ∷ 0 ∷ 2 ∷ 1 ∷ 0 ∷ 1 ∷ 2 ∷ 2 ∷ 0 ∷ 2 ∷ 1 ∷ 2 ∷ 2 ∷ []) (open' 1 1 (event 2 0 0 []))
    (1 ∷ 1 ∷ 1 ∷ 1 ∷ 1 ∷ 0 ∷ 1 ∷ 1 ∷ 0 ∷ 8 ∷ 1 ∷ 0 ∷ 4 ∷ 3 ∷ 11 ∷ 11 ∷ 11 ∷ 10 ∷ 11 ∷ 8 ∷ 11 ∷ 10 ∷ 11 ∷ 11 ∷ 11 ∷ 10 ∷ []) (pos 0 ∷ []) (0 ∷ 1 ∷ 0 ∷ [])
    -- mr (1,1) then answers 0
    ∷ row 7 (size 3 4 12 false) (0 ∷ 0 ∷ 0 ∷ 1 ∷ 0 ∷ 2 ∷ 1 ∷ 0 ∷ 1 ∷ 2 ∷ 2 ∷ 0 ∷ 2 ∷ 1 ∷ 2 ∷ 2 ∷ []) (open' 1 1 (flag' 0 0 (event 6 1 1 [])))
    (0 ∷ 1 ∷ 0 ∷ 1 ∷ 1 ∷ 1 ∷ 1 ∷ 1 ∷ 0 ∷ 8 ∷ 1 ∷ 0 ∷ 4 ∷ 3 ∷ 11 ∷ 11 ∷ 11 ∷ 10 ∷ 11 ∷ 8 ∷ 11 ∷ 10 ∷ 11 ∷ 11 ∷ 11 ∷ 10 ∷ []) (pos 0 ∷ []) (0 ∷ 1 ∷ 0 ∷ 0 ∷ 0 ∷ [])
    -- 1×4, mine (0,0), mode 12; open (0,1), flag (0,2), flag (0,0): remainder -1, 11 1 11 10
    ∷ row 8 (size 1 4 12 false) (0 ∷ 0 ∷ []) (open' 0 1 (flag' 0 2 (flag' 0 0 [])))
    (0 ∷ 1 ∷ 0 ∷ 1 ∷ 2 ∷ 0 ∷ 1 ∷ 1 ∷ 0 ∷ 2 ∷ 0 ∷ 0 ∷ 1 ∷ 1 ∷ 11 ∷ 1 ∷ 11 ∷ 10 ∷ []) (negsuc 0 ∷ []) (0 ∷ 1 ∷ 0 ∷ 0 ∷ 0 ∷ 0 ∷ [])
    -- 1×3 pointers: (1,3) accepted, (0,3) and (1,2) 30
    ∷ row 9 (size 1 3 0 false) (0 ∷ 1 ∷ []) (event 4 1 3 [])
    (0 ∷ 0 ∷ 0 ∷ 0 ∷ 0 ∷ 0 ∷ 0 ∷ 0 ∷ 0 ∷ 0 ∷ 0 ∷ 0 ∷ 2 ∷ 2 ∷ 10 ∷ 10 ∷ 10 ∷ []) [] (0 ∷ [])
    ∷ row 10 (size 1 3 0 false) (0 ∷ 1 ∷ []) (event 4 0 3 [])
    (30 ∷ 0 ∷ 0 ∷ 0 ∷ 0 ∷ 0 ∷ 0 ∷ 0 ∷ 0 ∷ 0 ∷ 0 ∷ 0 ∷ 2 ∷ 2 ∷ 10 ∷ 10 ∷ 10 ∷ []) [] (0 ∷ [])
    ∷ row 11 (size 1 3 0 false) (0 ∷ 1 ∷ []) (event 4 1 2 [])
    (30 ∷ 0 ∷ 0 ∷ 0 ∷ 0 ∷ 0 ∷ 0 ∷ 0 ∷ 0 ∷ 0 ∷ 0 ∷ 0 ∷ 2 ∷ 2 ∷ 10 ∷ 10 ∷ 10 ∷ []) [] (0 ∷ [])
    -- Playing, UpDownNotFlag (a right press on the open cell), r: 0, state kept
    ∷ row 12 (size 1 3 0 false) (0 ∷ 1 ∷ []) (open' 0 0 (event 2 0 0 (event 10 0 0 [])))
    (0 ∷ 1 ∷ 2 ∷ 1 ∷ 1 ∷ 0 ∷ 1 ∷ 0 ∷ 0 ∷ 0 ∷ 1 ∷ 0 ∷ 2 ∷ 1 ∷ 1 ∷ 10 ∷ 10 ∷ []) (pos 1 ∷ []) (0 ∷ 1 ∷ 0 ∷ 0 ∷ [])
    -- 1×1 safe opens to Win; 1×1 mine 24
    ∷ row 13 (size 1 1 0 false) [] (open' 0 0 []) (2 ∷ 2 ∷ 0 ∷ 1 ∷ 0 ∷ 0 ∷ 1 ∷ 0 ∷ 0 ∷ 0 ∷ 1 ∷ 0 ∷ 1 ∷ 0 ∷ 0 ∷ []) [] (0 ∷ 1 ∷ [])
    ∷ row 14 (size 1 1 0 false) (0 ∷ 0 ∷ []) [] (24 ∷ []) [] []
    -- beside the paper's: a remainder of -2 with two closed neighbours flags nothing; 2×3, mine (0,0), mode 12; open (0,1), flag (0,2), (1,2), (1,1)
    ∷ row 15 (size 2 3 12 false) (0 ∷ 0 ∷ []) (open' 0 1 (flag' 0 2 (flag' 1 2 (flag' 1 1 []))))
    (0 ∷ 1 ∷ 0 ∷ 1 ∷ 3 ∷ 0 ∷ 1 ∷ 0 ∷ 0 ∷ 3 ∷ 0 ∷ 0 ∷ 2 ∷ 2 ∷ 10 ∷ 1 ∷ 11 ∷ 10 ∷ 11 ∷ 11 ∷ []) (negsuc 1 ∷ []) (0 ∷ 1 ∷ 0 ∷ 0 ∷ 0 ∷ 0 ∷ 0 ∷ 0 ∷ [])
    -- the solved counts may pass the total; 1×3, no mine: flag (0,0) and (0,2), open (0,1), take both back, open (0,0) and (0,2)
    ∷ row 16 (size 1 3 0 false) [] (flag' 0 0 (flag' 0 2 (open' 0 1 (flag' 0 0 (flag' 0 2 (open' 0 0 (open' 0 2 [])))))))
    (2 ∷ 2 ∷ 0 ∷ 3 ∷ 4 ∷ 0 ∷ 3 ∷ 0 ∷ 0 ∷ 0 ∷ 2 ∷ 0 ∷ 1 ∷ 0 ∷ 0 ∷ 0 ∷ 0 ∷ []) [] (0 ∷ 0 ∷ 0 ∷ 0 ∷ 0 ∷ 1 ∷ 0 ∷ 0 ∷ 0 ∷ 0 ∷ 0 ∷ 1 ∷ 0 ∷ 1 ∷ [])
    -- a flag beside which a cell is opened: 1×6, mines (0,0) and (0,3), mode 13; open (0,1), flag (0,0): the chord pass opens (0,2)
    ∷ row 17 (size 1 6 13 false) (0 ∷ 0 ∷ 0 ∷ 3 ∷ []) (open' 0 1 (flag' 0 0 []))
    (0 ∷ 1 ∷ 0 ∷ 1 ∷ 1 ∷ 0 ∷ 1 ∷ 1 ∷ 0 ∷ 2 ∷ 1 ∷ 1 ∷ 3 ∷ 1 ∷ 11 ∷ 1 ∷ 1 ∷ 11 ∷ 10 ∷ 10 ∷ []) (pos 0 ∷ pos 0 ∷ []) (0 ∷ 1 ∷ 1 ∷ 0 ∷ [])
    -- the game of row 16 before its last open: the opening is counted, and still left to solve
    ∷ row 18 (size 1 3 0 false) [] (flag' 0 0 (flag' 0 2 (open' 0 1 (flag' 0 0 (flag' 0 2 (open' 0 0 []))))))
    (2 ∷ 1 ∷ 0 ∷ 2 ∷ 4 ∷ 0 ∷ 2 ∷ 0 ∷ 0 ∷ 0 ∷ 1 ∷ 0 ∷ 1 ∷ 1 ∷ 0 ∷ 0 ∷ 10 ∷ []) [] (0 ∷ 0 ∷ 0 ∷ 0 ∷ 0 ∷ 1 ∷ 0 ∷ 0 ∷ 0 ∷ 0 ∷ 0 ∷ 1 ∷ [])
    -- an opening counted twice with a question mark, and a number left; 1×5, mine (0,3), questions on: question on (0,0), open (0,1), question off, open (0,0)
    ∷ row 19 (size 1 5 0 true) (0 ∷ 3 ∷ []) (flag' 0 0 (flag' 0 0 (open' 0 1 (flag' 0 0 (open' 0 0 [])))))
    (2 ∷ 1 ∷ 0 ∷ 2 ∷ 3 ∷ 0 ∷ 2 ∷ 0 ∷ 0 ∷ 0 ∷ 2 ∷ 0 ∷ 2 ∷ 1 ∷ 0 ∷ 0 ∷ 1 ∷ 10 ∷ 10 ∷ []) (pos 1 ∷ []) (0 ∷ 0 ∷ 0 ∷ 0 ∷ 0 ∷ 2 ∷ 0 ∷ 0 ∷ 0 ∷ 1 ∷ [])
    -- 0 left is no Win: a number beside a 0 keeps nothing; 1×3, mine (0,2): flag (0,1), open (0,0)
    ∷ row 20 (size 1 3 0 false) (0 ∷ 2 ∷ []) (flag' 0 1 (open' 0 0 []))
    (2 ∷ 1 ∷ 0 ∷ 1 ∷ 1 ∷ 0 ∷ 1 ∷ 0 ∷ 0 ∷ 1 ∷ 1 ∷ 0 ∷ 1 ∷ 0 ∷ 0 ∷ 11 ∷ 10 ∷ []) [] (0 ∷ 0 ∷ 0 ∷ 1 ∷ [])
    -- the league's rules; 1×3, mine (0,0); open (0,1), rc (0,1), r (0,1): Playing, by rules 1 UpDownNotFlag is kept, by rules 2 it is released
    ∷ row 21 (size 1 3 0 false) (0 ∷ 0 ∷ []) (open' 0 1 (event 2 0 1 (event 10 0 1 [])))
    (0 ∷ 1 ∷ 2 ∷ 1 ∷ 1 ∷ 0 ∷ 1 ∷ 0 ∷ 0 ∷ 0 ∷ 0 ∷ 0 ∷ 1 ∷ 1 ∷ 10 ∷ 1 ∷ 10 ∷ []) (pos 1 ∷ []) (0 ∷ 1 ∷ 0 ∷ 0 ∷ [])
    ∷ row 22 (by_rules 2 (size 1 3 0 false)) (0 ∷ 0 ∷ []) (open' 0 1 (event 2 0 1 (event 10 0 1 [])))
    (0 ∷ 1 ∷ 0 ∷ 1 ∷ 1 ∷ 0 ∷ 1 ∷ 0 ∷ 0 ∷ 0 ∷ 0 ∷ 0 ∷ 1 ∷ 1 ∷ 10 ∷ 1 ∷ 10 ∷ []) (pos 1 ∷ []) (0 ∷ 1 ∷ 0 ∷ 0 ∷ [])
    -- flag (0,1), rc off the board, r (0,0): PreFlaging, by rules 1 a press, 33, by rules 2 a release
    ∷ row 23 (size 1 3 0 false) (0 ∷ 0 ∷ []) (flag' 0 1 (event 2 1 3 (event 10 0 0 [])))
    (33 ∷ 4 ∷ 2 ∷ 0 ∷ 2 ∷ 0 ∷ 0 ∷ 0 ∷ 0 ∷ 1 ∷ 0 ∷ 0 ∷ 1 ∷ 1 ∷ 10 ∷ 11 ∷ 10 ∷ []) [] (0 ∷ 0 ∷ 0 ∷ 0 ∷ [])
    ∷ row 24 (by_rules 2 (size 1 3 0 false)) (0 ∷ 0 ∷ []) (flag' 0 1 (event 2 1 3 (event 10 0 0 [])))
    (0 ∷ 4 ∷ 0 ∷ 0 ∷ 2 ∷ 0 ∷ 0 ∷ 0 ∷ 0 ∷ 1 ∷ 0 ∷ 0 ∷ 1 ∷ 1 ∷ 10 ∷ 11 ∷ 10 ∷ []) [] (0 ∷ 0 ∷ 0 ∷ 0 ∷ [])
    -- a question beside a number misleads the flag pass; 1×3, mine (0,0), mode 13, questions on: question on (0,0), open (0,1), mr (0,1): 17 1 11, and (0,2) is safe
    ∷ row 25 (size 1 3 13 true) (0 ∷ 0 ∷ []) (flag' 0 0 (flag' 0 0 (open' 0 1 (event 6 0 1 []))))
    (0 ∷ 1 ∷ 0 ∷ 1 ∷ 2 ∷ 1 ∷ 1 ∷ 1 ∷ 0 ∷ 1 ∷ 0 ∷ 0 ∷ 1 ∷ 1 ∷ 17 ∷ 1 ∷ 11 ∷ []) (pos 0 ∷ []) (0 ∷ 0 ∷ 0 ∷ 0 ∷ 0 ∷ 1 ∷ 0 ∷ [])
    -- and mode 13 can lose by it; 1×5, mines (0,0) and (0,4), questions on: question on (0,0), open (0,1) and (0,3), mr (0,0): answer 0, Loss, 17 1 14 1 15
    ∷ row 26 (size 1 5 13 true) (0 ∷ 0 ∷ 0 ∷ 4 ∷ []) (flag' 0 0 (flag' 0 0 (open' 0 1 (open' 0 3 (event 6 0 0 [])))))
    (0 ∷ 3 ∷ 0 ∷ 2 ∷ 2 ∷ 1 ∷ 2 ∷ 1 ∷ 0 ∷ 1 ∷ 0 ∷ 0 ∷ 1 ∷ 1 ∷ 17 ∷ 1 ∷ 14 ∷ 1 ∷ 15 ∷ []) (pos 1 ∷ pos 1 ∷ []) (0 ∷ 0 ∷ 0 ∷ 0 ∷ 0 ∷ 1 ∷ 0 ∷ 1 ∷ 0 ∷ [])
    ∷ []

pub positions : wrong_rows table ≡ []
unfolding wrong_rows same eqz remainders_in played last opened_from count_shown ends told fresh table row size by_rules open' flag' event count every in_order stack_of rounds mouse_at size_ok ninth cell_before neighbour
    around cells_if pushed zero_at lone_at mine_ok listed_mine numbered_at numbered numbering_refusal bit_at with_bit shown_after stack_after hit_after run crossed refreshed free_at
    kind walk walk_from judged_left judge_one tally openings_judged lones bv_of total3bv not_open_at left_to_solve safe_in ended solves_left left_opens left_click bits_with adds_rce take_back
    chord_is_useful chord_opens perform_chord all_closed_of ripe_at listed flag_one flag_all flag_round flag_pass chord_one chord_scan chord_round chord_pass both_round both_pass
    passes_after_flag passes_after_chord right_click chording_click mouse_table next_mouse moved both_down resolved flipped seen_at left_at right_at chord_at chord_from
    play_lc play_lr play_rc play_rr playing pre_flag ready_lc ready_rc ready pre_left pre_lr pre_cell pre_right pre_rc pre_flaging by_game pointer_of event_of errs_playing
    errs_pre_flaging bad_pre_flag event_refusal plain_of refusal_at play_at step_at step_by_of step_on plays last_play
positions = refl

-- ---- the safe cells still closed -------------------------------------------------------------------------------------------------------

-- a game from its fresh start, and that number there and after each event
pub record Closing : Type 0 where
  pub name : ℕ
  pub settings : Settings
  pub mines : List ℕ
  pub events : List ℕ
  pub numbers : List ℕ

unfoldable numbers_after : List Play → List ℕ
numbers_after [] = []
numbers_after (o ∷ os) = o.desk.position.counts.unopened ∷ numbers_after os

unfoldable closing : Closing → List ℕ
closing t =
    let B = numbered t.settings.rows t.settings.columns t.mines in
    let d = fresh_desk t.settings B in
    d.position.counts.unopened ∷ numbers_after (plays B t.events d)

-- the names of the rows that do not hold
pub wrong_closings : List Closing → List ℕ
wrong_closings [] = []
wrong_closings (t ∷ ts) =
    let more = wrong_closings ts in
    pick (same eqb (closing t) t.numbers) more (t.name ∷ more)

close' : ℕ → Settings → List ℕ → List ℕ → List ℕ → Closing
close' n s mines events numbers = record { name = n; settings = s; mines = mines; events = events; numbers = numbers }

pub closings : List Closing
closings =
    -- 3×3, mine (2,2), the lost chord: open (1,1), which shows 1; flag (2,0), mr (1,1): (2,0) shows 14
    close' 1 (size 3 3 0 false) (2 ∷ 2 ∷ []) (open' 1 1 (flag' 2 0 (event 6 1 1 []))) (8 ∷ 8 ∷ 7 ∷ 7 ∷ 7 ∷ 1 ∷ [])
    -- 1×1 safe: Win at 0
    ∷ close' 2 (size 1 1 0 false) [] (open' 0 0 []) (1 ∷ 1 ∷ 0 ∷ [])
    -- 1×3, mine (0,1), questions on: PreFlaging cleared to Ready
    ∷ close' 3 (size 1 3 0 true) (0 ∷ 1 ∷ []) (flag' 0 0 (flag' 0 2 (flag' 0 0 (flag' 0 2 (event 2 0 0 [])))))
    (2 ∷ 2 ∷ 2 ∷ 2 ∷ 2 ∷ 2 ∷ 2 ∷ 2 ∷ 2 ∷ 2 ∷ [])
    -- 1×6, mines (0,0) and (0,3), mode 13; open (0,1), flag (0,0): the chord pass opens (0,2)
    ∷ close' 4 (size 1 6 13 false) (0 ∷ 0 ∷ 0 ∷ 3 ∷ []) (open' 0 1 (flag' 0 0 [])) (4 ∷ 4 ∷ 3 ∷ 2 ∷ 2 ∷ [])
    ∷ []

pub closing_numbers : wrong_closings closings ≡ []
unfolding wrong_closings closings closing close' numbers_after same eqz count_shown size open' flag' event count every in_order stack_of rounds mouse_at size_ok ninth cell_before neighbour around cells_if pushed
    zero_at lone_at listed_mine numbered_at numbered bit_at with_bit shown_after stack_after hit_after run crossed refreshed free_at kind walk walk_from
    judged_left judge_one tally openings_judged lones safe_in ended solves_left left_opens left_click bits_with adds_rce take_back chord_is_useful chord_opens
    perform_chord all_closed_of ripe_at listed flag_one flag_all flag_round flag_pass chord_one chord_scan chord_round chord_pass both_round both_pass
    passes_after_flag passes_after_chord right_click chording_click mouse_table next_mouse moved both_down resolved flipped seen_at left_at right_at chord_at
    chord_from play_lc play_lr play_rc play_rr playing pre_flag ready_lc ready_rc ready pre_left pre_lr pre_cell pre_right pre_rc pre_flaging by_game pointer_of
    event_of errs_playing errs_pre_flaging bad_pre_flag event_refusal plain_of refusal_at play_at step_at step_by_of step_on plays last_play
closing_numbers = refl

-- ---- refused positions -----------------------------------------------------------------------------------------------------------------

-- a mine board, what lies before the player, and what the position check says of it: its number, and the two bytes of its place
pub record Typed : Type 0 where
  pub name : ℕ
  pub board : List ℤ
  pub desk : Desk
  pub says : List ℕ

unfoldable checked : Typed → List ℕ
checked t =
    let v = position_check_of t.board t.desk in
    v.number ∷ row_byte v.place ∷ column_byte v.place ∷ []

-- the names of the rows that do not hold
pub wrong_typed : List Typed → List ℕ
wrong_typed [] = []
wrong_typed (t ∷ ts) =
    let more = wrong_typed ts in
    pick (same eqb (checked t) t.says) more (t.name ∷ more)

-- 3×3, mine (2,2), every cell closed, Ready, but for the board, the shown cell (0,0), the first byte of bits, the flag count, the safe cells still
-- closed and the mouse state
typed : ℕ → List ℤ → ℕ → ℕ → ℕ → ℕ → MouseState → List ℕ → Typed
typed n B x byte flag unopened mouse says = record {
  name = n;
  board = B;
  desk = desk (with_flag (with_mouse (fresh_of (size 3 3 0 false) unopened) mouse) flag) (x ∷ replicate 8 10) (byte ∷ 0 ∷ []);
  says = says;
}

numbers : ℤ → ℤ → ℤ → ℤ → ℤ → List ℤ
numbers first middle right below last = first ∷ pos 0 ∷ pos 0 ∷ pos 0 ∷ middle ∷ right ∷ pos 0 ∷ below ∷ last ∷ []

right_numbers : List ℤ
right_numbers = numbers (pos 0) (pos 1) (pos 1) (pos 1) (negsuc 0)

pub typed_table : List Typed
typed_table =
    -- 0 0 0 / 0 1 1 / 0 1 -1 as it is
    typed 1 right_numbers 10 0 0 8 UpUp (0 ∷ 255 ∷ 255 ∷ [])
    -- (1,1) is 2; (1,2) too
    ∷ typed 2 (numbers (pos 0) (pos 2) (pos 1) (pos 1) (negsuc 0)) 10 0 0 8 UpUp (23 ∷ 1 ∷ 1 ∷ [])
    ∷ typed 3 (numbers (pos 0) (pos 2) (pos 2) (pos 1) (negsuc 0)) 10 0 0 8 UpUp (23 ∷ 1 ∷ 1 ∷ [])
    -- (0,0) is 1 and (1,2) is 9: every value is tested before a number is
    ∷ typed 4 (numbers (pos 1) (pos 1) (pos 9) (pos 1) (negsuc 0)) 10 0 0 8 UpUp (22 ∷ 1 ∷ 2 ∷ [])
    -- (2,1) is -2 and (2,2) is 9
    ∷ typed 5 (numbers (pos 0) (pos 1) (pos 1) (negsuc 1) (pos 9)) 10 0 0 8 UpUp (22 ∷ 2 ∷ 1 ∷ [])
    -- (0,0) shows 12, bit 0 is set, the flag count is 5 and the mouse UpDownNotFlag; then without the 12, without the bit, without the flag count
    ∷ typed 6 right_numbers 12 1 5 8 UpDownNotFlag (261 ∷ 255 ∷ 255 ∷ [])
    ∷ typed 7 right_numbers 10 1 5 8 UpDownNotFlag (262 ∷ 255 ∷ 255 ∷ [])
    ∷ typed 8 right_numbers 10 0 5 8 UpDownNotFlag (263 ∷ 255 ∷ 255 ∷ [])
    ∷ typed 9 right_numbers 10 0 0 8 UpDownNotFlag (264 ∷ 255 ∷ 255 ∷ [])
    -- seven safe cells are said to be closed, and eight are; nine
    ∷ typed 10 right_numbers 10 0 0 7 UpUp (263 ∷ 255 ∷ 255 ∷ [])
    ∷ typed 11 right_numbers 10 0 0 9 UpUp (263 ∷ 255 ∷ 255 ∷ [])
    ∷ []

pub typed_positions : wrong_typed typed_table ≡ []
unfolding wrong_typed same checked typed_table typed numbers right_numbers size position_check position_refusal settings_refusal boards_fit mode_ok board_refusal size_ok values_ok
    numbers_ok number_ok some_safe fault_of first_not every count around neighbour ninth cell_before lawful_refusal shown_lawful cell_lawful bits_lawful bit_at
    counts_lawful unopened_in count_shown states_lawful game_lawful rules_ok
typed_positions = refl

-- ---- resolving, and plain events -------------------------------------------------------------------------------------------------------

-- an event at a desk: its code, row and column; what resolve says of it, number, value and middle flag; and what the plain step does, answer, middle
-- flag and events
pub record Handed : Type 0 where
  pub name : ℕ
  pub desk : Desk
  pub code : ℕ
  pub row : ℕ
  pub column : ℕ
  pub resolves : List ℕ
  pub plays : List ℕ

unfoldable resolving : Handed → List ℕ
resolving t =
    let a = resolve_of right_numbers t.code t.row t.column t.desk in
    a.number ∷ a.value ∷ bit a.position.middle ∷ []

unfoldable playing_plain : Handed → List ℕ
playing_plain t =
    let o = plain_on right_numbers t.code t.row t.column t.desk in
    o.answer ∷ bit o.desk.position.middle ∷ o.desk.position.events ∷ []

-- the names of the rows that do not hold
pub wrong_handed : List Handed → List ℕ
wrong_handed [] = []
wrong_handed (t ∷ ts) =
    let more = wrong_handed ts in
    pick (same eqb (resolving t) t.resolves && same eqb (playing_plain t) t.plays) more (t.name ∷ more)

-- 3×3, mine (2,2), every cell closed, in a game state, a mouse state, with the middle flag, and with so many right clicks among as many events
hand : GameState → MouseState → Bool → ℕ → Settings → Desk
hand game mouse middle n s =
    desk (with_events (with_right (with_middle (with_mouse (with_game (fresh_of s 8) game) mouse) middle) n) n) (replicate 9 10) (0 ∷ 0 ∷ [])

handed : ℕ → Desk → ℕ → ℕ → ℕ → List ℕ → List ℕ → Handed
handed n d code r c resolves plays = record { name = n; desk = d; code = code; row = r; column = c; resolves = resolves; plays = plays }

pub hand_table : List Handed
hand_table =
    -- l is a press, and in DownUp a release; to the plain step it is unknown
    handed 1 (hand Ready UpUp false 0 (size 3 3 0 false)) 9 0 0 (0 ∷ 0 ∷ 0 ∷ []) (33 ∷ 0 ∷ 0 ∷ [])
    ∷ handed 2 (hand Ready DownUp false 0 (size 3 3 0 false)) 9 0 0 (0 ∷ 1 ∷ 0 ∷ []) (33 ∷ 0 ∷ 0 ∷ [])
    -- m flips the middle flag, in Loss too; there the plain step answers 0, counts one event and flips nothing
    ∷ handed 3 (hand Ready UpUp false 0 (size 3 3 0 false)) 11 0 0 (0 ∷ 5 ∷ 1 ∷ []) (33 ∷ 0 ∷ 0 ∷ [])
    ∷ handed 4 (hand Ready UpUp true 0 (size 3 3 0 false)) 11 0 0 (0 ∷ 6 ∷ 0 ∷ []) (33 ∷ 1 ∷ 0 ∷ [])
    ∷ handed 5 (hand Loss UpUp false 0 (size 3 3 0 false)) 11 0 0 (0 ∷ 5 ∷ 1 ∷ []) (0 ∷ 0 ∷ 1 ∷ [])
    ∷ handed 6 (hand Loss UpUp true 0 (size 3 3 0 false)) 11 0 0 (0 ∷ 6 ∷ 0 ∷ []) (0 ∷ 1 ∷ 1 ∷ [])
    -- every other code comes back as it came
    ∷ handed 7 (hand Ready UpUp true 0 (size 3 3 0 false)) 200 0 0 (0 ∷ 200 ∷ 1 ∷ []) (33 ∷ 1 ∷ 0 ∷ [])
    ∷ handed 8 (hand Ready UpUp false 0 (size 3 3 0 false)) 4 0 0 (0 ∷ 4 ∷ 0 ∷ []) (0 ∷ 0 ∷ 1 ∷ [])
    -- m at (0,3) is 30 and flips nothing; at (3,3) it flips; after 65,535 events it is 31
    ∷ handed 9 (hand Ready UpUp true 0 (size 3 3 0 false)) 11 0 3 (30 ∷ 0 ∷ 1 ∷ []) (30 ∷ 1 ∷ 0 ∷ [])
    ∷ handed 10 (hand Ready UpUp false 0 (size 3 3 0 false)) 11 3 3 (0 ∷ 5 ∷ 1 ∷ []) (33 ∷ 0 ∷ 0 ∷ [])
    ∷ handed 11 (hand Ready UpUp true 65535 (size 3 3 0 false)) 11 0 0 (31 ∷ 0 ∷ 1 ∷ []) (31 ∷ 1 ∷ 65535 ∷ [])
    -- r in UpDownNotFlag by rules 1 and by rules 2; rules 3 are 264
    ∷ handed 12 (hand Loss UpDownNotFlag false 1 (size 3 3 0 false)) 10 0 0 (0 ∷ 2 ∷ 0 ∷ []) (0 ∷ 0 ∷ 2 ∷ [])
    ∷ handed 13 (hand Loss UpDownNotFlag false 1 (by_rules 2 (size 3 3 0 false))) 10 0 0 (0 ∷ 3 ∷ 0 ∷ []) (0 ∷ 0 ∷ 2 ∷ [])
    ∷ handed 14 (hand Ready UpUp true 0 (by_rules 3 (size 3 3 0 false))) 11 0 0 (264 ∷ 0 ∷ 1 ∷ []) (33 ∷ 1 ∷ 0 ∷ [])
    ∷ []

pub handed_positions : wrong_handed hand_table ≡ []
unfolding wrong_handed same resolving playing_plain hand_table handed hand right_numbers numbers size by_rules resolve_of resolve_by plain_code position_check position_refusal settings_refusal boards_fit
    mode_ok board_refusal size_ok values_ok numbers_ok number_ok some_safe every count around neighbour ninth cell_before lawful_refusal shown_lawful cell_lawful bits_lawful bit_at
    counts_lawful unopened_in count_shown states_lawful game_lawful rules_ok fault_of both_down resolved flipped by_game ready pointer_of event_of bad_pre_flag event_refusal plain_of refusal_at play_at step_at step_by_of step_on
handed_positions = refl

-- ---- the no-flag class -----------------------------------------------------------------------------------------------------------------

-- what is computed, and what it is to be
pub record Said : Type 0 where
  pub name : ℕ
  pub gives : List ℕ
  pub says : List ℕ

-- the names of the rows that do not hold
unfoldable pub wrong_said : List Said → List ℕ
wrong_said [] = []
wrong_said (t ∷ ts) =
    let more = wrong_said ts in
    pick (same eqb t.gives t.says) more (t.name ∷ more)

unfoldable pub said : ℕ → List ℕ → List ℕ → Said
said n gives says = record { name = n; gives = gives; says = says }

-- answer, game and mouse state after each event, and the nine counts at the end
unfoldable lines_of : List Play → List ℕ
lines_of [] = []
lines_of (o ∷ os) = o.answer ∷ game_number o.desk.position.game ∷ mouse_number o.desk.position.mouse ∷ lines_of os

unfoldable class_lines : Settings → List ℕ → List ℕ → List ℕ
class_lines s mines events =
    let B = numbered s.rows s.columns mines in
    let os = class_plays B events (fresh_desk s B) in
    lines_of os ++ nine_counts (last_play (done 0 (fresh_desk s B)) os).desk.position

-- one event at a desk of 3 × 3: its answer, and the events then
unfoldable class_at : Desk → ℕ → ℕ → ℕ → List ℕ
class_at d code r c =
    let o = class_step_on right_numbers code r c d in
    o.answer ∷ o.desk.position.events ∷ []

-- setup on a board of 3 × 3
unfoldable class_sets : Settings → List ℕ
class_sets s = class_setup_refusal s right_numbers (replicate 9 10) (0 ∷ 0 ∷ []) ∷ []

-- a book's number and place
unfoldable class_reads : List ℕ → List ℕ
class_reads s = (class_book_of s).number ∷ (class_book_of s).place ∷ []

pub class_table : List Said
class_table =
    -- worked.book: 1×3, mine (0,1); open (0,0), rc (0,1): 34, nothing counted
    said 1 (class_lines (size 1 3 0 false) (0 ∷ 1 ∷ []) (open' 0 0 (event 2 0 1 (event 3 0 1 []))))
    (0 ∷ 4 ∷ 3 ∷ 2 ∷ 1 ∷ 0 ∷ 34 ∷ 1 ∷ 0 ∷ 1 ∷ 0 ∷ 0 ∷ 1 ∷ 0 ∷ 0 ∷ 0 ∷ 1 ∷ 0 ∷ [])
    -- 2×2, mine (0,0); l, l, m, m, r on (1,1): the middle button chords, and only double counts
    ∷ said 2 (class_lines (size 2 2 0 false) (0 ∷ 0 ∷ []) (event 9 1 1 (event 9 1 1 (event 11 1 1 (event 11 1 1 (event 10 1 1 []))))))
    (0 ∷ 4 ∷ 3 ∷ 2 ∷ 1 ∷ 0 ∷ 0 ∷ 1 ∷ 0 ∷ 0 ∷ 1 ∷ 0 ∷ 34 ∷ 1 ∷ 0 ∷ 1 ∷ 0 ∷ 1 ∷ 1 ∷ 0 ∷ 0 ∷ 0 ∷ 1 ∷ 0 ∷ [])
    -- 1×1; open: in Win pf is 34, and an unknown code 0
    ∷ said 3 (class_lines (size 1 1 0 false) [] (open' 0 0 (event 8 0 0 [])))
    (0 ∷ 4 ∷ 3 ∷ 2 ∷ 2 ∷ 0 ∷ 34 ∷ 2 ∷ 0 ∷ 1 ∷ 0 ∷ 0 ∷ 1 ∷ 0 ∷ 0 ∷ 0 ∷ 1 ∷ 0 ∷ [])
    ∷ said 4 (class_lines (size 1 1 0 false) [] (open' 0 0 (event 200 0 0 [])))
    (0 ∷ 4 ∷ 3 ∷ 2 ∷ 2 ∷ 0 ∷ 0 ∷ 2 ∷ 0 ∷ 1 ∷ 0 ∷ 0 ∷ 1 ∷ 0 ∷ 0 ∷ 0 ∷ 1 ∷ 0 ∷ [])
    -- in Ready on a cell: every forbidden code, and 12
    ∷ said 5 (class_at (hand Ready UpUp false 0 (size 3 3 0 false)) 2 0 0) (34 ∷ 0 ∷ [])
    ∷ said 6 (class_at (hand Ready UpUp false 0 (size 3 3 0 false)) 3 0 0) (34 ∷ 0 ∷ [])
    ∷ said 7 (class_at (hand Ready UpUp false 0 (size 3 3 0 false)) 7 0 0) (34 ∷ 0 ∷ [])
    ∷ said 8 (class_at (hand Ready UpUp false 0 (size 3 3 0 false)) 8 0 0) (34 ∷ 0 ∷ [])
    ∷ said 9 (class_at (hand Ready UpUp false 0 (size 3 3 0 false)) 10 0 0) (34 ∷ 0 ∷ [])
    ∷ said 10 (class_at (hand Ready UpUp false 0 (size 3 3 0 false)) 12 0 0) (33 ∷ 0 ∷ [])
    -- r at (0,3) is 30, after 65,535 events 31; pf off the board is 34, and not 32
    ∷ said 11 (class_at (hand Ready UpUp false 0 (size 3 3 0 false)) 10 0 3) (30 ∷ 0 ∷ [])
    ∷ said 12 (class_at (hand Ready UpUp false 65535 (size 3 3 0 false)) 10 0 0) (31 ∷ 65535 ∷ [])
    ∷ said 13 (class_at (hand Ready UpUp false 0 (size 3 3 0 false)) 8 3 3) (34 ∷ 0 ∷ [])
    -- setup: mode 0; mode 1, before its rules; rules 3
    ∷ said 14 (class_sets (by_rules 2 (size 3 3 0 true))) (0 ∷ [])
    ∷ said 15 (class_sets (by_rules 3 (size 3 3 1 false))) (25 ∷ [])
    ∷ said 16 (class_sets (by_rules 3 (size 3 3 0 false))) (45 ∷ [])
    -- a book of 1×1 without mines and events; of 2×2 in mode 1 with rules 9; its question setting is read before the mode, its size too
    ∷ said 17 (class_reads (4 ∷ 1 ∷ 1 ∷ 0 ∷ 0 ∷ 0 ∷ 0 ∷ 0 ∷ 0 ∷ [])) (0 ∷ 0 ∷ [])
    ∷ said 18 (class_reads (5 ∷ 2 ∷ 2 ∷ 1 ∷ 0 ∷ 9 ∷ [])) (25 ∷ 3 ∷ [])
    ∷ said 19 (class_reads (5 ∷ 2 ∷ 2 ∷ 1 ∷ 2 ∷ 9 ∷ [])) (41 ∷ 4 ∷ [])
    ∷ said 20 (class_reads (5 ∷ 0 ∷ 2 ∷ 1 ∷ 0 ∷ 9 ∷ [])) (20 ∷ 1 ∷ [])
    ∷ []

pub class_positions : wrong_said class_table ≡ []
unfolding wrong_said same class_table said lines_of class_lines class_at class_sets class_reads right_numbers numbers hand size by_rules open' event count every in_order stack_of rounds mouse_at size_ok ninth
    cell_before neighbour around cells_if pushed zero_at lone_at listed_mine numbered_at numbered shown_after stack_after hit_after run crossed refreshed free_at kind walk walk_from judged_left
    safe_in ended solves_left left_opens left_click chord_is_useful perform_chord passes_after_chord chording_click mouse_table next_mouse moved both_down resolved flipped seen_at
    left_at chord_at chord_from play_lc play_lr playing ready_lc ready pre_left pre_lr pre_flaging by_game pointer_of event_of errs_playing errs_pre_flaging bad_pre_flag event_refusal plain_of
    play_at count_shown last_play boards_fit board_refusal values_ok numbers_ok number_ok some_safe rules_ok forbidden class_refusal_at class_step_at class_step_by class_step_on class_settings_refusal class_setup_refusal
    class_settings_section class_sections_of class_book_of class_plays events_from mines_from mines_section book_ends
class_positions = refl

-- ---- the slider ------------------------------------------------------------------------------------------------------------------------

-- the number that a drag over a book is answered with, on a board of 1×3 and so many bytes of room
unfoldable dragged : List ℕ → ℕ → ℕ → ℕ → List ℕ
dragged s n k long =
    (drag_of s n k (emptied (replicate long 0)) (record { mines = replicate 3 (pos 0); shown = replicate 3 0; bits = 0 ∷ []; work = replicate 32 0 })).number ∷ []

-- 1×3, mine (0,1), and these events
unfoldable pub recorded : ℕ → List ℕ → List ℕ
recorded n events = 4 ∷ 1 ∷ 3 ∷ 0 ∷ 0 ∷ 1 ∷ 0 ∷ 0 ∷ 1 ∷ n ∷ 0 ∷ events

worked_book : List ℕ
worked_book = recorded 6 (open' 0 0 (flag' 0 1 (open' 0 2 [])))

-- a game that only counts its events, and refuses one of them with 33; a room that keeps the counts
counted : ℕ → Desk
counted n = desk (with_events (fresh_of (size 1 1 0 false) 1) n) [] []

tape : ℕ → Tape
tape refused = record { first = counted 0; event = λ e d. pick (eqb e refused) (done 33 d) (done 0 (counted (suc e))) }

slots : ℕ → Slots
slots most = record {
  most = most;
  put = λ j d room. set room j d.position.events;
  get = λ j room. counted (get_or room j 0);
  right = λ m d. eqb d.position.events m;
}

-- start, answer, events then and how many are kept, of each of a row of drags over it
unfoldable slides_on : Tape → Slots → ℕ → List ℕ → Kept → List ℕ
slides_on t s k [] h = []
slides_on t s k (n ∷ ns) h =
    let w = slide_to t s k n h in
    w.start ∷ flow_number w.glided.last ∷ w.glided.last.desk.position.events ∷ w.glided.kept.count ∷ slides_on t s k ns w.glided.kept

pub slide_table : List Said
slide_table =
    -- 70 before 71 before 72; no room at all is none too short; a book's own refusal before all
    said 1 (dragged worked_book 7 0 59) (70 ∷ [])
    ∷ said 2 (dragged worked_book 6 0 59) (71 ∷ [])
    ∷ said 3 (dragged worked_book 6 1 59) (72 ∷ [])
    ∷ said 4 (dragged worked_book 6 1 60) (0 ∷ [])
    ∷ said 5 (dragged worked_book 0 1 0) (0 ∷ [])
    ∷ said 6 (dragged (recorded 6 (open' 0 0 [])) 7 0 59) (40 ∷ [])
    -- k 2 and room for two, to and fro: what a call kept is there for the next one
    ∷ said 7 (slides_on (tape 100) (slots 2) 2 (1 ∷ 2 ∷ 2 ∷ 6 ∷ 6 ∷ 3 ∷ 0 ∷ []) (emptied (9 ∷ 9 ∷ [])))
    (0 ∷ 0 ∷ 1 ∷ 0 ∷ 0 ∷ 0 ∷ 2 ∷ 1 ∷ 2 ∷ 0 ∷ 2 ∷ 1 ∷ 2 ∷ 0 ∷ 6 ∷ 2 ∷ 4 ∷ 0 ∷ 6 ∷ 2 ∷ 2 ∷ 0 ∷ 3 ∷ 2 ∷ 0 ∷ 0 ∷ 0 ∷ 2 ∷ [])
    -- the third event is refused: nothing is kept there or past it
    ∷ said 8 (slides_on (tape 2) (slots 9) 1 (4 ∷ 4 ∷ 3 ∷ 2 ∷ 1 ∷ []) (emptied (replicate 9 0)))
    (0 ∷ 33 ∷ 2 ∷ 2 ∷ 2 ∷ 33 ∷ 2 ∷ 2 ∷ 2 ∷ 33 ∷ 2 ∷ 2 ∷ 2 ∷ 0 ∷ 2 ∷ 2 ∷ 1 ∷ 0 ∷ 1 ∷ 2 ∷ [])
    -- a spoiled room, and a slider that says more than the room can hold: from the start, with nothing kept
    ∷ said 9 (slides_on (tape 100) (slots 2) 2 (3 ∷ 3 ∷ []) (record { count = 1; room = 7 ∷ 9 ∷ [] })) (0 ∷ 0 ∷ 3 ∷ 1 ∷ 2 ∷ 0 ∷ 3 ∷ 1 ∷ [])
    ∷ said 10 (slides_on (tape 100) (slots 2) 2 (1 ∷ []) (record { count = 3; room = 2 ∷ 4 ∷ [] })) (0 ∷ 0 ∷ 1 ∷ 0 ∷ [])
    ∷ []

pub slide_positions : wrong_said slide_table ≡ []
unfolding wrong_said same slide_table said dragged recorded worked_book counted tape slots slides_on size open' flag' event count every mine_ok boards_fit work_fits rules_ok mode_ok size_ok
    settings_section sections_of book_of events_from mines_from mines_section book_ends turn glide slide_from slide_to lent_fits_of room_fits drag_refusal drag_by drag_of
slide_positions = refl

-- ---- hints, and their score ------------------------------------------------------------------------------------------------------------

-- the hint's cell and its number's; 0 for nothing; the number of a refusal
hinted : Hint → List ℕ
hinted (Cell row column byRow byColumn) = row ∷ column ∷ byRow ∷ byColumn ∷ []
hinted Nothing = 0 ∷ []
hinted (Refused n) = n ∷ []

heard : Call → List ℕ
heard (question R C shown) = hinted (hint_of R C shown)
heard (report row column opened) = []

-- after each call: what a question is answered, hints asked for and followed, and the two bytes of the cell of the hint that lives
unfoldable taught : List Call → Score → List ℕ
taught [] s = []
taught (c ∷ cs) s =
    let t = call_of c s in
    heard c ++ (t.asked ∷ t.followed ∷ row_byte t.hint ∷ column_byte t.hint ∷ taught cs t)

-- a lesson: hints asked for and followed when it begins, with no hint alive; its calls
lesson : ℕ → ℕ → ℕ → List Call → List ℕ → Said
lesson n asked followed calls says = said n (taught calls (score asked followed Nowhere)) says

-- 11 1 10, whose last cell is offered
flagged : Call
flagged = question 1 3 (11 ∷ 1 ∷ 10 ∷ [])

pub lessons : List Said
lessons =
    -- a report of 0, of 1, and again
    lesson 1 0 0 (flagged ∷ report 0 2 0 ∷ report 0 2 1 ∷ report 0 2 1 ∷ [])
    (0 ∷ 2 ∷ 0 ∷ 1 ∷ 1 ∷ 0 ∷ 0 ∷ 2 ∷ 1 ∷ 0 ∷ 0 ∷ 2 ∷ 1 ∷ 1 ∷ 255 ∷ 255 ∷ 1 ∷ 1 ∷ 255 ∷ 255 ∷ [])
    -- the hint is spent elsewhere
    ∷ lesson 2 0 0 (flagged ∷ report 0 1 1 ∷ report 0 2 1 ∷ [])
    (0 ∷ 2 ∷ 0 ∷ 1 ∷ 1 ∷ 0 ∷ 0 ∷ 2 ∷ 1 ∷ 0 ∷ 255 ∷ 255 ∷ 1 ∷ 0 ∷ 255 ∷ 255 ∷ [])
    -- 10 1 10: nothing, and the hint before it is dropped
    ∷ lesson 3 0 0 (flagged ∷ question 1 3 (10 ∷ 1 ∷ 10 ∷ []) ∷ report 0 2 1 ∷ [])
    (0 ∷ 2 ∷ 0 ∷ 1 ∷ 1 ∷ 0 ∷ 0 ∷ 2 ∷ 0 ∷ 2 ∷ 0 ∷ 255 ∷ 255 ∷ 2 ∷ 0 ∷ 255 ∷ 255 ∷ [])
    -- two bytes for 1×3, 0×3, a 12: refused, and the hint lives on
    ∷ lesson 4 0 0 (flagged ∷ question 1 3 (11 ∷ 1 ∷ []) ∷ question 0 3 (11 ∷ 1 ∷ 10 ∷ []) ∷ question 1 3 (12 ∷ 1 ∷ 10 ∷ []) ∷ report 0 2 1 ∷ [])
    (0 ∷ 2 ∷ 0 ∷ 1 ∷ 1 ∷ 0 ∷ 0 ∷ 2 ∷ 21 ∷ 1 ∷ 0 ∷ 0 ∷ 2 ∷ 20 ∷ 1 ∷ 0 ∷ 0 ∷ 2 ∷ 261 ∷ 1 ∷ 0 ∷ 0 ∷ 2 ∷ 1 ∷ 1 ∷ 255 ∷ 255 ∷ [])
    -- both counts stay at 65,535
    ∷ lesson 5 65535 65535 (flagged ∷ report 0 2 1 ∷ [])
    (0 ∷ 2 ∷ 0 ∷ 1 ∷ 65535 ∷ 65535 ∷ 0 ∷ 2 ∷ 65535 ∷ 65535 ∷ 255 ∷ 255 ∷ [])
    -- 3×3, 10 1 11 / 1 1 1 / 10 10 10: the first of four cells, by the first of two numbers
    ∷ lesson 6 0 0 (question 3 3 (10 ∷ 1 ∷ 11 ∷ 1 ∷ 1 ∷ 1 ∷ 10 ∷ 10 ∷ 10 ∷ []) ∷ []) (0 ∷ 0 ∷ 0 ∷ 1 ∷ 1 ∷ 0 ∷ 0 ∷ 0 ∷ [])
    -- 10 0 10: a 0 justifies nothing; 14 1 10: a wrong flag is none; eight flags leave no cell to offer
    ∷ lesson 7 0 0 (question 1 3 (10 ∷ 0 ∷ 10 ∷ []) ∷ []) (0 ∷ 1 ∷ 0 ∷ 255 ∷ 255 ∷ [])
    ∷ lesson 8 0 0 (question 1 3 (14 ∷ 1 ∷ 10 ∷ []) ∷ []) (0 ∷ 1 ∷ 0 ∷ 255 ∷ 255 ∷ [])
    ∷ lesson 9 0 0 (question 3 3 (11 ∷ 11 ∷ 11 ∷ 11 ∷ 8 ∷ 11 ∷ 11 ∷ 11 ∷ 11 ∷ []) ∷ []) (0 ∷ 1 ∷ 0 ∷ 255 ∷ 255 ∷ [])
    -- 10 2 10 1 11: the first number beside the cell does not justify it, the second does
    ∷ lesson 10 0 0 (question 1 5 (10 ∷ 2 ∷ 10 ∷ 1 ∷ 11 ∷ []) ∷ []) (0 ∷ 2 ∷ 0 ∷ 3 ∷ 1 ∷ 0 ∷ 0 ∷ 2 ∷ [])
    ∷ []

pub lessons_taught : wrong_said lessons ≡ []
unfolding wrong_said same said taught heard hinted lessons lesson flagged hint_of hint_by justifies offered report_of shown_refusal is_shown all_shown first_not count every size_ok ninth
    cell_before neighbour around
lessons_taught = refl
