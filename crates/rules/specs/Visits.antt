-- Visiting books, as one table and one theorem that the checker computes over the definitions: the verdicts of both programs, and what they write.
use Rattle.std.specs.Prelude.{◌≡◌, refl, List, [], ◌∷◌, ◌++◌, ℕ}
use Rattle.rules.specs.declared.Verdict.TheVariants.{Accepted, Refused, EventRefused, ClaimDiffers}
use Rattle.rules.specs.Words.{count, every, first_not, in_order, stack_of, rounds}
use Rattle.rules.specs.States.{mouse_at}
use Rattle.rules.specs.Grid.{size_ok, ninth, cell_before, neighbour, around, pushed, cells_if}
use Rattle.rules.specs.Board.{zero_at, lone_at, safe_in, mine_ok, listed_mine, numbered_at, numbered}
use Rattle.rules.specs.Lent.{bit_at, with_bit}
use Rattle.rules.specs.Opening.{shown_after, stack_after, hit_after, run, crossed, refreshed, count_shown}
use Rattle.rules.specs.Judging.{free_at, kind, walk, walk_from, judged_left, judge_one, tally, openings_judged, lones}
use Rattle.rules.specs.Clicks.{ended, solves_left, left_opens, left_click, bits_with, adds_rce, take_back, chord_is_useful, chord_opens, perform_chord}
use Rattle.rules.specs.Passes.{passes_after_flag, passes_after_chord, right_click, chording_click}
use Rattle.rules.specs.Mouse.{mouse_table, next_mouse, moved, both_down, rules_ok, resolved, flipped}
use Rattle.rules.specs.Step.{seen_at, left_at, right_at, chord_at, chord_from, play_lc, play_lr, play_rc, play_rr, playing, pre_flag, ready_lc, ready_rc, ready, pre_left, pre_lr, pre_cell, pre_right, pre_rc, pre_flaging, by_game, pointer_of, event_of, errs_playing, errs_pre_flaging, bad_pre_flag, event_refusal, plain_of, refusal_at, play_at, step_at, step_by_of, step_on}
use Rattle.rules.specs.Calls.{mode_ok, plays, last_play}
use Rattle.rules.specs.Book.{events_from, mines_from, mines_section, settings_section, sections_of, book_ends, book_of, mines_of, events_of}
use Rattle.rules.specs.Printout.{digits, spaced, word_refused, word_at_place}
use Rattle.rules.specs.Claims.{verdict_number, verdict_values, claims_section, claimed_book_of, claim_at, events_judged, claims_judged, check_by, check_of, claim_by, claim_of, fours, claims_of, word_accepted, word_event, word_claim, word_says, word_is, verdict_line, claim_text_of}
use Rattle.rules.specs.Positions.{same, Said, said, wrong_said, recorded}

-- a verdict's number, then its values: the checker's, and the second program's
checks : ℕ → List ℕ → List ℕ → Said
checks n s says = said n (verdict_number (check_of s) ∷ verdict_values (check_of s)) says

claims : ℕ → List ℕ → List ℕ → Said
claims n s says = said n (verdict_number (claim_of s) ∷ verdict_values (claim_of s)) says

-- the worked book, open (0,0), flag (0,1), open (0,2), but for the code of its last event, which is 1; 29 bytes
last_by : ℕ → List ℕ
last_by code = recorded 6 (0 ∷ 0 ∷ 0 ∷ 1 ∷ 0 ∷ 0 ∷ 2 ∷ 0 ∷ 1 ∷ 3 ∷ 0 ∷ 1 ∷ 0 ∷ 0 ∷ 2 ∷ code ∷ 0 ∷ 2 ∷ [])

-- its first two events, 17 bytes
two_events : List ℕ
two_events = recorded 2 (0 ∷ 0 ∷ 0 ∷ 1 ∷ 0 ∷ 0 ∷ [])

-- 1 × 3, mine (0,0), by the league's rules 2: open (0,1), rc (0,1), r (0,1), rc (0,0), which flags, since r released
by_rules2 : List ℕ
by_rules2 = 5 ∷ 1 ∷ 3 ∷ 0 ∷ 0 ∷ 2 ∷ 1 ∷ 0 ∷ 0 ∷ 0 ∷ 5 ∷ 0 ∷ 0 ∷ 0 ∷ 1 ∷ 1 ∷ 0 ∷ 1 ∷ 2 ∷ 0 ∷ 1 ∷ 10 ∷ 0 ∷ 1 ∷ 2 ∷ 0 ∷ 0 ∷ []

-- the claims of the worked book after their count byte, but for three bytes: the highest of left, the third of rce, the lowest of solved_left; and what
-- stands from the state on
behind_count : ℕ → ℕ → ℕ → List ℕ → List ℕ
behind_count left rce solved rest =
    2 ∷ 0 ∷ 0 ∷ left ∷ 1 ∷ 0 ∷ 0 ∷ 0 ∷ 0 ∷ 0 ∷ 0 ∷ 0 ∷ 2 ∷ 0 ∷ 0 ∷ 0 ∷ 1 ∷ 0 ∷ rce ∷ 0 ∷ 0 ∷ 0 ∷ 0 ∷ 0 ∷ 1 ∷ 0 ∷ 0 ∷ 0 ∷ solved ∷ 0 ∷ 0 ∷ 0 ∷ 0 ∷ 0 ∷ 0 ∷ 0 ∷ rest

-- the worked book with its claims
claimed_book : List ℕ
claimed_book = last_by 1 ++ (9 ∷ behind_count 0 0 2 (2 ∷ []))

pub visits : List Said
visits =
    -- right claims; no claims; the count byte alone; a byte less; a byte more
    checks 1 claimed_book (0 ∷ [])
    ∷ checks 2 (last_by 1) (40 ∷ 29 ∷ [])
    ∷ checks 3 (last_by 1 ++ (9 ∷ [])) (40 ∷ 30 ∷ [])
    ∷ checks 4 (last_by 1 ++ (9 ∷ behind_count 0 0 2 [])) (40 ∷ 66 ∷ [])
    ∷ checks 5 (claimed_book ++ (0 ∷ [])) (43 ∷ 67 ∷ [])
    -- another count byte, whatever follows
    ∷ checks 6 (last_by 1 ++ (10 ∷ [])) (80 ∷ 29 ∷ [])
    ∷ checks 7 (last_by 1 ++ (10 ∷ behind_count 0 0 2 (2 ∷ []))) (80 ∷ 29 ∷ [])
    -- the state 3, and 200; rce 65537 and solved_left 9; left 16777218
    ∷ checks 8 (last_by 1 ++ (9 ∷ behind_count 0 0 2 (3 ∷ []))) (83 ∷ 10 ∷ 3 ∷ 2 ∷ [])
    ∷ checks 9 (last_by 1 ++ (9 ∷ behind_count 0 0 2 (200 ∷ []))) (83 ∷ 10 ∷ 200 ∷ 2 ∷ [])
    ∷ checks 10 (last_by 1 ++ (9 ∷ behind_count 0 1 9 (2 ∷ []))) (83 ∷ 5 ∷ 65537 ∷ 1 ∷ [])
    ∷ checks 11 (last_by 1 ++ (9 ∷ behind_count 1 0 2 (2 ∷ []))) (83 ∷ 1 ∷ 16777218 ∷ 2 ∷ [])
    -- the last event unknown, and with another count byte
    ∷ checks 12 (last_by 99 ++ (9 ∷ behind_count 0 0 2 (2 ∷ []))) (81 ∷ 6 ∷ [])
    ∷ checks 13 (last_by 99 ++ (10 ∷ [])) (80 ∷ 29 ∷ [])
    -- a running game, left 1, lce 1, solved_left 1, state 1
    ∷ checks 14 (two_events ++ (9 ∷ (fours (1 ∷ 0 ∷ 0 ∷ 1 ∷ 0 ∷ 0 ∷ 0 ∷ 1 ∷ 0 ∷ []) ++ (1 ∷ [])))) (0 ∷ [])
    -- by rules 2 the mine is flagged: left 1, right 2, lce 1, rce 1, flag 1
    ∷ checks 15 (by_rules2 ++ (9 ∷ (fours (1 ∷ 2 ∷ 0 ∷ 1 ∷ 1 ∷ 0 ∷ 1 ∷ 0 ∷ 0 ∷ []) ++ (1 ∷ [])))) (0 ∷ [])
    -- the second program: a book whose game ended; with claims; an event refused; a game that runs; one not begun
    ∷ claims 16 (last_by 1) (0 ∷ [])
    ∷ claims 17 claimed_book (43 ∷ 29 ∷ [])
    ∷ claims 18 (last_by 99) (81 ∷ 6 ∷ [])
    ∷ claims 19 two_events (82 ∷ [])
    ∷ claims 20 (recorded 0 []) (82 ∷ [])
    -- a number in four bytes; what it writes
    ∷ said 21 (fours (67305985 ∷ [])) (1 ∷ 2 ∷ 3 ∷ 4 ∷ [])
    ∷ said 22 (claim_text_of (last_by 1)) claimed_book
    ∷ said 23 (claim_text_of two_events) (word_refused ++ (32 ∷ 56 ∷ 50 ∷ 10 ∷ []))
    -- the lines: accepted; refused 43 at 67; refused 81 event 6; refused 83 claim 10 says 200 is 2
    ∷ said 24 (verdict_line Accepted) (word_accepted ++ (10 ∷ []))
    ∷ said 25 (verdict_line (Refused 43 67)) (word_refused ++ (32 ∷ 52 ∷ 51 ∷ (word_at_place ++ (32 ∷ 54 ∷ 55 ∷ 10 ∷ []))))
    ∷ said 26 (verdict_line (EventRefused 6)) (word_refused ++ (32 ∷ 56 ∷ 49 ∷ (word_event ++ (32 ∷ 54 ∷ 10 ∷ []))))
    ∷ said 27 (verdict_line (ClaimDiffers 10 200 2))
    (word_refused ++ (32 ∷ 56 ∷ 51 ∷ (word_claim ++ (32 ∷ 49 ∷ 48 ∷ (word_says ++ (32 ∷ 50 ∷ 48 ∷ 48 ∷ (word_is ++ (32 ∷ 50 ∷ 10 ∷ []))))))))
    ∷ []

pub visiting_books : wrong_said visits ≡ []
unfolding wrong_said said visits checks claims recorded last_by two_events by_rules2 behind_count claimed_book same count every first_not in_order stack_of rounds mouse_at size_ok ninth cell_before neighbour
    around cells_if pushed zero_at lone_at mine_ok listed_mine numbered_at numbered bit_at with_bit shown_after stack_after hit_after run crossed refreshed count_shown free_at kind walk walk_from
    judged_left judge_one tally openings_judged lones safe_in ended solves_left left_opens left_click bits_with adds_rce take_back chord_is_useful chord_opens perform_chord
    passes_after_flag passes_after_chord right_click chording_click mouse_table next_mouse moved both_down rules_ok resolved flipped seen_at left_at right_at chord_at chord_from
    play_lc play_lr play_rc play_rr playing pre_flag ready_lc ready_rc ready pre_left pre_lr pre_cell pre_right pre_rc pre_flaging by_game pointer_of event_of errs_playing
    errs_pre_flaging bad_pre_flag event_refusal plain_of refusal_at play_at step_at step_by_of step_on mode_ok plays last_play events_from mines_from mines_section settings_section sections_of
    book_ends book_of mines_of events_of digits spaced claims_section claimed_book_of claim_at events_judged claims_judged check_by check_of claim_by claim_of fours claims_of
    verdict_line claim_text_of
visiting_books = refl
