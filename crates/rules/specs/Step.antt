-- One event in each of the five game states: what it answers and leaves, and the refusals 30 to 33; resolved first, or plain.
use Rattle.std.specs.Prelude.{Bool, true, false, not, ◌&&◌, ◌||◌, List, ℕ, ◌+◌, ◌-◌, ltb, leb, eqb, length, get_or, set, replicate, ℤ, Option, Some, None}
use Rattle.rules.specs.declared.Settings.{Settings}
use Rattle.rules.specs.declared.Pointer.{Pointer}
use Rattle.rules.specs.declared.Pointer.TheVariants.{Cell, Off}
use Rattle.rules.specs.declared.Event.{Event}
use Rattle.rules.specs.declared.Event.TheVariants.{Lc, Lr, Rc, Rr, Mv, Mc, Mr, Cc, Pf, Unknown}
use Rattle.rules.specs.declared.GameState.{GameState}
use Rattle.rules.specs.declared.GameState.TheVariants.{Ready, Playing, Win, Loss, PreFlaging}
use Rattle.rules.specs.declared.MouseState.TheVariants.{UpDownNotFlag}
use Rattle.rules.specs.Words.{pick, unless}
use Rattle.rules.specs.States.{mouse_number, with_game, with_mouse, with_middle, with_preflags, with_events, with_right, zeroed}
use Rattle.rules.specs.Grid.{cell_of}
use Rattle.rules.specs.Clicks.{Desk, Play, desk, done, on, columns_of, add_left, add_right, left_click}
use Rattle.rules.specs.Passes.{right_click, chording_click}
use Rattle.rules.specs.Mouse.{moved, both_down, resolved, flipped}

abbrev pub mouse : Desk → ℕ
mouse d = mouse_number d.position.mouse

-- the mouse state moved on by an event code
abbrev pub move : ℕ → Desk → Desk
move e d = on d (moved e d.position)

-- ---- a click where the pointer is ------------------------------------------------------------------------------------------------------

abbrev pub on_cell : Pointer → Bool
on_cell (Cell r c) = true
on_cell Off = false

-- what is shown at the pointer; off the board 0, as an open cell
unfoldable pub seen_at : Desk → Pointer → ℕ
seen_at d (Cell r c) = get_or d.shown (cell_of (columns_of d) r c) 0
seen_at d Off = 0

-- off the board a left or a right click only counts, a chord does nothing
unfoldable pub left_at : List ℤ → Pointer → Desk → Play
left_at B (Cell r c) d = left_click B (cell_of (columns_of d) r c) d
left_at B Off d = done 0 (add_left d)

-- the Rust's right click answers Err on a cell that shows more than 9 but none of 10, 11 and 17. That cannot come: lawful are only 14 and 15 of these,
-- both in Loss alone, where nothing is clicked
unfoldable pub right_at : List ℤ → Pointer → Desk → Play
right_at B (Cell r c) d = right_click B (cell_of (columns_of d) r c) d
right_at B Off d = done 0 (add_right d)

unfoldable pub chord_at : List ℤ → Pointer → Desk → Play
chord_at B (Cell r c) d = chording_click B (cell_of (columns_of d) r c) d
chord_at B Off d = done 0 d

-- ---- Playing ---------------------------------------------------------------------------------------------------------------------------

-- a button goes up in mouse state m: from Chording a chord, from ChordingNotFlag a chord that takes its right press back
unfoldable pub chord_from : List ℤ → ℕ → Pointer → Desk → Play
chord_from B m x d =
    pick (eqb m 4) (chord_at B x d)
    (pick (eqb m 5) (chord_at B x (on d (with_right d.position (d.position.counts.right - 1))))
    (done 0 d))

-- off the board: left + 1, and the mouse state stays
unfoldable pub play_lc : Pointer → Desk → Play
play_lc x d = pick (on_cell x) (done 0 (move 0 d)) (done 0 (add_left d))

unfoldable pub play_lr : List ℤ → Pointer → Desk → Play
play_lr B x d = pick (eqb (mouse d) 3) (left_at B x (move 1 d)) (chord_from B (mouse d) x (move 1 d))

-- from UpUp a right click; with nothing to flag (an open cell, or off the board) to UpDownNotFlag
unfoldable pub play_rc : List ℤ → Pointer → Desk → Play
play_rc B x d =
    pick (eqb (mouse d) 0)
    (right_at B x (pick (leb 10 (seen_at d x)) (move 2 d) (on d (with_mouse d.position UpDownNotFlag))))
    (done 0 (move 2 d))

unfoldable pub play_rr : List ℤ → Pointer → Desk → Play
play_rr B x d = chord_from B (mouse d) x (move 3 d)

-- what is refused (pf, unknown codes, cc with both buttons down) changes nothing
unfoldable pub playing : List ℤ → Event → Desk → Play
playing B (Lc x) d = play_lc x d
playing B (Lr x) d = play_lr B x d
playing B (Rc x) d = play_rc B x d
playing B (Rr x) d = play_rr B x d
playing B (Mv x) d = done 0 d
playing B (Mc x) d = done 0 (on d (with_middle d.position true))
playing B (Mr x) d = chord_at B x (on d (with_middle d.position false))
playing B (Cc x) d = done 0 (move 7 d)
playing B (Pf x) d = done 0 d
playing B (Unknown code x) d = done 0 d

-- ---- Ready -----------------------------------------------------------------------------------------------------------------------------

-- a flag before the game, on a cell showing 10
unfoldable pub pre_flag : List ℤ → Pointer → Desk → Play
pre_flag B x d = right_at B x (on d (with_game (with_preflags d.position (d.position.preflags + 1)) PreFlaging))

-- from UpUp on a cell to PreFlaging
unfoldable pub ready_lc : Pointer → Desk → Play
ready_lc x d =
    pick (eqb (mouse d) 0 && on_cell x) (done 0 (on d (with_game (moved 0 d.position) PreFlaging))) (done 0 (move 0 d))

-- from UpUp on a cell the pre-flag count is 1 and the cell is right-clicked, in PreFlaging
unfoldable pub ready_rc : List ℤ → Pointer → Desk → Play
ready_rc B x d =
    pick (eqb (mouse d) 0 && on_cell x)
    (right_at B x (on d (with_game (with_preflags (moved 2 d.position) 1) PreFlaging)))
    (done 0 (move 2 d))

-- for `rr` in ChordingNotFlag the Rust falls through to the Playing block, which takes a right press back and chords. That cannot come: a lawful
-- Ready has the mouse in no NotFlag state
unfoldable pub ready : List ℤ → Event → Desk → Play
ready B (Lc x) d = ready_lc x d
ready B (Lr x) d = done 0 (move 1 d)
ready B (Rc x) d = ready_rc B x d
ready B (Rr x) d = done 0 (move 3 d)
ready B (Mv x) d = done 0 d
ready B (Mc x) d = done 0 d
ready B (Mr x) d = done 0 d
ready B (Cc x) d = done 0 (move 7 d)
ready B (Pf x) d = pre_flag B x d
ready B (Unknown code x) d = done 0 d

-- ---- PreFlaging ------------------------------------------------------------------------------------------------------------------------

-- clearing: back to Ready, with the counts and the bits cleared
abbrev pub cleared : Desk → Desk
cleared d = desk (zeroed d.position) d.shown (replicate (length d.bits) 0)

abbrev pub cleared_if : Bool → Play → Play
cleared_if t o = pick t (done o.answer (cleared o.desk)) o

-- back to Ready without clearing
abbrev pub back_if : Bool → Desk → Desk
back_if t d = pick t (on d (with_game d.position Ready)) d

-- the left button goes up in DownUp: on a 10 the game starts; off the board with no pre-flag it is Ready again, cleared
unfoldable pub pre_left : List ℤ → Pointer → Desk → Play
pre_left B x d =
    pick (on_cell x)
    (pick (eqb (seen_at d x) 10) (left_at B x (on d (with_game d.position Playing))) (done 0 (add_left d)))
    (pick (eqb d.position.preflags 0) (done 0 (cleared d)) (done 0 (add_left d)))

unfoldable pub pre_lr : List ℤ → Pointer → Desk → Play
pre_lr B x d = pick (eqb (mouse d) 3) (pre_left B x (move 1 d)) (play_lr B x d)

-- the last pre-flag taken back with question marks off: the cell shows 10, Ready, cleared
abbrev pub last_taken_back : ℕ → Desk → Desk
last_taken_back i d = desk (zeroed (with_preflags d.position 0)) (set d.shown i 10) (replicate (length d.bits) 0)

-- the right button goes down on a cell in UpUp: 10, 11 and 17 with the pre-flag count. The Rust answers Err on a cell that shows anything else.
-- That cannot come: in a lawful PreFlaging nothing is open, and 14 and 15 stand in Loss alone
unfoldable pub pre_cell : List ℤ → ℕ → Desk → Play
pre_cell B i d =
    pick (eqb (get_or d.shown i 0) 10) (right_click B i (on d (with_preflags d.position (d.position.preflags + 1))))
    (pick (eqb (get_or d.shown i 0) 11)
    (pick (not d.position.settings.question && eqb d.position.preflags 1)
    (done 0 (last_taken_back i d))
    (right_click B i (on d (with_preflags d.position (d.position.preflags - 1)))))
    (cleared_if (eqb d.position.preflags 0) (right_click B i d)))

unfoldable pub pre_right : List ℤ → Pointer → Desk → Play
pre_right B (Cell r c) d = pre_cell B (cell_of (columns_of d) r c) (move 2 d)
pre_right B Off d = done 0 (add_right (on d (with_mouse d.position UpDownNotFlag)))

-- in DownUp on a cell with no pre-flag it is Ready again, not cleared
abbrev pub back_to_ready : Pointer → Desk → Bool
back_to_ready x d = eqb (mouse d) 3 && (on_cell x && eqb d.position.preflags 0)

unfoldable pub pre_rc : List ℤ → Pointer → Desk → Play
pre_rc B x d = pick (eqb (mouse d) 0) (pre_right B x d) (done 0 (back_if (back_to_ready x d) (move 2 d)))

unfoldable pub pre_flaging : List ℤ → Event → Desk → Play
pre_flaging B (Lc x) d = play_lc x d
pre_flaging B (Lr x) d = pre_lr B x d
pre_flaging B (Rc x) d = pre_rc B x d
pre_flaging B (Rr x) d = play_rr B x d
pre_flaging B (Mv x) d = done 0 d
pre_flaging B (Mc x) d = done 0 (on d (with_middle d.position true))
pre_flaging B (Mr x) d = done 0 (on d (with_middle d.position false))
pre_flaging B (Cc x) d = done 0 (back_if (back_to_ready x d) (move 7 d))
pre_flaging B (Pf x) d = pre_flag B x d
pre_flaging B (Unknown code x) d = done 0 d

-- Win and Loss answer 0 to every code, unknown ones too
unfoldable pub by_game : GameState → List ℤ → Event → Desk → Play
by_game Ready B e d = ready B e d
by_game PreFlaging B e d = pre_flaging B e d
by_game Playing B e d = playing B e d
by_game Win B e d = done 0 d
by_game Loss B e d = done 0 d

-- ---- the refusals 30 to 33 -------------------------------------------------------------------------------------------------------------

-- 30: the pointer is neither a cell nor exactly (rows, columns)
unfoldable pub pointer_of : Settings → ℕ → ℕ → Option Pointer
pointer_of s r c =
    pick (ltb r s.rows && ltb c s.columns) (Some (Cell r c)) (pick (eqb r s.rows && eqb c s.columns) (Some Off) None)

-- the event of a plain code
unfoldable pub event_of : ℕ → Pointer → Event
event_of code x =
    pick (eqb code 0) (Lc x) (pick (eqb code 1) (Lr x) (pick (eqb code 2) (Rc x) (pick (eqb code 3) (Rr x) (pick (eqb code 4) (Mv x)
    (pick (eqb code 5) (Mc x) (pick (eqb code 6) (Mr x) (pick (eqb code 7) (Cc x) (pick (eqb code 8) (Pf x) (Unknown code x)))))))))

-- 33: the Rust answers Err
unfoldable pub errs_playing : ℕ → Event → Bool
errs_playing m (Lc x) = false
errs_playing m (Lr x) = false
errs_playing m (Rc x) = false
errs_playing m (Rr x) = false
errs_playing m (Mv x) = false
errs_playing m (Mc x) = false
errs_playing m (Mr x) = false
errs_playing m (Cc x) = both_down m
errs_playing m (Pf x) = true
errs_playing m (Unknown code x) = true

unfoldable pub errs_pre_flaging : ℕ → Event → Bool
errs_pre_flaging m (Lc x) = false
errs_pre_flaging m (Lr x) = false
errs_pre_flaging m (Rc x) = eqb m 1 || (eqb m 2 || both_down m)
errs_pre_flaging m (Rr x) = false
errs_pre_flaging m (Mv x) = false
errs_pre_flaging m (Mc x) = false
errs_pre_flaging m (Mr x) = false
errs_pre_flaging m (Cc x) = both_down m
errs_pre_flaging m (Pf x) = false
errs_pre_flaging m (Unknown code x) = true

abbrev pub is_unknown : Event → Bool
is_unknown (Lc x) = false
is_unknown (Lr x) = false
is_unknown (Rc x) = false
is_unknown (Rr x) = false
is_unknown (Mv x) = false
is_unknown (Mc x) = false
is_unknown (Mr x) = false
is_unknown (Cc x) = false
is_unknown (Pf x) = false
is_unknown (Unknown code x) = true

-- 32: `pf` off the board or on a cell not showing 10
unfoldable pub bad_pre_flag : Desk → Event → Bool
bad_pre_flag d (Lc x) = false
bad_pre_flag d (Lr x) = false
bad_pre_flag d (Rc x) = false
bad_pre_flag d (Rr x) = false
bad_pre_flag d (Mv x) = false
bad_pre_flag d (Mc x) = false
bad_pre_flag d (Mr x) = false
bad_pre_flag d (Cc x) = false
bad_pre_flag d (Pf x) = not (eqb (seen_at d x) 10)
bad_pre_flag d (Unknown code x) = false

-- 32 in Ready or PreFlaging, then 33; neither in Win or Loss
unfoldable pub event_refusal : GameState → Event → Desk → ℕ
event_refusal Ready e d = unless 32 (not (bad_pre_flag d e)) (unless 33 (not (is_unknown e)) 0)
event_refusal PreFlaging e d = unless 32 (not (bad_pre_flag d e)) (unless 33 (not (errs_pre_flaging (mouse d) e)) 0)
event_refusal Playing e d = unless 33 (not (errs_playing (mouse d) e)) 0
event_refusal Win e d = 0
event_refusal Loss e d = 0

-- ---- one event of a game ---------------------------------------------------------------------------------------------------------------

-- the plain event that a code and a pointer are at a desk
unfoldable pub plain_of : ℕ → Pointer → Desk → Event
plain_of code x d = event_of (resolved d.position.settings.rules code (mouse d) d.position.middle) x

-- 31: 65,535 events were accepted; then 32 and 33
unfoldable pub refusal_at : ℕ → Pointer → Desk → ℕ
refusal_at code x d = unless 31 (ltb d.position.events 65535) (event_refusal d.position.game (plain_of code x d) d)

-- an accepted event is counted, and played by the game state
abbrev pub counts : Desk → Play → Play
counts d o = done o.answer (on o.desk (with_events o.desk.position (d.position.events + 1)))

unfoldable pub play_at : List ℤ → ℕ → Pointer → Desk → Play
play_at B code x d =
    counts d (by_game d.position.game B (plain_of code x d) (on d (with_middle d.position (flipped code d.position.middle))))

unfoldable pub step_at : List ℤ → ℕ → Pointer → Desk → Play
step_at B code x d = pick (eqb (refusal_at code x d) 0) (play_at B code x d) (done (refusal_at code x d) d)

unfoldable pub step_by_of : List ℤ → ℕ → Option Pointer → Desk → Play
step_by_of B code (Some x) d = step_at B code x d
step_by_of B code None d = done 30 d

-- THE event of a game at a desk whose board and position are in order: 30 to 33, or it is resolved and played
unfoldable pub step_on : List ℤ → ℕ → ℕ → ℕ → Desk → Play
step_on B code r c d = step_by_of B code (pointer_of d.position.settings r c) d

-- `l`, `r` and `m` are no plain codes: where plain events only are played they are unknown ones, as 12 is
unfoldable pub plain_code : ℕ → ℕ
plain_code code = pick (leb 9 code && leb code 11) 12 code

-- the plain step: the event of a plain code, with nothing to resolve
abbrev pub plain_on : List ℤ → ℕ → ℕ → ℕ → Desk → Play
plain_on B code r c d = step_on B (plain_code code) r c d
