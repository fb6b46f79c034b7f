-- The entry points: for each call, its refusals in their order, and its one outcome for every input.
use Rattle.std.specs.Prelude.{Bool, true, ◌&&◌, ◌||◌, List, [], ◌∷◌, ℕ, ◌+◌, ◌*◌, ◌%◌, ltb, leb, eqb, length, replicate, ℤ, Option, Some, None}
use Rattle.rules.specs.declared.Pointer.{Pointer}
use Rattle.rules.specs.declared.Position.{Position}
use Rattle.rules.specs.declared.Settings.{Settings}
use Rattle.rules.specs.declared.Answer.{Answer}
use Rattle.rules.specs.declared.Value.{Value}
use Rattle.rules.specs.declared.Place.TheVariants.{Nowhere}
use Rattle.rules.specs.declared.GameState.TheVariants.{Loss}
use Rattle.rules.specs.Words.{pick, unless}
use Rattle.rules.specs.States.{mouse_number, fresh_of, with_game, with_middle}
use Rattle.rules.specs.Board.{board_refusal, board_check, fault_of, numbered, numbering_refusal, safe_in}
use Rattle.rules.specs.Lent.{bit_bytes, work_room, work_after}
use Rattle.rules.specs.Opening.{opened_in}
use Rattle.rules.specs.Judging.{total3bv, left_to_solve}
use Rattle.rules.specs.Clicks.{Desk, Play, desk, done}
use Rattle.rules.specs.Mouse.{rules_ok, resolved, flipped}
use Rattle.rules.specs.Step.{pointer_of, step_on, plain_on}
use Rattle.rules.specs.Lawful.{lawful_refusal}

-- an answer, and what stands in the lent buffers after the call
pub record Outcome : Type 0 where
  pub answer : Answer
  pub shown : List ℕ
  pub bits : List ℕ
  pub work : List ℕ

abbrev pub answers : ℕ → Position → ℕ → Answer
answers n p v = record { number = n; place = Nowhere; position = p; value = v }

-- a refusal of what is given: the position as it was, and beside 22 and 23 the faulty cell of the board
abbrev pub refuses : List ℤ → Position → ℕ → Answer
refuses B p n = record { number = n; place = fault_of p.settings.rows p.settings.columns B n; position = p; value = 0 }

-- what a check answers: its number, 0 too, with that cell
abbrev pub checks : ℕ → ℕ → List ℤ → ℕ → Value
checks R C B n = record { number = n; place = fault_of R C B n; value = 0 }

abbrev pub cells_in : Settings → ℕ
cells_in s = s.rows * s.columns

-- ---- lengths, modes and the refusals 20 to 264 -----------------------------------------------------------------------------------------

-- the mine board, the shown board and the bits have exactly their lengths
unfoldable pub boards_fit : Settings → List ℤ → List ℕ → List ℕ → Bool
boards_fit s B shown bits = eqb (length B) (cells_in s) && (eqb (length shown) (cells_in s) && eqb (length bits) (bit_bytes (cells_in s)))

-- work has room
unfoldable pub work_fits : Settings → List ℕ → Bool
work_fits s work = leb (work_room (cells_in s)) (length work)

-- modes 0 to 5 and 11 to 16
unfoldable pub mode_ok : ℕ → Bool
mode_ok mode = leb mode 5 || (leb 11 mode && leb mode 16)

-- 20 to 25
unfoldable pub settings_refusal : Settings → Bool → List ℤ → ℕ → ℕ
settings_refusal s fit B rest =
    pick (eqb (board_refusal s.rows s.columns fit B) 0)
    (unless 25 (mode_ok s.mode) rest)
    (board_refusal s.rows s.columns fit B)

-- 20 to 264
unfoldable pub position_refusal : Bool → List ℤ → Desk → ℕ
position_refusal fit B d = settings_refusal d.position.settings fit B (lawful_refusal B d)

-- the chain of the position check, callable by itself
unfoldable pub position_check : List ℤ → Desk → ℕ
position_check B d = position_refusal (boards_fit d.position.settings B d.shown d.bits) B d

-- a call that is lent work tests its length too
unfoldable pub lent_refusal : List ℤ → Desk → List ℕ → ℕ
lent_refusal B d work =
    position_refusal (boards_fit d.position.settings B d.shown d.bits && work_fits d.position.settings work) B d

-- the board check and the position check: their number, with its place
abbrev pub board_check_of : ℕ → ℕ → List ℤ → Value
board_check_of R C B = checks R C B (board_check R C B)

abbrev pub position_check_of : List ℤ → Desk → Value
position_check_of B d = checks d.position.settings.rows d.position.settings.columns B (position_check B d)

-- ---- setup and reset -------------------------------------------------------------------------------------------------------------------

-- the fresh desk: every shown cell 10 and every bit and count 0, but that of the safe cells still closed, which all are
abbrev pub fresh_desk : Settings → List ℤ → Desk
fresh_desk s B = desk (fresh_of s (safe_in B)) (replicate (cells_in s) 10) (replicate (bit_bytes (cells_in s)) 0)

pub record SetUp : Type 0 where
  pub answer : Answer
  pub shown : List ℕ
  pub bits : List ℕ

abbrev pub set_up : Answer → List ℕ → List ℕ → SetUp
set_up a shown bits = record { answer = a; shown = shown; bits = bits }

-- the desk that setup and reset leave
abbrev pub set_by : SetUp → Desk
set_by o = desk o.answer.position o.shown o.bits

-- `otherwise` is the position that a refusal gives back
unfoldable pub setup_by : ℕ → List ℤ → Position → Settings → List ℕ → List ℕ → SetUp
setup_by n B otherwise s shown bits =
    pick (eqb n 0)
    (set_up (answers 0 (fresh_desk s B).position 0) (fresh_desk s B).shown (fresh_desk s B).bits)
    (set_up (refuses B otherwise n) shown bits)

-- 20 to 25, then 45: the rules are 1 or 2
unfoldable pub setup_refusal : Settings → List ℤ → List ℕ → List ℕ → ℕ
setup_refusal s B shown bits = settings_refusal s (boards_fit s B shown bits) B (unless 45 (rules_ok s.rules) 0)

-- setup is given no position, so a refusal gives the fresh one back, of no board
unfoldable pub setup_of : Settings → List ℤ → List ℕ → List ℕ → SetUp
setup_of s B shown bits = setup_by (setup_refusal s B shown bits) B (fresh_of s 0) s shown bits

-- reset is setup with the position's own settings
unfoldable pub reset_of : List ℤ → Desk → SetUp
reset_of B d =
    setup_by (setup_refusal d.position.settings B d.shown d.bits) B d.position d.position.settings d.shown d.bits

-- ---- resolve ---------------------------------------------------------------------------------------------------------------------------

-- 30, then 31; else the plain code is the value, and `m` flips the middle flag; no event is counted
unfoldable pub resolve_by : ℕ → Option Pointer → Position → Answer
resolve_by code (Some x) p =
    pick (ltb p.events 65535)
    (answers 0 (with_middle p (flipped code p.middle)) (resolved p.settings.rules code (mouse_number p.mouse) p.middle))
    (answers 31 p 0)
resolve_by code None p = answers 30 p 0

-- resolve tests 20 to 31 as the step does
unfoldable pub resolve_of : List ℤ → ℕ → ℕ → ℕ → Desk → Answer
resolve_of B code r c d =
    pick (eqb (position_check B d) 0)
    (resolve_by code (pointer_of d.position.settings r c) d.position)
    (refuses B d.position (position_check B d))

-- ---- step ------------------------------------------------------------------------------------------------------------------------------

abbrev pub outcome : Answer → List ℕ → List ℕ → List ℕ → Outcome
outcome a shown bits work = record { answer = a; shown = shown; bits = bits; work = work }

-- the desk that a call leaves
abbrev pub left_by : Outcome → Desk
left_by o = desk o.answer.position o.shown o.bits

-- a refusal returns its number and the position given, and writes nothing lent
abbrev pub refused : ℕ → Desk → List ℕ → Outcome
refused n d work = outcome (answers n d.position 0) d.shown d.bits work

-- so does one of 20 to 264, with its place
abbrev pub refused_at : List ℤ → ℕ → Desk → List ℕ → Outcome
refused_at B n d work = outcome (refuses B d.position n) d.shown d.bits work

abbrev pub accepted : ℕ → ℕ → Desk → List ℕ → Outcome
accepted n v d work = outcome (answers n d.position v) d.shown d.bits (work_after (cells_in d.position.settings) work)

-- a played event, refused from 20 on; beside its answer stands what it opened
abbrev pub played : List ℕ → Play → List ℕ → Outcome
played before o work =
    pick (leb 20 o.answer) (refused o.answer o.desk work) (accepted o.answer (opened_in before o.desk.shown) o.desk work)

-- a call that plays an event where 20 to 264 do not refuse
abbrev pub tested : List ℤ → Desk → List ℕ → Play → Outcome
tested B d work o = pick (eqb (lent_refusal B d work) 0) (played d.shown o work) (refused_at B (lent_refusal B d work) d work)

-- a step tests all, 20 to 33, and plays plain events only
unfoldable pub step_of : List ℤ → ℕ → ℕ → ℕ → Desk → List ℕ → Outcome
step_of B code r c d work = tested B d work (plain_on B code r c d)

-- ---- step_flow -------------------------------------------------------------------------------------------------------------------------

-- the plays of a row of events, three bytes each, up to the first refused one
unfoldable pub plays : List ℤ → List ℕ → Desk → List Play
plays B [] d = []
plays B (code ∷ []) d = []
plays B (code ∷ r ∷ []) d = []
plays B (code ∷ r ∷ c ∷ es) d =
    let o = step_on B code r c d in
    let rest = plays B es o.desk in
    o ∷ pick (leb 20 o.answer) [] rest

-- the last play, or what was there before the first
unfoldable pub last_play : Play → List Play → Play
last_play o [] = o
last_play o (x ∷ xs) = last_play x xs

-- a flow that accepted at least one event, or was refused none, leaves its work cleared
abbrev pub any_accepted : List Play → Bool
any_accepted [] = true
any_accepted (o ∷ os) = ltb o.answer 20

-- 0, or the number of the refused event; the steps before it are kept
abbrev pub flowed : List Play → Play → List ℕ → Outcome
flowed os o work =
    outcome
    (answers (pick (leb 20 o.answer) o.answer 0) o.desk.position 0)
    o.desk.shown
    o.desk.bits
    (pick (any_accepted os) (work_after (cells_in o.desk.position.settings) work) work)

-- a broken last event is 21
unfoldable pub flow_refusal : List ℤ → List ℕ → Desk → List ℕ → ℕ
flow_refusal B events d work =
    position_refusal
    (boards_fit d.position.settings B d.shown d.bits && (work_fits d.position.settings work && eqb (length events % 3) 0)) B d

-- step_flow tests 20 to 264 even for no events, and stops at the first refusal
unfoldable pub flow_of : List ℤ → List ℕ → Desk → List ℕ → Outcome
flow_of B events d work =
    pick (eqb (flow_refusal B events d work) 0)
    (flowed (plays B events d) (last_play (done 0 d) (plays B events d)) work)
    (refused_at B (flow_refusal B events d work) d work)

-- ---- the other calls -------------------------------------------------------------------------------------------------------------------

-- step_game_state tests 20 to 264; "replay" (0) and "fail" (1) give Loss and answer 0 in any state, anything else 33; it counts no event
unfoldable pub game_state_of : List ℤ → ℕ → Desk → Answer
game_state_of B e d =
    pick (eqb (position_check B d) 0)
    (pick (leb e 1) (answers 0 (with_game d.position Loss) 0) (answers 33 d.position 0))
    (refuses B d.position (position_check B d))

-- get_bbbv_solved tests 20 to 264: both solved counts together
unfoldable pub bbbv_solved_of : List ℤ → Desk → Answer
bbbv_solved_of B d =
    pick (eqb (position_check B d) 0)
    (answers 0 d.position (d.position.secrets.solved_left + d.position.secrets.solved_chord))
    (refuses B d.position (position_check B d))

pub record Asked : Type 0 where
  pub answer : Answer
  pub work : List ℕ

-- left to solve tests 20 to 264, with work
unfoldable pub left_to_solve_of : List ℤ → Desk → List ℕ → Asked
left_to_solve_of B d work =
    pick (eqb (lent_refusal B d work) 0)
    (record {
      answer = answers 0 d.position (left_to_solve B d.position.settings.rows d.position.settings.columns d.shown);
      work = work_after (cells_in d.position.settings) work;
    })
    (record { answer = refuses B d.position (lent_refusal B d work); work = work })

pub record Totalled : Type 0 where
  pub answer : Value
  pub work : List ℕ

-- the 3BV total tests 20 to 24, with work
unfoldable pub total_refusal : ℕ → ℕ → List ℤ → List ℕ → ℕ
total_refusal R C B work = board_refusal R C (eqb (length B) (R * C) && leb (work_room (R * C)) (length work)) B

unfoldable pub total_of : ℕ → ℕ → List ℤ → List ℕ → Totalled
total_of R C B work =
    pick (eqb (total_refusal R C B work) 0)
    (record { answer = record { number = 0; place = Nowhere; value = total3bv B R C }; work = work_after (R * C) work })
    (record { answer = checks R C B (total_refusal R C B work); work = work })

pub record Numbered : Type 0 where
  pub number : ℕ
  pub board : List ℤ

-- numbering from a mine list writes the board, or nothing
unfoldable pub numbering_of : ℕ → ℕ → List ℕ → List ℤ → Numbered
numbering_of R C ms B =
    pick (eqb (numbering_refusal R C ms B) 0)
    (record { number = 0; board = numbered R C ms })
    (record { number = numbering_refusal R C ms B; board = B })
