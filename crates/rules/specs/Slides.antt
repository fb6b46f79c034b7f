-- The slider over a recorded game: a position in bytes, playing the first n events from the start, and dragging with positions kept after every k events.
use Rattle.std.specs.Prelude.{Bool, not, ◌&&◌, ◌||◌, List, [], ◌∷◌, ◌++◌, ℕ, zero, suc, ◌+◌, ◌-◌, ◌*◌, ◌/◌, ◌%◌, eqb, ltb, leb, ℤ, length, take, drop}
use Rattle.std.proofs.lemmas.List.Edits.{sets}
use Rattle.rules.specs.declared.Settings.{Settings}
use Rattle.rules.specs.declared.Position.{Position}
use Rattle.rules.specs.declared.Counts.{Counts}
use Rattle.rules.specs.declared.Secrets.{Secrets}
use Rattle.rules.specs.declared.Book.{Book}
use Rattle.rules.specs.Words.{pick, unless, bit}
use Rattle.rules.specs.States.{game_number, game_at, mouse_number, mouse_at, fresh_of}
use Rattle.rules.specs.Lent.{bit_bytes, work_after}
use Rattle.rules.specs.Clicks.{Desk, Play, desk, done}
use Rattle.rules.specs.Step.{step_on}
use Rattle.rules.specs.Lawful.{lawful}
use Rattle.rules.specs.Calls.{cells_in, boards_fit, work_fits}
use Rattle.rules.specs.Book.{byte_at, word_at, book_of, events_of}
use Rattle.rules.specs.Printout.{line_of, word_line, word_refused, nine_counts, row_lines, book_board, book_desk}

-- ---- a kept position: the whole position, the shown board, the bits --------------------------------------------------------------------

-- a number's four bytes, low byte first
abbrev pub four_bytes : ℕ → List ℕ
four_bytes n = n % 256 ∷ n / 256 % 256 ∷ n / 65536 % 256 ∷ n / 16777216 ∷ []

-- numbers one after the other
unfoldable pub fours : List ℕ → List ℕ
fours [] = []
fours (n ∷ ns) = four_bytes n ++ fours ns

-- rows, columns, mode, question, rules; game, mouse, middle
abbrev pub state_bytes : Position → List ℕ
state_bytes p =
    p.settings.rows ∷ p.settings.columns ∷ p.settings.mode ∷ bit p.settings.question ∷ p.settings.rules
    ∷ game_number p.game ∷ mouse_number p.mouse ∷ bit p.middle ∷ []

-- the pre-flag count, the events, the nine counts as they are printed, the safe cells still closed
abbrev pub numbers_kept : Position → List ℕ
numbers_kept p =
    p.preflags ∷ p.events ∷ p.counts.left ∷ p.counts.right ∷ p.counts.double ∷ p.counts.lce ∷ p.secrets.rce ∷ p.counts.dce ∷ p.counts.flag
    ∷ p.secrets.solved_left ∷ p.secrets.solved_chord ∷ p.counts.unopened ∷ []

-- the bytes of a desk
unfoldable pub desk_bytes : Desk → List ℕ
desk_bytes d = state_bytes d.position ++ (fours (numbers_kept d.position) ++ (d.shown ++ d.bits))

-- those before the shown board
abbrev pub head_size : ℕ
head_size = 56

-- the bytes of one slot, for a board of so many cells and so many bytes of bits
abbrev pub slot_size : ℕ → ℕ → ℕ
slot_size cells bits = head_size + (cells + bits)

-- and back: a number of four bytes; 0 is no, any other byte yes
abbrev pub four_at : List ℕ → ℕ → ℕ
four_at s at = word_at s at + 65536 * word_at s (at + 2)

abbrev pub yes : ℕ → Bool
yes b = not (eqb b 0)

abbrev pub settings_in : List ℕ → Settings
settings_in s = record { rows = byte_at s 0; columns = byte_at s 1; mode = byte_at s 2; question = yes (byte_at s 3); rules = byte_at s 4 }

abbrev pub counts_in : List ℕ → Counts
counts_in s =
    record { left = four_at s 16; right = four_at s 20; double = four_at s 24; lce = four_at s 28; dce = four_at s 36; flag = four_at s 40; unopened = four_at s 52 }

abbrev pub secrets_in : List ℕ → Secrets
secrets_in s = record { rce = four_at s 32; solved_left = four_at s 44; solved_chord = four_at s 48 }

abbrev pub position_in : List ℕ → Position
position_in s = record {
  settings = settings_in s;
  game = game_at (byte_at s 5);
  mouse = mouse_at (byte_at s 6);
  middle = yes (byte_at s 7);
  preflags = four_at s 8;
  events = four_at s 12;
  counts = counts_in s;
  secrets = secrets_in s;
}

-- the desk that stands at the front of a list of bytes
unfoldable pub desk_in : ℕ → ℕ → List ℕ → Desk
desk_in cells bits s = desk (position_in s) (take cells (drop head_size s)) (take bits (drop (head_size + cells) s))

-- ---- a recorded game, from the start ---------------------------------------------------------------------------------------------------

-- the desk before any event, and what the e-th event does (counted from 0)
pub record Tape : Type 0 where
  pub first : Desk
  pub event : ℕ → Desk → Play

-- a refused event ends the play
abbrev pub refused_by : Play → Bool
refused_by o = leb 20 o.answer

abbrev pub onward : Play → Play → Play
onward o next = pick (refused_by o) o next

-- the last play of the first n events
unfoldable pub run_to : Tape → ℕ → Play
run_to t zero = done 0 t.first
run_to t (suc n) = let o = run_to t n in onward o (t.event n o.desk)

-- what step_flow answers: 0, or the number of the refused event
abbrev pub flow_number : Play → ℕ
flow_number o = pick (refused_by o) o.answer 0

-- ---- the slider ------------------------------------------------------------------------------------------------------------------------

-- the lent room: how many desks it has slots for, a desk put into a slot and taken up again, and whether what was taken up can be the desk after m events
pub record Slots : Type 0 where
  pub most : ℕ
  pub put : ℕ → Desk → List ℕ → List ℕ
  pub get : ℕ → List ℕ → Desk
  pub right : ℕ → Desk → Bool

-- the slider's value, how many desks are kept, and the room that holds them
pub record Kept : Type 0 where
  pub count : ℕ
  pub room : List ℕ

-- nothing kept
abbrev pub emptied : List ℕ → Kept
emptied room = record { count = 0; room = room }

pub record Gliding : Type 0 where
  pub last : Play
  pub kept : Kept

-- from which event a drag started, and what it came to
pub record Slide : Type 0 where
  pub start : ℕ
  pub glided : Gliding

module _ (t : Tape) (s : Slots) (k : ℕ) where
  -- after m accepted events the desk is kept, if it is the next to keep and the room reaches so far
  abbrev pub keeps : ℕ → Play → Kept → Bool
  keeps m o h = not (refused_by o) && (eqb m (suc h.count * k) && ltb h.count s.most)

  abbrev pub kept_at : ℕ → Play → Kept → Kept
  kept_at m o h = pick (keeps m o h) (record { count = suc h.count; room = s.put h.count o.desk h.room }) h

  -- one event played on, unless one was refused
  abbrev pub played : ℕ → Play → Kept → Gliding
  played e o h = record { last = o; kept = kept_at (suc e) o h }

  unfoldable pub turn : ℕ → Gliding → Gliding
  turn e g = pick (refused_by g.last) g (played e (t.event e g.last.desk) g.kept)

  -- i events from the m-th on
  unfoldable pub glide : ℕ → ℕ → Gliding → Gliding
  glide m zero g = g
  glide m (suc i) g = turn (m + i) (glide m i g)

  -- from the desk after m events to the n-th
  abbrev pub glide_from : ℕ → ℕ → Desk → Kept → Gliding
  glide_from n m d h = glide m (n - m) (record { last = done 0 d; kept = h })

  -- the largest kept not after n, counted in slots; 0 is the start
  abbrev pub slot_for : ℕ → ℕ → ℕ
  slot_for n count = pick (leb count (n / k)) count (n / k)

  abbrev pub from_start_of : ℕ → Kept → Slide
  from_start_of n h = record { start = 0; glided = glide_from n 0 t.first h }

  -- a kept desk that cannot be right is passed by, and the room is emptied
  unfoldable pub slide_from : ℕ → ℕ → Kept → Slide
  slide_from n zero h = from_start_of n h
  slide_from n (suc j) h =
      pick (s.right (suc j * k) (s.get j h.room))
      (record { start = suc j * k; glided = glide_from n (suc j * k) (s.get j h.room) h })
      (from_start_of n (emptied h.room))

  -- a slider that says more than the room can hold is passed by: nothing is kept
  abbrev pub held : Kept → Kept
  held h = pick (ltb s.most h.count) (emptied h.room) h

  -- a drag to n
  unfoldable pub slide_to : ℕ → Kept → Slide
  slide_to n h = slide_from n (slot_for n (held h).count) (held h)

-- ---- on a book -------------------------------------------------------------------------------------------------------------------------

-- the e-th record of an events section played; there is none past the end, which is refused with 70
unfoldable pub play_record : List ℤ → List ℕ → ℕ → Desk → Play
play_record B es e d =
    pick (ltb e (length es / 3)) (step_on B (byte_at es (3 * e)) (byte_at es (3 * e + 1)) (byte_at es (3 * e + 2)) d) (done 70 d)

abbrev pub tape_of : List ℤ → List ℕ → Desk → Tape
tape_of B es d = record { first = d; event = play_record B es }

-- the bytes of one slot
abbrev pub size_for : Settings → ℕ
size_for g = slot_size (cells_in g) (bit_bytes (cells_in g))

unfoldable pub same_settings : Settings → Settings → Bool
same_settings g h =
    eqb g.rows h.rows && (eqb g.columns h.columns && (eqb g.mode h.mode
    && (eqb (bit g.question) (bit h.question) && eqb g.rules h.rules)))

-- the slots of a room of so many bytes; a desk taken up can be right if it is of the settings, at that many events and lawful
abbrev pub slots_of : List ℤ → Settings → ℕ → Slots
slots_of B g long = record {
  most = long / size_for g;
  put = λ j d room. sets room (j * size_for g) (desk_bytes d);
  get = λ j room. desk_in (cells_in g) (bit_bytes (cells_in g)) (drop (j * size_for g) room);
  right = λ m d. same_settings g d.position.settings && (eqb d.position.events m && lawful B d);
}

abbrev pub book_tape : List ℕ → Book → Tape
book_tape s b = tape_of (book_board s b) (events_of s b) (book_desk s b)

abbrev pub book_slots : List ℕ → Book → ℕ → Slots
book_slots s b long = slots_of (book_board s b) b.settings long

-- ---- the calls -------------------------------------------------------------------------------------------------------------------------

-- what is lent to a drag besides the room
pub record Lent : Type 0 where
  pub mines : List ℤ
  pub shown : List ℕ
  pub bits : List ℕ
  pub work : List ℕ

-- the call's number, 0 where it is accepted, with the book's byte place; from which event it started, what step_flow answers, the position; and
-- the slider, the room and what was lent as they are then
pub record Dragged : Type 0 where
  pub number : ℕ
  pub place : ℕ
  pub start : ℕ
  pub answer : ℕ
  pub position : Position
  pub kept : Kept
  pub lent : Lent

-- the boards have exactly their lengths, and the work its room
unfoldable pub lent_fits_of : Settings → Lent → Bool
lent_fits_of g l = boards_fit g l.mines l.shown l.bits && work_fits g l.work

-- a room of length 0 is allowed
unfoldable pub room_fits : Settings → ℕ → Bool
room_fits g long = eqb long 0 || leb (size_for g) long

-- the book's own; 21; 70: n beyond the book; 71: k is 0; 72: a room of some length that is shorter than one kept position
unfoldable pub drag_refusal : Book → ℕ → ℕ → ℕ → Lent → ℕ
drag_refusal b n k long l =
    pick (eqb b.number 0)
    (unless 21 (lent_fits_of b.settings l)
    (unless 70 (leb n b.events)
    (unless 71 (leb 1 k)
    (unless 72 (room_fits b.settings long) 0))))
    b.number

-- an accepted drag, where this work was lent
abbrev pub dragged : List ℕ → Book → Slide → List ℕ → Dragged
dragged s b w work =
    let o = w.glided.last in
    record {
      number = 0;
      place = 0;
      start = w.start;
      answer = flow_number o;
      position = o.desk.position;
      kept = w.glided.kept;
      lent = record { mines = book_board s b; shown = o.desk.shown; bits = o.desk.bits; work = work_after (cells_in b.settings) work };
    }

-- a refusal is given no position, so it gives the fresh one back, of no board; it changes nothing, the slider too
abbrev pub undragged : Book → ℕ → Kept → Lent → Dragged
undragged b n h l =
    record { number = n; place = b.place; start = 0; answer = 0; position = fresh_of b.settings 0; kept = h; lent = l }

unfoldable pub drag_by : List ℕ → Book → ℕ → ℕ → Kept → Lent → Dragged
drag_by s b n k h l =
    pick (eqb (drag_refusal b n k (length h.room) l) 0)
    (dragged s b (slide_to (book_tape s b) (book_slots s b (length h.room)) k n h) l.work)
    (undragged b (drag_refusal b n k (length h.room) l) h l)

-- THE drag to n on a book
unfoldable pub drag_of : List ℕ → ℕ → ℕ → Kept → Lent → Dragged
drag_of s n k h l = drag_by s (book_of s) n k h l

-- opening answers the book's own refusal
pub record Opened : Type 0 where
  pub number : ℕ
  pub place : ℕ
  pub kept : ℕ

abbrev pub open_of : List ℕ → Opened
open_of s = record { number = (book_of s).number; place = (book_of s).place; kept = 0 }

-- ---- sequences of calls ----------------------------------------------------------------------------------------------------------------

pub data Call : Type 0 where
  drag : ℕ → Lent → Call
  reset : Call

-- what a call leaves: a reset keeps nothing
unfoldable pub after_call : List ℕ → ℕ → Call → Kept → Kept
after_call s k (drag n l) h = (drag_of s n k h l).kept
after_call s k reset h = emptied h.room

unfoldable pub after_calls : List ℕ → ℕ → List Call → Kept → Kept
after_calls s k [] h = h
after_calls s k (c ∷ cs) h = after_calls s k cs (after_call s k c h)

-- ---- the text of a drag, as the program `scrub` writes it ------------------------------------------------------------------------------

-- START ANSWER GAME MOUSE MIDDLE, the nine counts, the pre-flag count and the events
abbrev pub drag_numbers : Dragged → List ℕ
drag_numbers o =
    o.start ∷ o.answer ∷ game_number o.position.game ∷ mouse_number o.position.mouse ∷ bit o.position.middle
    ∷ (nine_counts o.position ++ (o.position.preflags ∷ o.position.events ∷ []))

-- and then the shown rows; or `refused N`
unfoldable pub drag_text : Settings → Dragged → List ℕ
drag_text g o =
    pick (eqb o.number 0) (line_of (drag_numbers o) ++ row_lines g.rows g.columns o.lent.shown) (word_line word_refused (o.number ∷ []))
