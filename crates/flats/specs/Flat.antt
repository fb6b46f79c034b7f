-- The flat position: what its bytes mean, and the bytes of a position; the flat forms of an answer, a value and a book.
use Rattle.std.specs.Prelude.{Bool, not, ◌&&◌, ℕ, eqb, leb}
use Rattle.rules.specs.declared.Settings.{Settings}
use Rattle.rules.specs.declared.Place.{Place}
use Rattle.rules.specs.declared.Position.{Position}
use Rattle.rules.specs.declared.Answer.{Answer}
use Rattle.rules.specs.declared.Value.{Value}
use Rattle.rules.specs.declared.Book.{Book}
use Rattle.rules.specs.Words.{pick, bit}
use Rattle.rules.specs.States.{game_number, game_at, mouse_number, mouse_at}
use Rattle.rules.specs.Board.{row_byte, column_byte}
use Rattle.flats.specs.declared.FlatPosition.{FlatPosition}
use Rattle.flats.specs.declared.FlatAnswer.{FlatAnswer}
use Rattle.flats.specs.declared.FlatValue.{FlatValue}
use Rattle.flats.specs.declared.FlatBook.{FlatBook}

-- a byte that says yes or no: 0 is no
abbrev pub is_on : ℕ → Bool
is_on n = not (eqb n 0)

-- every state byte means something: question and middle 0 or 1, the game 0 to 4, the mouse 0 to 6
unfoldable pub means : FlatPosition → Bool
means f = leb f.question 1 && (leb f.game 4 && (leb f.mouse 6 && leb f.middle 1))

-- for a position with a byte that means nothing: the refusal n of what the bytes are read as, or 264 where that is 0
abbrev pub unclear : ℕ → ℕ
unclear n = pick (eqb n 0) 264 n

abbrev pub settings_of : ℕ → ℕ → ℕ → ℕ → ℕ → Settings
settings_of rows columns mode question rules = record { rows = rows; columns = columns; mode = mode; question = is_on question; rules = rules }

abbrev pub settings_in : FlatPosition → Settings
settings_in f = settings_of f.rows f.columns f.mode f.question f.rules

-- the position that a flat one stands for; a byte that means nothing is read as the last state, or as yes
abbrev pub position_in : FlatPosition → Position
position_in f = record {
  settings = settings_in f;
  game = game_at f.game;
  mouse = mouse_at f.mouse;
  middle = is_on f.middle;
  preflags = f.preflags;
  events = f.events;
  counts = record { left = f.left; right = f.right; double = f.doubles; lce = f.lce; dce = f.dce; flag = f.flag; unopened = f.unopened };
  secrets = record { rce = f.rce; solved_left = f.solved_left; solved_chord = f.solved_chord };
}

-- and back
abbrev pub flat_of : Position → FlatPosition
flat_of p = record {
  rows = p.settings.rows;
  columns = p.settings.columns;
  mode = p.settings.mode;
  question = bit p.settings.question;
  game = game_number p.game;
  mouse = mouse_number p.mouse;
  middle = bit p.middle;
  rules = p.settings.rules;
  preflags = p.preflags;
  events = p.events;
  left = p.counts.left;
  right = p.counts.right;
  doubles = p.counts.double;
  lce = p.counts.lce;
  dce = p.counts.dce;
  flag = p.counts.flag;
  unopened = p.counts.unopened;
  rce = p.secrets.rce;
  solved_left = p.secrets.solved_left;
  solved_chord = p.secrets.solved_chord;
}

abbrev pub gives : ℕ → Place → FlatPosition → ℕ → FlatAnswer
gives n x f v = record { number = n; row = row_byte x; column = column_byte x; position = f; value = v }

abbrev pub flat_answer : Answer → FlatAnswer
flat_answer a = gives a.number a.place (flat_of a.position) a.value

abbrev pub flat_value : Value → FlatValue
flat_value v = record { number = v.number; row = row_byte v.place; column = column_byte v.place; value = v.value }

abbrev pub flat_book : Book → FlatBook
flat_book b = record {
  number = b.number;
  rows = b.settings.rows;
  columns = b.settings.columns;
  mode = b.settings.mode;
  question = bit b.settings.question;
  rules = b.settings.rules;
  place = b.place;
  mines_at = b.mines_at;
  mines = b.mines;
  events_at = b.events_at;
  events = b.events;
}
