-- What is lent to print a book, and what stands there afterwards.
use Rattle.std.specs.Prelude.{◌≡◌, Bool, ◌&&◌, List, ℕ, ◌<◌, ◌≤◌, ltb, leb, eqb, length, ℤ}
use Rattle.rules.specs.declared.Book.{Book}
use Rattle.rules.specs.Words.{pick, over}
use Rattle.rules.specs.Lent.{work_after}
use Rattle.rules.specs.Calls.{cells_in}
use Rattle.rules.specs.Book.{book_of}
use Rattle.rules.specs.Printout.{book_board, book_end, printout_of}

-- ---- lengths ---------------------------------------------------------------------------------------------------------------------------

-- fewer than 2 ^ 32 bytes, so that a place among them has at most ten digits; and room for every printout
unfoldable pub text_fits : ℕ → ℕ → Bool
text_fits bytes out = ltb bytes 4294967296 && leb 172184 out

-- and boards, bits and work for 2,048 cells: enough for every book
unfoldable pub enough : ℕ → ℕ → ℕ → ℕ → ℕ → ℕ → Bool
enough bytes mines shown bits work out = leb 2048 mines && (leb 2048 shown && (leb 256 bits && (leb 16392 work && text_fits bytes out)))

pub record Enough (bytes mines shown bits work out : ℕ) : Type 0 where
  pub mine : 2048 ≤ mines
  pub cell : 2048 ≤ shown
  pub byte : 256 ≤ bits
  pub room : 16392 ≤ work
  pub place : bytes < 4294967296
  pub text : 172184 ≤ out

-- ---- print_book ------------------------------------------------------------------------------------------------------------------------

-- how many bytes were printed, and what stands in the lent lists after the call
pub record Printed : Type 0 where
  pub answer : ℕ
  pub mines : List ℤ
  pub shown : List ℕ
  pub bits : List ℕ
  pub work : List ℕ
  pub out : List ℕ

abbrev pub printed : ℕ → List ℤ → List ℕ → List ℕ → List ℕ → List ℕ → Printed
printed r mines shown bits work out = record { answer = r; mines = mines; shown = shown; bits = bits; work = work; out = out }

-- the printout stands at the front of `out`. An accepted book's boards stand at the front of the others, as its last event left them, and the work of
-- its cells is 0; a refused book touches none of these
unfoldable pub printed_by : List ℕ → Book → List ℤ → List ℕ → List ℕ → List ℕ → List ℕ → Printed
printed_by s b mines shown bits work out =
    pick (eqb b.number 0)
    (printed (length (printout_of s)) (over (book_board s b) mines) (over (book_end s b).shown shown) (over (book_end s b).bits bits)
    (work_after (cells_in b.settings) work) (over (printout_of s) out))
    (printed (length (printout_of s)) mines shown bits work (over (printout_of s) out))

-- where less is lent than enough, the answer is 0 and nothing is written
unfoldable pub printed_of : List ℕ → List ℤ → List ℕ → List ℕ → List ℕ → List ℕ → Printed
printed_of s mines shown bits work out =
    pick (enough (length s) (length mines) (length shown) (length bits) (length work) (length out))
    (printed_by s (book_of s) mines shown bits work out)
    (printed 0 mines shown bits work out)

abbrev pub PrintBookIs : List ℕ → List ℤ → List ℕ → List ℕ → List ℕ → List ℕ → ℕ → List ℤ → List ℕ → List ℕ → List ℕ → List ℕ → Type 0
PrintBookIs s mines shown bits work out r mines' shown' bits' work' out' = printed r mines' shown' bits' work' out' ≡ printed_of s mines shown bits work out

-- ---- write_printout --------------------------------------------------------------------------------------------------------------------

-- how many bytes were handed over to be written, and what stands in the lent text room: these bytes at its front
pub record Written : Type 0 where
  pub answer : ℕ
  pub out : List ℕ

abbrev pub written : ℕ → List ℕ → Written
written r out = record { answer = r; out = out }

unfoldable pub written_of : List ℕ → List ℕ → Written
written_of s out = pick (text_fits (length s) (length out)) (written (length (printout_of s)) (over (printout_of s) out)) (written 0 out)

abbrev pub WritePrintoutIs : List ℕ → List ℕ → ℕ → List ℕ → Type 0
WritePrintoutIs s out r out' = written r out' ≡ written_of s out
