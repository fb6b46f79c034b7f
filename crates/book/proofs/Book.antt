-- The theorems on the book: one outcome, what is accepted, a written book reads back to itself, and what an accepted book may be used for.
use mathlib.Core.Path.{◌≡◌, ◌∙◌, sym, ap}
use mathlib.Core.List.{List}
use Prim.Native.Nat.{ℕ, ◌*◌}
use borrow.Author.Tests.{lt-ltb, eq-eqb}
use lib.ListN.{length}
use lib.IntN.{ℤ}
use Rattle.rules.specs.declared.Settings.{Settings}
use Rattle.rules.specs.declared.Book.{Book}
use Rattle.rules.specs.Board.{numbering_refusal}
use Rattle.rules.specs.Book.{refused_book, sections_of, book_ends, book_of, mines_of, events_of, part_of}
use Rattle.book.specs.Laid.{Laid}
use Rattle.book.specs.Written.{Form, form_of, written, Writable, Bytes, IsWritten}
use Rattle.book.proofs.Accepting.{laid_read}
use Rattle.book.proofs.Writing.{written_read, written_form, written_mines, written_events, accepted_writable, accepted_written}

-- ---- any two outcomes that the contracts allow are equal -------------------------------------------------------------------------------

pub read_one : (s : List ℕ) (b b' : Book) → b ≡ book_of s → b' ≡ book_of s → b ≡ b'
read_one s b b' e e' = e ∙ sym e'

pub sections_one : (s : List ℕ) (b b' : Book) → b ≡ sections_of s → b' ≡ sections_of s → b ≡ b'
sections_one s b b' e e' = e ∙ sym e'

pub ended_one : (s : List ℕ) (end : ℕ) (x b b' : Book) → b ≡ book_ends s end x → b' ≡ book_ends s end x → b ≡ b'
ended_one s end x b b' e e' = e ∙ sym e'

pub refused_one : (n place : ℕ) (b b' : Book) → b ≡ refused_book n place → b' ≡ refused_book n place → b ≡ b'
refused_one n place b b' e e' = e ∙ sym e'

pub part_one : (s : List ℕ) (at n : ℕ) (p p' : List ℕ) → p ≡ part_of s at n → p' ≡ part_of s at n → p ≡ p'
part_one s at n p p' e e' = e ∙ sym e'

-- ---- a book is accepted exactly if it is laid out as one, and exactly if it is the written form of one ---------------------------------

pub laid_accepted : (s : List ℕ) → Laid s → (book_of s).number ≡ 0
laid_accepted s l = ap (λ (b : Book). b.number) (laid_read s l)

pub accepted_is_written : (s : List ℕ) → Bytes s → (book_of s).number ≡ 0 → IsWritten s
accepted_is_written s bytes e =
    record {
      form = form_of s;
      settings = (book_of s).settings;
      mines = mines_of s (book_of s);
      events = events_of s (book_of s);
      writable = accepted_writable s e;
      same = accepted_written s e bytes;
    }

pub written_accepted : (s : List ℕ) → IsWritten s → (book_of s).number ≡ 0
written_accepted s w =
    ap (λ (t : List ℕ). (book_of t).number) w.same
    ∙ ap (λ (b : Book). b.number) (written_read w.form w.settings w.mines w.events w.writable)

-- two readings of one book agree
pub written_one : (f f' : Form) (g g' : Settings) (ms ms' es es' : List ℕ) → Writable f g ms es → Writable f' g' ms' es' → written f g ms es ≡ written f' g' ms' es'
    → (f ≡ f') × ((g ≡ g') × ((ms ≡ ms') × (es ≡ es')))
written_one f f' g g' ms ms' es es' w w' e = (
  sym (written_form f g ms es w) ∙ ap form_of e ∙ written_form f' g' ms' es' w',
  (
    sym (ap (λ (b : Book). b.settings) (written_read f g ms es w)) ∙ ap (λ (s : List ℕ). (book_of s).settings) e
        ∙ ap (λ (b : Book). b.settings) (written_read f' g' ms' es' w'),
    (
      sym (written_mines f g ms es w) ∙ ap (λ (s : List ℕ). mines_of s (book_of s)) e ∙ written_mines f' g' ms' es' w',
      sym (written_events f g ms es w) ∙ ap (λ (s : List ℕ). events_of s (book_of s)) e ∙ written_events f' g' ms' es' w',
    ),
  ),
)

-- ---- what an accepted book may be used for ---------------------------------------------------------------------------------------------

-- its mine list passes every test of numbering
pub writable_numbers : (f : Form) (g : Settings) (ms es : List ℕ) (B : List ℤ) → Writable f g ms es → length B ≡ g.rows * g.columns
    → numbering_refusal g.rows g.columns ms B ≡ 0
unfolding numbering_refusal
writable_numbers f g ms es B w fits =
    simp (w.size, eq-eqb _ _ fits, eq-eqb _ _ w.pairs, w.rising, lt-ltb _ _ w.fewer)

pub accepted_numbers : (s : List ℕ) (B : List ℤ) → (book_of s).number ≡ 0 → length B ≡ (book_of s).settings.rows * (book_of s).settings.columns
    → numbering_refusal (book_of s).settings.rows (book_of s).settings.columns (mines_of s (book_of s)) B ≡ 0
accepted_numbers s B e fits =
    writable_numbers (form_of s) (book_of s).settings (mines_of s (book_of s)) (events_of s (book_of s)) B (accepted_writable s e) fits
