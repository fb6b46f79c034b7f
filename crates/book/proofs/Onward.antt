-- Sections that are right depend on their own bytes alone: whatever follows them, they read the same. So a book is read in bytes that go on behind it.
use mathlib.Core.Path.{◌≡◌, ◌∙◌, sym, ap, ap₂, refl, subst⁻¹}
use mathlib.Core.Bool.{true}
use mathlib.Core.List.{List, ◌++◌}
use Prim.Native.Nat.{ℕ, ◌+◌, ◌<◌, ◌≤◌}
use native.Mathlib.Omega.{arith}
use lib.Dec.{eqb}
use lib.ListN.{length, take, drop, length-append, get_or-append}
use lib.Seq.{get_or-drop, get_or-take, length-take-le}
use Rattle.rules.specs.declared.Settings.{Settings}
use Rattle.rules.specs.declared.Book.{Book}
use Rattle.rules.specs.Words.{pick, every}
use Rattle.rules.specs.Grid.{size_ok}
use Rattle.rules.specs.Board.{mine_ok}
use Rattle.rules.specs.Mouse.{rules_ok}
use Rattle.rules.specs.Calls.{mode_ok}
use Rattle.rules.specs.Book.{byte_at, word_at, rules_at, settings_at, mine_count_at, refused_book, sections_of, events_end, book_of}
use Rattle.cells.proofs.Words.{every_same}
use Rattle.book.specs.Laid.{SettingsLaid, LaidFrom, read_from, event_count_at, end_at}
use Rattle.book.proofs.Reading.{end_over, end_right}
use Rattle.book.proofs.Accepting.{sections_laid, sections_read, accepted_laid, end_passed, sections_fit}
use Rattle.book.proofs.Writing.{mine_same}

-- ---- two byte strings that agree on their first n bytes ----------------------------------------------------------------------------------

module _ (s s' : List ℕ) (n : ℕ) (fits : n ≤ length s') (same : (i : ℕ) → i < n → byte_at s' i ≡ byte_at s i) where
  word_on : (at : ℕ) → at + 1 < n → word_at s' at ≡ word_at s at
  word_on at h =
      let low : byte_at s' at ≡ byte_at s at = same at (omega arith) in
      let high : byte_at s' (at + 1) ≡ byte_at s (at + 1) = same (at + 1) h in
      cc

  module _ (at : ℕ) (g : Settings) (l : LaidFrom s at g) (ends : end_at s at ≤ n) where
    mines_on : word_at s' at ≡ word_at s at
    mines_on = word_on at (omega arith)

    place_on : event_count_at s' at ≡ event_count_at s at
    place_on = omega (arith, mines_on)

    events_on : word_at s' (event_count_at s' at) ≡ word_at s (event_count_at s at)
    events_on = ap (word_at s') place_on ∙ word_on (event_count_at s at) (omega arith)

    rising_on : every (mine_ok g.rows g.columns (drop (at + 2) s')) (word_at s at) ≡ true
    rising_on =
        every_same (mine_ok g.rows g.columns (drop (at + 2) s')) (mine_ok g.rows g.columns (drop (at + 2) s)) (word_at s at)
        (mine_same g.rows g.columns (drop (at + 2) s') (drop (at + 2) s) (word_at s at)
        (λ j h. get_or-drop (at + 2) s' j 0 ∙ same (at + 2 + j) (omega arith) ∙ sym (get_or-drop (at + 2) s j 0)))
        ∙ l.rising

    section_on : LaidFrom s' at g
    section_on =
        record {
          fewer = omega (arith, mines_on, l.fewer);
          rising = subst⁻¹ (λ (k : ℕ). every (mine_ok g.rows g.columns (drop (at + 2) s')) k ≡ true) mines_on rising_on;
          few = omega (arith, events_on, l.few);
          there = omega (arith, events_on, place_on);
        }

    read_on : read_from s' at g ≡ read_from s at g
    read_on =
        let mines = mines_on in
        let place = place_on in
        let events = events_on in
        cc

  module _ (settings : SettingsLaid s) (l : LaidFrom s (mine_count_at s) (settings_at s)) (ends : end_at s (mine_count_at s) ≤ n) where
    byte_on : (i : ℕ) → i < 8 → byte_at s' i ≡ byte_at s i
    byte_on i h = same i (omega (arith, settings.counted.least))

    rules_on : rules_at s' ≡ rules_at s
    rules_on = ap₂ (λ (b r : ℕ). pick (eqb b 5) r 1) (byte_on 0 (omega arith)) (byte_on 5 (omega arith))

    settings_on : settings_at s' ≡ settings_at s
    settings_on =
        let rows : byte_at s' 1 ≡ byte_at s 1 = byte_on 1 (omega arith) in
        let columns : byte_at s' 2 ≡ byte_at s 2 = byte_on 2 (omega arith) in
        let mode : byte_at s' 3 ≡ byte_at s 3 = byte_on 3 (omega arith) in
        let question : byte_at s' 4 ≡ byte_at s 4 = byte_on 4 (omega arith) in
        let rules : rules_at s' ≡ rules_at s = rules_on in
        cc

    count_on : mine_count_at s' ≡ mine_count_at s
    count_on = ap (λ (b : ℕ). 1 + b) (byte_on 0 (omega arith))

    settings_laid_on : SettingsLaid s'
    settings_laid_on =
        let count = byte_on 0 (omega arith) in
        let question = byte_on 4 (omega arith) in
        let least = settings.counted.least in
        let most = settings.counted.most in
        let small = settings.question in
        record {
          counted = record { least = omega arith; most = omega arith; there = omega arith };
          question = omega arith;
          size = ap₂ size_ok (byte_on 1 (omega arith)) (byte_on 2 (omega arith)) ∙ settings.size;
          mode = ap mode_ok (byte_on 3 (omega arith)) ∙ settings.mode;
          rules = ap rules_ok rules_on ∙ settings.rules;
        }

    sections_laid_on : LaidFrom s' (mine_count_at s') (settings_at s')
    sections_laid_on =
        subst⁻¹ (λ (k : ℕ). LaidFrom s' k (settings_at s')) count_on
        (subst⁻¹ (LaidFrom s' (mine_count_at s)) settings_on (section_on (mine_count_at s) (settings_at s) l ends))

    laid_on : sections_of s' ≡ sections_of s
    laid_on =
        sections_read s' settings_laid_on sections_laid_on
        ∙ ap₂ (read_from s') count_on settings_on
        ∙ read_on (mine_count_at s) (settings_at s) l ends
        ∙ sym (sections_read s settings l)

  pub sections_on : (sections_of s).number ≡ 0 → events_end (sections_of s) ≤ n → sections_of s' ≡ sections_of s
  sections_on z ends =
      let l = sections_laid s z in
      let end : events_end (sections_of s) ≡ end_at s (mine_count_at s) = ap events_end (sections_read s l.0 l.1) in
      laid_on l.0 l.1 (omega arith)

-- ---- a book and what follows it ----------------------------------------------------------------------------------------------------------

-- an accepted book is its sections, and ends with them
pub accepted_sections : (s : List ℕ) → (book_of s).number ≡ 0 → book_of s ≡ sections_of s
unfolding book_of
accepted_sections s z =
    let p = end_passed s (events_end (sections_of s)) (sections_of s) z in
    end_right s (events_end (sections_of s)) (sections_of s) p.0 p.1

pub accepted_ends : (s : List ℕ) → (book_of s).number ≡ 0 → events_end (sections_of s) ≡ length s
accepted_ends s z =
    let l = accepted_laid s z in
    let end : events_end (sections_of s) ≡ end_at s (mine_count_at s) = ap events_end (sections_read s l.settings l.sections) in
    omega (arith, l.ends)

-- where the sections are right, what stands up to the last event is a book
module _ (s : List ℕ) (z : (sections_of s).number ≡ 0) where
  front : List ℕ
  front = take (events_end (sections_of s)) s

  front_length : length front ≡ events_end (sections_of s)
  unfolding front
  front_length = length-take-le (events_end (sections_of s)) s (sections_fit s (sections_of s) refl)

  front_sections : sections_of front ≡ sections_of s
  unfolding front
  front_sections =
      sections_on s front (events_end (sections_of s)) (omega (arith, front_length)) (λ i h. get_or-take (events_end (sections_of s)) s i 0 h) z (omega arith)

  pub front_book : book_of (take (events_end (sections_of s)) s) ≡ sections_of s
  unfolding book_of front
  front_book =
      let ends : events_end (sections_of front) ≡ events_end (sections_of s) = ap events_end front_sections in
      end_right front (events_end (sections_of front)) (sections_of front) (ap (λ (b : Book). b.number) front_sections ∙ z) (omega (arith, front_length)) ∙ front_sections

-- a book with more behind it has the book's sections, and read as a book it is refused at its end
module _ (s more : List ℕ) (z : (book_of s).number ≡ 0) where
  pub more_sections : sections_of (s ++ more) ≡ book_of s
  more_sections =
      let read = accepted_sections s z in
      let ends = accepted_ends s z in
      let long = length-append s more in
      sections_on s (s ++ more) (length s) (omega arith) (λ i h. get_or-append s more 0 i h) (sym (ap (λ (b : Book). b.number) read) ∙ z) (omega arith) ∙ sym read

  pub more_ends : events_end (sections_of (s ++ more)) ≡ length s
  more_ends = ap events_end (more_sections ∙ accepted_sections s z) ∙ accepted_ends s z

  pub more_refused : 0 < length more → book_of (s ++ more) ≡ refused_book 43 (length s)
  unfolding book_of
  more_refused some =
      let ends = more_ends in
      let long = length-append s more in
      end_over (s ++ more) (events_end (sections_of (s ++ more))) (sections_of (s ++ more)) (ap (λ (b : Book). b.number) more_sections ∙ z) (omega arith)
      ∙ ap (λ (k : ℕ). refused_book 43 k) ends
