-- What is accepted: exactly the byte strings that are laid out as a book; every other one is refused, with nothing read.
use mathlib.Core.Path.{◌≡◌, ◌∙◌, sym, ap, refl, subst, subst⁻¹}
use mathlib.Core.Bool.{Bool, true, false, ◌||◌, false≢true}
use mathlib.Core.List.{List}
use Prim.Native.Nat.{ℕ, zero, suc, ◌+◌, ◌*◌, ◌<◌, ◌≤◌}
use native.Mathlib.Omega.{arith}
use borrow.Author.Tests.{ltb-true, leb-true, eqb-true, le-leb, eq-eqb}
use lib.Dec.{ltb, leb, eqb}
use lib.ListN.{length, take, drop, length-drop}
use lib.Seq.{length-take-le}
use Rattle.rules.specs.declared.Settings.{Settings}
use Rattle.rules.specs.declared.Book.{Book}
use Rattle.rules.specs.Words.{pick, every}
use Rattle.rules.specs.Grid.{size_ok}
use Rattle.rules.specs.Board.{mine_ok}
use Rattle.rules.specs.Mouse.{rules_ok}
use Rattle.rules.specs.Calls.{mode_ok}
use Rattle.rules.specs.Book.{refused_book, or_else, reaches, byte_at, word_at, rules_at, settings_at, max_events, mines_from, mines_section, events_from, settings_section, mine_count_at, sections_of, events_end, book_ends, book_of, mines_of, events_of, part_of}
use Rattle.book.specs.Laid.{SettingsLaid, LaidFrom, Laid, read_from, laid_book, event_count_at, end_at}
use Rattle.book.specs.Written.{longest_from, longest}
use Rattle.cells.proofs.Words.{pick_both, every_at, every_turn}
use Rattle.cells.proofs.Grid.{size_limits}
use Rattle.book.proofs.Reading.{part_there, mines_none, mines_right, mines_counted, count_bounds, settings_right, end_right}

-- ---- a test that an accepted book passed -----------------------------------------------------------------------------------------------

passed : (n place : ℕ) (t : Bool) (rest : Book) → 0 < n → (or_else n place t rest).number ≡ 0 → (t ≡ true) × (rest.number ≡ 0)
passed n place true rest h e = (refl, e)
passed n place false rest h e = absurd (omega arith)

-- ---- mines -----------------------------------------------------------------------------------------------------------------------------

module _ (s : List ℕ) (R C at : ℕ) (rest : Book) where
  mines_passed : (left n : ℕ) → every (mine_ok R C (drop at s)) n ≡ true → (mines_from s R C at n left rest).number ≡ 0
      → (every (mine_ok R C (drop at s)) (n + left) ≡ true) × (rest.number ≡ 0)
  unfolding mines_from
  mines_passed zero n before e =
      let same : n ≡ n + 0 = omega arith in
      (subst (λ (k : ℕ). every (mine_ok R C (drop at s)) k ≡ true) same before, e)
  mines_passed (suc left) n before e =
      let more : Book = mines_from s R C at (suc n) left rest in
      let reached = passed 40 (length s) (leb (at + 2 * n + 2) (length s)) (or_else 42 (at + 2 * n) (mine_ok R C (drop at s) n) more) (omega arith) e in
      let right = passed 42 (at + 2 * n) (mine_ok R C (drop at s) n) more (omega arith) reached.1 in
      let one : n + 1 ≡ suc n = omega arith in
      let turn = subst (λ (k : ℕ). every (mine_ok R C (drop at s)) k ≡ true) one (every_turn (mine_ok R C (drop at s)) n before right.0) in
      let all = mines_passed left (suc n) turn right.1 in
      let same : suc n + left ≡ n + suc left = omega arith in
      (subst (λ (k : ℕ). every (mine_ok R C (drop at s)) k ≡ true) same all.0, all.1)

  mines_pass : (left n : ℕ) → every (mine_ok R C (drop at s)) (n + left) ≡ true → at + 2 * (n + left) ≤ length s
      → mines_from s R C at n left rest ≡ rest
  mines_pass zero n right fits = mines_none s R C at n rest
  mines_pass (suc left) n right fits =
      let same : n + suc left ≡ suc n + left = omega arith in
      mines_right s R C at n left rest (omega arith) (every_at (mine_ok R C (drop at s)) (n + suc left) right n (omega arith))
      ∙ mines_pass left (suc n) (subst (λ (k : ℕ). every (mine_ok R C (drop at s)) k ≡ true) same right) (omega arith)

-- ---- events ----------------------------------------------------------------------------------------------------------------------------

module _ (s : List ℕ) (at : ℕ) (g : Settings) (minesAt n : ℕ) where
  events_passed : (events_from s at g minesAt n).number ≡ 0 → (word_at s at ≤ max_events) × (at + 2 + 3 * word_at s at ≤ length s)
  unfolding events_from
  events_passed e =
      let end : ℕ = at + 2 + 3 * word_at s at in
      let read : Book = record { number = 0; place = 0; settings = g; mines_at = minesAt; mines = n; events_at = at + 2; events = word_at s at } in
      let records : Book = or_else 40 (length s) (leb end (length s)) read in
      let count : Book = or_else 44 at (leb (word_at s at) max_events) records in
      let counted = passed 40 (length s) (leb (at + 2) (length s)) count (omega arith) e in
      let few = passed 44 at (leb (word_at s at) max_events) records (omega arith) counted.1 in
      let there = passed 40 (length s) (leb end (length s)) read (omega arith) few.1 in
      (leb-true (word_at s at) max_events few.0, leb-true end (length s) there.0)

  pub events_pass : word_at s at ≤ max_events → at + 2 + 3 * word_at s at ≤ length s
      → events_from s at g minesAt n
      ≡ record { number = 0; place = 0; settings = g; mines_at = minesAt; mines = n; events_at = at + 2; events = word_at s at }
  unfolding events_from
  events_pass few there =
      let counted : at + 2 ≤ length s = omega arith in
      simp (le-leb _ _ counted, le-leb _ _ few, le-leb _ _ there)

-- ---- what follows the settings, where the mine count stands at a place ------------------------------------------------------------------

module _ (s : List ℕ) (at : ℕ) (g : Settings) where
  section_passed : (mines_section s at g).number ≡ 0 → LaidFrom s at g
  unfolding mines_section every
  section_passed e =
      let rest : Book = events_from s (event_count_at s at) g (at + 2) (word_at s at) in
      let list : Book = mines_from s g.rows g.columns (at + 2) 0 (word_at s at) rest in
      let count : Book = or_else 24 at (ltb (word_at s at) (g.rows * g.columns)) list in
      let counted = passed 40 (length s) (leb (at + 2) (length s)) count (omega arith) e in
      let fewer = passed 24 at (ltb (word_at s at) (g.rows * g.columns)) list (omega arith) counted.1 in
      let mines = mines_passed s g.rows g.columns (at + 2) rest (word_at s at) 0 refl fewer.1 in
      let events = events_passed s (event_count_at s at) g (at + 2) (word_at s at) mines.1 in
      let all : 0 + word_at s at ≡ word_at s at = omega arith in
      record {
        fewer = ltb-true _ _ fewer.0;
        rising = subst (λ (k : ℕ). every (mine_ok g.rows g.columns (drop (at + 2) s)) k ≡ true) all mines.0;
        few = events.0;
        there = events.1;
      }

  section_short : g.rows * g.columns ≤ 2048 → LaidFrom s at g → end_at s at ≤ longest_from at
  section_short small l = omega (arith, l.fewer, l.few)

  section_read : LaidFrom s at g → mines_section s at g ≡ read_from s at g
  section_read l =
      let there : end_at s at ≤ length s = l.there in
      let all : word_at s at ≡ 0 + word_at s at = omega arith in
      mines_counted s at g 0 0 (omega arith) l.fewer
      ∙ mines_pass s g.rows g.columns (at + 2) (events_from s (event_count_at s at) g (at + 2) (word_at s at)) (word_at s at) 0
      (subst (λ (k : ℕ). every (mine_ok g.rows g.columns (drop (at + 2) s)) k ≡ true) all l.rising) (omega arith)
      ∙ events_pass s (event_count_at s at) g (at + 2) (word_at s at) l.few there

-- ---- the settings ----------------------------------------------------------------------------------------------------------------------

module _ (s : List ℕ) (rest : Book) where
  settings_passed : (settings_section s rest).number ≡ 0 → SettingsLaid s × (rest.number ≡ 0)
  unfolding settings_section
  settings_passed e =
      let from-rules : Book = or_else 45 5 (rules_ok (rules_at s)) rest in
      let from-mode : Book = or_else 25 3 (mode_ok (byte_at s 3)) from-rules in
      let from-size : Book = or_else 20 1 (size_ok (byte_at s 1) (byte_at s 2)) from-mode in
      let from-question : Book = or_else 41 4 (leb (byte_at s 4) 1) from-size in
      let from-there : Book = or_else 40 (length s) (leb (mine_count_at s) (length s)) from-question in
      let from-count : Book = or_else 41 0 (eqb (byte_at s 0) 4 || eqb (byte_at s 0) 5) from-there in
      let some = passed 40 (length s) (leb 1 (length s)) from-count (omega arith) e in
      let count = passed 41 0 (eqb (byte_at s 0) 4 || eqb (byte_at s 0) 5) from-there (omega arith) some.1 in
      let there = passed 40 (length s) (leb (mine_count_at s) (length s)) from-question (omega arith) count.1 in
      let question = passed 41 4 (leb (byte_at s 4) 1) from-size (omega arith) there.1 in
      let size = passed 20 1 (size_ok (byte_at s 1) (byte_at s 2)) from-mode (omega arith) question.1 in
      let mode = passed 25 3 (mode_ok (byte_at s 3)) from-rules (omega arith) size.1 in
      let rules = passed 45 5 (rules_ok (rules_at s)) rest (omega arith) mode.1 in
      let bounds = count_bounds (byte_at s 0) count.0 in (
        record {
          counted = record { least = bounds.0; most = bounds.1; there = leb-true _ _ there.0 };
          question = leb-true _ _ question.0;
          size = size.0;
          mode = mode.0;
          rules = rules.0;
        },
        rules.1,
      )

  settings_read : SettingsLaid s → settings_section s rest ≡ rest
  settings_read l = settings_right s rest l.counted (le-leb _ _ l.question) l.size l.mode l.rules

-- ---- the whole book --------------------------------------------------------------------------------------------------------------------

-- the sections are right exactly if they are laid out, and so read
pub sections_laid : (s : List ℕ) → (sections_of s).number ≡ 0 → SettingsLaid s × LaidFrom s (mine_count_at s) (settings_at s)
unfolding sections_of
sections_laid s e = let p = settings_passed s (mines_section s (mine_count_at s) (settings_at s)) e in (p.0, section_passed s (mine_count_at s) (settings_at s) p.1)

pub sections_read : (s : List ℕ) → SettingsLaid s → LaidFrom s (mine_count_at s) (settings_at s) → sections_of s ≡ laid_book s
unfolding sections_of
sections_read s g l = settings_read s (mines_section s (mine_count_at s) (settings_at s)) g ∙ section_read s (mine_count_at s) (settings_at s) l

-- they end no later than those of the longest book
laid_short : (s : List ℕ) → SettingsLaid s → LaidFrom s (mine_count_at s) (settings_at s) → end_at s (mine_count_at s) ≤ longest
laid_short s g l =
    omega (arith, g.counted.most, section_short s (mine_count_at s) (settings_at s) (size_limits (byte_at s 1) (byte_at s 2) g.size).cells l)

pub sections_short : (s : List ℕ) → (sections_of s).number ≡ 0 → events_end (sections_of s) ≤ longest
sections_short s z =
    let l = sections_laid s z in
    let ends : events_end (sections_of s) ≡ end_at s (mine_count_at s) = ap events_end (sections_read s l.0 l.1) in
    omega (arith, laid_short s l.0 l.1)

pub end_passed : (s : List ℕ) (end : ℕ) (b : Book) → (book_ends s end b).number ≡ 0 → (b.number ≡ 0) × (length s ≤ end)
unfolding book_ends
end_passed s end b e = go (eqb b.number 0) refl e
  where
    go : (t : Bool) → eqb b.number 0 ≡ t → (pick t (or_else 43 end (leb (length s) end) b) b).number ≡ 0 → (b.number ≡ 0) × (length s ≤ end)
    go true d u = (eqb-true _ _ d, leb-true _ _ (passed 43 end (leb (length s) end) b (omega arith) u).0)
    go false d u = absurd (false≢true (sym d ∙ eq-eqb _ _ u))

-- what is accepted is laid out as a book
pub accepted_laid : (s : List ℕ) → (book_of s).number ≡ 0 → Laid s
unfolding book_of
accepted_laid s e =
    let p = end_passed s (events_end (sections_of s)) (sections_of s) e in
    let l = sections_laid s p.0 in
    let there : end_at s (mine_count_at s) ≤ length s = l.1.there in
    let ends : events_end (sections_of s) ≡ end_at s (mine_count_at s) = ap events_end (sections_read s l.0 l.1) in
    let over = p.1 in
    record { settings = l.0; sections = l.1; ends = omega arith }

-- and no longer than the longest
pub accepted_longest : (s : List ℕ) → (book_of s).number ≡ 0 → length s ≤ longest
accepted_longest s e =
    let l = accepted_laid s e in
    omega (arith, l.ends, laid_short s l.settings l.sections)

-- and what is laid out is accepted, and so read
pub laid_read : (s : List ℕ) → Laid s → book_of s ≡ laid_book s
unfolding book_of
laid_read s l =
    let read : sections_of s ≡ laid_book s = sections_read s l.settings l.sections in
    let ends : events_end (sections_of s) ≡ end_at s (mine_count_at s) = ap events_end read in
    end_right s (events_end (sections_of s)) (sections_of s) (ap (λ (b : Book). b.number) read) (omega (arith, l.ends)) ∙ read

-- ---- every byte string is read or refused ----------------------------------------------------------------------------------------------

pub data Answered : Book → Type 0 where
  read : {b : Book} → b.number ≡ 0 → Answered b
  refused : (n place : ℕ) → 20 ≤ n → Answered (refused_book n place)

or_else_answered : (n place : ℕ) (t : Bool) {rest : Book} → 20 ≤ n → Answered rest → Answered (or_else n place t rest)
or_else_answered n place true h a = a
or_else_answered n place false h a = refused n place h

reaches_answered : (s : List ℕ) (end : ℕ) {rest : Book} → Answered rest → Answered (reaches s end rest)
reaches_answered s end a = or_else_answered 40 (length s) (leb end (length s)) (omega arith) a

events_answered : (s : List ℕ) (at : ℕ) (g : Settings) (minesAt n : ℕ) → Answered (events_from s at g minesAt n)
unfolding events_from
events_answered s at g minesAt n =
    let b : Book = record { number = 0; place = 0; settings = g; mines_at = minesAt; mines = n; events_at = at + 2; events = word_at s at } in
    reaches_answered s (at + 2)
    (or_else_answered 44 at (leb (word_at s at) max_events) (omega arith)
    (reaches_answered s (at + 2 + 3 * word_at s at) (read {b = b} refl)))

mines_answered : (s : List ℕ) (R C at n left : ℕ) (rest : Book) → Answered rest → Answered (mines_from s R C at n left rest)
unfolding mines_from
mines_answered s R C at n zero rest a = a
mines_answered s R C at n (suc left) rest a =
    reaches_answered s (at + 2 * n + 2)
    (or_else_answered 42 (at + 2 * n) (mine_ok R C (drop at s) n) (omega arith) (mines_answered s R C at (suc n) left rest a))

section_answered : (s : List ℕ) (at : ℕ) (g : Settings) → Answered (mines_section s at g)
unfolding mines_section
section_answered s at g =
    reaches_answered s (at + 2)
    (or_else_answered 24 at (ltb (word_at s at) (g.rows * g.columns)) (omega arith)
    (mines_answered s g.rows g.columns (at + 2) 0 (word_at s at) (events_from s (event_count_at s at) g (at + 2) (word_at s at))
    (events_answered s (event_count_at s at) g (at + 2) (word_at s at))))

settings_answered : (s : List ℕ) {rest : Book} → Answered rest → Answered (settings_section s rest)
unfolding settings_section
settings_answered s a =
    reaches_answered s 1
    (or_else_answered 41 0 (eqb (byte_at s 0) 4 || eqb (byte_at s 0) 5) (omega arith)
    (reaches_answered s (mine_count_at s)
    (or_else_answered 41 4 (leb (byte_at s 4) 1) (omega arith)
    (or_else_answered 20 1 (size_ok (byte_at s 1) (byte_at s 2)) (omega arith)
    (or_else_answered 25 3 (mode_ok (byte_at s 3)) (omega arith)
    (or_else_answered 45 5 (rules_ok (rules_at s)) (omega arith) a))))))

sections_answered : (s : List ℕ) → Answered (sections_of s)
unfolding sections_of
sections_answered s = settings_answered s (section_answered s (mine_count_at s) (settings_at s))

-- what holds of a book, and of it refused for bytes left over, holds once its end is tested
end_either : (P : Book → Type 0) (s : List ℕ) (end : ℕ) (b : Book) → P b → P (refused_book 43 end) → P (book_ends s end b)
unfolding book_ends
end_either P s end b p q =
    pick_both P (eqb b.number 0) (or_else 43 end (leb (length s) end) b) b (λ _. or_else_both (leb (length s) end)) (λ _. p)
  where
    or_else_both : (t : Bool) → P (or_else 43 end t b)
    or_else_both true = p
    or_else_both false = q

-- the numbers that refuse a book are 20 and above, and a refused book tells nothing but its number and its place
pub book_answered : (s : List ℕ) → Answered (book_of s)
unfolding book_of
book_answered s = end_either Answered s (events_end (sections_of s)) (sections_of s) (sections_answered s) (refused 43 (events_end (sections_of s)) (omega arith))

-- ---- the parts -------------------------------------------------------------------------------------------------------------------------

-- the mines and the events that a book tells of stand in it
pub record Within (s : List ℕ) (b : Book) : Type 0 where
  pub mines : b.mines_at + 2 * b.mines ≤ length s
  pub events : b.events_at + 3 * b.events ≤ length s

sections_within : (s : List ℕ) → Within s (sections_of s)
sections_within s = go (sections_of s) refl (sections_answered s)
  where
    go : (b : Book) → sections_of s ≡ b → Answered b → Within s b
    go b e (read z) =
        let l = sections_laid s (ap (λ (x : Book). x.number) e ∙ z) in
        let there : end_at s (mine_count_at s) ≤ length s = l.1.there in
        subst (λ (x : Book). Within s x) (sym (sections_read s l.0 l.1) ∙ e) (record { mines = omega arith; events = omega arith })
    go _ e (refused n place h) = record { mines = omega arith; events = omega arith }

-- the reader: the sections, then the end
module _ (s : List ℕ) (b : Book) (e : b ≡ sections_of s) where
  pub sections_fit : events_end b ≤ length s
  sections_fit = subst⁻¹ (λ (x : Book). events_end x ≤ length s) e (sections_within s).events

  pub sections_end : {r : Book} → r ≡ book_ends s (events_end b) b → r ≡ book_of s
  unfolding book_of
  sections_end h = h ∙ ap (λ (x : Book). book_ends s (events_end x) x) e

pub book_within : (s : List ℕ) → Within s (book_of s)
unfolding book_of
book_within s =
    end_either (Within s) s (events_end (sections_of s)) (sections_of s) (sections_within s) (record { mines = omega arith; events = omega arith })

module _ (s : List ℕ) (b : Book) (e : b ≡ book_of s) where
  stands : Within s b
  stands = subst⁻¹ (λ (x : Book). Within s x) e (book_within s)

  -- what `mines` and `events` hand back for a book is its mine list and its event records
  pub mines_part : part_of s b.mines_at (2 * b.mines) ≡ mines_of s (book_of s)
  unfolding mines_of
  mines_part =
      part_there s b.mines_at (2 * b.mines) stands.mines ∙ ap (λ (x : Book). take (2 * x.mines) (drop x.mines_at s)) e

  pub events_part : part_of s b.events_at (3 * b.events) ≡ events_of s (book_of s)
  unfolding events_of
  events_part =
      part_there s b.events_at (3 * b.events) stands.events ∙ ap (λ (x : Book). take (3 * x.events) (drop x.events_at s)) e

-- n bytes of a part that stands in s
pub part_length : (s : List ℕ) (at n : ℕ) → at + n ≤ length s → length (take n (drop at s)) ≡ n
part_length s at n h = length-take-le n (drop at s) (simp length-drop (omega arith))
