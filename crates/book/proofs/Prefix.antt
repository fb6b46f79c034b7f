-- Nothing past the longest book is read: a longer byte string and its first bytes get the same answer, so that a reader may stop there.
use mathlib.Core.Path.{◌≡◌, ◌∙◌, sym, ap, ap₂, refl}
use mathlib.Core.Bool.{Bool, true, false, ◌||◌}
use mathlib.Core.List.{List}
use Prim.Native.Nat.{ℕ, zero, suc, ◌+◌, ◌*◌, ◌<◌, ◌≤◌}
use native.Mathlib.Omega.{arith}
use native.Mathlib.Decide.{dec_lt, ℕ_discrete}
use borrow.Author.Tests.{le-leb, lt-leb, ne_eqb}
use lib.Dec.{leb, eqb}
use lib.ListN.{length, take, drop}
use lib.Seq.{length-take-le, take_all, get_or-take, get_or-drop}
use Rattle.rules.specs.declared.Settings.{Settings}
use Rattle.rules.specs.declared.Book.{Book}
use Rattle.rules.specs.Words.{pick}
use Rattle.rules.specs.Grid.{size_ok}
use Rattle.rules.specs.Board.{mine_ok}
use Rattle.rules.specs.Mouse.{rules_ok}
use Rattle.rules.specs.Calls.{mode_ok}
use Rattle.rules.specs.Book.{refused_book, or_else, reaches, byte_at, word_at, rules_at, settings_at, max_events, mines_from, mines_section, events_from, settings_section, mine_count_at, sections_of, events_end, book_ends, book_of}
use Rattle.rules.specs.Printout.{printout_by, printout_of}
use Rattle.book.specs.Written.{longest_from, longest}
use Rattle.book.proofs.Reading.{mines_too_many, mines_counted, count_bounds, end_unread, end_over}
use Rattle.book.proofs.Accepting.{events_pass, sections_short, accepted_longest}
use Rattle.book.proofs.Writing.{mine_same}
use Rattle.cells.proofs.Grid.{size_limits}

or_else_same : (n place : ℕ) (t t' : Bool) {rest rest' : Book} → t ≡ t' → (t' ≡ true → rest ≡ rest')
    → or_else n place t rest ≡ or_else n place t' rest'
or_else_same n place true true e same = same refl
or_else_same n place false false e same = refl
or_else_same n place true false e same = let z : ◌≡◌ {A = ℕ} 0 1 = cc in absurd (omega arith)
or_else_same n place false true e same = let z : ◌≡◌ {A = ℕ} 0 1 = cc in absurd (omega arith)

module _ (s : List ℕ) (at : ℕ) (g : Settings) (minesAt n : ℕ) where
  events_too_many : at + 2 ≤ length s → max_events < word_at s at → events_from s at g minesAt n ≡ refused_book 44 at
  unfolding events_from
  events_too_many h q = simp (le-leb _ _ h, lt-leb _ _ q)

module _ (s : List ℕ) (n : ℕ) (long : longest < n) (more : n ≤ length s) where
  cut : List ℕ
  cut = take n s

  cut_length : length cut ≡ n
  unfolding cut
  cut_length = length-take-le n s more

  byte_same : (i : ℕ) → i < n → byte_at cut i ≡ byte_at s i
  unfolding cut
  byte_same i h = get_or-take n s i 0 h

  word_same : (at : ℕ) → at + 1 < n → word_at cut at ≡ word_at s at
  word_same at h =
      let low : byte_at cut at ≡ byte_at s at = byte_same at (omega arith) in
      let high : byte_at cut (at + 1) ≡ byte_at s (at + 1) = byte_same (at + 1) h in
      cc

  reaches_both : (end end' : ℕ) {rest rest' : Book} → end ≤ n → end' ≤ n → rest ≡ rest' → reaches cut end rest ≡ reaches s end' rest'
  reaches_both end end' h h' e =
      let short : end ≤ length cut = omega (arith, cut_length) in
      let whole : end' ≤ length s = omega arith in
      simp (le-leb _ _ short, le-leb _ _ whole) e

  reaches_same : (end : ℕ) {rest rest' : Book} → end ≤ n → rest ≡ rest' → reaches cut end rest ≡ reaches s end rest'
  reaches_same end h e = reaches_both end end h h e

  events_same : (at : ℕ) (g : Settings) (minesAt k : ℕ) → at + 2 + 3 * max_events ≤ n → events_from cut at g minesAt k ≡ events_from s at g minesAt k
  events_same at g minesAt k h = either (dec_lt max_events (word_at s at))
    where
      counts : word_at cut at ≡ word_at s at
      counts = word_same at (omega arith)

      either : Dec (max_events < word_at s at) → events_from cut at g minesAt k ≡ events_from s at g minesAt k
      either (yes q) =
          events_too_many cut at g minesAt k (omega (arith, cut_length)) (omega (arith, counts))
          ∙ sym (events_too_many s at g minesAt k (omega arith) q)
      either (no q) =
          events_pass cut at g minesAt k (omega (arith, counts)) (omega (arith, cut_length, counts))
          ∙ ap (λ (w : ℕ). record { number = 0; place = 0; settings = g; mines_at = minesAt; mines = k; events_at = at + 2; events = w }) counts
          ∙ sym (events_pass s at g minesAt k (omega arith) (omega arith))

  mine_cut : (R C at k : ℕ) → at + 2 * k + 2 ≤ n → mine_ok R C (drop at cut) k ≡ mine_ok R C (drop at s) k
  mine_cut R C at k h =
      mine_same R C (drop at cut) (drop at s) (suc k)
      (λ j q. get_or-drop at cut j 0 ∙ byte_same (at + j) (omega arith) ∙ sym (get_or-drop at s j 0)) k (omega arith)

  list_same : (R C at left k : ℕ) (rest rest' : Book) → rest ≡ rest' → at + 2 * (k + left) ≤ n
      → mines_from cut R C at k left rest ≡ mines_from s R C at k left rest'
  unfolding mines_from
  list_same R C at zero k rest rest' e h = e
  list_same R C at (suc left) k rest rest' e h =
      reaches_same (at + 2 * k + 2) (omega arith)
      (or_else_same 42 (at + 2 * k) (mine_ok R C (drop at cut) k) (mine_ok R C (drop at s) k) (mine_cut R C at k (omega arith))
      (λ _. list_same R C at left (suc k) rest rest' e (omega arith)))

  section_same : (at : ℕ) (g : Settings) → longest_from at ≤ n → g.rows * g.columns ≤ 2048 → mines_section cut at g ≡ mines_section s at g
  section_same at g h small = either (dec_lt (word_at s at) (g.rows * g.columns))
    where
      counts : word_at cut at ≡ word_at s at
      counts = word_same at (omega arith)

      either : Dec (word_at s at < g.rows * g.columns) → mines_section cut at g ≡ mines_section s at g
      either (yes q) =
          mines_counted cut at g 0 0 (omega (arith, cut_length)) (omega (arith, counts))
          ∙ ap (λ (w : ℕ). mines_from cut g.rows g.columns (at + 2) 0 w (events_from cut (at + 2 + 2 * w) g (at + 2) w)) counts
          ∙ list_same g.rows g.columns (at + 2) (word_at s at) 0 _ _ (events_same (at + 2 + 2 * word_at s at) g (at + 2) (word_at s at) (omega arith)) (omega arith)
          ∙ sym (mines_counted s at g 0 0 (omega arith) q)
      either (no q) =
          mines_too_many cut at g (word_at cut at) (g.rows * g.columns) (omega (arith, cut_length)) refl refl (omega (arith, counts))
          ∙ sym (mines_too_many s at g (word_at s at) (g.rows * g.columns) (omega arith) refl refl (omega arith))

  rules_same : rules_at cut ≡ rules_at s
  rules_same = ap₂ (λ (b r : ℕ). pick (eqb b 5) r 1) (byte_same 0 (omega arith)) (byte_same 5 (omega arith))

  settings_same : settings_at cut ≡ settings_at s
  settings_same =
      let rows : byte_at cut 1 ≡ byte_at s 1 = byte_same 1 (omega arith) in
      let columns : byte_at cut 2 ≡ byte_at s 2 = byte_same 2 (omega arith) in
      let mode : byte_at cut 3 ≡ byte_at s 3 = byte_same 3 (omega arith) in
      let question : byte_at cut 4 ≡ byte_at s 4 = byte_same 4 (omega arith) in
      let rules : rules_at cut ≡ rules_at s = rules_same in
      cc

  sections_same : sections_of cut ≡ sections_of s
  unfolding sections_of settings_section
  sections_same =
      let rows : byte_at cut 1 ≡ byte_at s 1 = byte_same 1 (omega arith) in
      let columns : byte_at cut 2 ≡ byte_at s 2 = byte_same 2 (omega arith) in
      let sizes : size_ok (byte_at cut 1) (byte_at cut 2) ≡ size_ok (byte_at s 1) (byte_at s 2) = cc in
      let first : byte_at cut 0 ≡ byte_at s 0 = byte_same 0 (omega arith) in
      reaches_same 1 (omega arith)
      (or_else_same 41 0 (eqb (byte_at cut 0) 4 || eqb (byte_at cut 0) 5) (eqb (byte_at s 0) 4 || eqb (byte_at s 0) 5) (ap (λ (b : ℕ). eqb b 4 || eqb b 5) first)
      (λ count. reaches_both (mine_count_at cut) (mine_count_at s) (omega (arith, first, (count_bounds (byte_at s 0) count).1)) (omega (arith, (count_bounds (byte_at s 0) count).1))
      (or_else_same 41 4 (leb (byte_at cut 4) 1) (leb (byte_at s 4) 1) (ap (λ (b : ℕ). leb b 1) (byte_same 4 (omega arith)))
      (λ _. or_else_same 20 1 (size_ok (byte_at cut 1) (byte_at cut 2)) (size_ok (byte_at s 1) (byte_at s 2)) sizes
      (λ size. or_else_same 25 3 (mode_ok (byte_at cut 3)) (mode_ok (byte_at s 3)) (ap mode_ok (byte_same 3 (omega arith)))
      (λ _. or_else_same 45 5 (rules_ok (rules_at cut)) (rules_ok (rules_at s)) (ap rules_ok rules_same)
      (λ _. ap₂ (mines_section cut) (ap (λ (b : ℕ). 1 + b) first) settings_same
      ∙ section_same (mine_count_at s) (settings_at s) (omega (arith, (count_bounds (byte_at s 0) count).1)) (size_limits (byte_at s 1) (byte_at s 2) size).cells)))))))

  -- where the sections end before the cut, bytes are left over on both sides
  end_same : (end : ℕ) (b : Book) → (b.number ≡ 0 → end < n) → book_ends cut end b ≡ book_ends s end b
  end_same end b h = either (ℕ_discrete b.number 0)
    where
      either : Dec (b.number ≡ 0) → book_ends cut end b ≡ book_ends s end b
      either (yes z) = end_over cut end b z (omega (arith, h z, cut_length)) ∙ sym (end_over s end b z (omega (arith, h z)))
      either (no z) = end_unread cut end b z ∙ sym (end_unread s end b z)

  book_same : book_of cut ≡ book_of s
  unfolding book_of
  book_same =
      ap (λ (b : Book). book_ends cut (events_end b) b) sections_same
      ∙ end_same (events_end (sections_of s)) (sections_of s) (λ z. omega (arith, sections_short s z))

-- the first n bytes, where n is more than the longest book has, get the answer of all
pub prefix_sections : (s : List ℕ) (n : ℕ) → longest < n → sections_of (take n s) ≡ sections_of s
unfolding cut
prefix_sections s n long = either (dec_lt n (length s))
  where
    either : Dec (n < length s) → sections_of (take n s) ≡ sections_of s
    either (yes q) = sections_same s n long (omega arith)
    either (no q) = ap sections_of (take_all n s (omega arith))

pub prefix_read : (s : List ℕ) (n : ℕ) → longest < n → book_of (take n s) ≡ book_of s
unfolding cut
prefix_read s n long = either (dec_lt n (length s))
  where
    either : Dec (n < length s) → book_of (take n s) ≡ book_of s
    either (yes q) = book_same s n long (omega arith)
    either (no q) = ap book_of (take_all n s (omega arith))

-- a refused book prints nothing of its bytes
refused_printout : (s s' : List ℕ) (b : Book) → (b.number ≡ 0 → ⊥) → printout_by s b ≡ printout_by s' b
unfolding printout_by
refused_printout s s' b h = simp (ne_eqb _ _ h)

pub prefix_printout : (s : List ℕ) (n : ℕ) → longest < n → printout_of (take n s) ≡ printout_of s
unfolding printout_of
prefix_printout s n long = either (dec_lt n (length s))
  where
    too_long : n < length s → (book_of s).number ≡ 0 → ⊥
    too_long q e = omega (arith, accepted_longest s e)

    either : Dec (n < length s) → printout_by (take n s) (book_of (take n s)) ≡ printout_by s (book_of s)
    either (yes q) =
        ap (λ (b : Book). printout_by (take n s) b) (prefix_read s n long) ∙ refused_printout (take n s) s (book_of s) (too_long q)
    either (no q) = ap (λ (t : List ℕ). printout_by t (book_of t)) (take_all n s (omega arith))
