-- What the reader's functions need of the format: parts, and the mines section, the settings and the end by cases.
use mathlib.Core.Path.{◌≡◌, ◌∙◌, sym, ap, ap₂, refl}
use mathlib.Core.Bool.{Bool, true, false, ◌||◌}
use mathlib.Core.List.{List, []}
use Prim.Native.Nat.{ℕ, zero, suc, ◌+◌, ◌-◌, ◌*◌, ◌<◌, ◌≤◌}
use native.Mathlib.Numerals.{add-one}
use native.Mathlib.Omega.{arith}
use native.Mathlib.Decide.{ℕ_discrete}
use borrow.Author.Tests.{lt-ltb, le-ltb, le-leb, lt-leb, eq-eqb, ne_eqb, eqb-true}
use lib.Dec.{leb, eqb}
use lib.ListN.{length, take, drop, get_or}
use lib.Seq.{get_or-drop}
use Rattle.rules.specs.declared.Settings.{Settings}
use Rattle.rules.specs.declared.Book.{Book}
use Rattle.rules.specs.Grid.{size_ok, cell_of}
use Rattle.rules.specs.Board.{mine_ok, mine_cell, rises}
use Rattle.rules.specs.Mouse.{rules_ok}
use Rattle.rules.specs.Calls.{mode_ok}
use Rattle.rules.specs.Book.{refused_book, byte_at, word_at, rules_at, settings_at, mines_from, mines_section, events_from, settings_section, mine_count_at, book_ends, part_of}
use Rattle.book.specs.Parts.{mine_fits}
use Rattle.book.specs.Laid.{Counted}

-- ---- parts -----------------------------------------------------------------------------------------------------------------------------

module _ (s : List ℕ) (at n : ℕ) where
  pub part_none : length s < at + n → part_of s at n ≡ []
  unfolding part_of
  part_none h = simp (lt-leb _ _ h)

  pub part_there : at + n ≤ length s → part_of s at n ≡ take n (drop at s)
  unfolding part_of
  part_there h = simp (le-leb _ _ h)

  pub part_cut : at + n ≤ length s → take (at + n - at) (drop at s) ≡ part_of s at n
  part_cut h =
      let e : at + n - at ≡ n = omega arith in
      ap (λ (k : ℕ). take k (drop at s)) e ∙ sym (part_there h)

-- ---- the mines section -----------------------------------------------------------------------------------------------------------------

-- the first cell that the n-th mine may have
unfoldable pub next_cell : ℕ → List ℕ → ℕ → ℕ
next_cell C ms zero = 0
next_cell C ms (suc n) = suc (mine_cell C ms n)

module _ (R C : ℕ) (s : List ℕ) (at : ℕ) where
  rises_by_next : (n : ℕ) → rises C (drop at s) n ≡ leb (next_cell C (drop at s) n) (mine_cell C (drop at s) n)
  unfolding next_cell
  rises_by_next zero = sym (le-leb 0 (mine_cell C (drop at s) 0) (omega arith))
  rises_by_next (suc n) = refl

  -- the test of one mine, from its two bytes at their place and the first cell that it may have
  pub mine_by_place : (n place next row column : ℕ) → place ≡ at + 2 * n → next ≡ next_cell C (drop at s) n
      → row ≡ get_or s place 0 → column ≡ get_or s (place + 1) 0 → mine_fits R C row column next ≡ mine_ok R C (drop at s) n
  unfolding mine_fits mine_ok
  mine_by_place n place next row column hp hn hr hc =
      let er : row ≡ get_or (drop at s) (2 * n) 0 = hr ∙ ap (λ (i : ℕ). get_or s i 0) hp ∙ sym (get_or-drop at s (2 * n) 0) in
      let ec : column ≡ get_or (drop at s) (2 * n + 1) 0 = hc ∙ ap (λ (i : ℕ). get_or s i 0) (omega arith) ∙ sym (get_or-drop at s (2 * n + 1) 0) in
      simp (er, ec, hn, rises_by_next)

  pub next_by_place : (n place row column k : ℕ) → place ≡ at + 2 * n → row ≡ get_or s place 0 → column ≡ get_or s (place + 1) 0
      → k ≡ cell_of C row column → k + 1 ≡ next_cell C (drop at s) (n + 1)
  unfolding next_cell
  next_by_place n place row column k hp hr hc hk =
      let er : row ≡ get_or (drop at s) (2 * n) 0 = hr ∙ ap (λ (i : ℕ). get_or s i 0) hp ∙ sym (get_or-drop at s (2 * n) 0) in
      let ec : column ≡ get_or (drop at s) (2 * n + 1) 0 = hc ∙ ap (λ (i : ℕ). get_or s i 0) (omega arith) ∙ sym (get_or-drop at s (2 * n + 1) 0) in
      let ek : k ≡ mine_cell C (drop at s) n = simp (hk, er, ec) in
      let one : k + 1 ≡ next_cell C (drop at s) (suc n) = next_suc (mine_cell C (drop at s) n) k ek in
      one ∙ ap (λ (i : ℕ). next_cell C (drop at s) i) (sym (add-one n))
    where
      next_suc : (m j : ℕ) → j ≡ m → j + 1 ≡ suc m
      next_suc m j e = omega arith

module _ (s : List ℕ) (R C at n left : ℕ) (rest : Book) where
  mines_short : length s < at + 2 * n + 2 → mines_from s R C at n (suc left) rest ≡ refused_book 40 (length s)
  unfolding mines_from
  mines_short h = simp (lt-leb _ _ h)

  mines_wrong : at + 2 * n + 2 ≤ length s → mine_ok R C (drop at s) n ≡ false
      → mines_from s R C at n (suc left) rest ≡ refused_book 42 (at + 2 * n)
  unfolding mines_from
  mines_wrong h e = simp (le-leb _ _ h, e)

  pub mines_right : at + 2 * n + 2 ≤ length s → mine_ok R C (drop at s) n ≡ true
      → mines_from s R C at n (suc left) rest ≡ mines_from s R C at (suc n) left rest
  unfolding mines_from
  mines_right h e = simp (le-leb _ _ h, e)

pub mines_none : (s : List ℕ) (R C at n : ℕ) (rest : Book) → mines_from s R C at n 0 rest ≡ rest
unfolding mines_from
mines_none s R C at n rest = refl

-- n of the mines are read and right, and the reader stands at a place: what is left to read is what the section says
pub record Reached (s : List ℕ) (at : ℕ) (g : Settings) (mines place next n : ℕ) : Type 0 where
  pub upto : n ≤ mines
  pub stands : place ≡ at + 2 + 2 * n
  pub within : place ≤ length s
  pub least : next ≡ next_cell g.columns (drop (at + 2) s) n
  pub same :
      mines_section s at g
      ≡ mines_from s g.rows g.columns (at + 2) n (mines - n) (events_from s (at + 2 + 2 * mines) g (at + 2) mines)

module _ (s : List ℕ) (at : ℕ) (g : Settings) (mines cells : ℕ) where
  pub mines_short_count : length s < at + 2 → mines_section s at g ≡ refused_book 40 (length s)
  unfolding mines_section
  mines_short_count h = simp (lt-leb _ _ h)

  pub mines_too_many : at + 2 ≤ length s → mines ≡ word_at s at → cells ≡ g.rows * g.columns → cells ≤ mines
      → mines_section s at g ≡ refused_book 24 at
  unfolding mines_section
  mines_too_many h e d q =
      let no : g.rows * g.columns ≤ word_at s at = omega arith in
      simp (le-leb _ _ h, le-ltb _ _ no)

  pub mines_counted : at + 2 ≤ length s → word_at s at < g.rows * g.columns
      → mines_section s at g
      ≡ mines_from s g.rows g.columns (at + 2) 0 (word_at s at) (events_from s (at + 2 + 2 * word_at s at) g (at + 2) (word_at s at))
  unfolding mines_section
  mines_counted h q = simp (le-leb _ _ h, lt-ltb _ _ q)

  pub reached_start : at + 2 ≤ length s → mines ≡ word_at s at → cells ≡ g.rows * g.columns → mines < cells
      → Reached s at g mines (at + 2) 0 0
  unfolding mines_section next_cell
  reached_start h e d q =
      let fewer : word_at s at < g.rows * g.columns = omega arith in
      let all : word_at s at - 0 ≡ word_at s at = omega arith in
      record {
        upto = omega arith;
        stands = omega arith;
        within = h;
        least = refl;
        same = simp (le-leb _ _ h, lt-ltb _ _ fewer, e, all);
      }

module _ (s : List ℕ) (at : ℕ) (g : Settings) (mines place next n : ℕ) (now : Reached s at g mines place next n) where
  rest : Book
  rest = events_from s (at + 2 + 2 * mines) g (at + 2) mines

  pub reached_done : mines ≤ n → mines_section s at g ≡ events_from s place g (at + 2) mines
  unfolding rest
  reached_done h =
      let none : mines - n ≡ 0 = omega arith in
      let there : at + 2 + 2 * mines ≡ place = omega (arith, now.stands, now.upto) in
      now.same ∙ ap (λ (k : ℕ). mines_from s g.rows g.columns (at + 2) n k rest) none
      ∙ mines_none s g.rows g.columns (at + 2) n rest ∙ ap (λ (k : ℕ). events_from s k g (at + 2) mines) there

  one_more : n < mines → mines_section s at g ≡ mines_from s g.rows g.columns (at + 2) n (suc (mines - (n + 1))) rest
  unfolding rest
  one_more h =
      let e : mines - n ≡ suc (mines - (n + 1)) = omega arith in
      now.same ∙ ap (λ (k : ℕ). mines_from s g.rows g.columns (at + 2) n k rest) e

  pub reached_short : n < mines → length s < place + 2 → mines_section s at g ≡ refused_book 40 (length s)
  reached_short h q = one_more h ∙ mines_short s g.rows g.columns (at + 2) n (mines - (n + 1)) rest (omega (arith, now.stands))

  module _ (row column : ℕ) (h : n < mines) (fits : place + 2 ≤ length s) (hr : row ≡ get_or s place 0) (hc : column ≡ get_or s (place + 1) 0) where
    there : at + 2 + 2 * n + 2 ≤ length s
    there = omega (arith, now.stands)

    tested : mine_ok g.rows g.columns (drop (at + 2) s) n ≡ mine_fits g.rows g.columns row column next
    tested = sym (mine_by_place g.rows g.columns s (at + 2) n place next row column now.stands now.least hr hc)

    pub reached_wrong : mine_fits g.rows g.columns row column next ≡ false → mines_section s at g ≡ refused_book 42 place
    reached_wrong e =
        one_more h ∙ mines_wrong s g.rows g.columns (at + 2) n (mines - (n + 1)) rest there (tested ∙ e)
        ∙ ap (λ (p : ℕ). refused_book 42 p) (sym now.stands)

    pub reached_more : (k : ℕ) → mine_fits g.rows g.columns row column next ≡ true → k ≡ cell_of g.columns row column
        → Reached s at g mines (place + 2) (k + 1) (n + 1)
    unfolding rest
    reached_more k e d =
        record {
          upto = omega arith;
          stands = omega (arith, now.stands);
          within = fits;
          least = next_by_place g.rows g.columns s (at + 2) n place row column k now.stands hr hc d;
          same =
              one_more h ∙ mines_right s g.rows g.columns (at + 2) n (mines - (n + 1)) rest there (tested ∙ e)
              ∙ ap (λ (i : ℕ). mines_from s g.rows g.columns (at + 2) i (mines - (n + 1)) rest) (sym (add-one n));
        }

-- ---- the settings section -----------------------------------------------------------------------------------------------------------------

-- the count is 4 or 5
pub count_bounds : (b : ℕ) → (eqb b 4 || eqb b 5) ≡ true → (4 ≤ b) × (b ≤ 5)
count_bounds b e = go (eqb b 4) refl e
  where
    go : (t : Bool) → eqb b 4 ≡ t → (t || eqb b 5) ≡ true → (4 ≤ b) × (b ≤ 5)
    go true d u = let four = eqb-true b 4 d in (omega arith, omega arith)
    go false d u = let five = eqb-true b 5 u in (omega arith, omega arith)

pub bounds_count : (b : ℕ) → 4 ≤ b → b ≤ 5 → (eqb b 4 || eqb b 5) ≡ true
bounds_count b l m = go (ℕ_discrete b 4)
  where
    go : Dec (b ≡ 4) → (eqb b 4 || eqb b 5) ≡ true
    go (yes q) = simp (eq-eqb b 4 q)
    go (no q) = simp (ne_eqb b 4 q, eq-eqb b 5 (omega arith))

pub count_wrong : (s : List ℕ) (rest : Book) → 1 ≤ length s → (eqb (byte_at s 0) 4 || eqb (byte_at s 0) 5) ≡ false
    → settings_section s rest ≡ refused_book 41 0
unfolding settings_section
count_wrong s rest some wrong = simp (le-leb _ _ some, wrong)

-- the reader has found the count w
module _ (s : List ℕ) (w : ℕ) (right : (eqb (byte_at s 0) 4 || eqb (byte_at s 0) 5) ≡ true) (read : w ≡ byte_at s 0) where
  pub settings_short : (rest : Book) → 1 ≤ length s → length s < 1 + w → settings_section s rest ≡ refused_book 40 (length s)
  unfolding settings_section
  settings_short rest some short =
      let short' : length s < mine_count_at s = omega arith in
      simp (le-leb _ _ some, right, lt-leb _ _ short')

  pub settings_there : 1 + w ≤ length s → Counted s × (1 + w ≡ mine_count_at s)
  settings_there there =
      let b = count_bounds (byte_at s 0) right in
      (record { least = b.0; most = b.1; there = omega arith }, omega arith)

-- once its bytes are there
module _ (s : List ℕ) (rest : Book) (c : Counted s) where
  some : 1 ≤ length s
  some = omega (arith, c.there)

  count : (eqb (byte_at s 0) 4 || eqb (byte_at s 0) 5) ≡ true
  count = bounds_count (byte_at s 0) c.least c.most

  pub question_wrong : leb (byte_at s 4) 1 ≡ false → settings_section s rest ≡ refused_book 41 4
  unfolding settings_section
  question_wrong question = simp (le-leb _ _ some, count, le-leb _ _ c.there, question)

  module _ (question : leb (byte_at s 4) 1 ≡ true) where
    pub size_wrong : size_ok (byte_at s 1) (byte_at s 2) ≡ false → settings_section s rest ≡ refused_book 20 1
    unfolding settings_section
    size_wrong size = simp (le-leb _ _ some, count, le-leb _ _ c.there, question, size)

    module _ (size : size_ok (byte_at s 1) (byte_at s 2) ≡ true) where
      pub mode_wrong_lem : mode_ok (byte_at s 3) ≡ false → settings_section s rest ≡ refused_book 25 3
      unfolding settings_section
      mode_wrong_lem mode = simp (le-leb _ _ some, count, le-leb _ _ c.there, question, size, mode)

      module _ (mode : mode_ok (byte_at s 3) ≡ true) where
        pub rules_wrong : rules_ok (rules_at s) ≡ false → settings_section s rest ≡ refused_book 45 5
        unfolding settings_section
        rules_wrong rules = simp (le-leb _ _ some, count, le-leb _ _ c.there, question, size, mode, rules)

        -- the rest is left to read
        pub settings_right : rules_ok (rules_at s) ≡ true → settings_section s rest ≡ rest
        unfolding settings_section
        settings_right rules = simp (le-leb _ _ some, count, le-leb _ _ c.there, question, size, mode, rules)

-- the settings as they are read, and the place of the mine count
pub mines_after : (s : List ℕ) (at rules : ℕ) {b : Book} → at ≡ mine_count_at s → rules ≡ rules_at s
    → b ≡ mines_section s at (record { rows = byte_at s 1; columns = byte_at s 2; mode = byte_at s 3; question = eqb (byte_at s 4) 1; rules = rules })
    → b ≡ mines_section s (mine_count_at s) (settings_at s)
mines_after s at rules place ruled e =
    e ∙ ap₂ (λ (k r : ℕ). mines_section s k (record { rows = byte_at s 1; columns = byte_at s 2; mode = byte_at s 3; question = eqb (byte_at s 4) 1; rules = r })) place ruled

-- ---- the end ---------------------------------------------------------------------------------------------------------------------------

module _ (s : List ℕ) (end : ℕ) (b : Book) where
  pub end_unread : (b.number ≡ 0 → ⊥) → book_ends s end b ≡ b
  unfolding book_ends
  end_unread h = simp (ne_eqb _ _ h)

  pub end_over : b.number ≡ 0 → end < length s → book_ends s end b ≡ refused_book 43 end
  unfolding book_ends
  end_over z h = simp (eq-eqb _ _ z, lt-leb _ _ h)

  pub end_right : b.number ≡ 0 → length s ≤ end → book_ends s end b ≡ b
  unfolding book_ends
  end_right z h = simp (eq-eqb _ _ z, le-leb _ _ h)
