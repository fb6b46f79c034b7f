-- A written book reads back to itself, and an accepted book is the written form of what is read in it.
use mathlib.Core.Path.{◌≡◌, ◌∙◌, sym, ap, ap₂, refl, subst, subst⁻¹}
use mathlib.Core.Bool.{Bool, true, false}
use mathlib.Core.List.{List, [], ◌∷◌, ◌++◌, append_assoc}
use Prim.Native.Nat.{ℕ, zero, suc, ◌+◌, ◌*◌, ◌/◌, ◌%◌, ◌<◌, ◌≤◌}
use native.Mathlib.Omega.{arith}
use native.Mathlib.Decide.{ℕ_discrete}
use borrow.Author.Tests.{eqb-true, eq-eqb, ne_eqb}
use lib.Dec.{eqb}
use lib.ListN.{length, get_or, take, drop, length-append, length-drop, take-append-drop, get_or-append}
use lib.Seq.{get_or-take, get_or_at, get_or-append-add, take_at, drop-append-add, drop-drop, drop-cons, take_all}
use Rattle.rules.specs.declared.Settings.{Settings}
use Rattle.rules.specs.declared.Book.{Book}
use Rattle.rules.specs.Words.{pick, bit, every}
use Rattle.rules.specs.Grid.{size_ok}
use Rattle.rules.specs.Board.{mines_in, mine_cell, rises, mine_ok}
use Rattle.rules.specs.Mouse.{rules_ok}
use Rattle.rules.specs.Calls.{mode_ok}
use Rattle.rules.specs.Book.{byte_at, word_at, rules_at, settings_at, mine_count_at, book_of, mines_of, events_of}
use Rattle.book.specs.Laid.{SettingsLaid, LaidFrom, Laid, read_from, event_count_at, end_at}
use Rattle.book.specs.Written.{word, Form, old, ruled, form_of, settings_count, says_rules, settings_bytes, events_in, sections_bytes, written, Writable, Bytes}
use Rattle.cells.proofs.Words.{every_same}
use Rattle.book.proofs.Accepting.{accepted_laid, laid_read, part_length}

-- ---- two lists that agree on their first n mines pass the same tests -------------------------------------------------------------------

module _ (R C : ℕ) (xs ys : List ℕ) (n : ℕ) (same : (j : ℕ) → j < 2 * n → get_or xs j 0 ≡ get_or ys j 0) where
  cell_same : (i : ℕ) → i < n → mine_cell C xs i ≡ mine_cell C ys i
  cell_same i h = simp (same (2 * i) (omega arith), same (2 * i + 1) (omega arith))

  rises_same : (i : ℕ) → i < n → rises C xs i ≡ rises C ys i
  rises_same zero h = refl
  rises_same (suc i) h =
      let before : mine_cell C xs i ≡ mine_cell C ys i = cell_same i (omega arith) in
      let this : mine_cell C xs (suc i) ≡ mine_cell C ys (suc i) = cell_same (suc i) h in
      cc

  pub mine_same : (i : ℕ) → i < n → mine_ok R C xs i ≡ mine_ok R C ys i
  unfolding mine_ok
  mine_same i h =
      let row : get_or xs (2 * i) 0 ≡ get_or ys (2 * i) 0 = same (2 * i) (omega arith) in
      let column : get_or xs (2 * i + 1) 0 ≡ get_or ys (2 * i + 1) 0 = same (2 * i + 1) (omega arith) in
      let after : rises C xs i ≡ rises C ys i = rises_same i h in
      cc

  mines_same : every (mine_ok R C xs) n ≡ every (mine_ok R C ys) n
  mines_same = every_same (mine_ok R C xs) (mine_ok R C ys) n mine_same

-- ---- counts ----------------------------------------------------------------------------------------------------------------------------

word_back : (n : ℕ) → n % 256 + 256 * (n / 256) ≡ n
word_back n = omega arith

bit_back : (q : Bool) → eqb (bit q) 1 ≡ q
bit_back true = refl
bit_back false = refl

bit_small : (q : Bool) → bit q ≤ 1
bit_small true = omega arith
bit_small false = omega arith

-- a question byte of 0 or 1
question_back : (x : ℕ) → x ≤ 1 → bit (eqb x 1) ≡ x
question_back zero h = refl
question_back (suc zero) h = refl
question_back (suc (suc x)) h = absurd (omega arith)

-- the two bytes of a count, then the rest
word_split : (s : List ℕ) (at : ℕ) → Bytes s → at + 2 ≤ length s → drop at s ≡ word (word_at s at) ++ drop (at + 2) s
word_split s at bytes h =
    let low : byte_at s at ≡ word_at s at % 256 = omega (arith, bytes at, bytes (at + 1)) in
    let high : byte_at s (at + 1) ≡ word_at s at / 256 = omega (arith, bytes at, bytes (at + 1)) in
    let next : suc at ≡ at + 1 = omega arith in
    let last : suc (at + 1) ≡ at + 2 = omega arith in
    drop-cons s at 0 (omega arith) ∙ ap (λ (k : ℕ). byte_at s at ∷ drop k s) next
    ∙ ap (λ (t : List ℕ). byte_at s at ∷ t) (drop-cons s (at + 1) 0 (omega arith))
    ∙ ap (λ (k : ℕ). byte_at s at ∷ byte_at s (at + 1) ∷ drop k s) last
    ∙ ap (λ (b : ℕ). b ∷ byte_at s (at + 1) ∷ drop (at + 2) s) low ∙ ap (λ (b : ℕ). word_at s at % 256 ∷ b ∷ drop (at + 2) s) high

-- a count that stands where a list ends
word_there : (h : List ℕ) (n : ℕ) (rest : List ℕ) → word_at (h ++ (word n ++ rest)) (length h) ≡ n
word_there h n rest =
    let low : byte_at (h ++ (word n ++ rest)) (length h) ≡ n % 256 = get_or_at h (n % 256) (n / 256 ∷ rest) 0 (length h) refl in
    let high : byte_at (h ++ (word n ++ rest)) (length h + 1) ≡ n / 256 = get_or-append-add h (word n ++ rest) 1 0 in
    omega (arith, word_back n)

-- ---- written, then read: mines and events after bytes of any length --------------------------------------------------------------------

module _ (h : List ℕ) (f : Form) (g : Settings) (ms es : List ℕ) (w : Writable f g ms es) where
  two : 2 * mines_in ms ≡ length ms
  two = omega (arith, w.pairs)

  three : 3 * events_in es ≡ length es
  three = omega (arith, w.whole)

  -- what stands before the event count
  upto : List ℕ
  upto = h ++ (word (mines_in ms) ++ ms)

  upto_split : h ++ sections_bytes ms es ≡ upto ++ (word (events_in es) ++ es)
  unfolding upto
  upto_split = sym (append_assoc h (word (mines_in ms) ++ ms) (word (events_in es) ++ es))

  upto_length : length upto ≡ length h + 2 + length ms
  unfolding upto
  upto_length = simp length-append (omega arith)

  whole_length : length (h ++ sections_bytes ms es) ≡ length h + 4 + length ms + length es
  whole_length = simp length-append (omega arith)

  pub mine_count : word_at (h ++ sections_bytes ms es) (length h) ≡ mines_in ms
  mine_count = word_there h (mines_in ms) (ms ++ (word (events_in es) ++ es))

  pub events_place : event_count_at (h ++ sections_bytes ms es) (length h) ≡ length h + 2 + length ms
  events_place = omega (arith, mine_count, two)

  pub event_count : word_at (h ++ sections_bytes ms es) (event_count_at (h ++ sections_bytes ms es) (length h)) ≡ events_in es
  event_count = ap₂ word_at upto_split (events_place ∙ sym upto_length) ∙ word_there upto (events_in es) es

  pub mines_there : take (2 * mines_in ms) (drop (length h + 2) (h ++ sections_bytes ms es)) ≡ ms
  mines_there =
      ap (take (2 * mines_in ms)) (drop-append-add h (sections_bytes ms es) 2)
      ∙ take_at ms (word (events_in es) ++ es) (2 * mines_in ms) (sym two)

  pub events_there : take (3 * events_in es) (drop (length h + 4 + length ms) (h ++ sections_bytes ms es)) ≡ es
  events_there =
      let at : length h + 4 + length ms ≡ length upto + 2 = omega (arith, upto_length) in
      ap (take (3 * events_in es)) (ap₂ drop at upto_split ∙ drop-append-add upto (word (events_in es) ++ es) 2)
      ∙ take_all (3 * events_in es) es (omega (arith, three))

  listed : every (mine_ok g.rows g.columns (drop (length h + 2) (h ++ sections_bytes ms es))) (mines_in ms) ≡ true
  listed =
      let after : List ℕ = word (events_in es) ++ es in
      mines_same g.rows g.columns (drop (length h + 2) (h ++ sections_bytes ms es)) ms (mines_in ms)
      (λ j k. ap (λ (l : List ℕ). get_or l j 0) (drop-append-add h (sections_bytes ms es) 2) ∙ get_or-append ms after 0 j (omega (arith, two)))
      ∙ w.rising

  pub sections_ends : length (h ++ sections_bytes ms es) ≡ end_at (h ++ sections_bytes ms es) (length h)
  sections_ends = omega (arith, whole_length, events_place, event_count, three)

  pub sections_written : LaidFrom (h ++ sections_bytes ms es) (length h) g
  sections_written =
      record {
        fewer = omega (arith, mine_count, w.fewer);
        rising =
            subst (λ (n : ℕ). every (mine_ok g.rows g.columns (drop (length h + 2) (h ++ sections_bytes ms es))) n ≡ true) (sym mine_count) listed;
        few = omega (arith, event_count, w.few);
        there = omega (arith, sections_ends);
      }

-- an accepted book from its settings, and the places and the counts of its mines and its events
abbrev told : Settings → ℕ → ℕ → ℕ → ℕ → Book
told g from n at k = record { number = 0; place = 0; settings = g; mines_at = from; mines = n; events_at = at; events = k }

told_same : (g : Settings) {from from' n n' at at' k k' : ℕ} → from ≡ from' → n ≡ n' → at ≡ at' → k ≡ k' → told g from n at k ≡ told g from' n' at' k'
told_same g {from} {from'} {n} {n'} {at} {at'} {k} {k'} ef en ea ek =
    ap (λ (x : ℕ). told g x n at k) ef ∙ ap (λ (x : ℕ). told g from' x at k) en
    ∙ ap (λ (x : ℕ). told g from' n' x k) ea ∙ ap (λ (x : ℕ). told g from' n' at' x) ek

-- ---- the settings of either form -------------------------------------------------------------------------------------------------------

settings_length : (f : Form) (g : Settings) → length (settings_bytes f g) ≡ 1 + settings_count f
settings_length old g = refl
settings_length ruled g = refl

-- the mine count stands behind them
count_place : (f : Form) (g : Settings) (rest : List ℕ) → mine_count_at (settings_bytes f g ++ rest) ≡ length (settings_bytes f g)
count_place old g rest = refl
count_place ruled g rest = refl

form_back : (f : Form) (g : Settings) (rest : List ℕ) → form_of (settings_bytes f g ++ rest) ≡ f
form_back old g rest = refl
form_back ruled g rest = refl

settings_back : (f : Form) (g : Settings) (rest : List ℕ) → says_rules f g.rules ≡ true → settings_at (settings_bytes f g ++ rest) ≡ g
settings_back old g rest e =
    ap₂ (λ (q : Bool) (r : ℕ). record { rows = g.rows; columns = g.columns; mode = g.mode; question = q; rules = r })
    (bit_back g.question) (sym (eqb-true g.rules 1 e))
settings_back ruled g rest e =
    ap (λ (q : Bool). record { rows = g.rows; columns = g.columns; mode = g.mode; question = q; rules = g.rules }) (bit_back g.question)

settings_laid : (f : Form) (g : Settings) (rest : List ℕ) → size_ok g.rows g.columns ≡ true → mode_ok g.mode ≡ true
    → says_rules f g.rules ≡ true → SettingsLaid (settings_bytes f g ++ rest)
unfolding rules_ok
settings_laid old g rest size mode rules = record {
  counted = record { least = omega arith; most = omega arith; there = omega arith };
  question = bit_small g.question;
  size = size;
  mode = mode;
  rules = refl;
}
settings_laid ruled g rest size mode rules = record {
  counted = record { least = omega arith; most = omega arith; there = omega arith };
  question = bit_small g.question;
  size = size;
  mode = mode;
  rules = rules;
}

-- ---- a whole book ----------------------------------------------------------------------------------------------------------------------

module _ (f : Form) (g : Settings) (ms es : List ℕ) (w : Writable f g ms es) where
  written_settings : settings_at (written f g ms es) ≡ g
  unfolding written
  written_settings = settings_back f g (sections_bytes ms es) w.rules

  written_place : mine_count_at (written f g ms es) ≡ length (settings_bytes f g)
  unfolding written
  written_place = count_place f g (sections_bytes ms es)

  -- what is written is laid out as a book
  pub written_laid : Laid (written f g ms es)
  unfolding written
  written_laid =
      record {
        settings = settings_laid f g (sections_bytes ms es) w.size w.mode w.rules;
        sections =
            subst⁻¹ (LaidFrom (written f g ms es) (mine_count_at (written f g ms es))) written_settings
            (subst⁻¹ (λ (k : ℕ). LaidFrom (written f g ms es) k g) written_place (sections_written (settings_bytes f g) f g ms es w));
        ends = sections_ends (settings_bytes f g) f g ms es w ∙ ap (end_at (written f g ms es)) (sym written_place);
      }

  -- it reads back: the settings, and where the mines and the events stand
  pub written_read :
      book_of (written f g ms es)
      ≡ record {
        number = 0;
        place = 0;
        settings = g;
        mines_at = 3 + settings_count f;
        mines = mines_in ms;
        events_at = 5 + settings_count f + length ms;
        events = events_in es;
      }
  unfolding written
  written_read =
      let long = settings_length f g in
      let from : length (settings_bytes f g) + 2 ≡ 3 + settings_count f = omega arith in
      let at : event_count_at (written f g ms es) (length (settings_bytes f g)) + 2 ≡ 5 + settings_count f + length ms =
      omega (arith, events_place (settings_bytes f g) f g ms es w) in
      laid_read (written f g ms es) written_laid
      ∙ ap₂ (read_from (written f g ms es)) written_place written_settings
      ∙ told_same g from (mine_count (settings_bytes f g) f g ms es w) at (event_count (settings_bytes f g) f g ms es w)

  pub written_form : form_of (written f g ms es) ≡ f
  unfolding written
  written_form = form_back f g (sections_bytes ms es)

  pub written_mines : mines_of (written f g ms es) (book_of (written f g ms es)) ≡ ms
  unfolding mines_of written
  written_mines =
      let long = settings_length f g in
      let from : 3 + settings_count f ≡ length (settings_bytes f g) + 2 = omega arith in
      ap (λ (b : Book). take (2 * b.mines) (drop b.mines_at (written f g ms es))) written_read
      ∙ ap (λ (k : ℕ). take (2 * mines_in ms) (drop k (written f g ms es))) from ∙ mines_there (settings_bytes f g) f g ms es w

  pub written_events : events_of (written f g ms es) (book_of (written f g ms es)) ≡ es
  unfolding events_of written
  written_events =
      let long = settings_length f g in
      let at : 5 + settings_count f + length ms ≡ length (settings_bytes f g) + 4 + length ms = omega arith in
      ap (λ (b : Book). take (3 * b.events) (drop b.events_at (written f g ms es))) written_read
      ∙ ap (λ (k : ℕ). take (3 * events_in es) (drop k (written f g ms es))) at ∙ events_there (settings_bytes f g) f g ms es w

-- ---- read, then written: mines and events from a place on ------------------------------------------------------------------------------

module _ (s : List ℕ) (at : ℕ) (g : Settings) (l : LaidFrom s at g) where
  mine_list : List ℕ
  mine_list = take (2 * word_at s at) (drop (at + 2) s)

  records : List ℕ
  records = take (3 * word_at s (event_count_at s at)) (drop (event_count_at s at + 2) s)

  mine_list_length : length mine_list ≡ 2 * word_at s at
  unfolding mine_list
  mine_list_length = part_length s (at + 2) (2 * word_at s at) (omega (arith, l.there))

  records_length : length records ≡ 3 * word_at s (event_count_at s at)
  unfolding records
  records_length = part_length s (event_count_at s at + 2) (3 * word_at s (event_count_at s at)) (omega (arith, l.there))

  mines_back : mines_in mine_list ≡ word_at s at
  mines_back = omega (arith, mine_list_length)

  events_back : events_in records ≡ word_at s (event_count_at s at)
  events_back = omega (arith, records_length)

  still_rising : every (mine_ok g.rows g.columns mine_list) (word_at s at) ≡ true
  unfolding mine_list
  still_rising =
      mines_same g.rows g.columns mine_list (drop (at + 2) s) (word_at s at) (λ j h. get_or-take (2 * word_at s at) (drop (at + 2) s) j 0 h)
      ∙ l.rising

  laid_writable : (f : Form) → size_ok g.rows g.columns ≡ true → mode_ok g.mode ≡ true → says_rules f g.rules ≡ true → Writable f g mine_list records
  laid_writable f size mode rules =
      record {
        size = size;
        mode = mode;
        rules = rules;
        pairs = omega (arith, mine_list_length);
        rising = subst (λ (n : ℕ). every (mine_ok g.rows g.columns mine_list) n ≡ true) (sym mines_back) still_rising;
        fewer = omega (arith, mines_back, l.fewer);
        whole = omega (arith, records_length);
        few = omega (arith, events_back, l.few);
      }

  mines_split : drop (at + 2) s ≡ mine_list ++ drop (event_count_at s at) s
  unfolding mine_list
  mines_split =
      sym (take-append-drop (2 * word_at s at) (drop (at + 2) s)) ∙ ap (λ (t : List ℕ). mine_list ++ t) (drop-drop (2 * word_at s at) (at + 2) s)

  module _ (ends : length s ≡ end_at s at) where
    records_rest : drop (event_count_at s at + 2) s ≡ records
    unfolding records
    records_rest =
        sym (take_all (3 * word_at s (event_count_at s at)) (drop (event_count_at s at + 2) s) (simp length-drop (omega arith)))

    sections_back : Bytes s → drop at s ≡ sections_bytes mine_list records
    sections_back bytes =
        word_split s at bytes (omega arith)
        ∙ ap (λ (t : List ℕ). word (word_at s at) ++ t) mines_split
        ∙ ap (λ (t : List ℕ). word (word_at s at) ++ (mine_list ++ t)) (word_split s (event_count_at s at) bytes (omega arith))
        ∙ ap (λ (t : List ℕ). word (word_at s at) ++ (mine_list ++ (word (word_at s (event_count_at s at)) ++ t))) records_rest
        ∙ ap (λ (n : ℕ). word n ++ (mine_list ++ (word (word_at s (event_count_at s at)) ++ records))) (sym mines_back)
        ∙ ap (λ (k : ℕ). word (mines_in mine_list) ++ (mine_list ++ (word k ++ records))) (sym events_back)

-- the first five bytes, then the rest
five_split : (s : List ℕ) → 5 ≤ length s → s ≡ byte_at s 0 ∷ byte_at s 1 ∷ byte_at s 2 ∷ byte_at s 3 ∷ byte_at s 4 ∷ drop 5 s
five_split s h =
    drop-cons s 0 0 (omega arith) ∙ ap (λ (t : List ℕ). byte_at s 0 ∷ t) (drop-cons s 1 0 (omega arith))
    ∙ ap (λ (t : List ℕ). byte_at s 0 ∷ byte_at s 1 ∷ t) (drop-cons s 2 0 (omega arith))
    ∙ ap (λ (t : List ℕ). byte_at s 0 ∷ byte_at s 1 ∷ byte_at s 2 ∷ t) (drop-cons s 3 0 (omega arith))
    ∙ ap (λ (t : List ℕ). byte_at s 0 ∷ byte_at s 1 ∷ byte_at s 2 ∷ byte_at s 3 ∷ t) (drop-cons s 4 0 (omega arith))

-- the settings, with the question byte as its setting says it
five_said : (s : List ℕ) (n : ℕ) → SettingsLaid s → byte_at s 0 ≡ n
    → s ≡ n ∷ byte_at s 1 ∷ byte_at s 2 ∷ byte_at s 3 ∷ bit (settings_at s).question ∷ drop 5 s
five_said s n l e =
    five_split s (omega (arith, l.counted.least, l.counted.there))
    ∙ ap₂ (λ (b q : ℕ). b ∷ byte_at s 1 ∷ byte_at s 2 ∷ byte_at s 3 ∷ q ∷ drop 5 s) e (sym (question_back (byte_at s 4) l.question))

-- the settings, then what follows them
settings_split : (s : List ℕ) → SettingsLaid s → s ≡ settings_bytes (form_of s) (settings_at s) ++ drop (mine_count_at s) s
settings_split s l = go (ℕ_discrete (byte_at s 0) 5)
  where
    go : Dec (byte_at s 0 ≡ 5) → s ≡ settings_bytes (form_of s) (settings_at s) ++ drop (mine_count_at s) s
    go (yes q) =
        let front : List ℕ = byte_at s 1 ∷ byte_at s 2 ∷ byte_at s 3 ∷ bit (settings_at s).question ∷ [] in
        let rules : byte_at s 5 ≡ rules_at s = sym (simp (eq-eqb _ _ q)) in
        let form : ruled ≡ form_of s = sym (simp (eq-eqb _ _ q)) in
        five_said s 5 l q
        ∙ ap (λ (t : List ℕ). 5 ∷ (front ++ t)) (drop-cons s 5 0 (omega (arith, l.counted.there)))
        ∙ ap (λ (r : ℕ). 5 ∷ (front ++ (r ∷ drop 6 s))) rules
        ∙ ap₂ (λ (f : Form) (b : ℕ). settings_bytes f (settings_at s) ++ drop (1 + b) s) form (sym q)
    go (no q) =
        let four : byte_at s 0 ≡ 4 = omega (arith, l.counted.least, l.counted.most) in
        let form : old ≡ form_of s = sym (simp (ne_eqb _ _ q)) in
        five_said s 4 l four ∙ ap₂ (λ (f : Form) (b : ℕ). settings_bytes f (settings_at s) ++ drop (1 + b) s) form (sym four)

-- a book's form can say its rules
form_says : (s : List ℕ) → rules_ok (rules_at s) ≡ true → says_rules (form_of s) (rules_at s) ≡ true
form_says s = go (eqb (byte_at s 0) 5)
  where
    go : (t : Bool) → rules_ok (pick t (byte_at s 5) 1) ≡ true → says_rules (pick t ruled old) (pick t (byte_at s 5) 1) ≡ true
    go true e = e
    go false e = refl

-- ---- an accepted book ------------------------------------------------------------------------------------------------------------------

module _ (s : List ℕ) (e : (book_of s).number ≡ 0) where
  laid : Laid s
  laid = accepted_laid s e

  pub accepted_writable : Writable (form_of s) (book_of s).settings (mines_of s (book_of s)) (events_of s (book_of s))
  unfolding mines_of events_of mine_list records
  accepted_writable =
      subst (λ (b : Book). Writable (form_of s) b.settings (take (2 * b.mines) (drop b.mines_at s)) (take (3 * b.events) (drop b.events_at s)))
      (sym (laid_read s laid))
      (laid_writable s (mine_count_at s) (settings_at s) laid.sections (form_of s) laid.settings.size laid.settings.mode (form_says s laid.settings.rules))

  pub accepted_written : Bytes s → s ≡ written (form_of s) (book_of s).settings (mines_of s (book_of s)) (events_of s (book_of s))
  unfolding mines_of events_of mine_list records written
  accepted_written bytes =
      subst
      (λ (b : Book). s ≡ written (form_of s) b.settings (take (2 * b.mines) (drop b.mines_at s)) (take (3 * b.events) (drop b.events_at s)))
      (sym (laid_read s laid))
      (settings_split s laid.settings
      ∙ ap (λ (t : List ℕ). settings_bytes (form_of s) (settings_at s) ++ t) (sections_back s (mine_count_at s) (settings_at s) laid.sections laid.ends bytes))
