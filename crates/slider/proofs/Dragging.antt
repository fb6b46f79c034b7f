-- The refusals as the code finds them, and an accepted drag as what `sliding` leaves on the board of the book.
use mathlib.Core.Path.{◌≡◌, ap, sym, ◌∙◌, subst⁻¹}
use mathlib.Core.Bool.{Bool, true, false, not, ◌&&◌, ◌||◌}
use mathlib.Core.List.{List, ◌++◌}
use Prim.Native.Nat.{ℕ, ◌+◌, ◌*◌, ◌/◌, ◌≤◌, ◌<◌}
use native.Mathlib.Omega.{arith}
use lib.Dec.{eqb, leb}
use lib.IntN.{ℤ}
use lib.ListN.{length, drop, replicate, length-append, length-replicate}
use borrow.Author.Tests.{eq-eqb, ne_eqb, le-leb, lt-leb, eqb-true, leb-true, not-true, not-false}
use Rattle.rules.specs.declared.Settings.{Settings}
use Rattle.rules.specs.declared.Position.{Position}
use Rattle.rules.specs.declared.Book.{Book}
use Rattle.rules.specs.Words.{pick}
use Rattle.rules.specs.States.{fresh_of}
use Rattle.rules.specs.Lent.{bit_bytes, work_room, work_after}
use Rattle.rules.specs.Clicks.{Desk}
use Rattle.rules.specs.Calls.{cells_in, boards_fit, work_fits, fresh_desk}
use Rattle.rules.specs.Book.{book_of, events_of, part_of}
use Rattle.rules.specs.Printout.{book_board, book_desk}
use Rattle.cells.specs.Promises.{Leaves}
use Rattle.cells.proofs.Words.{and_left, and_right}
use Rattle.cells.proofs.Filling.{cleared_zeros}
use Rattle.keep.specs.Kept.{LawfulAt}
use Rattle.game.specs.Core.{Blank}
use Rattle.book.proofs.Accepting.{events_part}
use Rattle.printing.specs.Boards.{Fit, Begun}
use Rattle.printing.proofs.Beginning.{book_lawful}
use Rattle.rules.specs.Slides.{Slide, Lent, slide_to, tape_of, slots_of, book_tape, book_slots, lent_fits_of, room_fits, drag_refusal, dragged, undragged, drag_of}
use Rattle.keeping.specs.Keeps.{kept_of}
use Rattle.sliding.specs.declared.Slid.{Slid}
use Rattle.sliding.specs.Drag.{Ready, slid, drag_to}
use Rattle.records.specs.Entries.{records_in}
use Rattle.drags.proofs.Books.{Accepted, drag_accepted, drag_goes, drag_refused, book_records}
use Rattle.slider.specs.declared.Slider.{Slider}
use Rattle.slider.specs.Promises.{lent_of, dragged_by, dragged_on, OpenIs}

-- ---- the refusals ----------------------------------------------------------------------------------------------------------------------

pub lent_are : (g : Settings) (mines : List ℤ) (shown bits work : List ℕ) {cells : ℕ} → cells ≡ g.rows * g.columns
    → ((eqb (length mines) cells && (eqb (length shown) cells && eqb (length bits) ((cells + 7) / 8))) && leb (8 * cells + 8) (length work)) ≡ lent_fits_of g (lent_of mines shown bits work)
unfolding lent_fits_of boards_fit work_fits
lent_are g mines shown bits work e = rw e

pub room_are : (g : Settings) (room : ℕ) {cells : ℕ} → cells ≡ g.rows * g.columns → (eqb room 0 || leb (56 + (cells + (cells + 7) / 8)) room) ≡ room_fits g room
unfolding room_fits
room_are g room e = rw e

module _ (b : Book) (n k room : ℕ) (l : Lent) where
  pub own_refusal : (b.number ≡ 0 → ⊥) → b.number ≡ drag_refusal b n k room l
  unfolding drag_refusal
  own_refusal z = sym (simp (ne_eqb b.number 0 z))

  module _ (z : b.number ≡ 0) {f : Bool} (ef : f ≡ lent_fits_of b.settings l) where
    pub refusal_21 : not f ≡ true → 21 ≡ drag_refusal b n k room l
    unfolding drag_refusal
    refusal_21 y = sym (simp (eq-eqb b.number 0 z, sym ef ∙ not-true f y))

    module _ (y : not f ≡ false) where
      fits : lent_fits_of b.settings l ≡ true
      fits = sym ef ∙ not-false f y

      pub refusal_70 : b.events < n → 70 ≡ drag_refusal b n k room l
      unfolding drag_refusal
      refusal_70 h = sym (simp (eq-eqb b.number 0 z, fits, lt-leb n b.events h))

      module _ (h : n ≤ b.events) where
        pub refusal_71 : k ≡ 0 → 71 ≡ drag_refusal b n k room l
        unfolding drag_refusal
        refusal_71 e = sym (simp (eq-eqb b.number 0 z, fits, le-leb n b.events h, lt-leb 1 k (omega arith)))

        module _ (some : k ≡ 0 → ⊥) {r : Bool} (er : r ≡ room_fits b.settings room) where
          one : leb 1 k ≡ true
          one = le-leb 1 k (pos k some)
            where
              pos : (k : ℕ) → (k ≡ 0 → ⊥) → 1 ≤ k
              pos k f = omega arith

          pub refusal_72 : not r ≡ true → 72 ≡ drag_refusal b n k room l
          unfolding drag_refusal
          refusal_72 q = sym (simp (eq-eqb b.number 0 z, fits, le-leb n b.events h, one, sym er ∙ not-true r q))

          pub refusal_none : not r ≡ false → 0 ≡ drag_refusal b n k room l
          unfolding drag_refusal
          refusal_none q = sym (simp (eq-eqb b.number 0 z, fits, le-leb n b.events h, one, sym er ∙ not-false r q))

-- what an accepted call lends fits
pub lent_fit : (g : Settings) (mines : List ℤ) (shown bits work : List ℕ) → lent_fits_of g (lent_of mines shown bits work) ≡ true → Fit g mines shown bits work
unfolding lent_fits_of boards_fit work_fits
lent_fit g mines shown bits work e =
    let a = and_left (eqb (length mines) (cells_in g) && (eqb (length shown) (cells_in g) && eqb (length bits) (bit_bytes (cells_in g)))) (leb (work_room (cells_in g)) (length work)) e in
    let w = and_right (eqb (length mines) (cells_in g) && (eqb (length shown) (cells_in g) && eqb (length bits) (bit_bytes (cells_in g)))) (leb (work_room (cells_in g)) (length work)) e in
    let c = and_right (eqb (length mines) (cells_in g)) (eqb (length shown) (cells_in g) && eqb (length bits) (bit_bytes (cells_in g))) a in
    record {
      mine = eqb-true (length mines) (cells_in g) (and_left (eqb (length mines) (cells_in g)) (eqb (length shown) (cells_in g) && eqb (length bits) (bit_bytes (cells_in g))) a);
      cell = eqb-true (length shown) (cells_in g) (and_left (eqb (length shown) (cells_in g)) (eqb (length bits) (bit_bytes (cells_in g))) c);
      byte = eqb-true (length bits) (bit_bytes (cells_in g)) (and_right (eqb (length shown) (cells_in g)) (eqb (length bits) (bit_bytes (cells_in g))) c);
      room = leb-true (work_room (cells_in g)) (length work) w;
    }

-- ---- a drag ----------------------------------------------------------------------------------------------------------------------------

cleared_blank : (g : Settings) (w : List ℕ) → Blank g (replicate (work_room (cells_in g)) 0 ++ drop (work_room (cells_in g)) w)
cleared_blank g w =
    let n : ℕ = work_room (cells_in g) in
    let l = length-append (replicate n 0) (drop n w) in
    let m = length-replicate {0} {A = ℕ} n 0 in
    record { room = omega arith; zeros = cleared_zeros n w }

module _ (s : List ℕ) (b : Book) (e : b ≡ book_of s) (z : b.number ≡ 0) (n k : ℕ) (some : 1 ≤ k) {p : Position} {B : List ℤ} {shown bits work₀ work : List ℕ}
    (g : Begun s b work₀ p B shown bits work) where
  settings_are : p.settings ≡ b.settings
  settings_are = ap (λ (d : Desk). d.position.settings) g.fresh

  pub begun_ready : Ready B k p shown bits work
  begun_ready = record {
    fresh =
        g.fresh
        ∙ (ap (fresh_desk b.settings) (sym g.board) ∙ ap (λ (x : Settings). fresh_desk x B) (sym settings_are));
    lawful = subst⁻¹ (LawfulAt B) g.fresh (subst⁻¹ (λ (x : List ℤ). LawfulAt x (book_desk s b)) g.board (book_lawful s b e z));
    blank = subst⁻¹ (λ (x : Settings). Blank x work) settings_are (subst⁻¹ (Blank b.settings) g.blank (cleared_blank b.settings work₀));
    some = some;
  }

  module _ {events : List ℕ} (ee : events ≡ part_of s b.events_at (3 * b.events)) (kept : ℕ) (room : List ℕ) where
    events_are : events ≡ events_of s b
    events_are = ee ∙ (events_part s b e ∙ ap (events_of s) (sym e))

    pub events_there : n ≤ b.events → n ≤ records_in events
    events_there h =
        let r : records_in (events_of s b) ≡ b.events = subst⁻¹ (λ (x : Book). records_in (events_of s x) ≡ x.events) e (book_records s) in
        subst⁻¹ (λ (x : List ℕ). n ≤ records_in x) events_are (omega arith)

    drag_book : drag_to B events p.settings n k (kept_of kept room) ≡ slide_to (book_tape s b) (book_slots s b (length room)) k n (kept_of kept room)
    unfolding drag_to
    drag_book =
        ap (λ (x : Settings). slide_to (tape_of B events (fresh_desk x B)) (slots_of B x (length room)) k n (kept_of kept room)) settings_are
        ∙ (ap (λ (x : List ℤ). slide_to (tape_of x events (fresh_desk b.settings x)) (slots_of x b.settings (length room)) k n (kept_of kept room)) g.board
        ∙ ap (λ (x : List ℕ). slide_to (tape_of (book_board s b) x (book_desk s b)) (slots_of (book_board s b) b.settings (length room)) k n (kept_of kept room)) events_are)

    work_left : {work' : List ℕ} → work' ≡ work → work' ≡ work_after (cells_in b.settings) work₀
    unfolding work_after
    work_left h = h ∙ g.blank

    -- what `drag_on` answers of what `slide_to` left
    module _ (r : Slid) {shown' bits' work' room' : List ℕ} (w : Leaves (slid r shown' bits' room') (drag_to B events p.settings n k (kept_of kept room)) work work') {a : ℕ} (ea : a ≡ pick (leb 20 r.glided.answer) r.glided.answer 0) where
      went : slid r shown' bits' room' ≡ slide_to (book_tape s b) (book_slots s b (length room)) k n (kept_of kept room)
      went = w.outcome ∙ drag_book

      pub drag_done : dragged_by (record { number = 0; place = 0; start = r.start; answer = a; position = r.glided.position; slider = record { kept = r.glided.kept } }) B shown' bits' work' room'
          ≡ dragged_on s b n k (kept_of kept room) work₀
      drag_done =
          ap (λ (x : ℕ). dragged_by (record { number = 0; place = 0; start = r.start; answer = x; position = r.glided.position; slider = record { kept = r.glided.kept } }) B shown' bits' work' room') ea
          ∙ (ap (λ (x : List ℤ). dragged_by (record { number = 0; place = 0; start = r.start; answer = pick (leb 20 r.glided.answer) r.glided.answer 0; position = r.glided.position; slider = record { kept = r.glided.kept } }) x shown' bits' work' room') g.board
          ∙ (ap (λ (x : List ℕ). dragged_by (record { number = 0; place = 0; start = r.start; answer = pick (leb 20 r.glided.answer) r.glided.answer 0; position = r.glided.position; slider = record { kept = r.glided.kept } }) (book_board s b) shown' bits' x room') (work_left w.same)
          ∙ ap (λ (x : Slide). dragged s b x work₀) went))

-- ---- the call --------------------------------------------------------------------------------------------------------------------------

module _ (s : List ℕ) (n k kept : ℕ) (mines : List ℤ) (shown bits work room : List ℕ) (b : Book) (e : b ≡ book_of s)
    {number : ℕ} (en : number ≡ drag_refusal b n k (length room) (lent_of mines shown bits work)) where
  abbrev l : Lent
  l = lent_of mines shown bits work

  refusal_is : number ≡ drag_refusal (book_of s) n k (length room) l
  refusal_is = en ∙ ap (λ (x : Book). drag_refusal x n k (length room) l) e

  pub call_refused : (number ≡ 0 → ⊥) → undragged b number (kept_of kept room) l ≡ drag_of s n k (kept_of kept room) l
  call_refused z =
      ap (λ (x : Book). undragged x number (kept_of kept room) l) e
      ∙ (ap (λ (x : ℕ). undragged (book_of s) x (kept_of kept room) l) refusal_is ∙ sym (drag_refused s n k (kept_of kept room) l (λ y. z (refusal_is ∙ y))))

  module _ (z : number ≡ 0) where
    pub call_accepted : Accepted b n k (length room) l
    call_accepted = drag_accepted b n k (length room) l (sym en ∙ z)

    pub call_dragged : dragged_on s b n k (kept_of kept room) work ≡ drag_of s n k (kept_of kept room) l
    call_dragged =
        ap (λ (x : Book). dragged_on s x n k (kept_of kept room) work) e ∙ sym (drag_goes s n k (kept_of kept room) l (sym refusal_is ∙ z))

-- ---- what the small functions answer ---------------------------------------------------------------------------------------------------

pub open_is : (s : List ℕ) (b : Book) → b ≡ book_of s → OpenIs s (record { number = b.number; place = b.place; slider = record { kept = 0 } })
open_is s b e = ap (λ (x : Book). record { number = x.number; place = x.place; kept = 0 }) e

pub refused_is : (b : Book) (number : ℕ) (x : Slider) {p : Position} → p ≡ fresh_of b.settings 0 → (mines : List ℤ) (shown bits work room : List ℕ)
    → dragged_by (record { number = number; place = b.place; start = 0; answer = 0; position = p; slider = x }) mines shown bits work room
    ≡ undragged b number (kept_of x.kept room) (lent_of mines shown bits work)
refused_is b number x e mines shown bits work room = rw e
