-- The slider on a book: the room stays true over any sequence of calls, so that every accepted drag gives what the flow of the first n events gives.
use mathlib.Core.Path.{◌≡◌, refl, ap, sym, ◌∙◌, subst⁻¹}
use mathlib.Core.Bool.{Bool, true, false}
use mathlib.Core.List.{List, [], ◌∷◌}
use Prim.Native.Nat.{ℕ, suc, ◌*◌, ◌/◌, ◌≤◌, ◌<◌}
use native.Mathlib.Omega.{arith}
use lib.Dec.{eqb, leb}
use lib.ListN.{length, take}
use lib.Seq.{take_all}
use native.Mathlib.Decide.{dec_lt}
use borrow.Author.Tests.{eqb-true, eqb-false, eq-eqb, ne_eqb, leb-true, le-leb, lt-leb}
use Rattle.rules.specs.declared.Book.{Book}
use Rattle.rules.specs.Words.{pick, unless}
use Rattle.rules.specs.Clicks.{Play, desk}
use Rattle.rules.specs.Mouse.{rules_ok}
use Rattle.rules.specs.Book.{book_of, events_of}
use Rattle.rules.specs.Printout.{book_board, book_desk}
use Rattle.cells.proofs.Words.{unless_passed}
use Rattle.book.specs.Written.{longest}
use Rattle.book.proofs.Accepting.{accepted_laid, accepted_longest, laid_read, book_within, part_length}
use Rattle.book.proofs.Prefix.{prefix_read}
use Rattle.printing.proofs.Beginning.{book_lawful}
use Rattle.records.specs.Entries.{records_in}
use Rattle.rules.specs.Slides.{Tape, Slots, Kept, Slide, Lent, Dragged, Call, drag, reset, flow_number, run_to, emptied, slot_for, slide_to, book_tape, book_slots, lent_fits_of, room_fits, drag_refusal, dragged, undragged, drag_by, drag_of, open_of, after_call, after_calls}
use Rattle.slides.specs.Faithful.{RoomTrue, Faithful}
use Rattle.slides.proofs.Slides.{by_cases, emptied_true, slide_true, slide_same, slide_start, slot_kept, slot_before, slot_largest, slide_before}
use Rattle.drags.specs.Same.{from_the_start, Slid}
use Rattle.drags.proofs.Drags.{faithful, run_flow}

-- ---- the refusals in their places ------------------------------------------------------------------------------------------------------

-- what an accepted drag was given
pub record Accepted (b : Book) (n k long : ℕ) (l : Lent) : Type 0 where
  pub book : b.number ≡ 0
  pub lent : lent_fits_of b.settings l ≡ true
  pub there : n ≤ b.events
  pub some : 1 ≤ k
  pub room : room_fits b.settings long ≡ true

module _ (b : Book) (n k long : ℕ) (l : Lent) where
  pub drag_accepted : drag_refusal b n k long l ≡ 0 → Accepted b n k long l
  unfolding drag_refusal
  drag_accepted e =
      by_cases (eqb b.number 0)
      (λ y.
      let a = unless_passed 20 (lent_fits_of b.settings l) (unless 70 (leb n b.events) (unless 71 (leb 1 k) (unless 72 (room_fits b.settings long) 0))) (simp y at e) in
      let c = unless_passed 69 (leb n b.events) (unless 71 (leb 1 k) (unless 72 (room_fits b.settings long) 0)) a.1 in
      let d = unless_passed 70 (leb 1 k) (unless 72 (room_fits b.settings long) 0) c.1 in
      let f = unless_passed 71 (room_fits b.settings long) 0 d.1 in
      record { book = eqb-true b.number 0 y; lent = a.0; there = leb-true n b.events c.0; some = leb-true 1 k d.0; room = f.0 })
      (λ y. absurd (eqb-false b.number 0 y (simp y at e)))

  -- the book's own, then 21, 70, 71, 72
  pub refused_book_lem : (b.number ≡ 0 → ⊥) → drag_refusal b n k long l ≡ b.number
  unfolding drag_refusal
  refused_book_lem z = simp (ne_eqb b.number 0 z)

  module _ (z : b.number ≡ 0) where
    pub refused_21 : lent_fits_of b.settings l ≡ false → drag_refusal b n k long l ≡ 21
    unfolding drag_refusal
    refused_21 f = simp (eq-eqb b.number 0 z, f)

    module _ (f : lent_fits_of b.settings l ≡ true) where
      pub refused_70 : b.events < n → drag_refusal b n k long l ≡ 70
      unfolding drag_refusal
      refused_70 h = simp (eq-eqb b.number 0 z, f, lt-leb n b.events h)

      pub refused_71 : n ≤ b.events → k ≡ 0 → drag_refusal b n k long l ≡ 71
      unfolding drag_refusal
      refused_71 h e = simp (eq-eqb b.number 0 z, f, le-leb n b.events h, e)

      pub refused_72 : n ≤ b.events → 1 ≤ k → room_fits b.settings long ≡ false → drag_refusal b n k long l ≡ 72
      unfolding drag_refusal
      refused_72 h p r = simp (eq-eqb b.number 0 z, f, le-leb n b.events h, le-leb 1 k p, r)

      pub accepted_drag : n ≤ b.events → 1 ≤ k → room_fits b.settings long ≡ true → drag_refusal b n k long l ≡ 0
      unfolding drag_refusal
      accepted_drag h p r = simp (eq-eqb b.number 0 z, f, le-leb n b.events h, le-leb 1 k p, r)

-- ---- a drag, accepted or refused -------------------------------------------------------------------------------------------------------

module _ (s : List ℕ) (n k : ℕ) (h : Kept) (l : Lent) where
  abbrev refusal : ℕ
  refusal = drag_refusal (book_of s) n k (length h.room) l

  pub drag_goes : refusal ≡ 0 → drag_of s n k h l ≡ dragged s (book_of s) (slide_to (book_tape s (book_of s)) (book_slots s (book_of s) (length h.room)) k n h) l.work
  unfolding drag_of drag_by
  drag_goes e = simp (eq-eqb refusal 0 e)

  -- a refusal gives all back, the slider and the room too
  pub drag_refused : (refusal ≡ 0 → ⊥) → drag_of s n k h l ≡ undragged (book_of s) refusal h l
  unfolding drag_of drag_by
  drag_refused e = simp (ne_eqb refusal 0 e)

  pub drag_number : (drag_of s n k h l).number ≡ refusal
  drag_number =
      by_cases (eqb refusal 0)
      (λ y. let e = eqb-true refusal 0 y in ap (λ (o : Dragged). o.number) (drag_goes e) ∙ sym e)
      (λ y. ap (λ (o : Dragged). o.number) (drag_refused (eqb-false refusal 0 y)))

-- whatever the room holds, no drag starts after n
pub drag_before : (s : List ℕ) (n k : ℕ) (h : Kept) (l : Lent) → (drag_of s n k h l).start ≤ n
drag_before s n k h l =
    by_cases (eqb (refusal s n k h l) 0)
    (λ y.
    subst⁻¹ (λ (o : Dragged). o.start ≤ n) (drag_goes s n k h l (eqb-true (refusal s n k h l) 0 y))
    (slide_before (book_tape s (book_of s)) (book_slots s (book_of s) (length h.room)) k n h))
    (λ y. subst⁻¹ (λ (o : Dragged). o.start ≤ n) (drag_refused s n k h l (eqb-false (refusal s n k h l) 0 y)) (omega arith))

-- ---- any sequence of calls -------------------------------------------------------------------------------------------------------------

module _ (s : List ℕ) where
  pub book_ruled : (book_of s).number ≡ 0 → rules_ok (book_of s).settings.rules ≡ true
  book_ruled z = let l = accepted_laid s z in subst⁻¹ (λ (x : Book). rules_ok x.settings.rules ≡ true) (laid_read s l) l.settings.rules

  pub book_records : records_in (events_of s (book_of s)) ≡ (book_of s).events
  unfolding events_of
  book_records = let l = part_length s (book_of s).events_at (3 * (book_of s).events) (book_within s).events in omega arith

module _ (s : List ℕ) (k : ℕ) (room : List ℕ) (z : (book_of s).number ≡ 0) (pos : 1 ≤ k) where
  abbrev t : Tape
  t = book_tape s (book_of s)

  abbrev slots : Slots
  slots = book_slots s (book_of s) (length room)

  abbrev True : Kept → Type 0
  True h = RoomTrue t slots k (length room) h

  book_faithful : Faithful t slots (length room)
  book_faithful =
      faithful (book_board s (book_of s)) (events_of s (book_of s)) (book_desk s (book_of s)) (book_lawful s (book_of s) refl z) refl (book_ruled s z) (length room)

  call_true : (c : Call) (h : Kept) → True h → True (after_call s k c h)
  unfolding after_call
  call_true (drag n l) h r =
      by_cases (eqb (drag_refusal (book_of s) n k (length h.room) l) 0)
      (λ y.
      subst⁻¹ (λ (o : Dragged). True o.kept) (drag_goes s n k h l (eqb-true (drag_refusal (book_of s) n k (length h.room) l) 0 y))
      (subst⁻¹ (λ (x : ℕ). True (slide_to t (book_slots s (book_of s) x) k n h).glided.kept) r.long (slide_true t slots k (length room) pos book_faithful n h r)))
      (λ y. subst⁻¹ (λ (o : Dragged). True o.kept) (drag_refused s n k h l (eqb-false (drag_refusal (book_of s) n k (length h.room) l) 0 y)) r)
  call_true reset h r = emptied_true t slots k (length room) pos book_faithful h.room r.long

  calls_true : (cs : List Call) (h : Kept) → True h → True (after_calls s k cs h)
  unfolding after_calls
  calls_true [] h r = r
  calls_true (c ∷ cs) h r = calls_true cs (after_call s k c h) (call_true c h r)

  -- THE LAW room-true: after any sequence of calls from an opening, slot j below the number kept holds the desk after (j + 1) k accepted events
  pub room_true : (cs : List Call) → True (after_calls s k cs (emptied room))
  room_true cs = calls_true cs (emptied room) (emptied_true t slots k (length room) pos book_faithful room refl)

  slides_slid : (n : ℕ) (h : Kept) (l : Lent) → True h → n ≤ (book_of s).events → Slid s k n h (dragged s (book_of s) (slide_to t slots k n h) l.work)
  slides_slid n h l r there =
      let w = slide_same t slots k (length room) pos book_faithful n h r in
      let e = book_records s in
      let f : run_to t n ≡ from_the_start s n = run_flow (book_board s (book_of s)) (events_of s (book_of s)) (book_desk s (book_of s)) n (omega arith) in
      record {
        answered = w.number ∙ ap flow_number f;
        left = w.desk ∙ ap (λ (o : Play). o.desk) f;
        slot = slot_for t slots k n h.count;
        start = slide_start t slots k (length room) pos book_faithful n h r;
        kept = slot_kept t slots k n h.count;
        before = slot_before t slots k n h.count;
        largest = λ j. slot_largest t slots k n h.count j pos;
      }

-- THE LAW slides-same: for every book, k, room and sequence of calls from an opening, each with whatever is lent, resets among them, an accepted drag
-- gives the answer, position, shown board and bits of playing the first n events from the start, and starts as said
pub slides_same : (s : List ℕ) (k : ℕ) (room : List ℕ) (cs : List Call) (n : ℕ) (l : Lent) → let h = after_calls s k cs (emptied room) in
    (drag_of s n k h l).number ≡ 0 → Slid s k n h (drag_of s n k h l)
slides_same s k room cs n l e =
    let h : Kept = after_calls s k cs (emptied room) in
    let none : drag_refusal (book_of s) n k (length h.room) l ≡ 0 = sym (drag_number s n k h l) ∙ e in
    let a = drag_accepted (book_of s) n k (length h.room) l none in
    let r = room_true s k room a.book a.some cs in
    subst⁻¹ (Slid s k n h) (drag_goes s n k h l none)
    (subst⁻¹ (λ (x : ℕ). Slid s k n h (dragged s (book_of s) (slide_to (book_tape s (book_of s)) (book_slots s (book_of s) x) k n h) l.work)) r.long
    (slides_slid s k room a.book a.some n h l r a.there))

-- an opening and a reset empty the room
pub opening_empties : (s : List ℕ) → (open_of s).kept ≡ 0
opening_empties s = refl

pub reset_empties : (s : List ℕ) (k : ℕ) (h : Kept) → after_call s k reset h ≡ emptied h.room
unfolding after_call
reset_empties s k h = refl

-- ---- a book cut short ------------------------------------------------------------------------------------------------------------------

-- of a longer input one byte more than the longest book has is enough
pub prefix_open : (s : List ℕ) (m : ℕ) → longest < m → open_of (take m s) ≡ open_of s
prefix_open s m long = ap (λ (b : Book). record { number = b.number; place = b.place; kept = 0 }) (prefix_read s m long)

pub prefix_drag : (s : List ℕ) (m n k : ℕ) (h : Kept) (l : Lent) → longest < m → drag_of (take m s) n k h l ≡ drag_of s n k h l
prefix_drag s m n k h l long = either (dec_lt m (length s))
  where
    either : Dec (m < length s) → drag_of (take m s) n k h l ≡ drag_of s n k h l
    either (yes q) =
        let z : (book_of s).number ≡ 0 → ⊥ = λ e. omega (arith, accepted_longest s e) in
        let r : drag_refusal (book_of s) n k (length h.room) l ≡ (book_of s).number = refused_book_lem (book_of s) n k (length h.room) l z in
        let same : book_of (take m s) ≡ book_of s = prefix_read s m long in
        drag_refused (take m s) n k h l (λ y. z (sym r ∙ (sym (ap (λ (b : Book). drag_refusal b n k (length h.room) l) same) ∙ y)))
        ∙ (ap (λ (b : Book). undragged b (drag_refusal b n k (length h.room) l) h l) same ∙ sym (drag_refused s n k h l (λ y. z (sym r ∙ y))))
    either (no q) = ap (λ (x : List ℕ). drag_of x n k h l) (take_all m s (omega arith))
