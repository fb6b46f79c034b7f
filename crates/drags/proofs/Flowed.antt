-- A drag answers what step_flow answers: the fresh desk of an accepted book passes 20 to 264, and the first n events are whole. Assumes nothing.
use mathlib.Core.Path.{◌≡◌, refl, ap, sym, ◌∙◌, subst⁻¹}
use mathlib.Core.Bool.{Bool, true, false, ◌&&◌}
use mathlib.Core.List.{List}
use Prim.Native.Nat.{ℕ, ◌*◌, ◌/◌, ◌%◌, ◌≤◌}
use native.Mathlib.Omega.{arith}
use lib.Dec.{eqb}
use lib.ListN.{length, take}
use lib.Seq.{length-take-le}
use lib.IntN.{ℤ}
use borrow.Author.Tests.{eq-eqb}
use Rattle.rules.specs.declared.Book.{Book}
use Rattle.rules.specs.Board.{board_refusal}
use Rattle.rules.specs.Clicks.{Desk, Play}
use Rattle.rules.specs.Mouse.{rules_ok}
use Rattle.rules.specs.Calls.{Outcome, boards_fit, work_fits, mode_ok, settings_refusal, position_refusal, position_check, plays, flowed, flow_refusal, flow_of}
use Rattle.rules.specs.Book.{book_of, mines_of, events_of}
use Rattle.rules.specs.Printout.{book_board, book_desk}
use Rattle.rules.specs.Slides.{Kept, Lent, Dragged, Call, emptied, drag_of, after_calls}
use Rattle.keep.proofs.Lawful.{settings_check}
use Rattle.book.proofs.Accepting.{accepted_laid, laid_read}
use Rattle.book.proofs.Book.{accepted_numbers}
use Rattle.numbering.proofs.Numbering.{numbered_accepted}
use Rattle.printing.proofs.Beginning.{book_lawful}
use Rattle.drags.specs.Same.{from_the_start, flowed_to, Slid, AsFlowed}
use Rattle.drags.proofs.Books.{book_ruled, book_records, drag_accepted, drag_number, slides_same}

and_true : (t : Bool) → (t && true) ≡ t
and_true true = refl
and_true false = refl

module _ (s : List ℕ) (z : (book_of s).number ≡ 0) where
  abbrev B : List ℤ
  B = book_board s (book_of s)

  abbrev d : Desk
  d = book_desk s (book_of s)

  board_passes : board_refusal (book_of s).settings.rows (book_of s).settings.columns true B ≡ 0
  board_passes =
      numbered_accepted (book_of s).settings.rows (book_of s).settings.columns (mines_of s (book_of s)) B
      (accepted_numbers s B z (book_lawful s (book_of s) refl z).kept.sound.ground.mined.long)

  mode_right : mode_ok (book_of s).settings.mode ≡ true
  mode_right = let l = accepted_laid s z in subst⁻¹ (λ (x : Book). mode_ok x.settings.mode ≡ true) (laid_read s l) l.settings.mode

  settings_pass : settings_refusal (book_of s).settings true B 0 ≡ 0
  unfolding settings_refusal
  settings_pass = rw (eq-eqb _ _ board_passes, mode_right)

  book_checked : position_check B d ≡ 0
  book_checked = settings_check (book_of s).settings true B 0 d settings_pass (book_ruled s z) refl (book_lawful s (book_of s) refl z)

  module _ (n : ℕ) (there : n ≤ (book_of s).events) (work : List ℕ) (w : work_fits (book_of s).settings work ≡ true) where
    abbrev es : List ℕ
    es = take (3 * n) (events_of s (book_of s))

    whole : length es % 3 ≡ 0
    whole =
        let r = book_records s in
        let l = length-take-le (3 * n) (events_of s (book_of s)) (omega arith) in
        omega arith

    flow_passes : flow_refusal B es d work ≡ 0
    unfolding flow_refusal position_check
    flow_passes =
        let fit = boards_fit (book_of s).settings B d.shown d.bits in
        ap (λ (t : Bool). position_refusal (fit && (t && eqb (length es % 3) 0)) B d) w
        ∙ (ap (λ (t : Bool). position_refusal (fit && t) B d) (eq-eqb (length es % 3) 0 whole)
        ∙ (ap (λ (t : Bool). position_refusal t B d) (and_true fit) ∙ book_checked))

    flow_goes : flowed_to s n work ≡ flowed (plays B es d) (from_the_start s n) work
    unfolding flow_of
    flow_goes = simp (eq-eqb _ _ flow_passes)

-- THE LAW: for any sequence of calls from an opening, and any work that fits, an accepted drag is step_flow of the first n events from the fresh desk
pub drag_flows : (s : List ℕ) (k : ℕ) (room : List ℕ) (cs : List Call) (n : ℕ) (l : Lent) (work : List ℕ) → let h = after_calls s k cs (emptied room) in
    (drag_of s n k h l).number ≡ 0 → work_fits (book_of s).settings work ≡ true → AsFlowed s n work (drag_of s n k h l)
drag_flows s k room cs n l work e w =
    let h : Kept = after_calls s k cs (emptied room) in
    let a = drag_accepted (book_of s) n k (length h.room) l (sym (drag_number s n k h l) ∙ e) in
    let f = flow_goes s a.book n a.there work w in
    let y = slides_same s k room cs n l e in
    record {
      number = y.answered ∙ sym (ap (λ (o : Outcome). o.answer.number) f);
      position = ap (λ (x : Desk). x.position) y.left ∙ sym (ap (λ (o : Outcome). o.answer.position) f);
      shown = ap (λ (x : Desk). x.shown) y.left ∙ sym (ap (λ (o : Outcome). o.shown) f);
      bits = ap (λ (x : Desk). x.bits) y.left ∙ sym (ap (λ (o : Outcome). o.bits) f);
    }
