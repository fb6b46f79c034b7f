-- What is lent to print a book of the class, and the text that is handed over; and one outcome for every input. Assumes nothing.
use mathlib.Core.Path.{◌≡◌, refl, sym, ap, ap₂, ◌∙◌, subst⁻¹, subst}
use mathlib.Core.Bool.{Bool, true, false}
use mathlib.Core.List.{List}
use Prim.Native.Nat.{ℕ, ◌<◌, ◌≤◌}
use native.Mathlib.Omega.{arith}
use borrow.Author.Tests.{ne_eqb, leb-true, ltb-true}
use lib.Dec.{ltb, leb}
use lib.ListN.{length, drop, take}
use lib.Seq.{take_at}
use lib.IntN.{ℤ}
use Rattle.rules.specs.declared.Book.{Book}
use Rattle.rules.specs.Words.{over}
use Rattle.rules.specs.Book.{refused_book, book_of}
use Rattle.cells.proofs.Words.{and_left, and_right, pick_both, one}
use Rattle.writing.specs.Put.{PutWithin}
use Rattle.writing.proofs.Putting.{put_as, put_over, put_length}
use Rattle.text.specs.Texts.{refused_text}
use Rattle.player.specs.Rooms.{text_fits, Enough, written}
use Rattle.player.proofs.Refusing.{place_within}
use Rattle.rules.specs.Noflag.{class_book_of, class_printout_by, class_printout_of}
use Rattle.noflag_board.specs.Parts.{other_mode}
use Rattle.noflag_board.proofs.Booking.{class_book}
use Rattle.noflag_player.specs.Printing.{TextPut, written_of, WritePrintoutIs}

-- ---- a refused book ----------------------------------------------------------------------------------------------------------------------

module _ (s : List ℕ) (b : Book) (e : b ≡ class_book_of s) where
  pub place_small : length s < 4294967296 → b.place < 4294967296
  place_small h =
      subst⁻¹ (λ (x : Book). x.place < 4294967296) (e ∙ class_book s)
      (pick_both (λ (x : Book). x.place < 4294967296) (other_mode s) (refused_book 25 3) (book_of s) (λ _. omega arith)
      (λ _. let l = place_within s (book_of s) refl in omega arith))

  pub refused_put : {out out' : List ℕ} {r : ℕ} → (b.number ≡ 0 → ⊥) → PutWithin 33 (refused_text b.number b.place) 0 out out' r → TextPut s out r out'
  unfolding class_printout_of class_printout_by
  refused_put z w =
      let text : refused_text b.number b.place ≡ class_printout_of s = sym (simp (ne_eqb b.number 0 z)) ∙ ap (class_printout_by s) e in
      let l = ap length text in
      let m = w.short in
      record { text = record { put = put_as text w.put; short = omega arith } }

-- ---- what fits ---------------------------------------------------------------------------------------------------------------------------

pub fits_means : {bytes out : ℕ} (t : Bool) → t ≡ text_fits bytes out → t ≡ true → (bytes < 4294967296) × (172184 ≤ out)
unfolding text_fits
fits_means {bytes} {out} t e h =
    let f = sym e ∙ h in
    (ltb-true bytes 4294967296 (and_left (ltb bytes 4294967296) _ f), leb-true 172184 out (and_right (ltb bytes 4294967296) _ f))

-- rooms of these lengths are enough
pub rooms_enough : {bytes out : ℕ} (mines : List ℤ) (shown bits work : List ℕ) → 2048 ≡ length mines → 2048 ≡ length shown → 256 ≡ length bits → 16392 ≡ length work
    → (bytes < 4294967296) × (172184 ≤ out) → Enough bytes (length mines) (length shown) (length bits) (length work) out
rooms_enough mines shown bits work lm ls lb lw h =
    record { mine = omega arith; cell = omega arith; byte = omega arith; room = omega arith; place = h.0; text = h.1 }

-- ---- the text that is handed over ----------------------------------------------------------------------------------------------------------

module _ (s out : List ℕ) (t : Bool) (e : t ≡ text_fits (length s) (length out)) where
  pub written_none : t ≡ false → WritePrintoutIs s out 0 out
  unfolding written_of
  written_none f = rw (sym e ∙ f)

  module _ (f : t ≡ true) {out' : List ℕ} {r : ℕ} (p : TextPut s out r out') where
    long : 172184 ≤ length out
    long = (fits_means t e f).1

    whole : out' ≡ over (class_printout_of s) out
    whole = let l = long in let m = p.text.short in put_over (omega arith) p.text.put

    size : r ≡ length (class_printout_of s)
    size = let n = p.text.put.next in omega arith

    pub written_all : WritePrintoutIs s out r out'
    unfolding written_of
    written_all = ap₂ written size whole ∙ rw (sym e ∙ f)

    -- a write that failed leaves it whole in its room
    pub written_left : WritePrintoutIs s out (length (class_printout_of s)) out'
    written_left = subst (λ (n : ℕ). WritePrintoutIs s out n out') size written_all

    -- it fits its room, and it is the printout
    pub handed_fits : r ≤ length out'
    handed_fits =
        let l = long in
        let m = p.text.short in
        let n = size in
        let k = put_length p.text.put in
        omega arith

    pub handed_whole : take r out' ≡ class_printout_of s
    handed_whole =
        ap₂ (λ (n : ℕ) (l : List ℕ). take n l) size whole
        ∙ take_at (class_printout_of s) (drop (length (class_printout_of s)) out) (length (class_printout_of s)) refl

-- ---- one outcome -------------------------------------------------------------------------------------------------------------------------

pub write_printout_one : (s out : List ℕ) {out' out'' : List ℕ} {r q : ℕ} → WritePrintoutIs s out r out' → WritePrintoutIs s out q out'' → written r out' ≡ written q out''
write_printout_one s out h k = one h k
