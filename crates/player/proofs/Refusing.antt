-- A refused book's place is no further than its length; an accepted book's boards are parts of what is lent.
use mathlib.Core.Path.{◌≡◌, ◌∙◌, ap, sym, refl, subst}
use mathlib.Core.Bool.{true}
use mathlib.Core.List.{List}
use Prim.Native.Nat.{ℕ, ◌+◌, ◌*◌, ◌/◌, ◌≤◌}
use native.Mathlib.Omega.{arith}
use lib.IntN.{ℤ}
use lib.ListN.{length, take}
use lib.Seq.{length-take-le}
use Rattle.rules.specs.declared.Book.{Book}
use Rattle.rules.specs.Grid.{size_ok}
use Rattle.rules.specs.Lent.{bit_bytes}
use Rattle.rules.specs.Book.{book_of}
use Rattle.rules.specs.Printout.{printout_by, printout_of}
use Rattle.cells.proofs.Grid.{size_limits}
use Rattle.book.proofs.Places.{book_placed}
use Rattle.book.proofs.Writing.{accepted_writable}
use Rattle.writing.specs.Put.{PutWithin}
use Rattle.writing.proofs.Putting.{put_as}
use Rattle.text.specs.Texts.{refused_text}
use Rattle.text.proofs.Printed.{printout_refused}
use Rattle.printing.specs.Boards.{Fit}
use Rattle.player.specs.Rooms.{Enough}

module _ (s : List ℕ) (b : Book) (e : b ≡ book_of s) where
  pub place_within : b.place ≤ length s
  place_within = let p = (book_placed s).within in let q = ap (λ (x : Book). x.place) e in omega arith

  pub refused_printed : {out out' : List ℕ} {r : ℕ} → (b.number ≡ 0 → ⊥) → PutWithin 33 (refused_text b.number b.place) 0 out out' r → PutWithin 172184 (printout_of s) 0 out out' r
  unfolding printout_of
  refused_printed h w =
      let text : refused_text b.number b.place ≡ printout_by s (book_of s) = sym (printout_refused s b h) ∙ ap (printout_by s) e in
      let l = ap length text in
      let m = w.short in
      record { put = put_as text w.put; short = omega arith }

  -- ---- the boards of an accepted book --------------------------------------------------------------------------------------------------

  module _ (z : b.number ≡ 0) {cells : ℕ} (k : cells ≡ b.settings.rows * b.settings.columns) where
    pub book_cells : cells ≤ 2048
    book_cells =
        let w = subst (λ (x : Book). x.number ≡ 0 → size_ok x.settings.rows x.settings.columns ≡ true) (sym e) (λ q. (accepted_writable s q).size) z in
        let c = (size_limits b.settings.rows b.settings.columns w).cells in
        omega arith

    pub book_fit : {bytes out : ℕ} (mines : List ℤ) (shown bits work : List ℕ) → Enough bytes (length mines) (length shown) (length bits) (length work) out
        → Fit b.settings (take cells mines) (take cells shown) (take ((cells + 7) / 8) bits) work
    book_fit mines shown bits work h =
        let c = book_cells in
        let m = h.mine in
        let n = h.cell in
        let o = h.byte in
        let q = h.room in
        record {
          mine = length-take-le cells mines (omega arith) ∙ k;
          cell = length-take-le cells shown (omega arith) ∙ k;
          byte = length-take-le ((cells + 7) / 8) bits (omega arith) ∙ ap bit_bytes k;
          room = omega arith;
        }
