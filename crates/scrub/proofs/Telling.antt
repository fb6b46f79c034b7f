-- The text of a drag: how long it is, that it is written whole, and what an accepted book gives for it.
use mathlib.Core.Path.{◌≡◌, refl, ap, ap₂, sym, ◌∙◌}
use mathlib.Core.List.{List, [], ◌∷◌, ◌++◌}
use Prim.Native.Nat.{ℕ, ◌+◌, ◌*◌, ◌<◌, ◌≤◌}
use native.Mathlib.Omega.{arith}
use borrow.Author.Tests.{eq-eqb, ne_eqb}
use lib.IntN.{ℤ}
use lib.ListN.{length, take, drop, length-append}
use lib.Seq.{take_at}
use Rattle.rules.specs.declared.Settings.{Settings}
use Rattle.rules.specs.declared.Book.{Book}
use Rattle.rules.specs.Book.{book_of}
use Rattle.rules.specs.Words.{bit}
use Rattle.rules.specs.States.{game_number, mouse_number}
use Rattle.rules.specs.Printout.{line_of, word_line, word_refused, nine_counts, row_lines}
use Rattle.cells.specs.Ground.{Sized}
use Rattle.writing.specs.Put.{Room, Put, PutWithin}
use Rattle.writing.proofs.Putting.{put_reads, put_then, put_as, put_length, room_within}
use Rattle.writing.proofs.Spaced.{few_any}
use Rattle.text.specs.Rows.{RowsFit}
use Rattle.text.proofs.Lengths.{line_length, word_line_most}
use Rattle.printing.proofs.Beginning.{book_lawful}
use Rattle.player.proofs.Refusing.{place_within}
use Rattle.rules.specs.Slides.{Dragged, Opened, drag_text, drag_of}
use Rattle.drags.proofs.Books.{drag_before}
use Rattle.keeping.specs.Keeps.{kept_of}
use Rattle.slider.specs.declared.Drag.{Drag}
use Rattle.slider.specs.declared.Opening.{Opening}
use Rattle.slider.specs.Promises.{lent_of, OpenIs, DragIs}
use Rattle.scrub.specs.Told.{told, told_numbers, Tellable}

line_short : (n : ℕ) (ns : List ℕ) → length ns ≡ 15 → length (line_of (n ∷ ns)) ≤ 176
line_short n ns h = let l = line_length 10 (n ∷ ns) (omega arith) (few_any (n ∷ ns)) in omega arith

module _ (g : Settings) (o : Drag) (shown : List ℕ) where
  text_refused : (o.number ≡ 0 → ⊥) → word_line word_refused (o.number ∷ []) ≡ drag_text g (told o shown)
  unfolding drag_text
  text_refused z = sym (simp (ne_eqb o.number 0 z))

  text_told : o.number ≡ 0 → line_of (o.start ∷ told_numbers o) ++ row_lines g.rows g.columns shown ≡ drag_text g (told o shown)
  unfolding drag_text
  text_told z = sym (simp (eq-eqb o.number 0 z))

  module _ (out : List ℕ) (t : Tellable g o shown (length out)) where
    pub refused_room : (n : ℕ) → Room (word_line word_refused (n ∷ [])) 0 out
    refused_room n = let l = word_line_most word_refused (n ∷ []) in let f = t.fits in record { fits = omega arith }

    pub put_refusal : (o.number ≡ 0 → ⊥) → {out' : List ℕ} {r : ℕ} → Put (word_line word_refused (o.number ∷ [])) 0 out out' r
        → PutWithin (176 + 4 * (g.rows * g.columns)) (drag_text g (told o shown)) 0 out out' r
    put_refusal z p =
        let e = text_refused z in
        let q = ap length e in
        let l = word_line_most word_refused (o.number ∷ []) in
        record { put = put_as e p; short = omega arith }

    module _ (n : ℕ) (ns : List ℕ) (en : ns ≡ told_numbers o) where
      fifteen : length ns ≡ 15
      fifteen = let e = ap length en in let l : length (told_numbers o) ≡ 15 = refl in e ∙ l

      pub line_room : Room (line_of (n ∷ ns)) 0 out
      line_room = let f = t.fits in room_within 176 (line_short n ns fifteen) (omega arith)

      module _ {out₁ : List ℕ} {first rows columns : ℕ} (p : Put (line_of (n ∷ ns)) 0 out out₁ first) (er : rows ≡ g.rows) (ec : columns ≡ g.columns) where
        pub rows_room : RowsFit rows columns shown first out₁
        rows_room =
            let l = line_short n ns fifteen in
            let k = put_length p in
            let f = t.fits in
            let a = t.column in
            let b = t.cells in
            let q = p.next in
            rw (er, ec) (record { column = a; cells = b; fits = omega arith })

        pub put_told : o.number ≡ 0 → n ≡ o.start → {out₂ : List ℕ} {r : ℕ} → PutWithin (4 * (rows * columns)) (row_lines rows columns shown) first out₁ out₂ r
            → PutWithin (176 + 4 * (g.rows * g.columns)) (drag_text g (told o shown)) 0 out out₂ r
        put_told z es w =
            let e : line_of (n ∷ ns) ++ row_lines rows columns shown ≡ drag_text g (told o shown) = rw (er, ec, es, en) (text_told z) in
            let m : 4 * (rows * columns) ≡ 4 * (g.rows * g.columns) = rw (er, ec) in
            let l = line_short n ns fifteen in
            let c = length-append (line_of (n ∷ ns)) (row_lines rows columns shown) in
            let q = ap length e in
            let s = w.short in
            record { put = put_as e (put_then p w.put); short = omega arith }

-- what was written stands at the front
pub told_fits : {m r : ℕ} {text out out' : List ℕ} → PutWithin m text 0 out out' r → m ≤ length out → r ≤ length out'
told_fits p h = let a = p.short in let b = p.put.next in let c = put_length p.put in omega arith

pub told_whole : {m r : ℕ} {text out out' : List ℕ} → PutWithin m text 0 out out' r → m ≤ length out → take r out' ≡ text
told_whole {m} {r} {text} {out} {out'} p h =
    let s = p.short in
    let e : r ≡ length text = let n = p.put.next in omega arith in
    ap₂ (λ (n : ℕ) (l : List ℕ). take n l) e (put_reads (record { fits = omega arith }) p.put) ∙ take_at text (drop (0 + length text) out) (length text) refl

-- ---- an accepted book ------------------------------------------------------------------------------------------------------------------

module _ (s : List ℕ) (b : Book) (e : b ≡ book_of s) (z : b.number ≡ 0) where
  pub book_sized : Sized b.settings.rows b.settings.columns
  book_sized = (book_lawful s b e z).kept.sound.ground.mined.sized

  pub told_of : (kept n k : ℕ) (mines : List ℤ) (shown bits work room : List ℕ) (r : Drag) (m : List ℤ) (a c w q : List ℕ) → DragIs kept s n k mines shown bits work room r m a c w q
      → n < 4294967296 → (board : List ℕ) → b.settings.rows * b.settings.columns ≤ length board → Tellable b.settings r board 8368
  told_of kept n k mines shown bits work room r m a c w q d small board long =
      let x = drag_before s n k (kept_of kept room) (lent_of mines shown bits work) in
      let y : r.start ≡ (drag_of s n k (kept_of kept room) (lent_of mines shown bits work)).start = ap (λ (o : Dragged). o.start) d in
      let f = book_sized in
      let cells = f.cells in
      record { start = omega arith; column = f.column; cells = long; fits = omega arith }

-- the numbers as the code has them
pub numbers_are : (o : Drag) {a x x' y y' b : ℕ} → a ≡ o.answer → x ≡ x' → x' ≡ game_number o.position.game → y ≡ y' → y' ≡ mouse_number o.position.mouse → b ≡ bit o.position.middle
    → a ∷ x ∷ y ∷ b ∷ (nine_counts o.position ++ (o.position.preflags ∷ o.position.events ∷ [])) ≡ told_numbers o
numbers_are o ha hx hx' hy hy' hb = rw (ha, hx, hx', hy, hy', hb)

-- an opening that was not refused was on an accepted book
pub opened_book : (s : List ℕ) (r : Opening) → OpenIs s r → r.number ≡ 0 → (b : Book) → b ≡ book_of s → b.number ≡ 0
opened_book s r h z b e = ap (λ (x : Book). x.number) e ∙ (sym (ap (λ (o : Opened). o.number) h) ∙ z)

pub opened_place : (s : List ℕ) (r : Opening) → OpenIs s r → length s < 4294967296 → r.place < 4294967296
opened_place s r h l =
    let p = place_within s (book_of s) refl in
    let q : r.place ≡ (book_of s).place = ap (λ (o : Opened). o.place) h in
    omega arith
