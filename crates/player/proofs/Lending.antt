-- What is lent, and what the calls leave there: enough or not, a book refused or played, and the text that is handed over. And one outcome for every input.
use mathlib.Core.Path.{◌≡◌, ◌∙◌, ap, ap₂, sym, subst, refl}
use mathlib.Core.Bool.{Bool, true, false}
use mathlib.Core.List.{List, [], ◌∷◌, ◌++◌}
use Prim.Native.Nat.{ℕ, ◌+◌, ◌/◌, ◌<◌, ◌≤◌}
use native.Mathlib.Omega.{arith}
use borrow.Author.Tests.{eq-eqb, ne_eqb, leb-true, ltb-true}
use lib.Dec.{ltb, leb, eqb}
use lib.ListN.{length, drop, take, length-append}
use lib.Seq.{take_at, length-take-le}
use lib.IntN.{ℤ}
use Rattle.rules.specs.declared.Book.{Book}
use Rattle.rules.specs.Words.{pick, over}
use Rattle.rules.specs.Lent.{work_after}
use Rattle.rules.specs.Calls.{cells_in}
use Rattle.rules.specs.Book.{book_of}
use Rattle.rules.specs.Printout.{spaced, word_line, word_refused, word_at_place, game_line, event_lines, end_lines, book_board, book_plays, book_end, printout_by, printout_of}
use Rattle.cells.proofs.Words.{and_left, and_right, one}
use Rattle.writing.specs.Put.{PutWithin}
use Rattle.writing.proofs.Putting.{put_over}
use Rattle.text.specs.Texts.{refused_text}
use Rattle.games.specs.Events.{GamePrinted}
use Rattle.player.specs.Rooms.{text_fits, enough, Enough, Printed, printed, printed_by, printed_of, PrintBookIs, Written, written, written_of, WritePrintoutIs}
use Rattle.player.proofs.Refusing.{refused_printed}

-- ---- enough ----------------------------------------------------------------------------------------------------------------------------

pub enough_means : {bytes mines shown bits work out : ℕ} → enough bytes mines shown bits work out ≡ true → Enough bytes mines shown bits work out
unfolding enough text_fits
enough_means {bytes} {mines} {shown} {bits} {work} {out} e =
    let a = and_right (leb 2048 mines) _ e in
    let b = and_right (leb 2048 shown) _ a in
    let c = and_right (leb 256 bits) _ b in
    let d = and_right (leb 16392 work) _ c in
    record {
      mine = leb-true 2048 mines (and_left (leb 2048 mines) _ e);
      cell = leb-true 2048 shown (and_left (leb 2048 shown) _ a);
      byte = leb-true 256 bits (and_left (leb 256 bits) _ b);
      room = leb-true 16392 work (and_left (leb 16392 work) _ c);
      place = ltb-true bytes 4294967296 (and_left (ltb bytes 4294967296) _ d);
      text = leb-true 172184 out (and_right (ltb bytes 4294967296) _ d);
    }

module _ (s : List ℕ) (mines : List ℤ) (shown bits work out : List ℕ) where
  pub printed_none : {t : Bool} → t ≡ enough (length s) (length mines) (length shown) (length bits) (length work) (length out) → t ≡ false
      → PrintBookIs s mines shown bits work out 0 mines shown bits work out
  unfolding printed_of
  printed_none e f = rw (sym e ∙ f)

  pub printed_some : {t : Bool} {r : ℕ} {mines' : List ℤ} {shown' bits' work' out' : List ℕ}
      → t ≡ enough (length s) (length mines) (length shown) (length bits) (length work) (length out) → t ≡ true
      → printed r mines' shown' bits' work' out' ≡ printed_by s (book_of s) mines shown bits work out
      → PrintBookIs s mines shown bits work out r mines' shown' bits' work' out'
  unfolding printed_of
  printed_some e f h = h ∙ rw (sym e ∙ f)

-- ---- a book refused, a book played -----------------------------------------------------------------------------------------------------

front_over : {A : Type 0} {front front' : List A} {n : ℕ} (l : List A) → front ≡ front' → length front ≡ n → front ++ drop n l ≡ over front' l
front_over l e k = ap₂ (λ x m. x ++ drop m l) e (sym k ∙ ap length e)

module _ (s : List ℕ) (b : Book) (e : b ≡ book_of s) (mines : List ℤ) (shown bits work out : List ℕ)
    (h : Enough (length s) (length mines) (length shown) (length bits) (length work) (length out)) where
  pub printed_refused : {r : ℕ} {out' : List ℕ} → (b.number ≡ 0 → ⊥) → PutWithin 33 (refused_text b.number b.place) 0 out out' r
      → printed r mines shown bits work out' ≡ printed_by s (book_of s) mines shown bits work out
  unfolding printed_by
  printed_refused {r} {out'} z w =
      let q = refused_printed s b e z w in
      let m = q.short in
      let l = h.text in
      let x = q.put.next in
      let n : r ≡ length (printout_of s) = omega arith in
      let o : out' ≡ over (printout_of s) out = put_over (omega arith) q.put in
      rw (n, o) (sym (simp (ne_eqb b.number 0 z)) ∙ ap (λ (y : Book). printed_by s y mines shown bits work out) e)

  module _ {cells : ℕ} (few : cells ≤ 2048) where
    pub printed_played : {r : ℕ} {mines' : List ℤ} {shown' bits' work' out' : List ℕ} → b.number ≡ 0 → GamePrinted s b work out r mines' shown' bits' work' out'
        → length mines' ≡ length (take cells mines) → length shown' ≡ length (take cells shown) → length bits' ≡ length (take ((cells + 7) / 8) bits)
        → printed r (mines' ++ drop cells mines) (shown' ++ drop cells shown) (bits' ++ drop ((cells + 7) / 8) bits) work' out' ≡ printed_by s (book_of s) mines shown bits work out
    unfolding printed_by
    printed_played {r} {mines'} {shown'} {bits'} {work'} {out'} z g km ks kb =
        let m = g.text.short in
        let l = h.text in
        let lm = h.mine in
        let ls = h.cell in
        let lb = h.byte in
        let x = g.text.put.next in
        let n : r ≡ length (printout_of s) = omega arith in
        let o : out' ≡ over (printout_of s) out = put_over (omega arith) g.text.put in
        let fm = front_over mines g.board (km ∙ length-take-le cells mines (omega arith)) in
        let fs = front_over shown g.shown (ks ∙ length-take-le cells shown (omega arith)) in
        let fb = front_over bits g.bits (kb ∙ length-take-le ((cells + 7) / 8) bits (omega arith)) in
        rw (fm, fs, fb, g.cleared, n, o) (sym (simp (eq-eqb b.number 0 z)) ∙ ap (λ (y : Book). printed_by s y mines shown bits work out) e)

-- ---- the text that is handed over ------------------------------------------------------------------------------------------------------

pub text_by : (s : List ℕ) (b : Book) (mines : List ℤ) (shown bits work out : List ℕ)
    → written (printed_by s b mines shown bits work out).answer (printed_by s b mines shown bits work out).out ≡ written (length (printout_of s)) (over (printout_of s) out)
unfolding printed_by
text_by s b mines shown bits work out = go (eqb b.number 0)
  where
    played : Printed
    played =
        printed (length (printout_of s)) (over (book_board s b) mines) (over (book_end s b).shown shown) (over (book_end s b).bits bits)
        (work_after (cells_in b.settings) work) (over (printout_of s) out)

    out_of : Bool → Printed
    out_of t = pick t played (printed (length (printout_of s)) mines shown bits work (over (printout_of s) out))

    go : (t : Bool) → written (out_of t).answer (out_of t).out ≡ written (length (printout_of s)) (over (printout_of s) out)
    go true = refl
    go false = refl

module _ (s : List ℕ) (mines : List ℤ) (shown bits work out : List ℕ) (lm : 2048 ≡ length mines) (ls : 2048 ≡ length shown) (lb : 256 ≡ length bits) (lw : 16392 ≡ length work) where
  rooms_do : enough (length s) (length mines) (length shown) (length bits) (length work) (length out) ≡ text_fits (length s) (length out)
  unfolding enough
  rooms_do = rw (← lm, ← ls, ← lb, ← lw) refl

  pub written_as : {r : ℕ} {mines' : List ℤ} {shown' bits' work' out' : List ℕ} → PrintBookIs s mines shown bits work out r mines' shown' bits' work' out'
      → WritePrintoutIs s out r out'
  unfolding printed_of written_of
  written_as h = ap (λ (o : Printed). written o.answer o.out) h ∙ rw rooms_do (go (text_fits (length s) (length out)))
    where
      out_of : Bool → Printed
      out_of t = pick t (printed_by s (book_of s) mines shown bits work out) (printed 0 mines shown bits work out)

      go : (t : Bool) → written (out_of t).answer (out_of t).out ≡ pick t (written (length (printout_of s)) (over (printout_of s) out)) (written 0 out)
      go true = text_by s (book_of s) mines shown bits work out
      go false = refl

module _ (s out : List ℕ) {out' : List ℕ} {r : ℕ} (h : WritePrintoutIs s out r out') where
  written_whole : (r ≡ 0 → ⊥) → (r ≡ length (printout_of s)) × (out' ≡ over (printout_of s) out)
  unfolding written_of
  written_whole z = go (text_fits (length s) (length out)) h
    where
      go : (t : Bool) → written r out' ≡ pick t (written (length (printout_of s)) (over (printout_of s) out)) (written 0 out)
          → (r ≡ length (printout_of s)) × (out' ≡ over (printout_of s) out)
      go true e = (ap (λ (o : Written). o.answer) e, ap (λ (o : Written). o.out) e)
      go false e = absurd (z (ap (λ (o : Written). o.answer) e))

  -- it fits its room, and it is the printout
  pub handed_fits : (r ≡ 0 → ⊥) → length out' ≡ length out → r ≤ length out'
  handed_fits z k =
      let w = written_whole z in
      let a = ap length w.1 in
      let b = length-append (printout_of s) (drop (length (printout_of s)) out) in
      let c = w.0 in
      omega arith

  pub handed_whole : (r ≡ 0 → ⊥) → take r out' ≡ printout_of s
  handed_whole z =
      let w = written_whole z in
      ap₂ (λ (n : ℕ) (l : List ℕ). take n l) w.0 w.1 ∙ take_at (printout_of s) (drop (length (printout_of s)) out) (length (printout_of s)) refl

  -- a write that failed leaves it whole in its room
  pub written_left : (r ≡ 0 → ⊥) → WritePrintoutIs s out (length (printout_of s)) out'
  written_left z = subst (λ (n : ℕ). WritePrintoutIs s out n out') (written_whole z).0 h

-- no printout is empty, so the answer 0 says that nothing was printed
pub printout_some : (s : List ℕ) → 0 < length (printout_of s)
unfolding printout_of printout_by
printout_some s = go (eqb (book_of s).number 0)
  where
    go : (t : Bool) → 0 < length (pick t
        (game_line (book_of s).settings ++ (event_lines 1 (book_plays s (book_of s)) ++ end_lines (book_board s (book_of s)) (book_end s (book_of s))))
        (word_refused ++ (spaced ((book_of s).number ∷ []) ++ word_line word_at_place ((book_of s).place ∷ []))))
    go true = omega arith
    go false = omega arith

-- ---- one outcome -----------------------------------------------------------------------------------------------------------------------

pub print_book_one : (s : List ℕ) (mines : List ℤ) (shown bits work out : List ℕ) {mines' mines'' : List ℤ} {shown' bits' work' out' shown'' bits'' work'' out'' : List ℕ} {r q : ℕ}
    → PrintBookIs s mines shown bits work out r mines' shown' bits' work' out' → PrintBookIs s mines shown bits work out q mines'' shown'' bits'' work'' out''
    → printed r mines' shown' bits' work' out' ≡ printed q mines'' shown'' bits'' work'' out''
print_book_one s mines shown bits work out h k = one h k

pub write_printout_one : (s out : List ℕ) {out' out'' : List ℕ} {r q : ℕ} → WritePrintoutIs s out r out' → WritePrintoutIs s out q out'' → written r out' ≡ written q out''
write_printout_one s out h k = one h k
