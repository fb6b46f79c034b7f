-- A book played in rooms for every book: its printout is whole, and its last shown board stands at the front.
use mathlib.Core.Path.{◌≡◌, ◌∙◌, ap, sym, refl}
use mathlib.Core.Bool.{true}
use mathlib.Core.List.{List}
use Prim.Native.Nat.{ℕ, ◌<◌}
use native.Mathlib.Omega.{arith}
use borrow.Author.Tests.{eq-eqb, lt-ltb}
use lib.IntN.{ℤ}
use lib.ListN.{length, take, drop, length-append}
use lib.Seq.{take_at}
use Rattle.rules.specs.declared.Book.{Book}
use Rattle.rules.specs.Words.{over}
use Rattle.rules.specs.Book.{book_of}
use Rattle.rules.specs.Printout.{book_end, printout_of}
use Rattle.player.specs.Rooms.{enough, text_fits, Printed, printed, printed_by, printed_of, PrintBookIs, Written, written}
use Rattle.player.proofs.Lending.{text_by}
use Rattle.last_board.specs.Last.{Last, Ended}

module _ (s : List ℕ) (mines : List ℤ) (shown bits work text : List ℕ) (few : length s < 4294967296) (lm : 2048 ≡ length mines) (ls : 2048 ≡ length shown)
    (lb : 256 ≡ length bits) (lw : 16392 ≡ length work) (lt : 172184 ≡ length text) {r : ℕ} {mines' : List ℤ} {shown' bits' work' text' : List ℕ}
    (h : PrintBookIs s mines shown bits work text r mines' shown' bits' work' text') where
  rooms_do : enough (length s) (length mines) (length shown) (length bits) (length work) (length text) ≡ true
  unfolding enough text_fits
  rooms_do = rw (← lm, ← ls, ← lb, ← lw, ← lt) (simp (lt-ltb (length s) 4294967296 few))

  printed_is : printed r mines' shown' bits' work' text' ≡ printed_by s (book_of s) mines shown bits work text
  unfolding printed_of
  printed_is = h ∙ simp rooms_do

  text_is : written r text' ≡ written (length (printout_of s)) (over (printout_of s) text)
  text_is = ap (λ (o : Printed). written o.answer o.out) printed_is ∙ text_by s (book_of s) mines shown bits work text

  shown_by : (b : Book) → b.number ≡ 0 → (printed_by s b mines shown bits work text).shown ≡ over (book_end s b).shown shown
  unfolding printed_by
  shown_by b z = simp (eq-eqb b.number 0 z)

  pub ends : length shown' ≡ length shown → Ended s shown' text' r
  ends same =
      let n = ap (λ (o : Written). o.answer) text_is in
      let l = ap (λ (o : Written). length o.out) text_is in
      let a = length-append (printout_of s) (drop (length (printout_of s)) text) in
      record {
        fits = omega arith;
        whole =
            ap (λ (o : Written). take o.answer o.out) text_is
            ∙ take_at (printout_of s) (drop (length (printout_of s)) text) (length (printout_of s)) refl;
        last = λ b e z. record {
          before = shown;
          same = ap (λ (o : Printed). o.shown) (printed_is ∙ ap (λ (x : Book). printed_by s x mines shown bits work text) (sym e)) ∙ shown_by b z;
          room = omega arith;
        };
      }
