-- The game of an accepted book at its beginning: the board that its mine list gives, and its lawful desk.
use mathlib.Core.Path.{◌≡◌, ◌∙◌, ap, sym, refl, subst, subst⁻¹}
use mathlib.Core.Bool.{true}
use mathlib.Core.List.{List, ◌++◌}
use Prim.Native.Nat.{ℕ, ◌+◌, ◌*◌}
use borrow.Author.Tests.{eq-eqb}
use lib.ListN.{length, drop, replicate}
use lib.IntN.{ℤ}
use Rattle.rules.specs.declared.Book.{Book}
use Rattle.rules.specs.declared.Position.{Position}
use Rattle.rules.specs.Board.{numbered, numbered_at, numbering_refusal}
use Rattle.rules.specs.Lent.{work_room}
use Rattle.rules.specs.Clicks.{desk, done}
use Rattle.rules.specs.Calls.{Numbered, numbering_of, cells_in, fresh_desk}
use Rattle.rules.specs.Book.{book_of, mines_of, events_of, part_of}
use Rattle.rules.specs.Printout.{book_board, book_desk, book_end}
use Rattle.cells.specs.Ground.{Mined}
use Rattle.keep.specs.Kept.{Accepted, LawfulAt}
use Rattle.cells.proofs.Face.{values_valued}
use Rattle.keep.proofs.Lawful.{board_accepted}
use Rattle.keep.proofs.Fresh.{fresh_lawful}
use Rattle.keep.proofs.Step.{plays_follow}
use Rattle.cells.proofs.Words.{in_order_length}
use Rattle.numbering.proofs.Numbering.{numbered_accepted}
use Rattle.book.proofs.Accepting.{mines_part}
use Rattle.book.proofs.Book.{accepted_numbers}
use Rattle.printing.specs.Boards.{Begun}

numbered_cells : (R C : ℕ) (ms : List ℕ) → length (numbered R C ms) ≡ R * C
unfolding numbered
numbered_cells R C ms = in_order_length (numbered_at R C ms) (R * C)

module _ (s : List ℕ) (b : Book) (e : b ≡ book_of s) (z : b.number ≡ 0) where
  -- its mine list is refused on no board of its size
  numbers : (B : List ℤ) → length B ≡ cells_in b.settings → numbering_refusal b.settings.rows b.settings.columns (mines_of s b) B ≡ 0
  numbers B l =
      subst (λ (x : Book). x.number ≡ 0 → length B ≡ cells_in x.settings → numbering_refusal x.settings.rows x.settings.columns (mines_of s x) B ≡ 0) (sym e)
      (accepted_numbers s B) z l

  made : (B : List ℤ) → length B ≡ cells_in b.settings → (numbering_of b.settings.rows b.settings.columns (mines_of s b) B).board ≡ book_board s b
  unfolding numbering_of
  made B l = let q = numbers B l in simp (eq-eqb _ _ q)

  long : length (book_board s b) ≡ cells_in b.settings
  long = numbered_cells b.settings.rows b.settings.columns (mines_of s b)

  passed : Accepted b.settings.rows b.settings.columns true (book_board s b)
  passed =
      board_accepted b.settings.rows b.settings.columns true (book_board s b)
      (numbered_accepted b.settings.rows b.settings.columns (mines_of s b) (book_board s b) (numbers (book_board s b) long))

  -- the board is of its size
  mined : Mined (book_board s b) b.settings.rows b.settings.columns
  mined = record { sized = passed.sized; long = long; valued = values_valued (book_board s b) passed.values }

  module _ (mines : List ℤ) {mines' : List ℤ} {list : List ℕ} {n : ℕ} (fits : length mines ≡ cells_in b.settings) (l : list ≡ part_of s b.mines_at (2 * b.mines))
      (h : record { number = n; board = mines' } ≡ numbering_of b.settings.rows b.settings.columns list mines) where
    begun_board : mines' ≡ book_board s b
    begun_board =
        ap (λ (x : Numbered). x.board) h
        ∙ ap (λ (ms : List ℕ). (numbering_of b.settings.rows b.settings.columns ms mines).board) (l ∙ mines_part s b e ∙ ap (mines_of s) (sym e))
        ∙ made mines fits

    pub begun_mined : Mined mines' b.settings.rows b.settings.columns
    begun_mined = subst⁻¹ (λ (B : List ℤ). Mined B b.settings.rows b.settings.columns) begun_board mined

    pub begun : {p : Position} {work shown' bits' work' : List ℕ} {cells : ℕ} → cells ≡ cells_in b.settings
        → work' ≡ replicate (8 * cells + 8) 0 ++ drop (8 * cells + 8) work → desk p shown' bits' ≡ fresh_desk b.settings mines'
        → Begun s b work p mines' shown' bits' work'
    begun {work = work} k w d = record {
      board = begun_board;
      fresh = d ∙ ap (fresh_desk b.settings) begun_board;
      blank = w ∙ ap (λ (n : ℕ). replicate (work_room n) 0 ++ drop (work_room n) work) k;
    }

  -- its fresh desk is lawful
  pub book_lawful : LawfulAt (book_board s b) (book_desk s b)
  book_lawful = fresh_lawful (book_board s b) b.settings mined passed.numbers

  -- and so is the desk after its last event
  pub end_lawful : LawfulAt (book_board s b) (book_end s b)
  end_lawful =
      (plays_follow (book_board s b) (events_of s b) (book_desk s b) (done 0 (book_desk s b)) (record { lawful = book_lawful; settings = refl; told = λ t. t })).lawful
