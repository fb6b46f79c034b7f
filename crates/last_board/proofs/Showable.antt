-- The last shown board of every accepted book has its size and shows no value that is never shown.
use mathlib.Core.Path.{◌≡◌, ◌∙◌, ap, sym, refl, subst}
use mathlib.Core.Bool.{Bool, true, false, not, ◌&&◌, ◌||◌}
use mathlib.Core.List.{List}
use Prim.Native.Nat.{ℕ, ◌*◌, ◌≤◌}
use native.Mathlib.Omega.{arith}
use lib.Dec.{leb, eqb}
use lib.ListN.{length, take, drop}
use lib.Seq.{take_at}
use Rattle.rules.specs.declared.Book.{Book}
use Rattle.rules.specs.declared.Settings.{Settings}
use Rattle.rules.specs.Words.{pick}
use Rattle.rules.specs.Grid.{size_ok}
use Rattle.rules.specs.Lawful.{cell_lawful}
use Rattle.rules.specs.Clicks.{done}
use Rattle.rules.specs.Book.{book_of, events_of}
use Rattle.rules.specs.Printout.{book_board, book_desk, book_end}
use Rattle.rules.specs.Picture.{is_shown}
use Rattle.cells.proofs.Grid.{size_limits}
use Rattle.keep.specs.Kept.{Follows}
use Rattle.keep.proofs.Step.{plays_follow}
use Rattle.book.proofs.Writing.{accepted_writable}
use Rattle.printing.proofs.Beginning.{book_lawful}
use Rattle.showing.proofs.Shown.{Showable, at_all}
use Rattle.last_board.specs.Last.{Last}

-- ---- a lawful cell shows a value that can be shown ---------------------------------------------------------------------------------------

by_cases : (t u v w a b c d e f : Bool) → pick a t (pick b true (pick c true (pick d u (pick e v (pick f w false))))) ≡ true
    → (a || (b || (c || (e || (f || d))))) ≡ true
by_cases t u v w true b c d e f h = refl
by_cases t u v w false true c d e f h = refl
by_cases t u v w false false true d e f h = refl
by_cases t u v w false false false d true f h = refl
by_cases t u v w false false false d false true h = refl
by_cases t u v w false false false true false false h = refl
by_cases t u v w false false false false false false h = h

lawful_shown : (question loss : Bool) (f x : ℕ) → cell_lawful question loss f x ≡ true → is_shown x ≡ true
unfolding cell_lawful is_shown
lawful_shown question loss f x h =
    by_cases (eqb x f) question (loss && not (eqb f 15)) (loss && eqb f 15) (leb x 8) (eqb x 10) (eqb x 11) (eqb x 17) (eqb x 14) (eqb x 15) h

-- ---- the last board of an accepted book --------------------------------------------------------------------------------------------------

module _ (s : List ℕ) (b : Book) (e : b ≡ book_of s) (z : b.number ≡ 0) where
  end_follows : Follows (book_board s b) (book_desk s b) (book_end s b)
  end_follows =
      plays_follow (book_board s b) (events_of s b) (book_desk s b) (done 0 (book_desk s b)) (record { lawful = book_lawful s b e z; settings = refl; told = λ t. t })

  end_long : length (book_end s b).shown ≡ b.settings.rows * b.settings.columns
  end_long = end_follows.lawful.kept.sound.ground.board ∙ ap (λ (x : Settings). x.rows * x.columns) end_follows.settings

  pub end_showable : Showable b.settings.rows b.settings.columns (book_end s b).shown
  end_showable =
      record {
        size = subst (λ (x : Book). x.number ≡ 0 → size_ok x.settings.rows x.settings.columns ≡ true) (sym e) (λ q. (accepted_writable s q).size) z;
        long = end_long;
        values = at_all (book_end s b).shown (λ i h. lawful_shown _ _ _ _ (end_follows.lawful.kept.sound.cells i h));
      }

  -- it is what stands at the front of the room
  module _ {shown : List ℕ} (l : Last s b shown) {cells : ℕ} (k : cells ≡ b.settings.rows * b.settings.columns) where
    pub board_fits : cells ≤ length shown
    board_fits = let c = (size_limits b.settings.rows b.settings.columns end_showable.size).cells in let r = l.room in omega arith

    pub board_is : take cells shown ≡ (book_end s b).shown
    board_is = ap (take cells) l.same ∙ take_at (book_end s b).shown (drop (length (book_end s b).shown) l.before) cells (end_long ∙ sym k)
