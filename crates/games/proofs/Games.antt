-- An accepted book from its beginning to its end: what each part of the printout asks is there, and the parts make the whole.
use mathlib.Core.Path.{◌≡◌, ◌∙◌, ap, ap₂, sym, refl, subst}
use mathlib.Core.List.{List, [], ◌++◌}
use Prim.Native.Nat.{ℕ, ◌+◌, ◌*◌, ◌≤◌}
use native.Mathlib.Omega.{arith}
use lib.ListN.{length, drop, replicate, length-replicate, length-append}
use lib.IntN.{ℤ}
use Rattle.rules.specs.declared.Book.{Book}
use Rattle.rules.specs.declared.Position.{Position}
use Rattle.rules.specs.declared.Settings.{Settings}
use Rattle.rules.specs.Lent.{work_room, work_after}
use Rattle.rules.specs.Clicks.{Desk, Play, desk, done}
use Rattle.rules.specs.Calls.{plays, last_play, cells_in}
use Rattle.rules.specs.Book.{book_of, mines_of, events_of, part_of}
use Rattle.rules.specs.Printout.{game_line, event_lines, end_lines, book_board, book_desk, book_end, printout_by, printout_of}
use Rattle.cells.specs.Ground.{Mined}
use Rattle.keep.specs.Kept.{LawfulAt, Follows}
use Rattle.keep.proofs.Step.{plays_follow}
use Rattle.book.specs.Written.{form_of, Writable}
use Rattle.book.proofs.Accepting.{events_part}
use Rattle.book.proofs.Writing.{accepted_writable}
use Rattle.game.specs.Core.{Blank}
use Rattle.flows.specs.Runs.{flow_on}
use Rattle.writing.specs.Put.{Put, PutWithin}
use Rattle.writing.proofs.Putting.{put_then, put_as, put_length}
use Rattle.text.specs.Rows.{RowsFit}
use Rattle.text.proofs.Printed.{printout_played}
use Rattle.games.specs.declared.Told.{Told}
use Rattle.printing.specs.Boards.{Begun, Ended}
use Rattle.games.specs.Events.{EventsFit, EventsPrinted, GamePrinted}
use Rattle.cells.proofs.Filling.{cleared_zeros}
use Rattle.printing.proofs.Beginning.{book_lawful}

-- the text of a game on a board, from a desk
abbrev game_text : Settings → List ℤ → List ℕ → Desk → List ℕ
game_text g B events d = game_line g ++ (event_lines 1 (plays B events d) ++ end_lines B (last_play (done 0 d) (plays B events d)).desk)

cleared_blank : (g : Settings) (w : List ℕ) → Blank g (replicate (work_room (cells_in g)) 0 ++ drop (work_room (cells_in g)) w)
cleared_blank g w =
    let n : ℕ = work_room (cells_in g) in
    let l = length-append (replicate n 0) (drop n w) in
    let m = length-replicate {0} {A = ℕ} n 0 in
    record { room = omega arith; zeros = cleared_zeros n w }

module _ (s : List ℕ) (b : Book) (e : b ≡ book_of s) (z : b.number ≡ 0) {p : Position} {B : List ℤ} {shown bits work₀ work : List ℕ}
    (g : Begun s b work₀ p B shown bits work) where
  pub game_lawful_lem : LawfulAt B (desk p shown bits)
  game_lawful_lem =
      subst (λ (x : Desk). LawfulAt B x) (sym g.fresh) (subst (λ (x : List ℤ). LawfulAt x (book_desk s b)) (sym g.board) (book_lawful s b e z))

  settings_are : p.settings ≡ b.settings
  settings_are = ap (λ (d : Desk). d.position.settings) g.fresh

  pub game_blank : Blank p.settings work
  game_blank =
      subst (λ (x : Settings). Blank x work) (sym settings_are) (subst (λ (x : List ℕ). Blank b.settings x) (sym g.blank) (cleared_blank b.settings work₀))

  module _ {out₀ out₁ events : List ℕ} {first : ℕ} (long : 172184 ≤ length out₀) (w : PutWithin 21 (game_line b.settings) 0 out₀ out₁ first)
      (ee : events ≡ part_of s b.events_at (3 * b.events)) where
    events_are : events ≡ events_of s b
    events_are = ee ∙ events_part s b e ∙ ap (events_of s) (sym e)

    writable : Writable (form_of s) b.settings (mines_of s b) (events_of s b)
    writable =
        subst (λ (x : Book). x.number ≡ 0 → Writable (form_of s) x.settings (mines_of s x) (events_of s x)) (sym e) (λ q. accepted_writable s q) z

    few : length events ≤ 24576
    few = let l = ap length events_are in let a = writable.whole in let f = writable.few in omega arith

    pub game_events : EventsFit events first out₁
    game_events =
        let n = w.put.next in
        let m = w.short in
        let l = put_length w.put in
        let f = few in
        record { whole = rw events_are writable.whole; few = f; fits = omega arith }

    module _ {r : Told} {shown' bits' work' out₂ : List ℕ} (y : EventsPrinted B events p shown bits work first out₁ r shown' bits' work' out₂) where
      left : desk r.position shown' bits' ≡ (flow_on B events (desk p shown bits)).desk
      left = ap (λ (o : Play). o.desk) y.outcome

      follows : Follows B (desk p shown bits) (desk r.position shown' bits')
      follows =
          subst (λ (d : Desk). Follows B (desk p shown bits) d) (sym left)
          (plays_follow B events (desk p shown bits) (done 0 (desk p shown bits)) (record { lawful = game_lawful_lem; settings = refl; told = λ t. t }))

      pub game_ends : Mined B r.position.settings.rows r.position.settings.columns
          × (Blank r.position.settings work' × RowsFit r.position.settings.rows r.position.settings.columns shown' (r.at + 131) out₂)
      game_ends =
          let ground = follows.lawful.kept.sound.ground in
          let cells = ground.mined.sized.cells in
          let n = w.put.next in
          let m = w.short in
          let l = put_length w.put in
          let k = put_length y.put in
          let f = few in
          let h = y.short in
          let i = ground.board in (
            ground.mined,
            (
              rw (follows.settings, y.same) game_blank,
              record { column = ground.mined.sized.column; cells = omega arith; fits = omega arith },
            ),
          )

      -- the three parts, one after the other
      whole_put : {out₃ : List ℕ} {q : ℕ} → Put (end_lines B (desk r.position shown' [])) r.at out₂ out₃ q → Put (printout_of s) 0 out₀ out₃ q
      unfolding printout_of
      whole_put h =
          put_as
          (ap (λ (d : Desk). game_line b.settings ++ (event_lines 1 (plays B events (desk p shown bits)) ++ end_lines B d)) left
          ∙ ap (λ (x : List ℤ). game_text b.settings x events (desk p shown bits)) g.board
          ∙ ap₂ (λ (x : List ℕ) (d : Desk). game_text b.settings (book_board s b) x d) events_are g.fresh
          ∙ sym (printout_played s b z) ∙ ap (printout_by s) e)
          (put_then w.put (put_then y.put h))

      short : {out₃ : List ℕ} {q : ℕ}
          → PutWithin (131 + 4 * (r.position.settings.rows * r.position.settings.columns)) (end_lines B (desk r.position shown' [])) r.at out₂ out₃ q
          → PutWithin 172184 (printout_of s) 0 out₀ out₃ q
      short h =
          let whole = whole_put h.put in
          let cells = follows.lawful.kept.sound.ground.mined.sized.cells in
          let a = whole.next in
          let c = h.put.next in
          let d = h.short in
          let i = w.put.next in
          let j = w.short in
          let k = y.short in
          let f = few in
          record { put = whole; short = omega arith }

      end_is : desk r.position shown' bits' ≡ book_end s b
      end_is =
          left ∙ ap (λ (x : List ℤ). (flow_on x events (desk p shown bits)).desk) g.board
          ∙ ap₂ (λ (x : List ℕ) (d : Desk). (flow_on (book_board s b) x d).desk) events_are g.fresh

      work_cleared : {work'' : List ℕ} → work'' ≡ work' → work'' ≡ work_after (cells_in b.settings) work₀
      unfolding work_after
      work_cleared e = e ∙ y.same ∙ g.blank

      pub game_printed : {out₃ work'' : List ℕ} {q : ℕ}
          → Ended (131 + 4 * (r.position.settings.rows * r.position.settings.columns)) (end_lines B (desk r.position shown' [])) r.at out₂ out₃ q work' work''
          → GamePrinted s b work₀ out₀ q B shown' bits' work'' out₃
      game_printed h =
          record {
            text = short h.put;
            board = g.board;
            shown = ap (λ (d : Desk). d.shown) end_is;
            bits = ap (λ (d : Desk). d.bits) end_is;
            cleared = work_cleared h.same;
          }
