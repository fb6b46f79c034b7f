-- An accepted book of the class from its beginning to its end: what each part of the printout asks is there, and the parts make the whole.
-- Assumes nothing.
use mathlib.Core.Path.{◌≡◌, refl, sym, ap, ap₂, ◌∙◌, subst}
use mathlib.Core.List.{List, [], ◌++◌, append_assoc}
use Prim.Native.Nat.{ℕ, ◌+◌, ◌*◌, ◌/◌, ◌≤◌}
use native.Mathlib.Omega.{arith}
use borrow.Author.Tests.{eq-eqb}
use lib.ListN.{length, take, drop}
use lib.Seq.{length-take-le}
use lib.IntN.{ℤ}
use Rattle.rules.specs.declared.Book.{Book}
use Rattle.rules.specs.declared.Position.{Position}
use Rattle.rules.specs.Clicks.{Desk, Play, desk, done}
use Rattle.rules.specs.Calls.{plays, last_play}
use Rattle.rules.specs.Book.{book_of, events_of, part_of}
use Rattle.rules.specs.Printout.{game_line, event_lines, end_lines, book_board, book_desk}
use Rattle.cells.specs.Ground.{Mined}
use Rattle.keep.specs.Kept.{Follows}
use Rattle.keep.proofs.Step.{plays_follow}
use Rattle.book.proofs.Accepting.{events_part}
use Rattle.game.specs.Core.{Blank}
use Rattle.flows.specs.Runs.{flow_on}
use Rattle.writing.specs.Put.{Put, PutWithin}
use Rattle.writing.proofs.Putting.{put_then, put_as, put_length}
use Rattle.text.specs.Rows.{RowsFit}
use Rattle.printing.specs.Boards.{Begun, Ended}
use Rattle.games.specs.declared.Told.{Told}
use Rattle.games.specs.Events.{EventsFit, EventsPrinted}
use Rattle.games.proofs.Games.{game_lawful_lem, game_blank, game_events}
use Rattle.rules.specs.Noflag.{class_book_of, class_plays, class_printout_by, class_printout_of}
use Rattle.noflag_board.proofs.Booking.{accepted_book}
use Rattle.noflag_player.specs.Printing.{Free, barred_after, BarredFits, BarredPut, TextPut}
use Rattle.noflag_player.proofs.Cutting.{class_lines_lem, end_cut}

module _ (s : List ℕ) (b : Book) (e : b ≡ class_book_of s) (z : b.number ≡ 0) where
  -- it is an accepted book of the full game
  pub book_same : b ≡ book_of s
  book_same = e ∙ accepted_book s (sym (ap (λ (x : Book). x.number) e) ∙ z)

  module _ {p : Position} {B : List ℤ} {shown bits work₀ work : List ℕ} (g : Begun s b work₀ p B shown bits work)
      {out₀ out₁ events : List ℕ} {first : ℕ} (long : 172184 ≤ length out₀) (w : PutWithin 21 (game_line b.settings) 0 out₀ out₁ first)
      (ee : events ≡ part_of s b.events_at (3 * b.events)) {n : ℕ} (free : Free events n) where
    fit : EventsFit events first out₁
    fit = game_events s b book_same z g long w ee

    cut_length : length (take n events) ≡ n
    cut_length = length-take-le n events free.within

    -- the row before its first forbidden event
    pub cut_fit : EventsFit (take n events) first out₁
    cut_fit =
        let l = cut_length in
        let i = free.within in
        let f = fit.few in
        let h = fit.fits in
        record { whole = rw l free.whole; few = omega arith; fits = omega arith }

    module _ {r : Told} {shown' bits' work' out₂ : List ℕ} (y : EventsPrinted B (take n events) p shown bits work first out₁ r shown' bits' work' out₂) where
      -- the line of the forbidden one has room
      pub barred_fits : BarredFits r events n out₂
      barred_fits =
          let l = cut_length in
          let i = free.within in
          let f = fit.few in
          let h = y.short in
          let m = w.short in
          let a = w.put.next in
          let c = put_length w.put in
          let d = put_length y.put in
          record { whole = fit.whole; free = free.whole; within = i; few = f; fits = omega arith }

      left : desk r.position shown' bits' ≡ (flow_on B (take n events) (desk p shown bits)).desk
      left = ap (λ (o : Play). o.desk) y.outcome

      follows : Follows B (desk p shown bits) (desk r.position shown' bits')
      follows =
          subst (λ (d : Desk). Follows B (desk p shown bits) d) (sym left)
          (plays_follow B (take n events) (desk p shown bits) (done 0 (desk p shown bits))
          (record { lawful = game_lawful_lem s b book_same z g; settings = refl; told = λ t. t }))

      module _ {out₃ : List ℕ} {at : ℕ} (v : BarredPut r events n out₂ out₃ at) where
        -- every line fits
        pub ends : Mined B r.position.settings.rows r.position.settings.columns
            × (Blank r.position.settings work' × RowsFit r.position.settings.rows r.position.settings.columns shown' (at + 131) out₃)
        ends =
            let ground = follows.lawful.kept.sound.ground in
            let cells = ground.mined.sized.cells in
            let l = cut_length in
            let a = w.put.next in
            let m = w.short in
            let c = put_length w.put in
            let d = put_length y.put in
            let u = put_length (v.put shown' bits') in
            let f = fit.few in
            let h = y.short in
            let k = v.short in
            let i = ground.board in (
              ground.mined,
              (
                rw (follows.settings, y.same) (game_blank s b book_same z g),
                record { column = ground.mined.sized.column; cells = omega arith; fits = omega arith },
              ),
            )

        -- the four parts, one after the other
        whole : {out₄ : List ℕ} {q : ℕ} → Put (end_lines B (desk r.position shown' [])) at out₃ out₄ q → Put (class_printout_of s) 0 out₀ out₄ q
        unfolding class_printout_of class_printout_by
        whole h = put_as text (put_then w.put (put_then y.put (put_then (v.put shown' bits') h)))
          where
            d : Desk
            d = desk p shown bits

            lines : List ℕ
            lines = event_lines 1 (plays B (take n events) d)

            barred : List ℕ
            barred = event_lines (n / 3 + 1) (barred_after (drop n events) (done r.answer (desk r.position shown' bits')))

            row : event_lines 1 (class_plays B events d) ≡ lines ++ barred
            row =
                class_lines_lem B events (done 0 d) n refl free.free free.whole free.within
                ∙ ap (λ (o : Play). lines ++ event_lines (n / 3 + 1) (barred_after (drop n events) o)) (sym y.outcome)

            end : desk r.position shown' bits' ≡ (last_play (done 0 d) (class_plays B events d)).desk
            end = left ∙ (ap (λ (m : ℕ). (last_play (done 0 d) (plays B (take m events) d)).desk) free.free ∙ sym (end_cut B events (done 0 d) refl))

            events_are : events ≡ events_of s b
            events_are = ee ∙ (events_part s b book_same ∙ ap (events_of s) (sym book_same))

            game_text : List ℤ → List ℕ → Desk → List ℕ
            game_text C es x = game_line b.settings ++ (event_lines 1 (class_plays C es x) ++ end_lines C (last_play (done 0 x) (class_plays C es x)).desk)

            text : game_line b.settings ++ (lines ++ (barred ++ end_lines B (desk r.position shown' []))) ≡ class_printout_of s
            text =
                ap (λ (l : List ℕ). game_line b.settings ++ l)
                (sym (append_assoc lines barred (end_lines B (desk r.position shown' bits')))
                ∙ ap₂ (λ (l : List ℕ) (x : Desk). l ++ end_lines B x) (sym row) end)
                ∙ (ap (λ (C : List ℤ). game_text C events d) g.board
                ∙ (ap₂ (λ (es : List ℕ) (x : Desk). game_text (book_board s b) es x) events_are g.fresh
                ∙ (sym (simp (eq-eqb b.number 0 z)) ∙ ap (class_printout_by s) e)))

        pub printed : {out₄ work'' : List ℕ} {q : ℕ}
            → Ended (131 + 4 * (r.position.settings.rows * r.position.settings.columns)) (end_lines B (desk r.position shown' [])) at out₃ out₄ q work' work''
            → TextPut s out₀ q out₄
        printed h =
            let all = whole h.put.put in
            let cells = follows.lawful.kept.sound.ground.mined.sized.cells in
            let a = all.next in
            let c = h.put.put.next in
            let d = h.put.short in
            let i = w.put.next in
            let j = w.short in
            let k = y.short in
            let m = v.short in
            let l = cut_length in
            let f = fit.few in
            record { text = record { put = all; short = omega arith } }
