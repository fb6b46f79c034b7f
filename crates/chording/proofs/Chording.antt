-- The chord pass: a cell, a scan, and the scans, which end because one that goes on leaves fewer cells closed.
use mathlib.Core.Path.{◌≡◌, refl, ap, ap₂, sym, ◌∙◌, subst⁻¹}
use mathlib.Core.Bool.{Bool, true, false, ◌&&◌}
use mathlib.Core.List.{List, []}
use Prim.Native.Nat.{ℕ, zero, suc, ◌+◌, ◌-◌, ◌*◌, ◌<◌, ◌≤◌}
use native.Mathlib.Omega.{arith}
use native.Mathlib.Numerals.{add-one}
use borrow.Author.Tests.{eq-eqb, ne_eqb}
use lib.ListN.{length}
use lib.IntN.{ℤ}
use Rattle.rules.specs.declared.Settings.{Settings}
use Rattle.rules.specs.declared.Position.{Position}
use Rattle.rules.specs.declared.Played.{Played}
use Rattle.rules.specs.Words.{bit, rounds}
use Rattle.rules.specs.States.{is_playing}
use Rattle.rules.specs.Clicks.{Desk, Play, desk, done, rows_of, columns_of, cells_of, chord_is_useful, perform_chord}
use Rattle.rules.specs.Passes.{Scan, noted, chord_one, chord_scan, chord_round, chord_more, chord_pass}
use Rattle.cells.specs.Ground.{Valued}
use Rattle.cells.proofs.Words.{and_left, bit_le, rounds_keep, Looping, left, looping_start, looping_turn, looping_less, looping_done}
use Rattle.opening.proofs.Cost.{closed_most}
use Rattle.cells.specs.Promises.{Laid, LaidAt, PassRoomAt, closed_in, Acts}
use Rattle.chords.specs.Fell.{Fell, idle, fell}
use Rattle.chords.proofs.Steps.{chord_idle}
use Rattle.chords.proofs.Chord.{chord_fell}
use Rattle.chording.specs.declared.Scanned.{Scanned}
use Rattle.chording.specs.Seeking.{First}
use Rattle.chording.specs.Scanning.{yes, scan, Scans}

-- ---- a desk of the game that was laid ------------------------------------------------------------------------------------------------------

-- the settings, with a shown board of their size and room for the passes
pub record Sits (st : Settings) (d : Desk) : Type 0 where
  pub settings : d.position.settings ≡ st
  pub board : length d.shown ≡ st.rows * st.columns
  pub room : PassRoomAt d.position d.shown

pub sits_long : (st : Settings) (d : Desk) → Sits st d → length d.shown ≡ cells_of d
sits_long st d s = s.board ∙ ap (λ (x : Settings). x.rows * x.columns) (sym s.settings)

module _ (B : List ℤ) (p : Position) (shown work : List ℕ) (l : LaidAt B p shown work) where
  pub sits_start : PassRoomAt p shown → (bits : List ℕ) → Sits p.settings (desk p shown bits)
  sits_start r bits = record { settings = refl; board = l.fits.board; room = r }

  -- the buffers still fit
  pub laid_on : (d : Desk) (work' : List ℕ) → Sits p.settings d → work' ≡ work → LaidAt B d.position d.shown work'
  laid_on d work' s e =
      subst⁻¹ (λ (st : Settings). Laid B d.shown work' st.rows st.columns) s.settings
      (record { fits = record { mined = l.fits.mined; board = s.board; room = rw e l.fits.room }; zeros = rw e l.zeros })

  pub cell_on : (d : Desk) (i : ℕ) → Sits p.settings d → i < p.settings.rows * p.settings.columns → i < cells_of d
  cell_on d i s h = subst⁻¹ (λ (st : Settings). i < st.rows * st.columns) s.settings h

-- ---- one cell ------------------------------------------------------------------------------------------------------------------------------

noted_none : (s : Scan) (o : Play) → o.answer ≡ 0 → noted s o ≡ s
noted_none s o e = rw (eq-eqb _ _ e)

abbrev pub opened : Play → Scan
opened o = record { desk = o.desk; any = true; ever = true }

pub noted_some : (s : Scan) (o : Play) → (o.answer ≡ 0 → ⊥) → noted s o ≡ opened o
noted_some s o n = rw (ne_eqb _ _ n)

module _ (B : List ℤ) (i : ℕ) (s : Scan) where
  pub one_over : is_playing s.desk.position.game ≡ false → chord_one B i s ≡ s
  unfolding chord_one
  one_over e = rw e

  pub one_plays : is_playing s.desk.position.game ≡ true → chord_one B i s ≡ noted s (perform_chord B i s.desk)
  unfolding chord_one
  one_plays e = rw e

  pub one_idle : perform_chord B i s.desk ≡ done 0 s.desk → chord_one B i s ≡ s
  one_idle e = go (is_playing s.desk.position.game) refl
    where
      go : (b : Bool) → is_playing s.desk.position.game ≡ b → chord_one B i s ≡ s
      go true h = one_plays h ∙ noted_none s (perform_chord B i s.desk) (ap (λ (o : Play). o.answer) e)
      go false h = one_over h

-- a cell that is not useful is left alone
pub one_useless : (B : List ℤ) (i : ℕ) (s : Scan) → chord_is_useful (rows_of s.desk) (columns_of s.desk) s.desk.shown i ≡ false → chord_one B i s ≡ s
one_useless B i s e = one_idle B i s (chord_idle B i s.desk e)

-- and so are many in a row
pub scan_over : (B : List ℤ) (s x : Scan) (n m : ℕ) → chord_scan B n s ≡ x → ((j : ℕ) → n ≤ j → j < n + m → chord_one B j x ≡ x) → chord_scan B (n + m) s ≡ x
unfolding chord_scan
scan_over B s x n zero e h = let z : n + 0 ≡ n = omega arith in ap (λ (k : ℕ). chord_scan B k s) z ∙ e
scan_over B s x n (suc m) e h =
    let z : n + suc m ≡ suc (n + m) = omega arith in
    ap (λ (k : ℕ). chord_scan B k s) z
    ∙ ap (chord_one B (n + m)) (scan_over B s x n m e (λ j l k. h j l (omega arith)))
    ∙ h (n + m) (omega arith) (omega arith)

-- the code's chord, from its answer
module _ (B : List ℤ) (v : Valued B) (i : ℕ) (s : Scanned) (shown shown' w w' : List ℕ) (o : Played) (long : length shown ≡ s.position.settings.rows * s.position.settings.columns)
    (a : Acts (perform_chord B i) s.position shown w o shown' w') where
  board_kept : (bits : List ℕ) → o.answer ≡ 0 → Fell (desk s.position shown bits) (perform_chord B i (desk s.position shown bits))
      → (shown' ≡ shown) × (chord_one B i (scan s shown bits) ≡ scan s shown bits)
  board_kept bits z (idle e) = (ap (λ (x : Play). x.desk.shown) ((a bits).outcome ∙ e), one_idle B i (scan s shown bits) e)
  board_kept bits z (fell n c l t b r) = absurd (n (sym (ap (λ (x : Play). x.answer) (a bits).outcome) ∙ z))

  pub one_none : o.answer ≡ 0 → Scans (λ bits. chord_one B i (scan s shown bits)) w s shown' w'
  one_none z =
      λ bits.
      let k = board_kept bits z (chord_fell B v i (desk s.position shown bits) long) in
      record { outcome = ap (λ (l : List ℕ). scan s l bits) k.0 ∙ sym k.1; same = (a bits).same }

  pub one_some : is_playing s.position.game ≡ true → (o.answer ≡ 0 → ⊥) → (r : Scanned) → r ≡ yes o.position
      → Scans (λ bits. chord_one B i (scan s shown bits)) w r shown' w'
  one_some e n r d =
      λ bits.
      record {
        outcome =
            ap (λ (x : Scanned). scan x shown' bits) d
            ∙ ap opened (a bits).outcome
            ∙ sym (one_plays B i (scan s shown bits) e ∙ noted_some (scan s shown bits) (perform_chord B i (desk s.position shown bits)) (λ z. n (ap (λ (x : Play). x.answer) (a bits).outcome ∙ z)));
        same = (a bits).same;
      }

-- ---- what chords keep ----------------------------------------------------------------------------------------------------------------------

-- a yes has cost a closed cell of n, the desk is of the same game, and the bits are as they were
pub record Spent (f : Scan → Bool) (n : ℕ) (st : Settings) (bits : List ℕ) (s : Scan) : Type 0 where
  pub count : closed_in s.desk.shown + bit (f s) ≤ n
  pub sits : Sits st s.desk
  pub kept : s.desk.bits ≡ bits

module _ (B : List ℤ) (v : Valued B) (f : Scan → Bool) (n : ℕ) (st : Settings) (bits : List ℕ) where
  spent_fell : (i : ℕ) (s : Scan) → Spent f n st bits s → is_playing s.desk.position.game ≡ true → Fell s.desk (perform_chord B i s.desk) → Spent f n st bits (chord_one B i s)
  spent_fell i s k e (idle d) = rw (one_idle B i s d) k
  spent_fell i s k e (fell a c l t b r) =
      rw (one_plays B i s e ∙ noted_some s (perform_chord B i s.desk) a)
      (record {
        count = let y = bit_le (f (opened (perform_chord B i s.desk))) in omega (arith, k.count);
        sits = record { settings = t ∙ k.sits.settings; board = l ∙ k.sits.board; room = r k.sits.room };
        kept = b ∙ k.kept;
      })

  pub spent_one : (i : ℕ) (s : Scan) → Spent f n st bits s → Spent f n st bits (chord_one B i s)
  spent_one i s k = go (is_playing s.desk.position.game) refl
    where
      go : (b : Bool) → is_playing s.desk.position.game ≡ b → Spent f n st bits (chord_one B i s)
      go true e = spent_fell i s k e (chord_fell B v i s.desk (sits_long st s.desk k.sits))
      go false e = rw (one_over B i s e) k

  pub spent_scan : (m : ℕ) (s : Scan) → Spent f n st bits s → Spent f n st bits (chord_scan B m s)
  unfolding chord_scan
  spent_scan zero s k = k
  spent_scan (suc m) s k = spent_one m (chord_scan B m s) (spent_scan m s k)

-- ---- a scan --------------------------------------------------------------------------------------------------------------------------------

-- a scan begins
abbrev pub begun : Scan → Scan
begun s = record { desk = s.desk; any = false; ever = s.ever }

-- the loop over the cells
pub record Scanning (B : List ℤ) (t₀ : Scanned) (shown₀ w₀ : List ℕ) (t : Scanned) (shown w : List ℕ) (i : ℕ) : Type 0 where
  pub same : (bits : List ℕ) → scan t shown bits ≡ chord_scan B i (scan t₀ shown₀ bits)
  pub back : w ≡ w₀

pub scanning_start : (B : List ℤ) (t : Scanned) (shown w : List ℕ) → Scanning B t shown w t shown w 0
unfolding chord_scan
scanning_start B t shown w = record { same = λ bits. refl; back = refl }

module _ (B : List ℤ) (t₀ : Scanned) (shown₀ w₀ : List ℕ) (l : LaidAt B t₀.position shown₀ w₀) (r : PassRoomAt t₀.position shown₀)
    (t : Scanned) (shown w : List ℕ) (i : ℕ) (g : Scanning B t₀ shown₀ w₀ t shown w i) where
  pub scanning_sits : Sits t₀.position.settings (desk t.position shown [])
  scanning_sits =
      subst⁻¹ (λ (s : Scan). Sits t₀.position.settings s.desk) (g.same [])
      (spent_scan B l.fits.mined.valued (λ s. false) (closed_in shown₀) t₀.position.settings [] i (scan t₀ shown₀ [])
      (record { count = omega arith; sits = sits_start B t₀.position shown₀ w₀ l r []; kept = refl })).sits

  pub scanning_asks : i < t₀.position.settings.rows * t₀.position.settings.columns
      → LaidAt B t.position shown w × ((i < t.position.settings.rows * t.position.settings.columns) × PassRoomAt t.position shown)
  scanning_asks h = (
    laid_on B t₀.position shown₀ w₀ l (desk t.position shown []) w scanning_sits g.back,
    (cell_on B t₀.position shown₀ w₀ l (desk t.position shown []) i scanning_sits h, scanning_sits.room),
  )

  pub scanning_turn : (t' : Scanned) (shown' w' : List ℕ) → Scans (λ bits. chord_one B i (scan t shown bits)) w t' shown' w' → Scanning B t₀ shown₀ w₀ t' shown' w' (i + 1)
  unfolding chord_scan
  scanning_turn t' shown' w' e = record { same = λ bits. rw add-one ((e bits).outcome ∙ ap (chord_one B i) (g.same bits)); back = (e []).same ∙ g.back }

  -- the cells up to the next useful one are passed over
  pub scanning_over : (r : ℕ) → First (chord_is_useful t₀.position.settings.rows t₀.position.settings.columns shown) i (t₀.position.settings.rows * t₀.position.settings.columns) r
      → Scanning B t₀ shown₀ w₀ t shown w r
  scanning_over r f =
      let up = f.up in
      let e : i + (r - i) ≡ r = omega arith in
      record {
        same = λ bits.
            sym (scan_over B (scan t₀ shown₀ bits) (scan t shown bits) i (r - i) (sym (g.same bits))
            (λ j l k.
            one_useless B j (scan t shown bits)
            (ap (λ (st : Settings). chord_is_useful st.rows st.columns shown j) scanning_sits.settings ∙ f.none j l (omega arith))))
            ∙ ap (λ (n : ℕ). chord_scan B n (scan t₀ shown₀ bits)) e;
        back = g.back;
      }

  pub scanning_done : (s : Scanned) → i ≡ s.position.settings.rows * s.position.settings.columns → t₀ ≡ record { position = s.position; any = false; ever = s.ever }
      → Scans (λ bits. chord_round B (scan s shown₀ bits)) w₀ t shown w
  unfolding chord_round
  scanning_done s e b =
      λ bits. record { outcome = g.same bits ∙ ap₂ (λ (n : ℕ) (x : Scanned). chord_scan B n (scan x shown₀ bits)) e b; same = g.back }

-- ---- the scans end -------------------------------------------------------------------------------------------------------------------------

abbrev pub size : Scan → ℕ
size s = closed_in s.desk.shown

abbrev pub On : Settings → Scan → Type 0
On st s = Sits st s.desk

module _ (B : List ℤ) (v : Valued B) (st : Settings) where
  spent_round : (f : Scan → Bool) (n : ℕ) (bits : List ℕ) (s : Scan) → Spent f n st bits (begun s) → Spent f n st bits (chord_round B s)
  unfolding chord_round
  spent_round f n bits s k = spent_scan B v f n st bits (cells_of s.desk) (begun s) k

  any_round : (s : Scan) → On st s → Spent (λ x. x.any) (size s) st s.desk.bits (chord_round B s)
  any_round s o = spent_round (λ x. x.any) (size s) s.desk.bits s (record { count = omega arith; sits = o; kept = refl })

  pub round_keep : (s : Scan) → On st s → On st (chord_round B s)
  round_keep s o = (any_round s o).sits

  pub round_less : (s : Scan) → On st s → chord_more (chord_round B s) ≡ true → size (chord_round B s) < size s
  round_less s o e =
      let c = (any_round s o).count in
      let y : bit (chord_round B s).any ≡ 1 = ap bit (and_left (chord_round B s).any _ e) in
      omega arith

  -- THE LAW of the chord pass: a yes has cost a closed cell
  pub spent_pass : (d : Desk) → Sits st d → Spent (λ x. x.ever) (closed_in d.shown) st d.bits (chord_pass B d)
  unfolding chord_pass
  spent_pass d o =
      rounds_keep (chord_round B) chord_more (Spent (λ x. x.ever) (closed_in d.shown) st d.bits)
      (λ s k. spent_round (λ x. x.ever) (closed_in d.shown) d.bits s (record { count = k.count; sits = k.sits; kept = k.kept }))
      (suc (cells_of d)) (record { desk = d; any = false; ever = false }) (record { count = omega arith; sits = o; kept = refl })

-- ---- the code's pass -----------------------------------------------------------------------------------------------------------------------

-- the loop of the pass
pub record Passing (B : List ℤ) (st : Settings) (s₀ : Scanned) (shown₀ w₀ : List ℕ) (s : Scanned) (shown w : List ℕ) (go : Bool) : Type 0 where
  pub loop : (bits : List ℕ) → Looping (chord_round B) chord_more size (On st) (rounds (chord_round B) chord_more (suc (st.rows * st.columns)) (scan s₀ shown₀ bits)) go (scan s shown bits)
  pub back : w ≡ w₀

abbrev pub to_go : List ℤ → Settings → Scanned → List ℕ → Bool → ℕ
to_go B st s shown go = left (chord_round B) chord_more size (On st) go (scan s shown [])

module _ (B : List ℤ) (s₀ : Scanned) (shown₀ w₀ : List ℕ) (l : LaidAt B s₀.position shown₀ w₀) where
  abbrev of : Settings
  of = s₀.position.settings

  keep : (s : Scan) → On of s → On of (chord_round B s)
  keep = round_keep B l.fits.mined.valued of

  less : (s : Scan) → On of s → chord_more (chord_round B s) ≡ true → size (chord_round B s) < size s
  less = round_less B l.fits.mined.valued of

  pub passing_start : PassRoomAt s₀.position shown₀ → Passing B of s₀ shown₀ w₀ s₀ shown₀ w₀ true
  passing_start r =
      record {
        loop = λ bits.
            let h = closed_most shown₀ in
            looping_start (chord_round B) chord_more size (On of) keep less (suc (of.rows * of.columns)) (scan s₀ shown₀ bits)
            (sits_start B s₀.position shown₀ w₀ l r bits) (omega (arith, l.fits.board));
        back = refl;
      }

  module _ (s : Scanned) (shown w : List ℕ) (go : Bool) (g : Passing B of s₀ shown₀ w₀ s shown w go) where
    pub passing_asks : LaidAt B s.position shown w × PassRoomAt s.position shown
    passing_asks =
        let o = (g.loop []).fine in
        (laid_on B s₀.position shown₀ w₀ l (desk s.position shown []) w o g.back, o.room)

    module _ (e : go ≡ true) (s' : Scanned) (shown' w' : List ℕ) (go' : Bool) (d : Scans (λ bits. chord_round B (scan s shown bits)) w s' shown' w')
        (m : go' ≡ (s'.any && is_playing s'.position.game)) where
      pub passing_turn : Passing B of s₀ shown₀ w₀ s' shown' w' go'
      passing_turn =
          record {
            loop = λ bits.
                looping_turn (chord_round B) chord_more size (On of) keep less (rounds (chord_round B) chord_more (suc (of.rows * of.columns)) (scan s₀ shown₀ bits))
                go (scan s shown bits) (g.loop bits) e go' (scan s' shown' bits) (d bits).outcome m;
            back = (d []).same ∙ g.back;
          }

      pub passing_less : to_go B of s' shown' go' < to_go B of s shown go
      passing_less =
          looping_less (chord_round B) chord_more size (On of) keep less (rounds (chord_round B) chord_more (suc (of.rows * of.columns)) (scan s₀ shown₀ []))
          go (scan s shown []) (g.loop []) e go' (scan s' shown' []) (d []).outcome m

    pub passing_done : (p : Position) → s₀ ≡ record { position = p; any = false; ever = false } → go ≡ false
        → Scans (λ bits. chord_pass B (desk p shown₀ bits)) w₀ s shown w
    unfolding chord_pass
    passing_done p e h =
        λ bits.
        record {
          outcome =
              looping_done (chord_round B) chord_more size (On of) keep less (rounds (chord_round B) chord_more (suc (of.rows * of.columns)) (scan s₀ shown₀ bits))
              go (scan s shown bits) (g.loop bits) h
              ∙ ap (λ (x : Scanned). rounds (chord_round B) chord_more (suc (x.position.settings.rows * x.position.settings.columns)) (scan x shown₀ bits)) e;
          same = g.back;
        }
