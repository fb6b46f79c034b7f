-- The right click and the chord by hand, from their parts.
use mathlib.Core.Path.{◌≡◌, refl, ap, sym, ◌∙◌, subst⁻¹}
use mathlib.Core.Bool.{Bool, true, false}
use mathlib.Core.List.{List}
use Prim.Native.Nat.{ℕ, ◌+◌, ◌*◌, ◌/◌, ◌<◌, ◌≤◌}
use native.Mathlib.Omega.{arith}
use borrow.Author.Tests.{eq-eqb, ne_eqb}
use lib.Dec.{eqb}
use lib.ListN.{length, get_or, length-set}
use lib.IntN.{ℤ}
use Rattle.rules.specs.declared.Settings.{Settings}
use Rattle.rules.specs.declared.Position.{Position}
use Rattle.rules.specs.declared.Played.{Played}
use Rattle.rules.specs.Words.{pick}
use Rattle.rules.specs.States.{with_double, with_dce}
use Rattle.rules.specs.Opening.{refreshed}
use Rattle.rules.specs.Clicks.{Desk, Play, desk, done, rows_of, columns_of, cells_of, add_right, flagged, take_back, chord_is_useful, closed_around, chord_counts, chord_opens, perform_chord}
use Rattle.rules.specs.Passes.{passes_after_flag, passes_after_chord, right_click, add_double, add_dce, then_passes, chording_click}
use Rattle.cells.specs.Ground.{Valued}
use Rattle.opening.proofs.Cost.{closed_set}
use Rattle.cells.specs.Promises.{LaidAt, PassRoomAt, Prepared, AbleAt, Leaves, Acts}
use Rattle.chords.specs.Fell.{Fell, idle, fell}
use Rattle.clicks.proofs.Ends.{ending}
use Rattle.chords.proofs.Steps.{chord_idle, chord_runs}
use Rattle.chords.proofs.Chord.{chord_fell}
use Rattle.hands.specs.Hand.{counted}
use Rattle.flagging.proofs.Flagging.{mark_length}
use Rattle.passes.proofs.Turns.{Like, like_prepared}

pub able_prepared : (B : List ℤ) (p : Position) (shown bits w : List ℕ) → AbleAt B p shown bits w → Prepared B (desk p shown bits) w
able_prepared B p shown bits w a = record { laid = a.laid; bytes = a.bytes; room = a.room.pass }

-- ---- right -----------------------------------------------------------------------------------------------------------------------------

module _ (B : List ℤ) (i : ℕ) (p : Position) (shown bits w : List ℕ) (a : AbleAt B p shown bits w) where
  flagged_like : get_or shown i 0 ≡ 10 → Like p.settings (length bits) (flagged B i (add_right (desk p shown bits)))
  flagged_like e =
      let c = closed_set shown i 11 (eq-eqb _ _ e) (λ h. omega arith) in
      let r = a.room.pass in
      record {
        sits =
            record {
              settings = refl;
              board = length-set shown i 11 ∙ a.laid.fits.board;
              room = record { flag = omega (arith, r.flag); solved = omega (arith, r.solved) };
            };
        bytes = mark_length B i bits;
      }

  -- the cell, its place and its bit
  pub right_place : i < p.settings.rows * p.settings.columns → (i < length B) × (i < length shown) × (i / 8 < length bits)
  right_place h = (omega (arith, a.laid.fits.mined.long), omega (arith, a.laid.fits.board), let b = a.bytes in omega arith)

  -- what the passes ask after the flag
  pub right_asks : get_or shown i 0 ≡ 10 → (d : Desk) → d ≡ flagged B i (add_right (desk p shown bits)) → Prepared B d w
  right_asks e d h =
      like_prepared B (desk p shown bits) d w w (able_prepared B p shown bits w a)
      (subst⁻¹ (λ (x : Desk). Like p.settings (length bits) x) h (flagged_like e)) refl

  pub right_flags : get_or shown i 0 ≡ 10 → (d : Desk) → d ≡ flagged B i (add_right (desk p shown bits)) → (d' : Desk) (w' : List ℕ) → Leaves d' (passes_after_flag B d) w w'
      → Leaves (done 1 d') (right_click B i (desk p shown bits)) w w'
  unfolding right_click
  right_flags e d h d' w' l =
      record { outcome = rw (eq-eqb _ _ e) (ap (done 1) (l.outcome ∙ ap (passes_after_flag B) h)); same = l.same }

  pub right_takes : (get_or shown i 0 ≡ 10 → ⊥) → (o : Play) → o ≡ take_back i (add_right (desk p shown bits)) → Leaves o (right_click B i (desk p shown bits)) w w
  unfolding right_click
  right_takes n o h = record { outcome = rw (ne_eqb _ _ n) h; same = refl }

-- ---- chord -----------------------------------------------------------------------------------------------------------------------------

-- a chord leaves dce
performed_dce : (B : List ℤ) (i : ℕ) (d : Desk) → (perform_chord B i d).desk.position.counts.dce ≡ d.position.counts.dce
unfolding chord_opens
performed_dce B i d = go (chord_is_useful (rows_of d) (columns_of d) d.shown i) refl
  where
    go : (b : Bool) → chord_is_useful (rows_of d) (columns_of d) d.shown i ≡ b → (perform_chord B i d).desk.position.counts.dce ≡ d.position.counts.dce
    go true e =
        ap (λ (o : Play). o.desk.position.counts.dce) (chord_runs B i d e)
        ∙ (ending 3 (chord_counts B (closed_around (rows_of d) (columns_of d) d.shown i) d) (refreshed B (rows_of d) (columns_of d) (closed_around (rows_of d) (columns_of d) d.shown i) d.shown)).dce
    go false e = ap (λ (o : Play). o.desk.position.counts.dce) (chord_idle B i d e)

performed_like : (B : List ℤ) → Valued B → (i : ℕ) (st : Settings) (n : ℕ) (d : Desk) → length d.shown ≡ cells_of d → Like st n d → Like st n (perform_chord B i d).desk
performed_like B v i st n d long l = go (chord_fell B v i d long)
  where
    go : Fell d (perform_chord B i d) → Like st n (perform_chord B i d).desk
    go (idle e) = subst⁻¹ (λ (o : Play). Like st n o.desk) e l
    go (fell a c h t b r) =
        record { sits = record { settings = t ∙ l.sits.settings; board = h ∙ l.sits.board; room = r l.sits.room }; bytes = ap length b ∙ l.bytes }

abbrev with_dce_one : Position → Position
with_dce_one p = with_dce p (p.counts.dce + 1)

-- dce is no part of what the passes ask
dce_like : (st : Settings) (n : ℕ) (o : Play) → Like st n o.desk → Like st n (add_dce o).desk
dce_like st n o l = go (eqb o.answer 0)
  where
    go : (b : Bool) → Like st n (pick {A = Play} b o (done o.answer (desk (with_dce_one o.desk.position) o.desk.shown o.desk.bits))).desk
    go true = l
    go false = record { sits = record { settings = l.sits.settings; board = l.sits.board; room = record { flag = l.sits.room.flag; solved = l.sits.room.solved } }; bytes = l.bytes }

-- the code's count of a chord by hand
counted_is : (o : Played) (shown bits : List ℕ) → done (counted o).answer (desk (counted o).position shown bits) ≡ add_dce (done o.answer (desk o.position shown bits))
counted_is o shown bits = go (eqb o.answer 0)
  where
    go : (b : Bool) →
        done (pick {A = Played} b o (record { answer = o.answer; position = with_dce_one o.position })).answer
        (desk (pick {A = Played} b o (record { answer = o.answer; position = with_dce_one o.position })).position shown bits)
        ≡ pick b (done o.answer (desk o.position shown bits)) (done o.answer (desk (with_dce_one o.position) shown bits))
    go true = refl
    go false = refl

module _ (B : List ℤ) (i : ℕ) (p : Position) (shown bits w : List ℕ) (a : AbleAt B p shown bits w) (q : Position) (qe : q ≡ with_double p (p.counts.double + 1)) where
  told : desk q shown bits ≡ add_double (desk p shown bits)
  told = ap (λ (x : Position). desk x shown bits) qe

  double_like : Like p.settings (length bits) (desk q shown bits)
  double_like =
      subst⁻¹ (λ (x : Desk). Like p.settings (length bits) x) told
      (record { sits = record { settings = refl; board = a.laid.fits.board; room = record { flag = a.room.pass.flag; solved = a.room.pass.solved } }; bytes = refl })

  -- what the chord asks
  pub chord_asks : i < p.settings.rows * p.settings.columns → LaidAt B q shown w × ((i < q.settings.rows * q.settings.columns) × PassRoomAt q shown)
  chord_asks h = rw qe (a.laid, (h, record { flag = a.room.pass.flag; solved = a.room.pass.solved }))

  module _ (o : Played) (shown' w' : List ℕ) (c : Acts (perform_chord B i) q shown w o shown' w') where
    pub chord_dce : o.position.counts.dce ≤ 70000
    chord_dce =
        let e : o.position.counts.dce ≡ q.counts.dce = ap (λ (x : Play). x.desk.position.counts.dce) (c bits).outcome ∙ performed_dce B i (desk q shown bits) in
        let f : o.position.counts.dce ≡ p.counts.dce = e ∙ ap (λ (x : Position). x.counts.dce) qe in
        omega (arith, a.room.dce)

    module _ (t : Played) (te : t ≡ counted o) where
      counted_outcome : done t.answer (desk t.position shown' bits) ≡ add_dce (perform_chord B i (add_double (desk p shown bits)))
      counted_outcome =
          ap (λ (x : Played). done x.answer (desk x.position shown' bits)) te ∙ counted_is o shown' bits
          ∙ ap add_dce ((c bits).outcome ∙ ap (perform_chord B i) told)

      -- what the passes ask after the chord
      pub chord_then : Prepared B (desk t.position shown' bits) w'
      chord_then =
          let m : length shown ≡ q.settings.rows * q.settings.columns = rw qe a.laid.fits.board in
          let l = dce_like p.settings (length bits) (perform_chord B i (desk q shown bits))
          (performed_like B a.laid.fits.mined.valued i p.settings (length bits) (desk q shown bits) m double_like) in
          like_prepared B (desk p shown bits) (desk t.position shown' bits) w w' (able_prepared B p shown bits w a)
          (subst⁻¹ (λ (x : Play). Like p.settings (length bits) x.desk) (counted_outcome ∙ ap (λ (x : Desk). add_dce (perform_chord B i x)) (sym told)) l) (c bits).same

      pub chord_done : (d' : Desk) (w'' : List ℕ) → Leaves d' (passes_after_chord B (desk t.position shown' bits)) w' w''
          → Leaves (done t.answer d') (chording_click B i (desk p shown bits)) w w''
      unfolding chording_click
      chord_done d' w'' l =
          record { outcome = ap (done t.answer) l.outcome ∙ ap (then_passes B) counted_outcome; same = l.same ∙ (c bits).same }
