-- One equation for each brief event, what it asks of the rule's own function, and what an event that is not brief leaves.
use mathlib.Core.Path.{◌≡◌, ◌∙◌, refl, sym, ap}
use mathlib.Core.Bool.{Bool, true, false, ◌||◌, true≢false}
use mathlib.Core.List.{List}
use Rattle.std.specs.Prelude.{Option, Some, None}
use Prim.Native.Nat.{ℕ, ◌*◌, ◌/◌, ◌<◌}
use native.Mathlib.Omega.{arith}
use borrow.Author.Tests.{eq-eqb, ne_eqb}
use lib.Dec.{eqb}
use lib.ListN.{length, get_or}
use lib.IntN.{ℤ}
use Rattle.rules.specs.declared.Position.{Position}
use Rattle.rules.specs.declared.Settings.{Settings}
use Rattle.rules.specs.declared.Played.{Played}
use Rattle.rules.specs.declared.Pointer.TheVariants.{Cell}
use Rattle.rules.specs.Words.{pick}
use Rattle.rules.specs.States.{mouse_number, is_playing}
use Rattle.rules.specs.Grid.{cell_of}
use Rattle.rules.specs.Board.{face_at, lone_at}
use Rattle.rules.specs.Clicks.{Desk, Play, desk, done, left_click, add_right, flagged}
use Rattle.rules.specs.Passes.{passes_after_flag, right_click}
use Rattle.rules.specs.Mouse.{moved, both_down}
use Rattle.rules.specs.Step.{move, seen_at, left_at, right_at, chord_from, play_lc, play_lr, play_rc, play_rr, event_of, playing}
use Rattle.cells.specs.Ground.{Mined, Valued}
use Rattle.cells.specs.Promises.{RoomAt}
use Rattle.cells.proofs.Grid.{cell_lt}
use Rattle.clicks.specs.Parts.{NumberAt}
use Rattle.keep.specs.Kept.{LawfulAt, Inside}
use Rattle.keep.proofs.Able.{lawful_room}
use Rattle.brief.specs.Briefly.{Plainly}

pub on_board : (s : Settings) (row column : ℕ) → Inside s (Cell row column) → cell_of s.columns row column < s.rows * s.columns
on_board s row column o = cell_lt s.rows s.columns row column o.0 o.1

-- ---- rr --------------------------------------------------------------------------------------------------------------------------------

pub rr_turns : (B : List ℤ) (row column : ℕ) (p : Position) (o : Played) (shown bits : List ℕ) (m : ℕ) → m ≡ mouse_number p.mouse → both_down m ≡ false
    → o ≡ record { answer = 0; position = moved 3 p } → done o.answer (desk o.position shown bits) ≡ play_rr B (Cell row column) (desk p shown bits)
unfolding play_rr chord_from both_down
rr_turns B row column p o shown bits m e b h = rw (← e, h) (go (eqb m 4) (eqb m 5) _ _ b)
  where
    go : (s t : Bool) (x y : Play) → (s || t) ≡ false → done 0 (desk (moved 3 p) shown bits) ≡ pick s x (pick t y (done 0 (desk (moved 3 p) shown bits)))
    go true t x y w = absurd (true≢false w)
    go false true x y w = absurd (true≢false w)
    go false false x y w = refl

-- ---- rc --------------------------------------------------------------------------------------------------------------------------------

-- below 12 no pass follows a flag
no_pass : (B : List ℤ) (d : Desk) → d.position.settings.mode < 12 → passes_after_flag B d ≡ d
unfolding passes_after_flag
no_pass B d h =
    rw (
      ne_eqb d.position.settings.mode 13 (λ e. absurd (omega arith)),
      ne_eqb d.position.settings.mode 16 (λ e. absurd (omega arith)),
      ne_eqb d.position.settings.mode 12 (λ e. absurd (omega arith)),
      ne_eqb d.position.settings.mode 15 (λ e. absurd (omega arith)),
    )
    (go (is_playing d.position.game))
  where
    go : (b : Bool) → pick b d d ≡ d
    go true = refl
    go false = refl

-- a right click that only flags
flags_only : (B : List ℤ) (i : ℕ) (q : Position) (shown bits : List ℕ) → get_or shown i 0 ≡ 10 → q.settings.mode < 12
    → right_click B i (desk q shown bits) ≡ done 1 (flagged B i (add_right (desk q shown bits)))
unfolding right_click
flags_only B i q shown bits ten h = rw (eq-eqb _ _ ten) (ap (done 1) (no_pass B (flagged B i (add_right (desk q shown bits))) h))

module _ (B : List ℤ) (row column i : ℕ) (p : Position) (shown bits : List ℕ) (c : i ≡ cell_of p.settings.columns row column) where
  on_cell_lem : right_at B (Cell row column) (move 2 (desk p shown bits)) ≡ right_click B i (move 2 (desk p shown bits))
  unfolding right_at moved
  on_cell_lem = ap (λ (j : ℕ). right_click B j (move 2 (desk p shown bits))) (sym c)

  module _ (m : ℕ) (e : m ≡ mouse_number p.mouse) (z : m ≡ 0) (ten : get_or shown i 0 ≡ 10) where
    from_up : play_rc B (Cell row column) (desk p shown bits) ≡ right_at B (Cell row column) (move 2 (desk p shown bits))
    unfolding play_rc seen_at
    from_up = rw (eq-eqb (mouse_number p.mouse) 0 (sym e ∙ z), ← c, ten) refl

    pub rc_flags : p.settings.mode < 12 → done 1 (flagged B i (add_right (move 2 (desk p shown bits)))) ≡ play_rc B (Cell row column) (desk p shown bits)
    unfolding moved
    rc_flags h = sym (from_up ∙ on_cell_lem ∙ flags_only B i (moved 2 p) shown bits ten h)

-- the cell, its place and its bit, and the room that its flag has, where the mouse has moved on
pub flag_asks : (B : List ℤ) (p down : Position) (shown bits : List ℕ) (row column i : ℕ) → LawfulAt B (desk p shown bits) → Inside p.settings (Cell row column)
    → i ≡ cell_of p.settings.columns row column → down ≡ moved 2 p
    → (((i < length B) × (i < length shown) × (i / 8 < length bits)) × (Valued B × RoomAt down shown))
unfolding moved
flag_asks B p down shown bits row column i l o e d =
    let g = l.kept.sound.ground in
    let h : i < p.settings.rows * p.settings.columns = rw e (on_board p.settings row column o) in
    let b = g.room in (
      (omega (arith, g.mined.long), omega (arith, g.board), omega arith),
      (g.mined.valued, rw d (lawful_room l)),
    )

pub flag_leaves : (B : List ℤ) (i : ℕ) (p r down : Position) (shown bits shown' bits' : List ℕ) → down ≡ moved 2 p
    → desk r shown' bits' ≡ flagged B i (add_right (desk down shown bits)) → done 1 (desk r shown' bits') ≡ done 1 (flagged B i (add_right (move 2 (desk p shown bits))))
flag_leaves B i p r down shown bits shown' bits' d f = ap (done 1) (f ∙ ap (λ (x : Position). flagged B i (add_right (desk x shown bits))) d)

-- ---- lr --------------------------------------------------------------------------------------------------------------------------------

module _ (B : List ℤ) (row column i : ℕ) (p : Position) (at : i ≡ cell_of p.settings.columns row column) where
  pub lr_left : (up : Position) (shown : List ℕ) → up ≡ moved 1 p → (m : ℕ) → m ≡ mouse_number p.mouse → m ≡ 3 → (bits : List ℕ)
      → left_click B i (desk up shown bits) ≡ play_lr B (Cell row column) (desk p shown bits)
  unfolding play_lr left_at moved
  lr_left up shown d m e z bits = rw (d, at, eq-eqb (mouse_number p.mouse) 3 (sym e ∙ z)) refl

  module _ (f : ℕ) (own : f ≡ face_at B i) (n : (f ≡ 0 → ⊥) × (f ≡ 15 → ⊥)) (mined : Mined B p.settings.rows p.settings.columns) (o : Inside p.settings (Cell row column)) where
    -- whether it is lone is asked by its row and column
    module _ (R C r c : ℕ) (eR : R ≡ p.settings.rows) (eC : C ≡ p.settings.columns) (er : r ≡ row) (ec : c ≡ column) where
      here : cell_of p.settings.columns r c ≡ i
      here = rw (er, ec) (sym at)

      pub lone_asks : Mined B R C × (((r < R) × (c < C)) × ((face_at B (cell_of C r c) ≡ 0 → ⊥) × (face_at B (cell_of C r c) ≡ 15 → ⊥)))
      lone_asks = rw (eR, eC) (asked)
        where
          asked : Mined B p.settings.rows p.settings.columns
              × (((r < p.settings.rows) × (c < p.settings.columns))
              × ((face_at B (cell_of p.settings.columns r c) ≡ 0 → ⊥) × (face_at B (cell_of p.settings.columns r c) ≡ 15 → ⊥)))
          asked = let e = own ∙ sym (ap (face_at B) here) in (mined, (rw (er, ec) o, ((λ z. n.0 (e ∙ z)), (λ z. n.1 (e ∙ z)))))

      -- a closed number, where the mouse has moved on
      pub number_asks : (lone : Bool) → lone ≡ lone_at B R C (cell_of C r c) → (up : Position) → up ≡ moved 1 p → (shown : List ℕ)
          → length shown ≡ p.settings.rows * p.settings.columns → RoomAt p shown → get_or shown i 0 ≡ 10 → NumberAt B up.settings shown i f lone × RoomAt up shown
      unfolding moved
      number_asks lone a up d shown b room ten =
          let on : i < p.settings.rows * p.settings.columns = rw at (on_board p.settings row column o) in
          let alone = (rw (eR, eC) at a) ∙ ap (lone_at B p.settings.rows p.settings.columns) here in
          rw d (record { mined = mined; board = b; inside = on; closed = ten; own = own; nonzero = n.0; safe = n.1; alone = alone }, room)

-- ---- by the code -----------------------------------------------------------------------------------------------------------------------

pub plainly_by : (f g : Desk → Play) (p : Position) (shown bits : List ℕ) (r : Option Played) (shown' bits' : List ℕ) → f (desk p shown bits) ≡ g (desk p shown bits)
    → Plainly f p shown bits r shown' bits' → Plainly g p shown bits r shown' bits'
plainly_by f g p shown bits (Some o) shown' bits' e h = h ∙ e
plainly_by f g p shown bits None shown' bits' e h = h

module _ (B : List ℤ) (code row column : ℕ) (p : Position) (shown bits : List ℕ) where
  pub code_lc : code ≡ 0 → play_lc (Cell row column) (desk p shown bits) ≡ playing B (event_of code (Cell row column)) (desk p shown bits)
  unfolding playing event_of
  code_lc e = rw e refl

  pub code_lr : code ≡ 1 → play_lr B (Cell row column) (desk p shown bits) ≡ playing B (event_of code (Cell row column)) (desk p shown bits)
  unfolding playing event_of
  code_lr e = rw e refl

  pub code_rc : code ≡ 2 → play_rc B (Cell row column) (desk p shown bits) ≡ playing B (event_of code (Cell row column)) (desk p shown bits)
  unfolding playing event_of
  code_rc e = rw e refl

  pub code_rr : code ≡ 3 → play_rr B (Cell row column) (desk p shown bits) ≡ playing B (event_of code (Cell row column)) (desk p shown bits)
  unfolding playing event_of
  code_rr e = rw e refl

  pub lc_turns : (o : Played) → o ≡ record { answer = 0; position = moved 0 p } → done o.answer (desk o.position shown bits) ≡ play_lc (Cell row column) (desk p shown bits)
  unfolding play_lc
  lc_turns o e = rw e refl

-- a button's code that is none of the first three
pub last_code : (code : ℕ) → code < 4 → (code ≡ 0 → ⊥) → (code ≡ 1 → ⊥) → (code ≡ 2 → ⊥) → code ≡ 3
last_code code l a b c = omega arith
