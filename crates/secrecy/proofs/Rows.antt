-- Whatever is played in a row from a fresh start, twins run alike if each move is quiet: by induction from the end. Assumes nothing.
use mathlib.Core.Path.{◌≡◌, refl, sym, ap, ◌∙◌, subst}
use mathlib.Core.Logic.{◌⊎◌, inl, inr}
use mathlib.Core.List.{List, [], ◌∷◌, map}
use mathlib.Core.Bool.{Bool, true, false, false≢true}
use Prim.Native.Nat.{ℕ, ◌*◌, ◌<◌}
use native.Mathlib.Omega.{arith}
use lib.ListN.{get_or, length, replicate, length-replicate, get_or-eq_default}
use lib.IntN.{ℤ, pos}
use lib.Dec.{ltb, eqb}
use borrow.Author.Tests.{eqb-true, ltb-true, ltb-false}
use Rattle.rules.specs.declared.Settings.{Settings}
use Rattle.rules.specs.Words.{count}
use Rattle.rules.specs.States.{fresh_of}
use Rattle.rules.specs.Board.{face, face_at, mine_at, safe_in, board_check}
use Rattle.rules.specs.Clicks.{Desk, Play, desk}
use Rattle.rules.specs.Calls.{fresh_desk, cells_in}
use Rattle.cells.specs.Ground.{Valued}
use Rattle.cells.proofs.Face.{values_valued}
use Rattle.keep.proofs.Lawful.{board_accepted}
use Rattle.secrecy.specs.Demand.{Seen, seen, seen_all, seen_of, last_desk, end_of, Twins}
use Rattle.secrecy.proofs.Lists.{entry_in, count_not}
use Rattle.secrecy.proofs.Quiet.{bare, over, hidden_of, a_play, number, wrong, hit, flag, lost_in, Two, KnownIn, InvIn, AgreeIn, Quiet}

-- ---- a row of moves ----------------------------------------------------------------------------------------------------------------------

-- what is played at a desk, and is quiet at every desk
pub record Move : Type 0 where
  pub play : List ℤ → Desk → Play
  pub quiet : (d : Desk) → Quiet a_play (lost_in d) d.shown (λ B h. play B (over d h))

-- a play with nothing hidden
abbrev pub bared : Play → Play
bared o = a_play.put o bare

-- each move is made on the desk that the one before left
unfoldable pub row_of : List ℤ → List Move → Desk → List Play
row_of B [] d = []
row_of B (m ∷ ms) d =
    let o = m.play B d in
    o ∷ row_of B ms o.desk

module _ (B : List ℤ) (v : Valued B) where
  move_keeps : (m : Move) (d : Desk) → InvIn B d → InvIn B (m.play B d).desk
  move_keeps m d = (m.quiet d).keeps B (hidden_of d) v

  -- what is known stays known to the end, and the end is in order
  row_knows : (ms : List Move) (d : Desk) → InvIn B d → (j : ℕ) → KnownIn j d → KnownIn j (last_desk d (row_of B ms d))
  unfolding row_of last_desk
  row_knows [] d inv j k = k
  row_knows (m ∷ ms) d inv j k = row_knows ms (m.play B d).desk (move_keeps m d inv) j ((m.quiet d).knows B (hidden_of d) v inv j k)

  row_keeps : (ms : List Move) (d : Desk) → InvIn B d → InvIn B (last_desk d (row_of B ms d))
  unfolding row_of last_desk
  row_keeps [] d inv = inv
  row_keeps (m ∷ ms) d inv = row_keeps ms (m.play B d).desk (move_keeps m d inv)

module _ (A B : List ℤ) (two : Two A B) where
  move_same : (m : Move) (d e : Desk) → over d bare ≡ over e bare → InvIn A d → InvIn B e → AgreeIn A B (m.play A d).desk
      → bared (m.play A d) ≡ bared (m.play B e)
  move_same m d e q ia ib agree =
      let ib' : InvIn B d = subst (InvIn B) (sym q) ib in
      let e' : over d (hidden_of e) ≡ e = ap (λ (x : Desk). over x (hidden_of e)) q in
      (m.quiet d).same A B (hidden_of d) (hidden_of e) two ia ib' agree ∙ ap (λ (x : Desk). bared (m.play B x)) e'

  -- every play is the same but for what it hides
  row_alike : (ms : List Move) (d e : Desk) → over d bare ≡ over e bare → InvIn A d → InvIn B e → AgreeIn A B (last_desk d (row_of A ms d))
      → map bared (row_of A ms d) ≡ map bared (row_of B ms e)
  unfolding row_of last_desk
  row_alike [] d e q ia ib agree = refl
  row_alike (m ∷ ms) d e q ia ib agree =
      let o = m.play A d in
      let p = m.play B e in
      let ja = move_keeps A two.valued_a m d ia in
      let jb = move_keeps B two.valued_b m e ib in
      let one : bared o ≡ bared p = move_same m d e q ia ib (λ j k. agree j (row_knows A two.valued_a ms o.desk ja j k)) in
      ap (λ (x : Play). x ∷ map bared (row_of A ms o.desk)) one
      ∙ ap (λ (l : List Play). bared p ∷ l) (row_alike ms o.desk p.desk (ap (λ (x : Play). x.desk) one) ja jb agree)

-- what is hidden is not seen
pub seen_bared : (before : List ℕ) (os : List Play) → seen_all before os ≡ seen_all before (map bared os)
unfolding seen_all
seen_bared before [] = refl
seen_bared before (o ∷ os) = ap (λ (l : List Seen). seen before o ∷ l) (seen_bared o.desk.shown os)

-- ---- the fresh start ---------------------------------------------------------------------------------------------------------------------

-- what the board check accepts
pub checked : (R C : ℕ) (B : List ℤ) → board_check R C B ≡ 0 → (length B ≡ R * C) × Valued B
unfolding board_check
checked R C B e = let a = board_accepted R C (eqb (length B) (R * C)) B e in (eqb-true (length B) (R * C) a.fits, values_valued B a.values)

-- an index is on the board, or the board reads 0 there
on_board : (B : List ℤ) (j : ℕ) → (j < length B) ⊎ (face_at B j ≡ 0)
on_board B j = go (ltb j (length B)) refl
  where
    go : (b : Bool) → ltb j (length B) ≡ b → (j < length B) ⊎ (face_at B j ≡ 0)
    go true e = inl (ltb-true j (length B) e)
    go false e = inr (ap face (get_or-eq_default B (pos 0) {n = j} (ltb-false j (length B) e)))

-- nothing is hit at a fresh start
fresh_inv : (s : Settings) (B : List ℤ) → length B ≡ cells_in s → InvIn B (fresh_desk s B)
fresh_inv s B e = record { long = length-replicate (cells_in s) 10 ∙ sym e; struck = λ t. absurd (false≢true t) }

-- equally many mines leave equally many safe cells
same_safe : (A B : List ℤ) → length A ≡ length B → count (mine_at A) (length A) ≡ count (mine_at B) (length B) → safe_in A ≡ safe_in B
unfolding safe_in
same_safe A B e m = omega (arith, count_not (mine_at A) (length A), count_not (mine_at B) (length B))

-- ---- twins -------------------------------------------------------------------------------------------------------------------------------

-- boards of one size agree off the board
off_board : (A B : List ℤ) (j : ℕ) → length A ≡ length B → (j < length A → face_at A j ≡ face_at B j) → face_at A j ≡ face_at B j
off_board A B j e f = go (on_board A j) (on_board B j)
  where
    go : (j < length A) ⊎ (face_at A j ≡ 0) → (j < length B) ⊎ (face_at B j ≡ 0) → face_at A j ≡ face_at B j
    go (inl l) q = f l
    go (inr z) (inl l) = f (rw e l)
    go (inr z) (inr w) = z ∙ sym w

-- the fresh desks of twins look alike
pub fresh_alike : (s : Settings) (end : List ℕ) (A B : List ℤ) → Twins s end A B → over (fresh_desk s A) bare ≡ over (fresh_desk s B) bare
fresh_alike s end A B tw =
    let a = (checked s.rows s.columns A tw.first).0 in
    let b = (checked s.rows s.columns B tw.second).0 in
    ap (λ (n : ℕ). desk (fresh_of s n) (replicate (cells_in s) 10) [])
    (same_safe A B (a ∙ sym b) (ap (count (mine_at A)) a ∙ (tw.mines ∙ ap (count (mine_at B)) (sym b))))

-- twins cannot be told apart by quiet moves: every play is the same but for what it hides
pub twins_alike : (ms : List Move) (s : Settings) (A B : List ℤ) → Twins s (end_of s A (row_of A ms (fresh_desk s A))) A B
    → map bared (row_of A ms (fresh_desk s A)) ≡ map bared (row_of B ms (fresh_desk s B))
twins_alike ms s A B tw =
    row_alike A B two ms (fresh_desk s A) (fresh_desk s B) (fresh_alike s end.shown A B tw) ia (fresh_inv s B b.0) agree
  where
    a : (length A ≡ cells_in s) × Valued A
    a = checked s.rows s.columns A tw.first

    b : (length B ≡ cells_in s) × Valued B
    b = checked s.rows s.columns B tw.second

    two : Two A B
    two = record {
      valued_a = a.1;
      valued_b = b.1;
      size = a.0 ∙ sym b.0;
    }

    ia : InvIn A (fresh_desk s A)
    ia = fresh_inv s A a.0

    end : Desk
    end = last_desk (fresh_desk s A) (row_of A ms (fresh_desk s A))

    order : InvIn A end
    order = row_keeps A a.1 ms (fresh_desk s A) ia

    -- a hit mine is on the board
    hit_cell : (k : ℕ) → get_or end.shown k 0 ≡ 15 → k < cells_in s
    hit_cell k e = rw (order.long ∙ a.0) at (entry_in end.shown k (omega arith))

    known_same : (j : ℕ) → j < cells_in s → KnownIn j end → face_at A j ≡ face_at B j
    known_same j l (number k) = tw.opens j l k
    known_same j l (wrong k) = tw.wrong j l k
    known_same j l (hit k) = tw.hits j l k
    known_same j l (flag t k) = let w = order.struck t in tw.flags w.0 (hit_cell w.0 w.1) w.1 j l k

    agree : AgreeIn A B end
    agree j k = off_board A B j two.size (λ l. known_same j (rw a.0 at l) k)

-- so what is seen of them is the same
pub row_secrecy : (ms : List Move) (s : Settings) (A B : List ℤ) → Twins s (end_of s A (row_of A ms (fresh_desk s A))) A B
    → seen_of s (row_of A ms (fresh_desk s A)) ≡ seen_of s (row_of B ms (fresh_desk s B))
row_secrecy ms s A B tw =
    let before = replicate {A = ℕ} (cells_in s) 10 in
    seen_bared before (row_of A ms (fresh_desk s A))
    ∙ (ap (seen_all before) (twins_alike ms s A B tw) ∙ sym (seen_bared before (row_of B ms (fresh_desk s B))))
