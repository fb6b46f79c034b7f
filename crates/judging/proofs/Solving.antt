-- What is left to solve: the total where nothing is open, never above it, each opening with a 0 not open once, and none where only mines are closed.
-- All of it follows from laws over any test on cells: the total is the test that every cell passes.
use mathlib.Core.Path.{◌≡◌, refl, ap, ap₂, sym, ◌∙◌}
use mathlib.Core.Bool.{Bool, true, false, ◌&&◌}
use mathlib.Core.List.{List, []}
use Prim.Native.Nat.{ℕ, zero, suc, ◌+◌, ◌*◌, ◌<◌, ◌≤◌}
use native.Mathlib.Omega.{arith}
use borrow.Author.Tests.{leb-true, leb-false, ltb-true, lt-ltb}
use lib.Dec.{leb}
use lib.ListN.{length, get_or}
use lib.IntN.{ℤ}
use Rattle.rules.specs.Words.{bit, count}
use Rattle.rules.specs.Grid.{cells_if}
use Rattle.rules.specs.Board.{face_at, lone_at}
use Rattle.rules.specs.Opening.{count_shown, is_open}
use Rattle.rules.specs.Judging.{openings_judged, lones, bv_of, total3bv, not_open_at, left_to_solve}
use Rattle.cells.specs.Promises.{Leaves}
use Rattle.cells.proofs.Words.{and_left, and_right, and_both, count_mono, count_none, count_zero}
use Rattle.lones.proofs.Lones.{lone_mine, lones_if, not_open_off, not_open_on}
use Rattle.judging.specs.Joining.{In, Names}
use Rattle.judging.proofs.Lists.{cells_in, in_cells, cells_same}
use Rattle.judging.proofs.Naming.{from_more, openings_few, named, openings_named}

-- ---- cells that are not open ---------------------------------------------------------------------------------------------------------

none_shown : (f : ℕ → Bool) → count_shown f [] ≡ 0
unfolding count_shown count
none_shown f = refl

-- none shows 0 to 8
shut : (shown : List ℕ) → count_shown is_open shown ≡ 0 → (i : ℕ) → not_open_at shown i ≡ true
unfolding count_shown
shut shown e i = go (leb (length shown) i) refl
  where
    go : (b : Bool) → leb (length shown) i ≡ b → not_open_at shown i ≡ true
    go true d = sym (not_open_off shown i (leb-true _ _ d))
    go false d =
        let on = leb-false _ _ d in
        let x = count_none (λ j. is_open (get_or shown j 0)) (length shown) e i on in
        sym (not_open_on shown i on) ∙ lt-ltb 8 (get_or shown i 0) (leb-false _ _ x)

module _ (B : List ℤ) (R C : ℕ) where
  -- the lone numbers that pass a test, as a count
  lones_count : (due : ℕ → Bool) (n : ℕ) → lones B R C (cells_if due n) ≡ count (λ i. due i && lone_at B R C i) n
  unfolding cells_if count lones
  lones_count due zero = refl
  lones_count due (suc n) = lones_if B R C (due n) n (cells_if due n) ∙ ap (λ (k : ℕ). k + bit (due n && lone_at B R C n)) (lones_count due n)

  -- ---- over any test -----------------------------------------------------------------------------------------------------------------

  -- tests that agree on the board
  bv_same : (p q : ℕ → Bool) → ((i : ℕ) → i < R * C → p i ≡ q i) → bv_of B R C p ≡ bv_of B R C q
  unfolding bv_of
  bv_same p q h = ap (λ (st : List ℕ). openings_judged B R C [] st + lones B R C st) (cells_same p q (R * C) h)

  -- where one implies the other
  bv_more : (p q : ℕ → Bool) → ((i : ℕ) → i < R * C → p i ≡ true → q i ≡ true) → bv_of B R C p ≤ bv_of B R C q
  unfolding bv_of
  bv_more p q h =
      let k = named B R C (cells_if q (R * C)) in
      let a = openings_few B R C (cells_if p (R * C)) k.names (λ j m b. let r = cells_in p (R * C) j m in k.are.all j (in_cells q (R * C) j r.0 (h j r.0 r.1)) b) in
      let e = k.many in
      let c = count_mono (λ i. p i && lone_at B R C i) (λ i. q i && lone_at B R C i) (R * C) (λ i lt t. and_both (q i) (lone_at B R C i) (h i lt (and_left (p i) _ t)) (and_right (p i) _ t)) in
      let u = lones_count p (R * C) in
      let v = lones_count q (R * C) in
      omega arith

  -- the openings by their names, and the lone numbers
  bv_named : (due : ℕ → Bool) (names : List ℕ) → Names B R C (λ i. due i ≡ true) names → bv_of B R C due ≡ length names + count (λ i. due i && lone_at B R C i) (R * C)
  unfolding bv_of
  bv_named due names k = ap₂ (λ (x y : ℕ). x + y) (openings_named B R C (cells_if due (R * C)) names those) (lones_count due (R * C))
    where
      those : Names B R C (λ i. In i (cells_if due (R * C))) names
      those =
          record {
            each = λ x m. from_more B R C (λ i n e. in_cells due (R * C) i n.on e) (k.each x m);
            all = λ i m n. k.all i (cells_in due (R * C) i m).1 n;
            apart = k.apart;
          }

  -- and such names there are
  some_names : (due : ℕ → Bool) → (names : List ℕ) × Names B R C (λ i. due i ≡ true) names
  some_names due =
      let k = named B R C (cells_if due (R * C)) in (
        k.names,
        record {
          each = λ x m. from_more B R C (λ i n s. (cells_in due (R * C) i s).1) (k.are.each x m);
          all = λ i e n. k.are.all i (in_cells due (R * C) i n.on e) n;
          apart = k.are.apart;
        },
      )

  -- ---- the total ---------------------------------------------------------------------------------------------------------------------

  -- it counts each opening once, whatever the order
  pub total_openings : (names : List ℕ) → Names B R C (λ i. Unit {0}) names → total3bv B R C ≡ length names + count (lone_at B R C) (R * C)
  unfolding total3bv
  total_openings names k =
      bv_named (λ i. true) names (record { each = λ x m. from_more B R C (λ i n u. refl) (k.each x m); all = λ i e n. k.all i tt n; apart = k.apart })

  -- ---- left to solve -----------------------------------------------------------------------------------------------------------------

  module _ (shown : List ℕ) where
    -- with nothing open it is the total
    pub left_fresh : count_shown is_open shown ≡ 0 → left_to_solve B R C shown ≡ total3bv B R C
    unfolding left_to_solve total3bv
    left_fresh e = bv_same (not_open_at shown) (λ i. true) (λ i lt. shut shown e i)

    -- it is never above the total
    pub left_most : left_to_solve B R C shown ≤ total3bv B R C
    unfolding left_to_solve total3bv
    left_most = bv_more (not_open_at shown) (λ i. true) (λ i lt e. refl)

    -- it counts each opening with a 0 not open once: name these openings, by one cell of each and in whatever order, and it is as many as the names, and
    -- the numbers without a 0 neighbour not open
    pub left_openings : (names : List ℕ) → Names B R C (λ i. not_open_at shown i ≡ true) names
        → left_to_solve B R C shown ≡ length names + count (λ i. not_open_at shown i && lone_at B R C i) (R * C)
    unfolding left_to_solve
    left_openings names k = bv_named (not_open_at shown) names k

    -- they can be named
    pub left_named : (names : List ℕ) × Names B R C (λ i. not_open_at shown i ≡ true) names
    left_named = some_names (not_open_at shown)

    -- where only mines are not open, there is no opening to name
    pub left_done : length shown ≡ R * C → ((i : ℕ) → i < R * C → 8 < get_or shown i 0 → face_at B i ≡ 15) → left_to_solve B R C shown ≡ 0
    left_done l h =
        left_openings [] (record { each = λ x m. absurd m; all = λ i e n. absurd (let f = n.face in let m = mine i n.on e in omega arith); apart = tt })
        ∙ (let z = count_zero (λ i. not_open_at shown i && lone_at B R C i) (R * C) (λ i lt. no_number i lt (not_open_at shown i) refl) in omega arith)
      where
        mine : (i : ℕ) → i < R * C → not_open_at shown i ≡ true → face_at B i ≡ 15
        mine i lt e = h i lt (ltb-true 8 _ (not_open_on shown i (rw l lt) ∙ e))

        no_number : (i : ℕ) → i < R * C → (b : Bool) → not_open_at shown i ≡ b → (b && lone_at B R C i) ≡ false
        no_number i lt true e = lone_mine B R C i (mine i lt e)
        no_number i lt false e = refl

  -- where nothing is shown
  pub left_none : left_to_solve B R C [] ≡ total3bv B R C
  left_none = left_fresh [] (none_shown is_open)

  pub total_left : {t : ℕ} {w w' : List ℕ} → Leaves t (left_to_solve B R C []) w w' → Leaves t (total3bv B R C) w w'
  total_left l = record { outcome = l.outcome ∙ left_none; same = l.same }

-- opening more leaves no more to solve
pub left_falls : (B : List ℤ) (R C : ℕ) (shown shown' : List ℕ) → ((i : ℕ) → i < R * C → not_open_at shown' i ≡ true → not_open_at shown i ≡ true)
    → left_to_solve B R C shown' ≤ left_to_solve B R C shown
unfolding left_to_solve
left_falls B R C shown shown' h = bv_more B R C (not_open_at shown') (not_open_at shown) h
