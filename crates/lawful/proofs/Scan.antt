-- The scans: one cell more in the census, and the tests of every cell and every bit up to the first that fails.
use mathlib.Core.Path.{◌≡◌, refl, ap, sym, ◌∙◌}
use mathlib.Core.Bool.{Bool, true, false, true≢false}
use mathlib.Core.List.{List}
use Prim.Native.Nat.{ℕ, ◌+◌, ◌*◌, ◌/◌, ◌%◌, ◌^◌, ◌<◌, ◌≤◌}
use native.Mathlib.Omega.{arith}
use lib.Dec.{eqb}
use lib.ListN.{length, get_or}
use lib.IntN.{ℤ}
use Rattle.rules.specs.declared.Position.{Position}
use Rattle.rules.specs.Words.{bit, count, every}
use Rattle.rules.specs.Board.{face_at}
use Rattle.rules.specs.Lent.{bit_at}
use Rattle.rules.specs.Opening.{is_open}
use Rattle.rules.specs.Clicks.{desk}
use Rattle.rules.specs.Lawful.{shows, cell_lawful, bits_lawful}
use Rattle.cells.proofs.Words.{and_both, count_turn, count_le, every_at, every_all, every_turn, every_fails}
use Rattle.bits.proofs.Bits.{bit_none}
use Rattle.boards.proofs.Scans.{every_add}
use Rattle.lawful.specs.declared.Census.{Census}
use Rattle.lawful.specs.Parts.{among_first, Counted, OneMore, cells_lawful, bit_lawful, byte_lawful}
use Rattle.lawful.proofs.Tests.{bit_clear}

-- ---- the census ------------------------------------------------------------------------------------------------------------------------

module _ (shown : List ℕ) where
  pub counted_none : Counted shown 0 (record { opens = 0; flags = 0; wrong = 0; hits = 0 })
  unfolding count
  counted_none = record { opens = refl; elevens = refl; fourteens = refl; fifteens = refl }

  turn : (f : ℕ → Bool) (k past now : ℕ) → past ≡ among_first f shown k → now ≡ past + bit (f (get_or shown k 0)) → now ≡ among_first f shown (k + 1)
  turn f k past now e d = d ∙ count_turn (λ i. f (get_or shown i 0)) k past _ e refl

  pub counted_turn : (k : ℕ) (past c : Census) → Counted shown k past → OneMore past (get_or shown k 0) c → Counted shown (k + 1) c
  counted_turn k past c h o = record {
    opens = turn is_open k _ _ h.opens o.opens;
    elevens = turn (shows 11) k _ _ h.elevens o.elevens;
    fourteens = turn (shows 14) k _ _ h.fourteens o.fourteens;
    fifteens = turn (shows 15) k _ _ h.fifteens o.fifteens;
  }

  few : (f : ℕ → Bool) (k m n : ℕ) → n ≡ among_first f shown k → k ≤ m → n ≤ m
  few f k m n e h = let a = count_le (λ i. f (get_or shown i 0)) k in omega arith

  -- no count is larger than the number of cells
  pub counted_few : (k m : ℕ) (c : Census) → Counted shown k c → k ≤ m → (c.opens ≤ m) × (c.flags ≤ m) × (c.wrong ≤ m) × (c.hits ≤ m)
  counted_few k m c h l = (
    few is_open k m _ h.opens l,
    few (shows 11) k m _ h.elevens l,
    few (shows 14) k m _ h.fourteens l,
    few (shows 15) k m _ h.fifteens l,
  )

  pub counted_all : (k : ℕ) (c : Census) → length shown ≤ k → k ≤ length shown → Counted shown k c → Counted shown (length shown) c
  counted_all k c h l e = let d : k ≡ length shown = omega arith in rw d at e

-- ---- every cell ------------------------------------------------------------------------------------------------------------------------

module _ (question loss : Bool) (B : List ℤ) (shown : List ℕ) where
  pub cells_none : cells_lawful question loss B shown 0 ≡ true
  unfolding cells_lawful every
  cells_none = refl

  pub cells_turn : (k f : ℕ) (r : Bool) → f ≡ face_at B k → r ≡ cell_lawful question loss f (get_or shown k 0) → r ≡ true
      → cells_lawful question loss B shown k ≡ true → cells_lawful question loss B shown (k + 1) ≡ true
  unfolding cells_lawful
  cells_turn k f r e d t h =
      every_turn (λ i. cell_lawful question loss (face_at B i) (get_or shown i 0)) k h
      (ap (λ (x : ℕ). cell_lawful question loss x (get_or shown k 0)) (sym e) ∙ sym d ∙ t)

  pub cells_stop : (n k f : ℕ) (r : Bool) → k < n → f ≡ face_at B k → r ≡ cell_lawful question loss f (get_or shown k 0) → r ≡ false
      → false ≡ cells_lawful question loss B shown n
  unfolding cells_lawful
  cells_stop n k f r l e d t =
      sym (every_fails (λ i. cell_lawful question loss (face_at B i) (get_or shown i 0)) n k l
      (ap (λ (x : ℕ). cell_lawful question loss x (get_or shown k 0)) (sym e) ∙ sym d ∙ t))

  pub cells_done : (n k : ℕ) → n ≤ k → k ≤ n → cells_lawful question loss B shown k ≡ true → true ≡ cells_lawful question loss B shown n
  cells_done n k h l e = let d : k ≡ n = omega arith in sym e ∙ ap (cells_lawful question loss B shown) d

-- ---- every bit -------------------------------------------------------------------------------------------------------------------------

module _ (B : List ℤ) (bits : List ℕ) where
  -- a byte that is 0 has no bit, as no byte at all
  byte_none : (n : ℕ) → get_or bits (n / 8) 0 ≡ 0 → bit_at bits n ≡ false
  unfolding bit_at
  byte_none n e = ap (λ (x : ℕ). eqb (x / 2 ^ (n % 8) % 2) 1) e ∙ bit_none 0 n

  pub byte_clear : (k : ℕ) → get_or bits k 0 ≡ 0 → true ≡ byte_lawful B bits k
  byte_clear k e =
      sym (every_all (λ j. bit_lawful B bits (8 * k + j)) 8
      (λ j h. let q : (8 * k + j) / 8 ≡ k = omega arith in
      sym (bit_clear B bits (8 * k + j) _ refl (byte_none (8 * k + j) (ap (λ (i : ℕ). get_or bits i 0) q ∙ e)))))

  pub bits_none : every (bit_lawful B bits) (8 * 0) ≡ true
  unfolding every
  bits_none = refl

  pub bits_turn : (k : ℕ) → every (bit_lawful B bits) (8 * k) ≡ true → byte_lawful B bits k ≡ true → every (bit_lawful B bits) (8 * (k + 1)) ≡ true
  bits_turn k h e =
      let d : 8 * (k + 1) ≡ 8 * k + 8 = omega arith in
      ap (every (bit_lawful B bits)) d ∙ every_add (bit_lawful B bits) (8 * k) 8 ∙ and_both _ _ h e

  byte_fails : (k : ℕ) → k < length bits → byte_lawful B bits k ≡ false → every (bit_lawful B bits) (8 * length bits) ≡ false
  byte_fails k l e = go (every (bit_lawful B bits) (8 * length bits)) refl
    where
      go : (b : Bool) → every (bit_lawful B bits) (8 * length bits) ≡ b → every (bit_lawful B bits) (8 * length bits) ≡ false
      go true d =
          absurd (true≢false
          (sym (every_all (λ j. bit_lawful B bits (8 * k + j)) 8 (λ j h. every_at (bit_lawful B bits) (8 * length bits) d (8 * k + j) (omega arith))) ∙ e))
      go false d = d

  pub bits_stop : (k : ℕ) (r : Bool) → k < length bits → r ≡ byte_lawful B bits k → r ≡ false
      → (p : Position) (shown : List ℕ) → false ≡ bits_lawful B (desk p shown bits)
  unfolding bits_lawful bit_lawful
  bits_stop k r l d t p shown = sym (byte_fails k l (sym d ∙ t))

  pub bits_done : (k : ℕ) → length bits ≤ k → k ≤ length bits → every (bit_lawful B bits) (8 * k) ≡ true
      → (p : Position) (shown : List ℕ) → true ≡ bits_lawful B (desk p shown bits)
  unfolding bits_lawful bit_lawful
  bits_done k h l e p shown = let d : k ≡ length bits = omega arith in sym e ∙ ap (λ (n : ℕ). every (bit_lawful B bits) (8 * n)) d
