-- What an opened cell shows: the signed test and cast of the code, at a value of the board; and a cell looked at.
use mathlib.Core.Path.{◌≡◌, refl, ap, sym, ◌∙◌}
use mathlib.Core.Bool.{true, false, true≢false, false≢true}
use Prim.Native.Nat.{ℕ, zero, suc, ◌+◌, ◌<◌, ◌≤◌, zero-le}
use borrow.Author.Tests.{le-ltb, lt-ltb, leb-true, ne_eqb, eqb-true}
use native.Mathlib.Omega.{arith}
use mathlib.Core.List.{List}
use lib.Dec.{T, eqb}
use lib.ListN.{length, get_or, get_or-eq_default}
use lib.IntN.{ℤ, pos, negsuc, nat_abs}
use lib.Signed.{lt_z, non_neg}
use mir.Syntax.{w8}
use mir.Val.{Fits, to_z, of_z}
use mir.ValLaws.{to_z-of_z}
use Rattle.rules.specs.Words.{bit}
use Rattle.rules.specs.Board.{face, face_at, value_ok, values_ok}
use Rattle.rules.specs.Opening.{closed_at}
use Rattle.rules.specs.Clicks.{flag_at}
use Rattle.cells.specs.declared.Around.{Around}
use Rattle.cells.specs.Ground.{Valued, face_is, Saw}
use Rattle.cells.proofs.Words.{every_at}

number_back : (n : ℕ) → n ≤ 8 → to_z w8 (of_z w8 (pos n)) ≡ pos n
number_back n h = to_z-of_z w8 (pos n) (record { sfits = omega arith })

-- below 0 is the mine
pub face_mine : (z : ℤ) → value_ok z ≡ true → lt_z (to_z w8 (of_z w8 z)) (pos 0) ≡ true → 15 ≡ face z
face_mine (pos n) v e = absurd (false≢true (sym (le-ltb n 0 zero-le) ∙ (rw (number_back n (leb-true n 8 v)) at e)))
face_mine (negsuc n) v e = refl

-- any other value is its number
pub face_number : (z : ℤ) → value_ok z ≡ true → lt_z (to_z w8 (of_z w8 z)) (pos 0) ≡ false
    → (T (non_neg (to_z w8 (of_z w8 z))) × Fits w8 (nat_abs (to_z w8 (of_z w8 z)))) × (nat_abs (to_z w8 (of_z w8 z)) ≡ face z)
face_number (pos n) v e = let h = leb-true n 8 v in rw (number_back n h) ((tt, record { fits = omega arith }), refl)
face_number (negsuc zero) v e = absurd (true≢false e)
face_number (negsuc (suc n)) v e = absurd (let z = eqb-true (suc n) 0 v in omega arith)

-- a face that is not a mine's is at most 8
pub face_safe : (z : ℤ) → value_ok z ≡ true → (face z ≡ 15 → ⊥) → face z ≤ 8
face_safe (pos n) v h = leb-true n 8 v
face_safe (negsuc n) v h = absurd (h refl)

-- a face, where the cell is on the board
pub face_on : (B : List ℤ) (f q : ℕ) → q < length B → face_is B f q ≡ eqb (face_at B q) f
face_on B f q h = rw (lt-ltb q (length B) h)

-- ---- a cell looked at, and counted --------------------------------------------------------------------------------------------------------

-- off the board nothing is shown
pub unseen : (shown : List ℕ) (q v : ℕ) → length shown ≤ q → eqb (get_or shown q 0) (suc v) ≡ false
unseen shown q v h = ap (λ (x : ℕ). eqb x (suc v)) (get_or-eq_default shown 0 h) ∙ ne_eqb 0 (suc v) (λ e. omega arith)

pub saw_none : (shown : List ℕ) (q : ℕ) (past : Around) → flag_at shown q ≡ false → closed_at shown q ≡ false → Saw shown q past past
saw_none shown q past f c =
    let a : bit (flag_at shown q) ≡ 0 = ap bit f in
    let b : bit (closed_at shown q) ≡ 0 = ap bit c in
    record { flag = omega arith; close = omega arith }

pub saw_flag : (shown : List ℕ) (q : ℕ) (past : Around) → get_or shown q 0 ≡ 11
    → Saw shown q past (record { flags = past.flags + 1; closed = past.closed })
saw_flag shown q past e =
    let a : bit (flag_at shown q) ≡ 1 = ap (λ (x : ℕ). bit (eqb x 11)) e in
    let b : bit (closed_at shown q) ≡ 0 = ap (λ (x : ℕ). bit (eqb x 10)) e in
    record { flag = omega arith; close = omega arith }

pub saw_closed : (shown : List ℕ) (q : ℕ) (past : Around) → get_or shown q 0 ≡ 10
    → Saw shown q past (record { flags = past.flags; closed = past.closed + 1 })
saw_closed shown q past e =
    let a : bit (flag_at shown q) ≡ 0 = ap (λ (x : ℕ). bit (eqb x 11)) e in
    let b : bit (closed_at shown q) ≡ 1 = ap (λ (x : ℕ). bit (eqb x 10)) e in
    record { flag = omega arith; close = omega arith }

-- what the test of the values gave
pub values_valued : (B : List ℤ) → values_ok B ≡ true → Valued B
unfolding values_ok
values_valued B e = every_at (λ i. value_ok (get_or B i (pos 0))) (length B) e
