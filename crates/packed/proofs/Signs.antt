-- A byte of the mine board as a signed number, and a board signed cell by cell.
use mathlib.Core.Path.{◌≡◌, refl, sym, ap, ◌∙◌}
use mathlib.Core.Bool.{Bool, true, false}
use mathlib.Core.List.{List, [], ◌∷◌, ◌++◌, map, map-append}
use Prim.Native.Nat.{ℕ, suc, ◌+◌, ◌-◌, ◌<◌, ◌≤◌}
use native.Mathlib.Omega.{arith}
use native.Mathlib.Numerals.{add-one}
use lib.Dec.{ltb}
use lib.IntN.{ℤ, pos, negsuc}
use lib.ListN.{length, get_or, set, take, length-set}
use lib.Seq.{take-suc, take-suc-set, take_all}
use borrow.Author.Tests.{lt-ltb, le-ltb, ltb-true, ltb-false}
use mir.Syntax.{w8}
use mir.Val.{Fits, to_z, of_z}
use mir.Facts.{of_z-to_z, to_z_pos, to_z-neg}
use Rattle.packed.specs.Packed.{signed_of}

-- ---- a byte ----------------------------------------------------------------------------------------------------------------------------

signed_low : (b : ℕ) → b < 128 → signed_of b ≡ pos b
signed_low b h = simp (lt-ltb b 128 h)

signed_high : (b : ℕ) → 128 ≤ b → signed_of b ≡ negsuc (255 - b)
signed_high b h = simp (le-ltb b 128 h)

pub signed_is : (b : ℕ) → b < 256 → to_z w8 b ≡ signed_of b
signed_is b small = go (ltb b 128) refl
  where
    go : (t : Bool) → ltb b 128 ≡ t → to_z w8 b ≡ signed_of b
    go true e = to_z_pos w8 {n = b} (ltb-true b 128 e) ∙ sym (signed_low b (ltb-true b 128 e))
    go false e =
        let large = ltb-false b 128 e in
        let k : 256 - suc (255 - b) ≡ b = omega arith in
        ap (to_z w8) (sym k) ∙ to_z-neg w8 (255 - b) (omega arith) ∙ sym (signed_high b large)

-- ---- a board ---------------------------------------------------------------------------------------------------------------------------

-- the first cells are signed
pub record Signing (bytes : List ℕ) (mines : List ℤ) (i : ℕ) : Type 0 where
  pub long : length mines ≡ length bytes
  pub same : take i mines ≡ map signed_of (take i bytes)

pub signing_start : {bytes : List ℕ} {mines : List ℤ} → length mines ≡ length bytes → Signing bytes mines 0
signing_start h = record { long = h; same = refl }

module _ {bytes : List ℕ} {mines : List ℤ} {i : ℕ} (g : Signing bytes mines i) where
  pub signing_turn : {z : ℤ} → z ≡ to_z w8 (get_or bytes i 0) → Fits w8 (get_or bytes i 0) → i < length bytes
      → Signing bytes (set mines i (to_z w8 (of_z w8 z))) (i + 1)
  signing_turn {z} e small h =
      let long : length mines ≡ length bytes = g.long in
      let back : to_z w8 (of_z w8 z) ≡ signed_of (get_or bytes i 0) =
      ap (λ (x : ℤ). to_z w8 (of_z w8 x)) e ∙ ap (to_z w8) (of_z-to_z {w = w8} small) ∙ signed_is (get_or bytes i 0) small.fits in
      record {
        long = length-set mines i (to_z w8 (of_z w8 z)) ∙ long;
        same =
            rw (add-one, back)
            (take-suc-set mines i (signed_of (get_or bytes i 0)) (omega arith)
            ∙ ap (λ (l : List ℤ). l ++ (signed_of (get_or bytes i 0) ∷ [])) g.same
            ∙ sym (map-append signed_of (take i bytes) (get_or bytes i 0 ∷ []))
            ∙ ap (map signed_of) (sym (take-suc bytes i 0 h)));
      }

  pub signing_done : length bytes ≤ i → mines ≡ map signed_of bytes
  signing_done h =
      let long : length mines ≡ length bytes = g.long in
      sym (take_all i mines (omega arith)) ∙ g.same ∙ ap (map signed_of) (take_all i bytes h)
