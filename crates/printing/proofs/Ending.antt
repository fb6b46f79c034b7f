-- The end of a printout, and the line of a play, from the numbers that the code has.
use mathlib.Core.Path.{◌≡◌, ◌∙◌, ap₂, subst⁻¹}
use mathlib.Core.List.{List, [], ◌∷◌}
use Prim.Native.Nat.{ℕ, ◌*◌, ◌≤◌}
use native.Mathlib.Omega.{arith}
use lib.IntN.{ℤ}
use lib.ListN.{length}
use Rattle.rules.specs.declared.Position.{Position}
use Rattle.rules.specs.Lent.{work_room}
use Rattle.rules.specs.Judging.{total3bv, left_to_solve}
use Rattle.rules.specs.Clicks.{desk}
use Rattle.rules.specs.Printout.{line_of, end_lines}
use Rattle.cells.specs.Ground.{Mined, Zeros}
use Rattle.cells.specs.Promises.{Leaves}
use Rattle.judging.proofs.Judging.{total_cells, left_cells}
use Rattle.game.specs.Core.{Blank}
use Rattle.writing.specs.Put.{PutWithin}
use Rattle.text.specs.Texts.{end_text}
use Rattle.text.proofs.Printed.{end_same}

within_as : {most : ℕ} {a b : List ℕ} {at r : ℕ} {out out' : List ℕ} → a ≡ b → PutWithin most a at out out' r → PutWithin most b at out out' r
within_as {most} {a} {b} {at} {r} {out} {out'} e h = rw e at h

pub play_line : (n a : ℕ) {g g' m m' : ℕ} {at r : ℕ} {out out' : List ℕ} → g ≡ g' → m ≡ m'
    → PutWithin 20 (line_of (n ∷ a ∷ g ∷ m ∷ [])) at out out' r → PutWithin 20 (line_of (n ∷ a ∷ g' ∷ m' ∷ [])) at out out' r
play_line n a e d h = rw (e, d) at h

module _ (B : List ℤ) (p : Position) {r c : ℕ} (er : r ≡ p.settings.rows) (ec : c ≡ p.settings.columns) where
  -- a count gives its work back, so that the next one may be asked for
  pub ending_asks : {work work' : List ℕ} → work' ≡ work → Mined B p.settings.rows p.settings.columns → Blank p.settings work
      → Mined B r c × ((work_room (r * c) ≤ length work') × Zeros (work_room (r * c)) work')
  ending_asks {work} {work'} e m b =
      subst⁻¹ (λ (w : List ℕ). Mined B r c × ((work_room (r * c) ≤ length w) × Zeros (work_room (r * c)) w)) e (rw (er, ec) m, (rw (er, ec) b.room, rw (er, ec) b.zeros))

  total_is : {t : ℕ} {w w' : List ℕ} → Leaves t (total3bv B r c) w w' → t ≡ total3bv B p.settings.rows p.settings.columns
  total_is l = l.outcome ∙ ap₂ (total3bv B) er ec

  left_is : (shown : List ℕ) {t : ℕ} {w w' : List ℕ} → Leaves t (left_to_solve B r c shown) w w' → t ≡ left_to_solve B p.settings.rows p.settings.columns shown
  left_is shown l = l.outcome ∙ ap₂ (λ (x y : ℕ). left_to_solve B x y shown) er ec

  -- both are at most the cells
  pub total_small : {t : ℕ} {w w' : List ℕ} → Mined B p.settings.rows p.settings.columns → Leaves t (total3bv B r c) w w' → t ≤ 2048
  total_small m l = let a = total_cells B p.settings.rows p.settings.columns in let b = total_is l in let k = m.sized.cells in omega arith

  pub left_small : (shown : List ℕ) {t : ℕ} {w w' : List ℕ} → Mined B p.settings.rows p.settings.columns → Leaves t (left_to_solve B r c shown) w w' → t ≤ 2048
  left_small shown m l = let a = left_cells B p.settings.rows p.settings.columns shown in let b = left_is shown l in let k = m.sized.cells in omega arith

  pub ending_put : (shown : List ℕ) {t left most at q : ℕ} {w w' v v' out out' : List ℕ} → Leaves t (total3bv B r c) w w' → Leaves left (left_to_solve B r c shown) v v'
      → PutWithin most (end_text p t left shown) at out out' q → PutWithin most (end_lines B (desk p shown [])) at out out' q
  ending_put shown l d h = within_as (ap₂ (λ (x y : ℕ). end_text p x y shown) (total_is l) (left_is shown d) ∙ end_same B (desk p shown [])) h
