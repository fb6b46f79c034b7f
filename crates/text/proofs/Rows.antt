-- The shown rows: a loop that has written some of them has the others to write.
use mathlib.Core.Path.{◌≡◌, refl, ap, ap₂, ◌∙◌}
use mathlib.Core.List.{List, [], ◌++◌}
use Prim.Native.Nat.{ℕ, zero, suc, ◌+◌, ◌-◌, ◌*◌, ◌<◌, ◌≤◌}
use native.Mathlib.Omega.{arith}
use native.Mathlib.Nat.{add_comm, suc-mul}
use lib.ListN.{length, get_or, drop, take, length-append, length-drop}
use lib.Seq.{length-take-le, take-take, take_at, drop_at}
use Rattle.std.proofs.lemmas.List.{drop-take}
use Rattle.rules.specs.Printout.{line_of, row_lines}
use Rattle.writing.specs.Put.{Room, Put, PutWithin}
use Rattle.writing.proofs.Putting.{Leads, leads_start, leads_room, leads_turn, leads_done, room_within, within}
use Rattle.writing.proofs.Spaced.{below_all}
use Rattle.text.specs.Rows.{RowsFit}
use Rattle.text.proofs.Lengths.{rows_length}

-- the cells after the last row make no difference
rows_front : (n C : ℕ) (s : List ℕ) → n * C ≤ length s → row_lines n C (take (n * C) s) ≡ row_lines n C s
unfolding row_lines
rows_front zero C s h = refl
rows_front (suc n) C s h =
    let m : suc n * C ≡ C + n * C = suc-mul n C ∙ add_comm (n * C) C in
    let d = length-drop C s in
    rw m
    (ap₂ (λ (a b : List ℕ). line_of a ++ row_lines n C b) (take-take C (C + n * C) s (omega arith)) (drop-take C (n * C) s)
    ∙ ap (λ (l : List ℕ). line_of (take C s) ++ l) (rows_front n C (drop C s) (omega arith)))

rows_more : (n C : ℕ) (row rest : List ℕ) → length row ≡ C → row_lines (suc n) C (row ++ rest) ≡ line_of row ++ row_lines n C rest
unfolding row_lines
rows_more n C row rest e = ap₂ (λ (a b : List ℕ). line_of a ++ row_lines n C b) (take_at row rest C e) (drop_at row rest C e)

rows_next : (left C : ℕ) (row rest : List ℕ) → 1 ≤ C → length row ≡ C → length (row ++ rest) ≡ left * C
    → (row_lines left C (row ++ rest) ≡ line_of row ++ row_lines (left - 1) C rest) × (length rest ≡ (left - 1) * C)
rows_next zero C row rest h e long = let l = length-append row rest in absurd (omega arith)
rows_next (suc n) C row rest h e long =
    let l = length-append row rest in
    let m = suc-mul n C in
    let d : suc n - 1 ≡ n = omega arith in
    rw d (rows_more n C row rest e, omega arith)

rows_none : (left C : ℕ) (s : List ℕ) → length s ≡ left * C → length s < C → row_lines left C s ≡ []
unfolding row_lines
rows_none zero C s e h = refl
rows_none (suc n) C s e h = let m = suc-mul n C in absurd (omega arith)

-- the rows and columns by other names
pub rows_as : {r c R C at o : ℕ} (shown : List ℕ) {out out' : List ℕ} → r ≡ R → c ≡ C → PutWithin (4 * (r * c)) (row_lines r c shown) at out out' o
    → PutWithin (4 * (R * C)) (row_lines R C shown) at out out' o
rows_as shown e d p = rw (e, d) at p

-- what is left of the cells are the rows not yet written
pub record Going (R C : ℕ) (shown : List ℕ) (at : ℕ) (out₀ out : List ℕ) (o size : ℕ) (rest : List ℕ) : Type 0 where
  pub left : ℕ
  pub leads : Leads (row_lines R C shown) at out₀ (row_lines left C rest) o out
  pub long : length rest ≡ left * C
  pub wide : size ≡ C

module _ (R C : ℕ) (shown : List ℕ) (at : ℕ) (out₀ : List ℕ) (fit : RowsFit R C shown at out₀) where
  pub going_start : {size : ℕ} {rest : List ℕ} → size ≡ C → rest ≡ take (R * C) shown → Going R C shown at out₀ out₀ at size rest
  going_start w e =
      record {
        left = R;
        leads = rw (e, rows_front R C shown fit.cells) leads_start;
        long = ap length e ∙ length-take-le (R * C) shown fit.cells;
        wide = w;
      }

  module _ {out : List ℕ} {o size : ℕ} {rest : List ℕ} (g : Going R C shown at out₀ out o size rest) where
    module _ (row rest' : List ℕ) (e : rest ≡ row ++ rest') (n : length row ≡ size) where
      going_next : (row_lines g.left C rest ≡ line_of row ++ row_lines (g.left - 1) C rest') × (length rest' ≡ (g.left - 1) * C)
      going_next = rw e (rows_next g.left C row rest' fit.column (n ∙ g.wide) (rw e at g.long))

      pub going_row : 1 ≤ length row
      going_row = let c = fit.column in let w = g.wide in omega arith

      pub going_room : ((i : ℕ) → get_or shown i 0 < 1000) → Room (line_of row) o out
      going_room b =
          leads_room _ _ (room_within (4 * (R * C)) (rows_length R C shown fit.column fit.cells (below_all 1000 shown b)) fit.fits)
          g.leads going_next.0

      pub going_turn : {out' : List ℕ} {o' size' : ℕ} → size' ≡ size → Put (line_of row) o out out' o' → Going R C shown at out₀ out' o' size' rest'
      going_turn w p = record { left = g.left - 1; leads = leads_turn _ _ g.leads going_next.0 p; long = going_next.1; wide = w ∙ g.wide }

    pub going_done : ((i : ℕ) → get_or shown i 0 < 1000) → length rest < size → PutWithin (4 * (R * C)) (row_lines R C shown) at out₀ out o
    going_done b h =
        within (rows_length R C shown fit.column fit.cells (below_all 1000 shown b))
        (leads_done g.leads (rows_none g.left C rest g.long (let w = g.wide in omega arith)))
