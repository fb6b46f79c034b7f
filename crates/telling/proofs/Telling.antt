-- A step's line is that of its outcome; and what the pair leaves.
use mathlib.Core.Path.{◌≡◌, refl, ap, ap₂, ◌∙◌}
use mathlib.Core.Bool.{Bool, true, false, ◌&&◌, ◌||◌}
use mathlib.Core.List.{List}
use Prim.Native.Nat.{ℕ, ◌<◌, ◌≤◌}
use native.Mathlib.Omega.{arith}
use borrow.Author.Tests.{eq-eqb, ne_eqb}
use lib.Dec.{eqb, leb}
use lib.IntN.{ℤ}
use lib.ListN.{length, get_or, take}
use Rattle.rules.specs.declared.Answer.{Answer}
use Rattle.rules.specs.declared.Position.{Position}
use Rattle.rules.specs.Clicks.{Desk, desk, on}
use Rattle.rules.specs.Mouse.{both_down, resolved}
use Rattle.rules.specs.Step.{mouse}
use Rattle.rules.specs.Words.{pick}
use Rattle.rules.specs.Calls.{Outcome, outcome, resolve_of, step_of}
use Rattle.cells.proofs.Words.{pick_both}
use Rattle.board.specs.Pair.{pair_of}
use Rattle.board.proofs.Pair.{plain_at_of, Resolves, back, heard, resolves}
use Rattle.writing.specs.Put.{PutWithin}
use Rattle.writing.proofs.Putting.{within, put_as, put_front}
use Rattle.packed.specs.Packed.{position_in, signed_all}
use Rattle.packed.specs.Line.{outcome_line, outcome_room, line_after}
use Rattle.telling.specs.Told.{call_at, called, called_by, step_line}
use Rattle.telling.specs.declared.Call.{Call}
use Rattle.telling.specs.declared.Call.TheVariants.{Resolve, Step, Both}

-- the call that a number means is the one that it names
call_is : (n : ℕ) (B : List ℤ) (code r c : ℕ) (d : Desk) (work : List ℕ) → called (call_at n) B code r c d work ≡ called_by n B code r c d work
unfolding call_at
call_is n B code r c d work = go (eqb n 1) (eqb n 2)
  where
    go : (s t : Bool) → called (pick s Resolve (pick t Step Both)) B code r c d work
        ≡ pick s (outcome (resolve_of B code r c d) d.shown d.bits work) (pick t (step_of B code r c d work) (pair_of B code r c d work))
    go true t = refl
    go false true = refl
    go false false = refl

-- the step that was played, of the board that was signed and the position that was read, is the packed one
module _ (head bytes shown bits work : List ℕ) {B : List ℤ} {p : Position} {a : Answer} {shown' bits' work' : List ℕ} {k : Call} (meant : k ≡ call_at (get_or head 55 0))
    (signed : B ≡ signed_all bytes) (read : p ≡ position_in head)
    (played : outcome a shown' bits' work' ≡ called k B (get_or head 51 0) (get_or head 52 0) (get_or head 53 0) (desk p shown bits) work) where
  line_is : outcome_line a shown' bits' ≡ step_line head bytes shown bits work
  line_is =
      ap line_after
      (played
      ∙ ap (λ (x : Call). called x B (get_or head 51 0) (get_or head 52 0) (get_or head 53 0) (desk p shown bits) work) meant
      ∙ call_is (get_or head 55 0) B (get_or head 51 0) (get_or head 52 0) (get_or head 53 0) (desk p shown bits) work
      ∙ ap (λ (M : List ℤ). called_by (get_or head 55 0) M (get_or head 51 0) (get_or head 52 0) (get_or head 53 0) (desk p shown bits) work) signed
      ∙ ap (λ (q : Position). called_by (get_or head 55 0) (signed_all bytes) (get_or head 51 0) (get_or head 52 0) (get_or head 53 0) (desk q shown bits) work) read)

  pub step_told : {out out' : List ℕ} {r : ℕ} → length shown' ≡ length shown → length bits' ≡ length bits
      → PutWithin (outcome_room (length shown') (length bits')) (outcome_line a shown' bits') 0 out out' r
      → PutWithin (outcome_room (length shown) (length bits)) (step_line head bytes shown bits work) 0 out out' r
  step_told cells bytes t =
      let l = ap length line_is in
      let s = t.short in
      within (omega arith) (put_as line_is t.put)

-- what is handed over is the line of the step that was read
module _ (head bytes shown bits work : List ℕ) {out out' : List ℕ} {n m k : ℕ} (cells : length shown ≡ m) (flags : length bits ≡ k) (room : outcome_room m k ≤ length out)
    (t : PutWithin (outcome_room (length shown) (length bits)) (step_line head bytes shown bits work) 0 out out' n) where
  pub line_handed : take n out' ≡ step_line head bytes shown bits work
  line_handed = (put_front (let e = ap₂ outcome_room cells flags in let s = t.short in omega arith) t.put).1

-- ---- the pair ----------------------------------------------------------------------------------------------------------------------------

-- a code that fits a byte resolves into one that does
resolved_byte : (rules code m : ℕ) (middle : Bool) → code < 256 → resolved rules code m middle < 256
unfolding resolved
resolved_byte rules code m middle h =
    pick_both (λ (k : ℕ). k < 256) (eqb code 9) _ _ (λ _. pick_both (λ (k : ℕ). k < 256) (leb 3 m) 1 0 (λ _. omega arith) (λ _. omega arith))
    (λ _. pick_both (λ (k : ℕ). k < 256) (eqb code 10) _ _
    (λ _. pick_both (λ (k : ℕ). k < 256) (eqb m 1 || (both_down m || (eqb m 2 && eqb rules 2))) 3 2 (λ _. omega arith) (λ _. omega arith))
    (λ _. pick_both (λ (k : ℕ). k < 256) (eqb code 11) _ _ (λ _. pick_both (λ (k : ℕ). k < 256) middle 6 5 (λ _. omega arith) (λ _. omega arith)) (λ _. h)))

module _ (B : List ℤ) (code r c : ℕ) (d : Desk) (a : Answer) (e : a ≡ resolve_of B code r c d) where
  pub plain_byte : code < 256 → a.value < 256
  plain_byte h = go (resolves B code r c d)
    where
      go : Resolves B code d (resolve_of B code r c d) → a.value < 256
      go (back z q) = let v : a.value ≡ 0 = ap (λ (x : Answer). x.value) (e ∙ q) in omega arith
      go (heard q) =
          let v : a.value ≡ plain_at_of code d = ap (λ (x : Answer). x.value) (e ∙ q) in
          let l = resolved_byte d.position.settings.rules code (mouse d) d.position.middle h in
          omega arith

  pub pair_refused : (work : List ℕ) → (a.number ≡ 0 → ⊥) → outcome a d.shown d.bits work ≡ pair_of B code r c d work
  pair_refused work z = rw (← e, ne_eqb a.number 0 z)

  pub pair_played : (o : Outcome) (work : List ℕ) → a.number ≡ 0 → o ≡ step_of B a.value r c (on d a.position) work → o ≡ pair_of B code r c d work
  pair_played o work z s = rw (← e, eq-eqb a.number 0 z) s
