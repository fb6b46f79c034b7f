-- The stack never holds more than 7 × cells + 8.
use mathlib.Core.Path.{◌≡◌}
use mathlib.Core.List.{List, [], ◌∷◌}
use Prim.Native.Nat.{ℕ, zero, suc, ◌+◌, ◌*◌, ◌≤◌}
use native.Mathlib.Omega.{arith}
use lib.ListN.{length}
use lib.IntN.{ℤ}
use Rattle.rules.specs.Opening.{shown_after, stack_after, turns, count_shown}
use Rattle.rules.specs.Lawful.{shows}
use Rattle.cells.specs.Ground.{Valued}
use Rattle.opening.specs.Rust.{highest}
use Rattle.opening.proofs.Cost.{closed_most, cheaper}

highest_most : (B : List ℤ) (R C : ℕ) → Valued B → (m f : ℕ) (st shown : List ℕ) → length st + 7 * count_shown (shows 10) shown ≤ m → highest B R C f st shown ≤ m
unfolding highest
highest_most B R C v m zero st shown h = omega arith
highest_most B R C v m (suc f) [] shown h = omega arith
highest_most B R C v m (suc f) (i ∷ st) shown h =
    let c = cheaper B R C shown i st v in
    let l : length (i ∷ st) ≤ m = omega arith in
    let r = highest_most B R C v m f (stack_after B R C shown i st) (shown_after B shown i) (omega (arith, c.height)) in
    omega arith

pub stack_room_lem : (B : List ℤ) (R C : ℕ) → Valued B → (given shown : List ℕ) → length given ≤ 8 → length shown ≡ R * C
    → highest B R C (turns (R * C)) given shown ≤ 7 * (R * C) + 8
stack_room_lem B R C v given shown h l = highest_most B R C v (7 * (R * C) + 8) (turns (R * C)) given shown (let m = closed_most shown in omega arith)
