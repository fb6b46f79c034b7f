-- What a lawful desk gives the code that plays on it: room in every count.
use mathlib.Core.Path.{◌≡◌}
use mathlib.Core.List.{List}
use Prim.Native.Nat.{ℕ, ◌<◌}
use native.Mathlib.Omega.{arith}
use native.Mathlib.Decide.{dec_lt}
use lib.ListN.{length, get_or, get_or-eq_default}
use lib.IntN.{ℤ}
use Rattle.rules.specs.Clicks.{Desk}
use Rattle.cells.specs.Promises.{RoomAt}
use Rattle.opening.proofs.Cost.{closed_most}
use Rattle.keep.specs.Kept.{LawfulAt}
use Rattle.keep.proofs.Reshow.{flag_has}
use Rattle.keep.proofs.Room.{sound_small}

-- an 11 is shown on the board only
pub eleven_in : (shown : List ℕ) (i : ℕ) → get_or shown i 0 ≡ 11 → i < length shown
eleven_in shown i e = go (dec_lt i (length shown))
  where
    go : Dec (i < length shown) → i < length shown
    go (yes h) = h
    go (no h) = absurd (let z = get_or-eq_default {A = ℕ} shown 0 {n = i} (omega arith) in omega arith)

pub lawful_room : {B : List ℤ} {d : Desk} → LawfulAt B d → RoomAt d.position d.shown
lawful_room {B} {d} l =
    let h = l.kept.sound in
    let s = sound_small h in
    let few = l.few in
    let c = closed_most d.shown in
    let z = h.ground.mined.sized.cells in
    let e = h.ground.board in
    record {
      pass = record { flag = omega (arith, s.flag); solved = omega (arith, s.solved) };
      left = omega (arith, s.left);
      right = omega (arith, s.right);
      double = omega (arith, s.double);
      lce = omega (arith, s.lce);
      dce = omega (arith, s.dce);
      rce = omega (arith, s.rce);
      solved_left = omega (arith, s.solved);
      flagged = λ i q. flag_has h i (eleven_in d.shown i q) q;
    }
