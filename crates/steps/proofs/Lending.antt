-- Parts of the rooms: each length of two bytes fits, and what is lent leaves room for its line.
use mathlib.Core.Path.{◌≡◌, sym, ◌∙◌}
use mathlib.Core.List.{List, ◌++◌}
use Prim.Native.Nat.{ℕ, ◌<◌, ◌≤◌}
use native.Mathlib.Omega.{arith}
use lib.IntN.{ℤ}
use lib.ListN.{length, take, drop, length-append, length-drop}
use lib.Seq.{length-take-le}
use Rattle.packed.specs.Line.{outcome_room}
use Rattle.steps.specs.Rooms.{Rooms}

pub part_within : (n k : ℕ) → n < 65536 → 65536 ≡ k → n ≤ k
part_within n k h e = omega arith

pub part_length : {A : Type 0} (n : ℕ) (l : List A) → n < 65536 → 65536 ≡ length l → n ≡ length (take n l)
part_length n l h e = sym (length-take-le n l (omega arith))

-- a part that came back as long as it was lent leaves its room as long
pub part_back : {A : Type 0} (n : ℕ) (l m : List A) → n < 65536 → 65536 ≡ length l → length m ≡ length (take n l) → length (m ++ drop n l) ≡ length l
part_back n l m h e k =
    let a = length-append m (drop n l) in
    let b = length-take-le n l (part_within n (length l) h e) in
    let d = length-drop n l in
    omega arith

pub parts_fit : {bytes : List ℕ} {mines : List ℤ} {shown bits work out : List ℕ} (cells looks flags : ℕ)
    → Rooms bytes mines shown bits work out → cells < 65536 → looks < 65536 → flags < 65536
    → (length (take cells mines) ≡ length (take cells bytes)) × (outcome_room (length (take looks shown)) (length (take flags bits)) ≤ length out)
parts_fit {bytes} {mines} {shown} {bits} {work} {out} cells looks flags r hc hl hf =
    let s = part_length looks shown hl r.cell in
    let b = part_length flags bits hf r.flag in
    let t = r.text in
    (sym (part_length cells mines hc r.mine) ∙ part_length cells bytes hc r.byte, omega arith)

-- lent and given back, they are as long as before
pub rooms_kept : {bytes bytes' : List ℕ} {mines mines' : List ℤ} {shown shown' bits bits' work work' out out' : List ℕ}
    → Rooms bytes mines shown bits work out
    → length bytes' ≡ length bytes → length mines' ≡ length mines → length shown' ≡ length shown
    → length bits' ≡ length bits → length work' ≡ length work → length out' ≡ length out
    → Rooms bytes' mines' shown' bits' work' out'
rooms_kept r b m s f w o =
    record {
      byte = r.byte ∙ sym b;
      mine = r.mine ∙ sym m;
      cell = r.cell ∙ sym s;
      flag = r.flag ∙ sym f;
      room = r.room ∙ sym w;
      text = r.text ∙ sym o;
    }
