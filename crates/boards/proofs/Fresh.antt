-- Boards filled over their whole length, with a fresh position, are the fresh desk where their lengths are those of the size.
use mathlib.Core.Path.{◌≡◌}
use mathlib.Core.List.{List}
use Prim.Native.Nat.{ℕ}
use lib.ListN.{replicate}
use lib.IntN.{ℤ}
use Rattle.rules.specs.declared.Settings.{Settings}
use Rattle.rules.specs.declared.Position.{Position}
use Rattle.rules.specs.States.{fresh_of}
use Rattle.rules.specs.Board.{safe_in}
use Rattle.rules.specs.Lent.{bit_bytes}
use Rattle.rules.specs.Clicks.{desk}
use Rattle.rules.specs.Calls.{cells_in, fresh_desk}

pub filled_fresh : (B : List ℤ) {s : Settings} {m n k : ℕ} {p : Position} {shown bits : List ℕ} → m ≡ cells_in s → n ≡ bit_bytes (cells_in s)
    → p ≡ fresh_of s k → k ≡ safe_in B → shown ≡ replicate m 10 → bits ≡ replicate n 0 → desk p shown bits ≡ fresh_desk s B
filled_fresh B em en ep ek es eb = rw (ep, ek, es, eb, em, en)
