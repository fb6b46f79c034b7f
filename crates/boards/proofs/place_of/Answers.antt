-- `boards::place_of` meets its contract: a row below 65 and a column below 256 are bytes. Assumes nothing.
use mathlib.Core.Path.{ap}
use Prim.Native.Nat.{ℕ, ◌<◌}
use native.Mathlib.Nat.{div-lt_iff_lt-mul, mod-lt}
use native.Mathlib.Omega.{arith}
use Rattle.rules.specs.Board.{place_of}
use Rattle.boards.proofs.place_of.Goals as goal

pub overflow_cast-row : goal.overflow_cast-row
overflow_cast-row c = record { fits = (div-lt_iff_lt-mul {k = c.from-c.result} {x = c.args.cell} {y = 256} (omega arith)).1 (omega arith) }

pub overflow_cast-column : goal.overflow_cast-column
overflow_cast-column c = let z : 0 < c.from-c.result = omega arith in
    let l = mod-lt c.args.cell z in
    record { fits = omega arith }

pub returns : goal.returns
returns c = ap (λ (n : ℕ). place_of n c.args.cell) c.from-c.ensures
