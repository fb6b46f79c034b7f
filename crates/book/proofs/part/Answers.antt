-- `book::part` meets its contract: either the bytes do not fit, or the part is cut where the definition cuts it.
use native.Mathlib.Omega.{arith}
use mathlib.Core.Path.{◌≡◌, sym}
use Prim.Native.Nat.{◌*◌, ◌^◌, ◌<◌}
use Rattle.book.proofs.Reading.{part_cut, part_none}
use Rattle.book.proofs.part.Goals as goal

pub returns-in_default : goal.returns-in_default
returns-in_default c =
    let wide : c.args.size * c.args.count < 2 ^ 64 → ⊥ = c.in_default.ensures in
    sym (part_none _ _ _ (omega arith))

pub returns-then-s-at : goal.returns-then-s-at
returns-then-s-at c = sym (part_none _ _ _ (omega arith))

pub returns-then-s-at-2 : goal.returns-then-s-at-2
returns-then-s-at-2 c =
    let e : c.in-Some.n ≡ c.args.size * c.args.count = c.in-Some.ensures.1 in
    sym (part_none _ _ _ (omega arith))

pub returns : goal.returns
returns c =
    let e : c.in-Some.n ≡ c.args.size * c.args.count = c.in-Some.ensures.1 in
    rw (← e) (part_cut c.args.s.now c.args.at c.in-Some.n (omega arith))
