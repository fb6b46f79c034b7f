-- What a function leaves, from what the function that it calls left.
use mathlib.Core.Path.{◌≡◌, ◌∙◌, sym, refl}
use mathlib.Core.List.{List}
use Prim.Native.Nat.{ℕ}
use Rattle.cells.specs.Promises.{Leaves}

-- the called function's outcome is this one's
pub leaves_by : {A : Type 0} {got due due' : A} {w w' : List ℕ} → Leaves got due w w' → due' ≡ due → Leaves got due' w w'
leaves_by h e = record { outcome = h.outcome ∙ sym e; same = h.same }

-- nothing was called that could touch the work
pub leaves_here : {A : Type 0} {got due : A} {w : List ℕ} → got ≡ due → Leaves got due w w
leaves_here e = record { outcome = e; same = refl }
