-- The cells that a chord hands on.
use Rattle.std.specs.Prelude.{List, ℕ, take}
use Rattle.rules.specs.declared.Cells.{Cells}

-- an array's first cells
abbrev pub cell_list : Cells → List ℕ
cell_list c = take c.n c.at
