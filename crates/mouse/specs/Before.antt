-- Resolving in document 01's words, before the league's rules 2: what rules 1 are held to, in proofs/Rules.antt.
use Rattle.std.specs.Prelude.{Bool, ◌||◌, ℕ, leb, eqb}
use Rattle.rules.specs.Words.{pick}

-- `l` is a release in states 3 to 6, `r` in 1, 4 and 5, `m` where the middle flag is set; every other code stays
unfoldable pub resolved_before : ℕ → ℕ → Bool → ℕ
resolved_before code m middle =
    pick (eqb code 9) (pick (leb 3 m) 1 0)
    (pick (eqb code 10) (pick (eqb m 1 || (eqb m 4 || eqb m 5)) 3 2)
    (pick (eqb code 11) (pick middle 6 5)
    code))
