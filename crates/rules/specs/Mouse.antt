-- The mouse: the table of seven states, the league's rules, and resolving `l`, `r`, `m`.
use Rattle.std.specs.Prelude.{Bool, not, ◌&&◌, ◌||◌, List, [], ◌∷◌, ℕ, leb, eqb, get_or}
use Rattle.rules.specs.declared.Position.{Position}
use Rattle.rules.specs.Words.{pick}
use Rattle.rules.specs.States.{mouse_number, mouse_at, with_mouse}

-- the next mouse state in the Playing block, by event code and present state
unfoldable pub mouse_table : List (List ℕ)
mouse_table =
    (3 ∷ 4 ∷ 5 ∷ 3 ∷ 4 ∷ 5 ∷ 6 ∷ [])  -- lc
    ∷ (0 ∷ 1 ∷ 2 ∷ 0 ∷ 1 ∷ 1 ∷ 0 ∷ [])  -- lr
    ∷ (1 ∷ 1 ∷ 2 ∷ 4 ∷ 4 ∷ 5 ∷ 4 ∷ [])  -- rc, where there is something to flag
    ∷ (0 ∷ 0 ∷ 0 ∷ 3 ∷ 6 ∷ 6 ∷ 6 ∷ [])  -- rr
    ∷ (0 ∷ 1 ∷ 2 ∷ 3 ∷ 4 ∷ 5 ∷ 6 ∷ [])  -- mv
    ∷ (0 ∷ 1 ∷ 2 ∷ 3 ∷ 4 ∷ 5 ∷ 6 ∷ [])  -- mc
    ∷ (0 ∷ 1 ∷ 2 ∷ 3 ∷ 4 ∷ 5 ∷ 6 ∷ [])  -- mr
    ∷ (4 ∷ 4 ∷ 5 ∷ 4 ∷ 4 ∷ 5 ∷ 4 ∷ [])  -- cc
    ∷ []

unfoldable pub next_mouse : ℕ → ℕ → ℕ
next_mouse e m = get_or (get_or mouse_table e []) m 0

-- the position with its mouse state moved on by an event code
unfoldable pub moved : ℕ → Position → Position
moved e p = with_mouse p (mouse_at (next_mouse e (mouse_number p.mouse)))

-- both buttons are down: Chording and ChordingNotFlag
unfoldable pub both_down : ℕ → Bool
both_down m = eqb m 4 || eqb m 5

-- the league's rules: 1 and 2
unfoldable pub rules_ok : ℕ → Bool
rules_ok rules = eqb rules 1 || eqb rules 2

-- `l` is a release in states 3 to 6, `r` in 1, 4 and 5, and in 2 where the rules are 2, `m` where the middle flag is set; every other code stays
unfoldable pub resolved : ℕ → ℕ → ℕ → Bool → ℕ
resolved rules code m middle =
    pick (eqb code 9) (pick (leb 3 m) 1 0)
    (pick (eqb code 10) (pick (eqb m 1 || (both_down m || (eqb m 2 && eqb rules 2))) 3 2)
    (pick (eqb code 11) (pick middle 6 5)
    code))

-- `m` flips the middle flag
unfoldable pub flipped : ℕ → Bool → Bool
flipped code middle = pick (eqb code 11) (not middle) middle
