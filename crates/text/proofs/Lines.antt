-- The parts of a row of the shown board, and the line of the settings.
use mathlib.Core.Path.{◌≡◌, ap, ◌∙◌}
use mathlib.Core.List.{List, [], ◌∷◌, ◌++◌}
use Prim.Native.Nat.{ℕ, ◌-◌, ◌≤◌}
use native.Mathlib.Omega.{arith}
use lib.ListN.{length, get_or, take, drop, length-drop}
use lib.Seq.{drop-cons, take_all}
use Rattle.rules.specs.Printout.{decimal, spaced, line_of, word_line, word_game, game_line}
use Rattle.rules.specs.declared.Settings.{Settings}
use Rattle.rules.specs.Words.{bit}
use Rattle.writing.proofs.Spaced.{line_parts}

pub row_parts : (cells : List ℕ) {n : ℕ} → n ≡ get_or cells 0 0 → 1 ≤ length cells
    → line_of cells ≡ decimal n ++ (spaced (take (length cells - 1) (drop 1 cells)) ++ (10 ∷ []))
row_parts cells e h =
    rw (e, take_all (length cells - 1) (drop 1 cells) (simp length-drop (omega arith)))
    (ap line_of (drop-cons cells 0 0 (omega arith)) ∙ line_parts (get_or cells 0 0) (drop 1 cells))

pub game_as : (s : Settings) {r c m q : ℕ} → r ≡ s.rows → c ≡ s.columns → m ≡ s.mode → q ≡ bit s.question → word_line word_game (r ∷ c ∷ m ∷ q ∷ []) ≡ game_line s
game_as s hr hc hm hq = rw (hr, hc, hm, hq)

pub event_as : {n a g m n' a' g' m' : ℕ} → n' ≡ n → a' ≡ a → g' ≡ g → m' ≡ m → line_of (n' ∷ a' ∷ g' ∷ m' ∷ []) ≡ line_of (n ∷ a ∷ g ∷ m ∷ [])
event_as hn ha hg hm = rw (hn, ha, hg, hm)
