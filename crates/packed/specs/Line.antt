-- The line of an outcome: the answer with its place, what was opened, the position, the shown board and the bits, as decimal numbers.
use Rattle.std.specs.Prelude.{List, [], ◌∷◌, ◌++◌, ℕ, ◌+◌, ◌*◌}
use Rattle.rules.specs.declared.Answer.{Answer}
use Rattle.rules.specs.declared.Position.{Position}
use Rattle.rules.specs.Words.{bit}
use Rattle.rules.specs.States.{game_number, mouse_number}
use Rattle.rules.specs.Board.{row_byte, column_byte}
use Rattle.rules.specs.Calls.{Outcome}
use Rattle.rules.specs.Printout.{decimal, spaced, nine_counts}

-- a position's numbers, in the order that they are packed: the rules and the safe cells still closed last
abbrev pub numbers_of : Position → List ℕ
numbers_of p =
    p.settings.rows ∷ p.settings.columns ∷ p.settings.mode ∷ bit p.settings.question ∷ game_number p.game
    ∷ mouse_number p.mouse ∷ bit p.middle ∷ p.preflags ∷ p.events ∷ (nine_counts p ++ (p.settings.rules ∷ p.counts.unopened ∷ []))

-- what follows an answer's own number: its place, its value, which is what a step opened, and its position
abbrev pub answer_numbers : Answer → List ℕ
answer_numbers a = row_byte a.place ∷ column_byte a.place ∷ a.value ∷ numbers_of a.position

abbrev pub outcome_line : Answer → List ℕ → List ℕ → List ℕ
outcome_line a shown bits =
    decimal a.number ++ (spaced (answer_numbers a) ++ (spaced shown ++ (spaced bits ++ (10 ∷ []))))

abbrev pub line_after : Outcome → List ℕ
line_after o = outcome_line o.answer o.shown o.bits

-- its room: twenty-four numbers of at most ten digits, and four bytes for each cell and each byte of bits
abbrev pub outcome_room : ℕ → ℕ → ℕ
outcome_room cells bytes = 264 + (4 * cells + 4 * bytes)
