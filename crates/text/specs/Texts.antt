-- The texts that more than one line makes: the refusal of a book, and what is left after the last event.
use Rattle.std.specs.Prelude.{List, [], ◌∷◌, ◌++◌, ℕ}
use Rattle.rules.specs.declared.Position.{Position}
use Rattle.rules.specs.Printout.{spaced, word_line, word_counts, word_bv, word_refused, word_at_place, nine_counts, row_lines}

-- `refused N at P`
abbrev pub refused_text : ℕ → ℕ → List ℕ
refused_text number place = word_refused ++ (spaced (number ∷ []) ++ word_line word_at_place (place ∷ []))

-- the counts, the 3BV's total and what is left to solve, the shown rows
abbrev pub end_text : Position → ℕ → ℕ → List ℕ → List ℕ
end_text p total left shown =
    word_line word_counts (nine_counts p) ++ (word_line word_bv (total ∷ left ∷ []) ++ row_lines p.settings.rows p.settings.columns shown)
