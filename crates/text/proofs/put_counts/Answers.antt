-- `text::put_counts` meets its contract: nine numbers of at most ten digits, with the word, take at most 106 bytes.
use mathlib.Core.List.{◌∷◌, []}
use Rattle.rules.specs.Printout.{word_counts}
use Rattle.text.proofs.Lengths.{word_line_most}
use Rattle.writing.proofs.Putting.{room_within, within}
use Rattle.text.proofs.put_counts.Goals as goal

pub put_word_line-requires : goal.put_word_line-requires
put_word_line-requires c = room_within 106 (word_line_most word_counts (_ ∷ _ ∷ _ ∷ _ ∷ _ ∷ _ ∷ _ ∷ _ ∷ _ ∷ [])) c.requires

pub returns : goal.returns
returns c = within (word_line_most word_counts (_ ∷ _ ∷ _ ∷ _ ∷ _ ∷ _ ∷ _ ∷ _ ∷ _ ∷ [])) c.put_word_line.ensures
