-- `text::put_bv` meets its contract: two numbers of at most ten digits, with the word, take at most 25 bytes.
use mathlib.Core.List.{◌∷◌, []}
use Rattle.rules.specs.Printout.{word_bv}
use Rattle.text.proofs.Lengths.{word_line_most}
use Rattle.writing.proofs.Putting.{room_within, within}
use Rattle.text.proofs.put_bv.Goals as goal

pub put_word_line-requires : goal.put_word_line-requires
put_word_line-requires c = room_within 25 (word_line_most word_bv (_ ∷ _ ∷ [])) c.requires

pub returns : goal.returns
returns c = within (word_line_most word_bv (_ ∷ _ ∷ [])) c.put_word_line.ensures
