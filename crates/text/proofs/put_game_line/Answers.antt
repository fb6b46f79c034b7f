-- `text::put_game_line` meets its contract: three bytes and a yes or no take at most 21 bytes with the word.
use native.Mathlib.Omega.{arith}
use Rattle.cells.proofs.Words.{is_bit, bit_le, byte_bit}
use Rattle.writing.proofs.Putting.{put_as, room_within, within}
use Rattle.text.proofs.Lines.{game_as}
use Rattle.text.proofs.Lengths.{game_length}
use Rattle.text.proofs.put_game_line.Goals as goal

pub put_word_line-requires : goal.put_word_line-requires
put_word_line-requires c = room_within 21 (game_length _ _ _ _ (omega arith) (omega arith) (omega arith) (is_bit c.args.settings.question (byte_bit _ c.from-question.ensures).0)) c.requires

pub returns : goal.returns
returns c = within (game_length _ _ _ _ (omega arith) (omega arith) (omega arith) (bit_le c.args.settings.question)) (put_as (game_as c.args.settings c.from-rows.ensures c.from-columns.ensures c.from-mode.ensures (byte_bit _ c.from-question.ensures).0) c.put_word_line.ensures)
