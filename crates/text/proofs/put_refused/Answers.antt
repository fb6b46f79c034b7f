-- `text::put_refused` meets its contract: the word, the number, and the place's line, one after the other.
use Rattle.writing.proofs.Putting.{room_first, room_second, put_then, put_as, within}
use mathlib.Core.Path.{ap}
use Rattle.text.specs.Texts.{refused_text}
use Rattle.text.proofs.Lengths.{refused_length, refused_room}
use Rattle.text.proofs.put_refused.Goals as goal

pub put_spaced-next-requires : goal.put_spaced-next-requires
put_spaced-next-requires c = room_first _ (room_second (refused_room c.from.result c.args.place c.requires.1) c.put_bytes-first.ensures)

pub put_word_line-requires : goal.put_word_line-requires
put_word_line-requires c = room_second (room_second (refused_room c.from.result c.args.place c.requires.1) c.put_bytes-first.ensures) c.put_spaced-next.ensures

pub returns : goal.returns
returns c = within (refused_length c.args.number c.args.place) (put_as (ap (λ n. refused_text n c.args.place) c.from.ensures) (put_then c.put_bytes-first.ensures (put_then c.put_spaced-next.ensures c.put_word_line.ensures)))
