-- `practice::put_broken` meets its contract.
use Rattle.practice.proofs.Lines.{broken_room, broken_put}
use Rattle.practice.proofs.put_broken.Goals as goal

pub put_word_line-requires : goal.put_word_line-requires
put_word_line-requires c = broken_room c.args.at c.requires.1

pub returns : goal.returns
returns c = broken_put c.args.at c.put_word_line.ensures
