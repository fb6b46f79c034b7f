-- `practice::tell_question` meets its contract: the hint in words, then the counts.
use Rattle.practice.proofs.Lines.{question_told}
use Rattle.practice.proofs.tell_question.Goals as goal

pub returns : goal.returns
returns c = question_told c.args.s.now c.args.at c.args.score c.requires.whole.count c.ask-a.ensures c.put_hint-next.ensures c.put_counts-long.ensures
