-- `practice::tell_report` meets its contract: the word, then the counts.
use mathlib.Core.Path.{◌∙◌}
use Rattle.practice.proofs.Lines.{report_told}
use Rattle.practice.proofs.tell_report.Goals as goal

pub returns : goal.returns
returns c = report_told c.args.s.now c.args.at c.args.score (c.from-opened.ensures ∙ c.two_at.ensures) c.report-after.ensures c.put_bytes-next.ensures c.put_counts-long.ensures
