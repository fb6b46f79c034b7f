-- `practice::tell_call` meets its contract: a call is one of the two.
use Rattle.practice.specs.declared.Call.TheVariants.{Question, Report}
use Rattle.practice.proofs.Calls.{call_head, kind_as}
use Rattle.practice.proofs.Lines.{tells_report, tells_question}
use Rattle.practice.proofs.tell_call.Goals as goal

pub tell_question-requires : goal.tell_question-requires
tell_question-requires c = record { whole = kind_as _ _ (Question c.in-Question.shown) c.in-Question.is c.requires.call_is; in_bounds = c.requires.in_bounds }

pub returns-in-Question : goal.returns-in-Question
returns-in-Question c = tells_question c.args.s.now c.args.at c.args.score (kind_as _ _ (Question c.in-Question.shown) c.in-Question.is c.requires.call_is).kind c.tell_question.ensures

pub tell_report-requires : goal.tell_report-requires
tell_report-requires c = record { at_in_bounds = call_head _ _ _ c.requires.call_is; in_bounds = c.requires.in_bounds }

pub returns-in-Report : goal.returns-in-Report
returns-in-Report c = tells_report c.args.s.now c.args.at c.args.score (kind_as _ _ Report c.in-Report.is c.requires.call_is) c.tell_report.ensures
