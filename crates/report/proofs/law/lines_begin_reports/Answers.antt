use Rattle.report.proofs.Openings.{some_report, no_report, no_end}
use Rattle.report.proofs.law.lines_begin_reports.Goals as goal

pub returns-clause-some : goal.returns-clause-some
returns-clause-some c = some_report

pub returns-clause-none : goal.returns-clause-none
returns-clause-none c = no_report

pub returns-clause-end : goal.returns-clause-end
returns-clause-end c = no_end
