-- Each controller's lines are its report.
use Rattle.spec_link.proofs.Reports.{lines_are_reports}
use Rattle.spec_link.proofs.laws.lines_are_reports.Goals as goal

pub returns : goal.returns
returns c = lines_are_reports
