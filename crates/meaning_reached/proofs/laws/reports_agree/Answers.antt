use Rattle.meaning_reached.proofs.SameReports.{same_reports}
use Rattle.meaning_reached.proofs.laws.reports_agree.Goals as goal

pub returns : goal.returns
returns c = same_reports
