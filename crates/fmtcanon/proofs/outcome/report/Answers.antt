use Rattle.fmtcanon.proofs.ReportLemmas.{reports}
use Rattle.fmtcanon.proofs.outcome.report.Goals as goal

pub returns : goal.returns
returns g c = reports g.E.Write.contents _ _ _ _ c.write_report.ensures
