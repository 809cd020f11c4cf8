use Rattle.desk_report.proofs.Judged.{judged_has}
use Rattle.desk_report.proofs.laws.judged_histories_have_findings.Goals as goal

pub returns : goal.returns
returns g c = λ rules law caller before after none all. judged_has rules (g.W.Law.allows law) caller before after none all
