use Rattle.desk_report.proofs.Bodies.{judged_lines}
use Rattle.desk_report.proofs.laws.judging_adds_no_line.Goals as goal

pub returns : goal.returns
returns g c = λ rules law caller before after judged feed. judged_lines rules (g.W.Law.allows law) caller before after judged feed
