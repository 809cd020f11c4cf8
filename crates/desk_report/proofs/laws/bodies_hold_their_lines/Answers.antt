use Rattle.desk_report.proofs.Bodies.{body_lines, body_unpinned}
use Rattle.desk_report.proofs.laws.bodies_hold_their_lines.Goals as goal

pub returns : goal.returns
returns c = record { lines = body_lines; pins = body_unpinned }
