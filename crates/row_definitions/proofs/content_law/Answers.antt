use Rattle.row_definitions.proofs.Contents.{content_divides_target, content_divides_pivot}
use Rattle.row_definitions.proofs.content_law.Goals as goal

pub returns-clause-target : goal.returns-clause-target
returns-clause-target c = content_divides_target

pub returns-clause-pivot : goal.returns-clause-pivot
returns-clause-pivot c = content_divides_pivot
