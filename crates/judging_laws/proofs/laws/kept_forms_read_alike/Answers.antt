use Rattle.judging_laws.proofs.laws.kept_forms_read_alike.Goals as goal
use Rattle.judging_laws.proofs.KeptReadings.{same_level, same_measure, same_direction, same_parts, same_floors}

pub returns : goal.returns
returns c = record { level = same_level; measure = same_measure; direction = same_direction; parts = same_parts; floors = same_floors }
