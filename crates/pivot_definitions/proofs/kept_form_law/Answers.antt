use Rattle.pivot_definitions.proofs.KeptForms.{kept_pivot_lem}
use Rattle.pivot_definitions.proofs.Signs.{multiple, same_choices, same_best}
use Rattle.pivot_definitions.proofs.kept_form_law.Goals as goal

pub returns : goal.returns
returns c = record {
  pivot = kept_pivot_lem c.combination_law.ensures.kept_forms;
  rows = multiple;
  choices = same_choices;
  best = same_best;
}
