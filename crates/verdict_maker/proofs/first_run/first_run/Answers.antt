use Rattle.std.proofs.Common.{ℕ, map, sym, subst}
use Rattle.pivot_definitions.specs.Programs.{IsCapped}
use Rattle.scan_types.specs.declared.offer.Offer.{Offer}
use Rattle.judging_definitions.specs.Columns.{leading_offers}
use Rattle.judging_laws.proofs.ProgramRows.{homogeneous_is_capped}
use Rattle.verdict_maker.proofs.first_run.first_run.Goals as goal

pub run_program-requires-clause-capped : goal.run_program-requires-clause-capped
run_program-requires-clause-capped c = subst IsCapped (sym c.in_ok-program.ensures) (homogeneous_is_capped c.in_ok-outcomes.outcomes (map (λ (e : ℕ × Offer). e.1) (leading_offers c.args.sheet.now c.in_ok-outcomes.outcomes))).1
