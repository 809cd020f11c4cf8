use Rattle.std.proofs.Common.{◌≡◌, false, true, subst}
use Rattle.judging_definitions.specs.CoarseFinding.{IsCoarseVerdict}
use Rattle.verdict_maker.specs.Tries.{FoundBy}
use Rattle.verdict_maker.proofs.CoarseFacts.{exact_stays, exact_alone}
use Rattle.verdict_maker.proofs.bench.finding_of.Goals as goal

pub returns-then-not-is_wide_at_first : goal.returns-then-not-is_wide_at_first
returns-then-not-is_wide_at_first c =
    exact_stays c.args.sheet.now c.args.budget c.in_ok-exact.exact c.in_ok-exact.ensures (λ wide. let x : false ≡ true = c.if-not-is_wide_at_first.ensures.1 wide in cc)

pub returns-in-None : goal.returns-in-None
returns-in-None c = exact_alone c.args.sheet.now c.args.budget c.in_ok-exact.exact c.in_ok-exact.ensures (subst (FoundBy (IsCoarseVerdict c.args.sheet.now c.args.budget)) c.in-None.is c.in_ok-verdict.ensures)
