use Rattle.std.proofs.Common.{◌≡◌, ◌+◌, ◌-◌, subst, arith}
use Rattle.std.specs.Prelude.{slice_get, Some}
use Rattle.scan_types.specs.declared.outcome.Outcome.TheVariants.{Abandoned}
use Rattle.settlement_definitions.specs.StandIns.{stand_scores, stand_ins}
use Rattle.settlement_laws.proofs.Table.{stand_ins-final, stand_ins-abandoned}
use Rattle.settle_classes.proofs.stand_ins.stand_in.Goals as goal

pub returns-then-k-lt49-clause-numbered : goal.returns-then-k-lt49-clause-numbered
returns-then-k-lt49-clause-numbered c =
    let here : c.from.result ≡ c.args.k = c.from.ensures in
    stand_ins-final c.args.k c.score_at-h.result (subst (λ n. slice_get stand_scores n ≡ Some c.score_at-h.result) here c.score_at-h.ensures.numbered)

pub returns-else-k-lt49-clause-numbered : goal.returns-else-k-lt49-clause-numbered
returns-else-k-lt49-clause-numbered c =
    let s = c.score_at-h-else-k-lt49.result in
    let here : c.from-else-k-lt49.result ≡ c.args.k - 49 = c.from-else-k-lt49.ensures in
    let again : 49 + (c.args.k - 49) ≡ c.args.k = omega arith in
    subst (λ n. slice_get stand_ins n ≡ Some (Abandoned s.0 s.1)) again
    (stand_ins-abandoned (c.args.k - 49) s (subst (λ n. slice_get stand_scores n ≡ Some s) here c.score_at-h-else-k-lt49.ensures.numbered))
