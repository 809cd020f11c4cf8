use Rattle.std.proofs.Common.{◌≡◌, ◌+◌, ◌+ℤ◌, ◌*ℤ◌, pos, take, ap, sym, refl, ◌∙◌, arith}
use Rattle.std.proofs.lemmas.Int.{ints}
use Rattle.finding_definitions.specs.Arbitrage.{need}
use Rattle.finding_definitions.specs.Measure.{final_weight}
use Rattle.cert_checker.proofs.Prefixes.{sum-take_more}
use Rattle.cert_checker.proofs.means.need_of_unit.Goals as goal

pub loop-entry-preserved : goal.loop-entry-preserved
loop-entry-preserved c =
    let entries = c.args.entries.now in
    let i = c.loop-entry.entry-index in
    let before = c.loop-entry.invariant.0 in
    let step : final_weight (take (i + 1) entries) ≡ final_weight (take i entries) +ℤ c.weighed_need-sum.result =
    sum-take_more final_weight (λ e. pos e.1 *ℤ need e.0) refl (λ x xs. refl) entries i _ c.loop-entry-test.true ∙ ap (λ z. final_weight (take i entries) +ℤ z) (sym c.weighed_need-sum.ensures.exact) in
    (omega (arith, ints, step, before), omega (arith, ints), omega (arith, ints))
