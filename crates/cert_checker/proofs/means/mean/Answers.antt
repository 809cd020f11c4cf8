use Rattle.std.proofs.Common.{◌≡◌, ◌+◌, ◌+ℤ◌, ◌*ℤ◌, pos, take, ap, sym, refl, ◌∙◌, arith}
use Rattle.std.proofs.lemmas.Int.{ints}
use Rattle.settlement_definitions.specs.Gain.{gain}
use Rattle.finding_definitions.specs.Measure.{mean as mean_of}
use Rattle.cert_checker.proofs.Prefixes.{sum-take_more}
use Rattle.cert_checker.proofs.means.mean.Goals as goal

pub loop-entry-preserved : goal.loop-entry-preserved
loop-entry-preserved c =
    let entries = c.args.entries.now in
    let i = c.loop-entry.entry-index in
    let offer = c.args.offer.now in
    let before = c.loop-entry.invariant.0 in
    let step : mean_of (take (i + 1) entries) offer ≡ mean_of (take i entries) offer +ℤ c.weighed_gain-sum.result =
    sum-take_more (λ m. mean_of m offer) (λ e. pos e.1 *ℤ gain offer e.0) refl (λ x xs. refl) entries i _ c.loop-entry-test.true ∙ ap (λ z. mean_of (take i entries) offer +ℤ z) (sym c.weighed_gain-sum.ensures.exact) in
    (omega (arith, ints, step, before), omega (arith, ints), omega (arith, ints))
