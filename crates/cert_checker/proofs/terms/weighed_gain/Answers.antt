use Rattle.std.proofs.Common.{◌≡◌, ◌*ℤ◌, pos, subst, sym}
use Rattle.std.proofs.Math.IntN.{zero-*ℤ}
use Rattle.settlement_definitions.specs.Gain.{gain as gain_of}
use Rattle.cert_checker.proofs.terms.weighed_gain.Goals as goal

pub returns-then-weight-eq0-clause-exact : goal.returns-then-weight-eq0-clause-exact
returns-then-weight-eq0-clause-exact c =
    let z = gain_of c.args.offer.now c.args.outcome in
    subst (λ weight. pos 0 ≡ pos weight *ℤ z) (sym c.if-weight-eq0.true) (sym (zero-*ℤ z))
