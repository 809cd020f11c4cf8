use Rattle.std.proofs.Common.{ℕ, ◌≡◌, true, get_or, arith}
use Rattle.scan_types.specs.declared.outcome.Outcome.{Outcome}
use Rattle.scan_types.specs.declared.outcome.Outcome.TheVariants.{Full}
use Rattle.cert_checker.specs.Shapes.{IsEntry}
use Rattle.cert_checker.proofs.Searches.{before_more, first_failure}
use Rattle.cert_checker.proofs.shape.unfit_entry.Goals as goal

nothing : Outcome × ℕ
nothing = (Full 0 0, 0)

pub returns-then-not-is_entry-clause-first : goal.returns-then-not-is_entry-clause-first
returns-then-not-is_entry-clause-first c =
    let m = c.args.entries.now in
    first_failure (IsEntry m) m c.loop-k.k nothing c.loop-k-test.true c.loop-k.invariant.0
    (λ fit. let told : c.is_entry.result ≡ true = (c.is_entry.ensures nothing).1 fit in absurd (cc))

pub loop-k-preserved : goal.loop-k-preserved
loop-k-preserved c =
    let m = c.args.entries.now in
    let fit : IsEntry m c.loop-k.k (get_or m c.loop-k.k nothing) = (c.is_entry.ensures nothing).0 c.if-not-is_entry.false in
    (before_more (IsEntry m) m c.loop-k.k nothing c.loop-k-test.true c.loop-k.invariant.0 fit, omega (arith, fit.few))
