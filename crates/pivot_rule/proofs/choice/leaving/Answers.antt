use Rattle.std.proofs.Common.{ℕ, ◌+◌, Option, sym, subst, arith}
use Rattle.std.proofs.lemmas.Int.{ints}
use lib.IntN.{ℤ, pos}
use lib.Signed.{◌<ℤ◌, ◌≤ℤ◌}
use Rattle.pivot_definitions.specs.Runs.{CanLeave}
use Rattle.pivot_rule.proofs.Least.{LeastBelow, least_new, least_kept, least_same, before_of}
use Rattle.pivot_rule.proofs.choice.leaving.Goals as goal
use Rattle.pivot_rule.proofs.choice.leaving.Goals.{then-entry-gt0+then-is_before, else-entry-gt0, else-entry-gt0-via-then-entry-gt0+else-is_before, else-entry-gt0-via-else-entry-gt0}

pub loop-row-preserved : goal.loop-row-preserved
loop-row-preserved c =
    let t = c.args.tableau.now in
    let row = c.loop-row.row in
    let within = c.rows-row-end.ensures.value in
    elim c.if-entry-gt0.branch [
      | then-entry-gt0+then-is_before w ↦
          (let above : pos 0 <ℤ c.entry.result = omega (arith, ints, w.if-entry-gt0.true, c.entry.ensures.fits) in
          let can : CanLeave t c.args.column row = record { within = omega (arith, within); positive = subst (λ (z : ℤ). pos 0 <ℤ z) c.entry.ensures.value above } in
          subst (λ (o : Option ℕ). LeastBelow t c.args.column (row + 1) o) (sym w.least-is) (least_new t c.args.column row c.loop-row.least c.loop-row.invariant can (before_of t c.args.column row c.loop-row.least w.is_before.result w.if-is_before.true w.is_before.ensures.some)))
      | else-entry-gt0 w ↦ subst (λ (o : Option ℕ). LeastBelow t c.args.column (row + 1) o) (sym w.least-is) (elim w.else-entry-gt0.branch [
        | else-entry-gt0-via-then-entry-gt0+else-is_before v ↦ least_kept t c.args.column row c.loop-row.least v.is_before.result v.if-is_before.false v.is_before.ensures.none v.is_before.ensures.some c.loop-row.invariant
        | else-entry-gt0-via-else-entry-gt0 v ↦
            (let below : c.entry.result ≤ℤ pos 0 = omega (arith, ints, v.if-entry-gt0.false, c.entry.ensures.fits) in
            least_same t c.args.column row c.loop-row.least c.loop-row.invariant (subst (λ (z : ℤ). z ≤ℤ pos 0) c.entry.ensures.value below))
      ])
    ]
