use Rattle.std.proofs.Common.{◌≡◌, false, ◌&&◌, ◌||◌, length, sym, ap, arith}
use Rattle.std.specs.Prelude.{int_le, int_lt}
use Rattle.std.proofs.lemmas.Int.{ints}
use lib.IntN.{ℤ}
use lib.Signed.{◌<ℤ◌}
use Rattle.row_definitions.specs.Rows.{entry}
use Rattle.coherence_lp.specs.Comparisons.{any_below}
use Rattle.coherence_lp.proofs.Below.{all_fails}
use Rattle.coherence_lp.proofs.gains.dominates.Goals as goal

not_le : (a b : ℤ) → b <ℤ a → int_le a b ≡ false
not_le a b h = grind (arith, ints)

pub returns-then-theirs-ours : goal.returns-then-theirs-ours
returns-then-theirs-ours c =
    let own = c.args.own.now in
    let other = c.args.other.now in
    let j = c.loop-j.j in
    let n = length own in
    let fails = all_fails (λ k. int_le (entry own k) (entry other k)) n j c.loop-j-test.true (let less : entry other j <ℤ entry own j = omega (arith, ints) in not_le (entry own j) (entry other j) less) in
    sym (ap (λ b. b && (any_below (λ k. int_lt (entry own k) (entry other k)) n || c.args.is_earlier)) fails)
