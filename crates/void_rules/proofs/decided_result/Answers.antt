use Rattle.std.proofs.Common.{◌≡◌, ◌∙◌, sym, true, false, w8}
use Rattle.std.proofs.lemmas.Int.{to_z-of_z}
use Rattle.settlement_definitions.specs.Legs.{leg_result}
use Rattle.settlement_definitions.specs.Decided.{exceeds_line}
use Rattle.settlement_definitions.proofs.DecidedLemmas.{decided_result-at_test}
use Rattle.void_rules.proofs.decided_result.Goals as goal

pub returns-then-exceeds_line : goal.returns-then-exceeds_line
returns-then-exceeds_line c =
    let a = c.args in
    let same = to_z-of_z w8 a.leg c.ranges.leg in
    let above : exceeds_line a.selection a.leg a.h a.a ≡ true = cc in
    let settled : c.leg_result.result ≡ leg_result a.selection a.leg a.h a.a = cc in
    settled ∙ sym (decided_result-at_test a.selection a.leg a.h a.a true above)

pub returns-else-exceeds_line : goal.returns-else-exceeds_line
returns-else-exceeds_line c =
    let a = c.args in
    let same = to_z-of_z w8 a.leg c.ranges.leg in
    let below : exceeds_line a.selection a.leg a.h a.a ≡ false = cc in
    sym (decided_result-at_test a.selection a.leg a.h a.a false below)
