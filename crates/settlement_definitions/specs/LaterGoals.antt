use Rattle.std.proofs.Common.{ℕ, ℤ, pos, ◌≡◌, ◌+◌, ◌*◌, ◌<ℤ◌, ◌≤ℤ◌, neg_ℤ, true, false, sym, ap, ◌∙◌, arith}
use Rattle.std.specs.Prelude.{unsigned_abs, nat_lt, ◌==◌}
use Rattle.std.proofs.lemmas.Int.{ints}
use Rattle.std.proofs.lemmas.Bool.Decides.{nat_tests}
use Rattle.scan_types.specs.declared.selection.Selection.{Selection}
use Rattle.scan_types.specs.declared.selection.Selection.TheVariants.{Home, Draw, Away, HandicapHome, HandicapAway, Over, Under}
use Rattle.settlement_definitions.specs.declared.leg_result.LegResult.{LegResult}
use Rattle.settlement_definitions.specs.Legs.{leg_result, lead, excess, win_if}
use Rattle.settlement_definitions.specs.Decided.{IsDecided, exceeds_line}
use Rattle.settlement_definitions.specs.LegSigns.{by_sign-above, by_sign-below, by_sign-not_above, by_sign-not_below, within_abs}

-- once the goals exceed the line, no later goal changes the leg
pub decided_above_line : (selection : Selection) (leg : ℤ) (h a : ℕ) → exceeds_line selection leg h a ≡ true → IsDecided selection leg h a (leg_result selection leg h a)
decided_above_line Home leg h a e = cc
decided_above_line Draw leg h a e = cc
decided_above_line Away leg h a e = cc
decided_above_line (HandicapHome _) leg h a e = cc
decided_above_line (HandicapAway _) leg h a e = cc
decided_above_line (Over _) leg h a e =
    λ later_h later_a p q.
    let above : leg <ℤ pos (4 * (h + a)) = grind (arith, ints) in
    by_sign-above (excess leg later_h later_a) (omega (arith, ints)) ∙ sym (by_sign-above (excess leg h a) (omega (arith, ints)))
decided_above_line (Under _) leg h a e =
    λ later_h later_a p q.
    let above : leg <ℤ pos (4 * (h + a)) = grind (arith, ints) in
    by_sign-below (neg_ℤ (excess leg later_h later_a)) (omega (arith, ints)) ∙ sym (by_sign-below (neg_ℤ (excess leg h a)) (omega (arith, ints)))

-- before that later goals can still change it
pub undecided_else : (selection : Selection) (leg : ℤ) (h a : ℕ) → exceeds_line selection leg h a ≡ false → (r : LegResult) → IsDecided selection leg h a r → ⊥
undecided_else Home leg h a e r d =
    let wins = d (h + a + 1) a (omega arith) (omega arith) in
    let loses = d h (h + a + 1) (omega arith) (omega arith) in
    let e1 : nat_lt a (h + a + 1) ≡ true = grind (arith, nat_tests) in
    let e2 : nat_lt (h + a + 1) h ≡ false = grind (arith, nat_tests) in
    let f1 = ap win_if e1 in
    let f2 = ap win_if e2 in
    cc
undecided_else Draw leg h a e r d =
    let wins = d (h + a) (h + a) (omega arith) (omega arith) in
    let loses = d (h + a + 1) (h + a) (omega arith) (omega arith) in
    let e1 : (h + a == h + a) ≡ true = grind (arith, nat_tests) in
    let e2 : (h + a + 1 == h + a) ≡ false = grind (arith, nat_tests) in
    let f1 = ap win_if e1 in
    let f2 = ap win_if e2 in
    cc
undecided_else Away leg h a e r d =
    let wins = d h (h + a + 1) (omega arith) (omega arith) in
    let loses = d (h + a + 1) a (omega arith) (omega arith) in
    let e1 : nat_lt h (h + a + 1) ≡ true = grind (arith, nat_tests) in
    let e2 : nat_lt (h + a + 1) a ≡ false = grind (arith, nat_tests) in
    let f1 = ap win_if e1 in
    let f2 = ap win_if e2 in
    cc
undecided_else (HandicapHome _) leg h a e r d =
    let n = unsigned_abs leg in
    let within = within_abs leg in
    let wins = d (h + a + n + 1) a (omega arith) (omega arith) in
    let loses = d h (h + a + n + 1) (omega arith) (omega arith) in
    let f1 = by_sign-above (lead leg (h + a + n + 1) a) (omega (arith, ints)) in
    let f2 = by_sign-below (lead leg h (h + a + n + 1)) (omega (arith, ints)) in
    cc
undecided_else (HandicapAway _) leg h a e r d =
    let n = unsigned_abs leg in
    let within = within_abs leg in
    let loses = d (h + a + n + 1) a (omega arith) (omega arith) in
    let wins = d h (h + a + n + 1) (omega arith) (omega arith) in
    let f1 = by_sign-below (neg_ℤ (lead leg (h + a + n + 1) a)) (omega (arith, ints)) in
    let f2 = by_sign-above (neg_ℤ (lead leg h (h + a + n + 1))) (omega (arith, ints)) in
    cc
undecided_else (Over _) leg h a e r d =
    let n = unsigned_abs leg in
    let within = within_abs leg in
    let below : pos (4 * (h + a)) ≤ℤ leg = grind (arith, ints) in
    let here = d h a (omega arith) (omega arith) in
    let wins = d (h + n + 1) a (omega arith) (omega arith) in
    let f = by_sign-above (excess leg (h + n + 1) a) (omega (arith, ints)) in
    by_sign-not_above (excess leg h a) (omega (arith, ints)) (here ∙ sym wins ∙ f)
undecided_else (Under _) leg h a e r d =
    let n = unsigned_abs leg in
    let within = within_abs leg in
    let below : pos (4 * (h + a)) ≤ℤ leg = grind (arith, ints) in
    let here = d h a (omega arith) (omega arith) in
    let loses = d (h + n + 1) a (omega arith) (omega arith) in
    let f = by_sign-below (neg_ℤ (excess leg (h + n + 1) a)) (omega (arith, ints)) in
    by_sign-not_below (neg_ℤ (excess leg h a)) (omega (arith, ints)) (here ∙ sym loses ∙ f)
