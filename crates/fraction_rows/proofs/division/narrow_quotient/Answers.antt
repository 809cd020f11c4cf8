use Rattle.std.proofs.Common.{◌≡◌, ℕ, ◌-◌, ◌<◌, ◌≤◌, ◌^◌, ℤ, unsigned_abs, ap, subst, sym, ◌∙◌, of_z, to_z, to_z-of_z, SFits, SomeIff, rules, arith}
use Rattle.std.specs.Int.{◌∣◌, w64, w128}
use Rattle.std.proofs.lemmas.Int.{fits_signed_from_abs}
use Rattle.row_definitions.specs.Rows.{divided}
use Rattle.fraction_rows.proofs.Inverses.{to_wide}
use Rattle.fraction_rows.proofs.division.narrow_quotient.Goals as goal

-- a number of at most 63 bits fits 64
narrow : (x : ℤ) (size : ℕ) → SFits w128 x → size ≡ unsigned_abs (to_z w128 (of_z w128 x)) → size ≤ 2 ^ 63 - 1 → unsigned_abs x < 2 ^ 63
narrow x size fits is small = let whole = is ∙ ap unsigned_abs (to_z-of_z fits) in omega arith

narrow_is : (x : ℤ) → SFits w128 x → unsigned_abs x < 2 ^ 63 → to_z w64 (of_z w64 (to_z w128 (of_z w128 x))) ≡ x
narrow_is x fits small = ap (λ z. to_z w64 (of_z w64 z)) (to_z-of_z fits) ∙ to_z-of_z (fits_signed_from_abs w64 x small)

wide_is : (d : ℤ) → SFits w64 d → to_z w128 (of_z w128 (to_z w64 (of_z w64 d))) ≡ d
wide_is d fits = ap (λ z. to_z w128 (of_z w128 z)) (to_z-of_z fits) ∙ to_z-of_z (to_wide d fits)

pub returns-then-unsigned_abs : goal.returns-then-unsigned_abs
returns-then-unsigned_abs c =
    let d = c.args.divisor.divisor in
    let x = c.args.x in
    let d_fits : SFits w64 d = search rules in
    subst (λ z. SomeIff c.plain_quotient.result (unsigned_abs d ∣ unsigned_abs z) (divided (unsigned_abs d) z)) (to_z-of_z c.ranges.x)
    (subst (λ e. SomeIff c.plain_quotient.result (unsigned_abs e ∣ unsigned_abs (to_z w128 (of_z w128 x))) (divided (unsigned_abs e) (to_z w128 (of_z w128 x)))) (wide_is d d_fits) c.plain_quotient.ensures)

pub returns-in-Some : goal.returns-in-Some
returns-in-Some c =
    let d = c.args.divisor.divisor in
    let x = c.args.x in
    let q = c.in-Some.quotient in
    let q_fits : SFits w64 q = search rules in
    let same = narrow_is x c.ranges.x (narrow x c.unsigned_abs.result c.ranges.x c.unsigned_abs.ensures.value c.if-unsigned_abs.false) in
    let h = subst (λ z. (unsigned_abs d ∣ unsigned_abs z) × (q ≡ divided (unsigned_abs d) z)) same c.in-Some.ensures in
    (h.0, wide_is q q_fits ∙ h.1)

pub returns-in-None : goal.returns-in-None
returns-in-None c divides =
    let d = c.args.divisor.divisor in
    let x = c.args.x in
    let same = narrow_is x c.ranges.x (narrow x c.unsigned_abs.result c.ranges.x c.unsigned_abs.ensures.value c.if-unsigned_abs.false) in
    c.in-None.ensures (subst (λ z. unsigned_abs d ∣ unsigned_abs z) (sym same) divides)
