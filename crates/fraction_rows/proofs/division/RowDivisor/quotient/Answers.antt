use Rattle.std.proofs.Common.{unsigned_abs, sym, subst, ℤ, SomeIff, to_z-of_z}
use Rattle.std.specs.Int.{◌∣◌}
use Rattle.row_definitions.specs.Rows.{divided}
use Rattle.fraction_rows.specs.Divisors.{size_of}
use Rattle.fraction_rows.specs.declared.division.RowDivisor.{RowDivisor}
use Rattle.fraction_rows.proofs.division.RowDivisor.quotient.Goals as goal

pub returns-in-Narrow : goal.returns-in-Narrow
returns-in-Narrow c =
    let d = unsigned_abs c.in-Narrow.divisor.divisor in
    let P : RowDivisor → Type 0 = λ e. SomeIff c.narrow_quotient.result (size_of e ∣ unsigned_abs c.args.x) (divided (size_of e) c.args.x) in
    let Q : ℤ → Type 0 = λ z. SomeIff c.narrow_quotient.result (d ∣ unsigned_abs z) (divided d z) in
    subst P (sym c.in-Narrow.is) (subst Q (to_z-of_z c.ranges.x) c.narrow_quotient.ensures)

pub returns-in-Wide : goal.returns-in-Wide
returns-in-Wide c =
    let d = unsigned_abs c.in-Wide.divisor.divisor in
    let P : RowDivisor → Type 0 = λ e. SomeIff c.quotient.result (size_of e ∣ unsigned_abs c.args.x) (divided (size_of e) c.args.x) in
    let Q : ℤ → Type 0 = λ z. SomeIff c.quotient.result (d ∣ unsigned_abs z) (divided d z) in
    subst P (sym c.in-Wide.is) (subst Q (to_z-of_z c.ranges.x) c.quotient.ensures)
