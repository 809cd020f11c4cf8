use Rattle.std.proofs.Common.{◌≡◌, ◌≢◌, ℕ, ◌<◌, length, ◌^◌, List, ℤ, pos, unsigned_abs, ◌<ℤ◌, All, inl, inr, eq-zero-or-pos, SFits, ap, subst, subst₂, sym, [], ◌∷◌, ◌∙◌, to_z-of_z, lt_of_le_of_lt, rules, arith}
use Rattle.std.specs.Int.{◌∣◌, w128, IsGcd}
use Rattle.std.proofs.lemmas.Nat.Gcd.{le_of_dvd}
use Rattle.row_definitions.specs.Rows.{entry, row_divisor}
use Rattle.row_definitions.specs.Combination.{FitsEntry, reduced_combination}
use Rattle.row_definitions.specs.Laws.{IsNonZeroRow}
use Rattle.row_definitions.proofs.Numbers.{zero_from_size}
use Rattle.row_definitions.proofs.Contents.{content_divides_target, content_divides_pivot}
use Rattle.fraction_rows.specs.Combinable.{Combinable, IsPrimitivePair, IsZeroIn}
use Rattle.fraction_rows.proofs.Scan.{row_divisor-pair, row_divisor-lt, FitsEntry-pair}
use Rattle.fraction_rows.proofs.combination.content_bound.Goals as goal

not_zeros : (target : List ℤ) (at : ℕ) → entry target at ≢ pos 0 → IsNonZeroRow target
not_zeros target at some = (at, elim (eq-zero-or-pos (unsigned_abs (entry target at))) [ inl none ↦ absurd (some (zero_from_size (entry target at) none)) | inr above ↦ above ])

divides_pivot : (target pivot : List ℤ) (at leaving : ℕ) → Combinable target pivot at → IsPrimitivePair target pivot at → IsZeroIn target leaving → row_divisor (reduced_combination target pivot at) ∣ unsigned_abs (entry pivot leaving)
divides_pivot target pivot at leaving is both zero = content_divides_pivot target pivot at leaving is.lengths is.positive both.target_primitive (not_zeros target at both.not_zero) zero.1

pub bounds-target-column : goal.bounds-target-column
bounds-target-column c = let own = c.requires.own c.in-Some.column c.in-Some.is in omega (arith, own.0, c.requires.combinable.lengths)

pub offset_bounds-target-column : goal.offset_bounds-target-column
offset_bounds-target-column c =
    let own = c.requires.own c.in-Some.column c.in-Some.is in
    let within : c.in-Some.column < length c.args.target.now = omega (arith, own.0, c.requires.combinable.lengths) in
    search rules

pub returns-in-Some : goal.returns-in-Some
returns-in-Some c =
    let target = c.args.target.now in
    let pivot = c.args.pivot.now in
    let own = c.requires.own c.in-Some.column c.in-Some.is in
    let g = c.common_divisor.result in
    let within : c.in-Some.column < length target = omega (arith, own.0, c.requires.combinable.lengths) in
    let other_within : c.args.leaving < length pivot = omega (arith, c.requires.leaving.0, c.requires.combinable.lengths) in
    let x : SFits w128 (entry target c.in-Some.column) = search rules in
    let y : SFits w128 (entry pivot c.args.leaving) = search rules in
    let first = c.unsigned_abs.ensures.value ∙ ap unsigned_abs (to_z-of_z x) in
    let second = c.unsigned_abs-other.ensures.value ∙ ap unsigned_abs (to_z-of_z y) in
    let is = subst₂ (λ m n. IsGcd m n g) first second c.common_divisor.ensures in
    let pair : g ≡ row_divisor (entry target c.in-Some.column ∷ entry pivot c.args.leaving ∷ []) = row_divisor-pair (entry target c.in-Some.column) (entry pivot c.args.leaving) g is in
    record {
      divides = is.2 _ (content_divides_target target pivot c.args.at c.in-Some.column c.requires.combinable.lengths c.requires.combinable.positive c.requires.primitive.pivot_primitive own.1) (divides_pivot target pivot c.args.at c.args.leaving c.requires.combinable c.requires.primitive c.requires.leaving);
      fits = subst (λ n. n < 2 ^ 127) (sym pair) (row_divisor-lt _ (FitsEntry-pair _ _ (c.requires.combinable.target_fits c.in-Some.column (pos 0) within) (c.requires.combinable.pivot_fits c.args.leaving (pos 0) other_within)));
    }

pub returns-in-None : goal.returns-in-None
returns-in-None c =
    let target = c.args.target.now in
    let pivot = c.args.pivot.now in
    let other_within : c.args.leaving < length pivot = omega (arith, c.requires.leaving.0, c.requires.combinable.lengths) in
    let y : SFits w128 (entry pivot c.args.leaving) = search rules in
    let second = c.unsigned_abs-other.ensures.value ∙ ap unsigned_abs (to_z-of_z y) in
    record {
      divides = subst (λ n. row_divisor (reduced_combination target pivot c.args.at) ∣ n) (sym second) (divides_pivot target pivot c.args.at c.args.leaving c.requires.combinable c.requires.primitive c.requires.leaving);
      fits = subst (λ n. n < 2 ^ 127) (sym second) (c.requires.combinable.pivot_fits c.args.leaving (pos 0) other_within);
    }
