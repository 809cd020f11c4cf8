use Rattle.std.proofs.Common.{◌≡◌, ℕ, ◌<◌, ◌*ℤ◌, ◌++◌, List, ℤ, pos, map, length, take, drop, unsigned_abs, All, ap, ap₂, subst, subst₂, ◌∙◌, sym, SFits, to_z, of_z, to_z-of_z, rules}
use Rattle.std.specs.Int.{◌∣◌, w128}
use Rattle.std.proofs.lemmas.List.{length-map, take-map, take_all, take-append-drop}
use Rattle.std.proofs.lemmas.List.Elements.{All-take}
use Rattle.std.proofs.lemmas.Nat.Gcd.{dvd-zero}
use Rattle.row_definitions.specs.Rows.{entry, divided}
use Rattle.row_definitions.specs.Combination.{FitsEntry}
use Rattle.row_definitions.proofs.Numbers.{divided-zero, above_zero}
use Rattle.row_definitions.proofs.Divisors.{Divides, All-from_Divides}
use Rattle.row_definitions.proofs.Combinations.{entry-divided}
use Rattle.fraction_rows.specs.Divisors.{size_of}
use Rattle.fraction_rows.proofs.Written.{written, kept-written, entry-written, take-written, drop-written}
use Rattle.fraction_rows.proofs.Scan.{Divides-more}
use Rattle.fraction_rows.proofs.Quotients.{undivided, FitsEntry-undivided}
use Rattle.fraction_rows.proofs.division.divide.Goals as goal

-- the next entry is still that of the row as it was, and the entries before it are quotients
module _ (d : ℕ) (old row : List ℤ) (i : ℕ) (so_far : row ≡ written (map (divided d) old) old i) (within : i < length old) where
  same : entry row i ≡ entry old i
  same = ap (λ r. entry r i) so_far ∙ entry-written (map (divided d) old) old i (length-map old (divided d)) within

  next : SFits w128 (entry row i) → to_z w128 (of_z w128 (entry row i)) ≡ entry old i
  next fits = to_z-of_z fits ∙ same

  front : take i row ≡ map (divided d) (take i old)
  front = ap (take i) so_far ∙ take-written (map (divided d) old) old i (length-map old (divided d)) within ∙ take-map (divided d) i old

  back : drop i row ≡ drop i old
  back = ap (drop i) so_far ∙ drop-written (map (divided d) old) old i (length-map old (divided d)) within

pub loop-column-preserved-then-entry-eq0 : goal.loop-column-preserved-then-entry-eq0
loop-column-preserved-then-entry-eq0 c =
    let i = c.loop-column.column in
    let d = size_of c.args.divisor in
    let old = c.args.row.now in
    let x_fits : SFits w128 (entry c.loop-column.row i) = search rules in
    let zero_there : entry old i ≡ pos 0 = sym (next d old c.loop-column.row i c.loop-column.invariant.so_far c.loop-column-test.true x_fits) ∙ ap (to_z w128) c.if-entry-eq0.true in
    record {
      so_far = c.loop-column.invariant.so_far ∙ kept-written (map (divided d) old) old i (length-map old (divided d)) c.loop-column-test.true (zero_there ∙ sym (entry-divided d old i ∙ ap (divided d) zero_there ∙ divided-zero d));
      divides = Divides-more d old i c.loop-column-test.true c.loop-column.invariant.divides (subst (λ z. d ∣ unsigned_abs z) (sym zero_there) (dvd-zero d));
    }

pub quotient-requires : goal.quotient-requires
quotient-requires c =
    let i = c.loop-column.column in
    let x_fits : SFits w128 (entry c.loop-column.row i) = search rules in
    subst FitsEntry (sym (next (size_of c.args.divisor) c.args.row.now c.loop-column.row i c.loop-column.invariant.so_far c.loop-column-test.true x_fits)) (c.requires i (pos 0) c.loop-column-test.true)

pub multiply-requires : goal.multiply-requires
multiply-requires c =
    let i = c.loop-column.column in
    let d = size_of c.args.divisor in
    let old = c.args.row.now in
    let size_fits : SFits w128 c.size-size.result = search rules in
    subst₂ (λ z r. All (λ x. FitsEntry (x *ℤ z)) r) (sym (to_z-of_z size_fits ∙ c.size-size.ensures.value)) (sym (front d old c.loop-column.row i c.loop-column.invariant.so_far c.loop-column-test.true))
    (FitsEntry-undivided (pos d) (take i old) (above_zero d c.size-size.ensures.positive) c.loop-column.invariant.divides (All-take FitsEntry i old c.requires))

pub returns-in-None-clause-unchanged : goal.returns-in-None-clause-unchanged
returns-in-None-clause-unchanged c =
    let i = c.loop-column.column in
    let d = size_of c.args.divisor in
    let old = c.args.row.now in
    let size_fits : SFits w128 c.size-size.result = search rules in
    let first = c.multiply.ensures ∙ ap₂ (λ z r. map (λ x. x *ℤ z) r) (to_z-of_z size_fits ∙ c.size-size.ensures.value) (front d old c.loop-column.row i c.loop-column.invariant.so_far c.loop-column-test.true)
    ∙ undivided (pos d) (take i old) (above_zero d c.size-size.ensures.positive) c.loop-column.invariant.divides in
    ap₂ (λ p q. p ++ q) first (back d old c.loop-column.row i c.loop-column.invariant.so_far c.loop-column-test.true) ∙ take-append-drop i old

pub returns-clause-divides : goal.returns-clause-divides
returns-clause-divides c =
    let d = size_of c.args.divisor in
    let old = c.args.row.now in
    All-from_Divides d old (subst (Divides d) (take_all c.loop-column.column old c.loop-column-test.false) c.loop-column.invariant.divides)
