use Rattle.std.proofs.Common.{◌≡◌, ℕ, ◌+◌, ◌<◌, ◌^◌, ◌↔◌, length, SFits, to_z-of_z, bit_or, subst, sym, rules, arith}
use Rattle.std.specs.Int.{w128}
use Rattle.std.specs.List.{AllWithin}
use Rattle.std.proofs.lemmas.List.Elements.{AllWithin-from_all, All-from_all_within}
use Rattle.row_definitions.specs.Rows.{entry}
use Rattle.fraction_rows.specs.BitLengths.{HasBits}
use Rattle.fraction_rows.proofs.BitLengths.{together-more}
use Rattle.fraction_rows.proofs.bits.bit_length.Goals as goal

pub loop-x-preserved : goal.loop-x-preserved
loop-x-preserved c =
    let row = c.args.row.now in
    let i = c.loop-x.x-index in
    let fits : SFits w128 (entry row i) = search rules in
    let size = simp (to_z-of_z fits) at c.unsigned_abs-sizes.ensures.value in
    subst (λ size. (k : ℕ) → (bit_or c.loop-x.sizes size < 2 ^ k) ↔ AllWithin (HasBits k) row 0 (i + 1)) (sym size) (together-more row i c.loop-x.sizes c.loop-x-test.true c.loop-x.invariant)

pub returns : goal.returns
returns c =
    let row = c.args.row.now in
    let count : c.loop-x.x-index ≡ length row = omega (arith, c.loop-x-test.false, c.loop-x.auto.x-index-end) in
    let read = subst (λ i. (k : ℕ) → (c.loop-x.sizes < 2 ^ k) ↔ AllWithin (HasBits k) row 0 i) count c.loop-x.invariant in
    record {
      enough = All-from_all_within (HasBits c.bits_of.result) row ((read c.bits_of.result).0 c.bits_of.ensures.enough);
      least = λ fewer has. c.bits_of.ensures.least fewer ((read fewer).1 (AllWithin-from_all (HasBits fewer) row has));
    }
