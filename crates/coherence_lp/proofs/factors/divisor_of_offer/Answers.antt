use Rattle.std.proofs.Common.{◌≡◌, ◌∙◌, ℕ, length, map, ap, subst, arith, pos, rules, SFits, to_z-of_z}
use Rattle.std.specs.Prelude.{unsigned_abs, slice_index_or}
use Rattle.std.specs.Int.{IsGcd, w64}
use Rattle.std.proofs.lemmas.List.{length-map, get_or-map}
use Rattle.scan_types.specs.declared.outcome.Outcome.TheVariants.{Full}
use Rattle.settlement_definitions.specs.Gain.{gain}
use Rattle.coherence_lp.proofs.Divisors.{IsGcdBelow, gcd_more, gcd_row}
use Rattle.coherence_lp.proofs.factors.divisor_of_offer.Goals as goal

pub loop-j-preserved : goal.loop-j-preserved
loop-j-preserved c =
    let f : SFits w64 c.gain.result = search rules in
    let size = c.unsigned_abs.ensures.value ∙ ap unsigned_abs (to_z-of_z f ∙ c.gain.ensures.exact) in
    let P : ℕ → Type 0 = λ n. IsGcd n c.loop-j.divisor c.common_divisor-divisor.result in
    gcd_more (λ j. unsigned_abs (gain c.args.offer.now (slice_index_or c.args.classes.now j (Full 0 0)))) c.loop-j.j c.common_divisor-divisor.result c.loop-j.divisor c.loop-j.invariant (subst P size c.common_divisor-divisor.ensures)

pub returns : goal.returns
returns c =
    let classes = c.args.classes.now in
    let offer = c.args.offer.now in
    let n = length classes in
    let whole : c.loop-j.j ≡ n = omega arith in
    let sizes : ℕ → ℕ = λ j. unsigned_abs (gain offer (slice_index_or classes j (Full 0 0))) in
    gcd_row (map (gain offer) classes) sizes n c.loop-j.divisor (length-map classes (gain offer))
    (λ k h. ap unsigned_abs (get_or-map (gain offer) classes k (Full 0 0) (pos 0) h))
    (let P : ℕ → Type 0 = λ k. IsGcdBelow sizes k c.loop-j.divisor in subst P whole c.loop-j.invariant)
