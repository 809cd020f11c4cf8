use Rattle.std.proofs.Common.{◌∙◌, ℕ, ◌+◌, max, sym, ap, subst}
use Rattle.std.specs.Prelude.{slice_index}
use Rattle.std.specs.Int.{div_ceil}
use Rattle.std.proofs.lemmas.List.{get_or_default}
use Rattle.scan_types.specs.declared.offer.Offer.{Offer}
use Rattle.judging_laws.proofs.Directions.{any_offer}
use Rattle.coherence_lp.proofs.Fitting.{IsFittingBefore, fitting_none, fitting_more, fitting_whole}
use Rattle.coherence_lp.proofs.direction.fitting_divisor.Goals as goal

pub loop-i-init : goal.loop-i-init
loop-i-init c = fitting_none c.args.offers.now c.args.items.now

pub loop-i-preserved : goal.loop-i-preserved
loop-i-preserved c =
    let offers = c.args.offers.now in
    let items = c.args.items.now in
    let i = c.loop-i.i in
    let limit : Offer → ℕ = λ o. div_ceil (slice_index items i) o.limit in
    let needed = c.div_ceil.ensures ∙ ap limit (get_or_default offers i c.index-offers-i.result any_offer c.loop-i-test.true) in
    let P : ℕ → Type 0 = λ d. IsFittingBefore offers items (i + 1) d in
    subst P (sym (c.max-divisor.ensures ∙ ap (λ n. max c.loop-i.divisor n) needed)) (fitting_more offers items i c.loop-i.divisor c.loop-i.invariant)

pub returns : goal.returns
returns c = fitting_whole c.args.offers.now c.args.items.now c.loop-i.i c.loop-i.divisor c.loop-i-test.false c.requires c.loop-i.invariant c.loop-i.auto.i-end
