use Rattle.std.proofs.Common.{◌≡◌, ◌<◌, ℕ, Some, length, take, get_or, refl, sym, subst₂}
use Rattle.std.specs.Prelude.{slice_get}
use Rattle.std.specs.List.{AllZip}
use Rattle.std.proofs.lemmas.List.{take_more}
use Rattle.std.proofs.lemmas.List.Elements.{All-get_or}
use Rattle.std.proofs.lemmas.Option.{slice_get_read}
use Rattle.std.proofs.lemmas.Slice.Zip.{all_zipped_more}
use Rattle.scan_types.specs.declared.offer.Offer.{Offer}
use Rattle.coherence_lp.proofs.columns.picked.Goals as goal

pub loop-number-preserved : goal.loop-number-preserved
loop-number-preserved c =
    let offers = c.args.offers.now in
    let numbers = c.args.numbers.now in
    let i = c.loop-number.number-index in
    let offer = c.index-offers-number.result in
    let R : ℕ → Offer → Type 0 = λ number o. slice_get offers number ≡ Some o in
    let number = get_or numbers i 0 in
    let within : number < length offers = All-get_or (λ n. n < length offers) numbers i 0 c.loop-number-test.true c.requires in
    subst₂ (λ ns os. AllZip R ns os) (sym (take_more numbers i 0 c.loop-number-test.true)) (sym c.in_ok-push.ensures.items)
    (all_zipped_more R (take i numbers) c.loop-number.picked.items number offer c.loop-number.invariant (slice_get_read offers (length offers) number offer refl within c.index-offers-number.is))
