use Rattle.std.proofs.Common.{ℕ, true, false, ◌++◌, ◌∷◌, [], map, filter, take, sym, ap, ap₂, ◌∙◌, subst, arith}
use Rattle.std.specs.List.{enumerate_from}
use Rattle.std.proofs.lemmas.List.{take_all, append-nil}
use Rattle.std.proofs.lemmas.List.FromFn.{length-enumerate_from}
use Rattle.scan_types.specs.declared.offer.Offer.{Offer}
use Rattle.scan_types.specs.Sheets.{IsSheet, Fits}
use Rattle.judging_definitions.specs.CoarseOdds.{kept_numbers, lowered_offers}
use Rattle.coherence_lp.proofs.CoarseSheets.{stays_on, lowered_one, lowered_fits, kept_more}
use Rattle.coherence_lp.proofs.coarse.coarse_down.Goals.{then-stays+in_ok-push+in_ok-push-2, else-stays}
use Rattle.coherence_lp.proofs.coarse.coarse_down.Goals as goal

pub push-requires : goal.push-requires
push-requires c =
    let offers = c.offers-offers.result.now in
    let i = c.loop-i.i in
    let o = c.index-offers-i.result in
    let sheet = subst IsSheet (sym c.offers-offers.ensures.value) c.offers-offers.ensures.rising in
    subst (Fits c.loop-i.lowered) (sym c.lowered_offer.ensures) (lowered_fits offers i o c.loop-i.lowered sheet c.loop-i-test.true c.index-offers-i.is (sym c.stays.ensures ∙ c.if-stays.true) c.loop-i.invariant.sheet)

pub loop-i-preserved : goal.loop-i-preserved
loop-i-preserved c =
    let offers = c.offers-offers.result.now in
    let i = c.loop-i.i in
    let o = c.index-offers-i.result in
    let number : ℕ × Offer → ℕ = λ e. e.0 in
    let kept = filter stays_on (take i (enumerate_from 0 offers)) in
    elim c.if-stays.branch [
      | then-stays+in_ok-push+in_ok-push-2 w ↦ record {
        sheet =
            w.lowered-is ∙ w.in_ok-push.ensures.ok ∙ ap₂ (λ xs x. xs ++ x ∷ []) c.loop-i.invariant.sheet w.lowered_offer.ensures
            ∙ sym (kept_more lowered_one offers i o true c.loop-i-test.true c.index-offers-i.is (sym c.stays.ensures ∙ w.if-stays.true));
        from =
            ap (λ v. v.items) w.numbers-is ∙ w.in_ok-push-2.ensures.items ∙ ap (λ xs. xs ++ i ∷ []) c.loop-i.invariant.from
            ∙ sym (kept_more number offers i o true c.loop-i-test.true c.index-offers-i.is (sym c.stays.ensures ∙ w.if-stays.true));
      }
      | else-stays w ↦ record {
        sheet = w.lowered-is ∙ c.loop-i.invariant.sheet ∙ sym (append-nil (map lowered_one kept)) ∙ sym (kept_more lowered_one offers i o false c.loop-i-test.true c.index-offers-i.is (sym c.stays.ensures ∙ w.if-stays.false));
        from = ap (λ v. v.items) w.numbers-is ∙ c.loop-i.invariant.from ∙ sym (append-nil (map number kept)) ∙ sym (kept_more number offers i o false c.loop-i-test.true c.index-offers-i.is (sym c.stays.ensures ∙ w.if-stays.false));
      }
    ]

-- what is kept of all offers
pub returns-clause-sheet : goal.returns-clause-sheet
returns-clause-sheet c =
    let offers = c.offers-offers.result.now in
    let all = enumerate_from 0 offers in
    c.loop-i.invariant.sheet ∙ ap (λ xs. map lowered_one (filter stays_on xs)) (take_all c.loop-i.i all (omega (arith, length-enumerate_from 0 offers, c.loop-i-test.false))) ∙ ap lowered_offers c.offers-offers.ensures.value

pub returns-clause-from : goal.returns-clause-from
returns-clause-from c =
    let offers = c.offers-offers.result.now in
    let all = enumerate_from 0 offers in
    let number : ℕ × Offer → ℕ = λ e. e.0 in
    c.of.ensures ∙ c.loop-i.invariant.from ∙ ap (λ xs. map number (filter stays_on xs)) (take_all c.loop-i.i all (omega (arith, length-enumerate_from 0 offers, c.loop-i-test.false))) ∙ ap kept_numbers c.offers-offers.ensures.value
