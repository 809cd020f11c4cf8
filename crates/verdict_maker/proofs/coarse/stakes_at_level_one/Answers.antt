use Rattle.std.proofs.Common.{◌≡◌, ◌==◌, ℕ, List, length, position, refl, sym, ap, ◌∙◌, subst}
use Rattle.std.specs.Prelude.{Err}
use Rattle.std.proofs.lemmas.List.{length-map}
use Rattle.std.proofs.lemmas.List.FromFn.{length-map-range_with_len}
use Rattle.std.proofs.lemmas.Result.{IfOk-weaker}
use Rattle.scan_types.specs.declared.offer.Offer.{Offer}
use Rattle.finding_definitions.specs.Fractions.{Fractions}
use Rattle.judging_definitions.specs.CoarseOdds.{at_odds, lowered_odds, kept_offers, kept_numbers, lowered_offers, item_at, with_zeros}
use Rattle.judging_definitions.specs.FirstRun.{first_program, first_stakes}
use Rattle.judging_definitions.specs.Readings.{Reads, ReadsWide, DirectionReads}
use Rattle.judging_definitions.specs.CoarseFinding.{AreStakesInDirection}
use Rattle.judging_definitions.proofs.OneReading.{direction_reads_one}
use Rattle.judging_laws.specs.Laws.{IsAtBest}
use Rattle.coherence_lp.specs.Faults.{IfWide}
use Rattle.verdict_maker.specs.Turns.{HasSome}
use Rattle.verdict_maker.specs.Tries.{FoundBy}
use Rattle.verdict_maker.proofs.TurnFacts.{direction_long}
use Rattle.verdict_maker.proofs.CoarseFacts.{lowered_direction_some, found_in_direction}
use Rattle.verdict_maker.proofs.coarse.stakes_at_level_one.Goals as goal

-- as many numbers are kept as offers are lowered
as_many : (offers : List Offer) → length (lowered_offers offers) ≡ length (kept_numbers offers)
as_many offers =
    let kept = kept_offers offers in
    length-map kept (λ (e : ℕ × Offer). at_odds e.1 (lowered_odds e.1.odds)) ∙ sym (length-map kept (λ (e : ℕ × Offer). e.0))

pub with_zeros-requires-clause-each : goal.with_zeros-requires-clause-each
with_zeros-requires-clause-each c =
    let coarse = c.args.coarse.now in
    ap length c.items.ensures ∙ direction_long coarse.sheet c.args.tableau.now c.in-Ok.direction c.in-Ok.ensures.direction
    ∙ ap length c.requires.lowered ∙ as_many c.args.sheet.now ∙ sym (ap length c.requires.from)

pub stakes_in_direction-requires-clause-each : goal.stakes_in_direction-requires-clause-each
stakes_in_direction-requires-clause-each c =
    let from = c.args.coarse.now.from in
    let items = c.items.result.now in
    ap length (c.deref.ensures.value ∙ c.in_ok-items-in-Ok.ensures)
    ∙ length-map-range_with_len (λ offer. item_at items (position (λ number. number == offer) from)) 0 (length c.offers-count.result.now)
    ∙ ap length c.offers-count.ensures.value

pub stakes_in_direction-requires-clause-some : goal.stakes_in_direction-requires-clause-some
stakes_in_direction-requires-clause-some c =
    let offers = c.args.sheet.now in
    let t = c.args.tableau.now in
    let direction = c.in-Ok.direction in
    let same =
    c.deref.ensures.value ∙ c.in_ok-items-in-Ok.ensures
    ∙ ap (λ (ns : List ℕ). with_zeros ns c.items.result.now (length c.offers-count.result.now)) c.requires.from
    ∙ ap (λ (ps : List ℕ). with_zeros (kept_numbers offers) ps (length c.offers-count.result.now)) c.items.ensures
    ∙ ap (λ (os : List Offer). with_zeros (kept_numbers offers) direction.parts (length os)) c.offers-count.ensures.value in
    let reads = subst (λ (os : List Offer). DirectionReads os (first_stakes os t) (Reads direction)) c.requires.lowered c.in-Ok.ensures.direction in
    let at = subst (λ (os : List Offer). IsAtBest (first_program os) t) c.requires.lowered c.requires.best in
    subst HasSome (sym same) (lowered_direction_some offers t direction at (c.if-not-has_level_one.ensures.0 refl) reads)

pub returns-in_ok-items-in-Ok : goal.returns-in_ok-items-in-Ok
returns-in_ok-items-in-Ok c =
    let offers = c.args.sheet.now in
    let t = c.args.tableau.now in
    let direction = c.in-Ok.direction in
    let same =
    c.deref.ensures.value ∙ c.in_ok-items-in-Ok.ensures
    ∙ ap (λ (ns : List ℕ). with_zeros ns c.items.result.now (length c.offers-count.result.now)) c.requires.from
    ∙ ap (λ (ps : List ℕ). with_zeros (kept_numbers offers) ps (length c.offers-count.result.now)) c.items.ensures
    ∙ ap (λ (os : List Offer). with_zeros (kept_numbers offers) direction.parts (length os)) c.offers-count.ensures.value in
    let reads = subst (λ (os : List Offer). DirectionReads os (first_stakes os t) (Reads direction)) c.requires.lowered c.in-Ok.ensures.direction in
    IfOk-weaker c.stakes_in_direction.result _ _
    (λ found is. found_in_direction offers t direction found (c.if-not-has_level_one.ensures.0 refl) reads (subst (λ items. FoundBy (AreStakesInDirection offers items) found) same is))
    c.stakes_in_direction.ensures

pub returns-in-Err-Wide : goal.returns-in-Err-Wide
returns-in-Err-Wide c finding found =
    let lowered = lowered_offers c.args.sheet.now in
    let t = c.args.tableau.now in
    let coarse = c.args.coarse.now.sheet in
    let here : DirectionReads coarse (first_stakes coarse t) (ReadsWide c.in-Err-Wide.field-0-0) = subst (λ f. IfWide {A = Fractions} (Err f) (λ place. DirectionReads coarse (first_stakes coarse t) (ReadsWide place))) c.in-Err-Wide.field-0-is c.in-Err-Wide.ensures.wide in
    let wide = subst (λ (os : List Offer). DirectionReads os (first_stakes os t) (ReadsWide c.in-Err-Wide.field-0-0)) c.requires.lowered here in
    let e = direction_reads_one lowered (first_stakes lowered t) (Reads found.direction) (ReadsWide c.in-Err-Wide.field-0-0) found.reads wide in
    absurd (cc)
