use Rattle.std.proofs.Common.{◌≡◌, ℕ, ◌+◌, ◌<◌, Bool, true, false, not, cond, List, [], ◌∷◌, ◌++◌, length, map, take, filter, refl, sym, ap, ap₂, ◌∙◌, subst, arith}
use Rattle.std.specs.Prelude.{slice_index_or, nat_lt}
use Rattle.std.specs.List.{All, enumerate_from}
use Rattle.std.proofs.lemmas.List.{take_all, map-append, append-nil}
use Rattle.std.proofs.lemmas.List.FromFn.{length-enumerate_from, get_or-enumerate_from}
use Rattle.std.proofs.lemmas.List.Elements.{filter_more}
use Rattle.scan_types.specs.declared.offer.Offer.{Offer}
use Rattle.settlement_definitions.specs.Scores.{HasScoresInRange}
use Rattle.judging_definitions.specs.Columns.{is_undominated, leading_offers}
use Rattle.judging_laws.proofs.ClassFacts.{each_at, classes_in_range}
use Rattle.coherence_lp.proofs.Tables.{table_of, length-table, leads_by_table}
use Rattle.coherence_lp.specs.Comparisons.{any_below, row_dominates, table_row}
use Rattle.coherence_lp.proofs.offer_list.leading.Goals.{then-not-is_dominated+in_ok-push, else-not-is_dominated}
use Rattle.coherence_lp.proofs.offer_list.leading.Goals as goal

pub gain_table-requires : goal.gain_table-requires
gain_table-requires c = subst (All HasScoresInRange) (sym (c.outcomes-outcomes.ensures ∙ c.requires)) (each_at HasScoresInRange _ (classes_in_range c.args.sheet.now))

pub is_dominated-requires-clause-table : goal.is_dominated-requires-clause-table
is_dominated-requires-clause-table c =
    let long = ap length (c.deref.ensures.value ∙ c.in_ok-table.ensures) ∙ length-table c.outcomes-outcomes.result.now c.offers-offers.result.now in
    omega (arith, long)

-- one more offer, which leads or not
more : (p : ℕ × Offer → Bool) (all : List (ℕ × Offer)) (i : ℕ) (d : ℕ × Offer) (b : Bool) → i < length all → p (slice_index_or all i d) ≡ b → map (λ (e : ℕ × Offer). e.0) (filter p (take (i + 1) all)) ≡ map (λ (e : ℕ × Offer). e.0) (filter p (take i all)) ++ cond b ((slice_index_or all i d).0 ∷ []) []
more p all i d b within is =
    let f : ℕ × Offer → ℕ = λ e. e.0 in
    ap (map f) (filter_more p all i d within ∙ ap (λ t. filter p (take i all) ++ cond t (slice_index_or all i d ∷ []) []) is)
    ∙ map-append f (filter p (take i all)) (cond b (slice_index_or all i d ∷ []) [])
    ∙ ap (λ xs. map f (filter p (take i all)) ++ xs) (elim b as (λ t. map f (cond t (slice_index_or all i d ∷ []) []) ≡ cond t ((slice_index_or all i d).0 ∷ []) []) [ true ↦ refl | false ↦ refl ])

some_offer : (offers : List Offer) (i : ℕ) → i < length offers → Offer
some_offer [] i h = absurd (omega (arith, h))
some_offer (offer ∷ offers) i h = offer

pub loop-i-preserved : goal.loop-i-preserved
loop-i-preserved c =
    let offers = c.offers-offers.result.now in
    let classes = c.outcomes-outcomes.result.now in
    let i = c.loop-i.i in
    let o = some_offer offers i c.loop-i-test.true in
    let all = enumerate_from 0 offers in
    let p = is_undominated classes all in
    let within : i < length all = omega (arith, length-enumerate_from 0 offers, c.loop-i-test.true) in
    let table = c.deref.ensures.value ∙ c.in_ok-table.ensures in
    let leads = leads_by_table classes offers i o c.loop-i-test.true in
    let found : c.is_dominated.result ≡ any_below (λ k. row_dominates (table_row (table_of classes offers) (length classes) k) (table_row (table_of classes offers) (length classes) i) (length classes) (nat_lt k i)) (length offers) =
    c.is_dominated.ensures ∙ ap (λ t. any_below (λ k. row_dominates (table_row t (length classes) k) (table_row t (length classes) i) (length classes) (nat_lt k i)) (length offers)) table in
    let number : (slice_index_or all i (0, o)).0 ≡ i = ap (λ (e : ℕ × Offer). e.0) (get_or-enumerate_from 0 offers i (0, o) c.loop-i-test.true) ∙ (let e : 0 + i ≡ i = omega arith in e) in
    let test : p (slice_index_or all i (0, o)) ≡ not c.is_dominated.result = leads ∙ ap not (sym found) in
    elim c.if-not-is_dominated.branch [
      | then-not-is_dominated+in_ok-push w ↦
          ap (λ v. v.items) w.numbers-is ∙ w.in_ok-push.ensures.items
          ∙ ap₂ (λ xs x. xs ++ x ∷ []) c.loop-i.invariant (sym number)
          ∙ sym (more p all i (0, o) true within (test ∙ ap not w.if-not-is_dominated.true))
      | else-not-is_dominated w ↦
          ap (λ v. v.items) w.numbers-is ∙ c.loop-i.invariant
          ∙ sym (append-nil (map (λ (e : ℕ × Offer). e.0) (filter p (take i all))))
          ∙ sym (more p all i (0, o) false within (test ∙ ap not w.if-not-is_dominated.false))
    ]

pub returns : goal.returns
returns c =
    let offers = c.offers-offers.result.now in
    let classes = c.outcomes-outcomes.result.now in
    let all = enumerate_from 0 offers in
    let count = length-enumerate_from 0 offers in
    c.loop-i.invariant
    ∙ ap (λ xs. map (λ (e : ℕ × Offer). e.0) (filter (is_undominated classes all) xs)) (take_all c.loop-i.i all (omega (arith, count, c.loop-i-test.false)))
    ∙ ap₂ (λ os cs. map (λ (e : ℕ × Offer). e.0) (leading_offers os cs)) c.offers-offers.ensures.value c.outcomes-outcomes.ensures
