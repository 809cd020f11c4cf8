-- What is found with odds rounded up or down holds for the odds of the sheet.
use Rattle.std.proofs.Common.{◌≡◌, ℕ, ◌+◌, ◌≤◌, true, Bool, List, [], ◌∷◌, length, map, filter, refl, sym, ap, ap₂, ◌∙◌, subst, arith}
use Rattle.std.specs.Prelude.{Option, slice_index, slice_index_or}
use Rattle.std.specs.List.{enumerate_from, range_with_len}
use Rattle.std.proofs.lemmas.Bool.Decides.{nat_tests}
use Rattle.std.proofs.lemmas.List.{length-map, get_or-map}
use Rattle.std.proofs.lemmas.Int.{ints}
use lib.IntN.{ℤ, pos, ◌+ℤ◌, ◌*ℤ◌}
use lib.Signed.{◌≤ℤ◌}
use Rattle.pivot_definitions.specs.Duality.{sum_below}
use Rattle.pivot_definitions.proofs.Ring.{linear, zero_times}
use Rattle.scan_types.specs.declared.odds.Odds.{Odds}
use Rattle.scan_types.specs.declared.offer.Offer.{Offer}
use Rattle.scan_types.specs.declared.outcome.Outcome.{Outcome}
use Rattle.settlement_definitions.specs.Gain.{gain}
use Rattle.settlement_laws.proofs.RaisedOdds.{raising_odds_lowers_no_gain}
use Rattle.finding_definitions.specs.Arbitrage.{total_gain}
use Rattle.finding_definitions.specs.Measure.{weighted_sum, mean}
use Rattle.finding_definitions.specs.Verdicts.{IsRightCoherent}
use Rattle.judging_definitions.specs.CoarseOdds.{rounded_up, rounded_down, at_odds, raised_odds, raised_offers, lowered, lowered_odds, stay_odds, kept_offers, kept_numbers, lowered_offers, item_at, with_zeros}
use Rattle.judging_laws.proofs.Weights.{sum_front}
use Rattle.judging_laws.proofs.ClassFacts.{Each, filter_each}
use Rattle.judging_laws.proofs.Coherence.{times_below}
use Rattle.judging_laws.proofs.Spread.{place, numbers_of, sum_pairs, sum_by_place}

-- ---- odds rounded up

up_no_lower : (n : ℕ) → n ≤ rounded_up n
up_no_lower n = omega arith

raised_no_less : (offer : Offer) (x : Outcome) → gain offer x ≤ℤ gain (at_odds offer (raised_odds offer.odds)) x
raised_no_less offer x = raising_odds_lowers_no_gain offer (at_odds offer (raised_odds offer.odds)) x refl refl (up_no_lower offer.odds.thousandths)

-- a mean of what is nowhere more is not more
weighted_no_less : (f g : Outcome → ℤ) → ((x : Outcome) → f x ≤ℤ g x) → (measure : List (Outcome × ℕ)) → weighted_sum f measure ≤ℤ weighted_sum g measure
weighted_no_less f g less [] = omega (arith, ints)
weighted_no_less f g less (e ∷ measure) =
    let one = times_below (pos e.1) (f e.0) (g e.0) (omega (arith, ints)) (less e.0) in
    let rest = weighted_no_less f g less measure in
    omega (arith, linear, one, rest)

pub raised_measure_is_right : (offers : List Offer) (measure : List (Outcome × ℕ)) → IsRightCoherent (raised_offers offers) measure → IsRightCoherent offers measure
raised_measure_is_right offers measure right =
    let raised : Offer → Offer = λ offer. at_odds offer (raised_odds offer.odds) in
    record {
      price = right.price;
      no_gain = λ k o h.
          (let offer = slice_index_or offers k o in
          let at : slice_index_or (raised_offers offers) k o ≡ raised offer = get_or-map raised offers k o o h in
          let none = subst (λ other. mean measure other ≤ℤ pos 0) at (right.no_gain k o (omega (arith, h, length-map offers raised))) in
          let less = weighted_no_less (gain offer) (gain (raised offer)) (raised_no_less offer) measure in
          omega (arith, linear, none, less));
    }

-- ---- offers that are left out

-- a sum over all offers, each by its number
by_number : (f : ℕ → ℕ) (x : Outcome) (n : ℕ) (offers : List Offer) → total_gain offers (map f (range_with_len n (length offers))) x ≡ sum_pairs (λ pair. pos (f pair.0) *ℤ gain pair.1 x) (enumerate_from n offers)
by_number f x n [] = refl
by_number f x n (offer ∷ offers) = ap (λ s. pos (f n) *ℤ gain offer x +ℤ s) (by_number f x (n + 1) offers)

-- a sum over the kept offers, each by its place
by_place : (items : List ℕ) (x : Outcome) (kept : List (ℕ × Offer)) (o : ℕ × Offer) → sum_below (length kept) (λ k. pos (slice_index items k) *ℤ gain (slice_index_or kept k o).1 x) ≡ total_gain (map (λ (e : ℕ × Offer). e.1) kept) items x
by_place items x [] o = refl
by_place [] x (e ∷ kept) o =
    sum_front (length kept) (λ k. pos (slice_index [] k) *ℤ gain (slice_index_or (e ∷ kept) k o).1 x)
    ∙ ap₂ (λ a b. a +ℤ b) (zero_times (gain e.1 x)) (by_place [] x kept o ∙ nothing kept)
  where
    nothing : (others : List (ℕ × Offer)) → total_gain (map (λ (e : ℕ × Offer). e.1) others) [] x ≡ pos 0
    nothing [] = refl
    nothing (e ∷ others) = refl
by_place (item ∷ items) x (e ∷ kept) o =
    sum_front (length kept) (λ k. pos (slice_index (item ∷ items) k) *ℤ gain (slice_index_or (e ∷ kept) k o).1 x)
    ∙ ap (λ s. pos item *ℤ gain e.1 x +ℤ s) (by_place items x kept o)

pub left_out_gain_nothing : (keeps : ℕ × Offer → Bool) (offers : List Offer) (items : List ℕ) (x : Outcome) → total_gain offers (with_zeros (map (λ (e : ℕ × Offer). e.0) (filter keeps (enumerate_from 0 offers))) items (length offers)) x ≡ total_gain (map (λ (e : ℕ × Offer). e.1) (filter keeps (enumerate_from 0 offers))) items x
left_out_gain_nothing keeps [] items x = refl
left_out_gain_nothing keeps (o ∷ offers) items x =
    let all = o ∷ offers in
    let kept = filter keeps (enumerate_from 0 all) in
    let term : Option ℕ → Offer → ℤ = λ q offer. pos (item_at items q) *ℤ gain offer x in
    by_number (λ n. item_at items (place n (numbers_of kept))) x 0 all
    ∙ sum_by_place keeps term (λ offer. zero_times (gain offer x)) 0 all (0, o)
    ∙ by_place items x kept (0, o)

-- ---- odds rounded down

down_no_higher : (n : ℕ) → 1001 ≤ rounded_down n → lowered n ≤ n
down_no_higher n h = omega (arith, h)

lowered_no_higher : (odds : Odds) → stay_odds odds ≡ true → (lowered_odds odds).thousandths ≤ odds.thousandths
lowered_no_higher odds stay = down_no_higher odds.thousandths (let above : 1001 ≤ rounded_down odds.thousandths = grind (arith, nat_tests) in above)

lowered_no_less : (kept : List (ℕ × Offer)) → Each (λ (e : ℕ × Offer). stay_odds e.1.odds ≡ true) kept → (items : List ℕ) (x : Outcome) → total_gain (map (λ (e : ℕ × Offer). at_odds e.1 (lowered_odds e.1.odds)) kept) items x ≤ℤ total_gain (map (λ (e : ℕ × Offer). e.1) kept) items x
lowered_no_less [] each items x = omega (arith, ints)
lowered_no_less (e ∷ kept) each [] x = omega (arith, ints)
lowered_no_less (e ∷ kept) each (item ∷ items) x =
    let other = at_odds e.1 (lowered_odds e.1.odds) in
    let one = times_below (pos item) (gain other x) (gain e.1 x) (omega (arith, ints)) (raising_odds_lowers_no_gain other e.1 x refl refl (lowered_no_higher e.1.odds each.0)) in
    let rest = lowered_no_less kept each.1 items x in
    omega (arith, linear, one, rest)

pub lowered_stakes_gain_no_less : (offers : List Offer) (items : List ℕ) (x : Outcome) → total_gain (lowered_offers offers) items x ≤ℤ total_gain offers (with_zeros (kept_numbers offers) items (length offers)) x
lowered_stakes_gain_no_less offers items x =
    let keeps : ℕ × Offer → Bool = λ e. stay_odds e.1.odds in
    subst (λ z. total_gain (lowered_offers offers) items x ≤ℤ z) (sym (left_out_gain_nothing keeps offers items x))
    (lowered_no_less (kept_offers offers) (filter_each keeps (enumerate_from 0 offers)) items x)
