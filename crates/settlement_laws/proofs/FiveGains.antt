-- The two legs of a bet never go opposite ways, so a bet gains one of five amounts.
use Rattle.std.proofs.Common.{ℕ, ℤ, pos, negsuc, zero, suc, ◌≡◌, ◌+◌, ◌*◌, ◌/◌, ◌%◌, ◌+ℤ◌, ◌-ℤ◌, ◌*ℤ◌, ◌<ℤ◌, neg_ℤ, true, false, Bool, refl, sym, subst, inl, inr, arith}
use Rattle.std.specs.Prelude.{◌⊎◌, ◌==◌, int_lt, unsigned_abs, if◌then◌else◌}
use Rattle.std.proofs.lemmas.Int.{ints}
use Rattle.std.proofs.lemmas.Bool.Decides.{nat_tests}
use Rattle.scan_types.specs.declared.selection.Selection.{Selection}
use Rattle.scan_types.specs.declared.selection.Selection.TheVariants.{Home, Draw, Away, HandicapHome, HandicapAway, Over, Under}
use Rattle.scan_types.specs.declared.rule.VoidRule.{VoidRule}
use Rattle.scan_types.specs.declared.rule.VoidRule.TheVariants.{Void, Score, Decided}
use Rattle.scan_types.specs.declared.offer.Offer.{Offer}
use Rattle.scan_types.specs.declared.outcome.Outcome.{Outcome}
use Rattle.scan_types.specs.declared.outcome.Outcome.TheVariants.{Full, Abandoned}
use Rattle.settlement_definitions.specs.declared.leg_result.LegResult.{LegResult}
use Rattle.settlement_definitions.specs.declared.leg_result.LegResult.TheVariants.{Win, Push, Lose}
use Rattle.settlement_definitions.specs.Legs.{legs_of, legs_of_line, by_sign, lead, excess, leg_result}
use Rattle.settlement_definitions.specs.LegSigns.{by_sign-above, by_sign-below}
use Rattle.settlement_definitions.specs.Decided.{exceeds_line}
use Rattle.settlement_definitions.specs.Abandonment.{leg_at}
use Rattle.settlement_definitions.specs.Gain.{gain, leg_gain}
use Rattle.settlement_definitions.proofs.DecidedLemmas.{decided_result-by_goals}

-- the two results are not opposite
abbrev pub AreNear : LegResult → LegResult → Type 0
AreNear Win Win = Unit {0}
AreNear Win Push = Unit {0}
AreNear Win Lose = ⊥
AreNear Push Win = Unit {0}
AreNear Push Push = Unit {0}
AreNear Push Lose = Unit {0}
AreNear Lose Win = ⊥
AreNear Lose Push = Unit {0}
AreNear Lose Lose = Unit {0}

near_same : (r : LegResult) → AreNear r r
near_same Win = tt
near_same Push = tt
near_same Lose = tt

near_signs : (m n : ℤ) → (m <ℤ pos 0 → pos 0 <ℤ n → ⊥) → (n <ℤ pos 0 → pos 0 <ℤ m → ⊥) → AreNear (by_sign m) (by_sign n)
near_signs (pos zero) (pos zero) p q = tt
near_signs (pos zero) (pos (suc j)) p q = tt
near_signs (pos zero) (negsuc j) p q = tt
near_signs (pos (suc i)) (pos zero) p q = tt
near_signs (pos (suc i)) (pos (suc j)) p q = tt
near_signs (pos (suc i)) (negsuc j) p q = q (omega (arith, ints)) (omega (arith, ints))
near_signs (negsuc i) (pos zero) p q = tt
near_signs (negsuc i) (pos (suc j)) p q = p (omega (arith, ints)) (omega (arith, ints))
near_signs (negsuc i) (negsuc j) p q = tt

-- the legs are equal, or lie one below and one above an odd line
data AreLegs (q first second : ℤ) : Type 0 where
  Equal : first ≡ second → AreLegs q first second
  Apart : (j : ℤ) → first ≡ pos 2 *ℤ j → second ≡ pos 2 *ℤ j +ℤ pos 2 → AreLegs q first second

odd_line : (q : ℤ) → (unsigned_abs q % 2 == 0) ≡ false → (j : ℤ) × (q ≡ pos 2 *ℤ j +ℤ pos 1)
odd_line (pos n) e =
    let odd : n % 2 ≡ 0 → ⊥ = λ h. absurd (let t : (n % 2 == 0) ≡ true = grind (arith, nat_tests) in cc) in
    (pos (n / 2), omega (arith, ints, odd))
odd_line (negsuc n) e =
    let odd : suc n % 2 ≡ 0 → ⊥ = λ h. absurd (let t : (suc n % 2 == 0) ≡ true = grind (arith, nat_tests) in cc) in
    (negsuc (suc n / 2), omega (arith, ints, odd))

abbrev legs_by : ℤ → Bool → ℤ × ℤ
legs_by q b = if b then (q, q) else (q -ℤ pos 1, q +ℤ pos 1)

legs_at_test : (q : ℤ) (b : Bool) → (unsigned_abs q % 2 == 0) ≡ b → AreLegs q (legs_by q b).0 (legs_by q b).1
legs_at_test q true e = Equal refl
legs_at_test q false e =
    let o = odd_line q e in
    let is : q ≡ pos 2 *ℤ o.0 +ℤ pos 1 = o.1 in
    Apart o.0 (omega (arith, ints)) (omega (arith, ints))

legs_of_a_line : (q : ℤ) → AreLegs q (legs_of_line q).0 (legs_of_line q).1
legs_of_a_line q = legs_at_test q (unsigned_abs q % 2 == 0) refl

near_lead : (q first second : ℤ) (h a : ℕ) → AreLegs q first second → AreNear (by_sign (lead first h a)) (by_sign (lead second h a))
near_lead q first second h a (Equal e) = subst (λ leg. AreNear (by_sign (lead first h a)) (by_sign (lead leg h a))) e (near_same (by_sign (lead first h a)))
near_lead q first second h a (Apart j d e) = near_signs (lead first h a) (lead second h a) (λ x y. omega (arith, ints, d, e)) (λ x y. omega (arith, ints, d, e))

near_lead_back : (q first second : ℤ) (h a : ℕ) → AreLegs q first second → AreNear (by_sign (neg_ℤ (lead first h a))) (by_sign (neg_ℤ (lead second h a)))
near_lead_back q first second h a (Equal e) = subst (λ leg. AreNear (by_sign (neg_ℤ (lead first h a))) (by_sign (neg_ℤ (lead leg h a)))) e (near_same (by_sign (neg_ℤ (lead first h a))))
near_lead_back q first second h a (Apart j d e) = near_signs (neg_ℤ (lead first h a)) (neg_ℤ (lead second h a)) (λ x y. omega (arith, ints, d, e)) (λ x y. omega (arith, ints, d, e))

near_excess : (q first second : ℤ) (h a : ℕ) → AreLegs q first second → AreNear (by_sign (excess first h a)) (by_sign (excess second h a))
near_excess q first second h a (Equal e) = subst (λ leg. AreNear (by_sign (excess first h a)) (by_sign (excess leg h a))) e (near_same (by_sign (excess first h a)))
near_excess q first second h a (Apart j d e) = near_signs (excess first h a) (excess second h a) (λ x y. omega (arith, ints, d, e)) (λ x y. omega (arith, ints, d, e))

near_excess_back : (q first second : ℤ) (h a : ℕ) → AreLegs q first second → AreNear (by_sign (neg_ℤ (excess first h a))) (by_sign (neg_ℤ (excess second h a)))
near_excess_back q first second h a (Equal e) = subst (λ leg. AreNear (by_sign (neg_ℤ (excess first h a))) (by_sign (neg_ℤ (excess leg h a)))) e (near_same (by_sign (neg_ℤ (excess first h a))))
near_excess_back q first second h a (Apart j d e) = near_signs (neg_ℤ (excess first h a)) (neg_ℤ (excess second h a)) (λ x y. omega (arith, ints, d, e)) (λ x y. omega (arith, ints, d, e))

-- at a final score
near_final : (s : Selection) (h a : ℕ) → AreNear (leg_result s (legs_of s).0 h a) (leg_result s (legs_of s).1 h a)
near_final Home h a = near_same _
near_final Draw h a = near_same _
near_final Away h a = near_same _
near_final (HandicapHome line) h a = near_lead line.quarters _ _ h a (legs_of_a_line line.quarters)
near_final (HandicapAway line) h a = near_lead_back line.quarters _ _ h a (legs_of_a_line line.quarters)
near_final (Over line) h a = near_excess (pos line.quarters) _ _ h a (legs_of_a_line (pos line.quarters))
near_final (Under line) h a = near_excess_back (pos line.quarters) _ _ h a (legs_of_a_line (pos line.quarters))

-- a leg that is decided early is never lost by over, nor won by under
over_near : (r s : LegResult) → (r ≡ Win) ⊎ (r ≡ Push) → (s ≡ Win) ⊎ (s ≡ Push) → AreNear r s
over_near r s (inl e) (inl f) = rw (e, f) tt
over_near r s (inl e) (inr f) = rw (e, f) tt
over_near r s (inr e) (inl f) = rw (e, f) tt
over_near r s (inr e) (inr f) = rw (e, f) tt

under_near : (r s : LegResult) → (r ≡ Lose) ⊎ (r ≡ Push) → (s ≡ Lose) ⊎ (s ≡ Push) → AreNear r s
under_near r s (inl e) (inl f) = rw (e, f) tt
under_near r s (inl e) (inr f) = rw (e, f) tt
under_near r s (inr e) (inl f) = rw (e, f) tt
under_near r s (inr e) (inr f) = rw (e, f) tt

over_if : (leg : ℤ) (h a : ℕ) (b : Bool) → int_lt leg (pos (4 * (h + a))) ≡ b → ((if b then by_sign (excess leg h a) else Push) ≡ Win) ⊎ ((if b then by_sign (excess leg h a) else Push) ≡ Push)
over_if leg h a true e = let above : leg <ℤ pos (4 * (h + a)) = grind (arith, ints) in inl (by_sign-above (excess leg h a) (omega (arith, ints)))
over_if leg h a false e = inr refl

under_if : (leg : ℤ) (h a : ℕ) (b : Bool) → int_lt leg (pos (4 * (h + a))) ≡ b → ((if b then by_sign (neg_ℤ (excess leg h a)) else Push) ≡ Lose) ⊎ ((if b then by_sign (neg_ℤ (excess leg h a)) else Push) ≡ Push)
under_if leg h a true e = let above : leg <ℤ pos (4 * (h + a)) = grind (arith, ints) in inl (by_sign-below (neg_ℤ (excess leg h a)) (omega (arith, ints)))
under_if leg h a false e = inr refl

-- what the goals tell of a leg under `decided`
abbrev by_goals : Selection → ℤ → ℕ → ℕ → LegResult
by_goals s leg h a = if exceeds_line s leg h a then leg_result s leg h a else Push

near_goals : (s : Selection) (h a : ℕ) → AreNear (by_goals s (legs_of s).0 h a) (by_goals s (legs_of s).1 h a)
near_goals Home h a = tt
near_goals Draw h a = tt
near_goals Away h a = tt
near_goals (HandicapHome line) h a = tt
near_goals (HandicapAway line) h a = tt
near_goals (Over line) h a = over_near _ _ (over_if (legs_of (Over line)).0 h a _ refl) (over_if (legs_of (Over line)).1 h a _ refl)
near_goals (Under line) h a = under_near _ _ (under_if (legs_of (Under line)).0 h a _ refl) (under_if (legs_of (Under line)).1 h a _ refl)

near_along : (r s t u : LegResult) → r ≡ t → s ≡ u → AreNear t u → AreNear r s
near_along r s t u e f n = subst (λ y. AreNear r y) (sym f) (subst (λ x. AreNear x u) (sym e) n)

near_abandoned : (rule : VoidRule) (s : Selection) (h a : ℕ) → AreNear (leg_at rule s (legs_of s).0 (Abandoned h a)) (leg_at rule s (legs_of s).1 (Abandoned h a))
near_abandoned Void s h a = tt
near_abandoned Score s h a = near_final s h a
near_abandoned Decided s h a =
    near_along _ _ (by_goals s (legs_of s).0 h a) (by_goals s (legs_of s).1 h a)
    (decided_result-by_goals s (legs_of s).0 h a) (decided_result-by_goals s (legs_of s).1 h a) (near_goals s h a)

-- the legs of a bet, at any outcome
pub near_at : (rule : VoidRule) (s : Selection) (x : Outcome) → AreNear (leg_at rule s (legs_of s).0 x) (leg_at rule s (legs_of s).1 x)
near_at rule s (Full h a) = near_final s h a
near_at rule s (Abandoned h a) = near_abandoned rule s h a

-- lost, half lost, given back, half won, won
abbrev IsOneOfFive : ℕ → ℤ → Type 0
IsOneOfFive odds g =
    let profit = pos odds -ℤ pos 1000 in
    (g ≡ negsuc 1999) ⊎ ((g ≡ negsuc 999) ⊎ ((g ≡ pos 0) ⊎ ((g ≡ profit) ⊎ (g ≡ profit +ℤ profit))))

five_of : (odds : ℕ) (r s : LegResult) → AreNear r s → IsOneOfFive odds (leg_gain odds r +ℤ leg_gain odds s)
five_of odds Win Win n = inr (inr (inr (inr refl)))
five_of odds Win Push n = inr (inr (inr (inl (omega (arith, ints)))))
five_of odds Win Lose n = absurd n
five_of odds Push Win n = inr (inr (inr (inl (omega (arith, ints)))))
five_of odds Push Push n = inr (inr (inl refl))
five_of odds Push Lose n = inr (inl refl)
five_of odds Lose Win n = absurd n
five_of odds Lose Push n = inr (inl refl)
five_of odds Lose Lose n = inl refl

pub five_gains : (offer : Offer) (x : Outcome) → IsOneOfFive offer.odds.thousandths (gain offer x)
five_gains offer x = five_of offer.odds.thousandths (leg_at offer.rule offer.selection (legs_of offer.selection).0 x) (leg_at offer.rule offer.selection (legs_of offer.selection).1 x) (near_at offer.rule offer.selection x)
