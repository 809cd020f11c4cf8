use Rattle.std.proofs.Common.{ℕ, ℤ, pos, negsuc, ◌≡◌, ◌+◌, ◌*◌, ◌%◌, ◌≤◌, ◌⊎◌, inl, inr, ◌+ℤ◌, ◌-ℤ◌, ◌≤ℤ◌, neg_ℤ, Bool, true, false, suc, refl, sym, ap, ◌∙◌, arith}
use Rattle.std.specs.Prelude.{nat_lt, nat_le, ◌==◌, int_lt, unsigned_abs, if◌then◌else◌}
use Rattle.std.proofs.lemmas.Int.{ints}
use Rattle.std.proofs.lemmas.Bool.{cases_lt}
use Rattle.std.proofs.lemmas.Bool.Decides.{nat_tests}
use Rattle.scan_types.specs.declared.selection.Selection.{Selection}
use Rattle.scan_types.specs.declared.selection.Selection.TheVariants.{Home, Draw, Away, HandicapHome, HandicapAway, Over, Under}
use Rattle.scan_types.specs.declared.rule.VoidRule.{VoidRule}
use Rattle.scan_types.specs.declared.rule.VoidRule.TheVariants.{Void, Score, Decided}
use Rattle.scan_types.specs.declared.offer.Offer.{Offer}
use Rattle.scan_types.specs.declared.outcome.Outcome.{Outcome}
use Rattle.scan_types.specs.declared.outcome.Outcome.TheVariants.{Full, Abandoned}
use Rattle.settlement_definitions.specs.declared.leg_result.LegResult.TheVariants.{Push}
use Rattle.settlement_definitions.specs.Legs.{legs_of, leg_result, lead, excess, by_sign, win_if}
use Rattle.settlement_definitions.specs.LegSigns.{by_sign-above, by_sign-below}
use Rattle.settlement_definitions.specs.Decided.{exceeds_line}
use Rattle.settlement_definitions.specs.Abandonment.{leg_at}
use Rattle.settlement_definitions.specs.Gain.{gain, leg_gain}
use Rattle.settlement_definitions.proofs.DecidedLemmas.{decided_result-by_goals}
use Rattle.settlement_definitions.specs.StandIns.{stand_for, stand_score, lead_step, high_score, is_final}
use Rattle.settlement_laws.proofs.HighScores.{high_scores_by_lead}

-- a leg within the lines that books offer: handicaps to five goals, totals to seven and a half
abbrev IsOffered : Selection → ℤ → Type 0
IsOffered Home leg = Unit {0}
IsOffered Draw leg = Unit {0}
IsOffered Away leg = Unit {0}
IsOffered (HandicapHome _) leg = (negsuc 19 ≤ℤ leg) × (leg ≤ℤ pos 20)
IsOffered (HandicapAway _) leg = (negsuc 19 ≤ℤ leg) × (leg ≤ℤ pos 20)
IsOffered (Over _) leg = leg ≤ℤ pos 30
IsOffered (Under _) leg = leg ≤ℤ pos 30

-- the legs of a line that is even or odd
abbrev split : ℤ → Bool → ℤ × ℤ
split q even = if even then (q, q) else (q -ℤ pos 1, q +ℤ pos 1)

split_handicap : (q : ℤ) (b : Bool) → (unsigned_abs q % 2 == 0) ≡ b → negsuc 19 ≤ℤ q → q ≤ℤ pos 20 → ((negsuc 19 ≤ℤ (split q b).0) × ((split q b).0 ≤ℤ pos 20)) × ((negsuc 19 ≤ℤ (split q b).1) × ((split q b).1 ≤ℤ pos 20))
split_handicap q true e low high = ((low, high), (low, high))
split_handicap (pos n) false e low high =
    let odd : n % 2 ≡ 1 = grind (arith, nat_tests) in
    let few : n ≤ 20 = omega (arith, ints) in
    let fewer : n ≤ 19 = omega arith in
    ((omega (arith, ints), omega (arith, ints)), (omega (arith, ints), omega (arith, ints)))
split_handicap (negsuc n) false e low high =
    let odd : suc n % 2 ≡ 1 = grind (arith, nat_tests) in
    let few : n ≤ 19 = omega (arith, ints) in
    let fewer : n ≤ 18 = omega arith in
    ((omega (arith, ints), omega (arith, ints)), (omega (arith, ints), omega (arith, ints)))

split_total : (n : ℕ) (b : Bool) → (n % 2 == 0) ≡ b → n ≤ 30 → ((split (pos n) b).0 ≤ℤ pos 30) × ((split (pos n) b).1 ≤ℤ pos 30)
split_total n true e high = (omega (arith, ints), omega (arith, ints))
split_total n false e high =
    let odd : n % 2 ≡ 1 = grind (arith, nat_tests) in
    let fewer : n ≤ 29 = omega arith in
    (omega (arith, ints), omega (arith, ints))

-- the legs of a bet stay within the lines that books offer
legs_offered : (selection : Selection) → IsOffered selection (legs_of selection).0 × IsOffered selection (legs_of selection).1
legs_offered Home = (tt, tt)
legs_offered Draw = (tt, tt)
legs_offered Away = (tt, tt)
legs_offered (HandicapHome line) = split_handicap line.quarters (unsigned_abs line.quarters % 2 == 0) refl line.at_least line.at_most
legs_offered (HandicapAway line) = split_handicap line.quarters (unsigned_abs line.quarters % 2 == 0) refl line.at_least line.at_most
legs_offered (Over line) = split_total line.quarters (line.quarters % 2 == 0) refl line.at_most
legs_offered (Under line) = split_total line.quarters (line.quarters % 2 == 0) refl line.at_most

-- two scores with the same lead, or both led by six goals or more by the same side
abbrev SameLead : ℕ → ℕ → ℕ → ℕ → Type 0
SameLead h a home away =
    (h + away ≡ home + a) ⊎ (((h + 6 ≤ a) × (home + 6 ≤ away)) ⊎ ((a + 6 ≤ h) × (away + 6 ≤ home)))

high_total : (step : ℕ) → step ≤ 12 → 8 ≤ (high_score step).0 + (high_score step).1
high_total step few = let by_lead = high_scores_by_lead step few in omega arith

high_same_lead : (h a : ℕ) → SameLead h a (high_score (lead_step h a)).0 (high_score (lead_step h a)).1
high_same_lead h a =
    let by_lead = high_scores_by_lead (lead_step h a) (omega arith) in
    elim (cases_lt (h + 5) a) [
      | inl behind ↦ inr (inl (omega arith, omega arith))
      | inr near ↦ elim (cases_lt (a + 5) h) [ inl ahead ↦ inr (inr (omega arith, omega arith)) | inr level ↦ inl (omega arith) ]
    ]

-- from eight goals on a leg goes by the lead alone
leg_result-same_lead : (selection : Selection) (leg : ℤ) (h a home away : ℕ) → IsOffered selection leg → 8 ≤ h + a → 8 ≤ home + away → SameLead h a home away → leg_result selection leg home away ≡ leg_result selection leg h a
leg_result-same_lead Home leg h a home away offered m n s = let e : nat_lt away home ≡ nat_lt a h = grind (arith, nat_tests) in ap win_if e
leg_result-same_lead Draw leg h a home away offered m n s = let e : (home == away) ≡ (h == a) = grind (arith, nat_tests) in ap win_if e
leg_result-same_lead Away leg h a home away offered m n s = let e : nat_lt home away ≡ nat_lt h a = grind (arith, nat_tests) in ap win_if e
leg_result-same_lead (HandicapHome _) leg h a home away offered m n (inl e) =
    let same : lead leg home away ≡ lead leg h a = omega (arith, ints) in ap by_sign same
leg_result-same_lead (HandicapHome _) leg h a home away offered m n (inr (inl s)) =
    by_sign-below (lead leg home away) (omega (arith, ints)) ∙ sym (by_sign-below (lead leg h a) (omega (arith, ints)))
leg_result-same_lead (HandicapHome _) leg h a home away offered m n (inr (inr s)) =
    by_sign-above (lead leg home away) (omega (arith, ints)) ∙ sym (by_sign-above (lead leg h a) (omega (arith, ints)))
leg_result-same_lead (HandicapAway _) leg h a home away offered m n (inl e) =
    let same : lead leg home away ≡ lead leg h a = omega (arith, ints) in ap (λ z. by_sign (neg_ℤ z)) same
leg_result-same_lead (HandicapAway _) leg h a home away offered m n (inr (inl s)) =
    by_sign-above (neg_ℤ (lead leg home away)) (omega (arith, ints)) ∙ sym (by_sign-above (neg_ℤ (lead leg h a)) (omega (arith, ints)))
leg_result-same_lead (HandicapAway _) leg h a home away offered m n (inr (inr s)) =
    by_sign-below (neg_ℤ (lead leg home away)) (omega (arith, ints)) ∙ sym (by_sign-below (neg_ℤ (lead leg h a)) (omega (arith, ints)))
leg_result-same_lead (Over _) leg h a home away offered m n s =
    by_sign-above (excess leg home away) (omega (arith, ints)) ∙ sym (by_sign-above (excess leg h a) (omega (arith, ints)))
leg_result-same_lead (Under _) leg h a home away offered m n s =
    by_sign-below (neg_ℤ (excess leg home away)) (omega (arith, ints)) ∙ sym (by_sign-below (neg_ℤ (excess leg h a)) (omega (arith, ints)))

-- from eight goals on every offered total is exceeded
exceeds_line-high : (selection : Selection) (leg : ℤ) (h a home away : ℕ) → IsOffered selection leg → 8 ≤ h + a → 8 ≤ home + away → exceeds_line selection leg home away ≡ exceeds_line selection leg h a
exceeds_line-high Home leg h a home away offered m n = refl
exceeds_line-high Draw leg h a home away offered m n = refl
exceeds_line-high Away leg h a home away offered m n = refl
exceeds_line-high (HandicapHome _) leg h a home away offered m n = refl
exceeds_line-high (HandicapAway _) leg h a home away offered m n = refl
exceeds_line-high (Over _) leg h a home away offered m n =
    let e : int_lt leg (pos (4 * (home + away))) ≡ true = grind (arith, ints) in
    let f : int_lt leg (pos (4 * (h + a))) ≡ true = grind (arith, ints) in
    e ∙ sym f
exceeds_line-high (Under _) leg h a home away offered m n =
    let e : int_lt leg (pos (4 * (home + away))) ≡ true = grind (arith, ints) in
    let f : int_lt leg (pos (4 * (h + a))) ≡ true = grind (arith, ints) in
    e ∙ sym f

stand_score-cases_at : (P : ℕ × ℕ → Type 0) (h a : ℕ) → P (h, a) → (8 ≤ h + a → P (high_score (lead_step h a))) → (b : Bool) → nat_le (h + a) 7 ≡ b → P (if b then (h, a) else (high_score (lead_step h a)))
stand_score-cases_at P h a low high true e = low
stand_score-cases_at P h a low high false e = high (grind (arith, nat_tests))

-- up to seven goals a score stands for itself, and beyond the one with its lead stands for it
stand_score-cases : (P : ℕ × ℕ → Type 0) (h a : ℕ) → P (h, a) → (8 ≤ h + a → P (high_score (lead_step h a))) → P (stand_score h a)
stand_score-cases P h a low high = stand_score-cases_at P h a low high (nat_le (h + a) 7) refl

leg_result-stand_score : (selection : Selection) (leg : ℤ) (h a : ℕ) → IsOffered selection leg → leg_result selection leg (stand_score h a).0 (stand_score h a).1 ≡ leg_result selection leg h a
leg_result-stand_score selection leg h a offered =
    stand_score-cases (λ s. leg_result selection leg s.0 s.1 ≡ leg_result selection leg h a) h a refl
    (λ many. leg_result-same_lead selection leg h a (high_score (lead_step h a)).0 (high_score (lead_step h a)).1 offered many (high_total (lead_step h a) (omega arith)) (high_same_lead h a))

exceeds_line-stand_score : (selection : Selection) (leg : ℤ) (h a : ℕ) → IsOffered selection leg → exceeds_line selection leg (stand_score h a).0 (stand_score h a).1 ≡ exceeds_line selection leg h a
exceeds_line-stand_score selection leg h a offered =
    stand_score-cases (λ s. exceeds_line selection leg s.0 s.1 ≡ exceeds_line selection leg h a) h a refl
    (λ many. exceeds_line-high selection leg h a (high_score (lead_step h a)).0 (high_score (lead_step h a)).1 offered many (high_total (lead_step h a) (omega arith)))

-- a leg goes at the stand-in as at each outcome that it stands for
leg_at-stand_for : (rule : VoidRule) (selection : Selection) (leg : ℤ) (x : Outcome) → IsOffered selection leg → leg_at rule selection leg (stand_for x) ≡ leg_at rule selection leg x
leg_at-stand_for rule selection leg (Full h a) offered = leg_result-stand_score selection leg h a offered
leg_at-stand_for Void selection leg (Abandoned h a) offered = refl
leg_at-stand_for Score selection leg (Abandoned h a) offered = leg_result-stand_score selection leg h a offered
leg_at-stand_for Decided selection leg (Abandoned h a) offered =
    let s = stand_score h a in
    decided_result-by_goals selection leg s.0 s.1 ∙ ap (λ b. if b then leg_result selection leg s.0 s.1 else Push) (exceeds_line-stand_score selection leg h a offered) ∙ ap (λ r. if exceeds_line selection leg h a then r else Push) (leg_result-stand_score selection leg h a offered) ∙ sym (decided_result-by_goals selection leg h a)

-- an offer gains at the stand-in what it gains at each outcome that it stands for
pub gain-stand_for : (offer : Offer) (x : Outcome) → gain offer (stand_for x) ≡ gain offer x
gain-stand_for offer x =
    let legs = legs_of offer.selection in
    let offered = legs_offered offer.selection in
    let first = leg_at-stand_for offer.rule offer.selection legs.0 x offered.0 in
    let second = leg_at-stand_for offer.rule offer.selection legs.1 x offered.1 in
    let odds = offer.odds.thousandths in
    ap (λ r. leg_gain odds r +ℤ leg_gain odds (leg_at offer.rule offer.selection legs.1 (stand_for x))) first ∙ ap (λ r. leg_gain odds (leg_at offer.rule offer.selection legs.0 x) +ℤ leg_gain odds r) second

-- a stand-in is of the kind of each outcome that it stands for
pub is_final-stand_for : (x : Outcome) → is_final (stand_for x) ≡ is_final x
is_final-stand_for (Full h a) = refl
is_final-stand_for (Abandoned h a) = refl
