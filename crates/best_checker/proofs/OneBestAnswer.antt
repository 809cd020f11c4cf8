-- Each test refuses with at most one answer, and only if it is not passed.
use Rattle.std.proofs.Common.{◌≡◌, ℕ, ℤ, pos, ◌*◌, ◌*ℤ◌, ◌⊎◌, List, length, get_or, inl, inr, refl, sym, ap, ◌∙◌}
use Rattle.scan_types.specs.declared.offer.Offer.{Offer}
use Rattle.scan_types.specs.declared.outcome.Outcome.{Outcome}
use Rattle.settlement_definitions.specs.StandIns.{stand_ins}
use Rattle.finding_definitions.specs.Fractions.{Fractions}
use Rattle.finding_definitions.specs.Arbitrage.{total_gain}
use Rattle.finding_definitions.specs.Measure.{IsPriceMeasure}
use Rattle.finding_definitions.specs.Verdicts.{reach}
use Rattle.finding_definitions.specs.Best.{final_need}
use Rattle.price_duality.proofs.MostGain.{one_least}
use Rattle.cert_checker.specs.declared.answer.Part.TheVariants.{Stakes, Measure}
use Rattle.cert_checker.specs.Places.{AllHold}
use Rattle.cert_checker.specs.Shapes.{HasShape}
use Rattle.cert_checker.specs.Answers.{Tests, IsWithin}
use Rattle.cert_checker.proofs.Rightness.{no_measure_fault, no_shape_fault}
use Rattle.cert_checker.proofs.OneAnswer.{one_place, one_offer, failed, failed_offer, one_measure_fault, one_shape_fault, one_element}
use Rattle.best_checker.specs.declared.answer.BestAnswer.{BestAnswer}
use Rattle.best_checker.specs.declared.answer.BestAnswer.TheVariants.{NoShape, NoOffer, NoAt, NoTie}
use Rattle.best_checker.specs.Abandonments.{KeepsAll}
use Rattle.best_checker.specs.BestAnswers.{IsYes, IsBestAnswer, RefusesShape, RefusesMeasure, RefusesLimit, RefusesAbandonment, RefusesTie}
use Rattle.best_checker.proofs.LowestTerms.{same_amount}
use Rattle.best_checker.proofs.Rightness.{divisor_above, final_need_above, no_difference}

-- the two answers of one test and of the later ones
abbrev Same : BestAnswer → BestAnswer → Type 0
Same a b = (IsYes a × IsYes b) ⊎ (a ≡ b)

one_of_tests : {RA RB P LA LB : Type 0} (a b : BestAnswer) → Tests RA P LA → Tests RB P LB → (RA → RB → a ≡ b) → (RA → P → ⊥) → (RB → P → ⊥) → (P → LA → LB → Same a b) → Same a b
one_of_tests a b (inl ra) (inl rb) same never_a never_b later = inr (same ra rb)
one_of_tests a b (inl ra) (inr pb) same never_a never_b later = absurd (never_a ra pb.0)
one_of_tests a b (inr pa) (inl rb) same never_a never_b later = absurd (never_b rb pa.0)
one_of_tests a b (inr pa) (inr pb) same never_a never_b later = later pa.0 pa.1 pb.1

shape_once : (offers : List Offer) (stakes : Fractions) (a b : BestAnswer) → RefusesShape offers stakes a → RefusesShape offers stakes b → a ≡ b
shape_once offers stakes a b r s = r.1 ∙ ap (λ k. NoShape Stakes k) (one_shape_fault (length offers) stakes r.0 s.0 r.2 s.2) ∙ sym s.1

measure_once : (m : List (Outcome × ℕ)) (a b : BestAnswer) → RefusesMeasure m a → RefusesMeasure m b → a ≡ b
measure_once m a b r s = r.1 ∙ ap (λ k. NoShape Measure k) (one_measure_fault m r.0 s.0 r.2 s.2) ∙ sym s.1

limit_once : (offers : List Offer) (stakes : Fractions) (a b : BestAnswer) → RefusesLimit offers stakes a → RefusesLimit offers stakes b → a ≡ b
limit_once offers stakes a b r s =
    r.1 ∙ ap (λ i. NoOffer i (pos (get_or stakes.parts i 0))) (one_offer (IsWithin (λ o. o.limit * stakes.divisor) stakes.parts) offers r.0 s.0 r.2 s.2) ∙ sym s.1

loss_once : (offers : List Offer) (stakes : Fractions) (a b : BestAnswer) → RefusesAbandonment offers stakes a → RefusesAbandonment offers stakes b → a ≡ b
loss_once offers stakes a b r s =
    let total : Outcome → ℤ = total_gain offers stakes.parts in
    let (k, first, at, won) = r.3 in
    let (j, second, other, lost) = s.3 in
    let x : r.0 ≡ s.0 = one_element stand_ins k j r.0 s.0 (one_place (KeepsAll total) stand_ins k j r.0 first second) at other in
    r.2 ∙ ap (λ n. NoAt r.0 n) won ∙ ap (λ y. NoAt y (total y)) x ∙ ap (λ n. NoAt s.0 n) (sym lost) ∙ sym s.2

no_loss_passed : (offers : List Offer) (stakes : Fractions) (a : BestAnswer) → RefusesAbandonment offers stakes a → AllHold (KeepsAll (total_gain offers stakes.parts)) stand_ins → ⊥
no_loss_passed offers stakes a r all = let (k, first, at, won) = r.3 in failed (KeepsAll (total_gain offers stakes.parts)) stand_ins k r.0 first all

tie_once : (offers : List Offer) (stakes : Fractions) (m : List (Outcome × ℕ)) (a b : BestAnswer) → HasShape (length offers) stakes → IsPriceMeasure m → RefusesTie offers stakes m a → RefusesTie offers stakes m b → a ≡ b
tie_once offers stakes m a b shape price r s =
    let over = pos (2000 * stakes.divisor) in
    let above = divisor_above stakes.divisor shape.divisor.0 in
    let more = final_need_above m price in
    let least : r.gains.gain ≡ s.gains.gain = one_least offers stakes.parts r.gains.gain s.gains.gain r.gains.least s.gains.least in
    let gain : r.gain ≡ s.gain = same_amount r.gains.gain over s.gains.gain over r.gain s.gain above above r.gains.lowest s.gains.lowest (ap (λ z. z *ℤ over) least) in
    let bound : r.bound ≡ s.bound = same_amount (reach offers m) (final_need m) (reach offers m) (final_need m) r.bound s.bound more more r.bounds s.bounds refl in
    r.is ∙ ap (λ z. NoTie z r.bound) gain ∙ ap (λ z. NoTie s.gain z) bound ∙ sym s.is

pub one_best_answer : (offers : List Offer) (stakes : Fractions) (m : List (Outcome × ℕ)) (a b : BestAnswer) → IsBestAnswer offers stakes m a → IsBestAnswer offers stakes m b → Same a b
one_best_answer offers stakes m a b ta tb =
    let within = IsWithin (λ o. o.limit * stakes.divisor) stakes.parts in
    one_of_tests a b ta tb (shape_once offers stakes a b) (λ r p. no_shape_fault (length offers) stakes.divisor stakes.parts r.0 p r.2) (λ s p. no_shape_fault (length offers) stakes.divisor stakes.parts s.0 p s.2)
    (λ shape pa pb. one_of_tests a b pa pb (measure_once m a b) (λ r p. no_measure_fault m r.0 p r.2) (λ s p. no_measure_fault m s.0 p s.2)
    (λ price la lb. one_of_tests a b la lb (limit_once offers stakes a b) (λ r. failed_offer within offers r.0 r.2) (λ s. failed_offer within offers s.0 s.2)
    (λ fits oa ob. one_of_tests a b oa ob (loss_once offers stakes a b) (no_loss_passed offers stakes a) (no_loss_passed offers stakes b)
    (λ kept ba bb. one_of_tests a b ba bb (tie_once offers stakes m a b shape price) (λ r p. no_difference offers stakes m a shape.divisor.0 price p r) (λ s p. no_difference offers stakes m b shape.divisor.0 price p s)
    (λ ties ya yb. inl (ya, yb))))))
