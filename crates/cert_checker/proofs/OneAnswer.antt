-- Each test refuses with at most one answer, and only if it is not passed.
use Rattle.std.proofs.Common.{◌≡◌, ℕ, ℤ, pos, ◌*◌, ◌<◌, ◌⊎◌, List, [], ◌∷◌, length, get_or, inl, inr, sym, ap, ◌∙◌, arith}
use Rattle.std.specs.Prelude.{slice_get, Some}
use Rattle.std.proofs.lemmas.Int.{ints}
use Rattle.std.proofs.lemmas.Bool.{cases_lt}
use Rattle.scan_types.specs.declared.offer.Offer.{Offer}
use Rattle.scan_types.specs.declared.outcome.Outcome.{Outcome}
use Rattle.scan_types.specs.declared.outcome.Outcome.TheVariants.{Full}
use Rattle.settlement_definitions.specs.StandIns.{stand_ins}
use Rattle.finding_definitions.specs.declared.finding.Finding.{Finding}
use Rattle.finding_definitions.specs.declared.finding.Finding.TheVariants.{Arb, Coherent, Thin, Narrow, Wide, OutOfPivots}
use Rattle.finding_definitions.specs.Fractions.{Fractions}
use Rattle.finding_definitions.specs.Arbitrage.{total_net, total_gain}
use Rattle.finding_definitions.specs.Measure.{mean}
use Rattle.cert_checker.specs.declared.answer.Answer.{Answer}
use Rattle.cert_checker.specs.declared.answer.Answer.TheVariants.{NoShape, NoOffer, NoAt}
use Rattle.cert_checker.specs.declared.answer.Part.TheVariants.{Stakes, Measure}
use Rattle.cert_checker.specs.Places.{AllHold, IsFirstFailure}
use Rattle.cert_checker.specs.Shapes.{IsEntry, IsShapeFault, IsMeasureFault}
use Rattle.cert_checker.specs.Losses.{Meets}
use Rattle.cert_checker.specs.Gains.{GainsNothing}
use Rattle.cert_checker.specs.Answers.{IsYes, Tests, IsWithin, IsAnswer, RefusesMeasure, RefusesLimit, RefusesOutcome, RefusesMean}
use Rattle.cert_checker.proofs.Rightness.{no_measure_fault, no_shape_fault}

-- the two answers of one test and of the later ones
abbrev Same : Answer → Answer → Type 0
Same a b = (IsYes a × IsYes b) ⊎ (a ≡ b)

one_of_tests : {RA RB P LA LB : Type 0} (a b : Answer) → Tests RA P LA → Tests RB P LB → (RA → RB → a ≡ b) → (RA → P → ⊥) → (RB → P → ⊥) → (LA → LB → Same a b) → Same a b
one_of_tests a b (inl ra) (inl rb) same never_a never_b later = inr (same ra rb)
one_of_tests a b (inl ra) (inr pb) same never_a never_b later = absurd (never_a ra pb.0)
one_of_tests a b (inr pa) (inl rb) same never_a never_b later = absurd (never_b rb pa.0)
one_of_tests a b (inr pa) (inr pb) same never_a never_b later = later pa.1 pb.1

not_later : {X : Type 0} (P : ℕ → X → Type 0) (xs : List X) (k j : ℕ) (d : X) → IsFirstFailure P xs k → IsFirstFailure P xs j → k < j → ⊥
not_later P xs k j d first second less = first.fails d (second.before k d less)

-- a fact fails first at one place
pub one_place : {X : Type 0} (P : ℕ → X → Type 0) (xs : List X) (k j : ℕ) (d : X) → IsFirstFailure P xs k → IsFirstFailure P xs j → k ≡ j
one_place P xs k j d first second =
    elim (cases_lt k j) [
      | inl less ↦ absurd (not_later P xs k j d first second less)
      | inr high ↦
          elim (cases_lt j k) [
            | inl less ↦ absurd (not_later P xs j k d second first less)
            | inr low ↦ omega arith
          ]
    ]

pub one_offer : (P : ℕ → Offer → Type 0) (offers : List Offer) (k j : ℕ) → IsFirstFailure P offers k → IsFirstFailure P offers j → k ≡ j
one_offer P [] k j first second = let w = first.within in absurd (omega arith)
one_offer P (o ∷ offers) k j first second = one_place P (o ∷ offers) k j o first second

pub failed : {X : Type 0} (P : ℕ → X → Type 0) (xs : List X) (k : ℕ) (d : X) → IsFirstFailure P xs k → AllHold P xs → ⊥
failed P xs k d first all = first.fails d (all k d first.within)

pub failed_offer : (P : ℕ → Offer → Type 0) (offers : List Offer) (k : ℕ) → IsFirstFailure P offers k → AllHold P offers → ⊥
failed_offer P [] k first all = let w = first.within in omega arith
failed_offer P (o ∷ offers) k first all = failed P (o ∷ offers) k o first all

nothing : Outcome × ℕ
nothing = (Full 0 0, 0)

pub one_measure_fault : (m : List (Outcome × ℕ)) (k j : ℕ) → IsMeasureFault m k → IsMeasureFault m j → k ≡ j
one_measure_fault m k j (inl first) (inl second) = one_place (IsEntry m) m k j nothing first second
one_measure_fault m k j (inl first) (inr none) = absurd (failed (IsEntry m) m k nothing first none.0)
one_measure_fault m k j (inr none) (inl second) = absurd (failed (IsEntry m) m j nothing second none.0)
one_measure_fault m k j (inr none) (inr other) = none.2 ∙ sym other.2

pub one_shape_fault : (offers : ℕ) (s : Fractions) (k j : ℕ) → IsShapeFault offers s k → IsShapeFault offers s j → k ≡ j
one_shape_fault offers s k j (inl count) (inl other) = count.1 ∙ sym other.1
one_shape_fault offers s k j (inl count) (inr other) = absurd (count.0 other.0)
one_shape_fault offers s k j (inr count) (inl other) = absurd (other.0 count.0)
one_shape_fault offers s k j (inr (count, inl divisor)) (inr (other, inl more)) = divisor.1 ∙ sym more.1
one_shape_fault offers s k j (inr (count, inl divisor)) (inr (other, inr more)) = absurd (divisor.0 more.0)
one_shape_fault offers s k j (inr (count, inr part)) (inr (other, inl more)) = absurd (more.0 part.0)
one_shape_fault offers s k j (inr (count, inr part)) (inr (other, inr more)) = one_place _ s.parts k j 0 part.1 more.1

measure_once : (m : List (Outcome × ℕ)) (a b : Answer) → RefusesMeasure m a → RefusesMeasure m b → a ≡ b
measure_once m a b r s = r.1 ∙ ap (λ k. NoShape Measure k) (one_measure_fault m r.0 s.0 r.2 s.2) ∙ sym s.1

limit_once : (most : Offer → ℕ) (offers : List Offer) (numbers : List ℕ) (a b : Answer) → RefusesLimit most offers numbers a → RefusesLimit most offers numbers b → a ≡ b
limit_once most offers numbers a b r s =
    r.1 ∙ ap (λ i. NoOffer i (pos (get_or numbers i 0))) (one_offer (IsWithin most numbers) offers r.0 s.0 r.2 s.2) ∙ sym s.1

-- what stands at a place is one element
pub one_element : {X : Type 0} (xs : List X) (k j : ℕ) (x y : X) → k ≡ j → slice_get xs k ≡ Some x → slice_get xs j ≡ Some y → x ≡ y
one_element xs k j x y same first second = let here : slice_get xs k ≡ slice_get xs j = ap (λ i. slice_get xs i) same in cc

outcome_once : (total : Outcome → ℤ) (a b : Answer) → RefusesOutcome total a → RefusesOutcome total b → a ≡ b
outcome_once total a b r s =
    let (k, first, at, won) = r.3 in
    let (j, second, other, lost) = s.3 in
    let x : r.0 ≡ s.0 = one_element stand_ins k j r.0 s.0 (one_place (Meets total) stand_ins k j r.0 first second) at other in
    r.2 ∙ ap (λ n. NoAt r.0 n) won ∙ ap (λ y. NoAt y (total y)) x ∙ ap (λ n. NoAt s.0 n) (sym lost) ∙ sym s.2

mean_once : (offers : List Offer) (m : List (Outcome × ℕ)) (a b : Answer) → RefusesMean offers m a → RefusesMean offers m b → a ≡ b
mean_once offers m a b r s =
    let (first, o, at, is) = r.3 in
    let (second, p, other, more) = s.3 in
    let place : r.0 ≡ s.0 = one_place (GainsNothing m) offers r.0 s.0 o first second in
    let x : o ≡ p = one_element offers r.0 s.0 o p place at other in
    r.2 ∙ ap (λ n. NoOffer r.0 n) is ∙ ap (λ i. NoOffer i (mean m o)) place ∙ ap (λ y. NoOffer s.0 (mean m y)) x ∙ ap (λ n. NoOffer s.0 n) (sym more) ∙ sym s.2

no_loss_passed : (total : Outcome → ℤ) (a : Answer) → RefusesOutcome total a → AllHold (Meets total) stand_ins → ⊥
no_loss_passed total a r all = let (k, first, at, won) = r.3 in failed (Meets total) stand_ins k r.0 first all

no_mean_passed : (offers : List Offer) (m : List (Outcome × ℕ)) (a : Answer) → RefusesMean offers m a → AllHold (GainsNothing m) offers → ⊥
no_mean_passed offers m a r all = let (first, o, at, is) = r.3 in failed (GainsNothing m) offers r.0 o first all

pub one_answer : (offers : List Offer) (finding : Finding) (a b : Answer) → IsAnswer offers finding a → IsAnswer offers finding b → Same a b
one_answer offers (Arb stakes) a b ta tb =
    let limit : Offer → ℕ = λ o. o.limit in
    one_of_tests a b ta tb (λ r s. r.1 ∙ ap (λ k. NoShape Stakes k) (r.2.1 ∙ sym s.2.1) ∙ sym s.1) (λ r p. r.2.0 p) (λ s p. s.2.0 p)
    (λ la lb. one_of_tests a b la lb (limit_once limit offers stakes a b) (λ r. failed_offer (IsWithin limit stakes) offers r.0 r.2) (λ s. failed_offer (IsWithin limit stakes) offers s.0 s.2)
    (λ oa ob. one_of_tests a b oa ob (outcome_once (total_net offers stakes) a b) (no_loss_passed (total_net offers stakes) a) (no_loss_passed (total_net offers stakes) b) (λ ya yb. inl (ya, yb))))
one_answer offers (Coherent m) a b ta tb =
    one_of_tests a b ta tb (measure_once m a b) (λ r p. no_measure_fault m r.0 p r.2) (λ s p. no_measure_fault m s.0 p s.2)
    (λ ma mb. one_of_tests a b ma mb (mean_once offers m a b) (no_mean_passed offers m a) (no_mean_passed offers m b) (λ ya yb. inl (ya, yb)))
one_answer offers (Thin stakes m) a b ta tb =
    let most : Offer → ℕ = λ o. o.limit * stakes.divisor in
    let gains : Outcome → ℤ = total_gain offers stakes.parts in
    one_of_tests a b ta tb (λ r s. r.1 ∙ ap (λ k. NoShape Stakes k) (one_shape_fault (length offers) stakes r.0 s.0 r.2 s.2) ∙ sym s.1) (λ r p. no_shape_fault (length offers) stakes.divisor stakes.parts r.0 p r.2) (λ s p. no_shape_fault (length offers) stakes.divisor stakes.parts s.0 p s.2)
    (λ pa pb. one_of_tests a b pa pb (measure_once m a b) (λ r p. no_measure_fault m r.0 p r.2) (λ s p. no_measure_fault m s.0 p s.2)
    (λ la lb. one_of_tests a b la lb (limit_once most offers stakes.parts a b) (λ r. failed_offer (IsWithin most stakes.parts) offers r.0 r.2) (λ s. failed_offer (IsWithin most stakes.parts) offers s.0 s.2)
    (λ oa ob. one_of_tests a b oa ob (outcome_once gains a b) (no_loss_passed gains a) (no_loss_passed gains b)
    (λ ba bb. one_of_tests a b ba bb (λ r s. r.0 ∙ sym s.0) (λ r p. let high = r.1 in omega (arith, ints, high, p)) (λ s p. let high = s.1 in omega (arith, ints, high, p)) (λ ya yb. inl (ya, yb))))))
one_answer offers (Narrow stakes m) a b ta tb = inr (ta ∙ sym tb)
one_answer offers (Wide stage pivots place) a b ta tb = inr (ta ∙ sym tb)
one_answer offers (OutOfPivots stage pivots) a b ta tb = inr (ta ∙ sym tb)
