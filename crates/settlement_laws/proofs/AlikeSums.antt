-- Outcomes that settle alike give equal sums, so a bound at each class holds at every outcome.
use Rattle.std.proofs.Common.{ℕ, ℤ, pos, ◌≡◌, ◌+◌, ◌+ℤ◌, ◌-ℤ◌, ◌*ℤ◌, ◌≤ℤ◌, ◌*◌, ◌/◌, List, [], ◌∷◌, refl, sym, ap, subst, ◌∙◌}
use Rattle.std.specs.Prelude.{All, sum_by, unsigned_abs}
use Rattle.std.proofs.lemmas.List.Elements.{All-contains, All-head, All-tail}
use Rattle.std.proofs.lemmas.List.Sums.{sum_by-cons}
use Rattle.scan_types.specs.declared.offer.Offer.{Offer}
use Rattle.scan_types.specs.declared.outcome.Outcome.{Outcome}
use Rattle.scan_types.specs.declared.outcome.Outcome.TheVariants.{Full, Abandoned}
use Rattle.settlement_definitions.specs.Gain.{gain, slack, slack_of_gain}
use Rattle.settlement_definitions.specs.StandIns.{is_final}
use Rattle.settlement_definitions.specs.Classes.{SettleAlike, classes_of}
use Rattle.finding_definitions.specs.Arbitrage.{need, sum_over, total_net, total_gain}
use Rattle.finding_definitions.specs.Verdicts.{need_with_slack}
use Rattle.settlement_laws.proofs.Alike.{each_has_class}

abbrev SameGains : List Offer → Outcome → Outcome → Type 0
SameGains offers x y = All (λ offer. gain offer x ≡ gain offer y) offers

needs_by_kind : (x y : Outcome) → is_final x ≡ is_final y → need x ≡ need y
needs_by_kind (Full h a) (Full i b) e = refl
needs_by_kind (Full h a) (Abandoned i b) e = absurd (cc)
needs_by_kind (Abandoned h a) (Full i b) e = absurd (cc)
needs_by_kind (Abandoned h a) (Abandoned i b) e = refl

pub equal_needs : (offers : List Offer) (x y : Outcome) → SettleAlike offers x y → need x ≡ need y
equal_needs offers x y same = needs_by_kind x y same.kind

-- a sum of terms that depend on the outcome by the gain alone
sum_over-gains : (f : Offer → ℤ → ℕ → ℤ) (x y : Outcome) (offers : List Offer) (numbers : List ℕ) → SameGains offers x y → sum_over (λ offer n. f offer (gain offer x) n) offers numbers ≡ sum_over (λ offer n. f offer (gain offer y) n) offers numbers
sum_over-gains f x y [] numbers same = refl
sum_over-gains f x y (offer ∷ offers) [] same = refl
sum_over-gains f x y (offer ∷ offers) (n ∷ numbers) same =
    let here : gain offer x ≡ gain offer y = All-head (λ o. gain o x ≡ gain o y) offer offers same in
    ap (λ g. f offer g n +ℤ sum_over (λ o m. f o (gain o x) m) offers numbers) here ∙ ap (λ z. f offer (gain offer y) n +ℤ z) (sum_over-gains f x y offers numbers (All-tail (λ o. gain o x ≡ gain o y) offer offers same))

pub equal_nets : (offers : List Offer) (stakes : List ℕ) (x y : Outcome) → SettleAlike offers x y → total_net offers stakes x ≡ total_net offers stakes y
equal_nets offers stakes x y same =
    sum_over-gains (λ offer g stake. pos (stake * unsigned_abs (pos 2000 +ℤ g) / 2000) -ℤ pos stake) x y offers stakes same.gains

pub equal_gains : (offers : List Offer) (parts : List ℕ) (x y : Outcome) → SettleAlike offers x y → total_gain offers parts x ≡ total_gain offers parts y
equal_gains offers parts x y same = sum_over-gains (λ offer g part. pos part *ℤ g) x y offers parts same.gains

sum_by-slacks : (x y : Outcome) (offers : List Offer) → SameGains offers x y → sum_by (λ offer. slack offer x) offers ≡ sum_by (λ offer. slack offer y) offers
sum_by-slacks x y [] same = refl
sum_by-slacks x y (offer ∷ offers) same =
    let here : gain offer x ≡ gain offer y = All-head (λ o. gain o x ≡ gain o y) offer offers same in
    sum_by-cons (λ o. slack o x) offer offers ∙ ap (λ g. slack_of_gain offer.odds.thousandths g + sum_by (λ o. slack o x) offers) here ∙ ap (λ n. slack offer y + n) (sum_by-slacks x y offers (All-tail (λ o. gain o x ≡ gain o y) offer offers same)) ∙ sym (sum_by-cons (λ o. slack o y) offer offers)

pub equal_slacks : (offers : List Offer) (x y : Outcome) → SettleAlike offers x y → need_with_slack offers x ≡ need_with_slack offers y
equal_slacks offers x y same =
    ap (λ z. pos 1000 *ℤ z +ℤ pos (sum_by (λ offer. slack offer x) offers)) (equal_needs offers x y same) ∙ ap (λ n. pos 1000 *ℤ need y +ℤ pos n) (sum_by-slacks x y offers same.gains)

-- what holds at each class holds at every outcome, if outcomes that settle alike agree on it
pub from_classes : (offers : List Offer) (P : Outcome → Type 0) → ((x y : Outcome) → SettleAlike offers x y → P x → P y) → All P (classes_of offers) → (x : Outcome) → P x
from_classes offers P agree met x =
    let class = each_has_class offers x in
    agree class.0 x class.2 (All-contains P (classes_of offers) class.0 met class.1)

-- a bound between two sums that depend on how outcomes settle
pub bound_from_classes : (offers : List Offer) (low high : Outcome → ℤ) → ((x y : Outcome) → SettleAlike offers x y → low x ≡ low y) → ((x y : Outcome) → SettleAlike offers x y → high x ≡ high y) → All (λ y. low y ≤ℤ high y) (classes_of offers) → (x : Outcome) → low x ≤ℤ high x
bound_from_classes offers low high same_low same_high =
    from_classes offers (λ y. low y ≤ℤ high y)
    (λ x y same met. subst (λ z. low y ≤ℤ z) (same_high x y same) (subst (λ z. z ≤ℤ high x) (same_low x y same) met))
