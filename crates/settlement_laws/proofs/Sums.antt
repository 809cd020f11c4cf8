use Rattle.std.proofs.Common.{ℕ, ℤ, pos, ◌≡◌, ◌+ℤ◌, ◌-ℤ◌, ◌*ℤ◌, ◌≤ℤ◌, ◌*◌, ◌/◌, List, [], ◌∷◌, refl, ap, subst, ◌∙◌}
use Rattle.std.specs.Prelude.{All, unsigned_abs}
use Rattle.std.proofs.lemmas.List.Elements.{All-contains}
use Rattle.scan_types.specs.declared.offer.Offer.{Offer}
use Rattle.scan_types.specs.declared.outcome.Outcome.{Outcome}
use Rattle.scan_types.specs.declared.outcome.Outcome.TheVariants.{Full, Abandoned}
use Rattle.settlement_definitions.specs.Gain.{gain, net}
use Rattle.finding_definitions.specs.Arbitrage.{need, sum_over, total_net, total_gain}
use Rattle.settlement_definitions.specs.StandIns.{stand_for, stand_ins}
use Rattle.settlement_laws.proofs.Cover.{gain-stand_for}
use Rattle.settlement_laws.proofs.Table.{each_has_stand_in}

-- sums of equal terms are equal
pub sum_over-same : (f g : Offer → ℕ → ℤ) → ((offer : Offer) (n : ℕ) → f offer n ≡ g offer n) → (offers : List Offer) (numbers : List ℕ) → sum_over f offers numbers ≡ sum_over g offers numbers
sum_over-same f g same [] numbers = refl
sum_over-same f g same (offer ∷ offers) [] = refl
sum_over-same f g same (offer ∷ offers) (n ∷ numbers) =
    ap (λ z. z +ℤ sum_over f offers numbers) (same offer n) ∙ ap (λ z. g offer n +ℤ z) (sum_over-same f g same offers numbers)

need-stand_for : (x : Outcome) → need (stand_for x) ≡ need x
need-stand_for (Full h a) = refl
need-stand_for (Abandoned h a) = refl

-- stakes win at the stand-in what they win at each outcome that it stands for
pub total_net-stand_for : (offers : List Offer) (stakes : List ℕ) (x : Outcome) → total_net offers stakes (stand_for x) ≡ total_net offers stakes x
total_net-stand_for offers stakes x =
    sum_over-same (λ offer stake. net offer stake (stand_for x)) (λ offer stake. net offer stake x)
    (λ offer stake. ap (λ g. pos (stake * unsigned_abs (pos 2000 +ℤ g) / 2000) -ℤ pos stake) (gain-stand_for offer x)) offers stakes

-- and so do parts
pub total_gain-stand_for : (offers : List Offer) (parts : List ℕ) (x : Outcome) → total_gain offers parts (stand_for x) ≡ total_gain offers parts x
total_gain-stand_for offers parts x =
    sum_over-same (λ offer part. pos part *ℤ gain offer (stand_for x)) (λ offer part. pos part *ℤ gain offer x)
    (λ offer part. ap (λ g. pos part *ℤ g) (gain-stand_for offer x)) offers parts

-- what meets the need at each stand-in meets it at every outcome
pub need_at_each : (total : Outcome → ℤ) → ((x : Outcome) → total (stand_for x) ≡ total x) → All (λ x. need x ≤ℤ total x) stand_ins → (x : Outcome) → need x ≤ℤ total x
need_at_each total same met x =
    let here : need (stand_for x) ≤ℤ total (stand_for x) = All-contains (λ y. need y ≤ℤ total y) stand_ins (stand_for x) met (each_has_stand_in x) in
    subst (λ z. need x ≤ℤ z) (same x) (subst (λ z. z ≤ℤ total (stand_for x)) (need-stand_for x) here)
