use Rattle.std.proofs.Common.{◌≡◌, Bool, true, false, List, get_or, refl, subst, ◌∙◌}
use Rattle.std.specs.Prelude.{Contains}
use Rattle.std.specs.List.{list_all, list_any}
use Rattle.std.specs.Bool.{Decides}
use Rattle.std.specs.Ordering.{int_eq}
use Rattle.std.proofs.lemmas.Bool.Decides.{Decides-and, Decides-by_and, Decides-int_eq, Decides-like}
use Rattle.std.proofs.lemmas.List.Folds.{Any-from_list_any}
use Rattle.scan_types.specs.declared.offer.Offer.{Offer}
use Rattle.scan_types.specs.declared.outcome.Outcome.{Outcome}
use Rattle.settlement_definitions.specs.Gain.{gain}
use Rattle.settlement_definitions.specs.StandIns.{is_final, stand_for, stand_ins}
use Rattle.settlement_definitions.specs.Classes.{SettleAlike, same_bool, settle_alike, classes_of}
use Rattle.settlement_laws.proofs.Cover.{gain-stand_for, is_final-stand_for}
use Rattle.settlement_laws.proofs.Distinct.{distinct_by-each}
use Rattle.settlement_laws.proofs.Table.{each_has_stand_in}

Decides-same_bool : (a b : Bool) → Decides (same_bool a b) (a ≡ b)
Decides-same_bool true true = (λ _. refl, λ _. refl)
Decides-same_bool true false = (λ h. cc, λ h. cc)
Decides-same_bool false true = (λ h. cc, λ h. cc)
Decides-same_bool false false = (λ _. refl, λ _. refl)

-- the test tells whether two outcomes settle alike
pub Decides-settle_alike : (offers : List Offer) (x y : Outcome) → Decides (settle_alike offers x y) (SettleAlike offers x y)
unfolding settle_alike
Decides-settle_alike offers x y =
    Decides-like _ (λ h. record { kind = h.0; gains = h.1 }) (λ h. (h.kind, h.gains))
    (Decides-and _ _ (Decides-same_bool (is_final x) (is_final y))
    (Decides-by_and (λ offer. int_eq (gain offer x) (gain offer y)) (λ offer. gain offer x ≡ gain offer y) (list_all (λ offer. int_eq (gain offer x) (gain offer y))) (λ offer. Decides-int_eq (gain offer x) (gain offer y)) refl (λ _ _. refl) offers))

SettleAlike-trans : (offers : List Offer) (x y z : Outcome) → SettleAlike offers x y → SettleAlike offers y z → SettleAlike offers x z
SettleAlike-trans offers x y z a b = record { kind = a.kind ∙ b.kind; gains = λ k d lt. a.gains k d lt ∙ b.gains k d lt }

settle_alike-self : (offers : List Offer) (x : Outcome) → settle_alike offers x x ≡ true
settle_alike-self offers x = (Decides-settle_alike offers x x).1 (record { kind = refl; gains = λ k d lt. refl })

pub settle_alike-trans : (offers : List Offer) (x y z : Outcome) → settle_alike offers x y ≡ true → settle_alike offers y z ≡ true → settle_alike offers x z ≡ true
settle_alike-trans offers x y z a b =
    (Decides-settle_alike offers x z).1 (SettleAlike-trans offers x y z ((Decides-settle_alike offers x y).0 a) ((Decides-settle_alike offers y z).0 b))

-- each outcome has a class of its kind that gives each offer the same gain
pub each_has_class : (offers : List Offer) (x : Outcome) → (y : Outcome) × Contains (classes_of offers) y × SettleAlike offers y x
each_has_class offers x =
    let at = each_has_stand_in x in
    let test = distinct_by-each (settle_alike offers) (settle_alike-self offers) (settle_alike-trans offers) stand_ins at.0 (stand_for x) at.1 in
    let told = subst (λ w. list_any (λ y. settle_alike offers y w) (classes_of offers) ≡ true) at.2 test in
    let class = Any-from_list_any (λ y. settle_alike offers y (stand_for x)) (classes_of offers) told in
    let y = class.1 in
    (y, (class.0, class.2, class.3), SettleAlike-trans offers y (stand_for x) x ((Decides-settle_alike offers y (stand_for x)).0 class.4) (record { kind = is_final-stand_for x; gains = λ k d lt. gain-stand_for (get_or offers k d) x }))
