use Rattle.std.specs.Prelude.{◌≡◌, Bool, if◌then◌else◌, not, ◌&&◌, List, [], ◌∷◌, filter, All}
use Rattle.std.specs.List.{list_all}
use Rattle.std.specs.Ordering.{int_eq}
use Rattle.scan_types.specs.declared.offer.Offer.{Offer}
use Rattle.scan_types.specs.declared.outcome.Outcome.{Outcome}
use Rattle.settlement_definitions.specs.Gain.{gain}
use Rattle.settlement_definitions.specs.StandIns.{is_final, stand_ins}

-- two outcomes are of the same kind and give each offer the same gain
pub record SettleAlike (offers : List Offer) (x y : Outcome) : Type 0 where
  pub kind : is_final x ≡ is_final y
  pub gains : All (λ offer. gain offer x ≡ gain offer y) offers

-- whether both are true or both are false
abbrev pub same_bool : Bool → Bool → Bool
same_bool a b = if a then b else not b

-- the test of this
unfoldable pub settle_alike : List Offer → Outcome → Outcome → Bool
settle_alike offers x y = same_bool (is_final x) (is_final y) && list_all (λ offer. int_eq (gain offer x) (gain offer y)) offers

-- each element that is like none before it
abbrev pub distinct_by : {X : Type 0} → (X → X → Bool) → List X → List X
distinct_by same [] = []
distinct_by same (x ∷ xs) = x ∷ filter (λ y. not (same x y)) (distinct_by same xs)

-- the classes of a sheet: each stand-in that settles unlike all before it
abbrev pub classes_of : List Offer → List Outcome
classes_of offers = distinct_by (settle_alike offers) stand_ins
