use Rattle.std.proofs.Common.{ℕ, ◌≡◌, ◌-◌, ◌<◌, inl, inr, List, [], ◌∷◌, ◌++◌, length, get_or, subst, arith, length-append, IfSome}
use Rattle.std.specs.Prelude.{Some, slice_get}
use Rattle.std.proofs.lemmas.Option.{slice_get-get_or}
use Rattle.std.proofs.lemmas.Bool.{cases_lt}
use Rattle.std.proofs.lemmas.List.Quantifiers.{all_pairs_push}
use Rattle.scan_types.specs.declared.offer.Offer.{Offer}
use Rattle.scan_types.specs.Offers.{IsBelow}
use Rattle.scan_types.specs.Sheets.{IsSheet, Fits}

-- what comes before an offer comes before all that come after it
pub IsBelow-trans : (a b c : Offer) → IsBelow a b → IsBelow b c → IsBelow a c
IsBelow-trans a b c (inl p) (inl q) = inl (omega arith)
IsBelow-trans a b c (inl p) (inr q) = inl (omega arith)
IsBelow-trans a b c (inr p) (inl q) = inl (omega arith)
IsBelow-trans a b c (inr p) (inr q) = inr (omega arith, omega arith)

-- an offer that comes after the last comes after each
above_last : (offers : List Offer) (offer : Offer) → IsSheet offers → Fits offers offer → (k : ℕ) (d : Offer) → k < length offers → IsBelow (get_or offers k d) offer
above_last offers offer s f k d h =
    let at : slice_get offers (length offers - 1) ≡ Some (get_or offers (length offers - 1) d) = slice_get-get_or offers (length offers - 1) d (omega arith) in
    let last_below : IsBelow (get_or offers (length offers - 1) d) offer = subst (λ o. IfSome o (λ last. IsBelow last offer)) at f.above in
    elim (cases_lt k (length offers - 1)) [
      | inl p ↦ IsBelow-trans (get_or offers k d) (get_or offers (length offers - 1) d) offer (s.rising k (length offers - 1) d p (omega arith)) last_below
      | inr p ↦ let e : length offers - 1 ≡ k = omega arith in subst (λ j. IsBelow (get_or offers j d) offer) e last_below
    ]

-- a sheet with an offer that fits is a sheet
pub IsSheet-push : (offers : List Offer) (offer : Offer) → IsSheet offers → Fits offers offer → IsSheet (offers ++ offer ∷ [])
IsSheet-push offers offer s f =
    record {
      few = let r = f.room in omega (arith, length-append offers (offer ∷ []));
      rising = all_pairs_push IsBelow offers offer s.rising (above_last offers offer s f);
    }
