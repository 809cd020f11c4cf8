use Rattle.std.specs.Prelude.{◌-◌, ◌<◌, ◌≤◌, List, length, AllPairs, IfSome, slice_get}
use Rattle.scan_types.specs.declared.offer.Offer.{Offer}
use Rattle.scan_types.specs.declared.limits.TheConstants.{MOST_OFFERS}
use Rattle.scan_types.specs.Offers.{IsBelow}

-- at most MOST_OFFERS offers, strictly rising by feed and selection number
pub record IsSheet (offers : List Offer) : Type 0 where
  pub few : length offers ≤ MOST_OFFERS
  pub rising : AllPairs IsBelow offers

-- there are fewer than MOST_OFFERS offers, and the offer comes after the last of them
pub record Fits (offers : List Offer) (offer : Offer) : Type 0 where
  pub room : length offers < MOST_OFFERS
  pub above : IfSome (slice_get offers (length offers - 1)) (λ last. IsBelow last offer)
