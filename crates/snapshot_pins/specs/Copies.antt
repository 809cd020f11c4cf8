-- Offers that are copied from a place on.
use Rattle.std.specs.Prelude.{ℕ, ◌≡◌, ◌-◌, ◌++◌, List, length, take, drop, min}
use Rattle.scan_types.specs.declared.offer.Offer.{Offer}

-- the offers from a place on are copied, as many as there are and as fit; the places behind them stay
pub record IsCopied (offers : List Offer) (from : ℕ) (old new : List Offer) (count : ℕ) : Type 0 where
  pub count_is : count ≡ min (length old) (length offers - from)
  pub copied : new ≡ take count (drop from offers) ++ drop count old
