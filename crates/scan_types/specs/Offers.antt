use Rattle.std.specs.Prelude.{ℕ, ◌≡◌, ◌<◌, ◌⊎◌}
use Rattle.scan_types.specs.declared.selection.Selection.{Selection}
use Rattle.scan_types.specs.declared.odds.Odds.{Odds}
use Rattle.scan_types.specs.declared.rule.VoidRule.{VoidRule}
use Rattle.scan_types.specs.declared.offer.Offer.{Offer}
use Rattle.scan_types.specs.Selections.{selection_number}

-- the offer's terms are these
pub record HasTerms (offer : Offer) (feed : ℕ) (selection : Selection) (odds : Odds) (limit : ℕ) (rule : VoidRule) : Type 0 where
  pub feed_is : offer.feed ≡ feed
  pub selection_is : offer.selection ≡ selection
  pub odds_are : offer.odds ≡ odds
  pub limit_is : offer.limit ≡ limit
  pub rule_is : offer.rule ≡ rule

-- the first offer comes before the second: by feed, and within a feed by selection number
abbrev pub IsBelow : Offer → Offer → Type 0
IsBelow a b =
    (a.feed < b.feed) ⊎ ((a.feed ≡ b.feed) × (selection_number a.selection < selection_number b.selection))
