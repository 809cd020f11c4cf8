use Rattle.std.specs.Prelude.{ℕ, ℤ, pos, ◌≤◌, ◌*◌, ◌+ℤ◌, ◌*ℤ◌, ◌≤ℤ◌, List, [], ◌∷◌}
use Rattle.std.specs.List.{AllZip}
use Rattle.scan_types.specs.declared.offer.Offer.{Offer}
use Rattle.scan_types.specs.declared.outcome.Outcome.{Outcome}
use Rattle.scan_types.specs.declared.outcome.Outcome.TheVariants.{Full, Abandoned}
use Rattle.settlement_definitions.specs.Gain.{gain, net}

-- the sum over the offers, each with its own number
abbrev pub sum_over : (Offer → ℕ → ℤ) → List Offer → List ℕ → ℤ
sum_over f [] numbers = pos 0
sum_over f (offer ∷ offers) [] = pos 0
sum_over f (offer ∷ offers) (n ∷ numbers) = f offer n +ℤ sum_over f offers numbers

-- what whole stakes win together at an outcome, in minor units
abbrev pub total_net : List Offer → List ℕ → Outcome → ℤ
total_net offers stakes x = sum_over (λ offer stake. net offer stake x) offers stakes

-- the sum of parts times gains at an outcome
abbrev pub total_gain : List Offer → List ℕ → Outcome → ℤ
total_gain offers parts x = sum_over (λ offer part. pos part *ℤ gain offer x) offers parts

-- what an arbitrage must win at least: one minor unit at a final score, and nothing at an abandonment
abbrev pub need : Outcome → ℤ
need (Full h a) = pos 1
need (Abandoned h a) = pos 0

-- whole stakes, one per offer and within its limit, that win at least one minor unit at every final
-- score and lose nothing at any abandonment
pub record IsArbitrage (offers : List Offer) (stakes : List ℕ) : Type 0 where
  pub within_limits : AllZip (λ offer stake. stake ≤ offer.limit) offers stakes
  pub wins : (x : Outcome) → need x ≤ℤ total_net offers stakes x

-- fractional stakes, the parts over the divisor, one per offer and within its limit, that win at least
-- one minor unit at every final score and lose nothing at any abandonment
pub record ReachesUnit (offers : List Offer) (divisor : ℕ) (parts : List ℕ) : Type 0 where
  pub divides : 1 ≤ divisor
  pub within_limits : AllZip (λ offer part. part ≤ offer.limit * divisor) offers parts
  pub wins : (x : Outcome) → (pos (2000 * divisor) *ℤ need x) ≤ℤ total_gain offers parts x
