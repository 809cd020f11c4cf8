-- What holds at each stand-in holds at every outcome.
use Rattle.std.proofs.Common.{ℕ, ℤ, pos, ◌≡◌, ◌≤ℤ◌, List, refl, sym, ◌∙◌, inl, inr, subst, arith}
use Rattle.std.specs.Prelude.{All, Bool, true, false, cond, int_lt, ◌⊎◌}
use Rattle.std.specs.Int.{int_min}
use Rattle.std.proofs.lemmas.Int.{ints, int_min_is}
use Rattle.std.proofs.lemmas.List.Elements.{All-contains}
use Rattle.scan_types.specs.declared.offer.Offer.{Offer}
use Rattle.scan_types.specs.declared.outcome.Outcome.{Outcome}
use Rattle.scan_types.specs.declared.outcome.Outcome.TheVariants.{Full, Abandoned}
use Rattle.settlement_definitions.specs.StandIns.{stand_for, stand_ins}
use Rattle.settlement_laws.proofs.Sums.{total_gain-stand_for}
use Rattle.settlement_laws.proofs.Table.{each_has_stand_in}
use Rattle.finding_definitions.specs.Arbitrage.{total_gain}
use Rattle.finding_definitions.specs.Best.{IsLeastGain}
use Rattle.cert_checker.specs.Places.{AllHold}
use Rattle.best_checker.specs.Abandonments.{KeepsAll}
use Rattle.best_checker.specs.Gains.{IsLower, IsAtLeast}

at_stand_in : (P : Outcome → Type 0) → All P stand_ins → (x : Outcome) → P (stand_for x)
at_stand_in P all x = All-contains P stand_ins (stand_for x) all (each_has_stand_in x)

-- nothing is lost at any abandonment
pub keeps_all : (offers : List Offer) (parts : List ℕ) → AllHold (KeepsAll (total_gain offers parts)) stand_ins → (home away : ℕ) → pos 0 ≤ℤ total_gain offers parts (Abandoned home away)
keeps_all offers parts all home away =
    subst (λ z. pos 0 ≤ℤ z) (total_gain-stand_for offers parts (Abandoned home away))
    (at_stand_in (KeepsAll (total_gain offers parts) 0) all (Abandoned home away))

-- and the other way round
pub kept_at : (total : Outcome → ℤ) → ((home away : ℕ) → pos 0 ≤ℤ total (Abandoned home away)) → (k : ℕ) (x : Outcome) → KeepsAll total k x
kept_at total kept k (Full home away) = tt
kept_at total kept k (Abandoned home away) = kept home away

-- the least at the stand-ins is the least at every final score
pub least_of_all : (offers : List Offer) (parts : List ℕ) (least : ℤ) → AllHold (IsAtLeast (total_gain offers parts) least) stand_ins → ((home : ℕ) × (away : ℕ) × (total_gain offers parts (Full home away) ≡ least)) → IsLeastGain offers parts least
least_of_all offers parts least all reached = record {
  at_least = λ home away.
      subst (λ z. least ≤ℤ z) (total_gain-stand_for offers parts (Full home away))
      (at_stand_in (IsAtLeast (total_gain offers parts) least 0) all (Full home away));
  reached = reached;
}

-- a lower number is at most both
pub lower_at_most : (total : Outcome → ℤ) (x : Outcome) (least lower : ℤ) → IsLower total x least lower → lower ≤ℤ least
lower_at_most total (Full home away) least lower is = let min = int_min_is least (total (Full home away)) in omega (arith, ints, is, min)
lower_at_most total (Abandoned home away) least lower is = omega (arith, ints, is)

pub lower_here : (total : Outcome → ℤ) (k : ℕ) (x : Outcome) (least lower : ℤ) → IsLower total x least lower → IsAtLeast total lower k x
lower_here total k (Full home away) least lower is = let min = int_min_is least (total (Full home away)) in omega (arith, ints, is, min)
lower_here total k (Abandoned home away) least lower is = tt

pub still_at_least : (total : Outcome → ℤ) (k : ℕ) (x : Outcome) (least lower : ℤ) → lower ≤ℤ least → IsAtLeast total least k x → IsAtLeast total lower k x
still_at_least total k (Full home away) least lower below is = omega (arith, ints, below, is)
still_at_least total k (Abandoned home away) least lower below is = tt

-- some final score wins just so much
abbrev pub Reached : (Outcome → ℤ) → ℤ → Type 0
Reached total least = (home : ℕ) × (away : ℕ) × (total (Full home away) ≡ least)

either_by : (less : Bool) (a b : ℤ) → (cond less b a ≡ a) ⊎ (cond less b a ≡ b)
either_by true a b = inr refl
either_by false a b = inl refl

min_either : (a b : ℤ) → (int_min a b ≡ a) ⊎ (int_min a b ≡ b)
min_either a b = either_by (int_lt b a) a b

-- the lower number is reached too
pub lower_reached : (total : Outcome → ℤ) (x : Outcome) (least lower : ℤ) → IsLower total x least lower → Reached total least → Reached total lower
lower_reached total (Full home away) least lower is reached =
    elim (min_either least (total (Full home away))) [
      | inl old ↦ (reached.0, reached.1, reached.2 ∙ sym (is ∙ old))
      | inr new ↦ (home, away, sym (is ∙ new))
    ]
lower_reached total (Abandoned home away) least lower is reached = (reached.0, reached.1, reached.2 ∙ sym is)
