-- There is a least gain over all final scores.
use Rattle.std.proofs.Common.{◌≡◌, ℕ, List, [], ◌∷◌, refl, subst, arith}
use Rattle.std.specs.Prelude.{ℤ, pos, negsuc, ◌-ℤ◌, ◌≤ℤ◌, All}
use Rattle.std.proofs.lemmas.Int.{ints}
use Rattle.std.proofs.lemmas.List.Elements.{All-contains, All-weaker, All-cons, All-nil}
use Rattle.scan_types.specs.declared.offer.Offer.{Offer}
use Rattle.scan_types.specs.declared.outcome.Outcome.{Outcome}
use Rattle.scan_types.specs.declared.outcome.Outcome.TheVariants.{Full, Abandoned}
use Rattle.settlement_definitions.specs.StandIns.{stand_for, stand_ins}
use Rattle.settlement_laws.proofs.Sums.{total_gain-stand_for}
use Rattle.settlement_laws.proofs.Table.{each_has_stand_in}
use Rattle.finding_definitions.specs.Arbitrage.{total_gain}
use Rattle.finding_definitions.specs.Best.{IsLeastGain}

-- at least so much is won at an outcome if it is a final score
abbrev AtLeast : (Outcome → ℤ) → ℤ → Outcome → Type 0
AtLeast total least (Full home away) = least ≤ℤ total (Full home away)
AtLeast total least (Abandoned home away) = Unit {0}

-- a number that is won at some final score, and no more than is won at those of a list
record LeastOf (total : Outcome → ℤ) (xs : List Outcome) : Type 0 where
  pub least : ℤ
  pub reached : (home : ℕ) × (away : ℕ) × (total (Full home away) ≡ least)
  pub at_least : All (AtLeast total least) xs

lower_still : (total : Outcome → ℤ) (a b : ℤ) → b ≤ℤ a → (x : Outcome) → AtLeast total a x → AtLeast total b x
lower_still total a b below (Full home away) at = omega (arith, ints, below, at)
lower_still total a b below (Abandoned home away) at = tt

with_score : (total : Outcome → ℤ) (home away : ℕ) (xs : List Outcome) (rest : LeastOf total xs) (c : ℤ) → c ≡ total (Full home away) -ℤ rest.least → LeastOf total (Full home away ∷ xs)
with_score total home away xs rest (pos n) apart = record {
  least = rest.least;
  reached = rest.reached;
  at_least = All-cons (AtLeast total rest.least) (Full home away) xs (omega (arith, ints, apart)) rest.at_least;
}
with_score total home away xs rest (negsuc n) apart = record {
  least = total (Full home away);
  reached = (home, away, refl);
  at_least = All-cons (AtLeast total (total (Full home away))) (Full home away) xs (omega (arith, ints))
      (All-weaker (AtLeast total rest.least) (AtLeast total (total (Full home away))) (lower_still total rest.least (total (Full home away)) (omega (arith, ints, apart))) xs rest.at_least);
}

least_of : (total : Outcome → ℤ) (xs : List Outcome) → LeastOf total xs
least_of total [] = record { least = total (Full 0 0); reached = (0, 0, refl); at_least = All-nil (AtLeast total (total (Full 0 0))) }
least_of total (Full home away ∷ xs) = let rest = least_of total xs in with_score total home away xs rest (total (Full home away) -ℤ rest.least) refl
least_of total (Abandoned home away ∷ xs) =
    let rest = least_of total xs in
    record { least = rest.least; reached = rest.reached; at_least = All-cons (AtLeast total rest.least) (Abandoned home away) xs tt rest.at_least }

pub least_exists : (offers : List Offer) (parts : List ℕ) → (least : ℤ) × IsLeastGain offers parts least
least_exists offers parts =
    let total : Outcome → ℤ = total_gain offers parts in
    let found = least_of total stand_ins in (
      found.least,
      record {
        at_least = λ home away.
            subst (λ z. found.least ≤ℤ z) (total_gain-stand_for offers parts (Full home away))
            (All-contains (AtLeast total found.least) stand_ins (stand_for (Full home away)) found.at_least (each_has_stand_in (Full home away)));
        reached = found.reached;
      },
    )
