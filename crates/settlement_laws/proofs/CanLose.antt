-- Every bet loses its whole stake at some final score.
use Rattle.std.proofs.Common.{ℕ, ℤ, pos, negsuc, ◌≡◌, ◌+ℤ◌, ◌-ℤ◌, ◌≤ℤ◌, neg_ℤ, true, false, Bool, refl, ap, ◌∙◌, arith}
use Rattle.std.specs.Prelude.{◌==◌, ◌%◌, unsigned_abs, if◌then◌else◌}
use Rattle.std.proofs.lemmas.Int.{ints}
use Rattle.scan_types.specs.declared.selection.Selection.{Selection}
use Rattle.scan_types.specs.declared.selection.Selection.TheVariants.{Home, Draw, Away, HandicapHome, HandicapAway, Over, Under}
use Rattle.scan_types.specs.declared.offer.Offer.{Offer}
use Rattle.scan_types.specs.declared.outcome.Outcome.TheVariants.{Full}
use Rattle.settlement_definitions.specs.declared.leg_result.LegResult.{LegResult}
use Rattle.settlement_definitions.specs.declared.leg_result.LegResult.TheVariants.{Lose}
use Rattle.settlement_definitions.specs.Legs.{legs_of, legs_of_line, lead, excess, leg_result}
use Rattle.settlement_definitions.specs.LegSigns.{by_sign-below}
use Rattle.settlement_definitions.specs.Gain.{gain, leg_gain}

-- a score at which both legs lose
record Loses (s : Selection) : Type 0 where
  home : ℕ
  away : ℕ
  first : leg_result s (legs_of s).0 home away ≡ Lose
  second : leg_result s (legs_of s).1 home away ≡ Lose

-- both legs lie within one quarter of the line
abbrev AreClose : ℤ → ℤ × ℤ → Type 0
AreClose q legs = ((q -ℤ pos 1) ≤ℤ legs.0) × (legs.0 ≤ℤ (q +ℤ pos 1)) × ((q -ℤ pos 1) ≤ℤ legs.1) × (legs.1 ≤ℤ (q +ℤ pos 1))

abbrev legs_by : ℤ → Bool → ℤ × ℤ
legs_by q b = if b then (q, q) else (q -ℤ pos 1, q +ℤ pos 1)

close_by : (q : ℤ) (b : Bool) → AreClose q (legs_by q b)
close_by q true = (omega (arith, ints), omega (arith, ints), omega (arith, ints), omega (arith, ints))
close_by q false = (omega (arith, ints), omega (arith, ints), omega (arith, ints), omega (arith, ints))

close : (q : ℤ) → AreClose q (legs_of_line q)
close q = close_by q (unsigned_abs q % 2 == 0)

loses : (s : Selection) → Loses s
loses Home = record { home = 0; away = 6; first = refl; second = refl }
loses Draw = record { home = 6; away = 0; first = refl; second = refl }
loses Away = record { home = 6; away = 0; first = refl; second = refl }
loses (HandicapHome line) =
    let c = close line.quarters in
    let most = line.at_most in
    record {
      home = 0;
      away = 6;
      first = by_sign-below (lead (legs_of_line line.quarters).0 0 6) (omega (arith, ints, c.1));
      second = by_sign-below (lead (legs_of_line line.quarters).1 0 6) (omega (arith, ints, c.3));
    }
loses (HandicapAway line) =
    let c = close line.quarters in
    let least = line.at_least in
    record {
      home = 6;
      away = 0;
      first = by_sign-below (neg_ℤ (lead (legs_of_line line.quarters).0 6 0)) (omega (arith, ints, c.0));
      second = by_sign-below (neg_ℤ (lead (legs_of_line line.quarters).1 6 0)) (omega (arith, ints, c.2));
    }
loses (Over line) =
    let c = close (pos line.quarters) in
    let least = line.at_least in
    record {
      home = 0;
      away = 0;
      first = by_sign-below (excess (legs_of_line (pos line.quarters)).0 0 0) (omega (arith, ints, c.0));
      second = by_sign-below (excess (legs_of_line (pos line.quarters)).1 0 0) (omega (arith, ints, c.2));
    }
loses (Under line) =
    let c = close (pos line.quarters) in
    let most = line.at_most in
    record {
      home = 8;
      away = 0;
      first = by_sign-below (neg_ℤ (excess (legs_of_line (pos line.quarters)).0 8 0)) (omega (arith, ints, c.1));
      second = by_sign-below (neg_ℤ (excess (legs_of_line (pos line.quarters)).1 8 0)) (omega (arith, ints, c.3));
    }

pub can_lose : (offer : Offer) → (home : ℕ) × (away : ℕ) × (gain offer (Full home away) ≡ negsuc 1999)
can_lose offer =
    let l = loses offer.selection in
    let both : LegResult → LegResult → ℤ = λ r s. leg_gain offer.odds.thousandths r +ℤ leg_gain offer.odds.thousandths s in
    (l.home, l.away, ap (λ r. both r (leg_result offer.selection (legs_of offer.selection).1 l.home l.away)) l.first ∙ ap (λ s. both Lose s) l.second)
