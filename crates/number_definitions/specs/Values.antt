-- The values of these ranges: odds, stake limits and lines, made from whole numbers.
use Rattle.std.specs.Prelude.{◌≡◌, ◌≤◌, ℕ, ℤ, pos, negsuc, ◌≤ℤ◌, Bool, true, false, ◌&&◌, nat_le, Option, Some, None, Result, Ok, Err, refl, if◌then◌else◌}
use Rattle.std.specs.Int.Signed.{le_z}
use Rattle.std.proofs.lemmas.Bool.{leb-true}
use Rattle.std.proofs.lemmas.Float.{T_from_true}
use Rattle.scan_types.specs.declared.limits.TheConstants.{LEAST_ODDS, MOST_LIMIT, MOST_ODDS}
use Rattle.scan_types.specs.declared.odds.Odds.{Odds}
use Rattle.scan_types.specs.declared.line.HandicapLine.{HandicapLine}
use Rattle.scan_types.specs.declared.line.TotalLine.{TotalLine}

-- the number lies between these two
abbrev pub is_within : ℕ → ℕ → ℕ → Bool
is_within least most n = nat_le least n && nat_le n most

-- the same of numbers with a sign
abbrev pub is_within_signed : ℤ → ℤ → ℤ → Bool
is_within_signed least most z = le_z least z && le_z z most

both_hold : (a b : Bool) → (a && b) ≡ true → (a ≡ true) × (b ≡ true)
both_hold true true e = (refl, refl)
both_hold true false e = (refl, e)
both_hold false b e = (e, absurd (false_is_not_true e))
  where
    false_is_not_true : false ≡ true → ⊥
    false_is_not_true h = cc

pub within_from : (least most n : ℕ) → is_within least most n ≡ true → (least ≤ n) × (n ≤ most)
within_from least most n e =
    let parts = both_hold (nat_le least n) (nat_le n most) e in
    (leb-true least n parts.0, leb-true n most parts.1)

pub within_signed_from : (least most z : ℤ) → is_within_signed least most z ≡ true → (least ≤ℤ z) × (z ≤ℤ most)
within_signed_from least most z e =
    let parts = both_hold (le_z least z) (le_z z most) e in
    (record { le = T_from_true (le_z least z) parts.0 }, record { le = T_from_true (le_z z most) parts.1 })

-- the odds of so many thousandths, from 1.001 to 1000.000
abbrev pub odds_if : (n : ℕ) (in_range : Bool) → is_within LEAST_ODDS MOST_ODDS n ≡ in_range → Option Odds
odds_if n true is = let range = within_from LEAST_ODDS MOST_ODDS n is in Some (record { thousandths = n; at_least = range.0; at_most = range.1 })
odds_if n false is = None

unfoldable pub odds_with : ℕ → Option Odds
odds_with n = odds_if n (is_within LEAST_ODDS MOST_ODDS n) refl

-- the handicap line of so many quarters, from -5.00 to 5.00
abbrev pub handicap_if : (z : ℤ) (in_range : Bool) → is_within_signed (negsuc 19) (pos 20) z ≡ in_range → Option HandicapLine
handicap_if z true is = let range = within_signed_from (negsuc 19) (pos 20) z is in Some (record { quarters = z; at_least = range.0; at_most = range.1 })
handicap_if z false is = None

unfoldable pub handicap_with : ℤ → Option HandicapLine
handicap_with z = handicap_if z (is_within_signed (negsuc 19) (pos 20) z) refl

-- the total line of so many quarters, from 0.50 to 7.50
abbrev pub total_if : (n : ℕ) (in_range : Bool) → is_within 2 30 n ≡ in_range → Option TotalLine
total_if n true is = let range = within_from 2 30 n is in Some (record { quarters = n; at_least = range.0; at_most = range.1 })
total_if n false is = None

unfoldable pub total_with : ℤ → Option TotalLine
total_with (pos n) = total_if n (is_within 2 30 n) refl
total_with (negsuc n) = None

-- the stake limit of so many minor units, from 1 to 100,000,000
abbrev pub limit_with : ℕ → Option ℕ
limit_with n = if is_within 1 MOST_LIMIT n then Some n else None

abbrev pub or_cause : {A C : Type 0} → C → Option A → Result A C
or_cause cause None = Err cause
or_cause cause (Some value) = Ok value

-- the value of a text: one cause if the text does not have the form, another if its number is out of range
abbrev pub in_range : {A B C : Type 0} → C → C → Option A → (A → Option B) → Result B C
in_range form range None within = Err form
in_range form range (Some number) within = or_cause range (within number)
