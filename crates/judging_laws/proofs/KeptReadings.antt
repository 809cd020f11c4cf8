-- What is read of a plain tableau is what is read of its kept form.
use Rattle.std.proofs.Common.{◌≡◌, ◌↔◌, ℕ, zero, suc, ◌+◌, ◌*◌, ◌/◌, ◌≤◌, ◌==◌, inl, inr, List, [], ◌∷◌, length, map, take, refl, sym, ap, ap₂, ◌∙◌, subst, arith}
use Rattle.std.specs.Prelude.{Option, Some, None, unsigned_abs}
use Rattle.std.specs.Int.{◌∣◌}
use Rattle.std.specs.List.{AllZip, enumerate_from, range_with_len, position}
use Rattle.std.proofs.lemmas.Int.{unsigned_abs-mul, ints}
use Rattle.std.proofs.lemmas.List.Elements.{All-head, All-tail, All-cons}
use Rattle.std.proofs.Math.Nat.{le_of_mul-le-mul_left, mul-dvd-mul_left, dvd_of_mul-dvd-mul_left, mul-div-mul_left}
use lib.IntN.{ℤ, pos, negsuc, neg_ℤ, ◌*ℤ◌}
use lib.Signed.{◌<ℤ◌}
use Rattle.row_definitions.specs.Rows.{primitive_row, scaled}
use Rattle.row_definitions.proofs.Primitives.{primitive_row-scaled}
use Rattle.pivot_definitions.specs.Tableaus.{SimplexTableau, objective, multiplier_of, right_side, entry_at, kept}
use Rattle.pivot_definitions.proofs.Signs.{multiple}
use Rattle.pivot_definitions.proofs.Ring.{dif_is, difs, dif_same}
use Rattle.scan_types.specs.declared.limits.TheConstants.{MOST_PART}
use Rattle.scan_types.specs.declared.offer.Offer.{Offer}
use Rattle.scan_types.specs.declared.outcome.Outcome.{Outcome}
use Rattle.finding_definitions.specs.Fractions.{Fractions}
use Rattle.finding_definitions.specs.declared.finding.WideAt.TheVariants.{Entry, Weight, Stake}
use Rattle.judging_definitions.specs.declared.limits.TheConstants.{MOST_COMMON_DENOMINATOR}
use Rattle.judging_definitions.specs.Columns.{offer_divisor}
use Rattle.judging_definitions.specs.Stakes.{Fraction, value_in_row, column_value, stake_in_column, fractional_stakes, MakesWhole, IsCommonDenominator, multiples, floors, in_lowest_terms}
use Rattle.judging_definitions.specs.Readings.{HasLevelOne, FirstAbove, NoneAbove, Reading, Reads, ReadsWide, class_weights, weighted_classes, MeasureReads, IsSmallDenominator, FirstWideDenominator, FirstWideStake, DirectionReads, PartsRead}

-- a row of the plain tableau is a whole number above 0 times that of its kept form
record RowTimes (plain : SimplexTableau) (row : ℕ) : Type 0 where
  factor : ℕ
  above_zero : 1 ≤ factor
  entries : (column : ℕ) → entry_at plain row column ≡ pos factor *ℤ entry_at (kept plain) row column

factor_from : (plain : SimplexTableau) (row : ℕ) (z : ℤ) → pos 0 <ℤ z → ((column : ℕ) → entry_at plain row column ≡ z *ℤ entry_at (kept plain) row column) → RowTimes plain row
factor_from plain row (pos k) h each = record { factor = k; above_zero = omega (arith, ints); entries = each }
factor_from plain row (negsuc k) h each = absurd (omega (arith, ints))

row_times : (plain : SimplexTableau) (row : ℕ) → RowTimes plain row
row_times plain row = let m = multiple plain row in factor_from plain row m.factor m.positive m.entries

-- ---- weights

neg_times : (k x : ℤ) → neg_ℤ (k *ℤ x) ≡ k *ℤ neg_ℤ x
neg_times k x = rw (dif_is k, dif_is x) (simp difs (dif_same _ _ _ _ (omega arith)))

map_scaled : (k : ℕ) (f g : ℕ → ℤ) → ((n : ℕ) → f n ≡ pos k *ℤ g n) → (xs : List ℕ) → map f xs ≡ scaled k (map g xs)
map_scaled k f g each [] = refl
map_scaled k f g each (x ∷ xs) = ap₂ (λ y ys. y ∷ ys) (each x) (map_scaled k f g each xs)

pub same_weights : (classes : List Outcome) (plain : SimplexTableau) → class_weights classes plain ≡ class_weights classes (kept plain)
same_weights classes plain =
    let row = row_times plain (length plain.basis) in
    let each : (n : ℕ) → multiplier_of plain n ≡ pos row.factor *ℤ multiplier_of (kept plain) n = λ n. ap neg_ℤ (row.entries (plain.columns + n)) ∙ neg_times (pos row.factor) (objective (kept plain) (plain.columns + n)) in
    let range = range_with_len 0 (length classes) in
    ap (λ r. map unsigned_abs (primitive_row r)) (map_scaled row.factor (multiplier_of plain) (multiplier_of (kept plain)) each range)
    ∙ ap (map unsigned_abs) (primitive_row-scaled row.factor (map (multiplier_of (kept plain)) range) row.above_zero)

-- ---- values

-- the one fraction is the other with both numbers taken so many times
pub record IsScaled (fraction of : Fraction) : Type 0 where
  pub factor : ℕ
  pub above_zero : 1 ≤ factor
  pub numerator : fraction.numerator ≡ factor * of.numerator
  pub denominator : fraction.denominator ≡ factor * of.denominator

size_times : (k : ℕ) (x y : ℤ) → x ≡ pos k *ℤ y → unsigned_abs x ≡ k * unsigned_abs y
size_times k x y e = ap unsigned_abs e ∙ unsigned_abs-mul (pos k) y

value_scaled : (plain : SimplexTableau) (column : ℕ) (o : Option ℕ) → IsScaled (value_in_row plain column o) (value_in_row (kept plain) column o)
value_scaled plain column None = record { factor = 1; above_zero = omega arith; numerator = omega arith; denominator = omega arith }
value_scaled plain column (Some row) =
    let times = row_times plain row in
    record {
      factor = times.factor;
      above_zero = times.above_zero;
      numerator = size_times times.factor (right_side plain row) (right_side (kept plain) row) (times.entries (plain.columns + length plain.basis));
      denominator = size_times times.factor (entry_at plain row column) (entry_at (kept plain) row column) (times.entries column);
    }

column_scaled : (plain : SimplexTableau) (column : ℕ) → IsScaled (column_value plain column) (column_value (kept plain) column)
column_scaled plain column = value_scaled plain column (position (λ basic. basic == column) plain.basis)

same_from_times : (k a b : ℕ) → 1 ≤ k → k * a ≡ k * b → a ≡ b
same_from_times k a b some e =
    let x = le_of_mul-le-mul_left {m = a} {n = b} {k = k} (omega (arith, e)) some in
    let y = le_of_mul-le-mul_left {m = b} {n = a} {k = k} (omega (arith, e)) some in
    omega (arith, x, y)

pub level_kept : (plain : SimplexTableau) → HasLevelOne plain → HasLevelOne (kept plain)
level_kept plain one =
    let s = column_scaled plain 0 in
    same_from_times s.factor (column_value (kept plain) 0).numerator (column_value (kept plain) 0).denominator s.above_zero (sym s.numerator ∙ one ∙ s.denominator)

pub level_plain : (plain : SimplexTableau) → HasLevelOne (kept plain) → HasLevelOne plain
level_plain plain one =
    let s = column_scaled plain 0 in
    s.numerator ∙ ap (λ n. s.factor * n) one ∙ sym s.denominator

-- ---- fractional stakes

regroup : (k d n : ℕ) → k * d * n ≡ k * (d * n)
regroup k d n = omega arith

stake_scaled : (plain : SimplexTableau) (divisor : ℕ) (o : Option ℕ) → IsScaled (stake_in_column plain divisor o) (stake_in_column (kept plain) divisor o)
stake_scaled plain divisor None = record { factor = 1; above_zero = omega arith; numerator = omega arith; denominator = omega arith }
stake_scaled plain divisor (Some place) =
    let s = column_scaled plain (suc place) in
    record { factor = s.factor; above_zero = s.above_zero; numerator = s.numerator; denominator = ap (λ n. n * divisor) s.denominator ∙ regroup s.factor (column_value (kept plain) (suc place)).denominator divisor }

stakes_scaled_from : (classes : List Outcome) (numbers : List ℕ) (plain : SimplexTableau) (offers : List Offer) (n : ℕ) → AllZip IsScaled (map (λ (offer : ℕ × Offer). stake_in_column plain (offer_divisor classes offer.1) (position (λ number. number == offer.0) numbers)) (enumerate_from n offers)) (map (λ (offer : ℕ × Offer). stake_in_column (kept plain) (offer_divisor classes offer.1) (position (λ number. number == offer.0) numbers)) (enumerate_from n offers))
stakes_scaled_from classes numbers plain [] n = tt
stakes_scaled_from classes numbers plain (offer ∷ offers) n = (stake_scaled plain (offer_divisor classes offer) (position (λ number. number == n) numbers), stakes_scaled_from classes numbers plain offers (n + 1))

pub stakes_scaled : (classes : List Outcome) (offers : List Offer) (numbers : List ℕ) (plain : SimplexTableau) → AllZip IsScaled (fractional_stakes classes offers numbers plain) (fractional_stakes classes offers numbers (kept plain))
stakes_scaled classes offers numbers plain = stakes_scaled_from classes numbers plain offers 0

-- ---- lists of fractions of which the same is read

pub record ReadAlike (fractions others : List Fraction) : Type 0 where
  pub count : length fractions ≡ length others
  pub whole : (n d : ℕ) → MakesWhole d (take n fractions) → MakesWhole d (take n others)
  pub back : (n d : ℕ) → MakesWhole d (take n others) → MakesWhole d (take n fractions)
  pub all : (d : ℕ) → MakesWhole d fractions → MakesWhole d others
  pub all_back : (d : ℕ) → MakesWhole d others → MakesWhole d fractions
  pub multiples_same : (d : ℕ) → multiples d fractions ≡ multiples d others
  pub floors_same : floors fractions ≡ floors others

pub turned : (fractions others : List Fraction) → ReadAlike fractions others → ReadAlike others fractions
turned fractions others alike = record {
  count = sym alike.count;
  whole = alike.back;
  back = alike.whole;
  all = alike.all_back;
  all_back = alike.all;
  multiples_same = λ d. sym (alike.multiples_same d);
  floors_same = sym alike.floors_same;
}

swap : (k d n : ℕ) → d * (k * n) ≡ k * (d * n)
swap k d n = omega arith

whole_there : (d : ℕ) (f g : Fraction) → IsScaled f g → f.denominator ∣ d * f.numerator → g.denominator ∣ d * g.numerator
whole_there d f g s h =
    let x = subst (λ m. m ∣ d * f.numerator) s.denominator h in
    let y = subst (λ m. s.factor * g.denominator ∣ m) (ap (λ m. d * m) s.numerator ∙ swap s.factor d g.numerator) x in
    dvd_of_mul-dvd-mul_left g.denominator s.above_zero y

whole_back : (d : ℕ) (f g : Fraction) → IsScaled f g → g.denominator ∣ d * g.numerator → f.denominator ∣ d * f.numerator
whole_back d f g s h =
    let x : s.factor * g.denominator ∣ s.factor * (d * g.numerator) = mul-dvd-mul_left g.denominator s.factor h in
    let y = subst (λ m. s.factor * g.denominator ∣ m) (sym (ap (λ m. d * m) s.numerator ∙ swap s.factor d g.numerator)) x in
    subst (λ m. m ∣ d * f.numerator) (sym s.denominator) y

quotient_there : (d : ℕ) (f g : Fraction) → IsScaled f g → d * f.numerator / f.denominator ≡ d * g.numerator / g.denominator
quotient_there d f g s =
    ap₂ (λ a b. a / b) (ap (λ m. d * m) s.numerator ∙ swap s.factor d g.numerator) s.denominator ∙ mul-div-mul_left (d * g.numerator) g.denominator s.above_zero

floor_there : (f g : Fraction) → IsScaled f g → f.numerator / f.denominator ≡ g.numerator / g.denominator
floor_there f g s = ap₂ (λ a b. a / b) s.numerator s.denominator ∙ mul-div-mul_left g.numerator g.denominator s.above_zero

none : (n d : ℕ) → MakesWhole d (take n []) → MakesWhole d (take n [])
none n d h = h

cons : (f g : Fraction) (fs gs : List Fraction) (d : ℕ) → (f.denominator ∣ d * f.numerator → g.denominator ∣ d * g.numerator) → (MakesWhole d fs → MakesWhole d gs) → MakesWhole d (f ∷ fs) → MakesWhole d (g ∷ gs)
cons f g fs gs d here rest h =
    let P : Fraction → Type 0 = λ x. x.denominator ∣ d * x.numerator in
    All-cons P g gs (here (All-head P f fs h)) (rest (All-tail P f fs h))

part : (f g : Fraction) (fs gs : List Fraction) (d : ℕ) → ((k : ℕ) → MakesWhole d (take k fs) → MakesWhole d (take k gs)) → (f.denominator ∣ d * f.numerator → g.denominator ∣ d * g.numerator) → (n : ℕ) → MakesWhole d (take n (f ∷ fs)) → MakesWhole d (take n (g ∷ gs))
part f g fs gs d rest here zero h = h
part f g fs gs d rest here (suc n) h = cons f g (take n fs) (take n gs) d here (rest n) h

pub read_alike : (fs gs : List Fraction) → AllZip IsScaled fs gs → ReadAlike fs gs
read_alike [] [] zip = record { count = refl; whole = λ n d h. none n d h; back = λ n d h. none n d h; all = λ d h. h; all_back = λ d h. h; multiples_same = λ d. refl; floors_same = refl }
read_alike [] (g ∷ gs) zip = absurd zip
read_alike (f ∷ fs) [] zip = absurd zip
read_alike (f ∷ fs) (g ∷ gs) zip =
    let rest = read_alike fs gs zip.1 in
    record {
      count = ap suc rest.count;
      whole = λ n d h. part f g fs gs d (λ k. rest.whole k d) (whole_there d f g zip.0) n h;
      back = λ n d h. part g f gs fs d (λ k. rest.back k d) (whole_back d f g zip.0) n h;
      all = λ d h. cons f g fs gs d (whole_there d f g zip.0) (rest.all d) h;
      all_back = λ d h. cons g f gs fs d (whole_back d f g zip.0) (rest.all_back d) h;
      multiples_same = λ d. ap₂ (λ x xs. x ∷ xs) (quotient_there d f g zip.0) (rest.multiples_same d);
      floors_same = ap₂ (λ x xs. x ∷ xs) (floor_there f g zip.0) rest.floors_same;
    }

-- ---- readings

common_there : (fs gs : List Fraction) (d : ℕ) → ReadAlike fs gs → IsCommonDenominator fs d → IsCommonDenominator gs d
common_there fs gs d alike is = record { above_zero = is.above_zero; whole = alike.all d is.whole; least = λ other some h. is.least other some (alike.all_back other h) }

common_part : (fs gs : List Fraction) (n d : ℕ) → ReadAlike fs gs → IsCommonDenominator (take n fs) d → IsCommonDenominator (take n gs) d
common_part fs gs n d alike is = record { above_zero = is.above_zero; whole = alike.whole n d is.whole; least = λ other some h. is.least other some (alike.back n other h) }

small_there : (most : ℕ) (fs gs : List Fraction) (d : ℕ) → ReadAlike fs gs → IsSmallDenominator most fs d → IsSmallDenominator most gs d
small_there most fs gs d alike is = record { common = common_there fs gs d alike is.common; small = is.small }

wide_there : (most : ℕ) (fs gs : List Fraction) (i : ℕ) → ReadAlike fs gs → FirstWideDenominator most fs i → FirstWideDenominator most gs i
wide_there most fs gs i alike is = record {
  within = omega (arith, is.within, alike.count);
  denominator = is.denominator;
  common = common_part fs gs (suc i) is.denominator alike is.common;
  above = is.above;
  others = λ before h. (let other = is.others before h in (other.0, record { common = common_part fs gs (suc before) other.0 alike other.1.common; small = other.1.small }));
}

stake_there : (most : ℕ) (form : List ℕ → List ℕ) (fs gs : List Fraction) (i : ℕ) → ReadAlike fs gs → FirstWideStake most form fs i → FirstWideStake most form gs i
stake_there most form fs gs i alike (inl wide) = inl (wide_there most fs gs i alike wide)
stake_there most form fs gs i alike (inr found) = inr (found.0, small_there most fs gs found.0 alike found.1, subst (λ xs. FirstAbove MOST_PART (form xs) i) (alike.multiples_same found.0) found.2)

pub direction_there : (offers : List Offer) (fs gs : List Fraction) (r : Reading Fractions) → ReadAlike fs gs → DirectionReads offers fs r → DirectionReads offers gs r
direction_there offers fs gs (Reads direction) alike is = record {
  denominator = is.denominator;
  common = small_there MOST_COMMON_DENOMINATOR fs gs is.denominator alike is.common;
  parts = is.parts ∙ ap in_lowest_terms (alike.multiples_same is.denominator);
  small = is.small;
  fits = is.fits;
}
direction_there offers fs gs (ReadsWide (Stake i)) alike is = stake_there MOST_COMMON_DENOMINATOR in_lowest_terms fs gs i alike is
direction_there offers fs gs (ReadsWide (Entry r c)) alike is = is
direction_there offers fs gs (ReadsWide (Weight j)) alike is = is

pub parts_there : (fs gs : List Fraction) (r : Reading Fractions) → ReadAlike fs gs → PartsRead fs r → PartsRead gs r
parts_there fs gs (Reads parts) alike is = record { common = small_there MOST_PART fs gs parts.divisor alike is.common; are = is.are ∙ alike.multiples_same parts.divisor; small = is.small }
parts_there fs gs (ReadsWide (Stake i)) alike is = stake_there MOST_PART (λ items. items) fs gs i alike is
parts_there fs gs (ReadsWide (Entry r c)) alike is = is
parts_there fs gs (ReadsWide (Weight j)) alike is = is

-- ---- both ways

pub same_level : (plain : SimplexTableau) → HasLevelOne plain ↔ HasLevelOne (kept plain)
same_level plain = (level_kept plain, level_plain plain)

measure_there : (classes : List Outcome) (plain other : SimplexTableau) (reading : Reading (List (Outcome × ℕ))) → class_weights classes plain ≡ class_weights classes other → MeasureReads classes plain reading → MeasureReads classes other reading
measure_there classes plain other (Reads measure) same is = (subst (NoneAbove MOST_PART) same is.0, is.1 ∙ ap (weighted_classes classes) same)
measure_there classes plain other (ReadsWide (Weight j)) same is = subst (λ ws. FirstAbove MOST_PART ws j) same is
measure_there classes plain other (ReadsWide (Entry r c)) same is = is
measure_there classes plain other (ReadsWide (Stake i)) same is = is

pub same_measure : (classes : List Outcome) (plain : SimplexTableau) (reading : Reading (List (Outcome × ℕ))) → MeasureReads classes plain reading ↔ MeasureReads classes (kept plain) reading
same_measure classes plain reading = (measure_there classes plain (kept plain) reading (same_weights classes plain), measure_there classes (kept plain) plain reading (sym (same_weights classes plain)))

alike_of : (classes : List Outcome) (offers : List Offer) (numbers : List ℕ) (plain : SimplexTableau) → ReadAlike (fractional_stakes classes offers numbers plain) (fractional_stakes classes offers numbers (kept plain))
alike_of classes offers numbers plain = read_alike (fractional_stakes classes offers numbers plain) (fractional_stakes classes offers numbers (kept plain)) (stakes_scaled classes offers numbers plain)

pub same_direction : (classes : List Outcome) (offers : List Offer) (numbers : List ℕ) (plain : SimplexTableau) (reading : Reading Fractions) → DirectionReads offers (fractional_stakes classes offers numbers plain) reading ↔ DirectionReads offers (fractional_stakes classes offers numbers (kept plain)) reading
same_direction classes offers numbers plain reading =
    let stakes = fractional_stakes classes offers numbers plain in
    let others = fractional_stakes classes offers numbers (kept plain) in
    let alike = alike_of classes offers numbers plain in
    (direction_there offers stakes others reading alike, direction_there offers others stakes reading (turned stakes others alike))

pub same_parts : (classes : List Outcome) (offers : List Offer) (numbers : List ℕ) (plain : SimplexTableau) (reading : Reading Fractions) → PartsRead (fractional_stakes classes offers numbers plain) reading ↔ PartsRead (fractional_stakes classes offers numbers (kept plain)) reading
same_parts classes offers numbers plain reading =
    let stakes = fractional_stakes classes offers numbers plain in
    let others = fractional_stakes classes offers numbers (kept plain) in
    let alike = alike_of classes offers numbers plain in
    (parts_there stakes others reading alike, parts_there others stakes reading (turned stakes others alike))

pub same_floors : (classes : List Outcome) (offers : List Offer) (numbers : List ℕ) (plain : SimplexTableau) → floors (fractional_stakes classes offers numbers plain) ≡ floors (fractional_stakes classes offers numbers (kept plain))
same_floors classes offers numbers plain = (alike_of classes offers numbers plain).floors_same
