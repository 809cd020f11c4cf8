-- Lists of fractions: their least common denominator, and their multiples by it.
use Rattle.std.proofs.Common.{◌≡◌, ℕ, zero, suc, ◌+◌, ◌*◌, ◌/◌, ◌<◌, ◌≤◌, ◌⊎◌, inl, inr, List, [], ◌∷◌, ◌++◌, length, map, take, refl, sym, ap, ap₂, ◌∙◌, subst, arith, add-one}
use Rattle.std.specs.Prelude.{slice_index_or, unsigned_abs}
use Rattle.std.specs.Int.{◌∣◌, IsGcd}
use Rattle.std.specs.List.{AllZip, enumerate_from, range_with_len}
use Rattle.std.proofs.lemmas.List.{take_more, length-map, get_or-map}
use Rattle.std.proofs.lemmas.List.FromFn.{length-enumerate_from, get_or-enumerate_from, map-range_with_len_more}
use Rattle.std.proofs.lemmas.List.Elements.{All-nil, All-cons, All-head, All-tail, All-append, All-weaker}
use Rattle.std.proofs.lemmas.Int.{unsigned_abs-mul}
use Rattle.std.proofs.lemmas.Nat.Gcd.{le_of_dvd}
use Rattle.std.proofs.Math.Nat.{one-dvd, dvd-mul_right, dvd-mul_left_of_dvd, dvd-mul_right_of_dvd, eq-zero_of_zero-dvd, mul-div_cancel', mul-div_cancel_left, mul-dvd-mul_left, dvd_of_mul-dvd-mul_left, mul-div-mul_left, zero-div, pos_of_dvd_of_pos}
use borrow.Author.Count.{below_more}
use lib.IntN.{ℤ, pos, pos-*ℤ-pos}
use Rattle.row_definitions.specs.Rows.{row_divisor, primitive_row, scaled}
use Rattle.row_definitions.proofs.Divisors.{Divides, row_divisor_is, gcd_exists}
use Rattle.row_definitions.proofs.Primitives.{row_divisor-scaled, primitive_row-scaled, primitive_row-undivided}
use Rattle.pivot_definitions.specs.Tableaus.{SimplexTableau}
use Rattle.scan_types.specs.declared.offer.Offer.{Offer}
use Rattle.scan_types.specs.declared.outcome.Outcome.{Outcome}
use Rattle.judging_definitions.specs.Columns.{offer_divisor}
use Rattle.judging_definitions.specs.Stakes.{Fraction, stake_in_column, fractional_stakes, MakesWhole, IsCommonDenominator, multiples, in_lowest_terms}
use Rattle.judging_definitions.specs.Readings.{IsSmallDenominator, FirstWideDenominator}
use Rattle.judging_laws.proofs.Spread.{place}
use Rattle.coherence_lp.specs.declared.ratio.Ratio.{Ratio}
use Rattle.coherence_lp.specs.Ratios.{fraction_of, item_of, IsLowestForm, IsLeastCommonMultiple, IsWholeBy}
use Rattle.coherence_lp.proofs.Multiples.{without_common, lowest_by_divisor, multiple_by_divisor, whole_divides, divides_whole, quotient_above}

-- ---- fractional stakes, place by place

pub length-stakes : (classes : List Outcome) (offers : List Offer) (numbers : List ℕ) (t : SimplexTableau) → length (fractional_stakes classes offers numbers t) ≡ length offers
length-stakes classes offers numbers t = length-map (enumerate_from 0 offers) (λ (offer : ℕ × Offer). stake_in_column t (offer_divisor classes offer.1) (place offer.0 numbers)) ∙ length-enumerate_from 0 offers

pub stake_at : (classes : List Outcome) (offers : List Offer) (numbers : List ℕ) (t : SimplexTableau) (i : ℕ) (o : Offer) (d : Fraction) → i < length offers → slice_index_or (fractional_stakes classes offers numbers t) i d ≡ stake_in_column t (offer_divisor classes (slice_index_or offers i o)) (place i numbers)
stake_at classes offers numbers t i o d within =
    let f : ℕ × Offer → Fraction = λ offer. stake_in_column t (offer_divisor classes offer.1) (place offer.0 numbers) in
    let count = length-enumerate_from 0 offers in
    get_or-map f (enumerate_from 0 offers) i (0, o) d (omega (arith, count, within))
    ∙ ap f (get_or-enumerate_from 0 offers i (0, o) within)
    ∙ ap (λ n. f (n, slice_index_or offers i o)) (let e : 0 + i ≡ i = omega arith in e)

-- ---- the least common denominator

abbrev IsWhole : ℕ → Fraction → Type 0
IsWhole d f = f.denominator ∣ d * f.numerator

pub whole_none : IsWholeBy [] 1
whole_none = record { above_zero = omega arith; whole = All-nil (IsWhole 1); divides = λ other h. one-dvd other }

whole_times : (D m : ℕ) (f : Fraction) → D ∣ m → IsWhole D f → IsWhole m f
whole_times D m f h whole =
    let s = m / D in
    let e : D * f.numerator * s ≡ m * f.numerator = (let x : D * f.numerator * s ≡ D * s * f.numerator = omega arith in x) ∙ ap (λ n. n * f.numerator) (mul-div_cancel' D h) in
    subst (λ n. f.denominator ∣ n) e (dvd-mul_right_of_dvd f.denominator whole s)

last_of : (d : ℕ) (fs : List Fraction) (f : Fraction) → MakesWhole d (fs ++ f ∷ []) → MakesWhole d fs × IsWhole d f
last_of d [] f h = (All-nil (IsWhole d), All-head (IsWhole d) f [] h)
last_of d (g ∷ fs) f h =
    let rest = last_of d fs f (All-tail (IsWhole d) g (fs ++ f ∷ []) h) in
    (All-cons (IsWhole d) g fs (All-head (IsWhole d) g (fs ++ f ∷ []) h) rest.0, rest.1)

whole_push : (fs : List Fraction) (f r : Fraction) (D m : ℕ) → IsWholeBy fs D → IsLowestForm f r → IsLeastCommonMultiple D r.denominator m → IsWholeBy (fs ++ f ∷ []) m
whole_push fs f r D m is lowest multiple = record {
  above_zero = multiple.above_zero;
  whole = All-append (IsWhole m) fs (f ∷ []) (All-weaker (IsWhole D) (IsWhole m) (λ g h. whole_times D m g multiple.first h) fs is.whole) (All-cons (IsWhole m) f [] (divides_whole f r m lowest multiple.second) (All-nil (IsWhole m)));
  divides = λ other h. (let parts = last_of other fs f h in multiple.least other (is.divides other parts.0) (whole_divides f r other lowest parts.1));
}

pub whole_step : (S : List Fraction) (i : ℕ) (d r : Fraction) (D m : ℕ) → i < length S → IsWholeBy (take i S) D → IsLowestForm (slice_index_or S i d) r → IsLeastCommonMultiple D r.denominator m → IsWholeBy (take (i + 1) S) m
whole_step S i d r D m within is lowest multiple = subst (λ fs. IsWholeBy fs m) (sym (take_more S i d within)) (whole_push (take i S) (slice_index_or S i d) r D m is lowest multiple)

pub common_of : (fs : List Fraction) (D : ℕ) → IsWholeBy fs D → IsCommonDenominator fs D
common_of fs D is = record { above_zero = is.above_zero; whole = is.whole; least = λ other some h. le_of_dvd some (is.divides other h) }

-- the first stakes have small common denominators
abbrev pub SmallBefore : ℕ → List Fraction → ℕ → Type 0
SmallBefore most S i = (before : ℕ) → before < i → (d : ℕ) × IsSmallDenominator most (take (suc before) S) d

pub small_more : (most : ℕ) (S : List Fraction) (i m : ℕ) → SmallBefore most S i → IsWholeBy (take (i + 1) S) m → m ≤ most → SmallBefore most S (i + 1)
small_more most S i m others is small =
    let here : IsWholeBy (take (suc i) S) m = subst (λ n. IsWholeBy (take n S) m) (add-one i) is in
    below_more (λ before. (d : ℕ) × IsSmallDenominator most (take (suc before) S) d) i others (m, record { common = common_of (take (suc i) S) m here; small = small })

lowest_exists : (f : Fraction) → 1 ≤ f.denominator → (r : Fraction) × IsLowestForm f r
lowest_exists f some = let g = gcd_exists f.numerator f.denominator in (record { numerator = f.numerator / g.0; denominator = f.denominator / g.0 }, lowest_by_divisor f.numerator f.denominator g.0 some g.1)

multiple_exists : (a b : ℕ) → 1 ≤ a → 1 ≤ b → (m : ℕ) × IsLeastCommonMultiple a b m
multiple_exists a b p q = let g = gcd_exists a b in (a / g.0 * b, multiple_by_divisor a b g.0 p q g.1)

-- no common denominator of the stakes up to this one is small
pub first_wide : (most : ℕ) (S : List Fraction) (i D : ℕ) (d : Fraction) → i < length S → 1 ≤ (slice_index_or S i d).denominator → IsWholeBy (take i S) D → SmallBefore most S i → ((lowest : Fraction) → IsLowestForm (slice_index_or S i d) lowest → (m : ℕ) → IsLeastCommonMultiple D lowest.denominator m → most < m) → FirstWideDenominator most S i
first_wide most S i D d within some is others none =
    let r = lowest_exists (slice_index_or S i d) some in
    let m = multiple_exists D r.0.denominator is.above_zero r.1.stands in
    let whole = whole_step S i d r.0 D m.0 within is r.1 m.1 in
    record {
      within = within;
      denominator = m.0;
      common = common_of (take (suc i) S) m.0 (subst (λ n. IsWholeBy (take n S) m.0) (add-one i) whole);
      above = none r.0 r.1 m.0 m.1;
      others = others;
    }

-- ---- stakes over the common denominator

abbrev pub LowestForms : List Fraction → List Ratio → Type 0
LowestForms S rs = AllZip IsLowestForm S (map fraction_of rs)

abbrev pub numerators : List Ratio → List ℤ
numerators rs = map (λ (r : Ratio). pos r.numerator) rs

pub one_divides : (rs : List Ratio) → Divides 1 (numerators rs)
one_divides [] = tt
one_divides (r ∷ rs) = (one-dvd r.numerator, one_divides rs)

item_is : (N D : ℕ) (f : Fraction) (r : Ratio) → 1 ≤ N → IsLowestForm f (fraction_of r) → IsWhole D f → N ∣ r.numerator → D * f.numerator / f.denominator ≡ N * item_of D N r
item_is N D f r some is whole divides =
    let k = is.factor in
    let q = r.denominator in
    let e = D / q in
    let n = r.numerator in
    let eD : q * e ≡ D = mul-div_cancel' q (whole_divides f (fraction_of r) D is whole) in
    let en : N * (n / N) ≡ n = mul-div_cancel' N divides in
    ap₂ (λ a b. a / b) (ap (λ m. D * m) is.numerator ∙ (let x : D * (k * n) ≡ k * (D * n) = omega arith in x)) is.denominator
    ∙ mul-div-mul_left (D * n) q is.above_zero
    ∙ ap (λ m. m / q) (ap (λ m. m * n) (sym eD) ∙ (let x : q * e * n ≡ q * (e * n) = omega arith in x))
    ∙ mul-div_cancel_left (e * n) is.stands
    ∙ ap (λ m. e * m) (sym en)
    ∙ (let x : e * (N * (n / N)) ≡ N * (e * (n / N)) = omega arith in x)

pub multiples_are : (N D : ℕ) → 1 ≤ N → (S : List Fraction) (rs : List Ratio) → LowestForms S rs → MakesWhole D S → Divides N (numerators rs) → multiples D S ≡ map (λ x. N * x) (map (item_of D N) rs)
multiples_are N D some [] [] forms whole divides = refl
multiples_are N D some [] (r ∷ rs) forms whole divides = absurd forms
multiples_are N D some (f ∷ S) [] forms whole divides = absurd forms
multiples_are N D some (f ∷ S) (r ∷ rs) forms whole divides =
    ap₂ (λ x xs. x ∷ xs) (item_is N D f r some forms.0 (All-head (IsWhole D) f S whole) divides.0)
    (multiples_are N D some S rs forms.1 (All-tail (IsWhole D) f S whole) divides.1)

times_one : (xs : List ℕ) → map (λ x. 1 * x) xs ≡ xs
times_one [] = refl
times_one (x ∷ xs) = ap₂ (λ y ys. y ∷ ys) (let e : 1 * x ≡ x = omega arith in e) (times_one xs)

-- over the common denominator the stakes are these items
pub parts_are : (D : ℕ) (S : List Fraction) (rs : List Ratio) → LowestForms S rs → MakesWhole D S → multiples D S ≡ map (item_of D 1) rs
parts_are D S rs forms whole = multiples_are 1 D (omega arith) S rs forms whole (one_divides rs) ∙ times_one (map (item_of D 1) rs)

-- ---- in lowest terms

scaled_numbers : (N : ℕ) (xs : List ℕ) → map pos (map (λ x. N * x) xs) ≡ scaled N (map pos xs)
scaled_numbers N [] = refl
scaled_numbers N (x ∷ xs) = ap₂ (λ y ys. y ∷ ys) (sym (pos-*ℤ-pos N x)) (scaled_numbers N xs)

sizes : (xs : List ℕ) → map unsigned_abs (map pos xs) ≡ xs
sizes [] = refl
sizes (x ∷ xs) = ap (λ ys. x ∷ ys) (sizes xs)

lowest_of_times : (N : ℕ) (xs : List ℕ) → 1 ≤ N → row_divisor (map pos xs) ≤ 1 → in_lowest_terms (map (λ x. N * x) xs) ≡ xs
lowest_of_times N xs some small =
    ap (λ row. map unsigned_abs (primitive_row row)) (scaled_numbers N xs)
    ∙ ap (map unsigned_abs) (primitive_row-scaled N (map pos xs) some ∙ primitive_row-undivided (map pos xs) small)
    ∙ sizes xs

-- the stakes without numerators are zeros
zero_items : (D N : ℕ) (rs : List Ratio) → Divides 0 (numerators rs) → Divides 0 (map pos (map (item_of D N) rs))
zero_items D N [] zeros = tt
zero_items D N (r ∷ rs) zeros =
    let none : item_of D N r ≡ 0 = ap (λ n. D / r.denominator * (n / N)) (eq-zero_of_zero-dvd zeros.0) ∙ ap (λ n. D / r.denominator * n) (zero-div N) ∙ (let e : D / r.denominator * 0 ≡ 0 = omega arith in e) in
    (subst (λ n. 0 ∣ n) (eq-zero_of_zero-dvd zeros.0 ∙ sym none) zeros.0, zero_items D N rs zeros.1)

-- what divides all items, times the numerators' divisor, divides the numerators times the denominator
item_divides : (N h D : ℕ) (f : Fraction) (r : Ratio) → IsLowestForm f (fraction_of r) → IsWhole D f → N ∣ r.numerator → h ∣ item_of D N r → N * h ∣ D * r.numerator
item_divides N h D f r is whole divides item =
    let q = r.denominator in
    let e = D / q in
    let n = r.numerator in
    let eD : q * e ≡ D = mul-div_cancel' q (whole_divides f (fraction_of r) D is whole) in
    let en : N * (n / N) ≡ n = mul-div_cancel' N divides in
    let product : h ∣ q * (e * (n / N)) = dvd-mul_left_of_dvd h item q in
    let moved : N * (q * (e * (n / N))) ≡ D * n = (let x : N * (q * (e * (n / N))) ≡ q * e * (N * (n / N)) = omega arith in x) ∙ ap₂ (λ a b. a * b) eD en in
    subst (λ m. N * h ∣ m) moved (mul-dvd-mul_left h N product)

items_divide : (N h D : ℕ) (S : List Fraction) (rs : List Ratio) → LowestForms S rs → MakesWhole D S → Divides N (numerators rs) → Divides h (map pos (map (item_of D N) rs)) → Divides (N * h) (scaled D (numerators rs))
items_divide N h D [] [] forms whole divides items = tt
items_divide N h D [] (r ∷ rs) forms whole divides items = absurd forms
items_divide N h D (f ∷ S) [] forms whole divides items = absurd forms
items_divide N h D (f ∷ S) (r ∷ rs) forms whole divides items = (
  subst (λ m. N * h ∣ m) (sym (unsigned_abs-mul (pos D) (pos r.numerator))) (item_divides N h D f r forms.0 (All-head (IsWhole D) f S whole) divides.0 items.0),
  items_divide N h D S rs forms.1 (All-tail (IsWhole D) f S whole) divides.1 items.1,
)

-- so the denominator by it makes the stakes whole
whole_by_less : (N h D : ℕ) (f : Fraction) (r : Ratio) → 1 ≤ h → h ∣ D → IsLowestForm f (fraction_of r) → IsWhole D f → N ∣ r.numerator → h ∣ item_of D N r → IsWhole (D / h) f
whole_by_less N h D f r some divisor is whole divides item =
    let q = r.denominator in
    let e = D / q in
    let n = r.numerator in
    let eD : q * e ≡ D = mul-div_cancel' q (whole_divides f (fraction_of r) D is whole) in
    let en : N * (n / N) ≡ n = mul-div_cancel' N divides in
    let clear : IsGcd q (n / N) 1 = (one-dvd q, one-dvd (n / N), λ d u v. is.apart.2 d (subst (λ m. d ∣ m) en (dvd-mul_left_of_dvd d v N)) u) in
    let first : h ∣ e * q = subst (λ m. h ∣ m) (sym eD ∙ (let x : q * e ≡ e * q = omega arith in x)) divisor in
    let quotient : h ∣ e = without_common q (n / N) h e clear first item in
    let s = e / h in
    let es : h * s ≡ e = mul-div_cancel' h quotient in
    let less : D / h ≡ q * s = ap (λ m. m / h) (sym eD ∙ ap (λ m. q * m) (sym es) ∙ (let x : q * (h * s) ≡ h * (q * s) = omega arith in x)) ∙ mul-div_cancel_left (q * s) some in
    divides_whole f (fraction_of r) (D / h) is (subst (λ m. q ∣ m) (sym less) (dvd-mul_right q s))

all_whole_by_less : (N h D : ℕ) (S : List Fraction) (rs : List Ratio) → 1 ≤ h → h ∣ D → LowestForms S rs → MakesWhole D S → Divides N (numerators rs) → Divides h (map pos (map (item_of D N) rs)) → MakesWhole (D / h) S
all_whole_by_less N h D [] rs some divisor forms whole divides items = All-nil (IsWhole (D / h))
all_whole_by_less N h D (f ∷ S) [] some divisor forms whole divides items = absurd forms
all_whole_by_less N h D (f ∷ S) (r ∷ rs) some divisor forms whole divides items =
    All-cons (IsWhole (D / h)) f S (whole_by_less N h D f r some divisor forms.0 (All-head (IsWhole D) f S whole) divides.0 items.0)
    (all_whole_by_less N h D S rs some divisor forms.1 (All-tail (IsWhole D) f S whole) divides.1 items.1)

at_most_one : (h x : ℕ) → 1 ≤ x → h * x ≤ x → h ≤ 1
at_most_one zero x some h = omega arith
at_most_one (suc zero) x some h = omega arith
at_most_one (suc (suc n)) x some h = absurd (omega (arith, h, some))

-- what the numerators are divided by: their greatest common divisor, or 1 where all are 0
abbrev pub IsNumeratorDivisor : List Ratio → ℕ → Type 0
IsNumeratorDivisor rs N = ((N ≡ row_divisor (numerators rs)) × (1 ≤ N)) ⊎ ((N ≡ 1) × (row_divisor (numerators rs) ≡ 0))

pub numerator_divides : (rs : List Ratio) (N : ℕ) → IsNumeratorDivisor rs N → (1 ≤ N) × Divides N (numerators rs)
numerator_divides rs N (inl is) = (is.1, subst (λ n. Divides n (numerators rs)) (sym is.0) (row_divisor_is (numerators rs)).0)
numerator_divides rs N (inr is) = (omega (arith, is.0), subst (λ n. Divides n (numerators rs)) (sym is.0) (one_divides rs))

-- the items have no common divisor above 1
items_apart : (N D : ℕ) (S : List Fraction) (rs : List Ratio) → LowestForms S rs → IsWholeBy S D → IsNumeratorDivisor rs N → row_divisor (map pos (map (item_of D N) rs)) ≤ 1
items_apart N D S rs forms is (inr none) =
    let row = map pos (map (item_of D N) rs) in
    let zeros = subst (λ n. Divides n (numerators rs)) none.1 (row_divisor_is (numerators rs)).0 in
    let z : row_divisor row ≡ 0 = eq-zero_of_zero-dvd ((row_divisor_is row).1 0 (zero_items D N rs zeros)) in
    omega (arith, z)
items_apart N D S rs forms is (inl some) =
    let row = map pos (map (item_of D N) rs) in
    let h = row_divisor row in
    let items = (row_divisor_is row).0 in
    let divides = subst (λ n. Divides n (numerators rs)) (sym some.0) (row_divisor_is (numerators rs)).0 in
    let whole : row_divisor (scaled D (numerators rs)) ≡ N * D = row_divisor-scaled D (numerators rs) is.above_zero ∙ ap (λ n. D * n) (sym some.0) ∙ (let e : D * N ≡ N * D = omega arith in e) in
    let both : N * h ∣ N * D = subst (λ m. N * h ∣ m) whole ((row_divisor_is (scaled D (numerators rs))).1 (N * h) (items_divide N h D S rs forms is.whole divides items)) in
    let divisor : h ∣ D = dvd_of_mul-dvd-mul_left h some.1 both in
    let above : 1 ≤ h = pos_of_dvd_of_pos divisor is.above_zero in
    let less = is.divides (D / h) (all_whole_by_less N h D S rs above divisor forms is.whole divides items) in
    let x : 1 ≤ D / h = quotient_above h D is.above_zero divisor in
    let most : D ≤ D / h = le_of_dvd x less in
    at_most_one h (D / h) x (subst (λ m. m ≤ D / h) (sym (mul-div_cancel' h divisor)) most)

-- the stakes over the common denominator, in lowest terms
pub direction_is : (N D : ℕ) (S : List Fraction) (rs : List Ratio) → LowestForms S rs → IsWholeBy S D → IsNumeratorDivisor rs N → in_lowest_terms (multiples D S) ≡ map (item_of D N) rs
direction_is N D S rs forms is divisor =
    let divides = numerator_divides rs N divisor in
    ap in_lowest_terms (multiples_are N D divides.0 S rs forms is.whole divides.1)
    ∙ lowest_of_times N (map (item_of D N) rs) divides.0 (items_apart N D S rs forms is divisor)

-- for places past the end of a list
abbrev pub any_ratio : Ratio
any_ratio = record { numerator = 0; denominator = 0 }

-- one more number
pub range_more : (a n : ℕ) → range_with_len a (n + 1) ≡ range_with_len a n ++ (a + n) ∷ []
range_more a n = sym (map_same (range_with_len a (n + 1))) ∙ map-range_with_len_more (λ k. k) a n (a + n) refl ∙ ap (λ xs. xs ++ (a + n) ∷ []) (map_same (range_with_len a n))
  where
    map_same : (xs : List ℕ) → map (λ k. k) xs ≡ xs
    map_same [] = refl
    map_same (x ∷ xs) = ap (λ ys. x ∷ ys) (map_same xs)
