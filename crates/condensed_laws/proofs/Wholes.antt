-- The combination of whole rows is the whole row of the combination.
use Rattle.std.proofs.Common.{◌≡◌, ℕ, zero, suc, ◌<◌, ◌≤◌, ◌⊎◌, inl, inr, List, [], ◌∷◌, length, map, get_or, ℤ, pos, ◌*ℤ◌, ◌-ℤ◌, unsigned_abs, refl, sym, ap, ap₂, subst, subst₂, ◌∙◌, arith, lit<}
use Rattle.std.specs.Int.{◌∣◌}
use Rattle.std.proofs.lemmas.List.{length-map}
use Rattle.std.proofs.lemmas.List.Elements.{All-from_get_or}
use Rattle.std.proofs.lemmas.Nat.Gcd.{dvd-zero}
use Rattle.std.proofs.Math.IntN.{*ℤ-zero}
use Rattle.row_definitions.specs.Rows.{entry, row_divisor, divided, primitive_row}
use Rattle.row_definitions.specs.Combination.{combination, target_factor, pivot_factor, FitsEntry, ProductsFit, FitsAt, PassesNowhere}
use Rattle.row_definitions.proofs.Divisors.{Divides, Divides-entry, Divides-from_All, row_divisor_is, row_divisor_from}
use Rattle.row_definitions.proofs.Combinations.{length-combination, entry-combination, entry-divided}
use Rattle.condensed_laws.specs.Wholes.{whole, IsShown, ShowEach}
use Rattle.condensed_laws.specs.Laws.{CombinedOfWholes, FitsOfWholes, PassesNowhereOfWholes}

-- a column shows the entry at its place
pub entry-whole : (places : List ℕ) (row : List ℤ) (column : ℕ) → column < length places → entry (whole places row) column ≡ entry row (get_or places column 0)
entry-whole [] row column within = absurd (omega arith)
entry-whole (k ∷ places) row zero within = refl
entry-whole (k ∷ places) row (suc column) within = entry-whole places row column (omega arith)

pub entry_past : (row : List ℤ) (k : ℕ) → length row ≤ k → entry row k ≡ pos 0
entry_past [] k past = refl
entry_past (x ∷ row) zero past = absurd (omega arith)
entry_past (x ∷ row) (suc k) past = entry_past row k (omega arith)

combination-whole : (a b : ℤ) (places : List ℕ) (target pivot : List ℤ) → length target ≡ length pivot → combination a b (whole places target) (whole places pivot) ≡ whole places (combination a b target pivot)
combination-whole a b [] target pivot lengths = refl
combination-whole a b (k ∷ places) target pivot lengths = ap₂ (λ x xs. x ∷ xs) (sym (entry-combination a b target pivot k lengths)) (combination-whole a b places target pivot lengths)

divided-whole : (g : ℕ) (places : List ℕ) (row : List ℤ) → map (divided g) (whole places row) ≡ whole places (map (divided g) row)
divided-whole g [] row = refl
divided-whole g (k ∷ places) row = ap₂ (λ x xs. x ∷ xs) (sym (entry-divided g row k)) (divided-whole g places row)

-- ---- the divisor

Divides-whole : (d : ℕ) (places : List ℕ) (row : List ℤ) → Divides d row → Divides d (whole places row)
Divides-whole d [] row each = tt
Divides-whole d (k ∷ places) row each = (Divides-entry d row k each, Divides-whole d places row each)

-- each entry of the row is shown, or is 0
abbrev pub ShowsEach : List ℕ → List ℤ → Type 0
ShowsEach places row = (k : ℕ) → k < length row → (entry row k ≡ pos 0) ⊎ IsShown places k

Divides-back : (d : ℕ) (places : List ℕ) (row : List ℤ) → ShowsEach places row → Divides d (whole places row) → Divides d row
Divides-back d places row shows each = Divides-from_All d row (All-from_get_or (λ x. d ∣ unsigned_abs x) row (pos 0) (λ k below. by_place k (shows k below))) where
  by_place : (k : ℕ) → (entry row k ≡ pos 0) ⊎ IsShown places k → d ∣ unsigned_abs (entry row k)
  by_place k (inl none) = subst (λ x. d ∣ unsigned_abs x) (sym none) (dvd-zero d)
  by_place k (inr shown) = subst (λ x. d ∣ unsigned_abs x) (entry-whole places row shown.column shown.within ∙ ap (entry row) shown.is) (Divides-entry d (whole places row) shown.column each)

row_divisor-whole : (places : List ℕ) (row : List ℤ) → ShowsEach places row → row_divisor (whole places row) ≡ row_divisor row
row_divisor-whole places row shows =
    let is = row_divisor_is row in
    sym (row_divisor_from (whole places row) (row_divisor row) (Divides-whole (row_divisor row) places row is.0, λ d each. is.1 d (Divides-back d places row shows each)))

pub primitive_row-whole : (places : List ℕ) (row : List ℤ) → ShowsEach places row → primitive_row (whole places row) ≡ whole places (primitive_row row)
primitive_row-whole places row shows =
    ap (λ g. map (divided g) (whole places row)) (row_divisor-whole places row shows) ∙ divided-whole (row_divisor row) places row

-- ---- the combination

target_factor-whole : (places : List ℕ) (target pivot : List ℤ) (column : ℕ) → column < length places → target_factor (whole places target) (whole places pivot) column ≡ target_factor target pivot (get_or places column 0)
target_factor-whole places target pivot column within =
    ap₂ (λ x y. divided (row_divisor (x ∷ y ∷ [])) x) (entry-whole places pivot column within) (entry-whole places target column within)

pivot_factor-whole : (places : List ℕ) (target pivot : List ℤ) (column : ℕ) → column < length places → pivot_factor (whole places target) (whole places pivot) column ≡ pivot_factor target pivot (get_or places column 0)
pivot_factor-whole places target pivot column within =
    ap₂ (λ x y. divided (row_divisor (x ∷ y ∷ [])) y) (entry-whole places pivot column within) (entry-whole places target column within)

pub zero_difference : (a b : ℤ) → a *ℤ pos 0 -ℤ b *ℤ pos 0 ≡ pos 0
zero_difference a b = ap₂ (λ y z. y -ℤ z) (*ℤ-zero a) (*ℤ-zero b)

-- the combination of rows that show each entry shows each entry
combination_shows : (a b : ℤ) (places : List ℕ) (target pivot : List ℤ) → length target ≡ length pivot → ShowEach places target pivot → ShowsEach places (combination a b target pivot)
combination_shows a b places target pivot lengths shows k below =
    let count : length (combination a b target pivot) ≡ length target = length-combination a b target pivot lengths in
    by_place k (shows k (subst (λ n. k < n) count below))
  where
    by_place : (k : ℕ) → ((entry target k ≡ pos 0) × (entry pivot k ≡ pos 0)) ⊎ IsShown places k → (entry (combination a b target pivot) k ≡ pos 0) ⊎ IsShown places k
    by_place k (inl none) = inl (entry-combination a b target pivot k lengths ∙ ap₂ (λ t p. a *ℤ t -ℤ b *ℤ p) none.0 none.1 ∙ zero_difference a b)
    by_place k (inr shown) = inr shown

pub combined_of_wholes : CombinedOfWholes
combined_of_wholes places target pivot column lengths within shows =
    let at : ℕ = get_or places column 0 in
    let a = target_factor target pivot at in
    let b = pivot_factor target pivot at in
    ap primitive_row (
    ap₂ (λ x y. combination x y (whole places target) (whole places pivot)) (target_factor-whole places target pivot column within) (pivot_factor-whole places target pivot column within)
    ∙ combination-whole a b places target pivot lengths
    )
    ∙ primitive_row-whole places (combination a b target pivot) (combination_shows a b places target pivot lengths shows)

-- ---- where it passes

products_along : (a a' b b' t t' p p' : ℤ) → a ≡ a' → b ≡ b' → t ≡ t' → p ≡ p' → ProductsFit a b t p → ProductsFit a' b' t' p'
products_along a a' b b' t t' p p' ea eb et ep fits =
    subst₂ (λ x y. ProductsFit x y t' p') ea eb (subst₂ (λ x y. ProductsFit a b x y) et ep fits)

pub fits_of_wholes : FitsOfWholes
fits_of_wholes places target pivot at column within column_within =
    let ea = target_factor-whole places target pivot at within in
    let eb = pivot_factor-whole places target pivot at within in
    let et = entry-whole places target column column_within in
    let ep = entry-whole places pivot column column_within in
    (products_along _ _ _ _ _ _ _ _ ea eb et ep, products_along _ _ _ _ _ _ _ _ (sym ea) (sym eb) (sym et) (sym ep))

zero_fits : FitsEntry (pos 0)
zero_fits = lit< tt

pub zeros_fit : (a b t p : ℤ) → t ≡ pos 0 → p ≡ pos 0 → ProductsFit a b t p
zeros_fit a b t p no_target no_pivot = subst₂ (λ x y. ProductsFit a b x y) (sym no_target) (sym no_pivot) (record {
  target_product = subst FitsEntry (sym (*ℤ-zero a)) zero_fits;
  pivot_product = subst FitsEntry (sym (*ℤ-zero b)) zero_fits;
  difference = subst FitsEntry (sym (zero_difference a b)) zero_fits;
})

pub below_or : (n m : ℕ) → (n < m) ⊎ (m ≤ n)
below_or n zero = inr (omega arith)
below_or zero (suc m) = inl (omega arith)
below_or (suc n) (suc m) = elim (below_or n m) [ inl h ↦ inl (omega arith) | inr h ↦ inr (omega arith) ]

pub passes_nowhere_of_wholes : PassesNowhereOfWholes
passes_nowhere_of_wholes places target pivot at lengths within shows = (to, back) where
  fits_at : (k : ℕ) → PassesNowhere target pivot (get_or places at 0) → (k < length target) ⊎ (length target ≤ k) → FitsAt target pivot (get_or places at 0) k
  fits_at k nowhere (inl below) = nowhere k below
  fits_at k nowhere (inr past) = zeros_fit _ _ _ _ (entry_past target k past) (entry_past pivot k (subst (λ n. n ≤ k) lengths past))

  back_at : (k : ℕ) → PassesNowhere (whole places target) (whole places pivot) at → ((entry target k ≡ pos 0) × (entry pivot k ≡ pos 0)) ⊎ IsShown places k → FitsAt target pivot (get_or places at 0) k
  back_at k nowhere (inl none) = zeros_fit _ _ _ _ none.0 none.1
  back_at k nowhere (inr shown) =
      let count : length (whole places target) ≡ length places = length-map places (entry target) in
      subst (λ j. FitsAt target pivot (get_or places at 0) j) shown.is ((fits_of_wholes places target pivot at shown.column within shown.within).0 (nowhere shown.column (subst (λ n. shown.column < n) (sym count) shown.within)))

  to : PassesNowhere (whole places target) (whole places pivot) at → PassesNowhere target pivot (get_or places at 0)
  to nowhere k below = back_at k nowhere (shows k below)

  back : PassesNowhere target pivot (get_or places at 0) → PassesNowhere (whole places target) (whole places pivot) at
  back nowhere column below =
      let count : length (whole places target) ≡ length places = length-map places (entry target) in
      let inside = subst (λ n. column < n) count below in
      let k : ℕ = get_or places column 0 in
      (fits_of_wholes places target pivot at column within inside).1 (fits_at k nowhere (below_or k (length target)))
