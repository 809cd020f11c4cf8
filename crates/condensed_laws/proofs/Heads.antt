-- A pivot of condensed rows, entry by entry.
use Rattle.std.proofs.Common.{◌≡◌, ◌≢◌, ℕ, zero, suc, ◌+◌, ◌<◌, ◌≤◌, ◌⊎◌, inl, inr, true, false, List, [], ◌∷◌, ◌++◌, length, map, get_or, set, ℤ, pos, refl, sym, ap, ap₂, subst, ◌∙◌, arith}
use Rattle.std.specs.Prelude.{if◌then◌else◌, ◌==◌}
use Rattle.std.proofs.lemmas.Bool.{lt-ltb, le-ltb, eq-eqb, ne_eqb}
use Rattle.std.proofs.lemmas.Bool.Decides.{eqb_tells}
use Rattle.std.proofs.lemmas.List.{length-map, length-set, get_or-set_same, get_or-set_other, ext_get_or}
use Rattle.row_definitions.specs.Rows.{entry}
use Rattle.condensed_laws.specs.Wholes.{whole}
use Rattle.condensed_laws.specs.Heads.{place_by, pivot_place_by}
use Rattle.condensed_laws.proofs.Wholes.{below_or}

-- ---- where a column is

pub place_below : (width own head : ℕ) → head < width → place_by width own head ≡ head
place_below width own head below = ap (λ b. if b then head else (if head == width + own then width + 1 else width + 3)) (lt-ltb head width below)

pub place_own : (width own head : ℕ) → head ≡ width + own → place_by width own head ≡ width + 1
place_own width own head is =
    ap (λ b. if b then head else (if head == width + own then width + 1 else width + 3)) (le-ltb head width (omega (arith, is)))
    ∙ ap (λ b. if b then width + 1 else width + 3) (eq-eqb head (width + own) is)

pub place_other : (width own head : ℕ) → width ≤ head → head ≢ width + own → place_by width own head ≡ width + 3
place_other width own head above differ =
    ap (λ b. if b then head else (if head == width + own then width + 1 else width + 3)) (le-ltb head width above)
    ∙ ap (λ b. if b then width + 1 else width + 3) (ne_eqb head (width + own) differ)

pivot_place_above : (width own leaving head : ℕ) → width ≤ head → pivot_place_by width own leaving head ≡ (if head == width + own then width + 1 else (if head == width + leaving then width + 2 else width + 3))
pivot_place_above width own leaving head above = ap (λ b. if b then head else (if head == width + own then width + 1 else (if head == width + leaving then width + 2 else width + 3))) (le-ltb head width above)

pub pivot_place_below : (width own leaving head : ℕ) → head < width → pivot_place_by width own leaving head ≡ head
pivot_place_below width own leaving head below = ap (λ b. if b then head else (if head == width + own then width + 1 else (if head == width + leaving then width + 2 else width + 3))) (lt-ltb head width below)

pub pivot_place_own : (width own leaving head : ℕ) → head ≡ width + own → pivot_place_by width own leaving head ≡ width + 1
pivot_place_own width own leaving head is =
    pivot_place_above width own leaving head (omega (arith, is))
    ∙ ap (λ b. if b then width + 1 else (if head == width + leaving then width + 2 else width + 3)) (eq-eqb head (width + own) is)

pub pivot_place_leaving : (width own leaving head : ℕ) → head ≢ width + own → head ≡ width + leaving → pivot_place_by width own leaving head ≡ width + 2
pivot_place_leaving width own leaving head differ is =
    pivot_place_above width own leaving head (omega (arith, is))
    ∙ ap (λ b. if b then width + 1 else (if head == width + leaving then width + 2 else width + 3)) (ne_eqb head (width + own) differ)
    ∙ ap (λ b. if b then width + 2 else width + 3) (eq-eqb head (width + leaving) is)

pub pivot_place_other : (width own leaving head : ℕ) → width ≤ head → head ≢ width + own → head ≢ width + leaving → pivot_place_by width own leaving head ≡ width + 3
pivot_place_other width own leaving head above differ differ_leaving =
    pivot_place_above width own leaving head above
    ∙ ap (λ b. if b then width + 1 else (if head == width + leaving then width + 2 else width + 3)) (ne_eqb head (width + own) differ)
    ∙ ap (λ b. if b then width + 2 else width + 3) (ne_eqb head (width + leaving) differ_leaving)

-- a head is below the width, or that of one row's basic column, or of another's, or of neither
pub data Kind (width own leaving head : ℕ) : Type 0 where
  below_width : head < width → Kind width own leaving head
  own_column : head ≡ width + own → Kind width own leaving head
  leaving_column : head ≢ width + own → head ≡ width + leaving → Kind width own leaving head
  other_column : width ≤ head → head ≢ width + own → head ≢ width + leaving → Kind width own leaving head

pub kind_of : (width own leaving head : ℕ) → Kind width own leaving head
kind_of width own leaving head = by_height (below_or head width) where
  by_leaving : width ≤ head → head ≢ width + own → ((head == width + leaving ≡ true) × (head ≡ width + leaving)) ⊎ ((head == width + leaving ≡ false) × (head ≢ width + leaving)) → Kind width own leaving head
  by_leaving above differ (inl is) = leaving_column differ is.1
  by_leaving above differ (inr not) = other_column above differ not.1

  by_own : width ≤ head → ((head == width + own ≡ true) × (head ≡ width + own)) ⊎ ((head == width + own ≡ false) × (head ≢ width + own)) → Kind width own leaving head
  by_own above (inl is) = own_column is.1
  by_own above (inr not) = by_leaving above not.1 (eqb_tells head (width + leaving))

  by_height : (head < width) ⊎ (width ≤ head) → Kind width own leaving head
  by_height (inl h) = below_width h
  by_height (inr h) = by_own h (eqb_tells head (width + own))

-- ---- whole rows by heads

pub whole_by : (f : ℕ → ℕ) (width : ℕ) (heads : List ℕ) (row : List ℤ) → whole (map f heads ++ width ∷ []) row ≡ map (λ head. entry row (f head)) heads ++ entry row width ∷ []
whole_by f width [] row = refl
whole_by f width (head ∷ heads) row = ap (λ xs. entry row (f head) ∷ xs) (whole_by f width heads row)

pub map_same : (f g : ℕ → ℤ) (heads : List ℕ) → ((head : ℕ) → f head ≡ g head) → map f heads ≡ map g heads
map_same f g [] same = refl
map_same f g (head ∷ heads) same = ap₂ (λ x xs. x ∷ xs) (same head) (map_same f g heads same)

get_or_map : (f : ℕ → ℤ) (heads : List ℕ) (column : ℕ) → column < length heads → get_or (map f heads) column (pos 0) ≡ f (get_or heads column 0)
get_or_map f [] column within = absurd (omega arith)
get_or_map f (head ∷ heads) zero within = refl
get_or_map f (head ∷ heads) (suc column) within = get_or_map f heads column (omega arith)

abbrev changed : List ℕ → ℕ → ℕ → ℕ → ℕ → List ℕ
changed heads leaving entering a b = set (set heads leaving a) entering b

length-changed : (heads : List ℕ) (leaving entering a b : ℕ) → length (changed heads leaving entering a b) ≡ length heads
length-changed heads leaving entering a b = length-set (set heads leaving a) entering b ∙ length-set heads leaving a

-- two heads change, and what is read by each column stays
pub map_moved : (f g : ℕ → ℤ) (heads : List ℕ) (leaving entering a b : ℕ) → leaving < length heads → entering < length heads → f a ≡ g (get_or heads leaving 0) → f b ≡ g (get_or heads entering 0) → ((column : ℕ) → column < length heads → column ≢ leaving → column ≢ entering → f (get_or heads column 0) ≡ g (get_or heads column 0)) → map f (set (set heads leaving a) entering b) ≡ map g heads
map_moved f g heads leaving entering a b leaving_within entering_within at_leaving at_entering elsewhere =
    ext_get_or (pos 0) (map f (changed heads leaving entering a b)) (map g heads)
    (length-map (changed heads leaving entering a b) f ∙ length-changed heads leaving entering a b ∙ sym (length-map heads g))
    (λ column within.
    let inside : column < length (changed heads leaving entering a b) = subst (λ n. column < n) (length-map (changed heads leaving entering a b) f) within in
    let below : column < length heads = subst (λ n. column < n) (length-changed heads leaving entering a b) inside in
    get_or_map f (changed heads leaving entering a b) column inside ∙ by_entering column below (eqb_tells column entering) ∙ sym (get_or_map g heads column below))
  where
    by_leaving : (column : ℕ) → column < length heads → column ≢ entering → ((column == leaving ≡ true) × (column ≡ leaving)) ⊎ ((column == leaving ≡ false) × (column ≢ leaving)) → f (get_or (set heads leaving a) column 0) ≡ g (get_or heads column 0)
    by_leaving column below not_entering (inl is) = ap (λ k. f (get_or (set heads leaving a) k 0)) is.1 ∙ ap f (get_or-set_same heads leaving a 0 leaving_within) ∙ at_leaving ∙ sym (ap (λ k. g (get_or heads k 0)) is.1)
    by_leaving column below not_entering (inr not) = ap f (get_or-set_other heads leaving column a 0 not.1) ∙ elsewhere column below not.1 not_entering

    by_entering : (column : ℕ) → column < length heads → ((column == entering ≡ true) × (column ≡ entering)) ⊎ ((column == entering ≡ false) × (column ≢ entering)) → f (get_or (changed heads leaving entering a b) column 0) ≡ g (get_or heads column 0)
    by_entering column below (inl is) = ap (λ k. f (get_or (changed heads leaving entering a b) k 0)) is.1 ∙ ap f (get_or-set_same (set heads leaving a) entering b 0 (subst (λ n. entering < n) (sym (length-set heads leaving a)) entering_within)) ∙ at_entering ∙ sym (ap (λ k. g (get_or heads k 0)) is.1)
    by_entering column below (inr not) = ap f (get_or-set_other (set heads leaving a) entering column b 0 not.1) ∙ by_leaving column below not.1 (eqb_tells column leaving)
