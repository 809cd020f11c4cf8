-- The offer that binds stakes in a proportion.
use Rattle.std.proofs.Common.{◌≡◌, ℕ, zero, suc, ◌+◌, ◌*◌, ◌/◌, ◌^◌, ◌<◌, ◌≤◌, List, [], ◌∷◌, length, map, take, zip, get_or, sym, ap, ◌∙◌, subst, subst₂, arith}
use Rattle.std.specs.Prelude.{slice_index}
use Rattle.std.specs.List.{AllZip, Contains}
use Rattle.std.proofs.Math.Nat.{mul-le-mul, mul-le-mul_left, mul-le-mul_right, le_of_mul-le-mul_left}
use Rattle.std.proofs.lemmas.List.{take_more, length-map, get_or-map}
use Rattle.std.proofs.lemmas.List.Elements.{Contains-get_or}
use Rattle.std.proofs.lemmas.Slice.Zip.{all_zipped_more, length-zip, get_or-zip}
use Rattle.scan_types.specs.declared.offer.Offer.{Offer}

-- an offer and its item are no less than so much to one
abbrev pub IsNoLess : ℕ → ℕ → Offer → ℕ → Type 0
IsNoLess limit item offer other = limit * other ≤ offer.limit * item

-- less to one than a bound that another is no less than: the other is no less than that
pub through : (l i m j n o : ℕ) → 1 ≤ l → m * i < l * j → l * o ≤ n * i → m * o ≤ n * j
through l i m j n o some less no_less =
    let a : m * (l * o) ≤ m * (n * i) = mul-le-mul_left m no_less in
    let b : n * (m * i) ≤ n * (l * j) = mul-le-mul_left n (let h : m * i ≤ l * j = omega (arith, less) in h) in
    let c : l * (m * o) ≤ l * (n * j) = omega (arith, a, b) in
    le_of_mul-le-mul_left c some

pub all_through : (l i m j : ℕ) (offers : List Offer) (items : List ℕ) → 1 ≤ l → m * i < l * j → AllZip (IsNoLess l i) offers items → AllZip (IsNoLess m j) offers items
all_through l i m j [] [] some less all = tt
all_through l i m j [] (o ∷ items) some less all = absurd all
all_through l i m j (offer ∷ offers) [] some less all = absurd all
all_through l i m j (offer ∷ offers) (o ∷ items) some less all = (through l i m j offer.limit o some less all.0, all_through l i m j offers items some less all.1)

-- one more offer
pub no_less_more : (limit item : ℕ) (offers : List Offer) (items : List ℕ) (k : ℕ) (o : Offer) → k < length offers → k < length items → AllZip (IsNoLess limit item) (take k offers) (take k items) → IsNoLess limit item (get_or offers k o) (get_or items k 0) → AllZip (IsNoLess limit item) (take (k + 1) offers) (take (k + 1) items)
no_less_more limit item offers items k o h g all here =
    subst₂ (λ xs ys. AllZip (IsNoLess limit item) xs ys) (sym (take_more offers k o h)) (sym (take_more items k 0 g))
    (all_zipped_more (IsNoLess limit item) (take k offers) (take k items) (get_or offers k o) (get_or items k 0) all here)

-- where some item is above 0, that of the bound is
pub bound_some : (limit item : ℕ) (offers : List Offer) (items : List ℕ) → 1 ≤ limit → AllZip (IsNoLess limit item) offers items → (k : ℕ) → k < length items → 1 ≤ slice_index items k → 1 ≤ item
bound_some limit item [] [] some all k h above = absurd (omega (arith, h))
bound_some limit item [] (o ∷ items) some all k h above = absurd all
bound_some limit item (offer ∷ offers) [] some all k h above = absurd all
bound_some limit zero (offer ∷ offers) (o ∷ items) some all zero h above =
    let x : limit * 1 ≤ limit * o = mul-le-mul_left limit above in absurd (omega (arith, all.0, x, some))
bound_some limit (suc item) (offer ∷ offers) (o ∷ items) some all zero h above = omega arith
bound_some limit item (offer ∷ offers) (o ∷ items) some all (suc k) h above = bound_some limit item offers items some all.1 k (omega (arith, h)) above

-- the bound in the form of scaled floors
pub binds_all : (limit item : ℕ) (offers : List Offer) (items : List ℕ) → AllZip (IsNoLess limit item) offers items → AllZip (λ offer other. 1 ≤ other → limit * other ≤ offer.limit * item) offers items
binds_all limit item [] [] all = tt
binds_all limit item [] (o ∷ items) all = absurd all
binds_all limit item (offer ∷ offers) [] all = absurd all
binds_all limit item (offer ∷ offers) (o ∷ items) all = ((λ h. all.0), binds_all limit item offers items all.1)

-- the limits and the items, pair by pair
abbrev pub pairs : List Offer → List ℕ → List (ℕ × ℕ)
pairs offers items = zip (map (λ (offer : Offer). offer.limit) offers) items

-- a pair of a limit and an item stands among all
pub stands_there : (offers : List Offer) (items : List ℕ) (k : ℕ) (o : Offer) → k < length offers → k < length items → Contains (pairs offers items) ((get_or offers k o).limit, get_or items k 0)
stands_there offers items k o h g =
    let limits = map (λ (offer : Offer). offer.limit) offers in
    let long : k < length limits = omega (arith, h, length-map offers (λ (offer : Offer). offer.limit)) in
    let within : k < length (pairs offers items) = omega (arith, length-zip limits items, long, g) in
    let at : get_or (pairs offers items) k (0, 0) ≡ ((get_or offers k o).limit, get_or items k 0) =
    get_or-zip limits items k (0, 0) long g ∙ ap (λ n. (n, get_or items k 0)) (get_or-map (λ (offer : Offer). offer.limit) offers k o 0 h) in
    subst (Contains (pairs offers items)) at (Contains-get_or (pairs offers items) k (0, 0) within)

-- what is known of the bound after so many offers
pub record BoundSoFar (offers : List Offer) (items : List ℕ) (k limit item : ℕ) : Type 0 where
  pub some : 1 ≤ limit
  pub limit_small : limit ≤ 100000000
  pub item_small : item < 2 ^ 64
  pub stands : 1 ≤ item → Contains (pairs offers items) (limit, item)
  pub no_less : AllZip (IsNoLess limit item) (take k offers) (take k items)

pub bound_none : (offers : List Offer) (items : List ℕ) → BoundSoFar offers items 0 1 0
bound_none offers items = record { some = omega arith; limit_small = omega arith; item_small = omega arith; stands = λ h. absurd (omega (arith, h)); no_less = tt }

pub bound_kept : (offers : List Offer) (items : List ℕ) (k limit item : ℕ) (o : Offer) → k < length offers → k < length items → o ≡ get_or offers k o → BoundSoFar offers items k limit item → limit * get_or items k 0 ≤ o.limit * item → BoundSoFar offers items (k + 1) limit item
bound_kept offers items k limit item o h g is so_far here =
    record {
      some = so_far.some;
      limit_small = so_far.limit_small;
      item_small = so_far.item_small;
      stands = so_far.stands;
      no_less = no_less_more limit item offers items k o h g so_far.no_less (subst (λ (x : Offer). limit * get_or items k 0 ≤ x.limit * item) is here);
    }

pub bound_replaced : (offers : List Offer) (items : List ℕ) (k limit item : ℕ) (o : Offer) → k < length offers → k < length items → o ≡ get_or offers k o → get_or items k 0 < 2 ^ 64 → BoundSoFar offers items k limit item → o.limit * item < limit * get_or items k 0 → BoundSoFar offers items (k + 1) o.limit (get_or items k 0)
bound_replaced offers items k limit item o h g is small so_far less =
    let part = get_or items k 0 in
    record {
      some = o.limit_at_least;
      limit_small = o.limit_at_most;
      item_small = small;
      stands = λ above. subst (λ (x : Offer). Contains (pairs offers items) (x.limit, part)) (sym is) (stands_there offers items k o h g);
      no_less = no_less_more o.limit part offers items k o h g (all_through limit item o.limit part (take k offers) (take k items) so_far.some less so_far.no_less) (subst (λ (x : Offer). o.limit * part ≤ x.limit * part) is (omega arith));
    }

-- a limit by an item, and an item by a limit, fit 128 bits
pub product_small : (limit item : ℕ) → limit ≤ 100000000 → item < 2 ^ 64 → limit * item < 2 ^ 128
product_small limit item h g =
    let most : limit * item ≤ 100000000 * 18446744073709551616 = mul-le-mul h (let k : item ≤ 18446744073709551616 = omega (arith, g) in k) in
    omega (arith, most)

-- ---- the stakes

binds_at : (limit item : ℕ) (offers : List Offer) (items : List ℕ) (k : ℕ) → AllZip (λ offer other. 1 ≤ other → limit * other ≤ offer.limit * item) offers items → k < length items → limit * get_or items k 0 ≤ 100000000 * item
binds_at limit item [] [] k all h = absurd (omega (arith, h))
binds_at limit item [] (o ∷ items) k all h = absurd all
binds_at limit item (offer ∷ offers) [] k all h = absurd all
binds_at limit item (offer ∷ offers) (zero ∷ items) zero all h = (let e : limit * 0 ≡ 0 = omega arith in omega (arith, e))
binds_at limit item (offer ∷ offers) (suc n ∷ items) zero all h =
    let here = all.0 (omega arith) in
    let most : offer.limit * item ≤ 100000000 * item = mul-le-mul_right item offer.limit_at_most in
    omega (arith, here, most)
binds_at limit item (offer ∷ offers) (o ∷ items) (suc k) all h = binds_at limit item offers items k all.1 (omega (arith, h))

pub stake_small : (limit item : ℕ) (offers : List Offer) (items : List ℕ) (k : ℕ) → 1 ≤ item → AllZip (λ offer other. 1 ≤ other → limit * other ≤ offer.limit * item) offers items → k < length items → limit * get_or items k 0 / item ≤ 100000000
stake_small limit item offers items k above all h =
    let x = limit * get_or items k 0 in
    let here = binds_at limit item offers items k all h in
    let q : item * (x / item) ≤ x = omega (arith, above) in
    let least : item * (x / item) ≤ item * 100000000 = omega (arith, q, here) in
    le_of_mul-le-mul_left least above
