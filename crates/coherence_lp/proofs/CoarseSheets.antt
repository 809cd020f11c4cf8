-- A sheet's offers at other odds, all of them or some, are a sheet.
use Rattle.std.proofs.Common.{◌≡◌, ℕ, zero, suc, ◌+◌, ◌-◌, ◌<◌, Bool, true, false, cond, Some, None, List, [], ◌∷◌, ◌++◌, length, map, take, drop, filter, refl, sym, ap, ◌∙◌, subst, subst₂, arith, append_assoc, length-append}
use Rattle.std.specs.Prelude.{Option, slice_get, slice_index_or, IfSome}
use Rattle.std.specs.List.{AllPairs, enumerate_from}
use Rattle.std.proofs.lemmas.List.{length-map, get_or-map, map-append, take_more, take-append-drop, get_or_append_left, get_or_at}
use Rattle.std.proofs.lemmas.List.FromFn.{length-enumerate_from, get_or-enumerate_from}
use Rattle.std.proofs.lemmas.List.Elements.{filter_more}
use Rattle.std.proofs.lemmas.List.Kept.{AllPairs-filter}
use Rattle.std.proofs.lemmas.Option.{slice_get_within, get_or_from_slice_get}
use Rattle.scan_types.specs.declared.offer.Offer.{Offer}
use Rattle.scan_types.specs.Offers.{IsBelow}
use Rattle.scan_types.specs.Sheets.{IsSheet, Fits}
use Rattle.judging_definitions.specs.CoarseOdds.{at_odds, raised_odds, raised_offers, lowered_odds, stay_odds, kept_offers, lowered_offers}
use Rattle.judging_laws.proofs.ClassFacts.{length_filter}

-- whether a numbered offer is kept
abbrev pub stays_on : ℕ × Offer → Bool
stays_on e = stay_odds e.1.odds

-- a numbered offer at its odds rounded down
abbrev pub lowered_one : ℕ × Offer → Offer
lowered_one e = at_odds e.1 (lowered_odds e.1.odds)

-- ---- what holds of all pairs before holds of all pairs after

all_pairs_map : {X Y : Type 0} (R : Y → Y → Type 0) (f : X → Y) (xs : List X) → AllPairs (λ a b. R (f a) (f b)) xs → AllPairs R (map f xs)
all_pairs_map R f [] pairs i j d less within = absurd (omega (arith, within))
all_pairs_map {X} R f (x ∷ xs) pairs i j d less within =
    let all : List X = x ∷ xs in
    let inside : j < length all = omega (arith, within, length-map all f) in
    subst₂ R (sym (get_or-map f all i x d (omega (arith, less, inside)))) (sym (get_or-map f all j x d inside)) (pairs i j x less inside)

below_numbered : (offers : List Offer) → AllPairs IsBelow offers → AllPairs (λ (a b : ℕ × Offer). IsBelow a.1 b.1) (enumerate_from 0 offers)
below_numbered offers rising i j d less within =
    let inside : j < length offers = omega (arith, within, length-enumerate_from 0 offers) in
    let at : (k : ℕ) → k < length offers → slice_index_or offers k d.1 ≡ (slice_index_or (enumerate_from 0 offers) k d).1 = λ k h. sym (ap (λ (e : ℕ × Offer). e.1) (get_or-enumerate_from 0 offers k d h)) in
    subst₂ IsBelow (at i (omega (arith, less, inside))) (at j inside) (rising i j d.1 less inside)

pub raised_sheet : (offers : List Offer) → IsSheet offers → IsSheet (raised_offers offers)
raised_sheet offers is =
    let raised : Offer → Offer = λ offer. at_odds offer (raised_odds offer.odds) in
    record {
      few = (let few = is.few in omega (arith, few, length-map offers raised));
      rising = all_pairs_map IsBelow raised offers is.rising;
    }

pub lowered_sheet : (offers : List Offer) → IsSheet offers → IsSheet (lowered_offers offers)
lowered_sheet offers is =
    let kept = kept_offers offers in
    record {
      few = (let few = is.few in omega (arith, few, length-map kept lowered_one, length_filter stays_on (enumerate_from 0 offers), length-enumerate_from 0 offers));
      rising = all_pairs_map IsBelow lowered_one kept (AllPairs-filter (λ (a b : ℕ × Offer). IsBelow a.1 b.1) stays_on (enumerate_from 0 offers) (below_numbered offers is.rising));
    }

-- ---- fronts of a sheet

if_some : {X : Type 0} (P : X → Type 0) (o : Option X) → ((x : X) → o ≡ Some x → P x) → IfSome o P
if_some P None f = tt
if_some P (Some x) f = f x refl

-- the next offer of a sheet fits the front before it
fits_next : (front rest : List Offer) (o : Offer) → IsSheet (front ++ o ∷ rest) → Fits front o
fits_next front rest o sheet = record {
  room = (let few = sheet.few in omega (arith, few, length-append front (o ∷ rest)));
  above = if_some (λ last. IsBelow last o) (slice_get front (length front - 1)) (λ last is.
      let within = slice_get_within front (length front - 1) last is in
      let here = sheet.rising (length front - 1) (length front) o (omega (arith, within)) (omega (arith, length-append front (o ∷ rest))) in
      let first : slice_index_or (front ++ o ∷ rest) (length front - 1) o ≡ last = get_or_append_left front (o ∷ rest) o (length front - 1) within ∙ get_or_from_slice_get front (length front - 1) last o is in
      let next : slice_index_or (front ++ o ∷ rest) (length front) o ≡ o = get_or_at front o rest o (length front) refl in
      subst (λ x. IsBelow last x) next (subst (λ x. IsBelow x (slice_index_or (front ++ o ∷ rest) (length front) o)) first here));
}

-- a list is a front of it, the next element and the rest
split_at : {X : Type 0} (xs : List X) (i : ℕ) (d : X) → i < length xs → xs ≡ take i xs ++ slice_index_or xs i d ∷ drop (i + 1) xs
split_at xs i d within =
    sym (take-append-drop (i + 1) xs) ∙ ap (λ ys. ys ++ drop (i + 1) xs) (take_more xs i d within) ∙ append_assoc (take i xs) (slice_index_or xs i d ∷ []) (drop (i + 1) xs)

-- the raised offer at a place fits those before it
pub raised_fits : (offers : List Offer) (i : ℕ) (o : Offer) (front : List Offer) → IsSheet offers → i < length offers → o ≡ slice_index_or offers i o → front ≡ take i (raised_offers offers) → Fits front (at_odds o (raised_odds o.odds))
raised_fits offers i o front is within here e =
    let raised : Offer → Offer = λ offer. at_odds offer (raised_odds offer.odds) in
    let all = raised_offers offers in
    let at : slice_index_or all i (raised o) ≡ raised o = get_or-map raised offers i o (raised o) within ∙ ap raised (sym here) in
    let sheet = subst IsSheet (split_at all i (raised o) (omega (arith, within, length-map offers raised))) (raised_sheet offers is) in
    subst (λ (xs : List Offer). Fits xs (raised o)) (sym e)
    (fits_next (take i all) (drop (i + 1) all) (raised o) (subst (λ x. IsSheet (take i all ++ x ∷ drop (i + 1) all)) at sheet))

-- one more raised offer
pub raised_more : (offers : List Offer) (i : ℕ) (o : Offer) → i < length offers → o ≡ slice_index_or offers i o → take (i + 1) (raised_offers offers) ≡ take i (raised_offers offers) ++ at_odds o (raised_odds o.odds) ∷ []
raised_more offers i o within here =
    let raised : Offer → Offer = λ offer. at_odds offer (raised_odds offer.odds) in
    take_more (raised_offers offers) i (raised o) (omega (arith, within, length-map offers raised))
    ∙ ap (λ x. take i (raised_offers offers) ++ x ∷ []) (get_or-map raised offers i o (raised o) within ∙ ap raised (sym here))

-- ---- offers that are kept

-- a kept element of a list stands between those kept before and after it
kept_split : {X : Type 0} (p : X → Bool) (xs : List X) (i : ℕ) (d : X) → i < length xs → p (slice_index_or xs i d) ≡ true → filter p xs ≡ filter p (take i xs) ++ slice_index_or xs i d ∷ filter p (drop (suc i) xs)
kept_split p [] i d within is = absurd (omega (arith, within))
kept_split p (x ∷ xs) zero d within is = ap (λ b. cond b (x ∷ filter p xs) (filter p xs)) is
kept_split {X} p (x ∷ xs) (suc i) d within is =
    let rest = kept_split p xs i d (omega (arith, within)) is in
    let tail = slice_index_or xs i d ∷ filter p (drop (suc i) xs) in
    let P : Bool → Type 0 = λ b. cond b (x ∷ filter p xs) (filter p xs) ≡ cond b (x ∷ filter p (take i xs)) (filter p (take i xs)) ++ tail in
    elim (p x) as P [ true ↦ ap (λ ys. x ∷ ys) rest | false ↦ rest ]

-- the numbered offer at a place
pub numbered : (offers : List Offer) (i : ℕ) (o : Offer) → i < length offers → o ≡ slice_index_or offers i o → slice_index_or (enumerate_from 0 offers) i (0, o) ≡ (i, o)
numbered offers i o within here =
    get_or-enumerate_from 0 offers i (0, o) within ∙ ap (λ (n : ℕ). (n, slice_index_or offers i o)) (let e : 0 + i ≡ i = omega arith in e) ∙ ap (λ (x : Offer). (i, x)) (sym here)

-- the lowered offer at a place fits those that are kept before it
pub lowered_fits : (offers : List Offer) (i : ℕ) (o : Offer) (front : List Offer) → IsSheet offers → i < length offers → o ≡ slice_index_or offers i o → stay_odds o.odds ≡ true → front ≡ map lowered_one (filter stays_on (take i (enumerate_from 0 offers))) → Fits front (at_odds o (lowered_odds o.odds))
lowered_fits offers i o front is within here stays e =
    let all = enumerate_from 0 offers in
    let kept = filter stays_on (take i all) in
    let at = numbered offers i o within here in
    let split = kept_split stays_on all i (0, o) (omega (arith, within, length-enumerate_from 0 offers)) (ap stays_on at ∙ stays) ∙ ap (λ x. kept ++ x ∷ filter stays_on (drop (suc i) all)) at in
    let sheet = subst IsSheet (ap (map lowered_one) split ∙ map-append lowered_one kept ((i, o) ∷ filter stays_on (drop (suc i) all))) (lowered_sheet offers is) in
    subst (λ (xs : List Offer). Fits xs (lowered_one (i, o))) (sym e) (fits_next (map lowered_one kept) (map lowered_one (filter stays_on (drop (suc i) all))) (lowered_one (i, o)) sheet)

-- one more offer, which is kept or not
pub kept_more : {X : Type 0} (f : ℕ × Offer → X) (offers : List Offer) (i : ℕ) (o : Offer) (b : Bool) → i < length offers → o ≡ slice_index_or offers i o → stay_odds o.odds ≡ b → map f (filter stays_on (take (i + 1) (enumerate_from 0 offers))) ≡ map f (filter stays_on (take i (enumerate_from 0 offers))) ++ cond b (f (i, o) ∷ []) []
kept_more {X} f offers i o b within here stays =
    let all = enumerate_from 0 offers in
    let kept = filter stays_on (take i all) in
    let at = numbered offers i o within here in
    let P : Bool → Type 0 = λ t. map f (cond t ((i, o) ∷ []) []) ≡ cond t (f (i, o) ∷ []) [] in
    ap (map f) (filter_more stays_on all i (0, o) (omega (arith, within, length-enumerate_from 0 offers)) ∙ ap (λ x. kept ++ cond (stays_on x) (x ∷ []) []) at ∙ ap (λ t. kept ++ cond t ((i, o) ∷ []) []) stays)
    ∙ map-append f kept (cond b ((i, o) ∷ []) [])
    ∙ ap (λ xs. map f kept ++ xs) (elim b as P [ true ↦ refl | false ↦ refl ])
