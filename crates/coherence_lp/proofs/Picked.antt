-- The offers that are picked by the numbers of those that lead.
use Rattle.std.proofs.Common.{◌≡◌, ℕ, suc, ◌+◌, ◌<◌, ◌≤◌, Some, List, [], ◌∷◌, length, map, refl, sym, ap, ap₂, ◌∙◌, subst, subst₂, arith}
use Rattle.std.specs.Prelude.{slice_index_or, slice_get}
use Rattle.std.specs.List.{All, AllZip, enumerate_from}
use Rattle.std.proofs.lemmas.List.{length-map}
use Rattle.std.proofs.lemmas.List.FromFn.{length-enumerate_from, get_or-enumerate_from}
use Rattle.std.proofs.lemmas.Option.{slice_get-get_or, slice_get_within}
use Rattle.std.proofs.lemmas.List.Elements.{All-cons, All-nil}
use Rattle.scan_types.specs.declared.offer.Offer.{Offer}
use Rattle.scan_types.specs.declared.outcome.Outcome.{Outcome}
use Rattle.judging_definitions.specs.Columns.{is_undominated, leading_offers}
use Rattle.judging_laws.proofs.ClassFacts.{Each, each_filter, length_filter}

-- the offer stands at its number
abbrev pub StandsAt : List Offer → ℕ × Offer → Type 0
StandsAt offers e = slice_get offers e.0 ≡ Some e.1

each_from : {X : Type 0} (P : X → Type 0) (xs : List X) → ((k : ℕ) (d : X) → k < length xs → P (slice_index_or xs k d)) → Each P xs
each_from P [] at = tt
each_from P (x ∷ xs) at = (at 0 x (omega arith), each_from P xs (λ k d h. at (suc k) d (omega (arith, h))))

all_stand : (offers : List Offer) → Each (StandsAt offers) (enumerate_from 0 offers)
all_stand offers =
    each_from (StandsAt offers) (enumerate_from 0 offers) (λ k d h.
    let within : k < length offers = omega (arith, h, length-enumerate_from 0 offers) in
    subst (StandsAt offers) (sym (get_or-enumerate_from 0 offers k d within ∙ ap (λ n. (n, slice_index_or offers k d.1)) (let e : 0 + k ≡ k = omega arith in e))) (slice_get-get_or offers k d.1 within))

leading_stand : (offers : List Offer) (classes : List Outcome) → Each (StandsAt offers) (leading_offers offers classes)
leading_stand offers classes = each_filter (StandsAt offers) (is_undominated classes (enumerate_from 0 offers)) (enumerate_from 0 offers) (all_stand offers)

numbers_within : (offers : List Offer) (es : List (ℕ × Offer)) → Each (StandsAt offers) es → All (λ number. number < length offers) (map (λ (e : ℕ × Offer). e.0) es)
numbers_within offers [] each = All-nil (λ number. number < length offers)
numbers_within offers (e ∷ es) each = All-cons (λ number. number < length offers) e.0 (map (λ (e : ℕ × Offer). e.0) es) (slice_get_within offers e.0 e.1 each.0) (numbers_within offers es each.1)

same_offer : {X : Type 0} (x y : X) → Some x ≡ Some y → x ≡ y
same_offer x y e = cc

picked_are : (offers : List Offer) (es : List (ℕ × Offer)) (picked : List Offer) → Each (StandsAt offers) es → AllZip (λ number offer. slice_get offers number ≡ Some offer) (map (λ (e : ℕ × Offer). e.0) es) picked → picked ≡ map (λ (e : ℕ × Offer). e.1) es
picked_are offers [] [] each zip = refl
picked_are offers [] (o ∷ picked) each zip = absurd zip
picked_are offers (e ∷ es) [] each zip = absurd zip
picked_are offers (e ∷ es) (o ∷ picked) each zip = ap₂ (λ y ys. y ∷ ys) (same_offer o e.1 (sym zip.0 ∙ each.0)) (picked_are offers es picked each.1 zip.1)

-- the numbers of the leading offers are numbers of offers
pub leading_within : (offers : List Offer) (classes : List Outcome) → All (λ number. number < length offers) (map (λ (e : ℕ × Offer). e.0) (leading_offers offers classes))
leading_within offers classes = numbers_within offers (leading_offers offers classes) (leading_stand offers classes)

-- the leading offers
abbrev pub leaders : List Offer → List Outcome → List Offer
leaders offers classes = map (λ (e : ℕ × Offer). e.1) (leading_offers offers classes)

-- the offers that stand at the numbers of the leading offers are these
pub leaders_picked : (sheet : List Offer) (classes : List Outcome) (offers : List Offer) (numbers : List ℕ) (picked : List Offer) → offers ≡ sheet → numbers ≡ map (λ (e : ℕ × Offer). e.0) (leading_offers sheet classes) → AllZip (λ number offer. slice_get offers number ≡ Some offer) numbers picked → picked ≡ leaders sheet classes
leaders_picked sheet classes offers numbers picked e f zip =
    picked_are sheet (leading_offers sheet classes) picked (leading_stand sheet classes) (subst₂ (λ (os : List Offer) (ns : List ℕ). AllZip (λ number offer. slice_get os number ≡ Some offer) ns picked) e f zip)

-- there are at most as many as offers on a sheet
pub leaders_few : (sheet : List Offer) (classes : List Outcome) (offers : List Offer) (numbers : List ℕ) (picked : List Offer) → offers ≡ sheet → numbers ≡ map (λ (e : ℕ × Offer). e.0) (leading_offers sheet classes) → AllZip (λ number offer. slice_get offers number ≡ Some offer) numbers picked → length sheet ≤ 256 → length picked ≤ 256
leaders_few sheet classes offers numbers picked e f zip few =
    let same = ap length (leaders_picked sheet classes offers numbers picked e f zip) in
    let count = length-map (leading_offers sheet classes) (λ (e : ℕ × Offer). e.1) in
    omega (arith, same, few, count, length_filter (is_undominated classes (enumerate_from 0 sheet)) (enumerate_from 0 sheet), length-enumerate_from 0 sheet)
