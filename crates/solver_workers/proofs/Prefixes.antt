-- Fronts of a sheet.
use Rattle.std.proofs.Common.{◌≡◌, ℕ, ◌+◌, ◌-◌, ◌<◌, ◌≤◌, List, [], ◌∷◌, ◌++◌, length, take, drop, get_or, Some, None, refl, sym, ap, ◌∙◌, subst, arith, append_assoc, length-append, length-drop, take-add}
use Rattle.std.specs.Prelude.{Option, slice_get, IfSome}
use Rattle.std.proofs.lemmas.List.{take_more, take-append-drop, length-take, get_or_append_left, get_or_at, take_at, take_all}
use Rattle.std.proofs.lemmas.Option.{slice_get_within, get_or_from_slice_get}
use Rattle.scan_types.specs.declared.offer.Offer.{Offer}
use Rattle.scan_types.specs.Sheets.{IsSheet, Fits}
use Rattle.scan_types.specs.Offers.{IsBelow}
use Rattle.quote_board.specs.Answers.{IsCopied}

if_some : {X : Type 0} (P : X → Type 0) (o : Option X) → ((x : X) → o ≡ Some x → P x) → IfSome o P
if_some P None f = tt
if_some P (Some x) f = f x refl

-- the next offer of a sheet fits the front before it
fits_next : (front rest : List Offer) (o : Offer) → IsSheet (front ++ o ∷ rest) → Fits front o
fits_next front rest o sheet = record {
  room = (let few = sheet.few in omega (arith, few, length-append front (o ∷ rest)));
  above = if_some (λ last. IsBelow last o) (slice_get front (length front - 1)) (λ last is.
      let within = slice_get_within front (length front - 1) last is in
      let here = sheet.rising (length front - 1) (length front) o (omega (arith, within)) (omega (arith, length-append front (o ∷ rest))) in
      let first : get_or (front ++ o ∷ rest) (length front - 1) o ≡ last = get_or_append_left front (o ∷ rest) o (length front - 1) within ∙ get_or_from_slice_get front (length front - 1) last o is in
      let next : get_or (front ++ o ∷ rest) (length front) o ≡ o = get_or_at front o rest o (length front) refl in
      subst (λ x. IsBelow last x) next (subst (λ x. IsBelow x (get_or (front ++ o ∷ rest) (length front) o)) first here));
}

-- the offer at a place behind those of a sheet fits what was pushed before it
pub fits_at : (old more : List Offer) (k : ℕ) (o : Offer) → k < length more → o ≡ get_or more k o → IsSheet (old ++ more) → Fits (old ++ take k more) o
fits_at old more k o within is sheet =
    let split : old ++ more ≡ (old ++ take k more) ++ o ∷ drop (k + 1) more =
    ap (λ xs. old ++ xs) (sym (take-append-drop (k + 1) more) ∙ ap (λ xs. xs ++ drop (k + 1) more) (take_more more k o within ∙ ap (λ x. take k more ++ x ∷ []) (sym is)) ∙ append_assoc (take k more) (o ∷ []) (drop (k + 1) more))
    ∙ sym (append_assoc old (take k more) (o ∷ drop (k + 1) more)) in
    fits_next (old ++ take k more) (drop (k + 1) more) o (subst IsSheet split sheet)

-- a front of a sheet is a sheet
pub front_is_sheet : (offers : List Offer) (n : ℕ) → IsSheet offers → IsSheet (take n offers)
front_is_sheet offers n sheet =
    let split = take-append-drop n offers in
    let long : length (take n offers) + length (drop n offers) ≡ length offers = sym (length-append (take n offers) (drop n offers)) ∙ ap length split in
    record {
      few = (let few = sheet.few in omega (arith, few, long));
      rising = λ i j d h g.
          let below = sheet.rising i j d h (omega (arith, g, long)) in
          let at : (k : ℕ) → k < length (take n offers) → get_or offers k d ≡ get_or (take n offers) k d = λ k w. ap (λ xs. get_or xs k d) (sym split) ∙ get_or_append_left (take n offers) (drop n offers) d k w in
          subst (λ x. IsBelow (get_or (take n offers) i d) x) (at j g) (subst (λ x. IsBelow x (get_or offers j d)) (at i (omega (arith, h, g))) below);
    }

-- what is copied stands behind the front before it
pub copied_behind : (offers old new : List Offer) (from count : ℕ) → from ≤ length offers → IsCopied offers from old new count → take from offers ++ take count new ≡ take (from + count) offers
copied_behind offers old new from count within copied =
    let few : count ≤ length (drop from offers) = (let c = copied.count_is in omega (arith, c, length-drop from offers)) in
    let long : length (take count (drop from offers)) ≡ count = (let l = length-take count (drop from offers) in omega (arith, l, few)) in
    let front : take count new ≡ take count (drop from offers) = ap (take count) copied.copied ∙ take_at (take count (drop from offers)) (drop count old) count long in
    ap (λ xs. take from offers ++ xs) front ∙ sym (take-add from count offers)

-- one part of a sheet was pushed behind the front before it
pub part_read : (all offers after old new : List Offer) (count : ℕ) → offers ≡ take (length offers) all → length offers ≤ length all → IsCopied all (length offers) old new count → after ≡ offers ++ take count new →
    (after ≡ take (length offers + count) all) × (length offers + count ≤ length all) × (length after ≡ length offers + count)
part_read all offers after old new count front within copied pushed =
    let is : after ≡ take (length offers + count) all = pushed ∙ ap (λ (xs : List Offer). xs ++ take count new) front ∙ copied_behind all old new (length offers) count within copied in
    let few : length offers + count ≤ length all = (let n = copied.count_is in omega (arith, n, within)) in
    let long : length after ≡ length offers + count = (let e = ap length is in omega (arith, e, length-take (length offers + count) all, few)) in
    (is, few, long)

-- the last part is shorter than there are places
pub last_part : (all offers after old new : List Offer) (count : ℕ) → offers ≡ take (length offers) all → length offers ≤ length all → IsCopied all (length offers) old new count → after ≡ offers ++ take count new →
    count < length old → after ≡ all
last_part all offers after old new count front within copied pushed short =
    let one = part_read all offers after old new count front within copied pushed in
    let whole : length all ≤ length offers + count = (let n = copied.count_is in omega (arith, n, short, within)) in
    one.0 ∙ take_all (length offers + count) all whole
