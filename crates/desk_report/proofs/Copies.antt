-- Fronts of a sheet, and a sheet that is copied part by part.
use Rattle.std.proofs.Common.{ℕ, ◌≡◌, ◌+◌, ◌-◌, ◌<◌, ◌≤◌, List, ◌++◌, length, get_or, take, drop, sym, ap, subst, ◌∙◌, arith, zero, suc, Some}
use Rattle.std.specs.Prelude.{Option, IfSome, slice_get}
use Rattle.std.proofs.lemmas.List.{take-append-drop, drop-take, length-take, get_or-take, length-take-le, take-append-le, take_all, length-append, length-drop}
use Rattle.std.proofs.lemmas.Option.{slice_get-get_or}
use Rattle.std.proofs.lemmas.List.{get_or-append-add}
use Rattle.std.proofs.Math.Seq.{take-append-add}
use Rattle.scan_types.specs.declared.limits.TheConstants.{MOST_OFFERS, MOST_STANDING}
use Rattle.scan_types.specs.declared.rule.VoidRule.{VoidRule}
use Rattle.finding_definitions.specs.declared.finding.Finding.{Finding}
use Rattle.board_definitions.specs.declared.event.Entry.{Entry}
use Rattle.board_definitions.specs.Sheets.{sheet}
use Rattle.board_definitions.specs.Legal.{IsLegal}
use Rattle.board_definitions.proofs.Counts.{few_stand}
use Rattle.board_definitions.proofs.Rising.{sheet_is_sheet}
use Rattle.scan_types.specs.declared.offer.Offer.{Offer}
use Rattle.scan_types.specs.Offers.{IsBelow}
use Rattle.scan_types.specs.Sheets.{IsSheet, Fits}
use Rattle.quote_board.specs.Answers.{IsCopied}

take_front : {X : Type 0} (n c : ℕ) (xs : List X) → n ≤ length xs → take n (take (n + c) xs) ≡ take n xs
take_front n c xs h =
    sym (take-append-le n (take (n + c) xs) (drop (n + c) xs) (omega (arith, h, length-take (n + c) xs))) ∙ ap (take n) (take-append-drop (n + c) xs)

-- a part behind a front is a longer front
pub front_more : (all : List Offer) (n c : ℕ) → n ≤ length all → take n all ++ take c (drop n all) ≡ take (n + c) all
front_more all n c h =
    ap (λ (ys : List Offer). ys ++ take c (drop n all)) (sym (take_front n c all h))
    ∙ (ap (λ (ys : List Offer). take n (take (n + c) all) ++ ys) (sym (drop-take n c all)) ∙ take-append-drop n (take (n + c) all))

pub sheet_front : (all : List Offer) → IsSheet all → (n : ℕ) → IsSheet (take n all)
sheet_front all is n = record {
  few = omega (arith, is.few, length-take n all);
  rising = λ i j d below within.
      let inner : j < n = omega (arith, within, length-take n all) in
      let outer : j < length all = omega (arith, within, length-take n all) in
      let P : Offer → Type 0 = λ a. IsBelow a (get_or (take n all) j d) in
      subst P (sym (get_or-take n all i d (omega (arith, below, inner)))) (subst (IsBelow (get_or all i d)) (sym (get_or-take n all j d inner)) (is.rising i j d below outer));
}

-- the next offer of a sheet fits behind those before it
pub fits_front : (all : List Offer) → IsSheet all → (n : ℕ) (x : Offer) → n < length all → x ≡ get_or all n x → Fits (take n all) x
fits_front all is n x within at = record {
  room = omega (arith, is.few, within, length-take n all);
  above = above n within at;
}
  where
    above : (k : ℕ) → k < length all → x ≡ get_or all k x → IfSome (slice_get (take k all) (length (take k all) - 1)) (λ last. IsBelow last x)
    above zero h e = tt
    above (suc k) h e =
        let short : length (take (suc k) all) ≡ suc k = length-take-le (suc k) all (omega (arith, h)) in
        let place : length (take (suc k) all) - 1 ≡ k = omega (arith, short) in
        let there : slice_get (take (suc k) all) k ≡ Some (get_or all k x) =
        slice_get-get_or (take (suc k) all) k x (omega (arith, short)) ∙ ap (λ (o : Offer). Some o) (get_or-take (suc k) all k x (omega arith)) in
        let path : slice_get (take (suc k) all) (length (take (suc k) all) - 1) ≡ Some (get_or all k x) = ap (slice_get (take (suc k) all)) place ∙ there in
        let below : IsBelow (get_or all k x) (get_or all (suc k) x) = is.rising k (suc k) x (omega arith) h in
        subst (λ (o : Option Offer). IfSome o (λ last. IsBelow last x)) (sym path) (subst (IsBelow (get_or all k x)) (sym e) below)

-- the next of some offers fits behind those before it, if all of them are a sheet
pub push_fits : (old offers copy : List Offer) → IsSheet (old ++ offers) → (i : ℕ) (x : Offer) → i < length offers → x ≡ get_or offers i x → copy ≡ old ++ take i offers → Fits copy x
push_fits old offers copy is i x within at front =
    let n : ℕ = length old + i in
    let there : x ≡ get_or (old ++ offers) n x = at ∙ sym (get_or-append-add old offers i x) in
    let same : take n (old ++ offers) ≡ copy = take-append-add old offers i ∙ sym front in
    subst (λ (xs : List Offer). Fits xs x) same (fits_front (old ++ offers) is n x (omega (arith, within, length-append old offers)) there)

pub whole_is_sheet : (rules : List (Option VoidRule)) (allows : List Offer → Finding → Type 0) (history : List Entry) (m : List ℕ) → IsLegal rules allows history → IsSheet (sheet rules history (length history) m)
whole_is_sheet rules allows history m legal = sheet_is_sheet rules (take (length history) history) m (λ f. few_stand rules allows history m f legal (length history))

-- what is copied by one read
part_is : (whole old new : List Offer) (from count : ℕ) → IsCopied whole from old new count → take count new ≡ take count (drop from whole)
part_is whole old new from count copied =
    let part : List Offer = take count (drop from whole) in
    let long : length part ≡ count = length-take-le count (drop from whole) (omega (arith, copied.count_is, length-drop from whole)) in
    ap (take count) copied.copied ∙ (take-append-le count part (drop count old) (omega (arith, long)) ∙ take_all count part (omega (arith, long)))

-- a front and what is copied behind it are a longer front
pub longer_front : (whole copy old new : List Offer) (from count : ℕ) → copy ≡ take (length copy) whole → length copy ≤ length whole → from ≡ length copy → IsCopied whole from old new count
    → copy ++ take count new ≡ take (length copy + count) whole
longer_front whole copy old new from count front within at copied =
    ap (λ (ys : List Offer). ys ++ take count new) front
    ∙ (ap (λ (ys : List Offer). take (length copy) whole ++ ys) (part_is whole old new from count copied ∙ ap (λ (k : ℕ). take count (drop k whole)) at)
    ∙ front_more whole (length copy) count within)

pub part_is_sheet : (whole copy old new : List Offer) (from count : ℕ) → IsSheet whole → copy ≡ take (length copy) whole → length copy ≤ length whole → from ≡ length copy → IsCopied whole from old new count
    → IsSheet (copy ++ take count new)
part_is_sheet whole copy old new from count is front within at copied =
    subst IsSheet (sym (longer_front whole copy old new from count front within at copied)) (sheet_front whole is (length copy + count))

-- a front of the sheet was copied, and there are places for the next part
pub record IsFront (whole copy part : List Offer) : Type 0 where
  pub front : copy ≡ take (length copy) whole
  pub within : length copy ≤ length whole
  pub places : length part ≡ MOST_STANDING

pub front_after : (whole copy old new after : List Offer) (from count : ℕ) → IsFront whole copy old → from ≡ length copy → IsCopied whole from old new count → after ≡ copy ++ take count new
    → IsFront whole after new
front_after whole copy old new after from count is at copied pushed =
    let longer : after ≡ take (length copy + count) whole = pushed ∙ longer_front whole copy old new from count is.front is.within at copied in
    let fits : length copy + count ≤ length whole = omega (arith, copied.count_is, at, is.within) in
    let long : length after ≡ length copy + count = ap length longer ∙ length-take-le (length copy + count) whole fits in
    let some : count ≤ length (drop from whole) = omega (arith, copied.count_is, length-drop from whole) in
    record {
      front = longer ∙ ap (λ (k : ℕ). take k whole) (sym long);
      within = omega (arith, long, fits);
      places = ap length copied.copied ∙ omega (arith, length-append (take count (drop from whole)) (drop count old), length-take-le count (drop from whole) some, length-drop count old, copied.count_is, is.places);
    }

pub copied_whole : (whole copy part : List Offer) → IsSheet whole → IsFront whole copy part → MOST_OFFERS ≤ length copy → copy ≡ whole
copied_whole whole copy part is front full = front.front ∙ take_all (length copy) whole (omega (arith, is.few, full))
