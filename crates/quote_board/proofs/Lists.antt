-- A match's offers by their slots are its sheet.
use Rattle.std.proofs.Common.{ℕ, ◌≡◌, ◌≤◌, ◌<◌, inl, inr, ⊎_elim, List, [], ◌∷◌, length, refl, sym, ap, ◌∙◌, Some, None, arith, subst, zero, suc}
use Rattle.std.specs.Prelude.{◌⊎◌, Option, slice_get, option_and_then, IfSome}
use Rattle.std.specs.Option.{option_map_or}
use Rattle.std.specs.BTreeMap.{BTreeMap, values, is_at, IsOrdered}
use Rattle.std.specs.List.{AllByRecursion}
use Rattle.std.specs.List.Sorted.{IsStrictlySortedBy}
use Rattle.std.specs.Map.{keys_of, values_of}
use Rattle.std.specs.Cmp.{IsTotalOrder}
use Rattle.std.specs.declared.cmp.Ordering.TheVariants.{Less}
use Rattle.std.proofs.lemmas.Cmp.{then_total, on_total, nat_cmp_total}
use Rattle.std.proofs.lemmas.Map.Entries.{btree_map_get_place, place_from_lookup}
use Rattle.std.proofs.lemmas.Map.Keys.{sorted_head, sorted_tail}
use Rattle.std.proofs.lemmas.Bool.Decides.{nat_tests}
use Rattle.scan_types.specs.declared.limits.TheConstants.{MOST_FEEDS}
use Rattle.scan_types.specs.declared.offer.Offer.{Offer}
use Rattle.scan_types.specs.declared.rule.VoidRule.{VoidRule}
use Rattle.std.specs.Prelude.{ℤ, pos, negsuc, ◌≤ℤ◌, ◌+ℤ◌, unsigned_abs}
use Rattle.std.proofs.lemmas.Int.{ints}
use Rattle.scan_types.specs.declared.line.HandicapLine.{HandicapLine}
use Rattle.scan_types.specs.declared.selection.Selection.{Selection}
use Rattle.scan_types.specs.declared.selection.Selection.TheVariants.{Home, Draw, Away, HandicapHome, HandicapAway, Over, Under}
use Rattle.scan_types.specs.Selections.{selection_number}
use Rattle.scan_types.specs.Offers.{IsBelow}
use Rattle.board_definitions.specs.declared.event.Entry.{Entry}
use Rattle.board_definitions.specs.declared.key.TheConstants.{SELECTIONS}
use Rattle.board_definitions.specs.Sheets.{standing, standing_sheet, sheet}
use Rattle.board_definitions.proofs.Orders.{IsIn, AreBelow, same_lists}
use Rattle.board_definitions.proofs.Placed.{IsPlaced, standing_placed, some_injective}
use Rattle.board_definitions.proofs.Rising.{sheet_rises, in_sheet, sheet_has}
use Rattle.quote_board.specs.declared.book.Slot.{Slot}
use Rattle.quote_board.specs.declared.book.Book.{Book}
use Rattle.std.specs.Str.{bytes_eq}
use Rattle.std.proofs.lemmas.List.{take_all}
use Rattle.indexmap.specs.IndexMap.{IndexMap, get as entry_of}
use Rattle.quote_board.specs.declared.held.Held.{Held}
use Rattle.quote_board.specs.Kept.{Agrees}
use Rattle.quote_board.specs.Books.{slot_cmp, offer_in, offers_on}

pub slots_total : IsTotalOrder slot_cmp
slots_total = then_total (on_total (λ s. s.feed) nat_cmp_total) (on_total (λ s. s.number) nat_cmp_total)

absolute : (z : ℤ) → pos 0 ≤ℤ z → pos (unsigned_abs z) ≡ z
absolute (pos n) h = refl
absolute (negsuc n) h = absurd (omega (arith, ints))

handicap_below : (line : HandicapLine) → unsigned_abs (line.quarters +ℤ pos 20) ≤ 40
handicap_below line =
    let low : negsuc 19 ≤ℤ line.quarters = line.at_least in
    let high : line.quarters ≤ℤ pos 20 = line.at_most in
    let at : pos (unsigned_abs (line.quarters +ℤ pos 20)) ≡ line.quarters +ℤ pos 20 = absolute (line.quarters +ℤ pos 20) (omega (arith, ints)) in
    omega (arith, ints)

-- the number of a selection
number_below : (selection : Selection) → selection_number selection < SELECTIONS
number_below Home = omega arith
number_below Draw = omega arith
number_below Away = omega arith
number_below (HandicapHome line) = omega (arith, handicap_below line)
number_below (HandicapAway line) = omega (arith, handicap_below line)
number_below (Over line) = let high : line.quarters ≤ 30 = line.at_most in omega (arith, high)
number_below (Under line) = let high : line.quarters ≤ 30 = line.at_most in omega (arith, high)

-- each offer is in its own slot
abbrev AreInSlots : List (Slot × Offer) → Type 0
AreInSlots [] = Unit {0}
AreInSlots (e ∷ es) = IsPlaced e.0.feed e.0.number e.1 × AreInSlots es

less_below : (a b : Slot) (x y : Offer) → slot_cmp a b ≡ Less → IsPlaced a.feed a.number x → IsPlaced b.feed b.number y → IsBelow x y
less_below a b x y less p q =
    let lt : (a.feed < b.feed) ⊎ ((a.feed ≡ b.feed) × (a.number < b.number)) = grind (arith, nat_tests) in
    ⊎_elim
    (λ (f : a.feed < b.feed). inl (omega (arith, f, p.feed_is, q.feed_is)))
    (λ (n : (a.feed ≡ b.feed) × (a.number < b.number)). inr (p.feed_is ∙ n.0 ∙ sym q.feed_is, omega (arith, n.1, p.number_is, q.number_is)))
    lt

heads_below : (k : Slot) (x : Offer) (es : List (Slot × Offer)) → IsPlaced k.feed k.number x → AllByRecursion (λ y. slot_cmp k y ≡ Less) (keys_of es) → AreInSlots es →
    (z : Offer) → IsIn z (values_of es) → IsBelow x z
heads_below k x [] p less places z h = absurd h
heads_below k x (e ∷ es) p less places z (inl same) = let P : Offer → Type 0 = λ o. IsBelow x o in subst P (sym same) (less_below k e.0 x e.1 less.0 p places.0)
heads_below k x (e ∷ es) p less places z (inr later) = heads_below k x es p less.1 places.1 z later

offers_rise : (es : List (Slot × Offer)) → IsStrictlySortedBy slot_cmp (keys_of es) → AreInSlots es → AreBelow IsBelow (values_of es)
offers_rise [] sorted places = tt
offers_rise (e ∷ es) sorted places =
    (heads_below e.0 e.1 es places.0 (sorted_head slot_cmp e.0 (keys_of es) sorted) places.1, offers_rise es (sorted_tail slot_cmp e.0 (keys_of es) sorted) places.1)

-- an offer of the list has an entry
entry_of_offer : (es : List (Slot × Offer)) (z : Offer) → IsIn z (values_of es) → (i : ℕ) × (k : Slot) × (slice_get es i ≡ Some (k, z))
entry_of_offer [] z h = absurd h
entry_of_offer (e ∷ es) z (inl same) = (0, e.0, ap (λ (o : Offer). Some (e.0, o)) (sym same))
entry_of_offer (e ∷ es) z (inr later) = let r = entry_of_offer es z later in (suc r.0, r.1, r.2)

offer_of_entry : (es : List (Slot × Offer)) (i : ℕ) (k : Slot) (z : Offer) → slice_get es i ≡ Some (k, z) → IsIn z (values_of es)
offer_of_entry [] i k z h = absurd (cc h)
offer_of_entry (e ∷ es) zero k z h = inl (ap (λ (p : Slot × Offer). p.1) (sym (some_injective e (k, z) h)))
offer_of_entry (e ∷ es) (suc i) k z h = inr (offer_of_entry es i k z h)

places_from : (es : List (Slot × Offer)) → ((i : ℕ) (k : Slot) (z : Offer) → slice_get es i ≡ Some (k, z) → IsPlaced k.feed k.number z) → AreInSlots es
places_from [] h = tt
places_from (e ∷ es) h = (h 0 e.0 e.1 refl, places_from es (λ i. h (suc i)))

below_once : (a b : Offer) → IsBelow a b → IsBelow b a → ⊥
below_once a b (inl p) (inl q) = omega (arith, p, q)
below_once a b (inl p) (inr q) = omega (arith, p, q.0)
below_once a b (inr p) (inl q) = omega (arith, p.0, q)
below_once a b (inr p) (inr q) = omega (arith, p.1, q.1)

-- the offers of a book, by their slots, are the sheet
book_sheet : (rules : List (Option VoidRule)) (h : List Entry) (m : List ℕ) (book : Book) → IsOrdered slot_cmp book.offers →
    ((f n : ℕ) → offer_in book f n ≡ standing rules h m f n) → values book.offers ≡ standing_sheet rules h m
book_sheet rules h m book ordered same =
    let at : (i : ℕ) (k : Slot) (z : Offer) → slice_get book.offers.entries i ≡ Some (k, z) → standing rules h m k.feed k.number ≡ Some z =
    λ i k z found. sym (same k.feed k.number) ∙ btree_map_get_place slots_total book.offers i k z ordered found in
    let places : AreInSlots book.offers.entries = places_from book.offers.entries (λ i k z found. (standing_placed rules h m k.feed k.number z (at i k z found)).0) in
    same_lists IsBelow below_once (values book.offers) (standing_sheet rules h m) (offers_rise book.offers.entries ordered places) (sheet_rises rules h m)
    (λ z here. let e = entry_of_offer book.offers.entries z here in
    let stands = at e.0 e.1 z e.2 in
    let placed = (standing_placed rules h m e.1.feed e.1.number z stands).0 in
    let fits : z.feed < MOST_FEEDS = z.feed_at_most in
    sheet_has rules h m z e.1.feed e.1.number (omega (arith, fits, placed.feed_is)) (omega (arith, number_below z.selection, placed.number_is)) stands)
    (λ z there. let it = in_sheet rules h m z there in
    let found : offer_in book it.0 it.1 ≡ Some z = same it.0 it.1 ∙ it.4 in
    let e = place_from_lookup (is_at (slot_cmp (record { feed = it.0; number = it.1 }))) book.offers.entries z found in
    offer_of_entry book.offers.entries e.0 e.1 z e.2)

blank_sheet : (rules : List (Option VoidRule)) (h : List Entry) (m : List ℕ) → ((f n : ℕ) → None ≡ standing rules h m f n) → [] ≡ standing_sheet rules h m
blank_sheet rules h m none =
    same_lists IsBelow below_once [] (standing_sheet rules h m) tt (sheet_rises rules h m)
    (λ z here. absurd here)
    (λ z there. let it = in_sheet rules h m z there in let gone : None ≡ Some z = none it.0 it.1 ∙ it.4 in absurd (cc gone))

-- the offers kept of a match are its sheet
pub offers_are_sheet : (rules : List (Option VoidRule)) (h : List Entry) (m : List ℕ) (there : Option Book) →
    IfSome there (λ book. IsOrdered slot_cmp book.offers) → ((f n : ℕ) → option_and_then (λ book. offer_in book f n) there ≡ standing rules h m f n) →
    option_map_or (λ book. values book.offers) there [] ≡ standing_sheet rules h m
offers_are_sheet rules h m None ordered same = blank_sheet rules h m same
offers_are_sheet rules h m (Some book) ordered same = book_sheet rules h m book ordered same

-- the offers kept of a match are its sheet at the present number of entries
pub newest_sheet : {S : Type 0} (rules : List (Option VoidRule)) (h : List Entry) (books : IndexMap (List ℕ) Book S) (waiting : BTreeMap ℕ (List ℕ)) (pins : BTreeMap ℕ Held) (m : List ℕ) →
    Agrees rules h books waiting pins → IfSome (entry_of bytes_eq books m) (λ book. IsOrdered slot_cmp book.offers) → offers_on books m ≡ sheet rules h (length h) m
newest_sheet rules h books waiting pins m agrees ordered =
    offers_are_sheet rules h m (entry_of bytes_eq books m) ordered (agrees.offers m) ∙ ap (λ (xs : List Entry). standing_sheet rules xs m) (sym (take_all (length h) h (omega arith)))
