-- What is kept of a match, by slots, is what the match offers.
use Rattle.std.proofs.Common.{ℕ, ◌≡◌, ◌≤◌, ◌<◌, inl, inr, ⊎_elim, Bool, true, false, cond, leb, List, [], ◌∷◌, refl, sym, ap, ◌∙◌, Some, None, arith, subst, zero, suc}
use Rattle.std.specs.Prelude.{◌⊎◌, Option, slice_get, option_and_then, IfSome, ℤ, pos, negsuc, ◌≤ℤ◌, ◌+ℤ◌, unsigned_abs}
use Rattle.std.specs.BTreeMap.{BTreeMap, values, get, is_at, IsOrdered}
use Rattle.std.specs.Cmp.{IsTotalOrder}
use Rattle.std.specs.List.{AllByRecursion, filter_map, range_with_len}
use Rattle.std.specs.List.Sorted.{IsStrictlySortedBy}
use Rattle.std.specs.Map.{keys_of, values_of}
use Rattle.std.specs.Option.{option_map_or, option_or}
use Rattle.std.specs.Str.{bytes_eq}
use Rattle.std.specs.declared.cmp.Ordering.TheVariants.{Less}
use Rattle.std.proofs.lemmas.Bool.Decides.{nat_tests}
use Rattle.std.proofs.lemmas.Cmp.{then_total, on_total, nat_cmp_total}
use Rattle.std.proofs.lemmas.Int.{ints}
use Rattle.std.proofs.lemmas.Map.Entries.{btree_map_get_place, place_from_lookup}
use Rattle.std.proofs.lemmas.Map.Keys.{sorted_head, sorted_tail}
use Rattle.scan_types.specs.declared.limits.TheConstants.{MOST_FEEDS}
use Rattle.scan_types.specs.declared.line.HandicapLine.{HandicapLine}
use Rattle.scan_types.specs.declared.offer.Offer.{Offer}
use Rattle.scan_types.specs.declared.selection.Selection.{Selection}
use Rattle.scan_types.specs.declared.selection.Selection.TheVariants.{Home, Draw, Away, HandicapHome, HandicapAway, Over, Under}
use Rattle.scan_types.specs.Offers.{IsBelow}
use Rattle.scan_types.specs.Selections.{selection_number}
use Rattle.indexmap.specs.IndexMap.{IndexMap, get as entry_of}
use Rattle.board_definitions.specs.declared.key.TheConstants.{SELECTIONS}
use Rattle.board_definitions.proofs.Orders.{IsIn, AreBelow, same_lists}
use Rattle.board_definitions.proofs.Placed.{IsPlaced, some_injective}
use Rattle.board_definitions.proofs.Rising.{in_cons_option, cons_option_has, below_cons_option, in_part, part_has, part_rises, in_all, all_has, all_rise}
use Rattle.snapshot_pins.specs.declared.value.CellValue.{CellValue}
use Rattle.snapshot_pins.specs.declared.cell.Cell.{Cell}
use Rattle.snapshot_pins.specs.declared.match_cells.Slot.{Slot}
use Rattle.snapshot_pins.specs.Values.{value_at, offer_at}
use Rattle.snapshot_pins.specs.Kept.{slot_cmp, cell_in, offers_in, cell_on, offers_on}
use Rattle.snapshot_pins.specs.Cells.{offers_by}
use Rattle.snapshot_pins.specs.Seen.{AreCells}
use Rattle.snapshot_pins.proofs.Changes.{values_of_cell, values_on}
use Rattle.snapshot_pins.proofs.Needed.{value_at-cons}

slots_total : IsTotalOrder slot_cmp
slots_total = then_total (on_total (λ s. s.feed) nat_cmp_total) (on_total (λ s. s.number) nat_cmp_total)

absolute : (z : ℤ) → pos 0 ≤ℤ z → pos (unsigned_abs z) ≡ z
absolute (pos n) h = refl
absolute (negsuc n) h = absurd (omega (arith, ints))

handicap_below : (line : HandicapLine) → unsigned_abs (line.quarters +ℤ pos 20) ≤ 40
handicap_below line =
    let low : negsuc 19 ≤ℤ line.quarters = line.at_least in
    let high : line.quarters ≤ℤ pos 20 = line.at_most in
    let at : pos (unsigned_abs (line.quarters +ℤ pos 20)) ≡ line.quarters +ℤ pos 20 = absolute (line.quarters +ℤ pos 20) (omega (arith, ints)) in
    omega (arith, ints)

-- the number of a selection
number_below : (selection : Selection) → selection_number selection < SELECTIONS
number_below Home = omega arith
number_below Draw = omega arith
number_below Away = omega arith
number_below (HandicapHome line) = omega (arith, handicap_below line)
number_below (HandicapAway line) = omega (arith, handicap_below line)
number_below (Over line) = let high : line.quarters ≤ 30 = line.at_most in omega (arith, high)
number_below (Under line) = let high : line.quarters ≤ 30 = line.at_most in omega (arith, high)

below_once : (a b : Offer) → IsBelow a b → IsBelow b a → ⊥
below_once a b (inl p) (inl q) = omega (arith, p, q)
below_once a b (inl p) (inr q) = omega (arith, p, q.0)
below_once a b (inr p) (inl q) = omega (arith, p.0, q)
below_once a b (inr p) (inr q) = omega (arith, p.1, q.1)

less_below : (a b : Slot) (x y : Offer) → slot_cmp a b ≡ Less → IsPlaced a.feed a.number x → IsPlaced b.feed b.number y → IsBelow x y
less_below a b x y less p q =
    let lt : (a.feed < b.feed) ⊎ ((a.feed ≡ b.feed) × (a.number < b.number)) = grind (arith, nat_tests) in
    ⊎_elim
    (λ (f : a.feed < b.feed). inl (omega (arith, f, p.feed_is, q.feed_is)))
    (λ (n : (a.feed ≡ b.feed) × (a.number < b.number)). inr (p.feed_is ∙ n.0 ∙ sym q.feed_is, omega (arith, n.1, p.number_is, q.number_is)))
    lt

-- an offer that is held at a version is in its place
at_or_before : (o : Option CellValue) (b : Bool) (x : CellValue) (z : Offer) → option_and_then (λ value. value.offer) (option_or o (cond b (Some x) None)) ≡ Some z →
    (option_and_then (λ value. value.offer) o ≡ Some z) ⊎ (x.offer ≡ Some z)
at_or_before (Some y) b x z is = inl is
at_or_before None true x z is = inr is
at_or_before None false x z is = absurd (cc is)

if_some : {X : Type 0} (P : X → Type 0) (o : Option X) (x : X) → o ≡ Some x → IfSome o P → P x
if_some P None x is h = absurd (cc is)
if_some P (Some y) x is h = subst P (some_injective y x is) h

held_placed : (feed number : ℕ) (values : List CellValue) (version : ℕ) → AllByRecursion (λ value. IfSome value.offer (IsPlaced feed number)) values →
    (z : Offer) → offer_at values version ≡ Some z → IsPlaced feed number z
held_placed feed number [] version all z is = absurd (cc is)
held_placed feed number (x ∷ values) version all z is =
    ⊎_elim
    (λ (before : offer_at values version ≡ Some z). held_placed feed number values version all.1 z before)
    (λ (here : x.offer ≡ Some z). if_some (IsPlaced feed number) x.offer z here all.0)
    (at_or_before (value_at values version) (leb x.version version) x z (ap (λ (o : Option CellValue). option_and_then (λ value. value.offer) o) (sym (value_at-cons x values version)) ∙ is))

-- what is held in each place is in it
abbrev ArePlaced : (ℕ → ℕ → Option Offer) → Type 0
ArePlaced held = (feed number : ℕ) (z : Offer) → held feed number ≡ Some z → IsPlaced feed number z

in_by : (held : ℕ → ℕ → Option Offer) (z : Offer) → IsIn z (offers_by held) → (f : ℕ) × (n : ℕ) × (held f n ≡ Some z)
unfolding offers_by
in_by held z h =
    let feed = in_all (λ f. filter_map (held f) (range_with_len 0 SELECTIONS)) 0 MOST_FEEDS z h in
    let number = in_part (held feed.0) 0 SELECTIONS z feed.3 in
    (feed.0, number.0, number.3)

by_has : (held : ℕ → ℕ → Option Offer) → ArePlaced held → (z : Offer) (f n : ℕ) → held f n ≡ Some z → IsIn z (offers_by held)
unfolding offers_by
by_has held placed z f n h =
    let at = placed f n z h in
    let fits : z.feed < MOST_FEEDS = z.feed_at_most in
    all_has (λ f. filter_map (held f) (range_with_len 0 SELECTIONS)) 0 MOST_FEEDS z f (omega arith) (omega (arith, fits, at.feed_is))
    (part_has (held f) 0 SELECTIONS z n (omega arith) (omega (arith, number_below z.selection, at.number_is)) h)

by_rises : (held : ℕ → ℕ → Option Offer) → ArePlaced held → AreBelow IsBelow (offers_by held)
unfolding offers_by
by_rises held placed =
    all_rise (λ f. filter_map (held f) (range_with_len 0 SELECTIONS))
    (λ f. part_rises (held f) f (placed f) 0 SELECTIONS)
    (λ f z i. let p = in_part (held f) 0 SELECTIONS z i in (placed f p.0 z p.3).feed_is)
    0 MOST_FEEDS

found : (g : Cell → Option Offer) (es : List (Slot × Cell)) (z : Offer) → IsIn z (filter_map g (values_of es)) →
    (i : ℕ) × (k : Slot) × (c : Cell) × (slice_get es i ≡ Some (k, c)) × (g c ≡ Some z)
found g [] z h = absurd h
found g (e ∷ es) z h =
    ⊎_elim
    (λ (here : g e.1 ≡ Some z). (0, e.0, e.1, refl, here))
    (λ (later : IsIn z (filter_map g (values_of es))). let p = found g es z later in (suc p.0, p.1, p.2, p.3, p.4))
    (in_cons_option (g e.1) (filter_map g (values_of es)) z h)

has : (g : Cell → Option Offer) (es : List (Slot × Cell)) (i : ℕ) (k : Slot) (c : Cell) (z : Offer) → slice_get es i ≡ Some (k, c) → g c ≡ Some z → IsIn z (filter_map g (values_of es))
has g [] i k c z h is = absurd (cc h)
has g (e ∷ es) zero k c z h is = cons_option_has (g e.1) (filter_map g (values_of es)) z (inl (ap (λ (p : Slot × Cell). g p.1) (some_injective e (k, c) h) ∙ is))
has g (e ∷ es) (suc i) k c z h is = cons_option_has (g e.1) (filter_map g (values_of es)) z (inr (has g es i k c z h is))

key_at : (P : Slot → Type 0) (es : List (Slot × Cell)) (i : ℕ) (k : Slot) (c : Cell) → AllByRecursion P (keys_of es) → slice_get es i ≡ Some (k, c) → P k
key_at P [] i k c all h = absurd (cc h)
key_at P (e ∷ es) zero k c all h = subst P (ap (λ (p : Slot × Cell). p.0) (some_injective e (k, c) h)) all.0
key_at P (e ∷ es) (suc i) k c all h = key_at P es i k c all.1 h

rises : (g : Cell → Option Offer) (es : List (Slot × Cell)) → IsStrictlySortedBy slot_cmp (keys_of es) →
    ((i : ℕ) (k : Slot) (c : Cell) (z : Offer) → slice_get es i ≡ Some (k, c) → g c ≡ Some z → IsPlaced k.feed k.number z) → AreBelow IsBelow (filter_map g (values_of es))
rises g [] sorted placed = tt
rises g (e ∷ es) sorted placed =
    below_cons_option IsBelow (g e.1) (filter_map g (values_of es)) (rises g es (sorted_tail slot_cmp e.0 (keys_of es) sorted) (λ i. placed (suc i)))
    (λ x y here later.
    let p = found g es y later in
    less_below e.0 p.1 x y (key_at (λ k. slot_cmp e.0 k ≡ Less) es p.0 p.1 p.2 (sorted_head slot_cmp e.0 (keys_of es) sorted) p.3)
    (placed 0 e.0 e.1 x refl here) (placed (suc p.0) p.1 p.2 y p.3 p.4))

some_cell : (there : Option Cell) (version : ℕ) (z : Offer) → offer_at (values_of_cell there) version ≡ Some z → (c : Cell) × (there ≡ Some c)
some_cell None version z is = absurd (cc is)
some_cell (Some c) version z is = (c, refl)

-- the offers of the cells, by slots, are those by feed and selection
cells_offer : (cells : BTreeMap Slot Cell) (version : ℕ) → IsOrdered slot_cmp cells → ArePlaced (λ f n. offer_at (cell_in cells f n) version) →
    offers_in cells version ≡ offers_by (λ f n. offer_at (cell_in cells f n) version)
cells_offer cells version ordered placed =
    let g : Cell → Option Offer = λ cell. offer_at cell.values.items version in
    let held : ℕ → ℕ → Option Offer = λ f n. offer_at (cell_in cells f n) version in
    let at : (i : ℕ) (k : Slot) (c : Cell) (z : Offer) → slice_get cells.entries i ≡ Some (k, c) → g c ≡ Some z → held k.feed k.number ≡ Some z =
    λ i k c z is h. ap (λ (o : Option Cell). offer_at (values_of_cell o) version) (btree_map_get_place slots_total cells i k c ordered is) ∙ h in
    same_lists IsBelow below_once (offers_in cells version) (offers_by held)
    (rises g cells.entries ordered (λ i k c z is h. placed k.feed k.number z (at i k c z is h)))
    (by_rises held placed)
    (λ z here. let p = found g cells.entries z here in by_has held placed z p.1.feed p.1.number (at p.0 p.1 p.2 z p.3 p.4))
    (λ z there. let it = in_by held z there in
    let slot : Slot = record { feed = it.0; number = it.1 } in
    let cell = some_cell (get slot_cmp cells slot) version z it.2 in
    let e = place_from_lookup (is_at (slot_cmp slot)) cells.entries cell.0 cell.1 in
    has g cells.entries e.0 e.1 cell.0 z e.2 (ap (λ (o : Option Cell). offer_at (values_of_cell o) version) (sym cell.1) ∙ it.2))

there_offer : (there : Option (BTreeMap Slot Cell)) (version : ℕ) → IfSome there (λ cells. IsOrdered slot_cmp cells) → ArePlaced (λ f n. offer_at (values_on f n there) version) →
    option_map_or (λ cells. offers_in cells version) there [] ≡ offers_by (λ f n. offer_at (values_on f n there) version)
there_offer None version ordered placed =
    let held : ℕ → ℕ → Option Offer = λ f n. offer_at [] version in
    same_lists IsBelow below_once [] (offers_by held) tt (by_rises held placed) (λ z here. absurd here) (λ z there. let it = in_by held z there in absurd (let h = it.2 in cc h))
there_offer (Some cells) version ordered placed = cells_offer cells version ordered placed

-- the offers that are kept of a match are what it offers at the version
pub match_offers : {S : Type 0} (matches : IndexMap (List ℕ) (BTreeMap Slot Cell) S) (newest : ℕ) (m : List ℕ) (version : ℕ) → AreCells matches newest →
    IfSome (entry_of bytes_eq matches m) (λ cells. IsOrdered slot_cmp cells) → offers_on matches m version ≡ offers_by (λ f n. offer_at (cell_on matches m f n) version)
match_offers matches newest m version cells ordered =
    there_offer (entry_of bytes_eq matches m) version ordered (λ f n z h. held_placed f n (cell_on matches m f n) version (cells m f n).placed z h)
