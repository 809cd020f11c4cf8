-- The sheet rises by feed and selection, and has at most 256 offers.
use Rattle.std.proofs.Common.{ℕ, ◌≡◌, ◌+◌, ◌≤◌, ◌<◌, inl, inr, ⊎_elim, Bool, true, cond, List, ◌∷◌, ◌++◌, length, refl, sym, ap, ◌∙◌, Some, None, arith, subst, zero, suc, get_or}
use Rattle.std.specs.Prelude.{◌⊎◌, count_by, Option}
use Rattle.std.specs.List.{range_with_len, filter_map, flat_map, cons_option, sum_by}
use Rattle.std.proofs.lemmas.Bool.{cases_eq}
use Rattle.std.proofs.lemmas.List.Concat.{length-flat_map, flat_map-cons}
use Rattle.std.proofs.lemmas.List.Sums.{sum_by-le}
use Rattle.std.proofs.lemmas.List.FromFn.{length-range_with_len}
use Rattle.scan_types.specs.declared.limits.TheConstants.{MOST_FEEDS, MOST_STANDING}
use Rattle.scan_types.specs.declared.offer.Offer.{Offer}
use Rattle.scan_types.specs.declared.rule.VoidRule.{VoidRule}
use Rattle.scan_types.specs.Offers.{IsBelow}
use Rattle.scan_types.specs.Sheets.{IsSheet}
use Rattle.board_definitions.specs.declared.event.Entry.{Entry}
use Rattle.board_definitions.specs.declared.key.TheConstants.{SELECTIONS}
use Rattle.board_definitions.specs.Sheets.{stands, standing, standing_count, standing_sheet}
use Rattle.board_definitions.proofs.Orders.{IsIn, AreBelow, in_append, in_front, in_back, below_append, pairs_from_below}
use Rattle.board_definitions.proofs.Placed.{IsPlaced, standing_placed, some_injective}
use Rattle.board_definitions.proofs.Counts.{count_step}

pub in_cons_option : {X : Type 0} (o : Option X) (rest : List X) (z : X) → IsIn z (cons_option o rest) → (o ≡ Some z) ⊎ IsIn z rest
in_cons_option None rest z h = inr h
in_cons_option (Some x) rest z (inl e) = inl (ap Some (sym e))
in_cons_option (Some x) rest z (inr h) = inr h

pub cons_option_has : {X : Type 0} (o : Option X) (rest : List X) (z : X) → (o ≡ Some z) ⊎ IsIn z rest → IsIn z (cons_option o rest)
cons_option_has None rest z (inl e) = absurd (cc e)
cons_option_has None rest z (inr h) = h
cons_option_has (Some x) rest z (inl e) = inl (sym (some_injective x z e))
cons_option_has (Some x) rest z (inr h) = inr h

pub below_cons_option : {X : Type 0} (R : X → X → Type 0) (o : Option X) (rest : List X) → AreBelow R rest → ((x y : X) → o ≡ Some x → IsIn y rest → R x y) → AreBelow R (cons_option o rest)
below_cons_option R None rest p h = p
below_cons_option R (Some x) rest p h = (λ y i. h x y refl i, p)

length_cons_option : {X : Type 0} (o : Option X) (rest : List X) (b : Bool) → ((x : X) → o ≡ Some x → b ≡ true) → length (cons_option o rest) ≤ cond b 1 0 + length rest
length_cons_option None rest b h = omega arith
length_cons_option (Some x) rest b h = let P : Bool → Type 0 = λ t. length (x ∷ rest) ≤ cond t 1 0 + length rest in subst P (sym (h x refl)) (omega arith)

-- what a part of a sheet has
pub in_part : (g : ℕ → Option Offer) (a n : ℕ) (z : Offer) → IsIn z (filter_map g (range_with_len a n)) → (k : ℕ) × (a ≤ k) × (k < a + n) × (g k ≡ Some z)
in_part g a zero z h = absurd h
in_part g a (suc n) z h =
    ⊎_elim
    (λ (here : g a ≡ Some z). (a, omega arith, omega arith, here))
    (λ (later : IsIn z (filter_map g (range_with_len (a + 1) n))). let p = in_part g (a + 1) n z later in (p.0, omega (arith, p.1), omega (arith, p.2), p.3))
    (in_cons_option (g a) (filter_map g (range_with_len (a + 1) n)) z h)

pub part_has : (g : ℕ → Option Offer) (a n : ℕ) (z : Offer) (k : ℕ) → a ≤ k → k < a + n → g k ≡ Some z → IsIn z (filter_map g (range_with_len a n))
part_has g a zero z k l u h = absurd (omega arith)
part_has g a (suc n) z k l u h =
    cons_option_has (g a) (filter_map g (range_with_len (a + 1) n)) z
    (⊎_elim
    (λ (same : a ≡ k). inl (ap g same ∙ h))
    (λ (other : a ≡ k → ⊥). inr (part_has g (a + 1) n z k (let w : (k ≡ a → ⊥) = λ e. other (sym e) in grind (arith, w)) (omega (arith, u)) h))
    (cases_eq a k))

pub part_rises : (g : ℕ → Option Offer) (f : ℕ) → ((n : ℕ) (offer : Offer) → g n ≡ Some offer → IsPlaced f n offer) → (a n : ℕ) → AreBelow IsBelow (filter_map g (range_with_len a n))
part_rises g f placed a zero = tt
part_rises g f placed a (suc n) =
    below_cons_option IsBelow (g a) (filter_map g (range_with_len (a + 1) n)) (part_rises g f placed (a + 1) n)
    (λ x y e i.
    let p = in_part g (a + 1) n y i in
    let px = placed a x e in
    let py = placed p.0 y p.3 in
    inr (px.feed_is ∙ sym py.feed_is, omega (arith, px.number_is, py.number_is, p.1)))

-- what a sheet has
pub in_all : (parts : ℕ → List Offer) (a n : ℕ) (z : Offer) → IsIn z (flat_map parts (range_with_len a n)) → (k : ℕ) × (a ≤ k) × (k < a + n) × IsIn z (parts k)
in_all parts a zero z h = absurd h
in_all parts a (suc n) z h =
    let split : IsIn z (parts a ++ flat_map parts (range_with_len (a + 1) n)) = subst (IsIn z) (flat_map-cons parts a (range_with_len (a + 1) n)) h in
    ⊎_elim
    (λ (here : IsIn z (parts a)). (a, omega arith, omega arith, here))
    (λ (later : IsIn z (flat_map parts (range_with_len (a + 1) n))). let p = in_all parts (a + 1) n z later in (p.0, omega (arith, p.1), omega (arith, p.2), p.3))
    (in_append (parts a) (flat_map parts (range_with_len (a + 1) n)) z split)

pub all_has : (parts : ℕ → List Offer) (a n : ℕ) (z : Offer) (k : ℕ) → a ≤ k → k < a + n → IsIn z (parts k) → IsIn z (flat_map parts (range_with_len a n))
all_has parts a zero z k l u h = absurd (omega arith)
all_has parts a (suc n) z k l u h =
    subst (IsIn z) (sym (flat_map-cons parts a (range_with_len (a + 1) n)))
    (⊎_elim
    (λ (same : a ≡ k). in_front (parts a) (flat_map parts (range_with_len (a + 1) n)) z (let P : ℕ → Type 0 = λ j. IsIn z (parts j) in subst P (sym same) h))
    (λ (other : a ≡ k → ⊥). in_back (parts a) (flat_map parts (range_with_len (a + 1) n)) z
    (all_has parts (a + 1) n z k (let w : (k ≡ a → ⊥) = λ e. other (sym e) in grind (arith, w)) (omega (arith, u)) h))
    (cases_eq a k))

pub all_rise : (parts : ℕ → List Offer) → ((f : ℕ) → AreBelow IsBelow (parts f)) → ((f : ℕ) (z : Offer) → IsIn z (parts f) → z.feed ≡ f) →
    (a n : ℕ) → AreBelow IsBelow (flat_map parts (range_with_len a n))
all_rise parts rise feeds a zero = tt
all_rise parts rise feeds a (suc n) =
    subst (AreBelow IsBelow) (sym (flat_map-cons parts a (range_with_len (a + 1) n)))
    (below_append IsBelow (parts a) (flat_map parts (range_with_len (a + 1) n)) (rise a) (all_rise parts rise feeds (a + 1) n)
    (λ x y i j. let p = in_all parts (a + 1) n y j in inl (omega (arith, feeds a x i, feeds p.0 y p.3, p.1))))

-- the offers of one feed on the sheet
part_of : List (Option VoidRule) → List Entry → List ℕ → ℕ → List Offer
part_of rules entries m f = filter_map (standing rules entries m f) (range_with_len 0 SELECTIONS)

-- an offer is on the sheet just where it stands at its feed and selection
pub in_sheet : (rules : List (Option VoidRule)) (entries : List Entry) (m : List ℕ) (z : Offer) → IsIn z (standing_sheet rules entries m) →
    (f : ℕ) × (n : ℕ) × (f < MOST_FEEDS) × (n < SELECTIONS) × (standing rules entries m f n ≡ Some z)
unfolding standing_sheet part_of
in_sheet rules entries m z h =
    let feed = in_all (part_of rules entries m) 0 MOST_FEEDS z h in
    let number = in_part (standing rules entries m feed.0) 0 SELECTIONS z feed.3 in
    (feed.0, number.0, omega (arith, feed.2), omega (arith, number.2), number.3)

pub sheet_has : (rules : List (Option VoidRule)) (entries : List Entry) (m : List ℕ) (z : Offer) (f n : ℕ) → f < MOST_FEEDS → n < SELECTIONS →
    standing rules entries m f n ≡ Some z → IsIn z (standing_sheet rules entries m)
unfolding standing_sheet part_of
sheet_has rules entries m z f n fits few h =
    all_has (part_of rules entries m) 0 MOST_FEEDS z f (omega arith) (omega (arith, fits))
    (part_has (standing rules entries m f) 0 SELECTIONS z n (omega arith) (omega (arith, few)) h)

part_is_of : (rules : List (Option VoidRule)) (entries : List Entry) (m : List ℕ) (f : ℕ) (z : Offer) → IsIn z (part_of rules entries m f) → z.feed ≡ f
unfolding part_of
part_is_of rules entries m f z i = let p = in_part (standing rules entries m f) 0 SELECTIONS z i in (standing_placed rules entries m f p.0 z p.3).0.feed_is

-- the sheet rises
pub sheet_rises : (rules : List (Option VoidRule)) (entries : List Entry) (m : List ℕ) → AreBelow IsBelow (standing_sheet rules entries m)
unfolding standing_sheet part_of
sheet_rises rules entries m =
    all_rise (part_of rules entries m)
    (λ f. part_rises (standing rules entries m f) f (λ n offer h. (standing_placed rules entries m f n offer h).0) 0 SELECTIONS)
    (part_is_of rules entries m) 0 MOST_FEEDS

part_fits : (g : ℕ → Option Offer) (p : ℕ → Bool) → ((n : ℕ) (offer : Offer) → g n ≡ Some offer → p n ≡ true) → (a n : ℕ) →
    length (filter_map g (range_with_len a n)) ≤ count_by p (range_with_len a n)
part_fits g p h a zero = omega arith
part_fits g p h a (suc n) =
    let rest = part_fits g p h (a + 1) n in
    omega (arith, rest, count_step p a n, length_cons_option (g a) (filter_map g (range_with_len (a + 1) n)) (p a) (h a))

part_is_short : (rules : List (Option VoidRule)) (entries : List Entry) (m : List ℕ) (f : ℕ) → length (part_of rules entries m f) ≤ standing_count entries m f
unfolding standing_count part_of
part_is_short rules entries m f =
    part_fits (standing rules entries m f) (stands entries m f) (λ n offer h. (standing_placed rules entries m f n offer h).1) 0 SELECTIONS

sheet_length : (rules : List (Option VoidRule)) (entries : List Entry) (m : List ℕ) →
    length (standing_sheet rules entries m) ≡ sum_by (λ f. length (part_of rules entries m f)) (range_with_len 0 MOST_FEEDS)
unfolding standing_sheet part_of
sheet_length rules entries m = length-flat_map (part_of rules entries m) (range_with_len 0 MOST_FEEDS)

-- where each feed has at most 32 offers standing at the match, the sheet is one
pub sheet_is_sheet : (rules : List (Option VoidRule)) (entries : List Entry) (m : List ℕ) → ((f : ℕ) → standing_count entries m f ≤ MOST_STANDING) →
    IsSheet (standing_sheet rules entries m)
sheet_is_sheet rules entries m few =
    record {
      few =
          let each : (f : ℕ) → length (part_of rules entries m f) ≤ MOST_STANDING = λ f. omega (arith, few f, part_is_short rules entries m f) in
          let sum = sum_by-le (λ (f : ℕ). length (part_of rules entries m f)) MOST_STANDING (range_with_len 0 MOST_FEEDS) (λ k d _. each (get_or (range_with_len 0 MOST_FEEDS) k d)) in
          omega (arith, sum, length-range_with_len 0 MOST_FEEDS, sheet_length rules entries m);
      rising = pairs_from_below IsBelow (standing_sheet rules entries m) (sheet_rises rules entries m);
    }
