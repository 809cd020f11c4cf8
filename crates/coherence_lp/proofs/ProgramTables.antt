-- The rows of a program's classes are those that are written out of a table of divided gains.
use Rattle.std.proofs.Common.{◌≡◌, ℕ, suc, ◌+◌, ◌*◌, ◌<◌, List, [], ◌∷◌, length, map, take, drop, refl, sym, ap, ap₂, ◌∙◌, arith}
use Rattle.std.specs.Prelude.{slice_index_or}
use Rattle.std.specs.List.{All, range_with_len}
use Rattle.std.proofs.lemmas.List.{length-map, get_or-map, get_or-take, get_or-drop}
use Rattle.std.proofs.lemmas.List.Elements.{All-map}
use lib.IntN.{ℤ, pos, neg_ℤ}
use Rattle.row_definitions.specs.Rows.{entry, divided}
use Rattle.scan_types.specs.declared.offer.Offer.{Offer}
use Rattle.scan_types.specs.declared.outcome.Outcome.{Outcome}
use Rattle.settlement_definitions.specs.Gain.{gain}
use Rattle.judging_definitions.specs.Columns.{divided_gain, offer_divisor}
use Rattle.judging_definitions.specs.JudgingPrograms.{class_row, class_rows}
use Rattle.judging_laws.proofs.FlatRows.{flat, flat-map, length-flat, row-flat}
use Rattle.coherence_lp.specs.ProgramTables.{divided_gains, divided_table, row_of_class, rows_of_classes}

-- ---- what stands in the table

length-divided_gains : (classes : List Outcome) (offer : Offer) → length (divided_gains classes offer) ≡ length classes
length-divided_gains classes offer = length-map (map (gain offer) classes) (divided (offer_divisor classes offer)) ∙ length-map classes (gain offer)

rows_wide : (classes : List Outcome) (offers : List Offer) → All (λ row. length row ≡ length classes) (map (divided_gains classes) offers)
rows_wide classes offers = All-map (λ row. length row ≡ length classes) (divided_gains classes) offers (λ k o h. length-divided_gains classes (slice_index_or offers k o))

turn : (a b : ℕ) → a * b ≡ b * a
turn a b = omega arith

pub length-divided_table : (classes : List Outcome) (offers : List Offer) → length (divided_table classes offers) ≡ length offers * length classes
length-divided_table classes offers =
    ap length (flat-map (divided_gains classes) offers)
    ∙ length-flat (length classes) (map (divided_gains classes) offers) (rows_wide classes offers)
    ∙ ap (λ n. length classes * n) (length-map offers (divided_gains classes))
    ∙ turn (length classes) (length offers)

entry_of_column : (classes : List Outcome) (offer : Offer) (j : ℕ) (x : Outcome) → j < length classes → entry (divided_gains classes offer) j ≡ divided_gain classes offer (slice_index_or classes j x)
entry_of_column classes offer j x within =
    get_or-map (divided (offer_divisor classes offer)) (map (gain offer) classes) j (pos 0) (pos 0) (omega (arith, within, length-map classes (gain offer)))
    ∙ ap (divided (offer_divisor classes offer)) (get_or-map (gain offer) classes j x (pos 0) within)

column_is : (classes : List Outcome) (offers : List Offer) (i : ℕ) (o : Offer) → i < length offers → take (length classes) (drop (i * length classes) (divided_table classes offers)) ≡ divided_gains classes (slice_index_or offers i o)
column_is classes offers i o within =
    ap (λ t. take (length classes) (drop (i * length classes) t)) (flat-map (divided_gains classes) offers)
    ∙ row-flat (length classes) (map (divided_gains classes) offers) i (rows_wide classes offers) (omega (arith, within, length-map offers (divided_gains classes)))
    ∙ get_or-map (divided_gains classes) offers i o [] within

pub entry-divided_table : (classes : List Outcome) (offers : List Offer) (i j : ℕ) (o : Offer) (x : Outcome) → i < length offers → j < length classes → entry (divided_table classes offers) (i * length classes + j) ≡ divided_gain classes (slice_index_or offers i o) (slice_index_or classes j x)
entry-divided_table classes offers i j o x i_within j_within =
    let t = divided_table classes offers in
    let m = length classes in
    sym (get_or-take m (drop (i * m) t) j (pos 0) j_within ∙ get_or-drop (i * m) t j (pos 0))
    ∙ ap (λ row. entry row j) (column_is classes offers i o i_within)
    ∙ entry_of_column classes (slice_index_or offers i o) j x j_within

-- ---- what is made of each number below a length is what is made of each element

same_from : {X Y : Type 0} (f : ℕ → Y) (g : X → Y) (xs : List X) (a : ℕ) → ((k : ℕ) (d : X) → k < length xs → f (a + k) ≡ g (slice_index_or xs k d)) → map f (range_with_len a (length xs)) ≡ map g xs
same_from f g [] a each = refl
same_from f g (x ∷ xs) a each =
    ap₂ (λ y ys. y ∷ ys) (ap f (let e : a ≡ a + 0 = omega arith in e) ∙ each 0 x (omega arith))
    (same_from f g xs (a + 1) (λ k d h. ap f (let e : a + 1 + k ≡ a + suc k = omega arith in e) ∙ each (suc k) d (omega (arith, h))))

pub same_by_place : {X Y : Type 0} (f : ℕ → Y) (g : X → Y) (xs : List X) → ((k : ℕ) (d : X) → k < length xs → f k ≡ g (slice_index_or xs k d)) → map f (range_with_len 0 (length xs)) ≡ map g xs
same_by_place f g xs each = same_from f g xs 0 (λ k d h. ap f (let e : 0 + k ≡ k = omega arith in e) ∙ each k d h)

-- ---- the rows

row_is : (classes : List Outcome) (offers : List Offer) (asked : Outcome → ℤ) (j : ℕ) (x : Outcome) → j < length classes → row_of_class (divided_table classes offers) (length classes) (length offers) (entry (map asked classes) j) j ≡ class_row classes offers asked (slice_index_or classes j x)
row_is classes offers asked j x within =
    let m = length classes in
    ap₂ (λ y ys. y ∷ ys) (get_or-map asked classes j x (pos 0) within)
    (same_by_place (λ i. neg_ℤ (entry (divided_table classes offers) (i * m + j))) (λ offer. neg_ℤ (divided_gain classes offer (slice_index_or classes j x))) offers (λ i o h. ap neg_ℤ (entry-divided_table classes offers i j o x h within)))

pub rows_are : (classes : List Outcome) (offers : List Offer) (asked : Outcome → ℤ) → rows_of_classes (map asked classes) (divided_table classes offers) (length offers) (length classes) ≡ class_rows classes offers asked
rows_are classes offers asked =
    let f : ℕ → List ℤ = λ j. row_of_class (divided_table classes offers) (length classes) (length offers) (entry (map asked classes) j) j in
    flat-map f (range_with_len 0 (length classes))
    ∙ ap flat (same_by_place f (class_row classes offers asked) classes (λ j x h. row_is classes offers asked j x h))
    ∙ sym (flat-map (class_row classes offers asked) classes)
