-- The table of gains of a sheet, and what its rows say of who leads.
use Rattle.std.proofs.Common.{◌≡◌, ℕ, ◌+◌, ◌*◌, ◌<◌, ◌≤◌, not, ◌&&◌, ◌||◌, nat_lt, List, [], length, map, drop, sym, ap, ap₂, ◌∙◌, arith}
use Rattle.std.specs.Prelude.{slice_index_or, int_le, int_lt}
use Rattle.std.specs.List.{All, flat_map, enumerate_from}
use Rattle.std.proofs.lemmas.List.{length-map, get_or-map, length-take, length-drop}
use Rattle.std.proofs.lemmas.List.Elements.{All-map}
use Rattle.std.proofs.lemmas.List.FromFn.{length-enumerate_from, get_or-enumerate_from}
use lib.IntN.{ℤ, pos}
use Rattle.row_definitions.specs.Rows.{entry}
use Rattle.scan_types.specs.declared.offer.Offer.{Offer}
use Rattle.scan_types.specs.declared.outcome.Outcome.{Outcome}
use Rattle.settlement_definitions.specs.Gain.{gain}
use Rattle.judging_definitions.specs.Columns.{dominates, is_undominated}
use Rattle.judging_laws.proofs.FlatRows.{flat-map, length-flat, row-flat}
use Rattle.judging_laws.proofs.Coherence.{any_outcome}
use Rattle.coherence_lp.specs.Comparisons.{any_below, row_dominates, table_row}
use Rattle.coherence_lp.proofs.Below.{all_places, any_places, all_same, any_same}

-- the table of a sheet
abbrev pub table_of : List Outcome → List Offer → List ℤ
table_of classes offers = flat_map (λ offer. map (gain offer) classes) offers

rows_wide : (classes : List Outcome) (offers : List Offer) → All (λ row. length row ≡ length classes) (map (λ offer. map (gain offer) classes) offers)
rows_wide classes offers = All-map (λ row. length row ≡ length classes) (λ offer. map (gain offer) classes) offers (λ k o h. length-map classes (gain (slice_index_or offers k o)))

turn : (a b : ℕ) → a * b ≡ b * a
turn a b = omega arith

pub length-table : (classes : List Outcome) (offers : List Offer) → length (table_of classes offers) ≡ length offers * length classes
length-table classes offers =
    let f : Offer → List ℤ = λ offer. map (gain offer) classes in
    ap length (flat-map f offers) ∙ length-flat (length classes) (map f offers) (rows_wide classes offers) ∙ (let e = length-map offers f in let g : length classes * length (map f offers) ≡ length offers * length classes = ap (λ n. length classes * n) e ∙ turn (length classes) (length offers) in g)

pub row_is : (classes : List Outcome) (offers : List Offer) (k : ℕ) (o : Offer) → k < length offers → table_row (table_of classes offers) (length classes) k ≡ map (gain (slice_index_or offers k o)) classes
row_is classes offers k o within =
    let f : Offer → List ℤ = λ offer. map (gain offer) classes in
    ap (λ t. table_row t (length classes) k) (flat-map f offers)
    ∙ row-flat (length classes) (map f offers) k (rows_wide classes offers) (omega (arith, within, length-map offers f))
    ∙ get_or-map f offers k o [] within

pub length-table_row : (table : List ℤ) (width k : ℕ) → k * width + width ≤ length table → length (table_row table width k) ≡ width
length-table_row table width k h = omega (arith, length-take width (drop (k * width) table), length-drop (k * width) table, h)

-- comparing the gains of two offers is comparing their rows
rows_compare : (classes : List Outcome) (a b : ℕ × Offer) → dominates classes a b ≡ row_dominates (map (gain a.1) classes) (map (gain b.1) classes) (length classes) (nat_lt a.0 b.0)
rows_compare classes a b =
    let at : (offer : Offer) (j : ℕ) → j < length classes → entry (map (gain offer) classes) j ≡ gain offer (slice_index_or classes j any_outcome) = λ offer j h. get_or-map (gain offer) classes j any_outcome (pos 0) h in
    let n = length classes in
    ap₂ (λ x y. x && (y || nat_lt a.0 b.0))
    (all_places (λ x. int_le (gain b.1 x) (gain a.1 x)) classes any_outcome
    ∙ all_same (λ j. int_le (gain b.1 (slice_index_or classes j any_outcome)) (gain a.1 (slice_index_or classes j any_outcome))) (λ j. int_le (entry (map (gain b.1) classes) j) (entry (map (gain a.1) classes) j)) n (λ j h. sym (ap₂ int_le (at b.1 j h) (at a.1 j h))))
    (any_places (λ x. int_lt (gain b.1 x) (gain a.1 x)) classes any_outcome
    ∙ any_same (λ j. int_lt (gain b.1 (slice_index_or classes j any_outcome)) (gain a.1 (slice_index_or classes j any_outcome))) (λ j. int_lt (entry (map (gain b.1) classes) j) (entry (map (gain a.1) classes) j)) n (λ j h. sym (ap₂ int_lt (at b.1 j h) (at a.1 j h))))

-- whether an offer leads, by the table
pub leads_by_table : (classes : List Outcome) (offers : List Offer) (i : ℕ) (o : Offer) → i < length offers → is_undominated classes (enumerate_from 0 offers) (slice_index_or (enumerate_from 0 offers) i (0, o)) ≡ not (any_below (λ k. row_dominates (table_row (table_of classes offers) (length classes) k) (table_row (table_of classes offers) (length classes) i) (length classes) (nat_lt k i)) (length offers))
leads_by_table classes offers i o within =
    let all = enumerate_from 0 offers in
    let m = length classes in
    let t = table_of classes offers in
    let at : (k : ℕ) → k < length offers → slice_index_or all k (0, o) ≡ (k, slice_index_or offers k o) = λ k h. get_or-enumerate_from 0 offers k (0, o) h ∙ ap (λ n. (n, slice_index_or offers k o)) (let e : 0 + k ≡ k = omega arith in e) in
    let each : (k : ℕ) → k < length offers → dominates classes (slice_index_or all k (0, o)) (slice_index_or all i (0, o)) ≡ row_dominates (table_row t m k) (table_row t m i) m (nat_lt k i) =
    λ k h. ap₂ (dominates classes) (at k h) (at i within) ∙ rows_compare classes (k, slice_index_or offers k o) (i, slice_index_or offers i o)
    ∙ sym (ap₂ (λ x y. row_dominates x y m (nat_lt k i)) (row_is classes offers k o h) (row_is classes offers i o within)) in
    ap not (any_places (λ other. dominates classes other (slice_index_or all i (0, o))) all (0, o)
    ∙ ap (any_below (λ k. dominates classes (slice_index_or all k (0, o)) (slice_index_or all i (0, o)))) (length-enumerate_from 0 offers)
    ∙ any_same (λ k. dominates classes (slice_index_or all k (0, o)) (slice_index_or all i (0, o))) (λ k. row_dominates (table_row t m k) (table_row t m i) m (nat_lt k i)) (length offers) each)
