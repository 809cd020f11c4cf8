-- The text of a readable finding is short, so that a place in it fits 32 bits.
use Rattle.std.proofs.Common.{ℕ, ◌≡◌, ◌+◌, ◌*◌, ◌^◌, ◌≤◌, ◌<◌, List, [], ◌∷◌, ◌++◌, length, take, All, refl, ap, arith, decimal, lit<}
use Rattle.std.specs.Prelude.{codes}
use Rattle.std.specs.List.{flat_map, AllByRecursion}
use Rattle.std.proofs.lemmas.Fmt.{length-decimal-le}
use Rattle.std.proofs.lemmas.List.{length-append, length-take-le}
use Rattle.std.proofs.lemmas.List.Elements.{recursion_from_All}
use Rattle.scan_types.specs.declared.outcome.Outcome.{Outcome}
use Rattle.scan_types.specs.declared.outcome.Outcome.TheVariants.{Full, Abandoned}
use Rattle.scan_types.specs.declared.limits.TheConstants.{MOST_OFFERS}
use Rattle.finding_definitions.specs.declared.finding.Stage.{Stage}
use Rattle.finding_definitions.specs.declared.finding.Stage.TheVariants.{First, Slack, Plain}
use Rattle.finding_definitions.specs.declared.finding.WideAt.{WideAt}
use Rattle.finding_definitions.specs.declared.finding.WideAt.TheVariants.{Entry, Weight, Stake}
use Rattle.finding_definitions.specs.declared.finding.Finding.{Finding}
use Rattle.finding_definitions.specs.declared.finding.Finding.TheVariants.{Arb, Coherent, Thin, Narrow, Wide, OutOfPivots}
use Rattle.finding_definitions.specs.Fractions.{Fractions}
use Rattle.finding_definitions.specs.Text.{outcome_fields, entry_fields, stake_fields, measure_fields, fraction_fields, stage_number, run_fields, place_fields, finding_text}
use Rattle.finding_definitions.specs.Readable.{IsShort, IsLong, AreReadableParts, IsReadableOutcome, IsReadableMeasure, IsReadablePlace, IsReadable, IsFaultAt}
use Rattle.text_out.specs.Written.{spaced}
use Rattle.text_out.proofs.Writes.{join_spaced, spaced-append, pair_shape, one_shape, numbers_shape, number_shape, counted_shape}
use Rattle.certificates.proofs.Findings.{field_text}

field_short : (n : ℕ) → IsLong n → length (field_text n) ≤ 21
field_short n h = let bound : n < 10 ^ 20 = omega arith in omega (arith, length-decimal-le 20 n (lit< tt) bound h)

flat_map_short : {A : Type 0} (t : A → List ℕ) (k : ℕ) (xs : List A) → AllByRecursion (λ x. length (t x) ≤ k) xs → length (flat_map t xs) ≤ k * length xs
flat_map_short t k [] h = omega arith
flat_map_short t k (x ∷ xs) h = omega (arith, h.0, flat_map_short t k xs h.1, length-append (t x) (flat_map t xs))

map_all : {A : Type 0} (P Q : A → Type 0) → ((x : A) → P x → Q x) → (xs : List A) → AllByRecursion P xs → AllByRecursion Q xs
map_all P Q f [] h = tt
map_all P Q f (x ∷ xs) h = (f x h.0, map_all P Q f xs h.1)

counted_short : {A : Type 0} (t : A → List ℕ) (k : ℕ) (P : A → Type 0) → ((x : A) → P x → length (t x) ≤ k) → (xs : List A) → length xs < 2 ^ 64 → All P xs → length ((32 ∷ decimal (length xs)) ++ flat_map t xs) ≤ 21 + k * length xs
counted_short t k P f xs small all =
    omega (arith, field_short (length xs) small, flat_map_short t k xs (map_all P (λ x. length (t x) ≤ k) f xs (recursion_from_All P xs all)), length-append (field_text (length xs)) (flat_map t xs))

numbers_short : (xs : List ℕ) → length xs ≤ MOST_OFFERS → All IsLong xs → length (spaced (stake_fields xs)) ≤ 6000
numbers_short xs few all =
    let shape = counted_shape (λ (n : ℕ). decimal n ∷ []) xs field_text number_shape in
    let short = counted_short field_text 21 IsLong field_short xs (omega arith) all in
    omega (arith, ap length shape, short)

short_is_long : (xs : List ℕ) → All IsShort xs → All IsLong xs
short_is_long xs all = λ k x d. let h = all k x d in omega (arith, h)

parts_short : (p : Fractions) → AreReadableParts p → length (spaced (fraction_fields p)) ≤ 7000
parts_short p (d, few, all) = omega (arith, field_short p.divisor d, numbers_short p.parts few all, length-append (field_text p.divisor) (spaced (stake_fields p.parts)))

pair_short : (word : List ℕ) (m n : ℕ) → IsLong m → IsLong n → length (spaced (word ∷ decimal m ∷ decimal n ∷ [])) ≤ length word + 43
pair_short word m n p q =
    omega (arith, ap length (pair_shape word m n), field_short m p, field_short n q, length-append (32 ∷ word) (field_text m ++ field_text n), length-append (field_text m) (field_text n))

one_short : (word : List ℕ) (n : ℕ) → IsLong n → length (spaced (word ∷ decimal n ∷ [])) ≤ length word + 22
one_short word n p = omega (arith, ap length (one_shape word n), field_short n p, length-append (32 ∷ word) (field_text n))

outcome_short : (x : Outcome) → IsReadableOutcome x → length (spaced (outcome_fields x)) ≤ 60
outcome_short (Full h a) (p, q) = omega (arith, pair_short (codes "full") h a p q)
outcome_short (Abandoned h a) (p, q) = omega (arith, pair_short (codes "abandoned") h a p q)

abbrev IsReadableEntry : Outcome × ℕ → Type 0
IsReadableEntry entry = IsReadableOutcome entry.0 × IsLong entry.1

entry_short : (e : Outcome × ℕ) → IsReadableEntry e → length (spaced (entry_fields e)) ≤ 90
entry_short e (p, q) =
    omega (arith, ap length (spaced-append (outcome_fields e.0) (decimal e.1 ∷ [])), length-append (spaced (outcome_fields e.0)) (spaced (decimal e.1 ∷ [])), outcome_short e.0 p, field_short e.1 q, ap length (number_shape e.1))

measure_short : (m : List (Outcome × ℕ)) → IsReadableMeasure m → length (spaced (measure_fields m)) ≤ 100000
measure_short m (few, all) =
    let shape = counted_shape entry_fields m (λ e. spaced (entry_fields e)) (λ x. refl) in
    let short = counted_short (λ e. spaced (entry_fields e)) 90 IsReadableEntry entry_short m (omega arith) all in
    omega (arith, ap length shape, short)

place_text_short : (p : WideAt) → IsReadablePlace p → length (spaced (place_fields p)) ≤ 60
place_text_short (Entry row column) (p, q) = omega (arith, pair_short (codes "entry") row column (omega arith) (omega arith))
place_text_short (Weight n) p = omega (arith, one_short (codes "weight") n (omega arith))
place_text_short (Stake n) p = omega (arith, one_short (codes "stake") n (omega arith))

stage_small : (k : Stage) → IsLong (stage_number k)
stage_small First = lit< tt
stage_small Slack = lit< tt
stage_small Plain = lit< tt

run_short : (k : Stage) (n : ℕ) → IsShort n → length (spaced (run_fields k n)) ≤ 50
run_short k n h = omega (arith, ap length (numbers_shape (stage_number k) n), field_short (stage_number k) (stage_small k), field_short n (omega arith), length-append (field_text (stage_number k)) (field_text n))

worded : (word : List ℕ) (fields : List (List ℕ)) (text : List ℕ) (most : ℕ) → text ≡ word ++ spaced fields → length (spaced fields) ≤ most → length text ≤ length word + most
worded word fields text most e h = omega (arith, ap length e, length-append word (spaced fields))

two_fields : (a b : List (List ℕ)) (m n : ℕ) → length (spaced a) ≤ m → length (spaced b) ≤ n → length (spaced (a ++ b)) ≤ m + n
two_fields a b m n p q = omega (arith, ap length (spaced-append a b), length-append (spaced a) (spaced b))

pub finding_short : (f : Finding) → IsReadable f → length (finding_text f) ≤ 200000
finding_short (Arb x) h = omega (arith, worded (codes "arb") (stake_fields x) (finding_text (Arb x)) 6000 (join_spaced (codes "arb") (stake_fields x)) (numbers_short x h.0 (short_is_long x h.1)))
finding_short (Coherent m) h = omega (arith, worded (codes "coherent") (measure_fields m) (finding_text (Coherent m)) 100000 (join_spaced (codes "coherent") (measure_fields m)) (measure_short m h))
finding_short (Thin x m) h = omega (arith, worded (codes "thin") (fraction_fields x ++ measure_fields m) (finding_text (Thin x m)) 107000 (join_spaced (codes "thin") (fraction_fields x ++ measure_fields m)) (two_fields (fraction_fields x) (measure_fields m) 7000 100000 (parts_short x h.0) (measure_short m h.1)))
finding_short (Narrow x m) h = omega (arith, worded (codes "narrow") (fraction_fields x ++ measure_fields m) (finding_text (Narrow x m)) 107000 (join_spaced (codes "narrow") (fraction_fields x ++ measure_fields m)) (two_fields (fraction_fields x) (measure_fields m) 7000 100000 (parts_short x h.0) (measure_short m h.1)))
finding_short (Wide s n w) h = omega (arith, worded (codes "wide") (run_fields s n ++ place_fields w) (finding_text (Wide s n w)) 110 (join_spaced (codes "wide") (run_fields s n ++ place_fields w)) (two_fields (run_fields s n) (place_fields w) 50 60 (run_short s n h.0) (place_text_short w h.1)))
finding_short (OutOfPivots s n) h = omega (arith, worded (codes "out-of-pivots") (run_fields s n) (finding_text (OutOfPivots s n)) 50 (join_spaced (codes "out-of-pivots") (run_fields s n)) (run_short s n h))

-- a fault's place is within a readable finding's text
pub fault_short : (s : List ℕ) (place : ℕ) → IsFaultAt s place → place < 2 ^ 32
fault_short s place fault =
    let (f, z, fits, is) = fault.begins in
    omega (arith, fault.within, finding_short f fits, ap length is, length-append (take place s) z, length-take-le place s fault.within)
