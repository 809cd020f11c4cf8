-- What is written is the program.
use Rattle.std.proofs.Common.{◌≡◌, ℕ, suc, ◌+◌, ◌*◌, ◌≤◌, List, [], ◌∷◌, ◌++◌, length, map, zip, replicate, refl, sym, ap, ap₂, ◌∙◌, subst, arith, add-one}
use Rattle.std.specs.List.{All}
use Rattle.std.proofs.Math.Nat.{mul-le-mul}
use Rattle.std.proofs.lemmas.List.{length-map}
use lib.IntN.{ℤ, pos}
use Rattle.pivot_definitions.specs.Programs.{LinearProgram, unit_row}
use Rattle.scan_types.specs.declared.offer.Offer.{Offer}
use Rattle.scan_types.specs.declared.outcome.Outcome.{Outcome}
use Rattle.settlement_definitions.specs.Scores.{HasScoresInRange}
use Rattle.settlement_definitions.specs.Classes.{classes_of}
use Rattle.finding_definitions.specs.Arbitrage.{need}
use Rattle.judging_definitions.specs.Columns.{offer_divisor}
use Rattle.judging_definitions.specs.JudgingPrograms.{class_rows, limit_rows, homogeneous_program, limited_program}
use Rattle.judging_laws.proofs.ClassFacts.{each_at, classes_in_range, classes_few}
use Rattle.coherence_lp.specs.ProgramTables.{divided_table, rows_of_classes}
use Rattle.coherence_lp.proofs.ProgramTables.{length-divided_table, rows_are}

-- ---- classes

-- the outcomes of a class list of the sheet have scores in range
pub scores_in_range : (offers : List Offer) (outcomes classes : List Outcome) → outcomes ≡ classes → classes ≡ classes_of offers → All HasScoresInRange outcomes
scores_in_range offers outcomes classes e f = subst (All HasScoresInRange) (sym (e ∙ f)) (each_at HasScoresInRange (classes_of offers) (classes_in_range offers))

-- and there are at most 98
pub few_outcomes : (offers : List Offer) (outcomes classes : List Outcome) → outcomes ≡ classes → classes ≡ classes_of offers → length outcomes ≤ 98
few_outcomes offers outcomes classes e f = subst (λ xs. length xs ≤ 98) (sym (e ∙ f)) (classes_few offers)

-- ---- the table is long enough

pub table_long : (classes : List Outcome) (offers : List Offer) (asked : Outcome → ℤ) (asked_list gains : List ℤ) (count : ℕ) → asked_list ≡ map asked classes → gains ≡ divided_table classes offers → count ≡ length offers → count * length asked_list ≤ length gains
table_long classes offers asked asked_list gains count asked_is gains_is count_is =
    let width : length asked_list ≡ length classes = ap length asked_is ∙ length-map classes asked in
    let long = ap length gains_is ∙ length-divided_table classes offers in
    let same : count * length asked_list ≡ length offers * length classes = ap₂ (λ a b. a * b) count_is width in
    omega (arith, same, long)

-- ---- coefficients

pub class_part : (classes : List Outcome) (offers : List Offer) (asked : Outcome → ℤ) (asked_list gains before new : List ℤ) (count : ℕ) → asked_list ≡ map asked classes → gains ≡ divided_table classes offers → count ≡ length offers → before ≡ [] → new ≡ before ++ rows_of_classes asked_list gains count (length asked_list) → new ≡ class_rows classes offers asked
class_part classes offers asked asked_list gains before new count asked_is gains_is count_is empty written =
    written
    ∙ ap (λ xs. xs ++ rows_of_classes asked_list gains count (length asked_list)) empty
    ∙ ap (λ a. rows_of_classes a gains count (length a)) asked_is
    ∙ ap (λ g. rows_of_classes (map asked classes) g count (length (map asked classes))) gains_is
    ∙ ap₂ (λ k w. rows_of_classes (map asked classes) (divided_table classes offers) k w) count_is (length-map classes asked)
    ∙ rows_are classes offers asked

-- ---- right sides

pub zeros_are : {X : Type 0} (xs : List X) → replicate (length xs) (pos 0) ≡ map (λ (x : X). pos 0) xs
zeros_are [] = refl
zeros_are (x ∷ xs) = ap (λ zs. pos 0 ∷ zs) (zeros_are xs)

zero_part : {X : Type 0} (xs : List X) (before new : List ℤ) → before ≡ [] → new ≡ before ++ replicate (length xs) (pos 0) → new ≡ map (λ (x : X). pos 0) xs
zero_part xs before new empty written = written ∙ ap (λ ys. ys ++ replicate (length xs) (pos 0)) empty ∙ zeros_are xs

sides_are : (f : Offer → ℕ) (offers : List Offer) → map (λ (e : Offer × ℕ). pos (e.0.limit * e.1)) (zip offers (map f offers)) ≡ map (λ (offer : Offer). pos (offer.limit * f offer)) offers
sides_are f [] = refl
sides_are f (offer ∷ offers) = ap (λ zs. pos (offer.limit * f offer) ∷ zs) (sides_are f offers)

-- ---- programs

abbrev program : ℕ → ℕ → List ℤ → List ℤ → LinearProgram
program columns rows coefficients right_sides = record { columns = columns; rows = rows; coefficients = coefficients; right_sides = right_sides }

same_program : (a b c d : ℕ) (xs ys us vs : List ℤ) → a ≡ b → c ≡ d → xs ≡ ys → us ≡ vs → program a c xs us ≡ program b d ys vs
same_program a b c d xs ys us vs e f g h = ap₂ (λ n m. program n m xs us) e f ∙ ap₂ (program b d) g h

pub homogeneous_is : (classes : List Outcome) (offers : List Offer) (width : ℕ) (class_coefs coefs none zeros right : List ℤ) → width ≡ length offers → class_coefs ≡ class_rows classes offers need → coefs ≡ class_coefs ++ unit_row (width + 1) 0 → none ≡ [] → zeros ≡ none ++ replicate (length classes) (pos 0) → right ≡ zeros ++ pos 1 ∷ [] → program (width + 1) (length classes + 1) coefs right ≡ homogeneous_program classes offers
homogeneous_is classes offers width class_coefs coefs none zeros right width_is rows_written cap_written empty zeros_written right_written =
    let columns : width + 1 ≡ suc (length offers) = add-one width ∙ ap suc width_is in
    same_program (width + 1) (suc (length offers)) (length classes + 1) (length classes + 1) coefs (class_rows classes offers need ++ unit_row (suc (length offers)) 0) right (map (λ (x : Outcome). pos 0) classes ++ pos 1 ∷ []) columns refl
    (cap_written ∙ ap₂ (λ xs n. xs ++ unit_row n 0) rows_written columns)
    (right_written ∙ ap (λ xs. xs ++ pos 1 ∷ []) (zero_part classes none zeros empty zeros_written))

pub limited_is : (classes : List Outcome) (offers : List Offer) (asked : Outcome → ℤ) (class_coefs more coefs none zeros sides right : List ℤ) (divisors : List ℕ) → class_coefs ≡ class_rows classes offers asked → more ≡ class_coefs ++ limit_rows offers → coefs ≡ more ++ unit_row (length offers + 1) 0 → none ≡ [] → zeros ≡ none ++ replicate (length classes) (pos 0) → divisors ≡ map (offer_divisor classes) offers → sides ≡ zeros ++ map (λ (e : Offer × ℕ). pos (e.0.limit * e.1)) (zip offers divisors) → right ≡ sides ++ pos 1 ∷ [] → program (length offers + 1) (length classes + length offers + 1) coefs right ≡ limited_program classes offers asked
limited_is classes offers asked class_coefs more coefs none zeros sides right divisors rows_written limits_written cap_written empty zeros_written divisors_are sides_written right_written =
    let columns : length offers + 1 ≡ suc (length offers) = add-one (length offers) in
    let limits = map (λ (offer : Offer). pos (offer.limit * offer_divisor classes offer)) offers in
    same_program (length offers + 1) (suc (length offers)) (length classes + length offers + 1) (length classes + length offers + 1) coefs ((class_rows classes offers asked ++ limit_rows offers) ++ unit_row (suc (length offers)) 0) right ((map (λ (x : Outcome). pos 0) classes ++ limits) ++ pos 1 ∷ []) columns refl
    (cap_written ∙ ap₂ (λ xs n. xs ++ unit_row n 0) (limits_written ∙ ap (λ xs. xs ++ limit_rows offers) rows_written) columns)
    (right_written
    ∙ ap (λ xs. xs ++ pos 1 ∷ [])
    (sides_written ∙ ap₂ (λ xs ds. xs ++ map (λ (e : Offer × ℕ). pos (e.0.limit * e.1)) (zip offers ds)) (zero_part classes none zeros empty zeros_written) divisors_are ∙ ap (λ ys. map (λ (x : Outcome). pos 0) classes ++ ys) (sides_are (offer_divisor classes) offers)))

-- ---- sizes

-- so many places fit 64 bits
pub room : (rows width : ℕ) → rows ≤ 355 → width ≤ 257 → rows * width ≤ 91235
room rows width h k = let most : rows * width ≤ 355 * 257 = mul-le-mul h k in omega (arith, most)
