-- The rows of the two programs of a sheet.
use Rattle.std.proofs.Common.{◌≡◌, ◌≢◌, ℕ, zero, suc, ◌+◌, ◌*◌, ◌-◌, ◌<◌, List, [], ◌∷◌, ◌++◌, length, map, refl, sym, ap, ap₂, ◌∙◌, subst, arith, append_assoc, append-nil}
use Rattle.std.specs.Prelude.{slice_index_or}
use Rattle.std.specs.List.{All, range_with_len}
use Rattle.std.proofs.lemmas.List.{length-append, length-map, get_or-map, get_or_append_left, get_or_at, get_or-append_right}
use Rattle.std.proofs.lemmas.List.FromFn.{length-map-range_with_len, get_or-map-range_with_len}
use Rattle.std.proofs.lemmas.List.Elements.{All-append, All-map, All-cons, All-nil}
use lib.IntN.{ℤ, pos, neg_ℤ}
use lib.Signed.{◌≤ℤ◌}
use Rattle.row_definitions.specs.Rows.{entry}
use Rattle.pivot_definitions.specs.Programs.{LinearProgram, IsProgram, IsCapped, coefficient_row, coefficient, unit_row}
use Rattle.pivot_definitions.proofs.Built.{length-unit, unit_here, All-range}
use Rattle.pivot_definitions.proofs.Start.{unit_elsewhere}
use Rattle.pivot_definitions.proofs.Ring.{linear}
use Rattle.scan_types.specs.declared.offer.Offer.{Offer}
use Rattle.scan_types.specs.declared.outcome.Outcome.{Outcome}
use Rattle.finding_definitions.specs.Arbitrage.{need}
use Rattle.judging_definitions.specs.Columns.{divided_gain, offer_divisor}
use Rattle.judging_definitions.specs.JudgingPrograms.{class_row, homogeneous_program, limited_program}
use Rattle.judging_laws.proofs.FlatRows.{flat-map, flat-append, IsMadeOf, row_of, coefficient_count}

-- ---- rows of classes

pub length-class_row : (classes : List Outcome) (offers : List Offer) (asked : Outcome → ℤ) (x : Outcome) → length (class_row classes offers asked x) ≡ suc (length offers)
length-class_row classes offers asked x = ap suc (length-map offers (λ offer. neg_ℤ (divided_gain classes offer x)))

pub class_rows-wide : (all classes : List Outcome) (offers : List Offer) (asked : Outcome → ℤ) → All (λ row. length row ≡ suc (length offers)) (map (class_row all offers asked) classes)
class_rows-wide all classes offers asked = All-map (λ row. length row ≡ suc (length offers)) (class_row all offers asked) classes (λ k x h. length-class_row all offers asked (slice_index_or classes k x))

-- the entry of an offer in the row of a class
pub entry-class_row : (classes : List Outcome) (offers : List Offer) (asked : Outcome → ℤ) (x : Outcome) (c : ℕ) (o : Offer) → c < length offers → entry (class_row classes offers asked x) (suc c) ≡ neg_ℤ (divided_gain classes (slice_index_or offers c o) x)
entry-class_row classes offers asked x c o within = get_or-map (λ offer. neg_ℤ (divided_gain classes offer x)) offers c o (pos 0) within

-- what a program says of the classes: what is asked for at the level 1, and what each offer gains, in its own row
pub record HasClassRows (classes : List Outcome) (offers : List Offer) (asked : Outcome → ℤ) (program : LinearProgram) : Type 0 where
  pub columns : program.columns ≡ suc (length offers)
  pub rows : length classes < program.rows
  pub level : (j : ℕ) (x : Outcome) → j < length classes → coefficient program j 0 ≡ asked (slice_index_or classes j x)
  pub gains : (j c : ℕ) (x : Outcome) (o : Offer) → j < length classes → c < length offers → coefficient program j (suc c) ≡ neg_ℤ (divided_gain classes (slice_index_or offers c o) (slice_index_or classes j x))
  pub right : (j : ℕ) → j < length classes → entry program.right_sides j ≡ pos 0

-- what the last row says: the level is at most 1
pub record HasCap (program : LinearProgram) (last : ℕ) : Type 0 where
  pub rows : program.rows ≡ suc last
  pub here : coefficient program last 0 ≡ pos 1
  pub elsewhere : (c : ℕ) → coefficient program last (suc c) ≡ pos 0
  pub right : entry program.right_sides last ≡ pos 1
  pub rights : List ℤ
  pub split : program.right_sides ≡ rights ++ pos 1 ∷ []
  pub count : length rights ≡ last

zeros_at : {X : Type 0} (xs : List X) (j : ℕ) → j < length xs → entry (map (λ (x : X). pos 0) xs) j ≡ pos 0
zeros_at [] j h = refl
zeros_at (x ∷ xs) zero h = refl
zeros_at (x ∷ xs) (suc j) h = zeros_at xs j (omega (arith, h))

zeros_not_negative : {X : Type 0} (xs : List X) → All (λ x. pos 0 ≤ℤ x) (map (λ (x : X). pos 0) xs)
zeros_not_negative {X} xs = All-map (λ x. pos 0 ≤ℤ x) (λ (x : X). pos 0) xs (λ k x h. omega (arith, linear))

class_rows_from : (classes : List Outcome) (offers : List Offer) (asked : Outcome → ℤ) (program : LinearProgram) (more : List (List ℤ)) (others : List ℤ) → IsMadeOf program (map (class_row classes offers asked) classes ++ more) → program.right_sides ≡ map (λ x. pos 0) classes ++ others → program.columns ≡ suc (length offers) → 0 < length more → HasClassRows classes offers asked program
class_rows_from classes offers asked program more others made right columns some =
    let f = class_row classes offers asked in
    let count : length (map f classes ++ more) ≡ length classes + length more = length-append (map f classes) more ∙ ap (λ n. n + length more) (length-map classes f) in
    let row : (j : ℕ) (x : Outcome) → j < length classes → coefficient_row program j ≡ f (slice_index_or classes j x) =
    λ j x h. row_of program (map f classes ++ more) j made (omega (arith, count, made.count, h, some)) ∙ get_or_append_left (map f classes) more [] j (omega (arith, length-map classes f, h)) ∙ get_or-map f classes j x [] h in
    record {
      columns = columns;
      rows = omega (arith, count, made.count, some);
      level = λ j x h. ap (λ r. entry r 0) (row j x h);
      gains = λ j c x o h k. ap (λ r. entry r (suc c)) (row j x h) ∙ entry-class_row classes offers asked (slice_index_or classes j x) c o k;
      right = λ j h. ap (λ r. entry r j) right ∙ get_or_append_left (map (λ (x : Outcome). pos 0) classes) others (pos 0) j (omega (arith, length-map classes (λ (x : Outcome). pos 0), h)) ∙ zeros_at classes j h;
    }

cap_from : (program : LinearProgram) (before : List (List ℤ)) (rights : List ℤ) (n : ℕ) → IsMadeOf program (before ++ unit_row (suc n) 0 ∷ []) → program.right_sides ≡ rights ++ pos 1 ∷ [] → length rights ≡ length before → HasCap program (length before)
cap_from program before rights n made right count =
    let rows : program.rows ≡ suc (length before) = sym made.count ∙ length-append before (unit_row (suc n) 0 ∷ []) ∙ (let e : length before + 1 ≡ suc (length before) = omega arith in e) in
    let row : coefficient_row program (length before) ≡ unit_row (suc n) 0 = row_of program (before ++ unit_row (suc n) 0 ∷ []) (length before) made (omega (arith, rows)) ∙ get_or_at before (unit_row (suc n) 0) [] [] (length before) refl in
    record {
      rows = rows;
      here = ap (λ r. entry r 0) row;
      elsewhere = λ c. ap (λ r. entry r (suc c)) row ∙ unit_elsewhere (suc n) 0 (suc c) (omega arith);
      right = ap (λ r. entry r (length before)) right ∙ get_or_at rights (pos 1) [] (pos 0) (length before) count;
      rights = rights;
      split = right;
      count = count;
    }

capped_from : (program : LinearProgram) (before : List (List ℤ)) (rights : List ℤ) (n : ℕ) → program.columns ≡ suc n → IsMadeOf program (before ++ unit_row (suc n) 0 ∷ []) → program.right_sides ≡ rights ++ pos 1 ∷ [] → length rights ≡ length before → All (λ x. pos 0 ≤ℤ x) rights → IsProgram program × IsCapped program
capped_from program before rights n columns made right count small =
    let cap = cap_from program before rights n made right count in
    let last : program.rows - 1 ≡ length before = (let e = cap.rows in omega arith) in
    let row : coefficient_row program (length before) ≡ unit_row (suc n) 0 = row_of program (before ++ unit_row (suc n) 0 ∷ []) (length before) made (omega (arith, cap.rows)) ∙ get_or_at before (unit_row (suc n) 0) [] [] (length before) refl in (
      record {
        some_column = omega (arith, columns);
        some_row = omega (arith, cap.rows);
        every_coefficient = coefficient_count program (before ++ unit_row (suc n) 0 ∷ []) made;
        every_right_side = ap length right ∙ length-append rights (pos 1 ∷ []) ∙ (let e = cap.rows in let f : length rights + 1 ≡ program.rows = omega arith in f);
        not_negative = subst (All (λ x. pos 0 ≤ℤ x)) (sym right) (All-append (λ x. pos 0 ≤ℤ x) rights (pos 1 ∷ []) small (All-cons (λ x. pos 0 ≤ℤ x) (pos 1) [] (omega (arith, linear)) (All-nil (λ x. pos 0 ≤ℤ x))));
      },
      record {
        cap = ap (coefficient_row program) last ∙ row ∙ ap (λ w. unit_row w 0) (sym columns);
        at_most_one = ap (entry program.right_sides) last ∙ cap.right;
      },
    )

-- ---- the program without limits

homogeneous_made : (classes : List Outcome) (offers : List Offer) → IsMadeOf (homogeneous_program classes offers) (map (class_row classes offers need) classes ++ unit_row (suc (length offers)) 0 ∷ [])
homogeneous_made classes offers =
    let P : List ℤ → Type 0 = λ row. length row ≡ suc (length offers) in
    let u = unit_row (suc (length offers)) 0 in
    let f = class_row classes offers need in
    record {
      flat_is = ap₂ (λ a b. a ++ b) (flat-map f classes) (sym (append-nil u)) ∙ sym (flat-append (map f classes) (u ∷ []));
      widths = All-append P (map f classes) (u ∷ []) (class_rows-wide classes classes offers need) (All-cons P u [] (length-unit (suc (length offers)) 0 (omega arith)) (All-nil P));
      count = length-append (map f classes) (u ∷ []) ∙ ap (λ n. n + 1) (length-map classes f);
    }

pub homogeneous_is_capped : (classes : List Outcome) (offers : List Offer) → IsProgram (homogeneous_program classes offers) × IsCapped (homogeneous_program classes offers)
homogeneous_is_capped classes offers =
    capped_from (homogeneous_program classes offers) (map (class_row classes offers need) classes) (map (λ (x : Outcome). pos 0) classes) (length offers) refl (homogeneous_made classes offers) refl
    (length-map classes (λ (x : Outcome). pos 0) ∙ sym (length-map classes (class_row classes offers need))) (zeros_not_negative classes)

pub homogeneous_classes : (classes : List Outcome) (offers : List Offer) → HasClassRows classes offers need (homogeneous_program classes offers)
homogeneous_classes classes offers = class_rows_from classes offers need (homogeneous_program classes offers) (unit_row (suc (length offers)) 0 ∷ []) (pos 1 ∷ []) (homogeneous_made classes offers) refl refl (omega arith)

pub homogeneous_cap : (classes : List Outcome) (offers : List Offer) → HasCap (homogeneous_program classes offers) (length classes)
homogeneous_cap classes offers =
    subst (HasCap (homogeneous_program classes offers)) (length-map classes (class_row classes offers need))
    (cap_from (homogeneous_program classes offers) (map (class_row classes offers need) classes) (map (λ (x : Outcome). pos 0) classes) (length offers) (homogeneous_made classes offers) refl
    (length-map classes (λ (x : Outcome). pos 0) ∙ sym (length-map classes (class_row classes offers need))))

-- ---- the program with limits

-- the rows of the limits: 1 in each offer's column
abbrev limits_list : ℕ → List (List ℤ)
limits_list n = map (λ column. unit_row (suc n) column) (range_with_len 1 n)

-- the rows before the cap
abbrev before_cap : List Outcome → List Offer → (Outcome → ℤ) → List (List ℤ)
before_cap classes offers asked = map (class_row classes offers asked) classes ++ limits_list (length offers)

-- the right sides before that of the cap
abbrev before_one : List Outcome → List Offer → List ℤ
before_one classes offers = map (λ (x : Outcome). pos 0) classes ++ map (λ (offer : Offer). pos (offer.limit * offer_divisor classes offer)) offers

length-before_cap : (classes : List Outcome) (offers : List Offer) (asked : Outcome → ℤ) → length (before_cap classes offers asked) ≡ length classes + length offers
length-before_cap classes offers asked =
    length-append (map (class_row classes offers asked) classes) (limits_list (length offers))
    ∙ ap₂ (λ a b. a + b) (length-map classes (class_row classes offers asked)) (length-map-range_with_len (λ column. unit_row (suc (length offers)) column) 1 (length offers))

length-before_one : (classes : List Outcome) (offers : List Offer) → length (before_one classes offers) ≡ length classes + length offers
length-before_one classes offers =
    length-append (map (λ (x : Outcome). pos 0) classes) (map (λ (offer : Offer). pos (offer.limit * offer_divisor classes offer)) offers)
    ∙ ap₂ (λ a b. a + b) (length-map classes (λ (x : Outcome). pos 0)) (length-map offers (λ (offer : Offer). pos (offer.limit * offer_divisor classes offer)))

limited_made : (classes : List Outcome) (offers : List Offer) (asked : Outcome → ℤ) → IsMadeOf (limited_program classes offers asked) (before_cap classes offers asked ++ unit_row (suc (length offers)) 0 ∷ [])
limited_made classes offers asked =
    let P : List ℤ → Type 0 = λ row. length row ≡ suc (length offers) in
    let u = unit_row (suc (length offers)) 0 in
    let f = class_row classes offers asked in
    let g : ℕ → List ℤ = λ column. unit_row (suc (length offers)) column in
    record {
      flat_is =
          ap₂ (λ a b. a ++ b) (ap₂ (λ a b. a ++ b) (flat-map f classes) (flat-map g (range_with_len 1 (length offers))) ∙ sym (flat-append (map f classes) (limits_list (length offers)))) (sym (append-nil u))
          ∙ sym (flat-append (before_cap classes offers asked) (u ∷ []));
      widths = All-append P (before_cap classes offers asked) (u ∷ [])
          (All-append P (map f classes) (limits_list (length offers)) (class_rows-wide classes classes offers asked) (All-map P g (range_with_len 1 (length offers)) (All-range (λ c. P (g c)) 1 (length offers) (λ c low high. length-unit (suc (length offers)) c (omega (arith, high))))))
          (All-cons P u [] (length-unit (suc (length offers)) 0 (omega arith)) (All-nil P));
      count = length-append (before_cap classes offers asked) (u ∷ []) ∙ ap (λ n. n + 1) (length-before_cap classes offers asked);
    }

pub limited_is_capped : (classes : List Outcome) (offers : List Offer) (asked : Outcome → ℤ) → IsProgram (limited_program classes offers asked) × IsCapped (limited_program classes offers asked)
limited_is_capped classes offers asked =
    capped_from (limited_program classes offers asked) (before_cap classes offers asked) (before_one classes offers) (length offers) refl (limited_made classes offers asked) refl
    (length-before_one classes offers ∙ sym (length-before_cap classes offers asked))
    (All-append (λ x. pos 0 ≤ℤ x) (map (λ (x : Outcome). pos 0) classes) (map (λ (offer : Offer). pos (offer.limit * offer_divisor classes offer)) offers) (zeros_not_negative classes)
    (All-map (λ x. pos 0 ≤ℤ x) (λ (offer : Offer). pos (offer.limit * offer_divisor classes offer)) offers (λ k o h. omega (arith, linear))))

pub limited_classes : (classes : List Outcome) (offers : List Offer) (asked : Outcome → ℤ) → HasClassRows classes offers asked (limited_program classes offers asked)
limited_classes classes offers asked =
    let u = unit_row (suc (length offers)) 0 in
    class_rows_from classes offers asked (limited_program classes offers asked) (limits_list (length offers) ++ u ∷ []) (map (λ (offer : Offer). pos (offer.limit * offer_divisor classes offer)) offers ++ pos 1 ∷ [])
    (subst (IsMadeOf (limited_program classes offers asked)) (append_assoc (map (class_row classes offers asked) classes) (limits_list (length offers)) (u ∷ [])) (limited_made classes offers asked))
    (append_assoc (map (λ (x : Outcome). pos 0) classes) (map (λ (offer : Offer). pos (offer.limit * offer_divisor classes offer)) offers) (pos 1 ∷ [])) refl
    (omega (arith, length-append (limits_list (length offers)) (u ∷ [])))

pub limited_cap : (classes : List Outcome) (offers : List Offer) (asked : Outcome → ℤ) → HasCap (limited_program classes offers asked) (length classes + length offers)
limited_cap classes offers asked =
    subst (HasCap (limited_program classes offers asked)) (length-before_cap classes offers asked)
    (cap_from (limited_program classes offers asked) (before_cap classes offers asked) (before_one classes offers) (length offers) (limited_made classes offers asked) refl
    (length-before_one classes offers ∙ sym (length-before_cap classes offers asked)))

-- what the row of a limit says: the offer's column is at most the limit by the divisor
pub record HasLimitRows (classes : List Outcome) (offers : List Offer) (program : LinearProgram) : Type 0 where
  pub here : (i : ℕ) → i < length offers → coefficient program (length classes + i) (suc i) ≡ pos 1
  pub elsewhere : (i c : ℕ) → i < length offers → c ≢ suc i → coefficient program (length classes + i) c ≡ pos 0
  pub right : (i : ℕ) (o : Offer) → i < length offers → entry program.right_sides (length classes + i) ≡ pos ((slice_index_or offers i o).limit * offer_divisor classes (slice_index_or offers i o))

pub limited_limits : (classes : List Outcome) (offers : List Offer) (asked : Outcome → ℤ) → HasLimitRows classes offers (limited_program classes offers asked)
limited_limits classes offers asked =
    let program = limited_program classes offers asked in
    let n = length offers in
    let m = length classes in
    let f = class_row classes offers asked in
    let g : ℕ → List ℤ = λ column. unit_row (suc n) column in
    let u = unit_row (suc n) 0 in
    let row : (i : ℕ) → i < n → coefficient_row program (m + i) ≡ g (suc i) =
    λ i h. row_of program (before_cap classes offers asked ++ u ∷ []) (m + i) (limited_made classes offers asked) (omega (arith, h))
    ∙ get_or_append_left (before_cap classes offers asked) (u ∷ []) [] (m + i) (omega (arith, length-before_cap classes offers asked, h))
    ∙ get_or-append_right (map f classes) (limits_list n) m (m + i) [] (length-map classes f) (omega arith)
    ∙ ap (λ k. slice_index_or (limits_list n) k []) (let e : m + i - m ≡ i = omega arith in e)
    ∙ get_or-map-range_with_len g 1 n i (suc i) [] h (omega arith) in
    let rights : Offer → ℤ = λ offer. pos (offer.limit * offer_divisor classes offer) in
    record {
      here = λ i h. ap (λ r. entry r (suc i)) (row i h) ∙ unit_here (suc n) (suc i);
      elsewhere = λ i c h differ. ap (λ r. entry r c) (row i h) ∙ unit_elsewhere (suc n) (suc i) c differ;
      right = λ i o h.
          get_or_append_left (before_one classes offers) (pos 1 ∷ []) (pos 0) (m + i) (omega (arith, length-before_one classes offers, h))
          ∙ get_or-append_right (map (λ (x : Outcome). pos 0) classes) (map rights offers) m (m + i) (pos 0) (length-map classes (λ (x : Outcome). pos 0)) (omega arith)
          ∙ ap (entry (map rights offers)) (let e : m + i - m ≡ i = omega arith in e)
          ∙ get_or-map rights offers i o (pos 0) h;
    }
