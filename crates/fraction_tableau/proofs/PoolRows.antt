-- Rows of a pool.
use Rattle.std.proofs.Common.{◌≡◌, ◌≢◌, ℕ, zero, suc, ◌+◌, ◌-◌, ◌<◌, ◌≤◌, List, [], ◌∷◌, ◌++◌, length, drop, map, get_or, set, replicate, refl, sym, ap, ap₂, subst, subst₂, true≢false, lt_of_lt_of_le, pow_mono, ◌∙◌, inl, inr, arith}
use Rattle.std.specs.Prelude.{Option, Some, None, IsSome, is_some, pos}
use Rattle.std.specs.List.{All}
use Rattle.std.proofs.lemmas.Bool.{cases_eq, cases_lt}
use Rattle.std.proofs.lemmas.List.Elements.{All-set}
use Rattle.std.proofs.lemmas.List.{get_or-set_same, get_or-set_other, get_or_default, get_or_past, get_or-map, map-set, length-set, length-map, set-get_or, length_push, get_or_at, get_or_push, get_or_append_left, length-append, length-replicate, set_at, set-append_right, append_assoc, replicate_more, drop-replicate}
use lib.IntN.{ℤ}
use Rattle.fraction_rows.specs.BitLengths.{HasBits}
use Rattle.row_pool.specs.Pools.{Pool, row_at, with_row, IsFree, free_rows, zeros}
use Rattle.row_pool.specs.declared.pool.RowId.{RowId}
use Rattle.fraction_tableau.specs.Rows.{numbers, row_in, all_rows, filled, AreIds, AreRows}

-- the numbers of a row that is out
pub row_in_is : (pool : Pool) (row : ℕ) (x : List ℤ) → row_at pool row ≡ Some x → x ≡ row_in pool row
row_in_is pool row x is = sym (ap numbers is)

-- a row by its number in the list of all rows
pub in_all_rows : (pool : Pool) (row : ℕ) → row < length pool.rows → get_or (all_rows pool) row [] ≡ row_in pool row
in_all_rows pool row within = get_or-map numbers pool.rows row None [] within

-- one row written is one row of the list written
pub all_rows-written : (pool : Pool) (row : ℕ) (new : List ℤ) → all_rows (with_row pool row (Some new)) ≡ set (all_rows pool) row new
all_rows-written pool row new = map-set numbers pool.rows row (Some new)

-- a row that is not written stays
pub row_at-other : (pool : Pool) (row other : ℕ) (new : Option (List ℤ)) → other ≢ row → row_at (with_row pool row new) other ≡ row_at pool other
row_at-other pool row other new differ = get_or-set_other pool.rows row other new None differ

pub row_at-same : (pool : Pool) (row : ℕ) (new : Option (List ℤ)) → row < length pool.rows → row_at (with_row pool row new) row ≡ new
row_at-same pool row new within = get_or-set_same pool.rows row new None within

-- a row that is given back is free, and the others stay
pub row_at-freed : (pool : Pool) (row : ℕ) → row_at (with_row pool row None) row ≡ None
row_at-freed pool row = freed pool.rows row where
  freed : (rows : List (Option (List ℤ))) (row : ℕ) → get_or (set rows row None) row None ≡ None
  freed [] row = refl
  freed (x ∷ rows) zero = refl
  freed (x ∷ rows) (suc row) = freed rows row

-- an id is that of the row of its number
pub id_is : (pool : Pool) (ids : List RowId) (row : ℕ) (id : RowId) → AreIds pool ids → row < length ids → id ≡ get_or ids row id → id.number ≡ row
id_is pool ids row id is within read = ap (λ (i : RowId). i.number) read ∙ is.numbered row id within

-- ids stay if a row is written
pub AreIds-written : (pool : Pool) (ids : List RowId) (row : ℕ) (new : List ℤ) → AreIds pool ids → row < length pool.rows → AreIds (with_row pool row (Some new)) ids
AreIds-written pool ids row new is within = record {
  numbered = is.numbered;
  out = λ other below. elim (cases_eq other row) [
    | inl same ↦ subst (λ k. IsSome (row_at (with_row pool row (Some new)) k)) (sym same) (ap is_some (row_at-same pool row (Some new) within))
    | inr differ ↦ ap is_some (row_at-other pool row other (Some new) differ) ∙ is.out other below
  ];
}

-- a row written, whose bits are kept anew
pub AreRows-written : (pool : Pool) (ids : List RowId) (bits : List ℕ) (row bit : ℕ) (new : List ℤ) → AreRows pool ids bits → row < length pool.rows → All (HasBits bit) new → AreRows (with_row pool row (Some new)) ids (set bits row bit)
AreRows-written pool ids bits row bit new is within has = record {
  id_count = is.id_count ∙ sym (length-set pool.rows row (Some new));
  bit_count = length-set bits row bit ∙ is.bit_count ∙ sym (length-set pool.rows row (Some new));
  ids_are = AreIds-written pool ids row new is.ids_are within;
  enough = λ other d below. elim (cases_eq other row) [
    | inl same ↦ subst (λ k. All (HasBits (get_or (set bits row bit) k d)) (row_in (with_row pool row (Some new)) k)) (sym same)
        (subst₂ (λ b (xs : List ℤ). All (HasBits b) xs) (sym (get_or-set_same bits row bit d (omega (arith, is.bit_count, within)))) (sym (ap numbers (row_at-same pool row (Some new) within))) has)
    | inr differ ↦ subst₂ (λ b (xs : List ℤ). All (HasBits b) xs) (sym (get_or-set_other bits row other bit d differ)) (sym (ap numbers (row_at-other pool row other (Some new) differ)))
        (is.enough other d (omega (arith, below, length-set bits row bit)))
  ];
}

-- the same if the bits that were kept are enough
pub AreRows-kept : (pool : Pool) (ids : List RowId) (bits : List ℕ) (row : ℕ) (new : List ℤ) → AreRows pool ids bits → row < length pool.rows → All (HasBits (get_or bits row 0)) new → AreRows (with_row pool row (Some new)) ids bits
AreRows-kept pool ids bits row new is within has = subst (AreRows (with_row pool row (Some new)) ids) (set-get_or bits row 0) (AreRows-written pool ids bits row (get_or bits row 0) new is within has)

-- the last row is given back
pub given_back : (pool : Pool) (ids rest : List RowId) (id : RowId) → AreIds pool ids → ids ≡ rest ++ id ∷ [] → ((row : ℕ) → length ids ≤ row → row_at pool row ≡ None)
    → AreIds (with_row pool id.number None) rest × ((row : ℕ) → length rest ≤ row → row_at (with_row pool id.number None) row ≡ None)
given_back pool ids rest id is split free =
    let count : length ids ≡ length rest + 1 = ap length split ∙ length_push rest id in
    let last : get_or ids (length rest) id ≡ id = ap (λ xs. get_or xs (length rest) id) split ∙ get_or_at rest id [] id (length rest) refl in
    let number : id.number ≡ length rest = ap (λ (i : RowId). i.number) (sym last) ∙ is.numbered (length rest) id (omega (arith, count)) in (
      record {
        numbered = λ row d below.
            ap (λ (i : RowId). i.number) (sym (get_or_append_left rest (id ∷ []) d row below) ∙ ap (λ xs. get_or xs row d) (sym split)) ∙ is.numbered row d (omega (arith, count, below));
        out = λ row below.
            (let differ : row ≢ id.number = omega (arith, number, below) in
            ap is_some (row_at-other pool id.number row None differ) ∙ is.out row (omega (arith, count, below)));
      },
      λ row above. elim (cases_eq row id.number) [
        | inl same ↦ subst (λ k. row_at (with_row pool id.number None) k ≡ None) (sym same) (row_at-freed pool id.number)
        | inr differ ↦ row_at-other pool id.number row None differ ∙ free row (omega (arith, count, number, above, differ))
      ],
    )

-- the rows behind those that were taken
next_free : (rows : List (Option (List ℤ))) (x : Option (List ℤ)) (k count : ℕ) → rows ≡ replicate k x ++ replicate (count - k) None → k < count → rows ≡ replicate k x ++ None ∷ replicate (count - (k + 1)) None
next_free rows x k count is below = is ∙ ap (λ n. replicate k x ++ replicate n None) (let e : count - k ≡ suc (count - (k + 1)) = omega arith in e)

next_is_free : (rows : List (Option (List ℤ))) (x : Option (List ℤ)) (k count : ℕ) → rows ≡ replicate k x ++ replicate (count - k) None → k < count → get_or rows k None ≡ None
next_is_free rows x k count is below = ap (λ ys. get_or ys k None) (next_free rows x k count is below) ∙ get_or_at (replicate k x) None (replicate (count - (k + 1)) None) None k (length-replicate k x)

pub not_all_out : (rows : List (Option (List ℤ))) (x : Option (List ℤ)) (k count : ℕ) → rows ≡ replicate k x ++ replicate (count - k) None → k < count → ¬ All IsSome rows
not_all_out rows x k count is below all =
    let many : length rows ≡ k + (count - k) = ap length is ∙ length-append (replicate k x) (replicate (count - k) None) ∙ ap₂ (λ n m. n + m) (length-replicate k x) (length-replicate (count - k) None) in
    true≢false (sym (all k None (omega (arith, many, below))) ∙ ap is_some (next_is_free rows x k count is below))

-- the next row is taken
pub taken_next : (pool after : Pool) (width k count : ℕ) (ids : List RowId) (id : RowId) → pool.width ≡ width → pool.rows ≡ replicate k (Some (zeros width)) ++ replicate (count - k) None → k < count → AreIds pool ids → length ids ≡ k → IsFree pool id.number → ((row : ℕ) → row < id.number → IsSome (row_at pool row)) → after ≡ with_row pool id.number (Some (zeros pool.width))
    → (after.width ≡ width) × (after.rows ≡ replicate (k + 1) (Some (zeros width)) ++ replicate (count - (k + 1)) None) × AreIds after (ids ++ id ∷ [])
taken_next pool after width k count ids id wide rows below is many free first after_is =
    let x : Option (List ℤ) = Some (zeros width) in
    let rest : List (Option (List ℤ)) = replicate (count - (k + 1)) None in
    let number : id.number ≡ k = elim (cases_eq id.number k) [
      | inl same ↦ same
      | inr differ ↦ elim (cases_lt id.number k) [
        | inl less ↦ absurd (true≢false (sym (is.out id.number (omega (arith, less, many))) ∙ ap is_some free.free))
        | inr more ↦ absurd (true≢false (sym (first k (omega (arith, more, differ))) ∙ ap is_some (next_is_free pool.rows x k count rows below)))
      ]
    ] in
    let within : id.number < length pool.rows = free.within in
    let written : with_row pool id.number (Some (zeros pool.width)) ≡ with_row pool id.number x = ap (λ n. with_row pool id.number (Some (zeros n))) wide in
    let here : after ≡ with_row pool id.number x = after_is ∙ written in (
      ap (λ (p : Pool). p.width) here ∙ wide,
      ap (λ (p : Pool). p.rows) here ∙ ap₂ (λ xs n. set xs n x) (next_free pool.rows x k count rows below) number
          ∙ set_at (replicate k x) None rest x k (length-replicate k x) ∙ sym (append_assoc (replicate k x) (x ∷ []) rest) ∙ ap (λ xs. xs ++ rest) (replicate_more k x),
      subst (λ p. AreIds p (ids ++ id ∷ [])) (sym here) (record {
        numbered = λ row d small. elim (cases_eq row k) [
          | inl same ↦ ap (λ (i : RowId). i.number) (ap (λ n. get_or (ids ++ id ∷ []) n d) same ∙ get_or_push ids id d k many) ∙ number ∙ sym same
          | inr differ ↦
              (let less : row < length ids = omega (arith, small, length_push ids id, many, differ) in
              ap (λ (i : RowId). i.number) (get_or_append_left ids (id ∷ []) d row less) ∙ is.numbered row d less)
        ];
        out = λ row small. elim (cases_eq row id.number) [
          | inl same ↦ subst (λ n. IsSome (row_at (with_row pool id.number x) n)) (sym same) (ap is_some (row_at-same pool id.number x within))
          | inr differ ↦ ap is_some (row_at-other pool id.number row x differ) ∙ is.out row (omega (arith, small, length_push ids id, many, number, differ))
        ];
      }),
    )

-- a constraint row as it is filled
pub filled_is : (coefs copy row : List ℤ) (right read : ℤ) → copy ≡ coefs → row ≡ zeros (length coefs + 3) → read ≡ right → set (set (copy ++ drop (length coefs) row) (length coefs) read) (length coefs + 1) (pos 1) ≡ filled coefs right
filled_is coefs copy row right read copied was is =
    let n = length coefs in
    let rest : drop n row ≡ pos 0 ∷ pos 0 ∷ pos 0 ∷ [] = ap (drop n) was ∙ drop-replicate n (n + 3) (pos 0) ∙ ap (λ k. replicate k (pos 0)) (let e : n + 3 - n ≡ 3 = omega arith in e) in
    ap₂ (λ (xs ys : List ℤ). set (set (xs ++ ys) n read) (n + 1) (pos 1)) copied rest
    ∙ ap (λ (xs : List ℤ). set xs (n + 1) (pos 1)) (set_at coefs (pos 0) (pos 0 ∷ pos 0 ∷ []) read n refl)
    ∙ set-append_right coefs (read ∷ pos 0 ∷ pos 0 ∷ []) n (n + 1) (pos 1) refl (omega arith)
    ∙ ap (λ k. coefs ++ set (read ∷ pos 0 ∷ pos 0 ∷ []) k (pos 1)) (let e : n + 1 - n ≡ 1 = omega arith in e)
    ∙ ap (λ z. coefs ++ z ∷ pos 1 ∷ pos 0 ∷ []) is

-- what is read of a row by its id
pub record IsRowOf (pool : Pool) (now : List (List ℤ)) (row : ℕ) (id : RowId) : Type 0 where
  pub within : row < length pool.rows
  pub number : id.number ≡ row
  pub row_is : row_in pool id.number ≡ get_or now row []

pub is_row_of : (pool : Pool) (ids : List RowId) (bits : List ℕ) (now : List (List ℤ)) (row : ℕ) (id : RowId) → AreRows pool ids bits → all_rows pool ≡ now → row < length now → id ≡ get_or ids row id → IsRowOf pool now row id
is_row_of pool ids bits now row id is view below read =
    let count : length now ≡ length pool.rows = ap length (sym view) ∙ length-map pool.rows numbers in
    let within : row < length pool.rows = omega (arith, count) in
    let number = id_is pool ids row id is.ids_are (omega (arith, is.id_count)) read in
    record {
      within = within;
      number = number;
      row_is = ap (row_in pool) number ∙ sym (in_all_rows pool row within) ∙ ap (λ (xs : List (List ℤ)). get_or xs row []) view;
    }

-- the bits that are kept with a row
pub bits_of_row : (pool : Pool) (ids : List RowId) (bits : List ℕ) (now : List (List ℤ)) (row bit : ℕ) → AreRows pool ids bits → all_rows pool ≡ now → row < length now → bit ≡ get_or bits row bit → All (HasBits bit) (get_or now row [])
bits_of_row pool ids bits now row bit is view below read =
    let count : length now ≡ length pool.rows = ap length (sym view) ∙ length-map pool.rows numbers in
    let within : row < length pool.rows = omega (arith, count) in
    subst₂ (λ b (xs : List ℤ). All (HasBits b) xs) (sym read) (sym (in_all_rows pool row within) ∙ ap (λ (xs : List (List ℤ)). get_or xs row []) view) (is.enough row bit (omega (arith, is.bit_count)))

-- the rows after one is written
pub view_written : (pool after : Pool) (now : List (List ℤ)) (row : ℕ) (id : RowId) (new wanted : List ℤ) → IsRowOf pool now row id → all_rows pool ≡ now → after ≡ with_row pool id.number (Some new) → new ≡ wanted → all_rows after ≡ set now row wanted
view_written pool after now row id new wanted is view after_is new_is =
    ap all_rows after_is ∙ all_rows-written pool id.number new ∙ ap₂ (λ (xs : List (List ℤ)) n. set xs n new) view is.number ∙ ap (set now row) new_is

pub rows_written : (pool after : Pool) (ids : List RowId) (bits : List ℕ) (now : List (List ℤ)) (row bit : ℕ) (id : RowId) (new : List ℤ) → AreRows pool ids bits → IsRowOf pool now row id → after ≡ with_row pool id.number (Some new) → All (HasBits bit) new → AreRows after ids (set bits row bit)
rows_written pool after ids bits now row bit id new are is after_is has =
    subst (λ p. AreRows p ids (set bits row bit)) (sym (after_is ∙ ap (λ n. with_row pool n (Some new)) is.number)) (AreRows-written pool ids bits row bit new are is.within has)

-- more bits are enough too
pub has_more : (bits more : ℕ) (x : ℤ) → bits ≤ more → HasBits bits x → HasBits more x
has_more bits more x le has = lt_of_lt_of_le has (pow_mono le)

-- a number put into a row
pub put_has : (row : List ℤ) (place bits number_bits more : ℕ) (number : ℤ) → All (HasBits bits) row → All (HasBits number_bits) (number ∷ []) → bits ≤ more → number_bits ≤ more → All (HasBits more) (set row place number)
put_has row place bits number_bits more number has has_number le number_le =
    All-set (HasBits more) row place number (has_more number_bits more number number_le (has_number 0 number (omega arith))) (λ k d below. has_more bits more (get_or row k d) le (has k d below))

-- all rows taken out of a pool of free rows
pub all_taken : (pool before : Pool) (count width : ℕ) → pool.rows ≡ replicate count (Some (zeros before.width)) → before ≡ free_rows count width → all_rows pool ≡ replicate count (zeros width)
all_taken pool before count width rows free = ap (map numbers) rows ∙ each count (zeros before.width) ∙ ap (λ (p : Pool). replicate count (zeros p.width)) free where
  each : (n : ℕ) (x : List ℤ) → map numbers (replicate n (Some x)) ≡ replicate n x
  each zero x = refl
  each (suc n) x = ap (λ xs. x ∷ xs) (each n x)
