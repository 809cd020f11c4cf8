-- The rows of a block.
use Rattle.std.proofs.Common.{◌≡◌, ℕ, zero, suc, ◌+◌, ◌-◌, ◌*◌, ◌<◌, ◌≤◌, List, [], ◌∷◌, ◌++◌, length, take, drop, get_or, set, replicate, Bool, true, false, refl, ap, ap₂, ◌∙◌, arith}
use Rattle.std.specs.Prelude.{Some, None, IsSome, IsTrue, if◌then◌else◌}
use Rattle.std.specs.List.{All, slice_get}
use Rattle.std.proofs.lemmas.List.{length-drop, drop-drop, take_at, drop_at}
use Rattle.std.proofs.lemmas.List.Elements.{All-nil, All-cons, All-head, All-tail}
use Rattle.std.proofs.lemmas.Nat.{mul-le}
use lib.IntN.{ℤ}
use Rattle.row_pool.specs.Pools.{rows_of}
use Rattle.row_pool.specs.Parts.{part_of, with_part}
use Rattle.row_pool.proofs.Blocks.{before_part, behind_first}

-- there is a row for each mark
pub length-rows_of : (width : ℕ) (outs : List Bool) (block : List ℤ) → length (rows_of width outs block) ≡ length outs
length-rows_of width [] block = refl
length-rows_of width (out ∷ outs) block = ap suc (length-rows_of width outs (drop width block))

-- a row that is out is one of the block's parts
pub record IsPart (width : ℕ) (outs : List Bool) (block : List ℤ) (row : ℕ) : Type 0 where
  pub within : row < length outs
  pub is : get_or (rows_of width outs block) row None ≡ Some (part_of block (row * width) width)

further : (width row : ℕ) (block : List ℤ) → part_of (drop width block) (row * width) width ≡ part_of block (suc row * width) width
further width row block = ap (take width) (drop-drop (row * width) width block ∙ ap (λ n. drop n block) (let e : width + row * width ≡ suc row * width = omega arith in e))

first : (width : ℕ) (block : List ℤ) → take width block ≡ part_of block (0 * width) width
first width block = ap (λ n. take width (drop n block)) (let e : 0 ≡ 0 * width = omega arith in e)

pub out_is_part : (width : ℕ) (outs : List Bool) (block : List ℤ) (row : ℕ) → IsSome (get_or (rows_of width outs block) row None) → IsPart width outs block row
out_is_part width [] block row out = absurd (cc)
out_is_part width (true ∷ outs) block zero out = record { within = omega arith; is = ap Some (first width block) }
out_is_part width (false ∷ outs) block zero out = absurd (cc)
out_is_part width (o ∷ outs) block (suc row) out =
    let rest = out_is_part width outs (drop width block) row out in
    record { within = omega (arith, rest.within); is = rest.is ∙ ap Some (further width row block) }

-- a row without a mark is free
pub unmarked_is_free : (width : ℕ) (outs : List Bool) (block : List ℤ) (row : ℕ) → slice_get outs row ≡ Some false → get_or (rows_of width outs block) row None ≡ None
unmarked_is_free width [] block row none = refl
unmarked_is_free width (true ∷ outs) block zero is = absurd (cc)
unmarked_is_free width (false ∷ outs) block zero is = refl
unmarked_is_free width (o ∷ outs) block (suc row) is = unmarked_is_free width outs (drop width block) row is

-- a row that is in the block ends in it
pub ends_within : (width : ℕ) (outs : List Bool) (block : List ℤ) (row : ℕ) → length block ≡ length outs * width → row < length outs → row * width + width ≤ length block
ends_within width outs block row whole within =
    let le : suc row * width ≤ length outs * width = mul-le (suc row) width (length outs) width (omega arith) (omega arith) in
    omega (arith, le, whole)

-- one row written and marked: that row is as written, or free, and every other row is as before
pub row_written : (width : ℕ) (outs : List Bool) (block : List ℤ) (row : ℕ) (out : Bool) (new : List ℤ) → row < length outs → length outs * width ≤ length block → length new ≡ width → rows_of width (set outs row out) (with_part block (row * width) new) ≡ set (rows_of width outs block) row (if out then Some new else None)
row_written width [] block row out new within whole count = absurd (omega arith)
row_written width (o ∷ outs) block zero out new within whole count =
    let start : with_part block (0 * width) new ≡ new ++ drop (length new) block = ap (λ n. take n block ++ new ++ drop (n + length new) block) (let e : 0 * width ≡ 0 = omega arith in e) ∙ ap (λ n. new ++ drop n block) (let e : 0 + length new ≡ length new = omega arith in e) in
    let front = ap (take width) start ∙ take_at new (drop (length new) block) width count in
    let back = ap (drop width) start ∙ drop_at new (drop (length new) block) width count ∙ ap (λ n. drop n block) count in
    ap₂ (λ (x xs : List ℤ). (if out then Some x else None) ∷ rows_of width outs xs) front back
row_written width (o ∷ outs) block (suc row) out new within whole count =
    let le : suc row * width ≤ length outs * width = mul-le (suc row) width (length outs) width (omega arith) (omega arith) in
    let room : width + row * width ≤ length block = omega (arith, le, whole) in
    let left : length (drop width block) ≡ length block - width = length-drop width block in
    let start : with_part block (suc row * width) new ≡ with_part block (width + row * width) new = ap (λ n. with_part block n new) (let e : suc row * width ≡ width + row * width = omega arith in e) in
    ap₂ (λ (x xs : List ℤ). (if o then Some x else None) ∷ rows_of width (set outs row out) xs) (ap (take width) start ∙ before_part width (row * width) block new room) (ap (drop width) start ∙ behind_first width (row * width) block new room)
    ∙ ap (λ rows. (if o then Some (take width block) else None) ∷ rows) (row_written width outs (drop width block) row out new (omega arith) (omega (arith, left, whole)) count)

-- a row marked as free, with nothing written
pub row_freed : (width : ℕ) (outs : List Bool) (block : List ℤ) (row : ℕ) → rows_of width (set outs row false) block ≡ set (rows_of width outs block) row None
row_freed width [] block row = refl
row_freed width (o ∷ outs) block zero = refl
row_freed width (o ∷ outs) block (suc row) = ap (λ rows. (if o then Some (take width block) else None) ∷ rows) (row_freed width outs (drop width block) row)

-- a row that is out stays marked
pub mark_stays : (width : ℕ) (outs : List Bool) (block : List ℤ) (row : ℕ) → IsSome (get_or (rows_of width outs block) row None) → set outs row true ≡ outs
mark_stays width [] block row out = refl
mark_stays width (true ∷ outs) block zero out = refl
mark_stays width (false ∷ outs) block zero out = absurd (cc)
mark_stays width (o ∷ outs) block (suc row) out = ap (λ xs. o ∷ xs) (mark_stays width outs (drop width block) row out)

-- where every row is marked, every row is out
pub all_out : (width : ℕ) (outs : List Bool) (block : List ℤ) → All IsTrue outs → All IsSome (rows_of width outs block)
all_out width [] block all = All-nil IsSome
all_out width (true ∷ outs) block all = All-cons IsSome (Some (take width block)) (rows_of width outs (drop width block)) refl (all_out width outs (drop width block) (All-tail IsTrue true outs all))
all_out width (false ∷ outs) block all = let marked : IsTrue false = All-head IsTrue false outs all in absurd (cc)

-- rows without marks are free
pub rows_free : (width rows : ℕ) (block : List ℤ) → rows_of width (replicate rows false) block ≡ replicate rows None
rows_free width zero block = refl
rows_free width (suc rows) block = ap (λ xs. None ∷ xs) (rows_free width rows (drop width block))

-- a row with a mark is out
pub marked_is_out : (width : ℕ) (outs : List Bool) (block : List ℤ) (row : ℕ) → get_or outs row false ≡ true → IsSome (get_or (rows_of width outs block) row None)
marked_is_out width [] block row is = absurd (cc)
marked_is_out width (true ∷ outs) block zero is = refl
marked_is_out width (false ∷ outs) block zero is = absurd (cc)
marked_is_out width (o ∷ outs) block (suc row) is = marked_is_out width outs (drop width block) row is
