-- Parts of a block that is written in one place.
use Rattle.std.proofs.Common.{◌≡◌, ℕ, zero, suc, ◌+◌, ◌-◌, ◌*◌, ◌<◌, ◌≤◌, ◌≢◌, ◌⊎◌, inl, inr, List, ◌++◌, length, take, drop, sym, ap, ap₂, ◌∙◌, arith}
use Rattle.std.proofs.lemmas.List.{length-take-le, length-append, take-append-le, take-take, drop-append-le, drop-take, drop-drop, append_assoc, take-append-drop}
use Rattle.std.proofs.lemmas.Nat.{mul-le}
use lib.IntN.{ℤ}
use Rattle.row_pool.specs.Parts.{with_part}

-- before a part nothing changes
pub before_part : (width start : ℕ) (block new : List ℤ) → width + start ≤ length block → take width (with_part block (width + start) new) ≡ take width block
before_part width start block new within =
    let front : List ℤ = take (width + start) block in
    let count : length front ≡ width + start = length-take-le (width + start) block within in
    let whole : length (front ++ new) ≡ length front + length new = length-append front new in
    take-append-le width (front ++ new) (drop (width + start + length new) block) (omega (arith, count, whole))
    ∙ take-append-le width front new (omega (arith, count))
    ∙ take-take width (width + start) block (omega arith)

-- behind the first numbers it is the same part of what is left
pub behind_first : (width start : ℕ) (block new : List ℤ) → width + start ≤ length block → drop width (with_part block (width + start) new) ≡ with_part (drop width block) start new
behind_first width start block new within =
    let front : List ℤ = take (width + start) block in
    let count : length front ≡ width + start = length-take-le (width + start) block within in
    let whole : length (front ++ new) ≡ length front + length new = length-append front new in
    let rest : drop (width + start + length new) block ≡ drop (start + length new) (drop width block) =
    ap (λ n. drop n block) (let e : width + start + length new ≡ width + (start + length new) = omega arith in e) ∙ sym (drop-drop (start + length new) width block) in
    drop-append-le width (front ++ new) (drop (width + start + length new) block) (omega (arith, count, whole))
    ∙ ap₂ (λ (xs ys : List ℤ). xs ++ ys) (drop-append-le width front new (omega (arith, count)) ∙ ap (λ xs. xs ++ new) (drop-take width start block)) rest

-- a row in front of another ends before that one begins
pub one_before : (n m width : ℕ) → n < m → n * width + width ≤ m * width
one_before n m width below =
    let le : suc n * width ≤ m * width = mul-le (suc n) width m width (omega arith) (omega arith) in
    omega (arith, le)

-- rows of two numbers have no number in common
pub rows_apart : (n m width : ℕ) → n ≢ m → (n * width + width ≤ m * width) ⊎ (m * width + width ≤ n * width)
rows_apart n m width differ = apart_by n m width (below_or n m) differ where
  strictly : (n m : ℕ) → m ≤ n → n ≢ m → m < n
  strictly n m above differ = omega (arith, differ)

  below_or : (n m : ℕ) → (n < m) ⊎ (m ≤ n)
  below_or n zero = inr (omega arith)
  below_or zero (suc m) = inl (omega arith)
  below_or (suc n) (suc m) = elim (below_or n m) [ inl h ↦ inl (omega arith) | inr h ↦ inr (omega arith) ]

  apart_by : (n m width : ℕ) → (n < m) ⊎ (m ≤ n) → n ≢ m → (n * width + width ≤ m * width) ⊎ (m * width + width ≤ n * width)
  apart_by n m width (inl below) differ = inl (one_before n m width below)
  apart_by n m width (inr above) differ = inr (one_before m n width (strictly n m above differ))

-- of two parts that have no number in common the one that begins first ends before the other
pub first_ends : (target pivot width : ℕ) → (target + width ≤ pivot) ⊎ (pivot + width ≤ target) → target < pivot → target + width ≤ pivot
first_ends target pivot width (inl ends) below = ends
first_ends target pivot width (inr ends) below = omega arith

pub second_ends : (target pivot width : ℕ) → (target + width ≤ pivot) ⊎ (pivot + width ≤ target) → pivot ≤ target → pivot + width ≤ target
second_ends target pivot width (inl ends) above = omega arith
second_ends target pivot width (inr ends) above = ends

-- a part that ends before a place is the same part of what stands before that place
pub part_before : (block : List ℤ) (target pivot width : ℕ) → target + width ≤ pivot → take width (drop target (take pivot block)) ≡ take width (drop target block)
part_before block target pivot width ends =
    let between : ℕ = pivot - target in
    ap (λ n. take width (drop target (take n block))) (let e : pivot ≡ target + between = omega arith in e)
    ∙ ap (take width) (drop-take target between block)
    ∙ take-take width between (drop target block) (omega arith)

-- what was split before and behind the part, joined around what was written
pub joined : (block new : List ℤ) (target pivot width : ℕ) → target + width ≤ pivot → length new ≡ width →
    (take target (take pivot block) ++ (new ++ drop width (drop target (take pivot block)))) ++ drop pivot block ≡ with_part block target new
joined block new target pivot width ends count =
    let behind : List ℤ = drop (target + width) block in
    let between : ℕ = pivot - (target + width) in
    let whole : pivot ≡ target + width + between = omega arith in
    let front : take target (take pivot block) ≡ take target block = take-take target pivot block (omega arith) in
    let middle : drop width (drop target (take pivot block)) ≡ take between behind = drop-drop width target (take pivot block) ∙ ap (λ n. drop (target + width) (take n block)) whole ∙ drop-take (target + width) between block in
    let back : drop pivot block ≡ drop between behind = ap (λ n. drop n block) whole ∙ sym (drop-drop between (target + width) block) in
    ap₂ (λ (xs ys : List ℤ). xs ++ ys) (ap₂ (λ (xs ys : List ℤ). xs ++ (new ++ ys)) front middle) back
    ∙ append_assoc (take target block) (new ++ take between behind) (drop between behind)
    ∙ ap (λ (xs : List ℤ). take target block ++ xs) (append_assoc new (take between behind) (drop between behind) ∙ ap (λ (xs : List ℤ). new ++ xs) (take-append-drop between behind))
    ∙ sym (append_assoc (take target block) new behind)
    ∙ ap (λ n. take target block ++ new ++ drop (target + n) block) (sym count)
