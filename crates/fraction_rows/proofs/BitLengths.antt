-- The bit length of a number, and how many bits all sizes that are read so far have together.
use Rattle.std.proofs.Common.{◌≡◌, ℕ, ◌+◌, ◌-◌, ◌*◌, ◌<◌, ◌≤◌, ◌^◌, ◌↔◌, List, length, All, ℤ, pos, unsigned_abs, bit_or, subst, arith, pow_mono, pow-add, lt_of_le_of_lt, lt_of_not-le, inl, inr, mul-le-mul_left, mul-le-mul_right, zero, suc, ap, sym, ◌∙◌, ◌*ℤ◌}
use Rattle.std.proofs.lemmas.Nat.{le_or_l, le_or_r, or_lt, leading_length}
use Rattle.std.specs.List.{AllWithin}
use Rattle.std.proofs.lemmas.List.{get_or_default}
use Rattle.std.proofs.lemmas.List.Elements.{AllWithin-more, AllWithin-upto}
use Rattle.std.proofs.lemmas.Bool.{cases_lt}
use Rattle.std.proofs.lemmas.Int.{unsigned_abs-mul}
use Rattle.std.specs.Int.{◌∣◌}
use lib.Count.{count_leading_zeros}
use Rattle.row_definitions.specs.Rows.{entry, divided}
use Rattle.row_definitions.proofs.Numbers.{divided-exact}
use Rattle.fraction_rows.specs.BitLengths.{HasBits}

-- no fewer bits are enough for a number whose highest bit is the last of them
bit_length-least : (size bits fewer : ℕ) → 2 ^ bits ≤ 2 * size + 1 → size < 2 ^ fewer → bits ≤ fewer
bit_length-least size bits fewer top below =
    let less : bits < fewer + 1 = lt_of_not-le (λ more. let power = pow_mono more in let double : 2 ^ (fewer + 1) ≡ 2 ^ fewer * 2 ^ 1 = pow-add 2 fewer 1 in omega (arith, power, double)) in
    omega (arith, less)

-- 128 bits without the leading zeros
pub bit_length-is : (size : ℕ) → size < 2 ^ 128 → (bits : ℕ) × (128 - count_leading_zeros 128 size ≡ bits) × (size < 2 ^ bits) × ((fewer : ℕ) → size < 2 ^ fewer → bits ≤ fewer)
bit_length-is size fits =
    let t = leading_length 128 size fits in
    (t.0, omega (arith, t.1), t.2, λ fewer. bit_length-least size t.0 fewer t.3)

-- one more size is read: so many bits are enough for all together just where they are for each
pub together-more : (row : List ℤ) (i sizes : ℕ) → i < length row → ((k : ℕ) → (sizes < 2 ^ k) ↔ AllWithin (HasBits k) row 0 i)
    → (k : ℕ) → (bit_or sizes (unsigned_abs (entry row i)) < 2 ^ k) ↔ AllWithin (HasBits k) row 0 (i + 1)
together-more row i sizes below so k = (
  λ less. AllWithin-more (HasBits k) row 0 i ((so k).0 (lt_of_le_of_lt (le_or_l sizes (unsigned_abs (entry row i))) less))
      (λ d. subst (HasBits k) (get_or_default row i (pos 0) d below) (lt_of_le_of_lt (le_or_r sizes (unsigned_abs (entry row i))) less)),
  λ all. or_lt k sizes (unsigned_abs (entry row i)) ((so k).1 (AllWithin-upto (HasBits k) row 0 (i + 1) i (omega arith) all)) (all i (pos 0) (omega arith) (omega arith)),
)

-- the same where one number after another is written
pub enough-more : (row : List ℤ) (i sizes : ℕ) → i < length row → ((k : ℕ) → sizes < 2 ^ k → AllWithin (HasBits k) row 0 i)
    → (k : ℕ) → bit_or sizes (unsigned_abs (entry row i)) < 2 ^ k → AllWithin (HasBits k) row 0 (i + 1)
enough-more row i sizes below so k less = AllWithin-more (HasBits k) row 0 i (so k (lt_of_le_of_lt (le_or_l sizes (unsigned_abs (entry row i))) less))
    (λ d. subst (HasBits k) (get_or_default row i (pos 0) d below) (lt_of_le_of_lt (le_or_r sizes (unsigned_abs (entry row i))) less))

-- the quotient of a number by one of more than so many bits has so many fewer
pub quotient-bits : (d bits k : ℕ) (x : ℤ) → 2 ^ k ≤ d → HasBits bits x → d ∣ unsigned_abs x → HasBits (bits - k) (divided d x)
quotient-bits d bits k x many has divides =
    let q = unsigned_abs (divided d x) in
    let size : d * q ≡ unsigned_abs x = sym (unsigned_abs-mul (pos d) (divided d x)) ∙ ap unsigned_abs (divided-exact d x divides) in
    let shorter : 2 ^ k * q ≤ d * q = mul-le-mul_right q many in
    let longest : 2 ^ bits ≤ 2 ^ (k + (bits - k)) = pow_mono (omega arith) in
    let parts : 2 ^ (k + (bits - k)) ≡ 2 ^ k * 2 ^ (bits - k) = pow-add 2 k (bits - k) in
    lt_of_not-le (λ above. let more : 2 ^ k * 2 ^ (bits - k) ≤ 2 ^ k * q = mul-le-mul_left (2 ^ k) above in omega (arith, size, shorter, longest, parts, more, has))

-- the highest bit of a size
pub highest_bit : (size bits : ℕ) → 0 < size → size < 2 ^ bits → ((fewer : ℕ) → size < 2 ^ fewer → bits ≤ fewer) → 2 ^ (bits - 1) ≤ size
highest_bit size zero some enough least = absurd (omega arith)
highest_bit size (suc bits) some enough least = elim (cases_lt size (2 ^ bits)) [ inl less ↦ absurd (let fewer = least bits less in omega arith) | inr more ↦ (let e : bits ≡ suc bits - 1 = omega arith in subst (λ n. 2 ^ n ≤ size) e more) ]
