-- A combination that is written over its target, entry by entry, and the bits of the entries that are written.
use Rattle.std.proofs.Common.{◌≡◌, ℕ, ◌+◌, ◌<◌, ◌≤◌, ◌^◌, List, length, set, All, ℤ, ◌-ℤ◌, ◌*ℤ◌, unsigned_abs, bit_or, ap, subst, sym, ◌∙◌, arith}
use Rattle.std.specs.List.{AllWithin}
use Rattle.std.proofs.lemmas.List.Elements.{All-from_all_within, AllWithin-upto}
use Rattle.row_definitions.specs.Rows.{entry}
use Rattle.row_definitions.specs.Combination.{combination}
use Rattle.row_definitions.proofs.Combinations.{length-combination, entry-combination}
use Rattle.fraction_rows.specs.BitLengths.{HasBits}
use Rattle.fraction_rows.proofs.BitLengths.{enough-more}
use Rattle.fraction_rows.proofs.Written.{written, entry-written, set-written, written-all}

-- so many bits are enough for the entries that are written, where they are for all their sizes together
abbrev pub AreTogether : List ℤ → ℕ → ℕ → Type 0
AreTogether row sizes i = (k : ℕ) → sizes < 2 ^ k → AllWithin (HasBits k) row 0 i

module _ (a b : ℤ) (target pivot row : List ℤ) (i : ℕ) (lengths : length target ≡ length pivot) (so_far : row ≡ written (combination a b target pivot) target i) where
  -- the next entry is still that of the target
  pub next-entry : i < length target → entry row i ≡ entry target i
  next-entry within = ap (λ r. entry r i) so_far ∙ entry-written (combination a b target pivot) target i (length-combination a b target pivot lengths) within

  -- one more entry is written
  pub next-written : i < length target → (y : ℤ) → y ≡ a *ℤ entry target i -ℤ b *ℤ entry pivot i → set row i y ≡ written (combination a b target pivot) target (i + 1)
  next-written within y is =
      ap (λ r. set r i y) so_far ∙ set-written (combination a b target pivot) target i y (length-combination a b target pivot lengths) within (is ∙ sym (entry-combination a b target pivot i lengths))

  pub next-together : i < length target → (y : ℤ) → y ≡ a *ℤ entry target i -ℤ b *ℤ entry pivot i → (sizes size : ℕ) → size ≡ unsigned_abs y
      → AreTogether (combination a b target pivot) sizes i → AreTogether (combination a b target pivot) (bit_or sizes size) (i + 1)
  next-together within y is sizes size size_is before =
      let new = combination a b target pivot in
      let count = length-combination a b target pivot lengths in
      let whole = size_is ∙ ap unsigned_abs (is ∙ sym (entry-combination a b target pivot i lengths)) in
      subst (λ n. AreTogether new (bit_or sizes n) (i + 1)) (sym whole) (enough-more new i sizes (omega arith) before)

  -- all are written
  pub all-written : length target ≤ i → row ≡ combination a b target pivot
  all-written whole = so_far ∙ written-all (combination a b target pivot) target i (length-combination a b target pivot lengths) whole

  pub all-together : length target ≤ i → (sizes bits : ℕ) → AreTogether (combination a b target pivot) sizes i → sizes < 2 ^ bits → All (HasBits bits) row
  all-together whole sizes bits together enough =
      let new = combination a b target pivot in
      let count = length-combination a b target pivot lengths in
      subst (All (HasBits bits)) (sym (all-written whole)) (All-from_all_within (HasBits bits) new (AllWithin-upto (HasBits bits) new 0 i (length new) (omega arith) (together bits enough)))
