-- Parts of a block of numbers.
use Rattle.std.specs.Prelude.{◌≡◌, ℕ, ◌+◌, List, ◌++◌, length, take, drop, ℤ}
use Rattle.std.specs.Fn.{FnOnceReturnsAtMut}
use Rattle.row_pool.specs.Changes.{OfRow, OfRows, ReturnsAtRows}

-- so many numbers of a block from a place on
abbrev pub part_of : List ℤ → ℕ → ℕ → List ℤ
part_of block start width = take width (drop start block)

-- the block with other numbers from a place on
abbrev pub with_part : List ℤ → ℕ → List ℤ → List ℤ
with_part block start new = take start block ++ new ++ drop (start + length new) block

-- the closure was called on a part and returned this; the block has in that part as many numbers, those that it left there, and else is as before
pub record PartChanged {F R : Type 0} (g : OfRow F R) (change : F) (before : List ℤ) (start width : ℕ) (result : R) (after : List ℤ) : Type 0 where
  pub new : List ℤ
  pub as_many : length new ≡ width
  pub returned : FnOnceReturnsAtMut g change (part_of before start width) result new
  pub is : after ≡ with_part before start new

-- the closure was called on two parts and returned this; the block has in the first as many numbers, those that it left there, and else is as before
pub record PartChangedBy {F R : Type 0} (g : OfRows F R) (change : F) (before : List ℤ) (target pivot width : ℕ) (result : R) (after : List ℤ) : Type 0 where
  pub new : List ℤ
  pub as_many : length new ≡ width
  pub returned : ReturnsAtRows g change (part_of before target width) (part_of before pivot width) result new
  pub is : after ≡ with_part before target new
