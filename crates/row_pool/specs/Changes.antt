-- What a closure may be called on, and what it leaves in a row.
use Rattle.std.specs.Prelude.{◌≡◌, ℕ, List, Some, ℤ}
use Rattle.std.specs.Fn.{Once, FnOnceTakesAtMut, FnOnceReturnsAtMut}
use Rattle.std.specs.Borrow.{Bor, MutBor}
use Rattle.row_pool.specs.Pools.{Pool, row_at, with_row}

-- a closure that is passed one row, which it may write
abbrev pub OfRow : Type 0 → Type 0 → Type 1
OfRow F R = Once F (MutBor (List ℤ) × Unit {0}) (R × (MutBor (List ℤ) × Unit {0}))

-- a closure that is passed two rows, of which it may write the first
abbrev pub OfRows : Type 0 → Type 0 → Type 1
OfRows F R = Once F (MutBor (List ℤ) × (Bor (List ℤ) × Unit {0})) (R × (MutBor (List ℤ) × Unit {0}))

-- the closure may be called on two rows of these numbers
abbrev pub TakesRows : {F R : Type 0} → OfRows F R → F → List ℤ → List ℤ → Type 0
TakesRows g change target pivot = (first : MutBor (List ℤ)) (second : Bor (List ℤ)) → first.now ≡ target → second.now ≡ pivot → g.pre change (first, (second, tt))

-- called on two rows of these numbers the closure may return this, and leave these numbers in the first
pub record ReturnsAtRows {F R : Type 0} (g : OfRows F R) (change : F) (target pivot : List ℤ) (result : R) (new : List ℤ) : Type 0 where
  pub first : MutBor (List ℤ)
  pub second : Bor (List ℤ)
  pub shows : first.now ≡ target
  pub shows_second : second.now ≡ pivot
  pub left : MutBor (List ℤ)
  pub met : g.post change (first, (second, tt)) (result, (left, tt))
  pub leaves : left.now ≡ new

-- the closure may be called on the numbers of a row
abbrev pub CanChange : {F R : Type 0} → OfRow F R → F → Pool → ℕ → Type 0
CanChange g change pool row = (numbers : List ℤ) → row_at pool row ≡ Some numbers → FnOnceTakesAtMut g change numbers

-- the closure was called on the numbers of a row and returned this; the pool has in that row what it left there, and else is as before
pub record Changed {F R : Type 0} (g : OfRow F R) (change : F) (before : Pool) (row : ℕ) (result : R) (after : Pool) : Type 0 where
  pub old : List ℤ
  pub new : List ℤ
  pub was : row_at before row ≡ Some old
  pub returned : FnOnceReturnsAtMut g change old result new
  pub is : after ≡ with_row before row (Some new)

-- the closure may be called on the numbers of two rows
abbrev pub CanChangeBy : {F R : Type 0} → OfRows F R → F → Pool → ℕ → ℕ → Type 0
CanChangeBy g change pool target pivot = (numbers others : List ℤ) → row_at pool target ≡ Some numbers → row_at pool pivot ≡ Some others → TakesRows g change numbers others

-- the closure was called on the numbers of two rows and returned this; the pool has in the first what it left there, and else is as before
pub record ChangedBy {F R : Type 0} (g : OfRows F R) (change : F) (before : Pool) (target pivot : ℕ) (result : R) (after : Pool) : Type 0 where
  pub old : List ℤ
  pub other : List ℤ
  pub new : List ℤ
  pub was : row_at before target ≡ Some old
  pub other_was : row_at before pivot ≡ Some other
  pub returned : ReturnsAtRows g change old other result new
  pub is : after ≡ with_row before target (Some new)
