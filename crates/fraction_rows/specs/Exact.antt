-- Exact division by a product.
use Rattle.std.specs.Prelude.{◌≡◌, ℕ, ◌*◌, ◌/◌, ◌^◌, ℤ, pos, ◌*ℤ◌}
use Rattle.std.specs.Int.{Width, int_wrap}

-- a divisor is a power of two times another number, of which this is the inverse in the arithmetic of a width
pub record HasInverse (width : Width) (divisor twos : ℕ) (inverse : ℤ) : Type 0 where
  pub is : divisor ≡ 2 ^ twos * (divisor / 2 ^ twos)
  pub unit : int_wrap width (pos (divisor / 2 ^ twos) *ℤ inverse) ≡ pos 1
