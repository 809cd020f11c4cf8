use Rattle.std.specs.Prelude.{ℕ, List}

-- fractional stakes, one for each offer of a sheet: the parts over the divisor, in minor units
pub record Fractions : Type 0 where
  pub divisor : ℕ
  pub parts : List ℕ
