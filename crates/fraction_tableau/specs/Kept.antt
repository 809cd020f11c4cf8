-- What a tableau keeps, and the tableau that it stands for.
use Rattle.std.specs.Prelude.{◌+◌, ◌<◌, length}
use Rattle.pivot_definitions.specs.Tableaus.{IsKeptOrEmpty}
use Rattle.condensed_laws.specs.Tableaus.{CondensedTableau, IsSound, expanded}

-- what is kept is sound and stands for a tableau in kept and canonical form, or it is empty
pub record StandsForKept (t : CondensedTableau) : Type 0 where
  pub sound : 0 < t.columns + length t.basis → IsSound t
  pub kept : IsKeptOrEmpty (expanded t)
