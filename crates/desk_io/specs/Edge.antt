-- The real outside, as contracts see it: what std opened, and how many calls on it failed.
use Rattle.std.specs.Prelude.{◌≤◌, List, [], ◌++◌, ℕ, Option}
use Rattle.std.specs.Io.KnownBytes.{Consumes}
use Rattle.std.proofs.KnownBytes.{Consumes-nil, Consumes-trans}
use Rattle.std.proofs.Math.Nat.{le_refl, le_trans}

-- an opened file, and how many reads of it failed
pub record FileView (F : Type 0) : Type 0 where
  pub file : F
  pub faults : ℕ

-- an output, and how many writes to it failed
pub record OutputView (W : Type 0) : Type 0 where
  pub output : W
  pub faults : ℕ

-- reads lead from the one to the other: what std says remains is a suffix of what remained before
pub record ReadsFurther {F : Type 0} (remaining : F → Option (List ℕ)) (before after : FileView F) : Type 0 where
  pub given : List ℕ
  pub consumed : Consumes (remaining before.file) (remaining after.file) given
  pub faults : before.faults ≤ after.faults

pub reads_further_to_itself : {F : Type 0} (remaining : F → Option (List ℕ)) (view : FileView F) → ReadsFurther remaining view view
reads_further_to_itself remaining view = record { given = []; consumed = Consumes-nil (remaining view.file); faults = le_refl view.faults }

pub reads_further_on : {F : Type 0} (remaining : F → Option (List ℕ)) (first second third : FileView F) → ReadsFurther remaining first second → ReadsFurther remaining second third → ReadsFurther remaining first third
reads_further_on remaining first second third to_second to_third = record {
  given = to_second.given ++ to_third.given;
  consumed = Consumes-trans (remaining first.file) (remaining second.file) (remaining third.file) to_second.given to_third.given to_second.consumed to_third.consumed;
  faults = le_trans to_second.faults to_third.faults;
}
