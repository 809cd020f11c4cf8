-- Bytes that are appended in parts, of which the last is cut short.
use Rattle.std.proofs.Common.{◌+◌, ℕ, List, ◌++◌, length, take, Option, sym, subst, arith, length-append}
use Rattle.std.specs.Io.KnownBytes.{Appends}
use Rattle.std.proofs.KnownBytes.{Appends-trans}
use Rattle.std.proofs.Math.Seq.{take-append-add}
use Rattle.std.proofs.lemmas.List.{take-append-le}
use Rattle.desk_io.specs.Sink.{AppendsPrefix}

-- all of the first part, and some of the second
pub append_then_prefix : (old mid new : Option (List ℕ)) (first second : List ℕ) → Appends old mid first → AppendsPrefix mid new second → AppendsPrefix old new (first ++ second)
append_then_prefix old mid new first second whole (count, less, cut) = (
  length first + count,
  omega (arith, less, length-append first second),
  subst (Appends old new) (sym (take-append-add first second count)) (Appends-trans old mid new first (take count second) whole cut),
)

-- some of the first part, and none of the second
pub prefix_of_first : (old new : Option (List ℕ)) (first second : List ℕ) → AppendsPrefix old new first → AppendsPrefix old new (first ++ second)
prefix_of_first old new first second (count, less, cut) = (
  count,
  omega (arith, less, length-append first second),
  subst (Appends old new) (sym (take-append-le count first second (omega (arith, less)))) cut,
)
