-- What opening the named feeds leaves of the opener.
use Rattle.std.specs.Prelude.{ℕ, List, Result, Ok, Err}
use Rattle.desk_definitions.specs.Seen.{OpenerSeen}
use Rattle.desk_definitions.specs.Opening.{OpensAll, FailsAt, StopsAt}
use Rattle.desk_opening.specs.declared.opening.NotOpened.{NotOpened}
use Rattle.desk_opening.specs.declared.opening.NotOpened.TheVariants.{Feed, WantOfMemory}

-- all names were opened, or the opening of one failed, or no memory was left after some of them
abbrev pub OpensSo : {T : Type 0} → List (List ℕ) → OpenerSeen → Result T NotOpened → Type 0
OpensSo names opener (Ok sources) = OpensAll names opener
OpensSo names opener (Err (Feed k)) = FailsAt names opener k
OpensSo names opener (Err WantOfMemory) = (k : ℕ) × StopsAt names opener k
