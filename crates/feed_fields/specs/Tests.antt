-- Tests of a line by itself, and what holds of a line that passes them.
use Rattle.std.specs.Prelude.{ℕ, not, List, Result, Ok}
use Rattle.std.specs.List.{position}
use Rattle.scan_types.specs.Ranges.{IsLimitRange}
use Rattle.feed_definitions.specs.declared.accepted.Change.{Change}
use Rattle.feed_definitions.specs.declared.accepted.Change.TheVariants.{Quote, Withdraw}
use Rattle.feed_definitions.specs.declared.cause.Fault.{Fault}
use Rattle.feed_definitions.specs.declared.request.LineForm.{LineForm}
use Rattle.feed_definitions.specs.declared.request.LineForm.TheVariants.{Skipped, Wrong, Asks}
use Rattle.feed_definitions.specs.declared.request.Request.{Request}
use Rattle.feed_definitions.specs.Forms.{is_text_byte, ascii_or}

-- the first byte that may not stand in a line
abbrev pub ascii_test : List ℕ → Result (Unit {0}) Fault
ascii_test text = ascii_or (position (λ byte. not (is_text_byte byte)) text) (Ok tt)

-- the stake limit of a quote is in its range
abbrev pub HasLimitInRange : Change → Type 0
HasLimitInRange (Quote odds limit) = IsLimitRange limit
HasLimitInRange Withdraw = Unit {0}

-- what holds of the request, if the line asks for one
abbrev pub IfAsks : LineForm → (Request → Type 0) → Type 0
IfAsks (Asks request) claim = claim request
IfAsks Skipped claim = Unit {0}
IfAsks (Wrong fault) claim = Unit {0}
