use Rattle.std.proofs.Common.{◌≡◌, ◌-◌}
use Rattle.certificates.specs.Reading.{items_at, entry_at}
use Rattle.certificates.proofs.Loops.{with_front}
use Rattle.certificates.proofs.lists.entries.Given as goal

-- what was read, and what is still read, is all that is read
abbrev pub invariant-loop : goal.invariant-loop
invariant-loop l = with_front l.items.items (items_at entry_at (l.count - l.counter) l.rest) ≡ items_at entry_at l.count l.text
