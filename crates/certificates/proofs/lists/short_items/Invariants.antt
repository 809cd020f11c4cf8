use Rattle.std.proofs.Common.{◌≡◌, ◌-◌}
use Rattle.certificates.specs.Reading.{field_at, items_at, MOST_SHORT}
use Rattle.certificates.proofs.Loops.{with_front}
use Rattle.certificates.proofs.lists.short_items.Given as goal

-- what was read, and what is still read, is all that is read
abbrev pub invariant-loop : goal.invariant-loop
invariant-loop l = with_front l.items.items (items_at (field_at MOST_SHORT) (l.count - l.counter) l.rest) ≡ items_at (field_at MOST_SHORT) l.count l.text
