use Rattle.std.proofs.Common.{◌≡◌, map, string_bytes, take}
use Rattle.desk_words.proofs.reading.copied.Given as goal

-- the names so far
abbrev pub invariant-loop-name : goal.invariant-loop-name
invariant-loop-name l = map string_bytes l.copies.items ≡ map (λ name. name.now) (take l.name-index l.names)
