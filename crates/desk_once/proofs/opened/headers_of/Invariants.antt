use Rattle.std.proofs.Common.{◌≡◌, map}
use Rattle.std.specs.Prelude.{take}
use Rattle.feed_definitions.specs.declared.header.Header.{Header}
use Rattle.desk_opening.specs.declared.begun.Begun.{Begun}
use Rattle.desk_once.proofs.opened.headers_of.Given as goal

abbrev pub invariant-loop-k : goal.invariant-loop-k
invariant-loop-k g l = l.headers.items ≡ map (λ (feed : Begun g.row.S.Denot). feed.header) (take l.k l.begun.items)
