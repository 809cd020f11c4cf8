use Rattle.std.proofs.Common.{◌≡◌, map}
use Rattle.std.specs.Prelude.{take}
use Rattle.scan_types.specs.declared.rule.VoidRule.{VoidRule}
use Rattle.feed_definitions.specs.declared.header.Header.{Header}
use Rattle.desk_once.proofs.board.rules_of.Given as goal

abbrev pub invariant-loop-header : goal.invariant-loop-header
invariant-loop-header l = l.rules.items ≡ map (λ (header : Header). header.rule) (take l.header-index l.headers)
