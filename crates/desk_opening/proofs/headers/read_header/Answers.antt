use Rattle.std.proofs.Common.{◌∙◌, not, ap, subst}
use Rattle.feed_definitions.specs.declared.step.Step.{Step}
use Rattle.feed_definitions.specs.Answers.{ends_feed}
use Rattle.feed_lines.specs.Reader.{is_read_fault}
use Rattle.desk_opening.proofs.FirstSteps.{IsFirst}
use Rattle.desk_opening.proofs.HeaderReads.{FirstStep, first_of, is_first, header_of_feed, fault_of_feed, unread_feed, header_read}
use Rattle.desk_opening.proofs.headers.read_header.Goals as goal

pub unreachable-requires : goal.unreachable-requires
unreachable-requires g c =
    let first = first_of g.S.Source.left c.args.feed c.args.source c.new-reader.result c.next.new.self c.in-Ok-Line.field-0 c.new-reader.ensures c.in-Ok-Line.ensures.step c.in-Ok-Line.ensures.answered c.in-Ok-Line.ensures.last c.in-Ok-Line.ensures.counted c.in-Ok-Line.ensures.ended c.in-Ok-Line.ensures.goes_on.takes c.in-Ok-Line.ensures.drained in
    let P : Step → Type 0 = λ s. IsFirst (not c.next.new.self.drained) s in
    subst P c.in-Ok-Line.field-0-is (is_first g.S.Source.left c.args.source c.next.new.self c.in-Ok-Line.field-0 first)

pub unreachable-requires-in-Ok-Refused : goal.unreachable-requires-in-Ok-Refused
unreachable-requires-in-Ok-Refused g c =
    let first = first_of g.S.Source.left c.args.feed c.args.source c.new-reader.result c.next.new.self c.in-Ok-Refused.field-0 c.new-reader.ensures c.in-Ok-Refused.ensures.step c.in-Ok-Refused.ensures.answered c.in-Ok-Refused.ensures.last c.in-Ok-Refused.ensures.counted c.in-Ok-Refused.ensures.ended c.in-Ok-Refused.ensures.goes_on.takes c.in-Ok-Refused.ensures.drained in
    let P : Step → Type 0 = λ s. IsFirst (not c.next.new.self.drained) s in
    subst P c.in-Ok-Refused.field-0-is (is_first g.S.Source.left c.args.source c.next.new.self c.in-Ok-Refused.field-0 first)

pub unreachable-requires-in-Ok-Skipped : goal.unreachable-requires-in-Ok-Skipped
unreachable-requires-in-Ok-Skipped g c =
    let first = first_of g.S.Source.left c.args.feed c.args.source c.new-reader.result c.next.new.self c.in-Ok-Skipped.field-0 c.new-reader.ensures c.in-Ok-Skipped.ensures.step c.in-Ok-Skipped.ensures.answered c.in-Ok-Skipped.ensures.last c.in-Ok-Skipped.ensures.counted c.in-Ok-Skipped.ensures.ended c.in-Ok-Skipped.ensures.goes_on.takes c.in-Ok-Skipped.ensures.drained in
    let P : Step → Type 0 = λ s. IsFirst (not c.next.new.self.drained) s in
    subst P c.in-Ok-Skipped.field-0-is (is_first g.S.Source.left c.args.source c.next.new.self c.in-Ok-Skipped.field-0 first)

pub unreachable-requires-in-Ok-End : goal.unreachable-requires-in-Ok-End
unreachable-requires-in-Ok-End g c =
    let first = first_of g.S.Source.left c.args.feed c.args.source c.new-reader.result c.next.new.self c.in-Ok-End.field-0 c.new-reader.ensures c.in-Ok-End.ensures.step c.in-Ok-End.ensures.answered c.in-Ok-End.ensures.last c.in-Ok-End.ensures.counted c.in-Ok-End.ensures.ended c.in-Ok-End.ensures.goes_on.takes c.in-Ok-End.ensures.drained in
    let P : Step → Type 0 = λ s. IsFirst (not c.next.new.self.drained) s in
    subst P c.in-Ok-End.field-0-is (is_first g.S.Source.left c.args.source c.next.new.self c.in-Ok-End.field-0 first)

pub unreachable-requires-in-Ok-Cut : goal.unreachable-requires-in-Ok-Cut
unreachable-requires-in-Ok-Cut g c =
    let first = first_of g.S.Source.left c.args.feed c.args.source c.new-reader.result c.next.new.self c.in-Ok-Cut.field-0 c.new-reader.ensures c.in-Ok-Cut.ensures.step c.in-Ok-Cut.ensures.answered c.in-Ok-Cut.ensures.last c.in-Ok-Cut.ensures.counted c.in-Ok-Cut.ensures.ended c.in-Ok-Cut.ensures.goes_on.takes c.in-Ok-Cut.ensures.drained in
    let P : Step → Type 0 = λ s. IsFirst (not c.next.new.self.drained) s in
    subst P c.in-Ok-Cut.field-0-is (is_first g.S.Source.left c.args.source c.next.new.self c.in-Ok-Cut.field-0 first)

pub returns-in-Ok-Header-clause-header : goal.returns-in-Ok-Header-clause-header
returns-in-Ok-Header-clause-header g c told opened =
    let first = first_of g.S.Source.left c.args.feed c.args.source c.new-reader.result c.next.new.self c.in-Ok-Header.field-0 c.new-reader.ensures c.in-Ok-Header.ensures.step c.in-Ok-Header.ensures.answered c.in-Ok-Header.ensures.last c.in-Ok-Header.ensures.counted c.in-Ok-Header.ensures.ended c.in-Ok-Header.ensures.goes_on.takes c.in-Ok-Header.ensures.drained in
    let P : Step → Type 0 = λ s. FirstStep g.S.Source.left c.args.source c.next.new.self s in
    header_read g.S.Source.left g.S.Source.faults told c.args.source c.next.new.self c.args.feed c.in-Ok-Header.header opened (subst P c.in-Ok-Header.field-0-is first)
    (c.in-Ok-Header.ensures.feed ∙ ap (λ r. r.feed) c.new-reader.ensures) (c.in-Ok-Header.ensures.over ∙ ap ends_feed c.in-Ok-Header.field-0-is)

pub returns-in-Ok-BadHeader-clause-stop : goal.returns-in-Ok-BadHeader-clause-stop
returns-in-Ok-BadHeader-clause-stop g c told opened =
    let first = first_of g.S.Source.left c.args.feed c.args.source c.new-reader.result c.next.new.self c.in-Ok-BadHeader.field-0 c.new-reader.ensures c.in-Ok-BadHeader.ensures.step c.in-Ok-BadHeader.ensures.answered c.in-Ok-BadHeader.ensures.last c.in-Ok-BadHeader.ensures.counted c.in-Ok-BadHeader.ensures.ended c.in-Ok-BadHeader.ensures.goes_on.takes c.in-Ok-BadHeader.ensures.drained in
    let P : Step → Type 0 = λ s. FirstStep g.S.Source.left c.args.source c.next.new.self s in
    header_of_feed g.S.Source.left g.S.Source.faults told c.args.source c.next.new.self c.without_header.result c.args.feed c.in-Ok-BadHeader.refusal opened (subst P c.in-Ok-BadHeader.field-0-is first)
    (record { number = c.without_header.ensures.number; header = c.without_header.ensures.header; lines = c.without_header.ensures.lines; refusals = c.without_header.ensures.refusals; stop_is = c.without_header.ensures.stop; source = c.without_header.ensures.source })

pub returns-in-Ok-ReadFault-clause-stop : goal.returns-in-Ok-ReadFault-clause-stop
returns-in-Ok-ReadFault-clause-stop g c told opened =
    let first = first_of g.S.Source.left c.args.feed c.args.source c.new-reader.result c.next.new.self c.in-Ok-ReadFault.field-0 c.new-reader.ensures c.in-Ok-ReadFault.ensures.step c.in-Ok-ReadFault.ensures.answered c.in-Ok-ReadFault.ensures.last c.in-Ok-ReadFault.ensures.counted c.in-Ok-ReadFault.ensures.ended c.in-Ok-ReadFault.ensures.goes_on.takes c.in-Ok-ReadFault.ensures.drained in
    let P : Step → Type 0 = λ s. FirstStep g.S.Source.left c.args.source c.next.new.self s in
    let rose = c.in-Ok-ReadFault.ensures.fault (ap is_read_fault c.in-Ok-ReadFault.field-0-is) in
    fault_of_feed g.S.Source.left g.S.Source.faults told c.args.source c.next.new.self c.without_header-in-Ok-ReadFault.result c.args.feed (g.S.Source.faults c.new-reader.result.source) opened (subst P c.in-Ok-ReadFault.field-0-is first) rose
    (record { number = c.without_header-in-Ok-ReadFault.ensures.number; header = c.without_header-in-Ok-ReadFault.ensures.header; lines = c.without_header-in-Ok-ReadFault.ensures.lines; refusals = c.without_header-in-Ok-ReadFault.ensures.refusals; stop_is = c.without_header-in-Ok-ReadFault.ensures.stop; source = c.without_header-in-Ok-ReadFault.ensures.source })

pub returns-in-Err-clause-stop : goal.returns-in-Err-clause-stop
returns-in-Err-clause-stop g c told opened =
    unread_feed g.S.Source.left g.S.Source.faults told c.args.source c.next.new.self c.without_header-in-Err.result c.args.feed opened (c.in-Err.ensures.memory ∙ c.new-reader.ensures)
    (record { number = c.without_header-in-Err.ensures.number; header = c.without_header-in-Err.ensures.header; lines = c.without_header-in-Err.ensures.lines; refusals = c.without_header-in-Err.ensures.refusals; stop_is = c.without_header-in-Err.ensures.stop; source = c.without_header-in-Err.ensures.source })
