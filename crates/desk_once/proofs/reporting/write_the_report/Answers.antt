use Rattle.std.proofs.Common.{◌≡◌, List, inl, inr, length, map, zip, refl, sym, ap, ap₂, ◌∙◌, subst}
use Rattle.std.proofs.lemmas.List.{length-map}
use Rattle.std.proofs.lemmas.Slice.Zip.{AllZip-long}
use Rattle.report_definitions.specs.declared.feed_part.FeedPart.{FeedPart}
use Rattle.report_definitions.specs.Report.{report_text}
use Rattle.desk_definitions.specs.Course.{status_of}
use Rattle.desk_definitions.specs.Seen.{sink_seen}
use Rattle.desk_once.specs.Reports.{IsPartOf, emptied, filled, IsPut}
use Rattle.desk_once.proofs.ReportFacts.{seen_parts, restored}
use Rattle.desk_once.proofs.reporting.write_the_report.Goals as goal

pub put_back-requires : goal.put_back-requires
put_back-requires g c =
    let taken = c.in-Ok-take_parts.ensures.parts in
    ap length (c.as_mut_slice.ensures.value ∙ c.write_parts-is_written.ensures.parts)
    ∙ AllZip-long IsPartOf c.args.ends.now c.in-Ok-take_parts.parts.items taken.0
    ∙ sym (length-map c.args.ends.now emptied)
    ∙ sym (ap length taken.1)

pub returns-then-is_written-clause-ends : goal.returns-then-is_written-clause-ends
returns-then-is_written-clause-ends g c =
    let taken = c.in-Ok-take_parts.ensures.parts in
    c.put_back.ensures
    ∙ ap₂ (λ es ps. map filled (zip es ps)) taken.1 (c.as_mut_slice.ensures.value ∙ c.write_parts-is_written.ensures.parts)
    ∙ restored c.args.ends.now c.in-Ok-take_parts.parts.items taken.0

pub returns-clause-ends : goal.returns-clause-ends
returns-clause-ends g c =
    let taken = c.in-Ok-take_parts.ensures.parts in
    c.put_back.ensures
    ∙ ap₂ (λ es ps. map filled (zip es ps)) taken.1 (c.as_mut_slice.ensures.value ∙ c.write_parts-is_written.ensures.parts)
    ∙ restored c.args.ends.now c.in-Ok-take_parts.parts.items taken.0

pub returns-then-is_written-clause-written : goal.returns-then-is_written-clause-written
returns-then-is_written-clause-written g c reads seen seen_as holds =
    let taken = c.in-Ok-take_parts.ensures.parts in
    let parts = c.in-Ok-take_parts.parts.items in
    let matches = c.in-Ok.matches in
    let text = report_text c.args.pivots parts matches in
    let same = seen_parts c.args.ends.now reads seen parts seen_as taken.0 in
    let ends_same =
    c.put_back.ensures
    ∙ ap₂ (λ es ps. map filled (zip es ps)) taken.1 (c.as_mut_slice.ensures.value ∙ c.write_parts-is_written.ensures.parts)
    ∙ restored c.args.ends.now parts taken.0 in
    let put = subst (IsPut text (sink_seen g.K.Sink.written g.K.Sink.faults c.args.sink.now c.write_parts-is_written.new.sink)) c.if-is_written.true c.write_parts-is_written.ensures.put in
    inl (
      record { status = status_of c.args.ends.now; text = text },
      refl,
      record { matches = matches; are = c.in-Ok.ensures c.args.pivots c.requires.allowed seen holds; text = ap (λ ps. report_text c.args.pivots ps matches) (sym same) },
      inl (record { status_is = c.status_of.ensures ∙ ap status_of ends_same; written = put.0; no_fault = put.1 }),
    )

pub returns-clause-written : goal.returns-clause-written
returns-clause-written g c reads seen seen_as holds =
    let taken = c.in-Ok-take_parts.ensures.parts in
    let parts = c.in-Ok-take_parts.parts.items in
    let matches = c.in-Ok.matches in
    let text = report_text c.args.pivots parts matches in
    let same = seen_parts c.args.ends.now reads seen parts seen_as taken.0 in
    let put = subst (IsPut text (sink_seen g.K.Sink.written g.K.Sink.faults c.args.sink.now c.write_parts-is_written.new.sink)) c.if-is_written.false c.write_parts-is_written.ensures.put in
    inl (
      record { status = status_of c.args.ends.now; text = text },
      refl,
      record { matches = matches; are = c.in-Ok.ensures c.args.pivots c.requires.allowed seen holds; text = ap (λ ps. report_text c.args.pivots ps matches) (sym same) },
      inr (record { status_is = refl; written = put.0; fault = put.1 }),
    )
