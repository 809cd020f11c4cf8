use Rattle.std.proofs.Common.{ℕ, List, Option, ◌≡◌, ◌∙◌, length, map, sym, string_bytes, arith}
use Rattle.std.proofs.lemmas.List.{length-map}
use Rattle.desk_definitions.specs.Seen.{opener_seen, sink_seen}
use Rattle.desk_definitions.specs.Opening.{told_bytes}
use Rattle.desk_definitions.specs.Course.{Outcome}
use Rattle.desk_once.proofs.Counts.{none_counted, opened_fresh}
use Rattle.desk_once.proofs.Courses.{opened_course, untold}
use Rattle.desk_once.proofs.run.run.Goals as goal

pub with_sources-requires-clause-opened : goal.with_sources-requires-clause-opened
with_sources-requires-clause-opened g c =
    untold g.O.S.Source.left g.O.S.Source.faults (told_bytes (g.O.Opener.told c.args.opener.now) (map string_bytes c.args.names.now)) 0 c.in-Ok.sources.items c.in-Ok.ensures.opened

pub returns-in-Ok-clause-course : goal.returns-in-Ok-clause-course
returns-in-Ok-clause-course g c =
    let names = map string_bytes c.args.names.now in
    let told = told_bytes (g.O.Opener.told c.args.opener.now) names in
    let out : Outcome g.row.O-S.Denot = record { ends = c.with_sources.result.feeds.items; history = c.with_sources.result.history.items } in
    let count : length c.in-Ok.sources.items ≡ length names = omega (arith, c.in-Ok.ensures.each, length-map c.args.names.now string_bytes) in
    opened_course g.O.S.Source.left g.O.S.Source.faults names c.args.pivots (length c.in-Ok.sources.items)
    (opener_seen g.O.Opener.told g.O.Opener.promises g.O.Opener.opens_told g.O.Opener.faults c.args.opener.now c.open_all.new.opener) out c.with_sources.result.status
    (sink_seen g.K.Sink.written g.K.Sink.faults c.args.sink.now c.with_sources.new.sink) c.in-Ok.ensures.opener count (c.with_sources.ensures.course told c.in-Ok.ensures.opened)

pub returns-in-Ok-clause-counted : goal.returns-in-Ok-clause-counted
returns-in-Ok-clause-counted g c =
    c.with_sources.ensures.counted (opened_fresh g.O.S.Source.faults g.O.S.Source.left (told_bytes (g.O.Opener.told c.args.opener.now) (map string_bytes c.args.names.now)) 0 c.in-Ok.sources.items c.in-Ok.ensures.opened)
