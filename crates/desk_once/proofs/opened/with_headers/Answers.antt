use Rattle.std.proofs.Common.{ℕ, List, ◌≡◌, length, map, sym, ap, subst, refl, ◌∙◌}
use Rattle.feed_definitions.specs.declared.header.Header.{Header}
use Rattle.desk_definitions.specs.Seen.{sink_seen}
use Rattle.desk_definitions.specs.Course.{Outcome}
use Rattle.desk_opening.specs.Twins.{AreFirstTwinBooks, books_of}
use Rattle.desk_once.specs.Outcomes.{RunsSo}
use Rattle.desk_once.proofs.Starts.{nothing_read}
use Rattle.desk_once.proofs.Counts.{none_counted}
use Rattle.desk_once.proofs.Judging.{no_run, nothing_written}
use Rattle.desk_once.proofs.opened.with_headers.Goals as goal

pub returns-in_default : goal.returns-in_default
returns-in_default g c =
    let left = g.S.Source.left in
    let faults = g.S.Source.faults in
    let w = c.without_memory in
    let sink = sink_seen g.K.Sink.written g.K.Sink.faults c.args.sink.now c.args.sink.now in
    let out : Outcome g.row.S.Denot = record { ends = w.result.feeds.items; history = w.result.history.items } in
    record {
      course = λ told h. no_run left faults told c.args.pivots out sink (length c.args.begun.items) w.result.status w.ensures.status
          (nothing_written (g.K.Sink.written c.args.sink.now) (g.K.Sink.faults c.args.sink.now))
          (nothing_read left faults told (length c.args.begun.items) out w.ensures.feeds w.ensures.history);
      promised = λ never wrong. let seven : 7 ≡ 4 = sym w.ensures.status ∙ wrong in absurd (cc);
      counted = λ fresh. none_counted g.S.Source.faults w.result.feeds.items w.ensures.feeds;
    }

pub returns-in-Some : goal.returns-in-Some
returns-in-Some g c =
    let P : List Header → Type 0 = λ headers. AreFirstTwinBooks (books_of headers) c.in-Some.earlier c.in-Some.later in
    record { course = λ told h. c.of_one_book.ensures.course told (length c.args.begun.items) c.args.pivots h refl (subst P (c.deref.ensures.value ∙ c.in-Ok.ensures) c.in-Some.ensures.twins); promised = λ never. c.of_one_book.ensures.no_read_fault; counted = c.of_one_book.ensures.counted }
