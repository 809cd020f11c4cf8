use Rattle.std.proofs.Common.{ℕ, List, ◌≡◌, length, sym, subst, arith}
use Rattle.desk_definitions.specs.Seen.{sink_seen}
use Rattle.desk_definitions.specs.declared.feed_end.FeedEnd.{FeedEnd}
use Rattle.desk_once.specs.Counts.{AreCounted}
use Rattle.desk_once.specs.Outcomes.{RunsSo}
use Rattle.desk_once.proofs.opened.with_sources.Goals as goal

pub returns-in-Ok : goal.returns-in-Ok
returns-in-Ok g c =
    let count : length c.in-Ok.begun.items ≡ length c.args.sources.items = omega (arith, c.in-Ok.ensures.each) in
    record {
      course = λ told h.
          let P : ℕ → Type 0 = λ n. RunsSo g.S.Source.left g.S.Source.faults told n c.args.pivots (record { ends = c.with_headers.result.feeds.items; history = c.with_headers.result.history.items })
          c.with_headers.result.status (sink_seen g.K.Sink.written g.K.Sink.faults c.args.sink.now c.with_headers.new.sink) in
          subst P count (c.with_headers.ensures.course told (c.in-Ok.ensures.headers told h));
      promised = λ never. c.with_headers.ensures.promised (c.in-Ok.ensures.promise_kept never);
      counted = λ fresh. c.with_headers.ensures.counted (c.in-Ok.ensures.fresh fresh);
    }

pub returns-in-Err : goal.returns-in-Err
returns-in-Err g c =
    let P : List (FeedEnd g.row.S.Denot) → Type 0 = λ ends. AreCounted g.S.Source.faults ends in
    record { counted = λ fresh. subst P (sym c.without_header.ensures.ends) (c.in-Err.ensures.counted fresh); course = λ told h. c.without_header.ensures.course told (length c.args.sources.items) c.args.pivots (c.in-Err.ensures.stop told h); promised = λ never. c.without_header.ensures.promised (c.in-Err.ensures.promised never) }
