use Rattle.std.proofs.Common.{◌⊎◌, ℕ, Global, length, map, string_bytes, sym, subst, arith, inl, inr}
use Rattle.std.proofs.lemmas.List.{length-map}
use Rattle.board_definitions.specs.declared.event.FeedStop.TheVariants as stops
use Rattle.desk_definitions.specs.Course.{Outcome}
use Rattle.desk_definitions.specs.Causes.{AreGoodFeeds, EndsWithout, HaveRun, HaveTwins, IsReported, NoneStops, SomeStop}
use Rattle.desk_definitions.specs.Opening.{told_bytes}
use Rattle.desk_definitions.specs.Seen.{sink_seen}
use Rattle.desk_laws.specs.Histories.{HasWholeHistory}
use Rattle.desk_once.proofs.command.once.Goals as goal

pub returns-clause-done : goal.returns-clause-done
returns-clause-done g c = λ done.
    let names = map (string_bytes {Z = Global}) c.args.names.now in
    let each = length-map c.args.names.now (string_bytes {Z = Global}) in
    let out : Outcome g.row.O-S.Denot = record { ends = c.run.result.feeds.items; history = c.run.result.history.items } in
    let causes = c.statuses_have_causes.ensures names c.args.pivots c.run.result.status c.args.opener.now c.run.new.opener c.args.sink.now c.run.new.sink out c.run.ensures.course c.run.ensures.counted c.run.ensures.promised in
    let P : ℕ → Type 0 = λ n. IsReported g.O.S.Source.left g.O.S.Source.faults (told_bytes (g.O.Opener.told c.args.opener.now) names) n c.args.pivots out (sink_seen g.K.Sink.written g.K.Sink.faults c.args.sink.now c.run.new.sink) in
    subst P each (causes.done done)

pub returns-clause-not_opened : goal.returns-clause-not_opened
returns-clause-not_opened g c = λ three.
    let names = map (string_bytes {Z = Global}) c.args.names.now in
    let out : Outcome g.row.O-S.Denot = record { ends = c.run.result.feeds.items; history = c.run.result.history.items } in
    let causes = c.statuses_have_causes.ensures names c.args.pivots c.run.result.status c.args.opener.now c.run.new.opener c.args.sink.now c.run.new.sink out c.run.ensures.course c.run.ensures.counted c.run.ensures.promised in
    (let failed = causes.not_opened three in (failed.feed, failed.fails))

pub returns-clause-not_opened_due : goal.returns-clause-not_opened_due
returns-clause-not_opened_due g c = λ k lt.
    let names = map (string_bytes {Z = Global}) c.args.names.now in
    let each = length-map c.args.names.now (string_bytes {Z = Global}) in
    let out : Outcome g.row.O-S.Denot = record { ends = c.run.result.feeds.items; history = c.run.result.history.items } in
    let causes = c.statuses_have_causes.ensures names c.args.pivots c.run.result.status c.args.opener.now c.run.new.opener c.args.sink.now c.run.new.sink out c.run.ensures.course c.run.ensures.counted c.run.ensures.promised in
    causes.not_opened_due k (omega (arith, lt, each))

pub returns-clause-none_begun : goal.returns-clause-none_begun
returns-clause-none_begun g c = λ k lt lacks.
    let names = map (string_bytes {Z = Global}) c.args.names.now in
    let each = length-map c.args.names.now (string_bytes {Z = Global}) in
    let out : Outcome g.row.O-S.Denot = record { ends = c.run.result.feeds.items; history = c.run.result.history.items } in
    let causes = c.statuses_have_causes.ensures names c.args.pivots c.run.result.status c.args.opener.now c.run.new.opener c.args.sink.now c.run.new.sink out c.run.ensures.course c.run.ensures.counted c.run.ensures.promised in
    (causes.none_begun k (omega (arith, lt, each)) lacks).no_feed

pub returns-clause-not_read : goal.returns-clause-not_read
returns-clause-not_read g c =
    let names = map (string_bytes {Z = Global}) c.args.names.now in
    let out : Outcome g.row.O-S.Denot = record { ends = c.run.result.feeds.items; history = c.run.result.history.items } in
    let causes = c.statuses_have_causes.ensures names c.args.pivots c.run.result.status c.args.opener.now c.run.new.opener c.args.sink.now c.run.new.sink out c.run.ensures.course c.run.ensures.counted c.run.ensures.promised in
    causes.not_read

pub returns-clause-not_read_due : goal.returns-clause-not_read_due
returns-clause-not_read_due g c =
    let names = map (string_bytes {Z = Global}) c.args.names.now in
    let out : Outcome g.row.O-S.Denot = record { ends = c.run.result.feeds.items; history = c.run.result.history.items } in
    let causes = c.statuses_have_causes.ensures names c.args.pivots c.run.result.status c.args.opener.now c.run.new.opener c.args.sink.now c.run.new.sink out c.run.ensures.course c.run.ensures.counted c.run.ensures.promised in
    causes.not_read_due

pub returns-clause-bad_header : goal.returns-clause-bad_header
returns-clause-bad_header g c = λ six.
    let names = map (string_bytes {Z = Global}) c.args.names.now in
    let each = length-map c.args.names.now (string_bytes {Z = Global}) in
    let out : Outcome g.row.O-S.Denot = record { ends = c.run.result.feeds.items; history = c.run.result.history.items } in
    let causes = c.statuses_have_causes.ensures names c.args.pivots c.run.result.status c.args.opener.now c.run.new.opener c.args.sink.now c.run.new.sink out c.run.ensures.course c.run.ensures.counted c.run.ensures.promised in
    let P : ℕ → Type 0 = λ n. EndsWithout stops.BadHeader c.run.result.feeds.items ⊎ HaveTwins n c.run.result.feeds.items in
    subst P each (causes.bad_header six)

pub returns-clause-bad_header_due : goal.returns-clause-bad_header_due
returns-clause-bad_header_due g c =
    let names = map (string_bytes {Z = Global}) c.args.names.now in
    let out : Outcome g.row.O-S.Denot = record { ends = c.run.result.feeds.items; history = c.run.result.history.items } in
    let causes = c.statuses_have_causes.ensures names c.args.pivots c.run.result.status c.args.opener.now c.run.new.opener c.args.sink.now c.run.new.sink out c.run.ensures.course c.run.ensures.counted c.run.ensures.promised in
    causes.bad_header_due

pub returns-clause-one_book_due : goal.returns-clause-one_book_due
returns-clause-one_book_due g c = λ twins.
    let names = map (string_bytes {Z = Global}) c.args.names.now in
    let each = length-map c.args.names.now (string_bytes {Z = Global}) in
    let out : Outcome g.row.O-S.Denot = record { ends = c.run.result.feeds.items; history = c.run.result.history.items } in
    let causes = c.statuses_have_causes.ensures names c.args.pivots c.run.result.status c.args.opener.now c.run.new.opener c.args.sink.now c.run.new.sink out c.run.ensures.course c.run.ensures.counted c.run.ensures.promised in
    let P : ℕ → Type 0 = λ n. HaveTwins n c.run.result.feeds.items in
    causes.one_book_due (subst P (sym each) twins)

pub returns-clause-cut : goal.returns-clause-cut
returns-clause-cut g c = λ eight.
    let names = map (string_bytes {Z = Global}) c.args.names.now in
    let each = length-map c.args.names.now (string_bytes {Z = Global}) in
    let out : Outcome g.row.O-S.Denot = record { ends = c.run.result.feeds.items; history = c.run.result.history.items } in
    let causes = c.statuses_have_causes.ensures names c.args.pivots c.run.result.status c.args.opener.now c.run.new.opener c.args.sink.now c.run.new.sink out c.run.ensures.course c.run.ensures.counted c.run.ensures.promised in
    let P : ℕ → Type 0 = λ n. HaveRun n c.run.result.feeds.items × NoneStops stops.ReadFault c.run.result.feeds.items × SomeStop stops.Cut c.run.result.feeds.items in
    subst P each (causes.cut eight)

pub returns-clause-cut_due : goal.returns-clause-cut_due
returns-clause-cut_due g c = λ ran.
    let names = map (string_bytes {Z = Global}) c.args.names.now in
    let each = length-map c.args.names.now (string_bytes {Z = Global}) in
    let out : Outcome g.row.O-S.Denot = record { ends = c.run.result.feeds.items; history = c.run.result.history.items } in
    let causes = c.statuses_have_causes.ensures names c.args.pivots c.run.result.status c.args.opener.now c.run.new.opener c.args.sink.now c.run.new.sink out c.run.ensures.course c.run.ensures.counted c.run.ensures.promised in
    let P : ℕ → Type 0 = λ n. HaveRun n c.run.result.feeds.items in
    causes.cut_due (subst P (sym each) ran)

pub returns-clause-complete : goal.returns-clause-complete
returns-clause-complete g c = λ good.
    let names = map (string_bytes {Z = Global}) c.args.names.now in
    let each = length-map c.args.names.now (string_bytes {Z = Global}) in
    let out : Outcome g.row.O-S.Denot = record { ends = c.run.result.feeds.items; history = c.run.result.history.items } in
    let causes = c.statuses_have_causes.ensures names c.args.pivots c.run.result.status c.args.opener.now c.run.new.opener c.args.sink.now c.run.new.sink out c.run.ensures.course c.run.ensures.counted c.run.ensures.promised in
    let P : ℕ → Type 0 = λ n. AreGoodFeeds (told_bytes (g.O.Opener.told c.args.opener.now) names) n in
    causes.complete (subst P (sym each) good)

pub returns-clause-history : goal.returns-clause-history
returns-clause-history g c = λ ran memory.
    let names = map (string_bytes {Z = Global}) c.args.names.now in
    let each = length-map c.args.names.now (string_bytes {Z = Global}) in
    let out : Outcome g.row.O-S.Denot = record { ends = c.run.result.feeds.items; history = c.run.result.history.items } in
    let P : ℕ → Type 0 = λ n. HaveRun n c.run.result.feeds.items in
    let Q : ℕ → Type 0 = λ n. HasWholeHistory g.O.S.Source.left g.O.S.Source.faults (told_bytes (g.O.Opener.told c.args.opener.now) names) n c.args.pivots out in
    subst Q each (c.bodies_are_in_the_history.ensures names c.args.pivots c.run.result.status c.args.opener.now c.run.new.opener c.args.sink.now c.run.new.sink out
    c.run.ensures.course (subst P (sym each) ran) memory)

pub returns-clause-opener_faults : goal.returns-clause-opener_faults
returns-clause-opener_faults g c =
    let names = map (string_bytes {Z = Global}) c.args.names.now in
    let out : Outcome g.row.O-S.Denot = record { ends = c.run.result.feeds.items; history = c.run.result.history.items } in
    let causes = c.statuses_have_causes.ensures names c.args.pivots c.run.result.status c.args.opener.now c.run.new.opener c.args.sink.now c.run.new.sink out c.run.ensures.course c.run.ensures.counted c.run.ensures.promised in
    elim causes.opener_faults [ inl none ↦ inl none | inr failed ↦ inr failed.1 ]

pub returns-clause-else_written : goal.returns-clause-else_written
returns-clause-else_written g c =
    let names = map (string_bytes {Z = Global}) c.args.names.now in
    let out : Outcome g.row.O-S.Denot = record { ends = c.run.result.feeds.items; history = c.run.result.history.items } in
    let causes = c.statuses_have_causes.ensures names c.args.pivots c.run.result.status c.args.opener.now c.run.new.opener c.args.sink.now c.run.new.sink out c.run.ensures.course c.run.ensures.counted c.run.ensures.promised in
    causes.else_written

pub returns-clause-not_written : goal.returns-clause-not_written
returns-clause-not_written g c =
    let names = map (string_bytes {Z = Global}) c.args.names.now in
    let out : Outcome g.row.O-S.Denot = record { ends = c.run.result.feeds.items; history = c.run.result.history.items } in
    let causes = c.statuses_have_causes.ensures names c.args.pivots c.run.result.status c.args.opener.now c.run.new.opener c.args.sink.now c.run.new.sink out c.run.ensures.course c.run.ensures.counted c.run.ensures.promised in
    causes.not_written

pub returns-clause-no_memory : goal.returns-clause-no_memory
returns-clause-no_memory g c =
    let names = map (string_bytes {Z = Global}) c.args.names.now in
    let out : Outcome g.row.O-S.Denot = record { ends = c.run.result.feeds.items; history = c.run.result.history.items } in
    let causes = c.statuses_have_causes.ensures names c.args.pivots c.run.result.status c.args.opener.now c.run.new.opener c.args.sink.now c.run.new.sink out c.run.ensures.course c.run.ensures.counted c.run.ensures.promised in
    causes.no_memory

pub returns-clause-course : goal.returns-clause-course
returns-clause-course g c = c.run.ensures.course

pub returns-clause-source_faults : goal.returns-clause-source_faults
returns-clause-source_faults g c = c.run.ensures.counted

pub returns-clause-read_as_promised : goal.returns-clause-read_as_promised
returns-clause-read_as_promised g c = c.run.ensures.promised
