use Rattle.std.proofs.Common.{ℕ, List, Option, None, [], ◌≡◌, ◌≢◌, ◌≤◌, ◌+◌, ◌∙◌, length, map, sym, ap, subst, refl, arith}
use Rattle.std.specs.Prelude.{All}
use Rattle.board_definitions.specs.declared.event.FeedStop.TheVariants as stops
use Rattle.feed_definitions.specs.declared.header.Header.{Header}
use Rattle.scan_types.specs.declared.rule.VoidRule.{VoidRule}
use Rattle.board_definitions.specs.declared.event.Entry.{Entry}
use Rattle.desk_opening.specs.declared.begun.Begun.{Begun}
use Rattle.desk_opening.specs.Headers.{AreHeadersRead}
use Rattle.desk_definitions.specs.Seen.{sink_seen}
use Rattle.desk_definitions.specs.declared.feed_end.FeedEnd.{FeedEnd}
use Rattle.desk_definitions.specs.Course.{Outcome, HaveBodies}
use Rattle.desk_once.specs.Outcomes.{RunsSo}
use Rattle.desk_once.specs.Bodies.{AreReadSoFar, AreCutAt, headers_of}
use Rattle.desk_once.proofs.Starts.{starts, whole_bodies, cut_bodies, nothing_read}
use Rattle.desk_once.specs.Counts.{AreCounted}
use Rattle.desk_once.proofs.Counts.{none_counted}
use Rattle.desk_once.proofs.Judging.{no_run, nothing_written}
use Rattle.desk_once.proofs.books.with_books.Goals as goal

pub returns-in_default-clause-course : goal.returns-in_default-clause-course
returns-in_default-clause-course g c =
    let left = g.S.Source.left in
    let faults = g.S.Source.faults in
    let sink = sink_seen g.K.Sink.written g.K.Sink.faults c.args.sink.now c.args.sink.now in
    let out : Outcome g.row.S.Denot = record { ends = c.without_memory.result.feeds.items; history = c.without_memory.result.history.items } in
    λ told h. no_run left faults told c.args.pivots out sink (length c.args.begun.items) c.without_memory.result.status c.without_memory.ensures.status
    (nothing_written (g.K.Sink.written c.args.sink.now) (g.K.Sink.faults c.args.sink.now))
    (nothing_read left faults told (length c.args.begun.items) out c.without_memory.ensures.feeds c.without_memory.ensures.history)

pub returns-in_default-with_capacity-clause-course : goal.returns-in_default-with_capacity-clause-course
returns-in_default-with_capacity-clause-course g c =
    let left = g.S.Source.left in
    let faults = g.S.Source.faults in
    let w = c.without_memory-in_default-with_capacity in
    let sink = sink_seen g.K.Sink.written g.K.Sink.faults c.args.sink.now c.args.sink.now in
    let out : Outcome g.row.S.Denot = record { ends = w.result.feeds.items; history = w.result.history.items } in
    λ told h. no_run left faults told c.args.pivots out sink (length c.args.begun.items) w.result.status w.ensures.status
    (nothing_written (g.K.Sink.written c.args.sink.now) (g.K.Sink.faults c.args.sink.now))
    (nothing_read left faults told (length c.args.begun.items) out w.ensures.feeds w.ensures.history)

pub read_while-requires-clause-so_far : goal.read_while-requires-clause-so_far
read_while-requires-clause-so_far g c =
    let left = g.S.Source.left in
    let faults = g.S.Source.faults in
    let told : ℕ → Option (List ℕ) = λ _. None in
    let rules = c.in-Ok.board.fixed.rules in
    let P : List (FeedEnd g.row.S.Denot) → Type 0 = λ ends. AreReadSoFar left faults told rules ends c.args.begun.items c.in-Ok.board.history in
    let Q : List Entry → Type 0 = λ history. AreReadSoFar left faults told rules [] c.args.begun.items history in
    subst P (sym c.in-Ok-with_capacity.ensures.items) (subst Q (sym c.in-Ok.ensures.history) (starts left faults told c.args.begun.items c.args.headers.now rules c.requires.read c.requires.headers c.in-Ok.ensures.rules))

pub returns-then-not-read_while-clause-course : goal.returns-then-not-read_while-clause-course
returns-then-not-read_while-clause-course g c =
    let left = g.S.Source.left in
    let faults = g.S.Source.faults in
    let rules = c.in-Ok.board.fixed.rules in
    let ends = c.read_while.new.ends.items in
    let sink = sink_seen g.K.Sink.written g.K.Sink.faults c.args.sink.now c.args.sink.now in
    let out : Outcome g.row.S.Denot = record { ends = ends; history = c.into_history.result.items } in
    let few : length ends ≤ length c.args.begun.items = omega (arith, c.read_while.ensures.few, ap length c.in-Ok-with_capacity.ensures.items) in
    let start : (told : ℕ → Option (List ℕ)) → AreHeadersRead left told 0 c.args.begun.items → AreReadSoFar left faults told rules c.in-Ok-with_capacity.ends.items c.args.begun.items c.in-Ok.board.history =
    λ told read.
    let P : List (FeedEnd g.row.S.Denot) → Type 0 = λ ends. AreReadSoFar left faults told rules ends c.args.begun.items c.in-Ok.board.history in
    let Q : List Entry → Type 0 = λ history. AreReadSoFar left faults told rules [] c.args.begun.items history in
    subst P (sym c.in-Ok-with_capacity.ensures.items) (subst Q (sym c.in-Ok.ensures.history) (starts left faults told c.args.begun.items c.args.headers.now rules read c.requires.headers c.in-Ok.ensures.rules)) in
    λ told h.
    let H : List Entry → Type 0 = λ history. AreCutAt left faults told ends c.read_while.new.begun.items history in
    no_run left faults told c.args.pivots out sink (length c.args.begun.items) 7 refl
    (nothing_written (g.K.Sink.written c.args.sink.now) (g.K.Sink.faults c.args.sink.now))
    (cut_bodies left faults told (length c.args.begun.items) out c.read_while.new.begun.items few
    (subst H (sym c.into_history.ensures.value) (c.if-not-read_while.ensures.bodies told (start told h))))

pub finish-requires-clause-bodies : goal.finish-requires-clause-bodies
finish-requires-clause-bodies g c =
    let left = g.S.Source.left in
    let faults = g.S.Source.faults in
    let rules = c.in-Ok.board.fixed.rules in
    let ends = c.read_while.new.ends.items in
    let begun = c.args.begun.items in
    let headers = c.args.headers.now in
    let start : (told : ℕ → Option (List ℕ)) → AreHeadersRead left told 0 begun → AreReadSoFar left faults told rules c.in-Ok-with_capacity.ends.items begun c.in-Ok.board.history =
    λ told read.
    let P : List (FeedEnd g.row.S.Denot) → Type 0 = λ ends. AreReadSoFar left faults told rules ends begun c.in-Ok.board.history in
    let Q : List Entry → Type 0 = λ history. AreReadSoFar left faults told rules [] begun history in
    subst P (sym c.in-Ok-with_capacity.ensures.items) (subst Q (sym c.in-Ok.ensures.history) (starts left faults told begun headers rules read c.requires.headers c.in-Ok.ensures.rules)) in
    let read : (told : ℕ → Option (List ℕ)) → AreHeadersRead left told 0 begun → AreReadSoFar left faults told rules ends [] c.read_while.new.board.history =
    λ told h. c.if-not-read_while.ensures.bodies told (start told h) in
    let same : headers_of ends [] ≡ headers_of [] begun =
    ap (λ (xs : List (Begun g.row.S.Denot)). headers_of ends xs) (sym c.if-not-read_while.ensures.all) ∙ c.read_while.ensures.headers ∙ ap (λ (xs : List (FeedEnd g.row.S.Denot)). headers_of xs begun) c.in-Ok-with_capacity.ensures.items in
    let rules_same : rules ≡ c.read_while.new.board.fixed.rules = ap (λ f. f.rules) (sym c.read_while.ensures.fixed) in
    let bodies : (told : ℕ → Option (List ℕ)) (h : AreHeadersRead left told 0 begun) → HaveBodies left faults told (length ends) ends (read told h).reads c.read_while.new.board.fixed.rules =
    λ told h.
    let P : List (Option VoidRule) → Type 0 = λ rules. HaveBodies left faults told (length ends) ends (read told h).reads rules in
    subst P rules_same (whole_bodies left faults told ends begun headers rules c.read_while.new.board.history c.requires.headers c.in-Ok.ensures.rules c.requires.different same (read told h)) in
    let s = read (λ _. None) c.requires.read in
    (s.reads, bodies (λ _. None) c.requires.read, s.history_is)

pub returns-clause-course : goal.returns-clause-course
returns-clause-course g c =
    let left = g.S.Source.left in
    let faults = g.S.Source.faults in
    let rules = c.in-Ok.board.fixed.rules in
    let ends = c.read_while.new.ends.items in
    let begun = c.args.begun.items in
    let headers = c.args.headers.now in
    let start : (told : ℕ → Option (List ℕ)) → AreHeadersRead left told 0 begun → AreReadSoFar left faults told rules c.in-Ok-with_capacity.ends.items begun c.in-Ok.board.history =
    λ told read.
    let P : List (FeedEnd g.row.S.Denot) → Type 0 = λ ends. AreReadSoFar left faults told rules ends begun c.in-Ok.board.history in
    let Q : List Entry → Type 0 = λ history. AreReadSoFar left faults told rules [] begun history in
    subst P (sym c.in-Ok-with_capacity.ensures.items) (subst Q (sym c.in-Ok.ensures.history) (starts left faults told begun headers rules read c.requires.headers c.in-Ok.ensures.rules)) in
    let read : (told : ℕ → Option (List ℕ)) → AreHeadersRead left told 0 begun → AreReadSoFar left faults told rules ends [] c.read_while.new.board.history =
    λ told h. c.if-not-read_while.ensures.bodies told (start told h) in
    let same : headers_of ends [] ≡ headers_of [] begun =
    ap (λ (xs : List (Begun g.row.S.Denot)). headers_of ends xs) (sym c.if-not-read_while.ensures.all) ∙ c.read_while.ensures.headers ∙ ap (λ (xs : List (FeedEnd g.row.S.Denot)). headers_of xs begun) c.in-Ok-with_capacity.ensures.items in
    let rules_same : rules ≡ c.read_while.new.board.fixed.rules = ap (λ f. f.rules) (sym c.read_while.ensures.fixed) in
    let bodies : (told : ℕ → Option (List ℕ)) (h : AreHeadersRead left told 0 begun) → HaveBodies left faults told (length ends) ends (read told h).reads c.read_while.new.board.fixed.rules =
    λ told h.
    let P : List (Option VoidRule) → Type 0 = λ rules. HaveBodies left faults told (length ends) ends (read told h).reads rules in
    subst P rules_same (whole_bodies left faults told ends begun headers rules c.read_while.new.board.history c.requires.headers c.in-Ok.ensures.rules c.requires.different same (read told h)) in
    let count : length ends ≡ length begun =
    omega (arith, c.read_while.ensures.few, ap length c.in-Ok-with_capacity.ensures.items, ap length c.if-not-read_while.ensures.all) in
    λ told h.
    let s = read told h in
    let out : Outcome g.row.S.Denot = record { ends = c.finish.result.feeds.items; history = c.finish.result.history.items } in
    let P : ℕ → Type 0 = λ n. RunsSo left faults told n c.args.pivots out c.finish.result.status (sink_seen g.K.Sink.written g.K.Sink.faults c.args.sink.now c.finish.new.sink) in
    subst P count (c.finish.ensures.course told s.reads (bodies told h) s.history_is)

pub returns-clause-promised : goal.returns-clause-promised
returns-clause-promised g c = λ never.
    let P : List (FeedEnd g.row.S.Denot) → Type 0 = λ ends. All (λ end. end.stop ≢ stops.ReadFault) ends in
    let none : P [] = λ k d h. absurd (omega (arith, h)) in
    c.finish.ensures.promised (c.read_while.ensures.promised (subst P (sym c.in-Ok-with_capacity.ensures.items) none) never)

pub returns-in_default-clause-counted : goal.returns-in_default-clause-counted
returns-in_default-clause-counted g c = λ fresh. none_counted g.S.Source.faults c.without_memory.result.feeds.items c.without_memory.ensures.feeds

pub returns-in_default-with_capacity-clause-counted : goal.returns-in_default-with_capacity-clause-counted
returns-in_default-with_capacity-clause-counted g c = λ fresh.
    none_counted g.S.Source.faults c.without_memory-in_default-with_capacity.result.feeds.items c.without_memory-in_default-with_capacity.ensures.feeds

pub returns-then-not-read_while-clause-counted : goal.returns-then-not-read_while-clause-counted
returns-then-not-read_while-clause-counted g c = λ fresh.
    c.read_while.ensures.counted (none_counted g.S.Source.faults c.in-Ok-with_capacity.ends.items c.in-Ok-with_capacity.ensures.items) fresh

pub returns-clause-counted : goal.returns-clause-counted
returns-clause-counted g c = λ fresh.
    let P : List (FeedEnd g.row.S.Denot) → Type 0 = λ ends. AreCounted g.S.Source.faults ends in
    subst P (sym c.finish.ensures.ends) (c.read_while.ensures.counted (none_counted g.S.Source.faults c.in-Ok-with_capacity.ends.items c.in-Ok-with_capacity.ensures.items) fresh)
