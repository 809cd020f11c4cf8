use Rattle.std.proofs.Common.{ℕ, List, Option, None, ◌≡◌, ◌≤◌, length, ◌+◌, ◌++◌, ◌∙◌, sym, ap, subst, refl, arith, ◌⊎◌}
use Rattle.std.specs.Prelude.{All, IsSome, IsTrue, take, drop}
use Rattle.scan_types.specs.declared.rule.VoidRule.{VoidRule}
use Rattle.report_definitions.specs.Stops.{is_reported}
use Rattle.report_definitions.specs.Report.{IsReport}
use Rattle.report_laws.specs.Boards.{HoldsLinesOf}
use Rattle.desk_definitions.specs.declared.status.TheConstants.{WANT_OF_MEMORY}
use Rattle.board_definitions.specs.declared.event.Entry.{Entry}
use Rattle.board_definitions.specs.Pins.{HasNoPin}
use Rattle.judging_definitions.specs.ExactFinding.{IsFindingOf}
use Rattle.desk_definitions.specs.declared.feed_end.FeedEnd.{FeedEnd}
use Rattle.desk_definitions.specs.Seen.{Due, IsWritten, sink_seen}
use Rattle.desk_definitions.specs.Reads.{FeedRead, AreSeenAs}
use Rattle.desk_definitions.specs.History.{bodies_of, findings_with}
use Rattle.desk_definitions.specs.Judged.{IsAllJudged}
use Rattle.desk_definitions.specs.Course.{HaveBodies, Outcome, WritesNothing, status_of}
use Rattle.desk_once.specs.Outcomes.{RunsSo}
use Rattle.desk_once.proofs.Judging.{unpinned, nothing_written, stopped_judging, reported, moved_all, moved_part, given_back}
use Rattle.desk_once.proofs.SeenFeeds.{seen_and_held, judged_findings}
use Rattle.desk_once.proofs.Promised.{report_promised}
use Rattle.desk_once.proofs.finish.finish.Goals as goal

pub judge_due-requires-clause-no_pin : goal.judge_due-requires-clause-no_pin
judge_due-requires-clause-no_pin g c =
    let P : List Entry → Type 0 = λ history. HasNoPin history (c.len.result + 1) in
    subst P (sym c.requires.bodies.2) (unpinned 0 c.args.ends.items c.requires.bodies.0 (c.len.result + 1))

pub returns-in_default : goal.returns-in_default
returns-in_default g c =
    let left = g.S.Source.left in
    let faults = g.S.Source.faults in
    let ends = c.args.ends.items in
    let rules = c.args.board.fixed.rules in
    let sink = sink_seen g.K.Sink.written g.K.Sink.faults c.args.sink.now c.args.sink.now in
    let out : Outcome g.row.S.Denot = record { ends = ends; history = c.into_history.result.items } in
    let caller : c.len.result + 1 ≡ length ends + 1 = omega (arith, c.len.ensures) in
    record {
      course = λ told reads bodies start. stopped_judging left faults told c.args.pivots out sink reads rules bodies (nothing_written (g.K.Sink.written c.args.sink.now) (g.K.Sink.faults c.args.sink.now))
          (moved_part rules c.new-bench.result c.args.pivots (c.len.result + 1) (length ends + 1) c.args.board.history (bodies_of 0 ends reads) c.judge_due.new.board.history c.into_history.result.items
          c.new-bench.ensures caller start (sym c.into_history.ensures.value) c.in_default.ensures.stopped);
      ends = refl;
      promised = λ none same. absurd (cc);
    }

pub write_the_report-status-requires-clause-findings : goal.write_the_report-status-requires-clause-findings
write_the_report-status-requires-clause-findings g c =
    let ends = c.args.ends.items in
    let rules = c.args.board.fixed.rules in
    let reads = c.requires.bodies.0 in
    judged_findings rules (findings_with c.args.pivots) (c.len.result + 1) ends reads c.judge_due.new.board.history
    (moved_all rules c.new-bench.result c.args.pivots (c.len.result + 1) (c.len.result + 1) c.args.board.history (bodies_of 0 ends reads) c.judge_due.new.board.history c.judge_due.new.board.history
    c.new-bench.ensures refl c.requires.bodies.2 refl c.in-Ok.ensures.judged)

pub write_the_report-status-requires-clause-allowed : goal.write_the_report-status-requires-clause-allowed
write_the_report-status-requires-clause-allowed g c = λ offers finding found.
    let P : ℕ → Type 0 = λ budget. IsFindingOf offers budget finding in
    subst P (ap (λ f. f.law.budget) c.judge_due.ensures.fixed_stays ∙ c.requires.law) found

pub write_the_report-status-requires-clause-headers : goal.write_the_report-status-requires-clause-headers
write_the_report-status-requires-clause-headers g c =
    let P : List (FeedEnd g.row.S.Denot) → Type 0 = λ xs. All (λ end. IsSome end.header) xs in
    subst P (sym c.as_mut_slice.ensures.value) c.requires.bodies.1.headers

pub write_the_report-status-requires-clause-stopped : goal.write_the_report-status-requires-clause-stopped
write_the_report-status-requires-clause-stopped g c =
    let P : List (FeedEnd g.row.S.Denot) → Type 0 = λ xs. All (λ end. IsTrue (is_reported end.stop)) xs in
    subst P (sym c.as_mut_slice.ensures.value) c.requires.bodies.1.stopped

pub returns : goal.returns
returns g c =
    let left = g.S.Source.left in
    let faults = g.S.Source.faults in
    let ends = c.args.ends.items in
    let rules = c.args.board.fixed.rules in
    let w = c.write_the_report-status in
    let sink = sink_seen g.K.Sink.written g.K.Sink.faults c.args.sink.now w.new.sink in
    let out : Outcome g.row.S.Denot = record { ends = ends; history = c.into_history-2.result.items } in
    let caller : c.len.result + 1 ≡ length ends + 1 = omega (arith, c.len.ensures) in
    let value : c.as_mut_slice.result.now ≡ ends = c.as_mut_slice.ensures.value in
    let same : w.new.ends ≡ ends = w.ensures.ends ∙ value in
    let back : take c.args.ends.len (w.new.ends ++ drop (length w.new.ends) ends) ≡ ends =
    given_back c.args.ends.len w.new.ends (drop (length w.new.ends) ends) ends same (sym c.as_mut_slice.ensures.len ∙ ap length value) in
    let after = c.judge_due.new.board.history in
    record {
      course = λ told reads bodies start.
          let judged = moved_all rules c.new-bench.result c.args.pivots (c.len.result + 1) (length ends + 1) c.args.board.history (bodies_of 0 ends reads) after after c.new-bench.ensures caller start refl c.in-Ok.ensures.judged in
          let held = seen_and_held left faults told rules (findings_with c.args.pivots) (length ends + 1) ends reads after bodies.read bodies.headers bodies.stopped bodies.rules_are judged in
          let seen = held.0 in
          let A : List (FeedEnd g.row.S.Denot) → Type 0 = λ xs. AreSeenAs xs reads seen in
          let H : List (Option VoidRule) → Type 0 = λ rules. HoldsLinesOf seen rules after in
          let W : List (FeedEnd g.row.S.Denot) → Type 0 = λ xs.
          ((due : Due) × (due.status ≡ status_of xs) × IsReport c.args.pivots seen due.text × IsWritten due w.result sink) ⊎ ((w.result ≡ WANT_OF_MEMORY) × WritesNothing sink) in
          let E : List (FeedEnd g.row.S.Denot) → Type 0 = λ xs. RunsSo left faults told (length ends) c.args.pivots (record { ends = xs; history = c.into_history-2.result.items }) w.result sink in
          let written = w.ensures.written reads seen (subst A (sym value) held.1) (subst H (ap (λ f. f.rules) (sym c.judge_due.ensures.fixed_stays)) held.2) in
          let whole = moved_all rules c.args.pivots c.args.pivots (length ends + 1) (length ends + 1) (bodies_of 0 ends reads) (bodies_of 0 ends reads) after c.into_history-2.result.items refl refl refl (sym c.into_history-2.ensures.value) judged in
          subst E (sym back) (reported left faults told c.args.pivots out sink w.result reads rules seen bodies whole held.1 (subst W value written));
      ends = back;
      promised = λ none.
          let reads = c.requires.bodies.0 in
          let bodies = c.requires.bodies.1 in
          let judged = moved_all rules c.new-bench.result c.args.pivots (c.len.result + 1) (length ends + 1) c.args.board.history (bodies_of 0 ends reads) after after c.new-bench.ensures caller c.requires.bodies.2 refl c.in-Ok.ensures.judged in
          let held = seen_and_held left faults (λ _. None) rules (findings_with c.args.pivots) (length ends + 1) ends reads after bodies.read bodies.headers bodies.stopped bodies.rules_are judged in
          let seen = held.0 in
          let A : List (FeedEnd g.row.S.Denot) → Type 0 = λ xs. AreSeenAs xs reads seen in
          let H : List (Option VoidRule) → Type 0 = λ rules. HoldsLinesOf seen rules after in
          let W : List (FeedEnd g.row.S.Denot) → Type 0 = λ xs.
          ((due : Due) × (due.status ≡ status_of xs) × IsReport c.args.pivots seen due.text × IsWritten due w.result sink) ⊎ ((w.result ≡ WANT_OF_MEMORY) × WritesNothing sink) in
          let written = w.ensures.written reads seen (subst A (sym value) held.1) (subst H (ap (λ f. f.rules) (sym c.judge_due.ensures.fixed_stays)) held.2) in
          report_promised ends c.args.pivots w.result seen sink none (subst W value written);
    }
