use Rattle.std.proofs.Common.{ℕ, List, ◌++◌, ap}
use Rattle.std.specs.List.{flat_map, enumerate_from}
use Rattle.report_definitions.specs.Report.{report_text, pivots_line, feed_lines, match_lines, end_line}
use Rattle.text_out.proofs.Writes.{and_then, cut, same_text}
use Rattle.arb_report.proofs.Shapes.{title_is}
use Rattle.arb_report.proofs.writing.put_report.Goals as goal

pub returns-in_err-gather : goal.returns-in_err-gather
unfolding report_text
returns-in_err-gather g c =
    let report = c.args.report.now in
    let feeds : List ℕ = flat_map feed_lines (enumerate_from 0 report.feeds) in
    let matches : List ℕ = flat_map match_lines report.matches in
    cut (same_text c.in_err-gather.ensures _ title_is) (pivots_line report.pivots ++ (feeds ++ (matches ++ end_line))) _ c.from_residual.ensures.0

pub returns-in_err-put_pivots : goal.returns-in_err-put_pivots
unfolding report_text
returns-in_err-put_pivots g c =
    let report = c.args.report.now in
    let feeds : List ℕ = flat_map feed_lines (enumerate_from 0 report.feeds) in
    let matches : List ℕ = flat_map match_lines report.matches in
    and_then (same_text c.in_ok-gather.ensures _ title_is) (cut c.in_err-put_pivots.ensures (feeds ++ (matches ++ end_line)) _ c.from_residual-in_err-put_pivots.ensures.0)

pub returns-in_err-put_feeds : goal.returns-in_err-put_feeds
unfolding report_text
returns-in_err-put_feeds g c =
    let report = c.args.report.now in
    let matches : List ℕ = flat_map match_lines report.matches in
    let feeds = same_text c.in_err-put_feeds.ensures _ (ap (λ xs. flat_map feed_lines (enumerate_from 0 xs)) c.items.ensures) in
    and_then (same_text c.in_ok-gather.ensures _ title_is) (and_then c.in_ok-put_pivots.ensures (cut feeds (matches ++ end_line) _ c.from_residual-in_err-put_feeds.ensures.0))

pub returns-in_err-put_matches : goal.returns-in_err-put_matches
unfolding report_text
returns-in_err-put_matches g c =
    let feeds = same_text c.in_ok-put_feeds.ensures _ (ap (λ xs. flat_map feed_lines (enumerate_from 0 xs)) c.items.ensures) in
    let matches = same_text c.in_err-put_matches.ensures _ (ap (flat_map match_lines) c.items-2.ensures) in
    and_then (same_text c.in_ok-gather.ensures _ title_is) (and_then c.in_ok-put_pivots.ensures (and_then feeds (cut matches end_line _ c.from_residual-in_err-put_matches.ensures.0)))

pub returns : goal.returns
unfolding report_text
returns g c =
    let feeds = same_text c.in_ok-put_feeds.ensures _ (ap (λ xs. flat_map feed_lines (enumerate_from 0 xs)) c.items.ensures) in
    let matches = same_text c.in_ok-put_matches.ensures _ (ap (flat_map match_lines) c.items-2.ensures) in
    and_then (same_text c.in_ok-gather.ensures _ title_is) (and_then c.in_ok-put_pivots.ensures (and_then feeds (and_then matches c.gather-2.ensures)))
