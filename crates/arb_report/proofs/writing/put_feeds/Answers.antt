use Rattle.std.proofs.Common.{ℕ, ◌≡◌, ◌<◌, ◌+◌, List, ◌∙◌, ap, sym, length, arith, get_or, drop, zero-add}
use Rattle.std.specs.List.{flat_map, enumerate_from}
use Rattle.std.proofs.lemmas.List.FromFn.{length-enumerate_from, get_or-enumerate_from}
use Rattle.report_definitions.specs.declared.feed_part.FeedPart.{FeedPart}
use Rattle.report_definitions.specs.Report.{feed_lines}
use Rattle.text_out.proofs.Writes.{and_then, cut, same_text, nothing, flat_map_all}
use Rattle.arb_report.proofs.Shapes.{one_more, all_three}
use Rattle.arb_report.proofs.writing.put_feeds.Goals as goal

pub loop-number-init : goal.loop-number-init
loop-number-init g c = nothing _ _ _ tt

-- a feed with its number is the element of this number
numbered : (feeds : List FeedPart) (i : ℕ) (feed : FeedPart) → i < length feeds → feed ≡ get_or feeds i feed → (i, feed) ≡ get_or (enumerate_from 0 feeds) i (i, feed)
numbered feeds i feed within is =
    ap (λ (f : FeedPart). let pair : ℕ × FeedPart = (i, f) in pair) is
    ∙ (sym (ap (λ (n : ℕ). let pair : ℕ × FeedPart = (n, get_or feeds i feed) in pair) (zero-add i)) ∙ sym (get_or-enumerate_from 0 feeds i (i, feed) within))

within_all : (feeds : List FeedPart) (i : ℕ) → i < length feeds → i < length (enumerate_from 0 feeds)
within_all feeds i within = omega (arith, within, length-enumerate_from 0 feeds)

pub returns-in_err-put_feed : goal.returns-in_err-put_feed
returns-in_err-put_feed g c =
    let feeds = c.args.feeds.now in
    let i : ℕ = c.loop-number.number in
    let feed = c.index-feeds-number.result in
    let xs : List (ℕ × FeedPart) = enumerate_from 0 feeds in
    same_text (cut (and_then c.loop-number.invariant c.in_err-put_feed.ensures) (flat_map feed_lines (drop (i + 1) xs)) _ c.from_residual.ensures.0) _
    (all_three feed_lines xs i (i, feed) (within_all feeds i c.loop-number-test.true) (numbered feeds i feed c.loop-number-test.true c.index-feeds-number.is))

pub loop-number-preserved : goal.loop-number-preserved
loop-number-preserved g c =
    let feeds = c.args.feeds.now in
    let i : ℕ = c.loop-number.number in
    let feed = c.index-feeds-number.result in
    same_text (and_then c.loop-number.invariant c.in_ok-put_feed.ensures) _
    (one_more feed_lines (enumerate_from 0 feeds) i (i, feed) (within_all feeds i c.loop-number-test.true) (numbered feeds i feed c.loop-number-test.true c.index-feeds-number.is))

pub returns : goal.returns
returns g c =
    let xs = enumerate_from 0 c.args.feeds.now in
    same_text c.loop-number.invariant _ (flat_map_all feed_lines xs c.loop-number.number (omega (arith, length-enumerate_from 0 c.args.feeds.now, c.loop-number-test.false)))
