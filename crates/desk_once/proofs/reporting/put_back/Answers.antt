use Rattle.std.proofs.Common.{◌≡◌, ℕ, ◌+◌, ◌<◌, ◌≤◌, length, map, zip, take, drop, get_or, sym, ap, ap₂, ◌∙◌, arith}
use Rattle.std.proofs.lemmas.List.{length-map, get_or-map, get_or-drop, drop-drop, drop-set-lt, take_all, append-nil}
use Rattle.std.proofs.lemmas.Slice.Zip.{length-zip, get_or-zip}
use Rattle.report_definitions.specs.declared.feed_part.FeedPart.{FeedPart}
use Rattle.desk_once.specs.Reports.{filled}
use Rattle.desk_once.proofs.InPlace.{written_read, written_step, written_all}
use Rattle.desk_once.proofs.reporting.put_back.Goals as goal

pub loop-k-preserved : goal.loop-k-preserved
loop-k-preserved g c =
    let ends = c.args.ends.now in
    let parts = c.args.parts.now in
    let k = c.loop-k.k in
    let end = c.index-ends-k.result in
    let part = c.index-parts-k.result in
    let both = zip ends parts in
    let kept = c.loop-k.invariant in
    let count : length both ≡ length ends = omega (arith, length-zip ends parts, c.requires) in
    let long : length (map filled both) ≡ length ends = length-map both filled ∙ count in
    let within : k < length ends = omega (arith, c.loop-k-test.true, c.loop-k.auto.ends) in
    let end_is = written_read (map filled both) ends c.loop-k.ends k end kept.ends long within in
    let zero_on : k + 0 ≡ k = omega arith in
    let part_is =
    sym (get_or-drop k c.loop-k.parts 0 part ∙ ap (λ n. get_or c.loop-k.parts n part) zero_on)
    ∙ ap (λ ps. get_or ps 0 part) kept.parts
    ∙ get_or-drop k parts 0 part
    ∙ ap (λ n. get_or parts n part) zero_on in
    let target = get_or-map filled both k (end, part) end (omega (arith, count, within)) ∙ ap filled (get_or-zip ends parts k (end, part) within (omega (arith, within, c.requires))) in
    let now = c.fill.ensures ∙ ap₂ (λ e p. filled (e, p)) end_is part_is ∙ sym target in
    record {
      ends = written_step (map filled both) ends c.loop-k.ends k end c.fill.new.end kept.ends long within now;
      parts = drop-set-lt (k + 1) c.loop-k.parts k c.fill.new.part (omega arith) ∙ sym (drop-drop 1 k c.loop-k.parts) ∙ ap (drop 1) kept.parts ∙ drop-drop 1 k parts;
    }

pub returns : goal.returns
returns g c =
    let ends = c.args.ends.now in
    let both = zip ends c.args.parts.now in
    let count : length both ≡ length ends = omega (arith, length-zip ends c.args.parts.now, c.requires) in
    written_all (map filled both) ends c.loop-k.ends c.loop-k.k c.loop-k.invariant.ends (length-map both filled ∙ count) (omega (arith, c.loop-k-test.false, c.loop-k.auto.ends))
