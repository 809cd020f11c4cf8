use Rattle.std.proofs.Common.{ℕ, List, ◌+◌, drop}
use Rattle.std.specs.List.{flat_map}
use Rattle.report_definitions.specs.declared.match_part.MatchPart.{MatchPart}
use Rattle.report_definitions.specs.Report.{match_lines}
use Rattle.text_out.proofs.Writes.{and_then, cut, same_text, nothing, flat_map_all}
use Rattle.arb_report.proofs.Shapes.{one_more, all_three}
use Rattle.arb_report.proofs.writing.put_matches.Goals as goal

pub loop-part-init : goal.loop-part-init
loop-part-init g c = nothing _ _ _ tt

pub returns-in_err-put_match : goal.returns-in_err-put_match
returns-in_err-put_match g c =
    let xs : List MatchPart = c.args.matches.now in
    let i : ℕ = c.loop-part.part-index in
    same_text (cut (and_then c.loop-part.invariant c.in_err-put_match.ensures) (flat_map match_lines (drop (i + 1) xs)) _ c.from_residual.ensures.0) _ (all_three match_lines xs i c.part-item.result c.loop-part-test.true c.part-item.is)

pub loop-part-preserved : goal.loop-part-preserved
loop-part-preserved g c =
    same_text (and_then c.loop-part.invariant c.in_ok-put_match.ensures) _ (one_more match_lines c.args.matches.now c.loop-part.part-index c.part-item.result c.loop-part-test.true c.part-item.is)

pub returns : goal.returns
returns g c = same_text c.loop-part.invariant _ (flat_map_all match_lines c.args.matches.now c.loop-part.part-index c.loop-part-test.false)
