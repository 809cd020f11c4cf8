use Rattle.std.proofs.Common.{ℕ, List, ◌+◌, drop}
use Rattle.std.specs.List.{flat_map}
use Rattle.feed_definitions.specs.declared.cause.Refusal.{Refusal}
use Rattle.report_definitions.specs.Report.{refusal_line}
use Rattle.text_out.proofs.Writes.{and_then, cut, same_text, nothing, flat_map_take, flat_map_rest, flat_map_all}
use Rattle.arb_report.proofs.writing.put_refusals.Goals as goal

pub loop-refusal-init : goal.loop-refusal-init
loop-refusal-init g c = nothing _ _ _ tt

pub returns-in_err-put_refusal : goal.returns-in_err-put_refusal
returns-in_err-put_refusal g c =
    let xs : List Refusal = c.args.refusals.now in
    let i : ℕ = c.loop-refusal.refusal-index in
    same_text (cut (and_then c.loop-refusal.invariant c.in_err-put_refusal.ensures) (flat_map (refusal_line c.args.number) (drop (i + 1) xs)) _ c.from_residual.ensures.0) _ (flat_map_rest (refusal_line c.args.number) xs i _ c.loop-refusal-test.true)

pub loop-refusal-preserved : goal.loop-refusal-preserved
loop-refusal-preserved g c =
    same_text (and_then c.loop-refusal.invariant c.in_ok-put_refusal.ensures) _ (flat_map_take (refusal_line c.args.number) c.args.refusals.now c.loop-refusal.refusal-index _ c.loop-refusal-test.true)

pub returns : goal.returns
returns g c = same_text c.loop-refusal.invariant _ (flat_map_all (refusal_line c.args.number) c.args.refusals.now c.loop-refusal.refusal-index c.loop-refusal-test.false)
