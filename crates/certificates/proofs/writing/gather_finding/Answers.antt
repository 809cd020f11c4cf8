use Rattle.std.proofs.Common.{ℕ, List, ◌++◌, sym}
use Rattle.std.specs.Prelude.{codes}
use Rattle.finding_definitions.specs.Text.{stake_fields, measure_fields, fraction_fields, run_fields, place_fields}
use Rattle.text_out.specs.Written.{spaced}
use Rattle.text_out.proofs.Writes.{and_then, cut, same_text, join_spaced}
use Rattle.certificates.proofs.writing.gather_finding.Goals as goal

pub returns-in_err-gather-in-Arb : goal.returns-in_err-gather-in-Arb
returns-in_err-gather-in-Arb g c =
    let fields : List (List ℕ) = stake_fields c.in-Arb.stakes in
    rw c.in-Arb.is (same_text (cut c.in_err-gather-in-Arb.ensures (spaced fields) _ c.from_residual.ensures.0) _ (sym (join_spaced (codes "arb") fields)))

pub returns-in_ok-gather-in-Arb : goal.returns-in_ok-gather-in-Arb
returns-in_ok-gather-in-Arb g c =
    let fields : List (List ℕ) = stake_fields c.in-Arb.stakes in
    rw c.in-Arb.is (same_text (and_then c.in_ok-gather-in-Arb.ensures c.put_stakes.ensures) _ (sym (join_spaced (codes "arb") fields)))

pub returns-in_err-gather-in-Coherent : goal.returns-in_err-gather-in-Coherent
returns-in_err-gather-in-Coherent g c =
    let fields : List (List ℕ) = measure_fields c.in-Coherent.measure in
    rw c.in-Coherent.is (same_text (cut c.in_err-gather-in-Coherent.ensures (spaced fields) _ c.from_residual-in_err-gather-in-Coherent.ensures.0) _ (sym (join_spaced (codes "coherent") fields)))

pub returns-in_ok-gather-in-Coherent : goal.returns-in_ok-gather-in-Coherent
returns-in_ok-gather-in-Coherent g c =
    let fields : List (List ℕ) = measure_fields c.in-Coherent.measure in
    rw c.in-Coherent.is (same_text (and_then c.in_ok-gather-in-Coherent.ensures c.put_measure.ensures) _ (sym (join_spaced (codes "coherent") fields)))

pub returns-in_err-gather-in-Thin : goal.returns-in_err-gather-in-Thin
returns-in_err-gather-in-Thin g c =
    let fields : List (List ℕ) = fraction_fields c.in-Thin.parts ++ measure_fields c.in-Thin.measure in
    rw c.in-Thin.is (same_text (cut c.in_err-gather-in-Thin.ensures (spaced fields) _ c.from_residual-in_err-gather-in-Thin.ensures.0) _ (sym (join_spaced (codes "thin") fields)))

pub returns-in_ok-gather-in-Thin : goal.returns-in_ok-gather-in-Thin
returns-in_ok-gather-in-Thin g c =
    let fields : List (List ℕ) = fraction_fields c.in-Thin.parts ++ measure_fields c.in-Thin.measure in
    rw c.in-Thin.is (same_text (and_then c.in_ok-gather-in-Thin.ensures c.put_bound.ensures) _ (sym (join_spaced (codes "thin") fields)))

pub returns-in_err-gather-in-Narrow : goal.returns-in_err-gather-in-Narrow
returns-in_err-gather-in-Narrow g c =
    let fields : List (List ℕ) = fraction_fields c.in-Narrow.parts ++ measure_fields c.in-Narrow.measure in
    rw c.in-Narrow.is (same_text (cut c.in_err-gather-in-Narrow.ensures (spaced fields) _ c.from_residual-in_err-gather-in-Narrow.ensures.0) _ (sym (join_spaced (codes "narrow") fields)))

pub returns-in_ok-gather-in-Narrow : goal.returns-in_ok-gather-in-Narrow
returns-in_ok-gather-in-Narrow g c =
    let fields : List (List ℕ) = fraction_fields c.in-Narrow.parts ++ measure_fields c.in-Narrow.measure in
    rw c.in-Narrow.is (same_text (and_then c.in_ok-gather-in-Narrow.ensures c.put_bound-in-Narrow.ensures) _ (sym (join_spaced (codes "narrow") fields)))

pub returns-in_err-gather-in-Wide : goal.returns-in_err-gather-in-Wide
returns-in_err-gather-in-Wide g c =
    let fields : List (List ℕ) = run_fields c.in-Wide.stage c.in-Wide.pivots ++ place_fields c.in-Wide.at in
    rw c.in-Wide.is (same_text (cut c.in_err-gather-in-Wide.ensures (spaced fields) _ c.from_residual-in_err-gather-in-Wide.ensures.0) _ (sym (join_spaced (codes "wide") fields)))

pub returns-in_ok-gather-in-Wide : goal.returns-in_ok-gather-in-Wide
returns-in_ok-gather-in-Wide g c =
    let fields : List (List ℕ) = run_fields c.in-Wide.stage c.in-Wide.pivots ++ place_fields c.in-Wide.at in
    rw c.in-Wide.is (same_text (and_then c.in_ok-gather-in-Wide.ensures c.put_wide.ensures) _ (sym (join_spaced (codes "wide") fields)))

pub returns-in_err-gather-in-OutOfPivots : goal.returns-in_err-gather-in-OutOfPivots
returns-in_err-gather-in-OutOfPivots g c =
    let fields : List (List ℕ) = run_fields c.in-OutOfPivots.stage c.in-OutOfPivots.pivots in
    rw c.in-OutOfPivots.is (same_text (cut c.in_err-gather-in-OutOfPivots.ensures (spaced fields) _ c.from_residual-in_err-gather-in-OutOfPivots.ensures.0) _ (sym (join_spaced (codes "out-of-pivots") fields)))

pub returns-in_ok-gather-in-OutOfPivots : goal.returns-in_ok-gather-in-OutOfPivots
returns-in_ok-gather-in-OutOfPivots g c =
    let fields : List (List ℕ) = run_fields c.in-OutOfPivots.stage c.in-OutOfPivots.pivots in
    rw c.in-OutOfPivots.is (same_text (and_then c.in_ok-gather-in-OutOfPivots.ensures c.put_run.ensures) _ (sym (join_spaced (codes "out-of-pivots") fields)))
