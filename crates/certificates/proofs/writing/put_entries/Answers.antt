use Rattle.std.proofs.Common.{ℕ, List, ◌+◌, drop}
use Rattle.std.specs.List.{flat_map}
use Rattle.scan_types.specs.declared.outcome.Outcome.{Outcome}
use Rattle.finding_definitions.specs.Text.{entry_fields}
use Rattle.text_out.specs.Written.{spaced}
use Rattle.text_out.proofs.Writes.{and_then, cut, same_text, nothing, flat_map_take, flat_map_rest, flat_map_all}
use Rattle.certificates.proofs.writing.put_entries.Goals as goal

pub loop-entry-init : goal.loop-entry-init
loop-entry-init g c = nothing _ _ _ tt

pub returns-in_err-put_entry : goal.returns-in_err-put_entry
returns-in_err-put_entry g c =
    let xs : List (Outcome × ℕ) = c.args.entries.now in
    let i : ℕ = c.loop-entry.entry-index in
    same_text (cut (and_then c.loop-entry.invariant c.in_err-put_entry.ensures) (flat_map (λ (entry : Outcome × ℕ). spaced (entry_fields entry)) (drop (i + 1) xs)) _ c.from_residual.ensures.0) _ (flat_map_rest (λ (entry : Outcome × ℕ). spaced (entry_fields entry)) xs i _ c.loop-entry-test.true)

pub loop-entry-preserved : goal.loop-entry-preserved
loop-entry-preserved g c =
    same_text (and_then c.loop-entry.invariant c.in_ok-put_entry.ensures) _ (flat_map_take (λ (entry : Outcome × ℕ). spaced (entry_fields entry)) c.args.entries.now c.loop-entry.entry-index _ c.loop-entry-test.true)

pub returns : goal.returns
returns g c = same_text c.loop-entry.invariant _ (flat_map_all (λ (entry : Outcome × ℕ). spaced (entry_fields entry)) c.args.entries.now c.loop-entry.entry-index c.loop-entry-test.false)
