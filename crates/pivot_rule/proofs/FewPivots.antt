-- A run has made fewer pivots than there are bases.
use Rattle.std.proofs.Common.{ℕ, ◌+◌, ◌<◌, length, sym, subst}
use Rattle.pivot_definitions.specs.Tableaus.{SimplexTableau, column_count, built}
use Rattle.pivot_definitions.specs.Runs.{RunsTo}
use Rattle.pivot_definitions.proofs.Built.{length-range}
use Rattle.bland_laws.specs.Ways.{ways}
use Rattle.bland_laws.proofs.Walks.{plain_run}
use Rattle.bland_laws.proofs.RunsAreShort.{run_is_short}
use Rattle.pivot_rule.specs.Ends.{IsCappedStart}
use Rattle.pivot_rule.proofs.Steps.{RunSoFar}

pub few_pivots : (start tableau : SimplexTableau) (n : ℕ) → IsCappedStart start → RunSoFar start n tableau → n < ways (column_count start) (length start.basis)
few_pivots start tableau n (program, is, capped, start_is) (plain, kept_is, run) =
    let short = run_is_short program is capped n plain (plain_run (built program) n plain (subst (λ s. RunsTo s n plain) start_is run)) in
    subst (λ s. n < ways (column_count s) (length s.basis)) (sym start_is) (subst (λ r. n < ways (program.columns + r) r) (sym (length-range program.columns program.rows)) short)
