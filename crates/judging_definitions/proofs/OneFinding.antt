-- A sheet with a budget has one finding.
use Rattle.std.proofs.Common.{◌≡◌, ℕ, inl, inr, List, sym, ap, ◌∙◌, subst}
use Rattle.scan_types.specs.declared.offer.Offer.{Offer}
use Rattle.scan_types.specs.declared.outcome.Outcome.{Outcome}
use Rattle.settlement_definitions.specs.Classes.{classes_of}
use Rattle.pivot_definitions.specs.Programs.{LinearProgram}
use Rattle.pivot_definitions.specs.Tableaus.{SimplexTableau, built}
use Rattle.pivot_definitions.specs.Runs.{EndsBest}
use Rattle.pivot_definitions.proofs.One.{best_best, best_wide, best_out, wide_wide, wide_out, run_is_one}
use Rattle.finding_definitions.specs.Arbitrage.{IsArbitrage}
use Rattle.finding_definitions.specs.Fractions.{Fractions}
use Rattle.finding_definitions.specs.declared.finding.Finding.{Finding}
use Rattle.finding_definitions.specs.declared.finding.Finding.TheVariants.{Arb, Coherent, Thin, Narrow, Wide, OutOfPivots}
use Rattle.finding_definitions.specs.declared.finding.Stage.{Stage}
use Rattle.finding_definitions.specs.declared.finding.Stage.TheVariants.{First, Slack, Plain}
use Rattle.finding_definitions.specs.declared.finding.WideAt.TheVariants.{Entry}
use Rattle.judging_definitions.specs.Columns.{leading_offers}
use Rattle.judging_definitions.specs.JudgingPrograms.{limited_program, plain_need, slack_need}
use Rattle.judging_definitions.specs.Stakes.{fractional_stakes, all_numbers, floors}
use Rattle.judging_definitions.specs.Readings.{Reading, Reads, ReadsWide, MeasureReads, DirectionReads, PartsRead}
use Rattle.judging_definitions.specs.ExactFinding.{IsWideRun, IsSpentRun, AfterRun, AfterReading, Either, IsFoundWithinLimits, IsFoundByPlainRun, IsFoundBySlackRun, IsFoundInDirection, IsExactFinding}
use Rattle.judging_definitions.proofs.OneReading.{measure_reads_one, direction_reads_one, parts_read_one, scaled_floors_one}

-- ---- the parts of a step

wide_runs_one : (program : LinearProgram) (budget : ℕ) (stage : Stage) (finding other : Finding) → IsWideRun program budget stage finding → IsWideRun program budget stage other → finding ≡ other
wide_runs_one program budget stage finding other a b =
    let one = wide_wide (built program) budget a.pivots a.row a.column b.pivots b.row b.column a.end b.end a.ends b.ends in
    a.is ∙ ap (λ n. Wide stage n (Entry a.row a.column)) one.0 ∙ ap (λ r. Wide stage b.pivots (Entry r a.column)) one.1 ∙ ap (λ c. Wide stage b.pivots (Entry b.row c)) one.2 ∙ sym b.is

spent_runs_one : (program : LinearProgram) (budget : ℕ) (stage : Stage) (finding other : Finding) → IsSpentRun program budget stage finding → IsSpentRun program budget stage other → finding ≡ other
spent_runs_one program budget stage finding other a b =
    a.is ∙ ap (λ n. OutOfPivots stage n) (a.ends.whole_budget ∙ sym b.ends.whole_budget) ∙ sym b.is

-- one run gives one finding, where what follows it does
after_run : (program : LinearProgram) (budget : ℕ) (stage : Stage) (next next' : ℕ → SimplexTableau → Type 0) (finding other : Finding) → ((pivots : ℕ) (end : SimplexTableau) → next pivots end → next' pivots end → finding ≡ other) → AfterRun program budget stage next finding → AfterRun program budget stage next' other → finding ≡ other
after_run program budget stage next next' finding other then (inl (inl a)) (inl (inl b)) = wide_runs_one program budget stage finding other a b
after_run program budget stage next next' finding other then (inl (inl a)) (inl (inr b)) = absurd (wide_out (built program) budget a.pivots a.row a.column b.pivots a.end b.end a.ends b.ends)
after_run program budget stage next next' finding other then (inl (inl a)) (inr b) = absurd (best_wide (built program) budget b.0 a.pivots a.row a.column b.1 a.end b.2 a.ends)
after_run program budget stage next next' finding other then (inl (inr a)) (inl (inl b)) = absurd (wide_out (built program) budget b.pivots b.row b.column a.pivots b.end a.end b.ends a.ends)
after_run program budget stage next next' finding other then (inl (inr a)) (inl (inr b)) = spent_runs_one program budget stage finding other a b
after_run program budget stage next next' finding other then (inl (inr a)) (inr b) = absurd (best_out (built program) budget b.0 a.pivots b.1 a.end b.2 a.ends)
after_run program budget stage next next' finding other then (inr a) (inl (inl b)) = absurd (best_wide (built program) budget a.0 b.pivots b.row b.column a.1 b.end a.2 b.ends)
after_run program budget stage next next' finding other then (inr a) (inl (inr b)) = absurd (best_out (built program) budget a.0 b.pivots a.1 b.end a.2 b.ends)
after_run program budget stage next next' finding other then (inr a) (inr b) =
    let pivots : b.0 ≡ a.0 = best_best (built program) budget b.0 a.0 b.1 a.1 b.2 a.2 in
    let there : EndsBest (built program) budget a.0 b.1 = subst (λ n. EndsBest (built program) budget n b.1) pivots b.2 in
    let end : b.1 ≡ a.1 = run_is_one (built program) a.0 b.1 a.1 there.run a.2.run in
    then a.0 a.1 a.3 (subst (λ t. next' a.0 t) end (subst (λ n. next' n b.1) pivots b.3))

-- one reading gives one finding, where what follows it does
after_reading : {A : Type 0} (reads : Reading A → Type 0) (stage : Stage) (pivots : ℕ) (next next' : A → Type 0) (finding other : Finding) → ((a b : Reading A) → reads a → reads b → a ≡ b) → ((value : A) → next value → next' value → finding ≡ other) → AfterReading reads stage pivots next finding → AfterReading reads stage pivots next' other → finding ≡ other
after_reading reads stage pivots next next' finding other one then (inl a) (inl b) =
    let same : a.0 ≡ b.0 = (let e = one (ReadsWide a.0) (ReadsWide b.0) a.1 b.1 in cc) in
    a.2 ∙ ap (λ place. Wide stage pivots place) same ∙ sym b.2
after_reading reads stage pivots next next' finding other one then (inl a) (inr b) = absurd (let e = one (ReadsWide a.0) (Reads b.0) a.1 b.1 in cc)
after_reading reads stage pivots next next' finding other one then (inr a) (inl b) = absurd (let e = one (Reads a.0) (ReadsWide b.0) a.1 b.1 in cc)
after_reading reads stage pivots next next' finding other one then (inr a) (inr b) =
    let same : b.0 ≡ a.0 = (let e = one (Reads b.0) (Reads a.0) b.1 a.1 in cc) in
    then a.0 a.2 (subst next' same b.2)

-- one choice gives one finding, where both of what it leads to do
either : (fact holds fails holds' fails' : Type 0) (finding other : Finding) → (holds → holds' → finding ≡ other) → (fails → fails' → finding ≡ other) → Either fact holds fails → Either fact holds' fails' → finding ≡ other
either fact holds fails holds' fails' finding other then otherwise (inl a) (inl b) = then a.1 b.1
either fact holds fails holds' fails' finding other then otherwise (inl a) (inr b) = absurd (b.0 a.0)
either fact holds fails holds' fails' finding other then otherwise (inr a) (inl b) = absurd (a.0 b.0)
either fact holds fails holds' fails' finding other then otherwise (inr a) (inr b) = otherwise a.1 b.1

both : (a b c : Finding) → a ≡ c → b ≡ c → a ≡ b
both a b c e f = e ∙ sym f

-- ---- the steps

within_limits_one : (offers : List Offer) (pivots : ℕ) (end : SimplexTableau) (q : List (Outcome × ℕ)) (finding other : Finding) → IsFoundWithinLimits offers pivots end q finding → IsFoundWithinLimits offers pivots end q other → finding ≡ other
within_limits_one offers pivots end q finding other =
    let stakes = fractional_stakes (classes_of offers) offers (all_numbers offers) end in
    either _ _ _ _ _ finding other (both finding other (Arb (floors stakes)))
    (after_reading (PartsRead stakes) Plain pivots (λ parts. finding ≡ Narrow parts q) (λ parts. other ≡ Narrow parts q) finding other (parts_read_one stakes) (λ parts. both finding other (Narrow parts q)))

plain_run_one : (offers : List Offer) (budget : ℕ) (direction : Fractions) (q : List (Outcome × ℕ)) (finding other : Finding) → IsFoundByPlainRun offers budget direction q finding → IsFoundByPlainRun offers budget direction q other → finding ≡ other
plain_run_one offers budget direction q finding other =
    after_run (limited_program (classes_of offers) offers plain_need) budget Plain _ _ finding other (λ pivots end. either _ _ _ _ _ finding other
    (within_limits_one offers pivots end q finding other)
    (after_reading (MeasureReads (classes_of offers) end) Plain pivots (λ m. finding ≡ Thin direction m) (λ m. other ≡ Thin direction m) finding other (measure_reads_one (classes_of offers) end) (λ m. both finding other (Thin direction m))))

slack_run_one : (offers : List Offer) (budget : ℕ) (direction : Fractions) (finding other : Finding) → IsFoundBySlackRun offers budget direction finding → IsFoundBySlackRun offers budget direction other → finding ≡ other
slack_run_one offers budget direction finding other =
    after_run (limited_program (classes_of offers) offers (slack_need offers)) budget Slack _ _ finding other (λ pivots end. either _ _ _ _ _ finding other
    (both finding other (Arb (floors (fractional_stakes (classes_of offers) offers (all_numbers offers) end))))
    (after_reading (MeasureReads (classes_of offers) end) Slack pivots (λ m. IsFoundByPlainRun offers budget direction m finding) (λ m. IsFoundByPlainRun offers budget direction m other) finding other (measure_reads_one (classes_of offers) end) (λ m. plain_run_one offers budget direction m finding other)))

direction_one : (offers : List Offer) (budget : ℕ) (direction : Fractions) (finding other : Finding) → IsFoundInDirection offers budget direction finding → IsFoundInDirection offers budget direction other → finding ≡ other
direction_one offers budget direction finding other first second =
    let stakes : second.0 ≡ first.0 = scaled_floors_one offers direction.parts second.0 first.0 second.1 first.1 in
    let there = subst (λ s. Either (IsArbitrage offers s) (other ≡ Arb s) (IsFoundBySlackRun offers budget direction other)) stakes second.2 in
    either _ _ _ _ _ finding other (both finding other (Arb first.0)) (slack_run_one offers budget direction finding other) first.2 there

pub exact_finding_one : (offers : List Offer) (budget : ℕ) (finding other : Finding) → IsExactFinding offers budget finding → IsExactFinding offers budget other → finding ≡ other
exact_finding_one offers budget finding other =
    let classes = classes_of offers in
    let leading = leading_offers offers classes in
    after_run _ budget First _ _ finding other (λ pivots end. either _ _ _ _ _ finding other
    (after_reading (DirectionReads offers _) First pivots (λ d. IsFoundInDirection offers budget d finding) (λ d. IsFoundInDirection offers budget d other) finding other (direction_reads_one offers _) (λ d. direction_one offers budget d finding other))
    (after_reading (MeasureReads classes end) First pivots (λ m. finding ≡ Coherent m) (λ m. other ≡ Coherent m) finding other (measure_reads_one classes end) (λ m. both finding other (Coherent m))))
