-- What is read of a kept form is read of its plain tableau.
use Rattle.std.proofs.Common.{◌≡◌, ℕ, zero, suc, ◌*◌, ◌≤◌, inl, inr, List, [], ◌∷◌, length, map, sym, ap, ◌∙◌, subst, subst₂, arith}
use Rattle.std.specs.Prelude.{Err}
use Rattle.std.proofs.lemmas.Int.{ints}
use Rattle.std.proofs.lemmas.Slice.Zip.{AllZip-long}
use lib.IntN.{ℤ, pos, ◌+ℤ◌, ◌*ℤ◌}
use lib.Signed.{◌≤ℤ◌}
use Rattle.pivot_definitions.specs.Tableaus.{SimplexTableau, kept}
use Rattle.pivot_definitions.proofs.Ring.{linear, zero_times}
use Rattle.scan_types.specs.declared.offer.Offer.{Offer}
use Rattle.scan_types.specs.declared.outcome.Outcome.{Outcome}
use Rattle.scan_types.specs.declared.outcome.Outcome.TheVariants.{Full}
use Rattle.settlement_definitions.specs.Gain.{gain}
use Rattle.settlement_definitions.specs.Classes.{classes_of}
use Rattle.finding_definitions.specs.Arbitrage.{total_gain, IsArbitrage}
use Rattle.finding_definitions.specs.Findings.{IsVerdict, IsRight, IsRightVerdict}
use Rattle.finding_definitions.specs.Fractions.{Fractions}
use Rattle.finding_definitions.specs.declared.finding.Finding.{Finding}
use Rattle.finding_definitions.specs.declared.finding.Finding.TheVariants.{Arb, Coherent, Thin, Narrow, Wide, OutOfPivots}
use Rattle.finding_definitions.specs.declared.finding.WideAt.{WideAt}
use Rattle.finding_definitions.specs.declared.finding.Stage.{Stage}
use Rattle.finding_definitions.specs.declared.finding.Stage.TheVariants.{Plain}
use Rattle.judging_definitions.specs.Columns.{leading_offers}
use Rattle.judging_definitions.specs.Stakes.{all_numbers, floors}
use Rattle.judging_definitions.specs.Readings.{HasLevelOne, Reading, Reads, ReadsWide, MeasureReads, DirectionReads, PartsRead, IsDirection}
use Rattle.judging_definitions.specs.ExactFinding.{AfterReading, IsFoundWithinLimits}
use Rattle.judging_definitions.specs.FirstRun.{first_program, first_stakes}
use Rattle.judging_laws.specs.Laws.{limited_stakes, IsAtBest}
use Rattle.judging_laws.proofs.KeptReadings.{same_level, same_measure, same_direction, same_parts, same_floors}
use Rattle.judging_laws.proofs.Directions.{direction_gains}
use Rattle.coherence_lp.specs.declared.fault.ReadingFault.{ReadingFault}
use Rattle.coherence_lp.specs.declared.fault.ReadingFault.TheVariants as faults
use Rattle.coherence_lp.specs.Faults.{IfWide}
use Rattle.verdict_maker.specs.Turns.{HasSome}

-- ---- readings

pub read_value : {A : Type 0} (reads other : Reading A → Type 0) (stage : Stage) (pivots : ℕ) (next : A → Type 0) (finding : Finding) (value : A) → ((r : Reading A) → reads r → other r) → reads (Reads value) → next value → AfterReading other stage pivots next finding
read_value reads other stage pivots next finding value moved here follows = inr (value, moved (Reads value) here, follows)

pub read_nothing : {A : Type 0} (B : Type 0) (reads other : Reading A → Type 0) (stage : Stage) (pivots : ℕ) (next : A → Type 0) (finding : Finding) (fault : ReadingFault) → ((r : Reading A) → reads r → other r) → IfWide {A = B} (Err fault) (λ place. reads (ReadsWide place)) → (place : WideAt) × (fault ≡ faults.Wide place) × (finding ≡ Wide stage pivots place) → AfterReading other stage pivots next finding
read_nothing B reads other stage pivots next finding fault moved wide unread =
    let here : reads (ReadsWide unread.0) = subst (λ f. IfWide {A = B} (Err f) (λ place. reads (ReadsWide place))) unread.1 wide in
    inl (unread.0, moved (ReadsWide unread.0) here, unread.2)

-- ---- the kept form's readings are the plain tableau's

pub level_there : (plain left : SimplexTableau) → left ≡ kept plain → HasLevelOne left → HasLevelOne plain
level_there plain left e one = (same_level plain).1 (subst HasLevelOne e one)

pub level_here : (plain left : SimplexTableau) → left ≡ kept plain → HasLevelOne plain → HasLevelOne left
level_here plain left e one = subst HasLevelOne (sym e) ((same_level plain).0 one)

pub no_level_there : (plain left : SimplexTableau) → left ≡ kept plain → (HasLevelOne left → ⊥) → HasLevelOne plain → ⊥
no_level_there plain left e below one = below (subst HasLevelOne (sym e) ((same_level plain).0 one))

pub measure_there : (given classes : List Outcome) (plain left : SimplexTableau) → given ≡ classes → left ≡ kept plain → (r : Reading (List (Outcome × ℕ))) → MeasureReads given left r → MeasureReads classes plain r
measure_there given classes plain left same e r reads = (same_measure classes plain r).1 (subst₂ (λ cs t. MeasureReads cs t r) same e reads)

pub direction_there : (offers : List Offer) (plain left : SimplexTableau) → left ≡ kept plain → (r : Reading Fractions) → DirectionReads offers (first_stakes offers left) r → DirectionReads offers (first_stakes offers plain) r
direction_there offers plain left e r reads =
    (same_direction (classes_of offers) offers (map (λ (o : ℕ × Offer). o.0) (leading_offers offers (classes_of offers))) plain r).1 (subst (λ t. DirectionReads offers (first_stakes offers t) r) e reads)

pub parts_there : (offers : List Offer) (plain left : SimplexTableau) → left ≡ kept plain → (r : Reading Fractions) → PartsRead (limited_stakes offers left) r → PartsRead (limited_stakes offers plain) r
parts_there offers plain left e r reads = (same_parts (classes_of offers) offers (all_numbers offers) plain r).1 (subst (λ t. PartsRead (limited_stakes offers t) r) e reads)

pub floors_there : (offers : List Offer) (plain left : SimplexTableau) → left ≡ kept plain → floors (limited_stakes offers left) ≡ floors (limited_stakes offers plain)
floors_there offers plain left e = ap (λ t. floors (limited_stakes offers t)) e ∙ sym (same_floors (classes_of offers) offers (all_numbers offers) plain)

-- ---- step 6

pub floors_win : (offers : List Offer) (pivots : ℕ) (plain left : SimplexTableau) (measure : List (Outcome × ℕ)) (stakes : List ℕ) → left ≡ kept plain → stakes ≡ floors (limited_stakes offers left) → IsArbitrage offers stakes → IsFoundWithinLimits offers pivots plain measure (Arb stakes)
floors_win offers pivots plain left measure stakes e is wins =
    let same = is ∙ floors_there offers plain left e in
    inl (subst (IsArbitrage offers) same wins, ap Arb same)

pub floors_fail : (offers : List Offer) (pivots : ℕ) (plain left : SimplexTableau) (measure : List (Outcome × ℕ)) (stakes : List ℕ) (finding : Finding) → left ≡ kept plain → stakes ≡ floors (limited_stakes offers left) → (IsArbitrage offers stakes → ⊥) → AfterReading (PartsRead (limited_stakes offers plain)) Plain pivots (λ parts. finding ≡ Narrow parts measure) finding → IsFoundWithinLimits offers pivots plain measure finding
floors_fail offers pivots plain left measure stakes finding e is fails rest =
    inr ((λ wins. fails (subst (IsArbitrage offers) (sym (is ∙ floors_there offers plain left e)) wins)), rest)

-- ---- the direction has an item above 0 for some offer, and one for each

pub direction_long : (offers : List Offer) (tableau : SimplexTableau) (direction : Fractions) → IsDirection offers (first_stakes offers tableau) direction → length direction.parts ≡ length offers
direction_long offers tableau direction is = AllZip-long (λ (offer : Offer) (part : ℕ). part ≤ offer.limit * direction.divisor) offers direction.parts is.fits.within_limits

none_out : (g rest : ℤ) → pos 1 ≤ℤ (pos 0 *ℤ g +ℤ rest) → pos 1 ≤ℤ rest
none_out g rest h = let e = zero_times g in let k = subst (λ z. pos 1 ≤ℤ (z +ℤ rest)) e h in omega (arith, linear, k)

pub some_item : (offers : List Offer) (items : List ℕ) (x : Outcome) → pos 1 ≤ℤ total_gain offers items x → HasSome items
some_item [] items x h = absurd (omega (arith, ints, h))
some_item (offer ∷ offers) [] x h = absurd (omega (arith, ints, h))
some_item (offer ∷ offers) (zero ∷ items) x h =
    let rest = some_item offers items x (none_out (gain offer x) (total_gain offers items x) h) in
    (suc rest.0, omega (arith, rest.1), rest.2)
some_item (offer ∷ offers) (suc n ∷ items) x h = (0, omega arith, omega arith)

pub direction_some : (offers : List Offer) (tableau : SimplexTableau) (direction : Fractions) → IsAtBest (first_program offers) tableau → HasLevelOne tableau → IsDirection offers (first_stakes offers tableau) direction → HasSome direction.parts
direction_some offers tableau direction at one is = some_item offers direction.parts (Full 0 0) (direction_gains offers tableau direction at.0 at.1 one is (Full 0 0))

-- ---- a finding that is right and a verdict is a right verdict

pub right_verdict : (offers : List Offer) (finding : Finding) → IsRight offers finding → IsVerdict finding → IsRightVerdict offers finding
right_verdict offers (Arb stakes) right verdict = right
right_verdict offers (Coherent measure) right verdict = right
right_verdict offers (Thin parts measure) right verdict = right
right_verdict offers (Narrow parts measure) right verdict = absurd verdict
right_verdict offers (Wide stage pivots place) right verdict = absurd verdict
right_verdict offers (OutOfPivots stage pivots) right verdict = absurd verdict
