use Rattle.std.specs.Prelude.{ℕ, pos, negsuc, ◌≡◌, ◌≤◌, ◌+◌, ◌*◌, ◌/◌, ◌%◌, ◌+ℤ◌, ◌-ℤ◌, ◌*ℤ◌, ◌≤ℤ◌, ◌⊎◌, ◌↔◌, IsTrue, List, length, Some, slice_get, All, Contains}
use Rattle.scan_types.specs.declared.offer.Offer.{Offer}
use Rattle.scan_types.specs.declared.outcome.Outcome.{Outcome}
use Rattle.scan_types.specs.declared.outcome.Outcome.TheVariants.{Full}
use Rattle.settlement_definitions.specs.Gain.{gain, net, slack}
use Rattle.settlement_definitions.specs.StandIns.{is_final, high_score, stand_for, stand_ins, stand_scores}
use Rattle.settlement_definitions.specs.Classes.{SettleAlike, settle_alike, classes_of}
use Rattle.finding_definitions.specs.Arbitrage.{need, total_net, total_gain}
use Rattle.finding_definitions.specs.Measure.{IsFinal}
use Rattle.finding_definitions.specs.Verdicts.{need_with_slack}

-- the test of a final score is true exactly of the final scores
abbrev pub FinalTestIsExact : Type 0
FinalTestIsExact = (x : Outcome) → IsTrue (is_final x) ↔ IsFinal x

-- the test of two outcomes is true exactly if they settle the sheet alike
abbrev pub AlikeTestIsExact : Type 0
AlikeTestIsExact = (offers : List Offer) (x y : Outcome) → IsTrue (settle_alike offers x y) ↔ SettleAlike offers x y

-- a score that stands for those of eight goals or more has the lead of its place, from -6 to 6, and eight goals, or nine if the lead is odd
abbrev pub HighScoresByLead : Type 0
HighScoresByLead =
    (step : ℕ) → step ≤ 12
    → ((high_score step).0 + 6 ≡ (high_score step).1 + step) × ((high_score step).0 + (high_score step).1 ≡ 8 + step % 2)

-- these scores are the last 13 of the table
abbrev pub HighScoresStandLast : Type 0
HighScoresStandLast = (step : ℕ) → step ≤ 12 → slice_get stand_scores (36 + step) ≡ Some (high_score step)

-- a stand-in is of the kind of each outcome that it stands for, and gives each offer the same gain
abbrev pub StandInSettlesAlike : Type 0
StandInSettlesAlike =
    (offer : Offer) (x : Outcome) → (is_final (stand_for x) ≡ is_final x) × (gain offer (stand_for x) ≡ gain offer x)

-- each outcome has one of the 98 for it
abbrev pub EachHasStandIn : Type 0
EachHasStandIn = (x : Outcome) → Contains stand_ins (stand_for x)

-- what stakes win at each of the 98 they win at every outcome
abbrev pub NetAtEachOutcome : Type 0
NetAtEachOutcome =
    (offers : List Offer) (stakes : List ℕ) → All (λ x. need x ≤ℤ total_net offers stakes x) stand_ins → (x : Outcome) → need x ≤ℤ total_net offers stakes x

-- and so do parts
abbrev pub GainAtEachOutcome : Type 0
GainAtEachOutcome =
    (offers : List Offer) (parts : List ℕ) → All (λ x. need x ≤ℤ total_gain offers parts x) stand_ins → (x : Outcome) → need x ≤ℤ total_gain offers parts x

-- each outcome has a class of its kind that gives each offer of the sheet the same gain
abbrev pub EachHasClass : Type 0
EachHasClass =
    (offers : List Offer) (x : Outcome) → (y : Outcome) × Contains (classes_of offers) y × SettleAlike offers y x

-- outcomes that settle alike have the same need
abbrev pub EqualNeeds : Type 0
EqualNeeds = (offers : List Offer) (x y : Outcome) → SettleAlike offers x y → need x ≡ need y

-- the same sum of nets
abbrev pub EqualNets : Type 0
EqualNets =
    (offers : List Offer) (stakes : List ℕ) (x y : Outcome) → SettleAlike offers x y → total_net offers stakes x ≡ total_net offers stakes y

-- the same sum of parts times gains
abbrev pub EqualGains : Type 0
EqualGains =
    (offers : List Offer) (parts : List ℕ) (x y : Outcome) → SettleAlike offers x y → total_gain offers parts x ≡ total_gain offers parts y

-- and the same need with slack
abbrev pub EqualSlacks : Type 0
EqualSlacks =
    (offers : List Offer) (x y : Outcome) → SettleAlike offers x y → need_with_slack offers x ≡ need_with_slack offers y

-- what stakes win at each class they win at every outcome
abbrev pub NetFromClasses : Type 0
NetFromClasses =
    (offers : List Offer) (stakes : List ℕ) → All (λ y. need y ≤ℤ total_net offers stakes y) (classes_of offers) → (x : Outcome) → need x ≤ℤ total_net offers stakes x

-- and so do parts, for a multiple of the need
abbrev pub GainFromClasses : Type 0
GainFromClasses =
    (offers : List Offer) (parts : List ℕ) (times : ℕ) → All (λ y. (pos times *ℤ need y) ≤ℤ total_gain offers parts y) (classes_of offers)
    → (x : Outcome) → (pos times *ℤ need x) ≤ℤ total_gain offers parts x

-- and for a multiple of the need with slack
abbrev pub SlackFromClasses : Type 0
SlackFromClasses =
    (offers : List Offer) (parts : List ℕ) (times : ℕ) → All (λ y. (pos times *ℤ need_with_slack offers y) ≤ℤ total_gain offers parts y) (classes_of offers)
    → (x : Outcome) → (pos times *ℤ need_with_slack offers x) ≤ℤ total_gain offers parts x

-- there are 98 stand-ins
abbrev pub NinetyEightStandIns : Type 0
NinetyEightStandIns = length stand_ins ≡ 98

-- a bet is lost, half lost, given back, half won or won: the legs of a quarter line never go opposite ways
abbrev pub FiveGains : Type 0
FiveGains =
    (offer : Offer) (x : Outcome) → let profit = pos offer.odds.thousandths -ℤ pos 1000 in
    (gain offer x ≡ negsuc 1999) ⊎ ((gain offer x ≡ negsuc 999) ⊎ ((gain offer x ≡ pos 0) ⊎ ((gain offer x ≡ profit) ⊎ (gain offer x ≡ profit +ℤ profit))))

-- offers of one selection and rule gain alike at the same outcomes, whatever their odds
abbrev pub SameBetsGainAlike : Type 0
SameBetsGainAlike =
    (one other : Offer) (x y : Outcome) → one.selection ≡ other.selection → one.rule ≡ other.rule → gain one x ≡ gain one y → gain other x ≡ gain other y

-- the same bet at higher odds gains at least as much at every outcome
abbrev pub RaisingOddsLowersNoGain : Type 0
RaisingOddsLowersNoGain =
    (low high : Offer) (x : Outcome) → low.selection ≡ high.selection → low.rule ≡ high.rule → low.odds.thousandths ≤ high.odds.thousandths → gain low x ≤ℤ gain high x

-- every bet loses its whole stake at some final score
abbrev pub EachBetCanLose : Type 0
EachBetCanLose = (offer : Offer) → (home : ℕ) × (away : ℕ) × (gain offer (Full home away) ≡ negsuc 1999)

-- a fractional stake, cut down to whole minor units, wins at most its slack less; all numbers times 2000 and the divisor
abbrev pub SlackCoversRounding : Type 0
SlackCoversRounding =
    (offer : Offer) (x : Outcome) (divisor part : ℕ) → 1 ≤ divisor →
    (pos part *ℤ gain offer x) ≤ℤ (pos (2000 * divisor) *ℤ net offer (part / divisor) x +ℤ pos (2 * divisor * slack offer x))
