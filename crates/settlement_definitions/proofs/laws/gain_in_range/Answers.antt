use Rattle.std.proofs.Common.{arith}
use Rattle.std.proofs.lemmas.Int.{ints}
use Rattle.settlement_definitions.specs.Legs.{legs_of}
use Rattle.settlement_definitions.specs.Abandonment.{leg_at}
use Rattle.settlement_definitions.proofs.GainLemmas.{leg_gain-range}
use Rattle.settlement_definitions.proofs.laws.gain_in_range.Goals as goal

pub returns : goal.returns
returns c offer x =
    let first = leg_gain-range offer.odds.thousandths (leg_at offer.rule offer.selection (legs_of offer.selection).0 x) offer.odds.at_least in
    let second = leg_gain-range offer.odds.thousandths (leg_at offer.rule offer.selection (legs_of offer.selection).1 x) offer.odds.at_least in
    (omega (arith, ints), omega (arith, ints))
