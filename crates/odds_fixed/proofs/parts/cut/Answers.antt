use Rattle.std.proofs.Common.{rules}
use Rattle.odds_fixed.proofs.Splits.{split_none, split_found_rest}
use Rattle.odds_fixed.proofs.parts.cut.Goals as goal

pub returns : goal.returns
returns c = search (rules, split_none, split_found_rest)
