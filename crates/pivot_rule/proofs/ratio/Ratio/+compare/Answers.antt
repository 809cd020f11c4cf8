use Rattle.std.proofs.Common.{◌≡◌, ◌⊎◌, inl, inr, ◌%◌}
use Rattle.std.proofs.lemmas.Cmp.{ranked}
use Rattle.pivot_rule.proofs.Ratios.{by_whole, by_rest, by_reciprocal}
use Rattle.pivot_rule.proofs.ratio.Ratio.+compare.Goals as goal
use Rattle.pivot_rule.proofs.ratio.Ratio.+compare.Goals.{then-rest-eq0-via-then-rest-eq0, then-rest-eq0-via-else-rest-eq0+then-other_rest-eq0}

pub returns-then-whole-other_whole : goal.returns-then-whole-other_whole
returns-then-whole-other_whole t c = by_whole c.args.self.numerator c.args.self.denominator c.args.other.numerator c.args.other.denominator c.cmp-then-whole-other_whole.result c.requires.denominator c.requires.other_denominator c.if-whole-other_whole.true (ranked _ _ _ c.cmp-then-whole-other_whole.ensures)

pub returns-then-rest-eq0 : goal.returns-then-rest-eq0
returns-then-rest-eq0 t c =
    let none : (c.args.self.numerator % c.args.self.denominator ≡ 0) ⊎ (c.args.other.numerator % c.args.other.denominator ≡ 0) = elim c.then-rest-eq0.branch [ then-rest-eq0-via-then-rest-eq0 w ↦ inl w.if-rest-eq0.true | then-rest-eq0-via-else-rest-eq0+then-other_rest-eq0 w ↦ inr w.if-other_rest-eq0.true ] in
    by_rest c.args.self.numerator c.args.self.denominator c.args.other.numerator c.args.other.denominator c.cmp-then-rest-eq0.result c.requires.denominator c.requires.other_denominator c.if-whole-other_whole.false none (ranked _ _ _ c.cmp-then-rest-eq0.ensures)

pub returns : goal.returns
returns t c = by_reciprocal c.args.self.numerator c.args.self.denominator c.args.other.numerator c.args.other.denominator c.compare.result c.requires.denominator c.requires.other_denominator c.if-whole-other_whole.false c.compare.ensures
