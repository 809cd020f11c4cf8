use Rattle.std.proofs.Common.{◌≡◌, ◌-◌, length, map, take, drop, sym, ap, ◌∙◌, subst, rules}
use Rattle.std.proofs.lemmas.List.{drop_at}
use Rattle.std.specs.List.{All}
use Rattle.std.proofs.lemmas.List.Elements.{All-take}
use Rattle.row_definitions.specs.Combination.{FitsEntry}
use Rattle.settlement_definitions.specs.Gain.{gain}
use Rattle.coherence_lp.proofs.Sizes.{gains_fit}
use Rattle.coherence_lp.proofs.columns.push_column.Goals as goal

pub primitive-requires : goal.primitive-requires
primitive-requires c =
    let row = map (gain c.args.offer.now) c.args.classes.now in
    let all = c.as_mut_slice.result.now in
    let start = c.len-start.result in
    let long : length c.args.gains.now.items ≡ start = search rules in
    let e = ap (drop start) (c.as_mut_slice.ensures.value ∙ c.in_ok-push_gains.ensures) ∙ drop_at c.args.gains.now.items row start long in
    subst (λ r. All FitsEntry (take (length all - start) r)) (sym e) (All-take FitsEntry (length all - start) row (gains_fit c.args.classes.now c.args.offer.now))
