use Rattle.std.proofs.Common.{◌≡◌, ℕ, ◌+◌, ◌<◌, [], ◌∷◌, ◌++◌, length, map, take, get_or, refl, sym, ap, ◌∙◌, subst, subst₂, arith, rules}
use Rattle.std.specs.List.{AllZip}
use Rattle.std.proofs.lemmas.Grind.{common_steps}
use Rattle.std.proofs.lemmas.List.{length-map, get_or-map, take_more}
use Rattle.std.proofs.lemmas.Slice.Zip.{all_zipped_more}
use Rattle.desk_once.specs.Reports.{IsPartOf, emptied}
use Rattle.desk_once.proofs.InPlace.{written_read, written_step}
use Rattle.desk_once.proofs.reporting.take_parts.Goals as goal

pub loop-k-preserved : goal.loop-k-preserved
loop-k-preserved g c =
    let ends = c.args.ends.now in
    let k = c.loop-k.k in
    let end = c.index-ends-k.result in
    let part = c.part_of-part.result in
    let kept = c.loop-k.invariant in
    let long : length (map emptied ends) ≡ length ends = length-map ends emptied in
    let within : k < length ends = omega (arith, c.loop-k-test.true, c.loop-k.auto.ends) in
    let end_is = written_read (map emptied ends) ends c.loop-k.ends k end kept.ends long within in
    let target = get_or-map emptied ends k end end within in
    let items : c.push-pushed.new.self.items ≡ c.loop-k.parts.items ++ part ∷ [] = grind (arith, common_steps) in
    record {
      ends = written_step (map emptied ends) ends c.loop-k.ends k end c.part_of-part.new.end kept.ends long within (c.part_of-part.ensures.rest ∙ ap emptied end_is ∙ sym target);
      parts = subst₂ (λ es ps. AllZip IsPartOf es ps) (sym (take_more ends k end within)) (sym items) (all_zipped_more IsPartOf (take k ends) c.loop-k.parts.items (get_or ends k end) part kept.parts (subst (λ e. IsPartOf e part) end_is c.part_of-part.ensures.part));
      count = grind (arith, common_steps);
      room = grind (arith, common_steps);
    }
