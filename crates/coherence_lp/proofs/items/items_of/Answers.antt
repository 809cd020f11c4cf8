use Rattle.std.proofs.Common.{◌≡◌, ◌∙◌, ℕ, ◌<◌, ◌≤◌, [], ◌∷◌, ◌++◌, length, map, ap₂, sym, subst, arith}
use Rattle.std.specs.Prelude.{slice_index, slice_index_or}
use Rattle.std.proofs.lemmas.List.{take_more, length-map, get_or-map}
use borrow.Author.Count.{below_more}
use Rattle.scan_types.specs.declared.limits.TheConstants.{MOST_PART}
use Rattle.coherence_lp.specs.Ratios.{item_of}
use Rattle.coherence_lp.proofs.StakeLists.{any_ratio}
use Rattle.coherence_lp.proofs.items.items_of.Goals as goal

pub loop-i-preserved : goal.loop-i-preserved
loop-i-preserved c =
    let ratios = c.as_slice-ratios.result.now in
    let f = item_of c.args.stakes.now.denominator c.args.divisor in
    let i = c.loop-i.i in
    let items = map f ratios in
    let long : i < length items = omega (arith, c.loop-i-test.true, length-map ratios f) in
    let here : c.in-Some.item ≡ slice_index_or items i 0 = c.in-Some.ensures.value ∙ sym (get_or-map f ratios i any_ratio 0 c.loop-i-test.true) in
    let P : ℕ → Type 0 = λ n. n ≤ MOST_PART in
    record {
      items = c.in_ok-push.ensures.items ∙ ap₂ (λ xs x. xs ++ x ∷ []) c.loop-i.invariant.items here ∙ sym (take_more items i 0 long);
      none = below_more (λ k. slice_index items k ≤ MOST_PART) i c.loop-i.invariant.none (subst P here c.in-Some.ensures.small);
    }
