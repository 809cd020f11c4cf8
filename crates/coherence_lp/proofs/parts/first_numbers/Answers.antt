use Rattle.std.proofs.Common.{◌≡◌, ◌∙◌, ◌+◌, [], ◌∷◌, ◌++◌, ap, sym, arith}
use Rattle.std.specs.List.{range_with_len}
use Rattle.coherence_lp.proofs.StakeLists.{range_more}
use Rattle.coherence_lp.proofs.parts.first_numbers.Goals as goal

pub loop-i-preserved : goal.loop-i-preserved
loop-i-preserved c = c.in_ok-push.ensures.items ∙ ap (λ xs. xs ++ c.loop-i.i ∷ []) c.loop-i.invariant ∙ ap (λ k. range_with_len 0 c.loop-i.i ++ k ∷ []) (let e : c.loop-i.i ≡ 0 + c.loop-i.i = omega arith in e) ∙ sym (range_more 0 c.loop-i.i)
