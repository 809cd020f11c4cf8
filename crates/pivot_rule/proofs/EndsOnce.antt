-- The three ends of a run exclude one another.
use Rattle.std.proofs.Common.{sym, ap, ◌∙◌}
use Rattle.pivot_definitions.proofs.One.{best_best, best_wide, best_out, wide_wide, wide_out}
use Rattle.pivot_rule.specs.declared.bland.RunEnd.TheVariants.{Best, Wide, OutOfPivots}
use Rattle.pivot_rule.specs.Ends.{EndIsOne}

pub end_is_one : EndIsOne
end_is_one start budget (Best n) (Best k) t u first second = ap Best (best_best start budget n k t u first second)
end_is_one start budget (Best n) (Wide k r c) t u first second = absurd (best_wide start budget n k r c t u first second)
end_is_one start budget (Best n) (OutOfPivots k) t u first second = absurd (best_out start budget n k t u first second)
end_is_one start budget (Wide n r c) (Best k) t u first second = absurd (best_wide start budget k n r c u t second first)
end_is_one start budget (Wide n r c) (Wide k r' c') t u first second =
    let one = wide_wide start budget n r c k r' c' t u first second in
    ap (λ x. Wide x r c) one.0 ∙ ap (λ x. Wide k x c) one.1 ∙ ap (λ x. Wide k r' x) one.2
end_is_one start budget (Wide n r c) (OutOfPivots k) t u first second = absurd (wide_out start budget n r c k t u first second)
end_is_one start budget (OutOfPivots n) (Best k) t u first second = absurd (best_out start budget k n u t second first)
end_is_one start budget (OutOfPivots n) (Wide k r c) t u first second = absurd (wide_out start budget k r c n u t second first)
end_is_one start budget (OutOfPivots n) (OutOfPivots k) t u first second = ap OutOfPivots (first.whole_budget ∙ sym second.whole_budget)
