use Rattle.std.proofs.Common.{ℕ, suc, zero, ◌≡◌, ◌+◌, ◌%◌, ◌≤◌, refl, arith}
use Rattle.std.specs.Prelude.{Some, slice_get}
use Rattle.settlement_definitions.specs.StandIns.{high_score, stand_scores}

abbrev IsByLead : ℕ → Type 0
IsByLead step = ((high_score step).0 + 6 ≡ (high_score step).1 + step) × ((high_score step).0 + (high_score step).1 ≡ 8 + step % 2)

-- row by row
pub high_scores_by_lead : (step : ℕ) → step ≤ 12 → IsByLead step
high_scores_by_lead zero few = (refl, refl)
high_scores_by_lead (suc zero) few = (refl, refl)
high_scores_by_lead (suc (suc zero)) few = (refl, refl)
high_scores_by_lead (suc (suc (suc zero))) few = (refl, refl)
high_scores_by_lead (suc (suc (suc (suc zero)))) few = (refl, refl)
high_scores_by_lead (suc (suc (suc (suc (suc zero))))) few = (refl, refl)
high_scores_by_lead (suc (suc (suc (suc (suc (suc zero)))))) few = (refl, refl)
high_scores_by_lead (suc (suc (suc (suc (suc (suc (suc zero))))))) few = (refl, refl)
high_scores_by_lead (suc (suc (suc (suc (suc (suc (suc (suc zero)))))))) few = (refl, refl)
high_scores_by_lead (suc (suc (suc (suc (suc (suc (suc (suc (suc zero))))))))) few = (refl, refl)
high_scores_by_lead (suc (suc (suc (suc (suc (suc (suc (suc (suc (suc zero)))))))))) few = (refl, refl)
high_scores_by_lead (suc (suc (suc (suc (suc (suc (suc (suc (suc (suc (suc zero))))))))))) few = (refl, refl)
high_scores_by_lead (suc (suc (suc (suc (suc (suc (suc (suc (suc (suc (suc (suc zero)))))))))))) few = (refl, refl)
high_scores_by_lead (suc (suc (suc (suc (suc (suc (suc (suc (suc (suc (suc (suc (suc n))))))))))))) few = absurd (omega arith)

pub high_scores_stand_last : (step : ℕ) → step ≤ 12 → slice_get stand_scores (36 + step) ≡ Some (high_score step)
unfolding stand_scores
high_scores_stand_last zero few = refl
high_scores_stand_last (suc zero) few = refl
high_scores_stand_last (suc (suc zero)) few = refl
high_scores_stand_last (suc (suc (suc zero))) few = refl
high_scores_stand_last (suc (suc (suc (suc zero)))) few = refl
high_scores_stand_last (suc (suc (suc (suc (suc zero))))) few = refl
high_scores_stand_last (suc (suc (suc (suc (suc (suc zero)))))) few = refl
high_scores_stand_last (suc (suc (suc (suc (suc (suc (suc zero))))))) few = refl
high_scores_stand_last (suc (suc (suc (suc (suc (suc (suc (suc zero)))))))) few = refl
high_scores_stand_last (suc (suc (suc (suc (suc (suc (suc (suc (suc zero))))))))) few = refl
high_scores_stand_last (suc (suc (suc (suc (suc (suc (suc (suc (suc (suc zero)))))))))) few = refl
high_scores_stand_last (suc (suc (suc (suc (suc (suc (suc (suc (suc (suc (suc zero))))))))))) few = refl
high_scores_stand_last (suc (suc (suc (suc (suc (suc (suc (suc (suc (suc (suc (suc zero)))))))))))) few = refl
high_scores_stand_last (suc (suc (suc (suc (suc (suc (suc (suc (suc (suc (suc (suc (suc n))))))))))))) few = absurd (omega arith)
