use Rattle.std.specs.Prelude.{ℕ, ◌+◌, ◌-◌, min, Bool, true, false, nat_le, if◌then◌else◌, List, [], ◌∷◌, ◌++◌, map}
use Rattle.std.specs.List.{range_with_len, flat_map}
use Rattle.std.proofs.Math.ListN.{get_or}
use Rattle.scan_types.specs.declared.outcome.Outcome.{Outcome}
use Rattle.scan_types.specs.declared.outcome.Outcome.TheVariants.{Full, Abandoned}

-- whether the match was completed
abbrev pub is_final : Outcome → Bool
is_final (Full h a) = true
is_final (Abandoned h a) = false

-- six more than the home side's lead; a lead beyond six goals either way counts as six
abbrev pub lead_step : ℕ → ℕ → ℕ
lead_step h a = min 12 (h + 6 - a)

-- the scores that stand for those of eight goals or more, by the home side's lead from -6 to 6: of eight goals, or of nine if the lead is odd
abbrev pub high_scores : List (ℕ × ℕ)
high_scores =
    (1, 7) ∷ (2, 7) ∷ (2, 6) ∷ (3, 6) ∷ (3, 5) ∷ (4, 5)
    ∷ (4, 4)
    ∷ (5, 4) ∷ (5, 3) ∷ (6, 3) ∷ (6, 2) ∷ (7, 2) ∷ (7, 1) ∷ []

-- the one with this lead
abbrev pub high_score : ℕ → ℕ × ℕ
high_score step = get_or high_scores step (7, 1)

-- the score that stands for a score: itself up to seven goals, and beyond the one with its lead
abbrev pub stand_score : ℕ → ℕ → ℕ × ℕ
stand_score h a =
    if nat_le (h + a) 7 then (h, a) else high_score (lead_step h a)

-- the outcome that stands for an outcome
abbrev pub stand_for : Outcome → Outcome
stand_for (Full h a) = Full (stand_score h a).0 (stand_score h a).1
stand_for (Abandoned h a) = Abandoned (stand_score h a).0 (stand_score h a).1

-- the scores with so many goals, by the home side's
abbrev pub scores_of_total : ℕ → List (ℕ × ℕ)
scores_of_total t = map (λ h. (h, t - h)) (range_with_len 0 (t + 1))

-- the 49 scores that stand for all: those up to seven goals by total, then the others by lead
unfoldable pub stand_scores : List (ℕ × ℕ)
stand_scores = flat_map scores_of_total (range_with_len 0 8) ++ high_scores

-- the 98 stand-ins: these scores as final ones, and then at abandonment
unfoldable pub stand_ins : List Outcome
stand_ins = map (λ s. Full s.0 s.1) stand_scores ++ map (λ s. Abandoned s.0 s.1) stand_scores
