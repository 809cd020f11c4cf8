-- The least ratio of the rows seen so far.
use Rattle.std.proofs.Common.{◌≡◌, ◌≢◌, ℕ, ◌+◌, ◌<◌, ◌⊎◌, inl, inr, Option, None, Some, IfSome, IfNone, MatchBool, IsTrue, Bool, true, false, sym, ap, ◌∙◌, subst, arith, lt_trans}
use lib.IntN.{ℤ, pos, ◌*ℤ◌}
use lib.Signed.{◌<ℤ◌, ◌≤ℤ◌}
use borrow.Author.Differences.{same_out}
use Rattle.pivot_definitions.proofs.Ring.{by_eq, dif_is, difs, dif_same, linear, mul_below, below_from_product, same_from_product}
use Rattle.pivot_definitions.specs.Tableaus.{SimplexTableau, entry_at, right_side, basic_column}
use Rattle.pivot_definitions.specs.Runs.{CanLeave, ComesBefore}

pub record IsLeastBelow (t : SimplexTableau) (q n row : ℕ) : Type 0 where
  pub within : row < n
  pub candidate : CanLeave t q row
  pub least : (other : ℕ) → other < n → CanLeave t q other → other ≢ row → ComesBefore t q row other

-- of the rows below a number this one comes first, or none can leave
abbrev pub LeastBelow : SimplexTableau → ℕ → ℕ → Option ℕ → Type 0
LeastBelow t q n None = (other : ℕ) → other < n → CanLeave t q other → ⊥
LeastBelow t q n (Some row) = IsLeastBelow t q n row

-- ---- the order of rows is transitive

middle_product : (ej rb ei : ℤ) → ej *ℤ (rb *ℤ ei) ≡ ei *ℤ (rb *ℤ ej)
middle_product ej rb ei = rw (dif_is ej, dif_is rb, dif_is ei) (simp difs (dif_same _ _ _ _ (omega arith)))

pub trans : (ri ei rb eb rj ej : ℤ) (ci cb cj : ℕ) → pos 0 <ℤ ei → pos 0 <ℤ eb → pos 0 <ℤ ej
    → (((ri *ℤ eb) <ℤ (rb *ℤ ei)) ⊎ (((ri *ℤ eb) ≡ (rb *ℤ ei)) × (ci < cb)))
    → (((rb *ℤ ej) <ℤ (rj *ℤ eb)) ⊎ (((rb *ℤ ej) ≡ (rj *ℤ eb)) × (cb < cj)))
    → ((ri *ℤ ej) <ℤ (rj *ℤ ei)) ⊎ (((ri *ℤ ej) ≡ (rj *ℤ ei)) × (ci < cj))
trans ri ei rb eb rj ej ci cb cj hi hb hj first second =
    let a : ej *ℤ (ri *ℤ eb) ≡ eb *ℤ (ri *ℤ ej) = middle_product ej ri eb in
    let b : ej *ℤ (rb *ℤ ei) ≡ ei *ℤ (rb *ℤ ej) = middle_product ej rb ei in
    let d : ei *ℤ (rj *ℤ eb) ≡ eb *ℤ (rj *ℤ ei) = middle_product ei rj eb in
    elim first [
      | inl less ↦
          (let x = mul_below ej (ri *ℤ eb) (rb *ℤ ei) hj less in
          elim second [
            | inl less' ↦ (let y = mul_below ei (rb *ℤ ej) (rj *ℤ eb) hi less' in inl (below_from_product eb (ri *ℤ ej) (rj *ℤ ei) hb (omega (arith, linear, x, y, same_out _ _ a, same_out _ _ b, same_out _ _ d))))
            | inr same' ↦ (let y = ap (λ z. ei *ℤ z) same'.0 in inl (below_from_product eb (ri *ℤ ej) (rj *ℤ ei) hb (omega (arith, linear, x, same_out _ _ y, same_out _ _ a, same_out _ _ b, same_out _ _ d))))
          ])
      | inr same ↦
          (let x = ap (λ z. ej *ℤ z) same.0 in
          elim second [
            | inl less' ↦ (let y = mul_below ei (rb *ℤ ej) (rj *ℤ eb) hi less' in inl (below_from_product eb (ri *ℤ ej) (rj *ℤ ei) hb (omega (arith, linear, same_out _ _ x, y, same_out _ _ a, same_out _ _ b, same_out _ _ d))))
            | inr same' ↦ (let y = ap (λ z. ei *ℤ z) same'.0 in inr (same_from_product eb (ri *ℤ ej) (rj *ℤ ei) hb (sym a ∙ x ∙ b ∙ y ∙ d), lt_trans same.1 same'.1))
          ])
    ]

-- ---- one more row

-- the row comes before the least so far
pub least_new : (t : SimplexTableau) (q n : ℕ) (least : Option ℕ) → LeastBelow t q n least → CanLeave t q n → IfSome least (λ row. ComesBefore t q n row) → LeastBelow t q (n + 1) (Some n)
least_new t q n None none here before = record { within = omega arith; candidate = here; least = λ other h can differ. absurd (none other (omega arith) can) }
least_new t q n (Some row) some here before = record {
  within = omega arith;
  candidate = here;
  least = λ other h can differ. by_eq other row
      (λ e. subst (λ k. ComesBefore t q n k) (sym e) before)
      (λ ne. trans (right_side t n) (entry_at t n q) (right_side t row) (entry_at t row q) (right_side t other) (entry_at t other q) (basic_column t n) (basic_column t row) (basic_column t other) here.positive some.candidate.positive can.positive before (some.least other (omega arith) can ne));
}

-- the least so far comes before the row
pub least_old : (t : SimplexTableau) (q n row : ℕ) → IsLeastBelow t q n row → ComesBefore t q row n → IsLeastBelow t q (n + 1) row
least_old t q n row some before = let inside = some.within in record {
  within = omega arith;
  candidate = some.candidate;
  least = λ other h can differ. by_eq other n (λ e. subst (λ k. ComesBefore t q row k) (sym e) before) (λ ne. some.least other (omega arith) can differ);
}

-- the row cannot leave
pub least_same : (t : SimplexTableau) (q n : ℕ) (least : Option ℕ) → LeastBelow t q n least → entry_at t n q ≤ℤ pos 0 → LeastBelow t q (n + 1) least
least_same t q n None none below = λ other h can. by_eq other n (λ e. let x = subst (λ k. pos 0 <ℤ entry_at t k q) e can.positive in omega (arith, linear, x, below)) (λ ne. none other (omega arith) can)
least_same t q n (Some row) some below = let inside = some.within in record {
  within = omega arith;
  candidate = some.candidate;
  least = λ other h can differ. by_eq other n (λ e. let x = subst (λ k. pos 0 <ℤ entry_at t k q) e can.positive in absurd (omega (arith, linear, x, below))) (λ ne. some.least other (omega arith) can differ);
}

-- what a test said of the least so far
pub before_of : (t : SimplexTableau) (q n : ℕ) (least : Option ℕ) (b : Bool) → b ≡ true → IfSome least (λ row. MatchBool b (ComesBefore t q n row) (ComesBefore t q row n)) → IfSome least (λ row. ComesBefore t q n row)
before_of t q n None b is h = tt
before_of t q n (Some row) b is h = subst (λ z. MatchBool z (ComesBefore t q n row) (ComesBefore t q row n)) is h

pub least_kept : (t : SimplexTableau) (q n : ℕ) (least : Option ℕ) (b : Bool) → b ≡ false → IfNone least (IsTrue b) → IfSome least (λ row. MatchBool b (ComesBefore t q n row) (ComesBefore t q row n)) → LeastBelow t q n least → LeastBelow t q (n + 1) least
least_kept t q n None b is none some least = absurd (let x : b ≡ true = none in cc)
least_kept t q n (Some row) b is none some least = least_old t q n row least (subst (λ z. MatchBool z (ComesBefore t q n row) (ComesBefore t q row n)) is some)
