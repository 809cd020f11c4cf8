-- The best end of a run: its multipliers and its basic solution, and that the multiplier of the cap is 0 below level 1.
use Rattle.std.proofs.Common.{◌≡◌, ◌≢◌, ℕ, zero, suc, ◌+◌, ◌<◌, ◌≤◌, List, [], ◌∷◌, ◌++◌, length, map, refl, sym, ap, ap₂, ◌∙◌, subst, arith, ◌==◌}
use Rattle.std.specs.Prelude.{Option, Some, None, unsigned_abs, MatchOption}
use Rattle.std.specs.List.{All, position}
use Rattle.std.proofs.lemmas.List.{length-append, length-map, get_or-map, get_or_append_left, get_or_at}
use Rattle.std.proofs.lemmas.List.Elements.{All-append, All-map, All-cons, All-nil}
use Rattle.std.proofs.lemmas.Int.{ints, by_lt_z}
use lib.IntN.{ℤ, pos, negsuc, ◌+ℤ◌, ◌-ℤ◌, ◌*ℤ◌}
use lib.Signed.{◌<ℤ◌, ◌≤ℤ◌}
use borrow.Author.Differences.{same_out, same_in, le_out}
use Rattle.judging_definitions.specs.Stakes.{Fraction, value_in_row, column_value}
use Rattle.judging_definitions.specs.Readings.{HasLevelOne}
use Rattle.pivot_definitions.proofs.KeptFeasible.{values_are_not_negative}
use Rattle.row_definitions.specs.Rows.{entry}
use Rattle.pivot_definitions.specs.Programs.{LinearProgram, IsProgram, coefficient}
use Rattle.pivot_definitions.specs.Tableaus.{SimplexTableau, multiplier_of, right_side, entry_at}
use Rattle.pivot_definitions.specs.Runs.{IsBest}
use Rattle.pivot_definitions.specs.Duality.{sum_below, row_sum, right_side_sum, CombinesToObjective, BoundsObjective, IsSolutionTimes, IsFeasibleTimes, IsReached}
use Rattle.pivot_definitions.proofs.Ring.{by_eq, dif_is, difs, dif_same, linear, mul_not_negative, mul_pos, zero_times, one_times, same_from_product}
use Rattle.pivot_definitions.proofs.Sums.{sum_same, sum_one, sum_scaled_right}
use Rattle.pivot_definitions.proofs.Optimum.{rows_combine, best_multipliers_bound}
use Rattle.pivot_definitions.proofs.Solutions.{basic_solution_satisfies, basic_solution_exists}
use Rattle.pivot_definitions.proofs.Bound.{level_is_bound}
use Rattle.pivot_definitions.proofs.Weak.{bound_holds}
use Rattle.judging_laws.proofs.ProgramRows.{HasCap}

-- what duality gives at the best end of a run
pub record BestFacts (program : LinearProgram) (tableau : SimplexTableau) : Type 0 where
  pub is : IsProgram program
  pub scale : ℤ
  pub combines : CombinesToObjective program tableau scale
  pub bounds : BoundsObjective program (multiplier_of tableau) scale
  pub times : ℤ
  pub point : ℕ → ℤ
  pub solution : IsSolutionTimes program tableau times point
  pub feasible : IsFeasibleTimes program times point
  pub level : scale *ℤ point 0 ≡ times *ℤ right_side_sum program (multiplier_of tableau)

pub best_facts : (program : LinearProgram) (tableau : SimplexTableau) → IsReached program tableau → IsBest tableau → BestFacts program tableau
best_facts program tableau reached best =
    let combination = rows_combine program tableau reached in
    let found = basic_solution_exists program tableau reached in
    record {
      is = reached.0;
      scale = combination.0;
      combines = combination.1;
      bounds = best_multipliers_bound program tableau combination.0 reached combination.1 best;
      times = found.0;
      point = found.1;
      solution = found.2;
      feasible = basic_solution_satisfies program tableau found.0 found.1 reached found.2;
      level = level_is_bound program tableau combination.0 found.0 found.1 reached combination.1 found.2;
    }

-- ---- the cap

one_of : (x : ℤ) → pos 1 *ℤ x ≡ x
one_of x = one_times x

none_there : (program : LinearProgram) (last : ℕ) (point : ℕ → ℤ) → HasCap program last → (c : ℕ) → c ≢ 0 → coefficient program last c *ℤ point c ≡ pos 0
none_there program last point cap zero differ = absurd (differ refl)
none_there program last point cap (suc c) differ = ap (λ x. x *ℤ point (suc c)) (cap.elsewhere c) ∙ zero_times (point (suc c))

-- the sum of the last row is the level
pub cap_row : (program : LinearProgram) (last : ℕ) (point : ℕ → ℤ) → IsProgram program → HasCap program last → row_sum program last point ≡ point 0
cap_row program last point is cap =
    sum_one program.columns 0 (λ c. coefficient program last c *ℤ point c) is.some_column (λ c h differ. none_there program last point cap c differ)
    ∙ ap (λ x. x *ℤ point 0) cap.here ∙ one_of (point 0)

-- the program whose right sides are so many times as large, and whose level is at most this one
abbrev stretched : LinearProgram → List ℤ → ℤ → ℤ → LinearProgram
stretched program rights times level = record program { right_sides = map (λ x. times *ℤ x) rights ++ level ∷ [] }

stretched_is : (program : LinearProgram) (last : ℕ) (times level : ℤ) → IsProgram program → (cap : HasCap program last) → pos 0 ≤ℤ times → pos 0 ≤ℤ level → IsProgram (stretched program cap.rights times level)
stretched_is program last times level is cap positive some =
    let f : ℤ → ℤ = λ x. times *ℤ x in
    let count : length (map f cap.rights ++ level ∷ []) ≡ program.rows = length-append (map f cap.rights) (level ∷ []) ∙ ap (λ n. n + 1) (length-map cap.rights f) ∙ (let a = cap.rows in let b = cap.count in let e : length cap.rights + 1 ≡ program.rows = omega arith in e) in
    let all : All (λ x. pos 0 ≤ℤ x) (cap.rights ++ pos 1 ∷ []) = subst (All (λ x. pos 0 ≤ℤ x)) cap.split is.not_negative in
    record {
      some_column = is.some_column;
      some_row = is.some_row;
      every_coefficient = is.every_coefficient;
      every_right_side = count;
      not_negative = All-append (λ x. pos 0 ≤ℤ x) (map f cap.rights) (level ∷ [])
          (All-map (λ x. pos 0 ≤ℤ x) f cap.rights (λ k d h. mul_not_negative times _ positive (subst (λ x. pos 0 ≤ℤ x) (get_or_append_left cap.rights (pos 1 ∷ []) d k h) (all k d (omega (arith, length-append cap.rights (pos 1 ∷ []), h))))))
          (All-cons (λ x. pos 0 ≤ℤ x) level [] some (All-nil (λ x. pos 0 ≤ℤ x)));
    }

stretched_right : (program : LinearProgram) (last : ℕ) (times level : ℤ) → (cap : HasCap program last) → (r : ℕ) → r < last → entry (stretched program cap.rights times level).right_sides r ≡ times *ℤ entry program.right_sides r
stretched_right program last times level cap r h =
    let f : ℤ → ℤ = λ x. times *ℤ x in
    get_or_append_left (map f cap.rights) (level ∷ []) (pos 0) r (omega (arith, length-map cap.rights f, cap.count, h))
    ∙ get_or-map f cap.rights r (pos 0) (pos 0) (omega (arith, cap.count, h))
    ∙ ap f (sym (ap (λ xs. entry xs r) cap.split ∙ get_or_append_left cap.rights (pos 1 ∷ []) (pos 0) r (omega (arith, cap.count, h))))

stretched_last : (program : LinearProgram) (last : ℕ) (times level : ℤ) → (cap : HasCap program last) → entry (stretched program cap.rights times level).right_sides last ≡ level
stretched_last program last times level cap =
    let f : ℤ → ℤ = λ x. times *ℤ x in
    get_or_at (map f cap.rights) level [] (pos 0) last (length-map cap.rights f ∙ cap.count)

split_times : (t a x : ℤ) → t *ℤ (a +ℤ x *ℤ pos 1) ≡ t *ℤ a +ℤ t *ℤ x
split_times t a x = rw (dif_is t, dif_is a, dif_is x) (simp difs (dif_same _ _ _ _ (omega arith)))

less_times : (x l t : ℤ) → t *ℤ x -ℤ x *ℤ l ≡ x *ℤ (t -ℤ l)
less_times x l t = rw (dif_is x, dif_is l, dif_is t) (simp difs (dif_same _ _ _ _ (omega arith)))

-- a number that is not negative is 0 where its product with a positive one is not positive
only_zero : (x y : ℤ) → pos 0 ≤ℤ x → pos 0 <ℤ y → (x *ℤ y) ≤ℤ pos 0 → x ≡ pos 0
only_zero (pos zero) y h k le = refl
only_zero (pos (suc n)) y h k le = absurd (let p = mul_pos (pos (suc n)) y (omega (arith, ints)) k in omega (arith, linear, p, le))
only_zero (negsuc n) y h k le = absurd (omega (arith, ints))

-- below level 1 the multiplier of the cap is 0
pub no_cap : (program : LinearProgram) (tableau : SimplexTableau) (last : ℕ) → (facts : BestFacts program tableau) → HasCap program last → facts.point 0 <ℤ facts.times → multiplier_of tableau last ≡ pos 0
no_cap program tableau last facts cap below =
    let m = multiplier_of tableau in
    let t = facts.times in
    let level = facts.point 0 in
    let tp : pos 0 <ℤ t = facts.solution.positive in
    let some : pos 0 ≤ℤ level = facts.feasible.not_negative 0 facts.is.some_column in
    let wider = stretched program cap.rights t level in
    let is = stretched_is program last t level facts.is cap (omega (arith, linear, tp)) some in
    let solves : IsFeasibleTimes wider (pos 1) facts.point = record {
      not_negative = facts.feasible.not_negative;
      satisfies = λ r h. by_eq r last
          (λ e. subst (λ k. row_sum program k facts.point ≤ℤ (pos 1 *ℤ entry wider.right_sides k)) (sym e)
          (let a = cap_row program last facts.point facts.is cap in let b = stretched_last program last t level cap in let c = one_of (entry wider.right_sides last) in omega (arith, linear, same_out _ _ a, same_out _ _ b, same_out _ _ c)))
          (λ ne. let a = facts.feasible.satisfies r h in let b = stretched_right program last t level cap r (omega (arith, h, cap.rows)) in let c = one_of (entry wider.right_sides r) in omega (arith, linear, a, same_out _ _ b, same_out _ _ c));
    } in
    let same : BoundsObjective wider m facts.scale = record { positive = facts.bounds.positive; not_negative = facts.bounds.not_negative; covers = facts.bounds.covers } in
    let bound = bound_holds wider m facts.scale (pos 1) facts.point is same solves in
    let A = sum_below last (λ r. m r *ℤ entry program.right_sides r) in
    let all : right_side_sum program m ≡ A +ℤ m last *ℤ pos 1 = ap (λ n. sum_below n (λ r. m r *ℤ entry program.right_sides r)) cap.rows ∙ ap (λ x. A +ℤ m last *ℤ x) cap.right in
    let wide : right_side_sum wider m ≡ t *ℤ A +ℤ m last *ℤ level =
    ap (λ n. sum_below n (λ r. m r *ℤ entry wider.right_sides r)) cap.rows
    ∙ ap₂ (λ x y. x +ℤ m last *ℤ y)
    (sum_same last (λ r. m r *ℤ entry wider.right_sides r) (λ r. m r *ℤ (t *ℤ entry program.right_sides r)) (λ r h. ap (λ x. m r *ℤ x) (stretched_right program last t level cap r h)) ∙ sum_scaled_right last t m (entry program.right_sides))
    (stretched_last program last t level cap) in
    let lhs = facts.level ∙ ap (λ x. t *ℤ x) all ∙ split_times t A (m last) in
    let rhs = one_of (right_side_sum wider m) ∙ wide in
    let product = less_times (m last) level t in
    only_zero (m last) (t -ℤ level) (facts.bounds.not_negative last (omega (arith, cap.rows))) (omega (arith, linear, below)) (omega (arith, linear, bound, same_out _ _ lhs, same_out _ _ rhs, same_out _ _ product))

-- ---- values and the level

-- what the basic solution says of a column
pub record ValueFacts (value : Fraction) (times point : ℤ) : Type 0 where
  pub denominator : 1 ≤ value.denominator
  pub is : pos value.denominator *ℤ point ≡ times *ℤ pos value.numerator

whole_size : (x : ℤ) → pos 0 ≤ℤ x → pos (unsigned_abs x) ≡ x
whole_size (pos n) h = refl
whole_size (negsuc n) h = absurd (omega (arith, ints))

size_positive : (x : ℤ) → pos 0 <ℤ x → 1 ≤ unsigned_abs x
size_positive (pos n) h = omega (arith, ints)
size_positive (negsuc n) h = absurd (omega (arith, ints))

less_or : {x : ℤ} → pos 0 <ℤ x → pos 0 ≤ℤ x
less_or h = omega (arith, ints)

value_facts_at : (tableau : SimplexTableau) (column : ℕ) (times point : ℤ) (o : Option ℕ) → ((value : ℤ × ℤ) → MatchOption o (value ≡ (pos 0, pos 1)) (λ row. value ≡ (right_side tableau row, entry_at tableau row column)) → (value.1 *ℤ point ≡ times *ℤ value.0) × (pos 0 ≤ℤ value.0) × (pos 0 <ℤ value.1)) → ValueFacts (value_in_row tableau column o) times point
value_facts_at tableau column times point None says = let facts = says (pos 0, pos 1) refl in record { denominator = omega arith; is = facts.0 }
value_facts_at tableau column times point (Some row) says =
    let facts = says (right_side tableau row, entry_at tableau row column) refl in
    record {
      denominator = size_positive (entry_at tableau row column) facts.2;
      is = ap (λ x. x *ℤ point) (whole_size (entry_at tableau row column) (less_or facts.2)) ∙ facts.0 ∙ ap (λ x. times *ℤ x) (sym (whole_size (right_side tableau row) facts.1));
    }

pub value_facts : (program : LinearProgram) (tableau : SimplexTableau) → IsReached program tableau → (times : ℤ) (point : ℕ → ℤ) → IsSolutionTimes program tableau times point → (column : ℕ) → column < program.columns → ValueFacts (column_value tableau column) times (point column)
value_facts program tableau reached times point solution column within =
    value_facts_at tableau column times (point column) (position (λ basic. basic == column) tableau.basis) (λ value is. let positive = values_are_not_negative program tableau reached column value is in (solution.values column within value is, positive.0, positive.1))

turned : (a b : ℤ) → a *ℤ b ≡ b *ℤ a
turned a b = rw (dif_is a, dif_is b) (simp difs (dif_same _ _ _ _ (omega arith)))

-- at level 1 column 0 is as large as the number of times
pub level_is_one : (tableau : SimplexTableau) (times point : ℤ) → ValueFacts (column_value tableau 0) times point → HasLevelOne tableau → point ≡ times
level_is_one tableau times point facts one =
    let d = (column_value tableau 0).denominator in
    same_from_product (pos d) point times (let h = facts.denominator in omega (arith, ints)) (facts.is ∙ ap (λ n. times *ℤ pos n) one ∙ turned times (pos d))

numbers_same : (m n : ℕ) → pos m ≡ pos n → m ≡ n
numbers_same m n e = cc

-- else it is below that
pub level_below_one : (tableau : SimplexTableau) (times point : ℤ) → ValueFacts (column_value tableau 0) times point → pos 0 <ℤ times → point ≤ℤ times → (HasLevelOne tableau → ⊥) → point <ℤ times
level_below_one tableau times point facts positive small below =
    by_lt_z point times (λ h. h) (λ h.
    let same : point ≡ times = same_in _ _ (omega (arith, linear, le_out _ _ h, le_out _ _ small)) in
    let v = column_value tableau 0 in
    absurd (below (numbers_same v.numerator v.denominator (same_from_product times (pos v.numerator) (pos v.denominator) positive (sym facts.is ∙ ap (λ x. pos v.denominator *ℤ x) same ∙ turned (pos v.denominator) times)))))
