-- Why a run never is unbounded: from the first pivot on column 0 stays basic in one row, the cap is a combination of that
-- row and at most one other with factors that are not negative, and the objective row is column 0 less a positive multiple
-- of that row. So where an entry of the objective row is positive, the one row's entry is negative, and the other's positive.
use Rattle.std.proofs.Common.{◌≡◌, ◌≢◌, ℕ, ◌+◌, ◌<◌, ◌⊎◌, inl, inr, length, refl, sym, ap, ap₂, ◌∙◌, subst, arith}
use Rattle.std.proofs.lemmas.Int.{by_lt_z}
use lib.IntN.{ℤ, pos, ◌+ℤ◌, ◌-ℤ◌, ◌*ℤ◌}
use lib.Signed.{◌<ℤ◌, ◌≤ℤ◌}
use borrow.Author.Differences.{same_out}
use Rattle.pivot_definitions.specs.Tableaus.{SimplexTableau, IsTableau, IsCanonical, entry_at, basic_column, column_count, objective}
use Rattle.pivot_definitions.specs.Runs.{CanLeave}
use Rattle.pivot_definitions.proofs.Ring.{by_eq, dif_is, difs, dif_same, linear, mul_pos, mul_negative, mul_not_negative, mul_not_positive}
use Rattle.pivot_definitions.proofs.Pivots.{PivotFacts}

-- the cap: 1 in column 0 and in its slack column, and 0 in every other before the right side
pub record CapFacts (cap : ℕ → ℤ) (slack columns : ℕ) : Type 0 where
  pub at_level : cap 0 ≡ pos 1
  pub at_slack : cap slack ≡ pos 1
  pub elsewhere : (k : ℕ) → k < columns → k ≢ 0 → k ≢ slack → cap k ≡ pos 0

-- column 0 alone
pub record UnitFacts (unit : ℕ → ℤ) : Type 0 where
  pub at_level : unit 0 ≡ pos 1
  pub elsewhere : (k : ℕ) → k ≢ 0 → unit k ≡ pos 0

pub record Level (t : SimplexTableau) (cap unit : ℕ → ℤ) (slack : ℕ) : Type 0 where
  pub level_row : ℕ
  pub other_row : ℕ
  pub within : level_row < length t.basis
  pub basic : basic_column t level_row ≡ 0
  pub a : ℤ
  pub b : ℤ
  pub d : ℤ
  pub positive_a : pos 0 <ℤ a
  pub not_negative_b : pos 0 ≤ℤ b
  pub positive_d : pos 0 <ℤ d
  pub cap_is : (k : ℕ) → d *ℤ cap k ≡ a *ℤ entry_at t level_row k +ℤ b *ℤ entry_at t other_row k
  pub other : (b ≡ pos 0) ⊎ ((other_row < length t.basis) × (basic_column t other_row ≡ slack))
  pub c : ℤ
  pub e : ℤ
  pub f : ℤ
  pub positive_c : pos 0 <ℤ c
  pub positive_e : pos 0 <ℤ e
  pub objective_is : (k : ℕ) → c *ℤ objective t k ≡ f *ℤ unit k -ℤ e *ℤ entry_at t level_row k

-- the entry of a basic column in the objective row
pub objective_of_basic : (t : SimplexTableau) → IsTableau t → IsCanonical t → (i : ℕ) → i < length t.basis → objective t (basic_column t i) ≡ pos 0
objective_of_basic t is canonical i h = canonical.zero_elsewhere i (length t.basis) h (omega (arith, is.row_count)) (omega arith)

-- so a column that can enter is not basic
pub enters_not_basic : (t : SimplexTableau) (q i : ℕ) → IsTableau t → IsCanonical t → i < length t.basis → pos 0 <ℤ objective t q → q ≢ basic_column t i
enters_not_basic t q i is canonical h positive e =
    let z : objective t q ≡ pos 0 = subst (λ k. objective t k ≡ pos 0) (sym e) (objective_of_basic t is canonical i h) in
    omega (arith, linear, same_out _ _ z)

zero_less : (f x : ℤ) → f *ℤ pos 0 -ℤ x ≡ pos 0 -ℤ x
zero_less f x = rw (dif_is f, dif_is x) (simp difs (dif_same _ _ _ _ (omega arith)))

-- where an entry of the objective row is positive, the level's row is negative
level_negative : (c e f o u r : ℤ) → pos 0 <ℤ c → pos 0 <ℤ e → c *ℤ o ≡ f *ℤ u -ℤ e *ℤ r → u ≡ pos 0 → pos 0 <ℤ o → r <ℤ pos 0
level_negative c e f o u r hc he same zero_u ho =
    by_lt_z r (pos 0) (λ x. x) (λ x.
    let y = mul_pos c o hc ho in
    let z = mul_not_negative e r (omega (arith, linear)) x in
    let w : c *ℤ o ≡ pos 0 -ℤ e *ℤ r = same ∙ ap (λ v. f *ℤ v -ℤ e *ℤ r) zero_u ∙ zero_less f (e *ℤ r) in
    absurd (omega (arith, linear, same_out _ _ w, y, z)))

split_one : (a P r0k r0q pk x : ℤ) → a *ℤ (P *ℤ r0k -ℤ r0q *ℤ pk) +ℤ pos 0 *ℤ x ≡ P *ℤ (a *ℤ r0k) -ℤ (a *ℤ r0q) *ℤ pk
split_one a P r0k r0q pk x = rw (dif_is a, dif_is P, dif_is r0k, dif_is r0q, dif_is pk, dif_is x) (simp difs (dif_same _ _ _ _ (omega arith)))

split_two : (a b P r0k r0q r1k r1q pk : ℤ) → a *ℤ (P *ℤ r0k -ℤ r0q *ℤ pk) +ℤ b *ℤ (P *ℤ r1k -ℤ r1q *ℤ pk) ≡ P *ℤ (a *ℤ r0k +ℤ b *ℤ r1k) -ℤ (a *ℤ r0q +ℤ b *ℤ r1q) *ℤ pk
split_two a b P r0k r0q r1k r1q pk = rw (dif_is a, dif_is b, dif_is P, dif_is r0k, dif_is r0q, dif_is r1k, dif_is r1q, dif_is pk) (simp difs (dif_same _ _ _ _ (omega arith)))

whole : (P d ck pk : ℤ) → P *ℤ (d *ℤ ck) -ℤ (d *ℤ pos 0) *ℤ pk ≡ (P *ℤ d) *ℤ ck
whole P d ck pk = rw (dif_is P, dif_is d, dif_is ck, dif_is pk) (simp difs (dif_same _ _ _ _ (omega arith)))

add_zero_times : (x y : ℤ) → x +ℤ pos 0 *ℤ y ≡ x
add_zero_times x y = rw (dif_is x, dif_is y) (simp difs (dif_same _ _ _ _ (omega arith)))

-- the cap after a pivot, where it is a multiple of the level's row
cap_one : (a b d P r0k r0q r1k r1q pk ck x : ℤ) → b ≡ pos 0 → d *ℤ ck ≡ a *ℤ r0k +ℤ b *ℤ r1k → d *ℤ pos 0 ≡ a *ℤ r0q +ℤ b *ℤ r1q → (P *ℤ d) *ℤ ck ≡ a *ℤ (P *ℤ r0k -ℤ r0q *ℤ pk) +ℤ pos 0 *ℤ x
cap_one a b d P r0k r0q r1k r1q pk ck x none at_k at_q =
    let k_is : d *ℤ ck ≡ a *ℤ r0k = at_k ∙ ap (λ z. a *ℤ r0k +ℤ z *ℤ r1k) none ∙ add_zero_times (a *ℤ r0k) r1k in
    let q_is : d *ℤ pos 0 ≡ a *ℤ r0q = at_q ∙ ap (λ z. a *ℤ r0q +ℤ z *ℤ r1q) none ∙ add_zero_times (a *ℤ r0q) r1q in
    sym (split_one a P r0k r0q pk x ∙ ap₂ (λ y z. P *ℤ y -ℤ z *ℤ pk) (sym k_is) (sym q_is) ∙ whole P d ck pk)

-- .. where the other row has part in it and stays
cap_two : (a b d P r0k r0q r1k r1q pk ck : ℤ) → d *ℤ ck ≡ a *ℤ r0k +ℤ b *ℤ r1k → d *ℤ pos 0 ≡ a *ℤ r0q +ℤ b *ℤ r1q → (P *ℤ d) *ℤ ck ≡ a *ℤ (P *ℤ r0k -ℤ r0q *ℤ pk) +ℤ b *ℤ (P *ℤ r1k -ℤ r1q *ℤ pk)
cap_two a b d P r0k r0q r1k r1q pk ck at_k at_q =
    sym (split_two a b P r0k r0q r1k r1q pk ∙ ap₂ (λ y z. P *ℤ y -ℤ z *ℤ pk) (sym at_k) (sym at_q) ∙ whole P d ck pk)

three : (a b P r0k r0q pk x : ℤ) → a *ℤ (P *ℤ r0k -ℤ r0q *ℤ pk) +ℤ pos 0 *ℤ x ≡ P *ℤ (a *ℤ r0k +ℤ b *ℤ pk) -ℤ (a *ℤ r0q +ℤ b *ℤ P) *ℤ pk
three a b P r0k r0q pk x = rw (dif_is a, dif_is b, dif_is P, dif_is r0k, dif_is r0q, dif_is pk, dif_is x) (simp difs (dif_same _ _ _ _ (omega arith)))

-- .. and where the other row is the pivot row
cap_three : (a b d P r0k r0q pk ck x : ℤ) → d *ℤ ck ≡ a *ℤ r0k +ℤ b *ℤ pk → d *ℤ pos 0 ≡ a *ℤ r0q +ℤ b *ℤ P → (P *ℤ d) *ℤ ck ≡ a *ℤ (P *ℤ r0k -ℤ r0q *ℤ pk) +ℤ pos 0 *ℤ x
cap_three a b d P r0k r0q pk ck x at_k at_q =
    sym (three a b P r0k r0q pk x ∙ ap₂ (λ y z. P *ℤ y -ℤ z *ℤ pk) (sym at_k) (sym at_q) ∙ whole P d ck pk)

pub apart : (c P o oq pk : ℤ) → c *ℤ (P *ℤ o -ℤ oq *ℤ pk) ≡ P *ℤ (c *ℤ o) -ℤ (c *ℤ oq) *ℤ pk
apart c P o oq pk = rw (dif_is c, dif_is P, dif_is o, dif_is oq, dif_is pk) (simp difs (dif_same _ _ _ _ (omega arith)))

together : (P f e uk r0k r0q pk : ℤ) → P *ℤ (f *ℤ uk -ℤ e *ℤ r0k) -ℤ (f *ℤ pos 0 -ℤ e *ℤ r0q) *ℤ pk ≡ (P *ℤ f) *ℤ uk -ℤ e *ℤ (P *ℤ r0k -ℤ r0q *ℤ pk)
together P f e uk r0k r0q pk = rw (dif_is P, dif_is f, dif_is e, dif_is uk, dif_is r0k, dif_is r0q, dif_is pk) (simp difs (dif_same _ _ _ _ (omega arith)))

-- the objective row after a pivot
pub objective_after : (c e f P o oq r0k r0q pk uk uq : ℤ) → c *ℤ o ≡ f *ℤ uk -ℤ e *ℤ r0k → c *ℤ oq ≡ f *ℤ uq -ℤ e *ℤ r0q → uq ≡ pos 0 → c *ℤ (P *ℤ o -ℤ oq *ℤ pk) ≡ (P *ℤ f) *ℤ uk -ℤ e *ℤ (P *ℤ r0k -ℤ r0q *ℤ pk)
objective_after c e f P o oq r0k r0q pk uk uq at_k at_q none =
    apart c P o oq pk ∙ ap₂ (λ y z. P *ℤ y -ℤ z *ℤ pk) at_k (at_q ∙ ap (λ z. f *ℤ z -ℤ e *ℤ r0q) none) ∙ together P f e uk r0k r0q pk

-- what a column with a positive entry in the objective row is not, and is
record EnteringFacts (t : SimplexTableau) (cap unit : ℕ → ℤ) (slack q i0 : ℕ) : Type 0 where
  not_level : q ≢ 0
  not_slack : q ≢ slack
  cap_zero : cap q ≡ pos 0
  unit_zero : unit q ≡ pos 0
  negative : entry_at t i0 q <ℤ pos 0

entering_facts : (t : SimplexTableau) (cap unit : ℕ → ℤ) (slack q : ℕ) → IsTableau t → IsCanonical t → CapFacts cap slack (column_count t) → UnitFacts unit → (level : Level t cap unit slack) → q < column_count t → pos 0 <ℤ objective t q → EnteringFacts t cap unit slack q level.level_row
entering_facts t cap unit slack q is canonical capped unit_facts level within positive =
    let not_level : q ≢ 0 = λ e. enters_not_basic t q level.level_row is canonical level.within positive (e ∙ sym level.basic) in
    let unit_zero = unit_facts.elsewhere q not_level in
    let negative = level_negative level.c level.e level.f (objective t q) (unit q) (entry_at t level.level_row q) level.positive_c level.positive_e (level.objective_is q) unit_zero positive in
    let not_slack : q ≢ slack = λ e. elim level.other [
      | inl none ↦
          (let d_is : level.d *ℤ pos 1 ≡ level.a *ℤ entry_at t level.level_row q = ap (λ z. level.d *ℤ z) (sym (ap cap e ∙ capped.at_slack)) ∙ level.cap_is q ∙ ap (λ z. level.a *ℤ entry_at t level.level_row q +ℤ z *ℤ entry_at t level.other_row q) none ∙ add_zero_times (level.a *ℤ entry_at t level.level_row q) (entry_at t level.other_row q) in
          let below = mul_negative level.a (entry_at t level.level_row q) level.positive_a negative in
          let above = mul_pos level.d (pos 1) level.positive_d (omega (arith, linear)) in
          omega (arith, linear, same_out _ _ d_is, below, above))
      | inr there ↦ enters_not_basic t q level.other_row is canonical there.0 positive (e ∙ sym there.1)
    ] in
    record { not_level = not_level; not_slack = not_slack; cap_zero = capped.elsewhere q within not_level not_slack; unit_zero = unit_zero; negative = negative }

pub level_step : (t u : SimplexTableau) (cap unit : ℕ → ℤ) (slack p q : ℕ) → IsTableau t → IsCanonical t → PivotFacts t u p q → CapFacts cap slack (column_count t) → UnitFacts unit → q < column_count t → pos 0 <ℤ objective t q → CanLeave t q p → Level t cap unit slack → Level u cap unit slack
level_step t u cap unit slack p q is canonical facts capped unit_facts within positive leaves level =
    let found = entering_facts t cap unit slack q is canonical capped unit_facts level within positive in
    let i0 = level.level_row in
    let i1 = level.other_row in
    let P = entry_at t p q in
    let not_p : i0 ≢ p = λ e. let x : entry_at t p q <ℤ pos 0 = subst (λ i. entry_at t i q <ℤ pos 0) e found.negative in let y = leaves.positive in omega (arith, linear, x, y) in
    let rows : length t.rows ≡ length t.basis + 1 = is.row_count in
    let level_in : i0 < length t.rows = omega (arith, rows, level.within) in
    let r0 : (k : ℕ) → entry_at u i0 k ≡ P *ℤ entry_at t i0 k -ℤ entry_at t i0 q *ℤ entry_at t p k = λ k. facts.other i0 k level_in not_p in
    let at_q : level.d *ℤ pos 0 ≡ level.a *ℤ entry_at t i0 q +ℤ level.b *ℤ entry_at t i1 q = ap (λ z. level.d *ℤ z) (sym found.cap_zero) ∙ level.cap_is q in
    let o : (k : ℕ) → objective u k ≡ P *ℤ objective t k -ℤ objective t q *ℤ entry_at t p k = λ k. ap (λ n. entry_at u n k) facts.count ∙ facts.other (length t.basis) k (omega (arith, rows)) (omega (arith, leaves.within)) in
    let objective_is : (k : ℕ) → level.c *ℤ objective u k ≡ (P *ℤ level.f) *ℤ unit k -ℤ level.e *ℤ entry_at u i0 k = λ k. ap (λ z. level.c *ℤ z) (o k) ∙ objective_after level.c level.e level.f P (objective t k) (objective t q) (entry_at t i0 k) (entry_at t i0 q) (entry_at t p k) (unit k) (unit q) (level.objective_is k) (level.objective_is q) found.unit_zero ∙ ap (λ z. (P *ℤ level.f) *ℤ unit k -ℤ level.e *ℤ z) (sym (r0 k)) in
    let basic : basic_column u i0 ≡ 0 = facts.stays i0 not_p ∙ level.basic in
    let d_positive = mul_pos P level.d leaves.positive level.positive_d in
    let alone : ((k : ℕ) → (P *ℤ level.d) *ℤ cap k ≡ level.a *ℤ (P *ℤ entry_at t i0 k -ℤ entry_at t i0 q *ℤ entry_at t p k) +ℤ pos 0 *ℤ entry_at u i0 k) → Level u cap unit slack = λ cap_is. record {
      level_row = i0;
      other_row = i0;
      within = omega (arith, level.within, facts.count);
      basic = basic;
      a = level.a;
      b = pos 0;
      d = P *ℤ level.d;
      positive_a = level.positive_a;
      not_negative_b = omega (arith, linear);
      positive_d = d_positive;
      cap_is = λ k. cap_is k ∙ ap (λ z. level.a *ℤ z +ℤ pos 0 *ℤ entry_at u i0 k) (sym (r0 k));
      other = inl refl;
      c = level.c;
      e = level.e;
      f = P *ℤ level.f;
      positive_c = level.positive_c;
      positive_e = level.positive_e;
      objective_is = objective_is;
    } in
    elim level.other [
      | inl none ↦ alone (λ k. cap_one level.a level.b level.d P (entry_at t i0 k) (entry_at t i0 q) (entry_at t i1 k) (entry_at t i1 q) (entry_at t p k) (cap k) (entry_at u i0 k) none (level.cap_is k) at_q)
      | inr there ↦ by_eq i1 p
          (λ same. alone (λ k. cap_three level.a level.b level.d P (entry_at t i0 k) (entry_at t i0 q) (entry_at t p k) (cap k) (entry_at u i0 k) (level.cap_is k ∙ ap (λ n. level.a *ℤ entry_at t i0 k +ℤ level.b *ℤ entry_at t n k) same) (at_q ∙ ap (λ n. level.a *ℤ entry_at t i0 q +ℤ level.b *ℤ entry_at t n q) same)))
          (λ differ.
          let other_in : i1 < length t.rows = omega (arith, rows, there.0) in
          let r1 : (k : ℕ) → entry_at u i1 k ≡ P *ℤ entry_at t i1 k -ℤ entry_at t i1 q *ℤ entry_at t p k = λ k. facts.other i1 k other_in differ in
          record {
            level_row = i0;
            other_row = i1;
            within = omega (arith, level.within, facts.count);
            basic = basic;
            a = level.a;
            b = level.b;
            d = P *ℤ level.d;
            positive_a = level.positive_a;
            not_negative_b = level.not_negative_b;
            positive_d = d_positive;
            cap_is = λ k. cap_two level.a level.b level.d P (entry_at t i0 k) (entry_at t i0 q) (entry_at t i1 k) (entry_at t i1 q) (entry_at t p k) (cap k) (level.cap_is k) at_q ∙ ap₂ (λ y z. level.a *ℤ y +ℤ level.b *ℤ z) (sym (r0 k)) (sym (r1 k));
            other = inr (omega (arith, there.0, facts.count), facts.stays i1 differ ∙ there.1);
            c = level.c;
            e = level.e;
            f = P *ℤ level.f;
            positive_c = level.positive_c;
            positive_e = level.positive_e;
            objective_is = objective_is;
          })
    ]

-- a column with a positive entry in the objective row has a positive entry in a constraint row
pub level_bounded : (t : SimplexTableau) (cap unit : ℕ → ℤ) (slack q : ℕ) → IsTableau t → IsCanonical t → CapFacts cap slack (column_count t) → UnitFacts unit → q < column_count t → pos 0 <ℤ objective t q → Level t cap unit slack → (row : ℕ) × CanLeave t q row
level_bounded t cap unit slack q is canonical capped unit_facts within positive level =
    let found = entering_facts t cap unit slack q is canonical capped unit_facts level within positive in
    let at_q : level.d *ℤ pos 0 ≡ level.a *ℤ entry_at t level.level_row q +ℤ level.b *ℤ entry_at t level.other_row q = ap (λ z. level.d *ℤ z) (sym found.cap_zero) ∙ level.cap_is q in
    let below = mul_negative level.a (entry_at t level.level_row q) level.positive_a found.negative in
    let none : level.d *ℤ pos 0 ≡ pos 0 = rw (dif_is level.d) (simp difs (dif_same _ _ _ _ (omega arith))) in
    elim level.other [
      | inl zero_b ↦
          (let x : level.d *ℤ pos 0 ≡ level.a *ℤ entry_at t level.level_row q = at_q ∙ ap (λ z. level.a *ℤ entry_at t level.level_row q +ℤ z *ℤ entry_at t level.other_row q) zero_b ∙ add_zero_times (level.a *ℤ entry_at t level.level_row q) (entry_at t level.other_row q) in
          absurd (omega (arith, linear, same_out _ _ x, same_out _ _ none, below)))
      | inr there ↦ (
        level.other_row,
        record {
          within = there.0;
          positive = by_lt_z (pos 0) (entry_at t level.other_row q) (λ x. x) (λ x. let y = mul_not_positive level.b (entry_at t level.other_row q) level.not_negative_b x in absurd (omega (arith, linear, same_out _ _ at_q, same_out _ _ none, below, y)));
        },
      )
    ]
