use Rattle.std.proofs.Common.{◌≡◌, ◌≢◌, ◌<◌, ◌+◌, zero, suc, ◌∷◌, [], ◌++◌, arith, rules, ◌<ℤ◌, refl, sym, ◌∙◌, subst, ap, ap₂, List, ℤ, ℕ, pos, length, get_or, set}
use Rattle.std.specs.List.{All}
use Rattle.std.proofs.lemmas.List.Elements.{All-cons, All-nil}
use Rattle.row_definitions.specs.Rows.{primitive_row}
use Rattle.row_definitions.specs.Combination.{FitsEntry}
use Rattle.row_definitions.proofs.Primitives.{primitive_row-unit}
use Rattle.pivot_definitions.specs.Tableaus.{SimplexTableau, IsKeptTableau, entry_at, basic_column}
use Rattle.condensed_laws.specs.Wholes.{IsShown}
use Rattle.condensed_laws.specs.Heads.{IsCondensed}
use Rattle.condensed_laws.specs.Tableaus.{CondensedTableau, IsSound, expanded, condensed_row}
use Rattle.fraction_tableau.specs.Condensed.{IsSoundOrEmpty}
use Rattle.fraction_tableau.specs.Kept.{StandsForKept}
use Rattle.fraction_tableau.proofs.Lifted.{kept_or_empty}
use Rattle.fraction_tableau.proofs.tests.large_objective.Goals as goal

abbrev constraint : List ℤ
constraint = pos 3 ∷ pos 1 ∷ pos 0 ∷ []

abbrev objective : List ℤ
objective = pos 1 ∷ pos 0 ∷ pos 0x40000000000000000000000000000000 ∷ []

both : (P : List ℤ → Type 0) → P constraint → P objective → All P (constraint ∷ objective ∷ [])
both P one other = All-cons P constraint (objective ∷ []) one (All-cons P objective [] other (All-nil P))

three_fit : (a b c : ℤ) → FitsEntry a → FitsEntry b → FitsEntry c → All FitsEntry (a ∷ b ∷ c ∷ [])
three_fit a b c a_fits b_fits c_fits = All-cons FitsEntry a (b ∷ c ∷ []) a_fits (All-cons FitsEntry b (c ∷ []) b_fits (All-cons FitsEntry c [] c_fits (All-nil FitsEntry)))

abbrev tableau : SimplexTableau
tableau = record { columns = 1; rows = constraint ∷ objective ∷ []; basis = 1 ∷ [] }

positive : (row : ℕ) → row < 1 → pos 0 <ℤ entry_at tableau row (basic_column tableau row)
positive zero within = search rules
positive (suc row) within = absurd (omega arith)

zero_elsewhere : (row other : ℕ) → row < 1 → other < 2 → other ≢ row → entry_at tableau other (basic_column tableau row) ≡ pos 0
zero_elsewhere zero zero within below differ = absurd (differ refl)
zero_elsewhere zero (suc zero) within below differ = refl
zero_elsewhere zero (suc (suc other)) within below differ = absurd (omega arith)
zero_elsewhere (suc row) other within below differ = absurd (omega arith)

facts : IsKeptTableau tableau
facts = record {
  some_column = omega arith;
  some_row = omega arith;
  few_columns = omega arith;
  few_rows = omega arith;
  shape = record {
    row_count = refl;
    widths = both (λ row. length row ≡ 3) refl refl;
    basic_columns = All-cons (λ column. column < 2) 1 [] (omega arith) (All-nil (λ column. column < 2));
  };
  fits = both (λ row. All FitsEntry row) (three_fit (pos 3) (pos 1) (pos 0) (omega arith) (omega arith) (omega arith)) (three_fit (pos 1) (pos 0) (pos 0x40000000000000000000000000000000) (omega arith) (omega arith) (omega arith));
  primitive = both (λ row. primitive_row row ≡ row) (primitive_row-unit constraint 1 refl) (primitive_row-unit objective 0 refl);
  canonical = record { positive = positive; zero_elsewhere = zero_elsewhere };
}

-- the same without the columns of the basis
abbrev condensed : CondensedTableau
condensed = record {
  columns = 1;
  rows = (pos 3 ∷ pos 0 ∷ pos 1 ∷ pos 0 ∷ []) ∷ (pos 1 ∷ pos 0x40000000000000000000000000000000 ∷ pos 0 ∷ pos 0 ∷ []) ∷ [];
  basis = 1 ∷ [];
  heads = 0 ∷ 1 ∷ [];
}

each_condensed : (row : ℕ) → row < 2 → IsCondensed 1 (condensed_row condensed row)
each_condensed zero within = record { count = refl; spare = refl }
each_condensed (suc zero) within = record { count = refl; spare = refl }
each_condensed (suc (suc row)) within = absurd (omega arith)

head_is : (column : ℕ) → column < 2 → get_or (0 ∷ 1 ∷ []) column 0 ≡ column
head_is zero within = refl
head_is (suc zero) within = refl
head_is (suc (suc column)) within = absurd (omega arith)

basic_is : (row : ℕ) → row < 1 → get_or (1 ∷ []) row 0 ≡ row + 1
basic_is zero within = refl
basic_is (suc row) within = absurd (omega arith)

sound : IsSound condensed
sound = record {
  row_count = refl;
  head_count = refl;
  condensed = each_condensed;
  heads_within = λ column within. omega (arith, head_is column within);
  one_column = λ column other within other_within same. omega (arith, head_is column within, head_is other other_within, same);
  places_shown = λ place within. record { column = place; within = omega (arith, within); is = head_is place (omega (arith, within)) };
  basis_within = λ row within. omega (arith, basic_is row within);
  basic_head = λ row within. ap (λ k. get_or (0 ∷ 1 ∷ []) k 0) (basic_is row within) ∙ head_is (row + 1) (omega (arith, within)) ∙ (let e : row + 1 ≡ 1 + row = omega arith in e);
  objective_own = refl;
}

sound_or_empty : IsSoundOrEmpty condensed
sound_or_empty = record {
  few_columns = omega arith;
  few_rows = omega arith;
  sound = λ some. sound;
  some_column = λ some. omega arith;
  some_row = λ some. omega arith;
  empty = λ none. absurd (omega arith);
}

stands : StandsForKept condensed
stands = record { sound = λ some. sound; kept = kept_or_empty (expanded condensed) facts }

pub invariant_of-result-2 : goal.invariant_of-result-2
invariant_of-result-2 c =
    let rows_are : c.put-2.new.self ≡ condensed.rows =
    c.put-2.ensures ∙ ap (λ (rs : List (List ℤ)). set rs 1 (set (get_or rs 1 []) 1 (pos 0x40000000000000000000000000000000)))
    (c.put.ensures ∙ ap (λ (rs : List (List ℤ)). set rs 1 (set (get_or rs 1 []) 0 (pos 1)))
    (c.fill.ensures ∙ ap (λ (rs : List (List ℤ)). set rs 0 (pos 3 ∷ pos 0 ∷ pos 1 ∷ pos 0 ∷ [])) c.in_ok-remake.ensures.ok)) in
    let basis_is : c.push.new.self.items ≡ 1 ∷ [] = c.in_ok-push.ensures.items ∙ ap (λ (xs : List ℕ). xs ++ 1 ∷ []) c.new-basis.ensures.items in
    let heads_are : c.push-3.new.self.items ≡ 0 ∷ 1 ∷ [] = c.in_ok-push-3.ensures.items ∙ ap (λ (xs : List ℕ). xs ++ 1 ∷ []) (c.in_ok-push-2.ensures.items ∙ ap (λ (xs : List ℕ). xs ++ 0 ∷ []) c.new-heads.ensures.items) in
    subst StandsForKept (sym (ap₂ (λ (rows : List (List ℤ)) (basis : List ℕ). record { columns = 1; rows = rows; basis = basis; heads = c.push-3.new.self.items }) rows_are basis_is ∙ ap (λ (heads : List ℕ). record { columns = 1; rows = condensed.rows; basis = 1 ∷ []; heads = heads }) heads_are)) stands
