-- What a plain pivot does to the entries, the basic columns and the shape of a tableau.
use Rattle.std.proofs.Common.{◌≡◌, ◌≢◌, ℕ, zero, suc, ◌+◌, ◌<◌, List, [], ◌∷◌, map, length, get_or, take, drop, refl, sym, ap, ◌∙◌, arith}
use Rattle.std.proofs.lemmas.List.{length-map, length-set, get_or-set_same, get_or-set_other}
use Rattle.std.proofs.lemmas.List.Elements.{All-append, All-cons, All-map, All-take, All-drop, All-set, All-weaker}
use lib.IntN.{ℤ, ◌-ℤ◌, ◌*ℤ◌}
use Rattle.row_definitions.specs.Rows.{entry}
use Rattle.row_definitions.specs.Combination.{combination, plain_combination}
use Rattle.pivot_definitions.specs.Tableaus.{SimplexTableau, IsTableau, row_at, entry_at, basic_column, column_count, others_combined, plain_pivot}
use Rattle.pivot_definitions.proofs.Ring.{dif_is, difs, dif_same}

-- an entry of a combination of two rows of one length
pub entry-combination : (a b : ℤ) (r s : List ℤ) (k : ℕ) → length r ≡ length s → entry (combination a b r s) k ≡ a *ℤ entry r k -ℤ b *ℤ entry s k
entry-combination a b [] [] k e = rw (dif_is a, dif_is b) (simp difs (dif_same _ _ _ _ (omega arith)))
entry-combination a b [] (y ∷ s) k e = absurd (omega arith)
entry-combination a b (x ∷ r) [] k e = absurd (omega arith)
entry-combination a b (x ∷ r) (y ∷ s) zero e = refl
entry-combination a b (x ∷ r) (y ∷ s) (suc k) e = entry-combination a b r s k (omega arith)

pub length-combination : (a b : ℤ) (r s : List ℤ) → length r ≡ length s → length (combination a b r s) ≡ length r
length-combination a b [] s e = refl
length-combination a b (x ∷ r) [] e = absurd (omega arith)
length-combination a b (x ∷ r) (y ∷ s) e = ap suc (length-combination a b r s (omega arith))

pub length-others : (f : List ℤ → List ℤ) (rows : List (List ℤ)) (p : ℕ) → p < length rows → length (others_combined f rows p) ≡ length rows
length-others f [] p within = absurd (omega arith)
length-others f (row ∷ rows) zero within = ap suc (length-map rows f)
length-others f (row ∷ rows) (suc p) within = ap suc (length-others f rows p (omega arith))

get_or-map : (f : List ℤ → List ℤ) (rows : List (List ℤ)) (i : ℕ) → i < length rows → get_or (map f rows) i [] ≡ f (get_or rows i [])
get_or-map f [] i within = absurd (omega arith)
get_or-map f (row ∷ rows) zero within = refl
get_or-map f (row ∷ rows) (suc i) within = get_or-map f rows i (omega arith)

pub same_row : (f : List ℤ → List ℤ) (rows : List (List ℤ)) (p : ℕ) → get_or (others_combined f rows p) p [] ≡ get_or rows p []
same_row f [] zero = refl
same_row f [] (suc p) = refl
same_row f (row ∷ rows) zero = refl
same_row f (row ∷ rows) (suc p) = same_row f rows p

pub other_row : (f : List ℤ → List ℤ) (rows : List (List ℤ)) (p i : ℕ) → i < length rows → i ≢ p → get_or (others_combined f rows p) i [] ≡ f (get_or rows i [])
other_row f [] p i within other = absurd (omega arith)
other_row f (row ∷ rows) zero zero within other = absurd (other refl)
other_row f (row ∷ rows) zero (suc i) within other = get_or-map f rows i (omega arith)
other_row f (row ∷ rows) (suc p) zero within other = refl
other_row f (row ∷ rows) (suc p) (suc i) within other = other_row f rows p i (omega arith) (omega arith)

-- the facts of a plain pivot
pub record PivotFacts (before after : SimplexTableau) (p q : ℕ) : Type 0 where
  pub shape : IsTableau after
  pub columns : after.columns ≡ before.columns
  pub count : length after.basis ≡ length before.basis
  pub same : (k : ℕ) → entry_at after p k ≡ entry_at before p k
  pub other : (i k : ℕ) → i < length before.rows → i ≢ p → entry_at after i k ≡ entry_at before p q *ℤ entry_at before i k -ℤ entry_at before i q *ℤ entry_at before p k
  pub enters : basic_column after p ≡ q
  pub stays : (i : ℕ) → i ≢ p → basic_column after i ≡ basic_column before i

-- each row is as wide as the tableau
pub width : (t : SimplexTableau) → IsTableau t → (i : ℕ) → i < length t.rows → length (row_at t i) ≡ column_count t + 1
width t is i within = is.widths i [] within

pub pivot_facts : (t : SimplexTableau) → IsTableau t → (p q : ℕ) → p < length t.basis → q < column_count t → PivotFacts t (plain_pivot t p q) p q
pivot_facts t is p q row column =
    let within : p < length t.rows = omega (arith, is.row_count) in
    let f : List ℤ → List ℤ = λ target. plain_combination target (row_at t p) q in
    let even : (i : ℕ) → i < length t.rows → length (row_at t i) ≡ length (row_at t p) = λ i h. width t is i h ∙ sym (width t is p within) in
    let combined_width : (r : List ℤ) → length r ≡ column_count t + 1 → length (f r) ≡ column_count t + 1 = λ r e. length-combination (entry (row_at t p) q) (entry r q) r (row_at t p) (e ∙ sym (width t is p within)) ∙ e in
    let same_count : length (plain_pivot t p q).basis ≡ length t.basis = length-set t.basis p q in
    let W : List ℤ → Type 0 = λ r. length r ≡ column_count t + 1 in
    record {
      shape = record {
        row_count = length-others f t.rows p within ∙ is.row_count ∙ ap (λ n. n + 1) (sym same_count);
        widths = All-weaker W (λ r. length r ≡ column_count (plain_pivot t p q) + 1) (λ r e. e ∙ ap (λ n. t.columns + n + 1) (sym same_count)) (plain_pivot t p q).rows
            (All-append W (map f (take p t.rows)) (row_at t p ∷ map f (drop (suc p) t.rows))
            (All-map W f (take p t.rows) (All-weaker W (λ r. W (f r)) combined_width (take p t.rows) (All-take W p t.rows is.widths)))
            (All-cons W (row_at t p) (map f (drop (suc p) t.rows)) (width t is p within)
            (All-map W f (drop (suc p) t.rows) (All-weaker W (λ r. W (f r)) combined_width (drop (suc p) t.rows) (All-drop W (suc p) t.rows is.widths)))));
        basic_columns = All-weaker (λ c. c < column_count t) (λ c. c < column_count (plain_pivot t p q)) (λ c h. omega (arith, same_count)) (plain_pivot t p q).basis (All-set (λ c. c < column_count t) t.basis p q column is.basic_columns);
      };
      columns = refl;
      count = same_count;
      same = λ k. ap (λ r. entry r k) (same_row f t.rows p);
      other = λ i k h ne. ap (λ r. entry r k) (other_row f t.rows p i h ne) ∙ entry-combination (entry (row_at t p) q) (entry (row_at t i) q) (row_at t i) (row_at t p) k (even i h);
      enters = get_or-set_same t.basis p q 0 row;
      stays = λ i ne. get_or-set_other t.basis p i q 0 ne;
    }
