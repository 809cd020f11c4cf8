-- The basis of each tableau of a run is one of the ways to choose as many columns as there are rows; and two tableaus of one basis
-- have the same basic columns.
use Rattle.std.proofs.Common.{◌≡◌, ◌≢◌, ℕ, zero, suc, ◌+◌, ◌<◌, ◌≤◌, ◌==◌, ◌||◌, ◌&&◌, Bool, true, false, cond, List, [], ◌∷◌, length, get_or, refl, sym, ap, ap₂, ◌∙◌, subst, arith}
use Rattle.std.specs.List.{All, AllPairs, list_any, filter, range_with_len}
use Rattle.std.proofs.lemmas.Bool.Decides.{nat_tests}
use Rattle.std.proofs.lemmas.List.Elements.{All-head, All-tail, All-weaker, All-filter}
use Rattle.std.proofs.lemmas.List.Folds.{list_any_at, list_any_none}
use Rattle.std.proofs.lemmas.List.FromFn.{length-range_with_len, get_or-range_with_len}
use Rattle.std.proofs.lemmas.List.Kept.{AllPairs-filter}
use Rattle.std.proofs.lemmas.List.{get_or_default}
use Rattle.pivot_definitions.specs.Programs.{LinearProgram}
use Rattle.pivot_definitions.specs.Tableaus.{SimplexTableau, basic_column, column_count}
use Rattle.pivot_definitions.proofs.Built.{All-range}
use Rattle.pivot_definitions.proofs.Reached.{Reached}
use Rattle.bland_laws.specs.Ways.{IsWay}
use Rattle.bland_laws.specs.Bases.{is_basic, basis_of}
use Rattle.bland_laws.proofs.NumberTests.{by_bool, by_test}
use Rattle.bland_laws.proofs.FewBases.{AllPairs-head, AllPairs-tail}
use Rattle.bland_laws.proofs.Walks.{N, known_of, row_is_one}
use Rattle.bland_laws.proofs.Directions.{IsBasic}

-- ---- tests of numbers in a list

-- whether a number is in a list
abbrev is_in : List ℕ → ℕ → Bool
is_in xs c = list_any (λ b. b == c) xs

filter_none : (ys : List ℕ) → length (filter (λ c. false) ys) ≡ 0
filter_none [] = refl
filter_none (y ∷ ys) = filter_none ys

filter_before : (x a n : ℕ) → x < a → length (filter (λ c. x == c) (range_with_len a n)) ≡ 0
filter_before x a zero h = refl
filter_before x a (suc n) h = by_test (λ b. length (cond b (a ∷ filter (λ c. x == c) (range_with_len (a + 1) n)) (filter (λ c. x == c) (range_with_len (a + 1) n))) ≡ 0) x a (λ e. absurd (omega arith)) (λ ne. filter_before x (a + 1) n (omega arith))

filter_one : (x a n : ℕ) → a ≤ x → x < a + n → length (filter (λ c. x == c) (range_with_len a n)) ≡ 1
filter_one x a zero low high = absurd (omega arith)
filter_one x a (suc n) low high = by_test (λ b. length (cond b (a ∷ filter (λ c. x == c) (range_with_len (a + 1) n)) (filter (λ c. x == c) (range_with_len (a + 1) n))) ≡ 1) x a
    (λ e. ap suc (filter_before x (a + 1) n (omega arith)))
    (λ ne. filter_one x (a + 1) n (omega arith) (omega arith))

-- what passes one of two tests that never both pass
filter_both : (p q : ℕ → Bool) (ys : List ℕ) → ((c : ℕ) → p c ≡ true → q c ≡ false) → length (filter (λ c. p c || q c) ys) ≡ length (filter p ys) + length (filter q ys)
filter_both p q [] apart = refl
filter_both p q (y ∷ ys) apart =
    let rest = filter_both p q ys apart in
    let both = filter (λ c. p c || q c) ys in
    by_bool (λ b. length (cond (b || q y) (y ∷ both) both) ≡ length (cond b (y ∷ filter p ys) (filter p ys)) + length (cond (q y) (y ∷ filter q ys) (filter q ys))) (p y)
    (λ pass. let none : length (cond (q y) (y ∷ filter q ys) (filter q ys)) ≡ length (filter q ys) = ap (λ b. length (cond b (y ∷ filter q ys) (filter q ys))) (apart y pass) in omega (arith, rest, none))
    (λ fail. by_bool (λ b. length (cond b (y ∷ both) both) ≡ length (filter p ys) + length (cond b (y ∷ filter q ys) (filter q ys))) (q y) (λ pass. omega (arith, rest)) (λ fail'. rest))

not_in : (c : ℕ) (xs : List ℕ) → All (λ y. c ≢ y) xs → is_in xs c ≡ false
not_in c xs apart = list_any_none (λ b. b == c) xs (All-weaker (λ y. c ≢ y) (λ y. (y == c) ≡ false) (λ y ne. grind (arith, nat_tests)) xs apart)

-- as many numbers of a range are in a list as the list has, if they differ
count_in : (xs : List ℕ) (n : ℕ) → All (λ x. x < n) xs → AllPairs (λ x y. x ≢ y) xs → length (filter (is_in xs) (range_with_len 0 n)) ≡ length xs
count_in [] n below apart = filter_none (range_with_len 0 n)
count_in (x ∷ xs) n below apart =
    let first = All-head (λ y. y < n) x xs below in
    filter_both (λ c. x == c) (is_in xs) (range_with_len 0 n) (λ c e. (let same : x ≡ c = grind (arith, nat_tests) in subst (λ k. is_in xs k ≡ false) same (not_in x xs (AllPairs-head (λ u v. u ≢ v) x xs apart))))
    ∙ ap₂ (λ u v. u + v) (filter_one x 0 n (omega arith) (omega (arith, first))) (count_in xs n (All-tail (λ y. y < n) x xs below) (AllPairs-tail (λ u v. u ≢ v) x xs apart))
    ∙ (let e : 1 + length xs ≡ suc (length xs) = omega arith in e)

and_false : (b : Bool) → (b && false) ≡ false
and_false true = refl
and_false false = refl

-- a number is in what passes a test if it is in the list and passes
in_filter : (p : ℕ → Bool) (ys : List ℕ) (c : ℕ) → is_in (filter p ys) c ≡ (is_in ys c && p c)
in_filter p [] c = refl
in_filter p (y ∷ ys) c =
    let rest = in_filter p ys c in
    by_bool (λ b. p y ≡ b → is_in (cond b (y ∷ filter p ys) (filter p ys)) c ≡ (((y == c) || is_in ys c) && p c)) (p y)
    (λ pass e. by_test (λ b. (b || is_in (filter p ys) c) ≡ ((b || is_in ys c) && p c)) y c (λ same. sym pass ∙ ap p same) (λ differ. rest))
    (λ fail e. by_test (λ b. is_in (filter p ys) c ≡ ((b || is_in ys c) && p c)) y c (λ same. rest ∙ ap (λ b. is_in ys c && b) (sym (ap p same) ∙ fail) ∙ and_false (is_in ys c) ∙ sym fail ∙ ap p same) (λ differ. rest))
    refl

in_range : (n c : ℕ) → c < n → is_in (range_with_len 0 n) c ≡ true
in_range n c h =
    let at : get_or (range_with_len 0 n) c 0 ≡ c = get_or-range_with_len 0 n c 0 h ∙ (let e : 0 + c ≡ c = omega arith in e) in
    list_any_at (λ b. b == c) (range_with_len 0 n) c 0 (omega (arith, length-range_with_len 0 n)) (grind (arith, nat_tests))

-- tests that let the same numbers of a range pass are the same there
same_test : (p q : ℕ → Bool) (n c : ℕ) → filter p (range_with_len 0 n) ≡ filter q (range_with_len 0 n) → c < n → p c ≡ q c
same_test p q n c same h =
    let inside = in_range n c h in
    ap (λ b. b && p c) (sym inside) ∙ sym (in_filter p (range_with_len 0 n) c) ∙ ap (λ xs. is_in xs c) same ∙ in_filter q (range_with_len 0 n) c ∙ ap (λ b. b && q c) inside

place_of : (xs : List ℕ) (c : ℕ) → is_in xs c ≡ true → (i : ℕ) × (i < length xs) × (get_or xs i 0 ≡ c)
place_of [] c h = absurd (cc)
place_of (x ∷ xs) c h =
    by_test (λ b. (b || is_in xs c) ≡ true → (i : ℕ) × (i < length (x ∷ xs)) × (get_or (x ∷ xs) i 0 ≡ c)) x c
    (λ e k. (0, omega arith, e))
    (λ ne k. (let found = place_of xs c k in let inside = found.1 in (suc found.0, omega (arith, inside), found.2)))
    h

-- ---- bases

range_rises : (n : ℕ) → AllPairs (λ x y. x < y) (range_with_len 0 n)
range_rises n i j d h k =
    let inside : j < n = omega (arith, k, length-range_with_len 0 n) in
    let x = get_or-range_with_len 0 n i d (omega arith) in
    let y = get_or-range_with_len 0 n j d inside in
    omega (arith, x, y)

pub basis_is_way_at : (program : LinearProgram) (t : SimplexTableau) → Reached program t → IsWay (program.columns + program.rows) program.rows (basis_of t)
basis_is_way_at program t held =
    let known = known_of program t held in
    let count = held.count in
    let n = column_count t in
    let wide : n ≡ program.columns + program.rows = ap₂ (λ a b. a + b) held.columns held.count in
    subst (λ m. IsWay m program.rows (basis_of t)) wide (record {
      rising = AllPairs-filter (λ x y. x < y) (is_basic t) (range_with_len 0 n) (range_rises n);
      below = All-filter (is_basic t) (λ x. x < n) (range_with_len 0 n) (All-range (λ x. x < n) 0 n (λ k low high. omega arith));
      count = count_in t.basis n held.feasible.shape.basic_columns (λ i j d h k same. (let inside : j < program.rows = omega (arith, k, count) in let e = row_is_one program t known i j (omega arith) inside (get_or_default t.basis i 0 d (omega arith) ∙ same ∙ sym (get_or_default t.basis j 0 d k)) in omega (arith, e)))
          ∙ count;
    })

pub same_basis : (program : LinearProgram) (t u : SimplexTableau) → Reached program t → Reached program u → basis_of t ≡ basis_of u → (c : ℕ) → IsBasic program t c → IsBasic program u c
same_basis program t u held held' same c basic =
    let count = held.count in
    let count' = held'.count in
    let h = basic.1 in
    let wide : column_count t ≡ N program = ap₂ (λ a b. a + b) held.columns held.count in
    let wide' : column_count u ≡ N program = ap₂ (λ a b. a + b) held'.columns held'.count in
    let inside : c < N program = subst (λ k. k < N program) basic.2 ((known_of program t held).within basic.0 h) in
    let tests = same_test (is_basic t) (is_basic u) (N program) c (ap (λ m. filter (is_basic t) (range_with_len 0 m)) (sym wide) ∙ same ∙ ap (λ m. filter (is_basic u) (range_with_len 0 m)) wide') inside in
    let column = basic.2 in
    let first : is_basic t c ≡ true = list_any_at (λ b. b == c) t.basis basic.0 0 (omega (arith, h, count)) (let e : basic_column t basic.0 ≡ c = column in grind (arith, nat_tests)) in
    let found = place_of u.basis c (sym tests ∙ first) in
    let there = found.1 in
    (found.0, omega (arith, there, count'), found.2)
