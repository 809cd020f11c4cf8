-- Lists by their beginnings, and entries by their callers.
use Rattle.std.proofs.Common.{◌≡◌, ◌≢◌, ℕ, ◌≤◌, ◌==◌, Bool, true, false, List, [], ◌∷◌, ◌++◌, map, length, refl, sym, ap, ◌∙◌, arith, append_assoc, append-nil, eq-eqb, ne_eqb}
use Rattle.std.specs.Prelude.{nat_lt, filter, if◌then◌else◌}
use mathlib.Core.List.{IsPrefix}
use Rattle.atomic_table.specs.Table.{rest}
use Rattle.std.proofs.lemmas.Bool.Decides.{nat_tests}
use Rattle.std.proofs.lemmas.List.Elements.{filter-append}
use Rattle.turn_lock.specs.Calls.{calls_of, kept_of, longer}
use Rattle.turn_lock.specs.Rule.{is_it, times_joined}

module _ {E : Type 0} where
  pub prefix_self : (xs : List E) → IsPrefix xs xs
  prefix_self xs = ([], append-nil xs)

  pub prefix_nil : (xs : List E) → IsPrefix [] xs
  prefix_nil xs = (xs, refl)

  pub prefix_more : (xs ys zs : List E) → IsPrefix xs ys → IsPrefix xs (ys ++ zs)
  prefix_more xs ys zs p = (p.0 ++ zs, sym (append_assoc xs p.0 zs) ∙ ap (λ l. l ++ zs) p.1)

  -- of two beginnings of one list, the shorter begins the longer
  pub prefix_shorter : (xs ys log : List E) → IsPrefix xs log → IsPrefix ys log → length xs ≤ length ys → IsPrefix xs ys
  prefix_shorter [] ys log p q le = prefix_nil ys
  prefix_shorter (x ∷ xs) [] log p q le = absurd (omega arith)
  prefix_shorter (x ∷ xs) (y ∷ ys) [] p q le = absurd (cc)
  prefix_shorter (x ∷ xs) (y ∷ ys) (l ∷ log) p q le =
      let head : x ≡ y = cc in
      let rest : IsPrefix xs ys = prefix_shorter xs ys log (p.0, let a : xs ++ p.0 ≡ log = cc in a) (q.0, let b : ys ++ q.0 ≡ log = cc in b) (omega arith) in
      (rest.0, λ i. head i ∷ rest.1 i)

  pub longer_begins : (xs ys log : List E) → IsPrefix xs log → IsPrefix ys log → IsPrefix xs (longer xs ys) × IsPrefix ys (longer xs ys) × IsPrefix (longer xs ys) log
  longer_begins xs ys log p q = by (nat_lt (length xs) (length ys)) refl
    where
      by : (b : Bool) → nat_lt (length xs) (length ys) ≡ b → IsPrefix xs (longer xs ys) × IsPrefix ys (longer xs ys) × IsPrefix (longer xs ys) log
      by true e = let at : longer xs ys ≡ ys = ap (λ b. if b then ys else xs) e in let le : length xs ≤ length ys = grind (arith, nat_tests) in
          rw at (prefix_shorter xs ys log p q le, prefix_self ys, q)
      by false e = let at : longer xs ys ≡ xs = ap (λ b. if b then ys else xs) e in let le : length ys ≤ length xs = grind (arith, nat_tests) in
          rw at (prefix_self xs, prefix_shorter ys xs log q p le, p)

  module _ (caller : E → ℕ) where
    pub calls_of-more : (n : ℕ) (xs : List E) (e : E) → caller e ≡ n → calls_of caller n (xs ++ e ∷ []) ≡ calls_of caller n xs ++ e ∷ []
    calls_of-more n xs e is = filter-append (λ x. caller x == n) xs (e ∷ []) ∙ ap (λ (b : Bool). filter (λ x. caller x == n) xs ++ (if b then e ∷ [] else [])) (eq-eqb (caller e) n is)

    pub calls_of-other : (n : ℕ) (xs : List E) (e : E) → caller e ≢ n → calls_of caller n (xs ++ e ∷ []) ≡ calls_of caller n xs
    calls_of-other n xs e ne = filter-append (λ x. caller x == n) xs (e ∷ []) ∙ ap (λ (b : Bool). filter (λ x. caller x == n) xs ++ (if b then e ∷ [] else [])) (ne_eqb (caller e) n ne) ∙ append-nil _

  pub kept_of-append : (n : ℕ) (ps qs : List (ℕ × List E)) → kept_of n (ps ++ qs) ≡ kept_of n ps ++ kept_of n qs
  kept_of-append n [] qs = refl
  kept_of-append n (p ∷ ps) qs = ap (λ l. (if p.0 == n then p.1 else []) ++ l) (kept_of-append n ps qs) ∙ sym (append_assoc (if p.0 == n then p.1 else []) (kept_of n ps) (kept_of n qs))

  -- under a number that was not joined nothing is kept
  pub kept_of-none : (n : ℕ) (ps : List (ℕ × List E)) → times_joined n ps ≡ 0 → kept_of n ps ≡ []
  kept_of-none n [] h = refl
  kept_of-none n (p ∷ ps) h = by (kept_of-none n ps) (p.0 == n) refl
    where
      by : (times_joined n ps ≡ 0 → kept_of n ps ≡ []) → (b : Bool) → (p.0 == n) ≡ b → kept_of n (p ∷ ps) ≡ []
      by rest true e = let here : is_it n p.0 ≡ 1 = ap (λ b. if b then 1 else 0) e in absurd (omega arith)
      by rest false e = let here : is_it n p.0 ≡ 0 = ap (λ b. if b then 1 else 0) e in ap (λ b. (if b then p.1 else []) ++ kept_of n ps) e ∙ rest (omega arith)

  -- the entries of the pass that was joined last
  pub kept_of-last : (n : ℕ) (ps : List (ℕ × List E)) (own : List E) → times_joined n ps ≡ 0 → kept_of n (ps ++ (n, own) ∷ []) ≡ own
  kept_of-last n ps own none-before =
      kept_of-append n ps ((n, own) ∷ [])
      ∙ ap (λ l. l ++ kept_of n ((n, own) ∷ [])) (kept_of-none n ps none-before)
      ∙ ap (λ (b : Bool). (if b then own else []) ++ []) (eq-eqb n n refl)
      ∙ append-nil own

  pub kept_of-other : (n m : ℕ) (ps : List (ℕ × List E)) (own : List E) → m ≢ n → kept_of n (ps ++ (m, own) ∷ []) ≡ kept_of n ps
  kept_of-other n m ps own other =
      kept_of-append n ps ((m, own) ∷ [])
      ∙ ap (λ (b : Bool). kept_of n ps ++ ((if b then own else []) ++ [])) (ne_eqb m n other)
      ∙ append-nil (kept_of n ps)

-- the one slot that is out
pub one_out : {A : Type 0} (c : List (ℕ × A)) → map (λ x. x.0) c ≡ 0 ∷ [] → (y : A) × (c ≡ (0, y) ∷ rest c) × (rest c ≡ [])
one_out [] e = absurd (cc)
one_out ((n, y) ∷ []) e = let z : n ≡ 0 = cc in (y, (λ i. (z i, y) ∷ []), refl)
one_out ((n, y) ∷ p ∷ ps) e = absurd (cc)

pub held_now : {A W : Type 0} (me now : W × List (ℕ × A)) (y : A) → map (λ x. x.0) me.1 ≡ 0 ∷ [] → now ≡ (me.0, (0, y) ∷ rest me.1) → now ≡ (me.0, (0, y) ∷ [])
held_now me now y slot is = is ∙ ap (λ l. (me.0, (0, y) ∷ l)) (one_out me.1 slot).2

pub first_out : {A : Type 0} (c : List (ℕ × A)) (y : A) → c ≡ (0, y) ∷ [] → c ≡ (0, y) ∷ rest c
first_out c y is = is ∙ ap (λ l. (0, y) ∷ rest l) (sym is)
