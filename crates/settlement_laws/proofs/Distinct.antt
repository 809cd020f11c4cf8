use Rattle.std.proofs.Common.{ℕ, ◌≡◌, ◌<◌, Bool, true, false, not, cond, ◌||◌, zero, suc, List, [], ◌∷◌, ◌++◌, length, get_or, refl, sym, ap, ◌∙◌, arith}
use Rattle.std.specs.Prelude.{filter}
use Rattle.std.specs.List.{list_any}
use Rattle.std.proofs.lemmas.List.{append-nil}
use Rattle.std.proofs.lemmas.List.Elements.{filter-append}
use Rattle.settlement_definitions.specs.Classes.{distinct_by}

list_any-filter_step : {X : Type 0} (p q : X → Bool) (x : X) (xs : List X) → (q x ≡ true → p x ≡ true) → list_any q (filter p xs) ≡ list_any q xs → (b c : Bool) → p x ≡ b → q x ≡ c → list_any q (cond (p x) (x ∷ filter p xs) (filter p xs)) ≡ (q x || list_any q xs)
list_any-filter_step p q x xs kept rest true c e f =
    ap (λ t. list_any q (cond t (x ∷ filter p xs) (filter p xs))) e ∙ ap (λ t. q x || t) rest
list_any-filter_step p q x xs kept rest false true e f = let g = kept f in cc
list_any-filter_step p q x xs kept rest false false e f =
    ap (λ t. list_any q (cond t (x ∷ filter p xs) (filter p xs))) e ∙ rest ∙ sym (ap (λ t. t || list_any q xs) f)

-- what a test looks for is found in a filtered list as in the whole, where the filter keeps it
pub list_any-filter : {X : Type 0} (p q : X → Bool) → ((x : X) → q x ≡ true → p x ≡ true) → (xs : List X) → list_any q (filter p xs) ≡ list_any q xs
list_any-filter p q kept [] = refl
list_any-filter p q kept (x ∷ xs) = list_any-filter_step p q x xs (kept x) (list_any-filter p q kept xs) (p x) (q x) refl refl

not_alike : {X : Type 0} (same : X → X → Bool) → ((x y z : X) → same x y ≡ true → same y z ≡ true → same x z ≡ true) → (x y z : X) → same x z ≡ false → same y z ≡ true → (b : Bool) → same x y ≡ b → not b ≡ true
not_alike same trans x y z e f false g = refl
not_alike same trans x y z e f true g = let h = trans x y z g f in cc

-- what is not like x has its like among those that are not like x
found_apart : {X : Type 0} (same : X → X → Bool) → ((x y z : X) → same x y ≡ true → same y z ≡ true → same x z ≡ true) → (x z : X) (xs : List X) → same x z ≡ false → list_any (λ y. same y z) (filter (λ y. not (same x y)) xs) ≡ list_any (λ y. same y z) xs
found_apart same trans x z xs e =
    list_any-filter (λ y. not (same x y)) (λ y. same y z) (λ y f. not_alike same trans x y z e f (same x y) refl) xs

push_step : {X : Type 0} (same : X → X → Bool) → ((x y z : X) → same x y ≡ true → same y z ≡ true → same x z ≡ true) → (x z : X) (kept more : List X) → more ≡ cond (list_any (λ y. same y z) kept) kept (kept ++ z ∷ []) → (b c : Bool) → same x z ≡ b → list_any (λ y. same y z) kept ≡ c → (x ∷ filter (λ y. not (same x y)) more) ≡ cond (same x z || list_any (λ y. same y z) (filter (λ y. not (same x y)) kept)) (x ∷ filter (λ y. not (same x y)) kept) (x ∷ (filter (λ y. not (same x y)) kept ++ z ∷ []))
push_step same trans x z kept more rest true true e f =
    ap (λ l. x ∷ filter (λ y. not (same x y)) l) (rest ∙ ap (λ t. cond t kept (kept ++ z ∷ [])) f) ∙ sym (ap (λ t. cond (t || list_any (λ y. same y z) (filter (λ y. not (same x y)) kept)) (x ∷ filter (λ y. not (same x y)) kept) (x ∷ (filter (λ y. not (same x y)) kept ++ z ∷ []))) e)
push_step same trans x z kept more rest true false e f =
    ap (λ l. x ∷ filter (λ y. not (same x y)) l) (rest ∙ ap (λ t. cond t kept (kept ++ z ∷ [])) f) ∙ ap (λ l. x ∷ l) (filter-append (λ y. not (same x y)) kept (z ∷ []) ∙ ap (λ t. filter (λ y. not (same x y)) kept ++ cond (not t) (z ∷ []) []) e ∙ append-nil (filter (λ y. not (same x y)) kept)) ∙ sym (ap (λ t. cond (t || list_any (λ y. same y z) (filter (λ y. not (same x y)) kept)) (x ∷ filter (λ y. not (same x y)) kept) (x ∷ (filter (λ y. not (same x y)) kept ++ z ∷ []))) e)
push_step same trans x z kept more rest false true e f =
    ap (λ l. x ∷ filter (λ y. not (same x y)) l) (rest ∙ ap (λ t. cond t kept (kept ++ z ∷ [])) f) ∙ sym (ap (λ t. cond (t || list_any (λ y. same y z) (filter (λ y. not (same x y)) kept)) (x ∷ filter (λ y. not (same x y)) kept) (x ∷ (filter (λ y. not (same x y)) kept ++ z ∷ []))) e ∙ ap (λ t. cond t (x ∷ filter (λ y. not (same x y)) kept) (x ∷ (filter (λ y. not (same x y)) kept ++ z ∷ []))) (found_apart same trans x z kept e ∙ f))
push_step same trans x z kept more rest false false e f =
    ap (λ l. x ∷ filter (λ y. not (same x y)) l) (rest ∙ ap (λ t. cond t kept (kept ++ z ∷ [])) f) ∙ ap (λ l. x ∷ l) (filter-append (λ y. not (same x y)) kept (z ∷ []) ∙ ap (λ t. filter (λ y. not (same x y)) kept ++ cond (not t) (z ∷ []) []) e) ∙ sym (ap (λ t. cond (t || list_any (λ y. same y z) (filter (λ y. not (same x y)) kept)) (x ∷ filter (λ y. not (same x y)) kept) (x ∷ (filter (λ y. not (same x y)) kept ++ z ∷ []))) e ∙ ap (λ t. cond t (x ∷ filter (λ y. not (same x y)) kept) (x ∷ (filter (λ y. not (same x y)) kept ++ z ∷ []))) (found_apart same trans x z kept e ∙ f))

-- a list with one more element keeps it where it is like none before it
pub distinct_by-push : {X : Type 0} (same : X → X → Bool) → ((x y z : X) → same x y ≡ true → same y z ≡ true → same x z ≡ true) → (xs : List X) (z : X) → distinct_by same (xs ++ z ∷ []) ≡ cond (list_any (λ y. same y z) (distinct_by same xs)) (distinct_by same xs) (distinct_by same xs ++ z ∷ [])
distinct_by-push same trans [] z = refl
distinct_by-push same trans (x ∷ xs) z =
    push_step same trans x z (distinct_by same xs) (distinct_by same (xs ++ z ∷ [])) (distinct_by-push same trans xs z) (same x z) (list_any (λ y. same y z) (distinct_by same xs)) refl refl

each_step : {X : Type 0} (same : X → X → Bool) → ((x y z : X) → same x y ≡ true → same y z ≡ true → same x z ≡ true) → (x z : X) (kept : List X) → list_any (λ y. same y z) kept ≡ true → (b : Bool) → same x z ≡ b → (same x z || list_any (λ y. same y z) (filter (λ y. not (same x y)) kept)) ≡ true
each_step same trans x z kept rest true e = ap (λ t. t || list_any (λ y. same y z) (filter (λ y. not (same x y)) kept)) e
each_step same trans x z kept rest false e =
    ap (λ t. t || list_any (λ y. same y z) (filter (λ y. not (same x y)) kept)) e ∙ found_apart same trans x z kept e ∙ rest

-- each element of a list has its like among those that are kept
pub distinct_by-each : {X : Type 0} (same : X → X → Bool) → ((x : X) → same x x ≡ true) → ((x y z : X) → same x y ≡ true → same y z ≡ true → same x z ≡ true) → (xs : List X) (k : ℕ) (d : X) → k < length xs → list_any (λ y. same y (get_or xs k d)) (distinct_by same xs) ≡ true
distinct_by-each same self trans [] k d lt = absurd (omega arith)
distinct_by-each same self trans (x ∷ xs) zero d lt = ap (λ t. t || list_any (λ y. same y x) (filter (λ y. not (same x y)) (distinct_by same xs))) (self x)
distinct_by-each same self trans (x ∷ xs) (suc k) d lt =
    each_step same trans x (get_or xs k d) (distinct_by same xs) (distinct_by-each same self trans xs k d (omega arith)) (same x (get_or xs k d)) refl
