-- What is found in a list, and in what a function makes of its elements.
use Rattle.std.proofs.Common.{◌≡◌, Bool, true, false, cond, List, [], ◌∷◌, ◌++◌, refl, sym, ap, subst, ◌∙◌}
use Rattle.std.specs.Prelude.{◌||◌, reverse, find, Option, Some, None, option_and_then}
use Rattle.std.specs.List.{filter_map, cons_option, flat_map, list_any}
use Rattle.std.specs.Option.{option_map_or}
use Rattle.std.proofs.lemmas.List.{reverse-append, append-nil}
use Rattle.std.proofs.lemmas.List.Elements.{filter_map-append}
use Rattle.std.proofs.lemmas.List.Folds.{Any-from_list_any, list_any_at}

find_step : {X Y Z : Type 0} (q : Y → Bool) (g : X → Option Z) (h : Y → Option Z) (o : Option Y) (b : Bool) (x : X) (r : Option X) (ys : List Y)
    → b ≡ option_map_or q o false → (b ≡ true → g x ≡ option_and_then h o) → option_and_then g r ≡ option_and_then h (find q ys)
    → option_and_then g (cond b (Some x) r) ≡ option_and_then h (find q (cons_option o ys))
find_step q g h None true x r ys e n rest = absurd (cc e)
find_step q g h None false x r ys e n rest = rest
find_step q g h (Some y) true x r ys e n rest = subst (λ (c : Bool). g x ≡ option_and_then h (cond c (Some y) (find q ys))) e (n refl)
find_step q g h (Some y) false x r ys e n rest = subst (λ (c : Bool). option_and_then g r ≡ option_and_then h (cond c (Some y) (find q ys))) e rest

-- the first element that passes a test gives what the first image that passes gives
pub find_through : {X Y Z : Type 0} (p : X → Bool) (q : Y → Bool) (f : X → Option Y) (g : X → Option Z) (h : Y → Option Z)
    → ((x : X) → p x ≡ option_map_or q (f x) false) → ((x : X) → p x ≡ true → g x ≡ option_and_then h (f x))
    → (xs : List X) → option_and_then g (find p xs) ≡ option_and_then h (find q (filter_map f xs))
find_through p q f g h agree next [] = refl
find_through p q f g h agree next (x ∷ xs) =
    find_step q g h (f x) (p x) x (find p xs) (filter_map f xs) (agree x) (next x) (find_through p q f g h agree next xs)

pub filter_map-reverse : {X Y : Type 0} (f : X → Option Y) (xs : List X) → filter_map f (reverse xs) ≡ reverse (filter_map f xs)
filter_map-reverse f [] = refl
filter_map-reverse {X} {Y} f (x ∷ xs) =
    ap (filter_map f) (reverse-append (x ∷ []) xs) ∙ (filter_map-append f (reverse xs) (x ∷ []) ∙ (ap (λ (ys : List Y). ys ++ cons_option (f x) []) (filter_map-reverse f xs) ∙ last (f x)))
  where
    last : (o : Option Y) → reverse (filter_map f xs) ++ cons_option o [] ≡ reverse (cons_option o (filter_map f xs))
    last None = append-nil (reverse (filter_map f xs))
    last (Some y) = sym (reverse-append (y ∷ []) (filter_map f xs))

pub filter_map-same : {X Y : Type 0} (f g : X → Option Y) (xs : List X) → ((x : X) → f x ≡ g x) → filter_map f xs ≡ filter_map g xs
filter_map-same f g [] e = refl
filter_map-same {Y = Y} f g (x ∷ xs) e =
    ap (λ (o : Option Y). cons_option o (filter_map f xs)) (e x) ∙ ap (λ (ys : List Y). cons_option (g x) ys) (filter_map-same f g xs e)

pub flat_map-same : {X A : Type 0} (f g : X → List A) (xs : List X) → ((x : X) → f x ≡ g x) → flat_map f xs ≡ flat_map g xs
flat_map-same f g [] e = refl
flat_map-same {A = A} f g (x ∷ xs) e = ap (λ (r : List A). r ++ flat_map f xs) (e x) ∙ ap (λ (r : List A). g x ++ r) (flat_map-same f g xs e)

any_step : {Y : Type 0} (q : Y → Bool) (o : Option Y) (ys : List Y) (b : Bool) → list_any q ys ≡ b → list_any q (cons_option o ys) ≡ (option_map_or q o false || b)
any_step q None ys b e = e
any_step q (Some y) ys b e = ap (λ (c : Bool). q y || c) e

-- an image passes the test
pub any_image : {X Y : Type 0} (q : Y → Bool) (f : X → Option Y) (xs : List X) → list_any q (filter_map f xs) ≡ list_any (λ x. option_map_or q (f x) false) xs
any_image q f [] = refl
any_image q f (x ∷ xs) = any_step q (f x) (filter_map f xs) (list_any (λ x. option_map_or q (f x) false) xs) (any_image q f xs)

pub any_weaker : {X : Type 0} (p q : X → Bool) → ((x : X) → p x ≡ true → q x ≡ true) → (xs : List X) → list_any p xs ≡ true → list_any q xs ≡ true
any_weaker p q weaker xs h =
    let found = Any-from_list_any p xs h in
    list_any_at q xs found.0 found.1 found.2 (ap q found.3 ∙ weaker found.1 found.4)
