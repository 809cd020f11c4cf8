-- Lists that rise strictly: their elements, their parts, and that two of them with the same elements are equal.
use Rattle.std.proofs.Common.{◌≡◌, ◌<◌, ℕ, zero, suc, List, [], ◌∷◌, ◌++◌, length, get_or, arith, refl, sym, ◌∙◌, ap, subst, inl, inr, ⊎_elim}
use Rattle.std.specs.Prelude.{◌⊎◌, All, AllPairs, Any}

-- the element stands in the list
abbrev pub IsIn : {X : Type 0} → X → List X → Type 0
IsIn z [] = ⊥
IsIn z (x ∷ xs) = (z ≡ x) ⊎ IsIn z xs

-- the relation holds of each pair
abbrev pub AreBelow : {X : Type 0} → (X → X → Type 0) → List X → Type 0
AreBelow R [] = Unit {0}
AreBelow R (x ∷ xs) = ((y : _) → IsIn y xs → R x y) × AreBelow R xs

pub in_at : {X : Type 0} (xs : List X) (k : ℕ) (x : X) → k < length xs → get_or xs k x ≡ x → IsIn x xs
in_at [] k x h e = absurd (omega arith)
in_at (y ∷ xs) zero x h e = inl (sym e)
in_at (y ∷ xs) (suc k) x h e = inr (in_at xs k x (omega arith) e)

-- an element that stands in the list has a place
pub place_of : {X : Type 0} (xs : List X) (z : X) → IsIn z xs → (k : ℕ) × (k < length xs) × ((d : X) → get_or xs k d ≡ z)
place_of [] z h = absurd h
place_of (x ∷ xs) z (inl e) = (0, omega arith, λ d. sym e)
place_of (x ∷ xs) z (inr h) = let p = place_of xs z h in (suc p.0, omega (arith, p.1), p.2)

pub all_at : {X : Type 0} (P : X → Type 0) (xs : List X) (z : X) → All P xs → IsIn z xs → P z
all_at P xs z h i = let p = place_of xs z i in subst P (p.2 z) (h p.0 z p.1)

pub any_in : {X : Type 0} (P : X → Type 0) (xs : List X) → Any P xs → (z : X) × IsIn z xs × P z
any_in P xs (k, x, h, e, p) = (x, in_at xs k x h e, p)

pub below_of : {X : Type 0} (R : X → X → Type 0) (xs : List X) → AllPairs R xs → AreBelow R xs
below_of R [] h = tt
below_of R (x ∷ xs) h = (λ y i. let p = place_of xs y i in subst (R x) (p.2 x) (h 0 (suc p.0) x (omega arith) (omega (arith, p.1))), below_of R xs (λ i j d p q. h (suc i) (suc j) d (omega arith) (omega arith)))

pub same_lists : {X : Type 0} (R : X → X → Type 0) → ((x y : X) → R x y → R y x → ⊥) → (xs ys : List X) → AreBelow R xs → AreBelow R ys
    → ((z : X) → IsIn z xs → IsIn z ys) → ((z : X) → IsIn z ys → IsIn z xs) → xs ≡ ys
same_lists R asym [] [] p q f g = refl
same_lists R asym [] (y ∷ ys) p q f g = absurd (g y (inl refl))
same_lists R asym (x ∷ xs) [] p q f g = absurd (f x (inl refl))
same_lists {X} R asym (x ∷ xs) (y ∷ ys) p q f g =
    let heads : x ≡ y = ⊎_elim (λ (e : x ≡ y). e) (λ (i : IsIn x ys). ⊎_elim (λ (e : y ≡ x). sym e) (λ (j : IsIn y xs). absurd (asym x y (p.0 y j) (q.0 x i))) (g y (inl refl))) (f x (inl refl)) in
    let irr : (z : X) → R z z → ⊥ = λ z r. asym z z r r in
    let down : (z : X) → IsIn z xs → IsIn z ys = λ z i. ⊎_elim (λ (e : z ≡ y). absurd (irr x (subst (R x) (e ∙ sym heads) (p.0 z i)))) (λ (j : IsIn z ys). j) (f z (inr i)) in
    let up : (z : X) → IsIn z ys → IsIn z xs = λ z i. ⊎_elim (λ (e : z ≡ x). absurd (irr y (subst (R y) (e ∙ heads) (q.0 z i)))) (λ (j : IsIn z xs). j) (g z (inr i)) in
    let tails : xs ≡ ys = same_lists R asym xs ys p.1 q.1 down up in
    ap (λ (z : X). z ∷ xs) heads ∙ ap (λ (zs : List X). y ∷ zs) tails

-- an element at a place stands in the list
pub get_in : {X : Type 0} (xs : List X) (k : ℕ) (d : X) → k < length xs → IsIn (get_or xs k d) xs
get_in [] k d h = absurd (omega arith)
get_in (x ∷ xs) zero d h = inl refl
get_in (x ∷ xs) (suc k) d h = inr (get_in xs k d (omega arith))

pub pairs_from_below : {X : Type 0} (R : X → X → Type 0) (xs : List X) → AreBelow R xs → (i j : ℕ) (d : X) → i < j → j < length xs → R (get_or xs i d) (get_or xs j d)
pairs_from_below R [] h i j d p q = absurd (omega (arith, q))
pairs_from_below R (x ∷ xs) h i zero d p q = absurd (omega (arith, p))
pairs_from_below R (x ∷ xs) h zero (suc j) d p q = h.0 (get_or xs j d) (get_in xs j d (omega (arith, q)))
pairs_from_below R (x ∷ xs) h (suc i) (suc j) d p q = pairs_from_below R xs h.1 i j d (omega (arith, p)) (omega (arith, q))

pub in_append : {X : Type 0} (xs ys : List X) (z : X) → IsIn z (xs ++ ys) → IsIn z xs ⊎ IsIn z ys
in_append [] ys z h = inr h
in_append (x ∷ xs) ys z (inl e) = inl (inl e)
in_append (x ∷ xs) ys z (inr h) = ⊎_elim (λ (l : IsIn z xs). inl (inr l)) (λ (r : IsIn z ys). inr r) (in_append xs ys z h)

pub in_front : {X : Type 0} (xs ys : List X) (z : X) → IsIn z xs → IsIn z (xs ++ ys)
in_front [] ys z h = absurd h
in_front (x ∷ xs) ys z (inl e) = inl e
in_front (x ∷ xs) ys z (inr h) = inr (in_front xs ys z h)

pub in_back : {X : Type 0} (xs ys : List X) (z : X) → IsIn z ys → IsIn z (xs ++ ys)
in_back [] ys z h = h
in_back (x ∷ xs) ys z h = inr (in_back xs ys z h)

pub below_append : {X : Type 0} (R : X → X → Type 0) (xs ys : List X) → AreBelow R xs → AreBelow R ys → ((x y : X) → IsIn x xs → IsIn y ys → R x y) → AreBelow R (xs ++ ys)
below_append R [] ys p q h = q
below_append R (x ∷ xs) ys p q h =
    (λ y i. ⊎_elim (λ (l : IsIn y xs). p.0 y l) (λ (r : IsIn y ys). h x y (inl refl) r) (in_append xs ys y i), below_append R xs ys p.1 q (λ a b i j. h a b (inr i) j))
