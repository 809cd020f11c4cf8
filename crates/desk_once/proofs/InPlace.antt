-- A loop that writes the elements of a list, one after another, in place.
use Rattle.std.proofs.Common.{◌≡◌, ℕ, zero, suc, ◌+◌, ◌<◌, ◌≤◌, List, [], ◌∷◌, ◌++◌, length, take, drop, get_or, sym, ap, ap₂, ◌∙◌, arith, append_assoc, append-nil, refl}
use Rattle.std.proofs.Math.ListN.{set}
use Rattle.std.proofs.lemmas.List.{take_more, take_all, drop_more, get_or_at, set_at, length-take-le}

split_at : {X : Type 0} (new old now : List X) (i : ℕ) (x : X) → now ≡ take i new ++ drop i old → i < length old → now ≡ take i new ++ get_or old i x ∷ drop (i + 1) old
split_at new old now i x now_is within = now_is ∙ ap (λ ys. take i new ++ ys) (drop_more old i x within)

-- the next element is still as it was
pub written_read : {X : Type 0} (new old now : List X) (i : ℕ) (x : X) → now ≡ take i new ++ drop i old → length new ≡ length old → i < length old → get_or now i x ≡ get_or old i x
written_read new old now i x now_is long within =
    let count : length (take i new) ≡ i = length-take-le i new (omega (arith, long, within)) in
    ap (λ ys. get_or ys i x) (split_at new old now i x now_is within) ∙ get_or_at (take i new) (get_or old i x) (drop (i + 1) old) x i count

-- and is then written
pub written_step : {X : Type 0} (new old now : List X) (i : ℕ) (x y : X) → now ≡ take i new ++ drop i old → length new ≡ length old → i < length old → y ≡ get_or new i x → set now i y ≡ take (i + 1) new ++ drop (i + 1) old
written_step new old now i x y now_is long within y_is =
    let count : length (take i new) ≡ i = length-take-le i new (omega (arith, long, within)) in
    ap (λ ys. set ys i y) (split_at new old now i x now_is within)
    ∙ set_at (take i new) (get_or old i x) (drop (i + 1) old) y i count
    ∙ ap (λ z. take i new ++ z ∷ drop (i + 1) old) y_is
    ∙ sym (append_assoc (take i new) (get_or new i x ∷ []) (drop (i + 1) old))
    ∙ ap (λ ys. ys ++ drop (i + 1) old) (sym (take_more new i x (omega (arith, long, within))))

nothing_left : {X : Type 0} (xs : List X) (i : ℕ) → length xs ≤ i → drop i xs ≡ []
nothing_left [] zero h = refl
nothing_left [] (suc i) h = refl
nothing_left (x ∷ xs) zero h = absurd (omega (arith, h))
nothing_left (x ∷ xs) (suc i) h = nothing_left xs i (omega (arith, h))

-- all elements are written
pub written_all : {X : Type 0} (new old now : List X) (i : ℕ) → now ≡ take i new ++ drop i old → length new ≡ length old → length old ≤ i → now ≡ new
written_all new old now i now_is long past =
    now_is ∙ ap₂ (λ a b. a ++ b) (take_all i new (omega (arith, long, past))) (nothing_left old i past) ∙ append-nil new
