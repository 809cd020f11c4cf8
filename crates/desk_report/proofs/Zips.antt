-- Two lists whose elements go together, one by one.
use Rattle.std.proofs.Common.{ℕ, ◌<◌, ◌≡◌, List, [], ◌∷◌, ◌++◌, length, get_or, refl, ap, arith, zero, suc}
use Rattle.std.specs.List.{AllZip}

pub AllZip-push_pair : {A B : Type 0} (R : A → B → Type 0) (xs : List A) (ys : List B) (x : A) (y : B) → AllZip R xs ys → R x y → AllZip R (xs ++ x ∷ []) (ys ++ y ∷ [])
AllZip-push_pair R [] [] x y h r = (r, tt)
AllZip-push_pair R [] (z ∷ ys) x y h r = absurd h
AllZip-push_pair R (z ∷ xs) [] x y h r = absurd h
AllZip-push_pair R (z ∷ xs) (w ∷ ys) x y h r = (h.0, AllZip-push_pair R xs ys x y h.1 r)

pub length-all_zip : {A B : Type 0} (R : A → B → Type 0) (xs : List A) (ys : List B) → AllZip R xs ys → length ys ≡ length xs
length-all_zip R [] [] h = refl
length-all_zip R [] (z ∷ ys) h = absurd h
length-all_zip R (z ∷ xs) [] h = absurd h
length-all_zip R (z ∷ xs) (w ∷ ys) h = ap suc (length-all_zip R xs ys h.1)

pub AllZip-at : {A B : Type 0} (R : A → B → Type 0) (xs : List A) (ys : List B) (k : ℕ) (d : A) (e : B) → AllZip R xs ys → k < length xs → R (get_or xs k d) (get_or ys k e)
AllZip-at R [] [] k d e h l = absurd (omega arith)
AllZip-at R [] (z ∷ ys) k d e h l = absurd h
AllZip-at R (z ∷ xs) [] k d e h l = absurd h
AllZip-at R (z ∷ xs) (w ∷ ys) zero d e h l = h.0
AllZip-at R (z ∷ xs) (w ∷ ys) (suc k) d e h l = AllZip-at R xs ys k d e h.1 (omega arith)
