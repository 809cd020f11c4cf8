-- The values that are kept of a cell.
use Rattle.std.proofs.Common.{ℕ, ◌≡◌, ◌+◌, ◌≤◌, ◌<◌, Bool, true, false, cond, List, [], ◌∷◌, ◌++◌, length, take, drop, set, get_or, refl, sym, ap, ◌∙◌, Some, arith, zero, suc, append_assoc, ◌-◌, length-drop}
use Rattle.std.specs.Prelude.{slice_get}
use Rattle.std.proofs.lemmas.List.{take_all}
use Rattle.board_definitions.proofs.Placed.{some_injective}
use Rattle.snapshot_pins.specs.declared.value.CellValue.{CellValue}
use Rattle.snapshot_pins.specs.Values.{has_live, is_kept, kept}

-- the value behind is the next one
pub kept_before : (live : List ℕ) (value : CellValue) (later : List CellValue) (next : CellValue) → slice_get later 0 ≡ Some next →
    has_live live value.version next.version ≡ is_kept live value later
kept_before live value [] next is = absurd (cc is)
kept_before live value (x ∷ later) next is = ap (λ (y : CellValue). has_live live value.version y.version) (sym (some_injective x next is))

drop_suc : {X : Type 0} (xs : List X) (n : ℕ) → drop 1 (drop n xs) ≡ drop (suc n) xs
drop_suc [] zero = refl
drop_suc [] (suc n) = refl
drop_suc (x ∷ xs) zero = refl
drop_suc (x ∷ xs) (suc n) = drop_suc xs n

drop_more : {X : Type 0} (xs : List X) (n : ℕ) → drop 1 (drop n xs) ≡ drop (n + 1) xs
drop_more xs n = let next : suc n ≡ n + 1 = omega arith in drop_suc xs n ∙ ap (λ (k : ℕ). drop k xs) next

first_of : {X : Type 0} (xs : List X) (n : ℕ) (x : X) → n < length xs → get_or xs n x ≡ x → drop n xs ≡ x ∷ drop 1 (drop n xs)
first_of [] n x within is = absurd (omega (arith, within))
first_of {X} (y ∷ xs) zero x within is = ap (λ (z : X). z ∷ xs) is
first_of (y ∷ xs) (suc n) x within is = first_of xs n x (omega (arith, within)) is

drop_at : {X : Type 0} (xs : List X) (n : ℕ) (x : X) → n < length xs → get_or xs n x ≡ x → drop n xs ≡ x ∷ drop (n + 1) xs
drop_at {X} xs n x within is = first_of xs n x within is ∙ ap (λ (ys : List X). x ∷ ys) (drop_more xs n)

drop_set : {X : Type 0} (xs : List X) (k n : ℕ) (x : X) → k < n → drop n (set xs k x) ≡ drop n xs
drop_set [] k n x below = refl
drop_set (y ∷ xs) k zero x below = absurd (omega (arith, below))
drop_set (y ∷ xs) zero (suc n) x below = refl
drop_set (y ∷ xs) (suc k) (suc n) x below = drop_set xs k n x (omega (arith, below))

take_suc_set : {X : Type 0} (xs : List X) (k : ℕ) (x : X) → k < length xs → take (suc k) (set xs k x) ≡ take k xs ++ x ∷ []
take_suc_set [] k x within = absurd (omega (arith, within))
take_suc_set (y ∷ xs) zero x within = refl
take_suc_set {X} (y ∷ xs) (suc k) x within = ap (λ (zs : List X). y ∷ zs) (take_suc_set xs k x (omega (arith, within)))

take_set : {X : Type 0} (xs : List X) (k : ℕ) (x : X) → k < length xs → take (k + 1) (set xs k x) ≡ take k xs ++ x ∷ []
take_set xs k x within = let next : k + 1 ≡ suc k = omega arith in ap (λ (n : ℕ). take n (set xs k x)) next ∙ take_suc_set xs k x within

-- the rest of a slice from a place on
pub rest_of : {X : Type 0} (xs : List X) (n : ℕ) → take (length xs - n) (drop n xs) ≡ drop n xs
rest_of xs n = take_all (length xs - n) (drop n xs) (omega (arith, length-drop n xs))

-- one value more is looked at, and is needed
pub gather_more : (live : List ℕ) (old now : List CellValue) (count place : ℕ) (x : CellValue) → length now ≡ length old → count ≤ place → place < length now →
    drop place now ≡ drop place old → get_or now place x ≡ x → is_kept live x (drop (place + 1) now) ≡ true →
    take count now ++ kept live (drop place old) ≡ kept live old →
    take (count + 1) (set now count x) ++ kept live (drop (place + 1) old) ≡ kept live old
gather_more live old now count place x long within fits later is needed so_far =
    let here : drop place old ≡ x ∷ drop (place + 1) now = sym later ∙ drop_at now place x fits is in
    let rest : drop (place + 1) now ≡ drop (place + 1) old = sym (drop_more now place) ∙ ap (λ (ys : List CellValue). drop 1 ys) later ∙ drop_more old place in
    let step : kept live (drop place old) ≡ x ∷ kept live (drop (place + 1) old) =
    ap (kept live) here ∙ ap (λ (b : Bool). cond b (x ∷ kept live (drop (place + 1) now)) (kept live (drop (place + 1) now))) needed
    ∙ ap (λ (ys : List CellValue). x ∷ kept live ys) rest in
    ap (λ (ys : List CellValue). ys ++ kept live (drop (place + 1) old)) (take_set now count x (omega (arith, within, fits)))
    ∙ append_assoc (take count now) (x ∷ []) (kept live (drop (place + 1) old))
    ∙ ap (λ (ys : List CellValue). take count now ++ ys) (sym step) ∙ so_far

-- one value more is looked at, and is not needed
pub gather_less : (live : List ℕ) (old now : List CellValue) (count place : ℕ) (x : CellValue) → place < length now →
    drop place now ≡ drop place old → get_or now place x ≡ x → is_kept live x (drop (place + 1) now) ≡ false →
    take count now ++ kept live (drop place old) ≡ kept live old →
    take count now ++ kept live (drop (place + 1) old) ≡ kept live old
gather_less live old now count place x fits later is needed so_far =
    let here : drop place old ≡ x ∷ drop (place + 1) now = sym later ∙ drop_at now place x fits is in
    let rest : drop (place + 1) now ≡ drop (place + 1) old = sym (drop_more now place) ∙ ap (λ (ys : List CellValue). drop 1 ys) later ∙ drop_more old place in
    let step : kept live (drop place old) ≡ kept live (drop (place + 1) old) =
    ap (kept live) here ∙ ap (λ (b : Bool). cond b (x ∷ kept live (drop (place + 1) now)) (kept live (drop (place + 1) now))) needed ∙ ap (kept live) rest in
    ap (λ (ys : List CellValue). take count now ++ ys) (sym step) ∙ so_far

-- the values behind the place stay
pub later_more : (old now : List CellValue) (place : ℕ) → drop place now ≡ drop place old → drop (place + 1) now ≡ drop (place + 1) old
later_more old now place later = sym (drop_more now place) ∙ ap (λ (ys : List CellValue). drop 1 ys) later ∙ drop_more old place

pub later_set : (old now : List CellValue) (count place : ℕ) (x : CellValue) → count ≤ place → drop place now ≡ drop place old →
    drop (place + 1) (set now count x) ≡ drop (place + 1) old
later_set old now count place x within later = drop_set now count (place + 1) x (omega (arith, within)) ∙ later_more old now place later
