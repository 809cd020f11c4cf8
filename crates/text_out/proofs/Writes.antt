-- Texts that are gathered one after another are one text that is gathered, and then written.
use Rattle.std.proofs.Common.{ℕ, ◌≡◌, ◌+◌, ◌<◌, ◌≤◌, List, [], ◌∷◌, ◌++◌, length, get_or, take, drop, refl, sym, ap, subst, ◌∙◌, append_assoc, arith, add-one}
use Rattle.std.specs.Prelude.{Option, Result, Ok, Err, IsErr, decimal}
use Rattle.std.specs.List.{flat_map, join_with_byte}
use Rattle.std.specs.Io.KnownBytes.{Appends}
use Rattle.std.proofs.KnownBytes.{Appends-trans, Appends-nil}
use Rattle.std.proofs.lemmas.List.{take-append-le, length-append, append-nil, take_all, take-append-drop}
use Rattle.std.proofs.lemmas.Grind.{flat_map-append}
use Rattle.std.proofs.Math.Seq.{take-append-add, take-suc}
use Rattle.desk_io.specs.Sink.{AppendsPrefix}
use Rattle.text_out.specs.Written.{Wrote, Gathered, spaced}

-- a front of the first of two texts is a front of both
prefix_first : (a b : Option (List ℕ)) (x y : List ℕ) → AppendsPrefix a b x → AppendsPrefix a b (x ++ y)
prefix_first a b x y (count, less, appended) =
    let within : count ≤ length x = omega arith in
    (count, omega (arith, length-append x y), subst (Appends a b) (sym (take-append-le count x y within)) appended)

-- all of the first text, and a front of the second
prefix_second : (a b c : Option (List ℕ)) (x y : List ℕ) → Appends a b x → AppendsPrefix b c y → AppendsPrefix a c (x ++ y)
prefix_second a b c x y first (count, less, appended) =
    (length x + count, omega (arith, length-append x y), subst (Appends a c) (sym (take-append-add x y count)) (Appends-trans a b c x (take count y) first appended))

pub same_text : {E : Type 0} {a b : Option (List ℕ)} {f g : ℕ} {h k x : List ℕ} {r : Result Unit E} → Gathered a b f g h k x r → (y : List ℕ) → x ≡ y → Gathered a b f g h k y r
same_text {E = E} {a = a} {b = b} {f = f} {g = g} {h = h} {k = k} {r = r} w y e = subst (λ (t : List ℕ). Gathered a b f g h k t r) e w

-- the fronts of two texts, and what is held behind them
fronts : (p q h k l x y : List ℕ) → p ++ k ≡ h ++ x → q ++ l ≡ k ++ y → (p ++ q) ++ l ≡ h ++ (x ++ y)
fronts p q h k l x y first second =
    append_assoc p q l ∙ ap (λ (r : List ℕ). p ++ r) second ∙ sym (append_assoc p k y) ∙ ap (λ (r : List ℕ). r ++ y) first ∙ append_assoc h x y

-- a text, and then another, in whole or cut short
pub and_then : {E : Type 0} {a b c : Option (List ℕ)} {f g h : ℕ} {k l m x y : List ℕ} {u : Unit {0}} {r : Result Unit E} → Gathered {E = E} a b f g k l x (Ok u) → Gathered b c g h l m y r → Gathered a c f h k m (x ++ y) r
and_then {a = a} {b = b} {c = c} {k = k} {l = l} {m = m} {x = x} {y = y} {r = Ok v} p q =
    let (first, first_is, first_written) = p.gathered in
    let (second, second_is, second_written) = q.gathered in
    record { gathered = (first ++ second, fronts first second k l m x y first_is second_is, Appends-trans a b c first second first_written second_written); cut_short = tt; failed = tt; no_fault = q.no_fault ∙ p.no_fault; faults_kept = omega (arith, p.faults_kept, q.faults_kept) }
and_then {a = a} {b = b} {c = c} {k = k} {l = l} {x = x} {y = y} {r = Err e} p q =
    let (first, first_is, first_written) = p.gathered in
    let whole : first ++ (l ++ y) ≡ k ++ (x ++ y) = sym (append_assoc first l y) ∙ ap (λ (r : List ℕ). r ++ y) first_is ∙ append_assoc k x y in
    record { gathered = tt; cut_short = subst (AppendsPrefix a c) whole (prefix_second a b c first (l ++ y) first_written q.cut_short); failed = omega (arith, p.faults_kept, q.failed); no_fault = tt; faults_kept = omega (arith, p.faults_kept, q.faults_kept) }

-- all that was held, and a text behind it, were written, and nothing is held
pub all_out : {E : Type 0} {a b : Option (List ℕ)} {f g : ℕ} {k t x : List ℕ} {u : Unit {0}} → Wrote {E = E} a b f g t (Ok u) → t ≡ k ++ x → Gathered {E = E} a b f g k [] x (Ok u)
all_out {t = t} p e = record { gathered = (t, append-nil t ∙ e, p.written); cut_short = tt; failed = tt; no_fault = p.no_fault; faults_kept = p.faults_kept }

-- a text that was cut short, and another behind it
pub cut : {E : Type 0} {a b : Option (List ℕ)} {f g : ℕ} {k l x : List ℕ} {e : E} → Gathered {E = E} a b f g k l x (Err e) → (y : List ℕ) (r : Result Unit E) → IsErr r → Gathered a b f g k l (x ++ y) r
cut p y (Ok u) h = absurd cc
cut {a = a} {b = b} {k = k} {x = x} p y (Err d) h =
    record { gathered = tt; cut_short = subst (AppendsPrefix a b) (append_assoc k x y) (prefix_first a b (k ++ x) y p.cut_short); failed = p.failed; no_fault = tt; faults_kept = p.faults_kept }

pub nothing : {E : Type 0} (a : Option (List ℕ)) (f : ℕ) (k : List ℕ) (u : Unit {0}) → Gathered {E = E} a a f f k k [] (Ok u)
nothing a f k u = record { gathered = ([], sym (append-nil k), Appends-nil a); cut_short = tt; failed = tt; no_fault = refl; faults_kept = omega arith }

pub from_nothing : {E : Type 0} {a b : Option (List ℕ)} {f g : ℕ} {h k x : List ℕ} {r : Result Unit E} → Gathered a b f g h k x r → h ≡ [] → Gathered a b f g [] k x r
from_nothing {E = E} {a = a} {b = b} {f = f} {g = g} {k = k} {x = x} {r = r} w e = subst (λ (t : List ℕ). Gathered a b f g t k x r) e w

-- a text that was gathered from nothing on, and then what is held
pub and_the_rest : {E : Type 0} {a b c : Option (List ℕ)} {f g h : ℕ} {l x : List ℕ} {u : Unit {0}} {r : Result Unit E} → Gathered {E = E} a b f g [] l x (Ok u) → Wrote b c g h l r → Wrote a c f h x r
and_the_rest {a = a} {b = b} {c = c} {l = l} {r = Ok v} p q =
    let (front, is_all, appended) = p.gathered in
    record { written = subst (Appends a c) is_all (Appends-trans a b c front l appended q.written); cut_short = tt; failed = tt; no_fault = q.no_fault ∙ p.no_fault; faults_kept = omega (arith, p.faults_kept, q.faults_kept) }
and_the_rest {a = a} {b = b} {c = c} {l = l} {r = Err e} p q =
    let (front, is_all, appended) = p.gathered in
    record { written = tt; cut_short = subst (AppendsPrefix a c) is_all (prefix_second a b c front l appended q.cut_short); failed = omega (arith, p.faults_kept, q.failed); no_fault = tt; faults_kept = omega (arith, p.faults_kept, q.faults_kept) }

-- a text that was gathered from nothing on was cut short
pub gathered_short : {E : Type 0} {a b : Option (List ℕ)} {f g : ℕ} {l x : List ℕ} {e : E} → Gathered {E = E} a b f g [] l x (Err e) → (r : Result Unit E) → IsErr r → Wrote a b f g x r
gathered_short p (Ok u) h = absurd cc
gathered_short p (Err d) h = record { written = tt; cut_short = p.cut_short; failed = p.failed; no_fault = tt; faults_kept = p.faults_kept }

-- the fields after the first each follow a space
pub join_spaced : (word : List ℕ) (fields : List (List ℕ)) → join_with_byte 32 (word ∷ fields) ≡ word ++ spaced fields
join_spaced word [] = sym (append-nil word)
join_spaced word (field ∷ fields) = ap (λ (r : List ℕ). word ++ 32 ∷ r) (join_spaced field fields)

pub spaced-append : (a b : List (List ℕ)) → spaced (a ++ b) ≡ spaced a ++ spaced b
spaced-append a b = flat_map-append (λ (field : List ℕ). 32 ∷ field) a b

pub spaced-flat_map : {X : Type 0} (f : X → List (List ℕ)) (xs : List X) → spaced (flat_map f xs) ≡ flat_map (λ x. spaced (f x)) xs
spaced-flat_map f [] = refl
spaced-flat_map f (x ∷ xs) = spaced-append (f x) (flat_map f xs) ∙ ap (λ (r : List ℕ). spaced (f x) ++ r) (spaced-flat_map f xs)

pub flat_map_same : {X : Type 0} (f g : X → List ℕ) (xs : List X) → ((x : X) → f x ≡ g x) → flat_map f xs ≡ flat_map g xs
flat_map_same f g [] e = refl
flat_map_same f g (x ∷ xs) e = ap (λ (r : List ℕ). r ++ flat_map f xs) (e x) ∙ ap (λ (r : List ℕ). g x ++ r) (flat_map_same f g xs e)

-- one more element
pub flat_map_take : {X : Type 0} (f : X → List ℕ) (xs : List X) (i : ℕ) (d : X) → i < length xs → flat_map f (take i xs) ++ f (get_or xs i d) ≡ flat_map f (take (i + 1) xs)
flat_map_take f xs i d h =
    sym (ap (flat_map f) (rw add-one (take-suc xs i d h)) ∙ flat_map-append f (take i xs) (get_or xs i d ∷ [])
    ∙ ap (λ (r : List ℕ). flat_map f (take i xs) ++ r) (append-nil (f (get_or xs i d))))

-- the rest of the elements
pub flat_map_rest : {X : Type 0} (f : X → List ℕ) (xs : List X) (i : ℕ) (d : X) → i < length xs → (flat_map f (take i xs) ++ f (get_or xs i d)) ++ flat_map f (drop (i + 1) xs) ≡ flat_map f xs
flat_map_rest f xs i d h =
    ap (λ (r : List ℕ). r ++ flat_map f (drop (i + 1) xs)) (flat_map_take f xs i d h)
    ∙ sym (flat_map-append f (take (i + 1) xs) (drop (i + 1) xs)) ∙ ap (flat_map f) (take-append-drop (i + 1) xs)

pub flat_map_all : {X : Type 0} (f : X → List ℕ) (xs : List X) (i : ℕ) → length xs ≤ i → flat_map f (take i xs) ≡ flat_map f xs
flat_map_all f xs i h = ap (flat_map f) (take_all i xs h)

-- a word and two numbers, as fields
pub pair_shape : (word : List ℕ) (m n : ℕ) → (32 ∷ word) ++ ((32 ∷ decimal m) ++ (32 ∷ decimal n)) ≡ spaced (word ∷ decimal m ∷ decimal n ∷ [])
pair_shape word m n = ap (λ (r : List ℕ). (32 ∷ word) ++ ((32 ∷ decimal m) ++ (32 ∷ r))) (sym (append-nil (decimal n)))

-- a word and a number, as fields
pub one_shape : (word : List ℕ) (n : ℕ) → (32 ∷ word) ++ (32 ∷ decimal n) ≡ spaced (word ∷ decimal n ∷ [])
one_shape word n = ap (λ (r : List ℕ). (32 ∷ word) ++ (32 ∷ r)) (sym (append-nil (decimal n)))

-- two numbers, as fields
pub numbers_shape : (m n : ℕ) → (32 ∷ decimal m) ++ (32 ∷ decimal n) ≡ spaced (decimal m ∷ decimal n ∷ [])
numbers_shape m n = ap (λ (r : List ℕ). (32 ∷ decimal m) ++ (32 ∷ r)) (sym (append-nil (decimal n)))

-- a list with its length before it, as fields
pub counted_shape : {X : Type 0} (f : X → List (List ℕ)) (xs : List X) (g : X → List ℕ) → ((x : X) → g x ≡ spaced (f x)) → (32 ∷ decimal (length xs)) ++ flat_map g xs ≡ spaced (decimal (length xs) ∷ flat_map f xs)
counted_shape f xs g e = ap (λ (r : List ℕ). (32 ∷ decimal (length xs)) ++ r) (flat_map_same g (λ x. spaced (f x)) xs e ∙ sym (spaced-flat_map f xs))

-- a number as a field
pub number_shape : (n : ℕ) → 32 ∷ decimal n ≡ spaced (decimal n ∷ [])
number_shape n = ap (λ (r : List ℕ). 32 ∷ r) (sym (append-nil (decimal n)))
