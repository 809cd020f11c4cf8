use Rattle.std.proofs.Common.{ℕ, ℤ, ◌≡◌, ◌+◌, Bool, cond, ◌&&◌, ◌||◌, List, [], ◌∷◌, ◌++◌, map, take, refl, sym, ap, subst, ◌∙◌, add-one}
use Rattle.std.specs.Prelude.{slice_get, Some}
use Rattle.std.specs.List.{list_all, list_any}
use Rattle.std.specs.Ordering.{int_eq}
use Rattle.std.specs.Cmp.Lexicographic.{pointwise}
use Rattle.std.proofs.Math.Seq.{take-suc}
use Rattle.std.proofs.lemmas.List.{map-append}
use Rattle.std.proofs.lemmas.Option.{slice_get_within, get_or_from_slice_get}
use Rattle.scan_types.specs.declared.offer.Offer.{Offer}
use Rattle.scan_types.specs.declared.outcome.Outcome.{Outcome}
use Rattle.settlement_definitions.specs.Gain.{gain}
use Rattle.settle_classes.specs.declared.row.Row.{Row}
use Rattle.settlement_definitions.specs.StandIns.{is_final, stand_ins}
use Rattle.settlement_definitions.specs.Classes.{same_bool, settle_alike, distinct_by}
use Rattle.settle_classes.specs.Rows.{parts_of, settlement_of, same_settlement}
use Rattle.settlement_laws.proofs.Alike.{settle_alike-trans}
use Rattle.settlement_laws.proofs.Distinct.{distinct_by-push}

list_any-map : {X Y : Type 0} (test : Y → Bool) (f : X → Y) (xs : List X) → list_any test (map f xs) ≡ list_any (λ x. test (f x)) xs
list_any-map test f [] = refl
list_any-map test f (x ∷ xs) = ap (λ t. test (f x) || t) (list_any-map test f xs)

list_any-same : {X : Type 0} (p q : X → Bool) → ((x : X) → p x ≡ q x) → (xs : List X) → list_any p xs ≡ list_any q xs
list_any-same p q same [] = refl
list_any-same p q same (x ∷ xs) = ap (λ t. t || list_any p xs) (same x) ∙ ap (λ t. q x || t) (list_any-same p q same xs)

pointwise-both : {X : Type 0} (f g : X → ℤ) (xs : List X) → pointwise int_eq (map f xs) (map g xs) ≡ list_all (λ x. int_eq (f x) (g x)) xs
pointwise-both f g [] = refl
pointwise-both f g (x ∷ xs) = ap (λ t. int_eq (f x) (g x) && t) (pointwise-both f g xs)

-- two outcomes settle alike where their settlements are the same
same_settlement-of : (offers : List Offer) (y x : Outcome) → same_settlement (settlement_of offers y) (settlement_of offers x) ≡ settle_alike offers y x
unfolding settle_alike
same_settlement-of offers y x = ap (λ t. same_bool (is_final y) (is_final x) && t) (pointwise-both (λ offer. gain offer y) (λ offer. gain offer x) offers)

-- a row is found exactly where its outcome has its like
pub found_by_row : (offers : List Offer) (rows : List Row) (outcomes : List Outcome) (row : Row) (x : Outcome) → map parts_of rows ≡ map (settlement_of offers) outcomes → parts_of row ≡ settlement_of offers x → list_any (λ y. same_settlement (parts_of y) (parts_of row)) rows ≡ list_any (λ y. settle_alike offers y x) outcomes
found_by_row offers rows outcomes row x same is =
    sym (list_any-map (λ s. same_settlement s (parts_of row)) parts_of rows) ∙ ap (list_any (λ s. same_settlement s (parts_of row))) same ∙ list_any-map (λ s. same_settlement s (parts_of row)) (settlement_of offers) outcomes ∙ ap (λ p. list_any (λ y. same_settlement (settlement_of offers y) p) outcomes) is ∙ list_any-same (λ y. same_settlement (settlement_of offers y) (settlement_of offers x)) (λ y. settle_alike offers y x) (λ y. same_settlement-of offers y x) outcomes

take-stand_ins : (k : ℕ) (x : Outcome) → slice_get stand_ins k ≡ Some x → take (k + 1) stand_ins ≡ take k stand_ins ++ x ∷ []
take-stand_ins k x at =
    rw add-one (take-suc stand_ins k x (slice_get_within stand_ins k x at) ∙ ap (λ y. take k stand_ins ++ y ∷ []) (get_or_from_slice_get stand_ins k x x at))

-- the classes among one stand-in more
pub kept_more : (offers : List Offer) (outcomes : List Outcome) (k : ℕ) (x : Outcome) (b : Bool) → slice_get stand_ins k ≡ Some x → outcomes ≡ distinct_by (settle_alike offers) (take k stand_ins) → list_any (λ y. settle_alike offers y x) outcomes ≡ b → cond b outcomes (outcomes ++ x ∷ []) ≡ distinct_by (settle_alike offers) (take (k + 1) stand_ins)
kept_more offers outcomes k x b at is found =
    let same = settle_alike offers in
    let kept = distinct_by same (take k stand_ins) in
    let push = distinct_by-push same (settle_alike-trans offers) (take k stand_ins) x in
    let test : list_any (λ y. same y x) kept ≡ b = subst (λ l. list_any (λ y. same y x) l ≡ b) is found in
    ap (λ l. cond b l (l ++ x ∷ [])) is ∙ sym (ap (λ l. distinct_by same l) (take-stand_ins k x at) ∙ push ∙ ap (λ t. cond t kept (kept ++ x ∷ [])) test)

-- the rows of one outcome more
pub rows_more : (offers : List Offer) (rows : List Row) (outcomes : List Outcome) (row : Row) (x : Outcome) → map parts_of rows ≡ map (settlement_of offers) outcomes → parts_of row ≡ settlement_of offers x → map parts_of (rows ++ row ∷ []) ≡ map (settlement_of offers) (outcomes ++ x ∷ [])
rows_more offers rows outcomes row x same is =
    map-append parts_of rows (row ∷ []) ∙ ap (λ l. l ++ parts_of row ∷ []) same ∙ ap (λ p. map (settlement_of offers) outcomes ++ p ∷ []) is ∙ sym (map-append (settlement_of offers) outcomes (x ∷ []))
