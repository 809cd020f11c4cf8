-- A loop that writes a row entry by entry: after `i` entries the row is the first `i` of the new one, and the rest of the old.
use Rattle.std.proofs.Common.{◌≡◌, ℕ, ◌+◌, ◌<◌, ◌≤◌, List, [], ◌∷◌, ◌++◌, length, take, drop, set, ℤ, pos, sym, ap, ap₂, ◌∙◌, arith, append_assoc, append-nil}
use Rattle.std.proofs.lemmas.List.{drop_more, drop_all, drop_at, take_all, take_at, take_more, set_at, get_or_at, length-take-le}
use Rattle.row_definitions.specs.Rows.{entry}

abbrev pub written : List ℤ → List ℤ → ℕ → List ℤ
written new old i = take i new ++ drop i old

front : (new old : List ℤ) (i : ℕ) → length new ≡ length old → i < length old → length (take i new) ≡ i
front new old i e h = length-take-le i new (omega arith)

pub entry-written : (new old : List ℤ) (i : ℕ) → length new ≡ length old → i < length old → entry (written new old i) i ≡ entry old i
entry-written new old i e h =
    ap (λ rest. entry (take i new ++ rest) i) (drop_more old i (pos 0) h)
    ∙ get_or_at (take i new) (entry old i) (drop (i + 1) old) (pos 0) i (front new old i e h)

pub set-written : (new old : List ℤ) (i : ℕ) (y : ℤ) → length new ≡ length old → i < length old → y ≡ entry new i → set (written new old i) i y ≡ written new old (i + 1)
set-written new old i y e h v =
    ap (λ rest. set (take i new ++ rest) i y) (drop_more old i (pos 0) h)
    ∙ set_at (take i new) (entry old i) (drop (i + 1) old) y i (front new old i e h)
    ∙ ap (λ z. take i new ++ z ∷ drop (i + 1) old) v
    ∙ sym (append_assoc (take i new) (entry new i ∷ []) (drop (i + 1) old))
    ∙ ap (λ p. p ++ drop (i + 1) old) (sym (take_more new i (pos 0) (omega arith)))

-- an entry that the new row has too is passed over
pub kept-written : (new old : List ℤ) (i : ℕ) → length new ≡ length old → i < length old → entry old i ≡ entry new i → written new old i ≡ written new old (i + 1)
kept-written new old i e h v =
    ap (λ rest. take i new ++ rest) (drop_more old i (pos 0) h)
    ∙ ap (λ z. take i new ++ z ∷ drop (i + 1) old) v
    ∙ sym (append_assoc (take i new) (entry new i ∷ []) (drop (i + 1) old))
    ∙ ap (λ p. p ++ drop (i + 1) old) (sym (take_more new i (pos 0) (omega arith)))

-- the two parts
pub take-written : (new old : List ℤ) (i : ℕ) → length new ≡ length old → i < length old → take i (written new old i) ≡ take i new
take-written new old i e h = take_at (take i new) (drop i old) i (front new old i e h)

pub drop-written : (new old : List ℤ) (i : ℕ) → length new ≡ length old → i < length old → drop i (written new old i) ≡ drop i old
drop-written new old i e h = drop_at (take i new) (drop i old) i (front new old i e h)

pub written-all : (new old : List ℤ) (i : ℕ) → length new ≡ length old → length old ≤ i → written new old i ≡ new
written-all new old i e h = ap₂ (λ p q. p ++ q) (take_all i new (omega arith)) (drop_all i old h) ∙ append-nil new
