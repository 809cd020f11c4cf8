-- Live pins, and sheets at versions, after more entries.
use Rattle.std.proofs.Common.{ℕ, ◌≡◌, ◌≤◌, ◌<◌, false, List, [], ◌∷◌, ◌++◌, length, take, drop, refl, ap, ◌∙◌, Some, arith, zero, suc}
use Rattle.std.specs.Prelude.{Option, slice_get}
use Rattle.std.specs.List.{list_any}
use Rattle.std.proofs.lemmas.List.{take-append-le, drop-append-le}
use Rattle.std.proofs.lemmas.List.Folds.{list_any-append}
use Rattle.std.proofs.lemmas.Bool.{or_from}
use Rattle.std.proofs.lemmas.Option.{slice_get_within}
use Rattle.scan_types.specs.declared.rule.VoidRule.{VoidRule}
use Rattle.board_definitions.specs.declared.event.Entry.{Entry}
use Rattle.board_definitions.specs.declared.pin.Pin.{Pin}
use Rattle.board_definitions.specs.Entries.{closes}
use Rattle.board_definitions.specs.Sheets.{sheet, standing_sheet}
use Rattle.board_definitions.specs.Pins.{IsLive}

pub slice_get-before : {X : Type 0} (xs ys : List X) (k : ℕ) → k < length xs → slice_get (xs ++ ys) k ≡ slice_get xs k
slice_get-before [] ys k h = absurd (omega arith)
slice_get-before (x ∷ xs) ys zero h = refl
slice_get-before (x ∷ xs) ys (suc k) h = slice_get-before xs ys k (omega arith)

pub slice_get-last : {X : Type 0} (xs : List X) (y : X) → slice_get (xs ++ y ∷ []) (length xs) ≡ Some y
slice_get-last [] y = refl
slice_get-last (x ∷ xs) y = slice_get-last xs y

-- the first elements and one more
pub take_next : {X : Type 0} (xs : List X) (n : ℕ) → n < length xs → (x : X) × (slice_get xs n ≡ Some x) × (take (suc n) xs ≡ take n xs ++ x ∷ [])
take_next [] n h = absurd (omega arith)
take_next (x ∷ xs) zero h = (x, refl, refl)
take_next (x ∷ xs) (suc n) h = let rest = take_next xs n (omega (arith, h)) in (rest.0, rest.1, ap (λ ys. x ∷ ys) rest.2)

pub sheet_stays : (rules : List (Option VoidRule)) (history more : List Entry) (version : ℕ) (m : List ℕ) →
    version ≤ length history → sheet rules (history ++ more) version m ≡ sheet rules history version m
sheet_stays rules history more version m h = ap (λ (xs : List Entry). standing_sheet rules xs m) (take-append-le version history more h)

pub live_stays : (history more : List Entry) (pin : Pin) → IsLive history pin →
    list_any (λ (entry : Entry). closes pin.version entry.event) more ≡ false → IsLive (history ++ more) pin
live_stays history more pin live none =
    let within : pin.version < length history = slice_get_within history pin.version _ live.pinned in
    record {
      pinned = slice_get-before history more pin.version within ∙ live.pinned;
      open_ = ap (list_any (λ (entry : Entry). closes pin.version entry.event)) (drop-append-le pin.version history more (omega (arith, within)))
          ∙ list_any-append (λ (entry : Entry). closes pin.version entry.event) (drop pin.version history) more
          ∙ or_from _ _ live.open_ none;
    }
