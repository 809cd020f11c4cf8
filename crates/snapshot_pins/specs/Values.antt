-- The values of a cell, from the oldest on, and what it holds at a version.
use Rattle.std.specs.Prelude.{ℕ, ◌≤◌, ◌&&◌, Bool, true, cond, List, [], ◌∷◌, leb, ltb, find, reverse, Option, IfSome, option_and_then}
use Rattle.std.specs.List.{list_any, AllByRecursion}
use Rattle.scan_types.specs.declared.offer.Offer.{Offer}
use Rattle.board_definitions.proofs.Placed.{IsPlaced}
use Rattle.snapshot_pins.specs.declared.value.CellValue.{CellValue}

-- the last value whose version is at most this one
abbrev pub value_at : List CellValue → ℕ → Option CellValue
value_at values version = find (λ value. leb value.version version) (reverse values)

-- the offer that a cell holds at a version: none before its first value, and none once it is removed
abbrev pub offer_at : List CellValue → ℕ → Option Offer
offer_at values version = option_and_then (λ value. value.offer) (value_at values version)

-- the versions do not fall
abbrev pub DoNotFall : List CellValue → Type 0
DoNotFall [] = Unit {0}
DoNotFall (value ∷ later) = AllByRecursion (λ next. value.version ≤ next.version) later × DoNotFall later

-- the values of a cell: their versions do not fall and are at most the newest one, and their offers are of the cell's feed and of its
-- selection's number
pub record IsCell (newest feed number : ℕ) (values : List CellValue) : Type 0 where
  pub rising : DoNotFall values
  pub upto : AllByRecursion (λ value. value.version ≤ newest) values
  pub placed : AllByRecursion (λ value. IfSome value.offer (IsPlaced feed number)) values

-- a live version is at least the first of these and below the second
abbrev pub has_live : List ℕ → ℕ → ℕ → Bool
has_live live from below = list_any (λ version. leb from version && ltb version below) live

-- the value is needed: it is the newest, or a live version is at least its own and below the next one's
abbrev pub is_kept : List ℕ → CellValue → List CellValue → Bool
is_kept live value [] = true
is_kept live value (next ∷ later) = has_live live value.version next.version

-- the values that the newest state or a live version needs
abbrev pub kept : List ℕ → List CellValue → List CellValue
kept live [] = []
kept live (value ∷ later) = cond (is_kept live value later) (value ∷ kept live later) (kept live later)
