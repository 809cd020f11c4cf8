-- A pinned sheet that is read in parts, while entries are added.
use Rattle.std.specs.Prelude.{ℕ, ◌+◌, ◌≤◌, ◌++◌, List, [], ◌∷◌, length, take, Option}
use Rattle.scan_types.specs.declared.rule.VoidRule.{VoidRule}
use Rattle.scan_types.specs.declared.offer.Offer.{Offer}
use Rattle.board_definitions.specs.declared.event.Entry.{Entry}
use Rattle.board_definitions.specs.declared.pin.Pin.{Pin}
use Rattle.board_definitions.specs.Sheets.{sheet}
use Rattle.quote_board.specs.Answers.{IsCopied}

-- one read: the entries added until then, what stood in its places before and after, and how many offers were copied
pub record PartRead : Type 0 where
  pub later : List Entry
  pub old : List Offer
  pub new : List Offer
  pub count : ℕ

-- the sheet of a pin is read part behind part, from a place on to its end
abbrev pub AreParts : List (Option VoidRule) → List Entry → Pin → ℕ → List PartRead → Type 0
AreParts rules history pin from [] = length (sheet rules history pin.version pin.match_name) ≤ from
AreParts rules history pin from (part ∷ parts) =
    IsCopied (sheet rules (history ++ part.later) pin.version pin.match_name) from part.old part.new part.count × AreParts rules history pin (from + part.count) parts

-- the offers of the parts
abbrev pub offers_read : List PartRead → List Offer
offers_read [] = []
offers_read (part ∷ parts) = take part.count part.new ++ offers_read parts
