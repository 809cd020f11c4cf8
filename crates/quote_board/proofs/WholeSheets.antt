-- Parts read one behind the other are the whole sheet.
use Rattle.std.proofs.Common.{ℕ, ◌≡◌, ◌+◌, ◌≤◌, List, [], ◌∷◌, ◌++◌, length, take, drop, sym, ap, ◌∙◌, arith, subst, zero, suc}
use Rattle.std.specs.Prelude.{Option}
use Rattle.std.proofs.Math.Seq.{drop-nil, take-append_seam}
use Rattle.std.proofs.Math.ListN.{drop_of_length-le}
use Rattle.std.proofs.lemmas.List.{take-append-drop, length-take-le, length-drop}
use Rattle.scan_types.specs.declared.rule.VoidRule.{VoidRule}
use Rattle.scan_types.specs.declared.offer.Offer.{Offer}
use Rattle.board_definitions.specs.declared.event.Entry.{Entry}
use Rattle.board_definitions.specs.declared.pin.Pin.{Pin}
use Rattle.board_definitions.specs.Sheets.{sheet}
use Rattle.board_definitions.specs.Pins.{IsLive}
use Rattle.board_definitions.proofs.Live.{sheet_stays}
use Rattle.quote_board.specs.Answers.{IsCopied}
use Rattle.quote_board.specs.Parts.{PartRead, AreParts, offers_read}
use Rattle.quote_board.proofs.Holds.{version_within}

drop_more : {X : Type 0} (xs : List X) (a b : ℕ) → drop b (drop a xs) ≡ drop (a + b) xs
drop_more [] a b = ap (drop b) (drop-nil a) ∙ drop-nil b ∙ sym (drop-nil (a + b))
drop_more (x ∷ xs) zero b = let same : b ≡ 0 + b = omega arith in ap (λ k. drop k (x ∷ xs)) same
drop_more (x ∷ xs) (suc a) b = let next : suc (a + b) ≡ suc a + b = omega arith in drop_more xs a b ∙ ap (λ k. drop k (x ∷ xs)) next

-- the front of what was copied
front : (offers : List Offer) (from : ℕ) (old new : List Offer) (count : ℕ) → IsCopied offers from old new count → take count new ≡ take count (drop from offers)
front offers from old new count copied =
    let is = copied.count_is in
    let few : count ≤ length (drop from offers) = omega (arith, is, length-drop from offers) in
    let long : length (take count (drop from offers)) ≡ count = length-take-le count (drop from offers) few in
    ap (take count) copied.copied
    ∙ ap (λ k. take k (take count (drop from offers) ++ drop count old)) (sym long)
    ∙ take-append_seam (take count (drop from offers)) (drop count old)

rest_read : (rules : List (Option VoidRule)) (history : List Entry) (pin : Pin) (from : ℕ) (parts : List PartRead) → pin.version ≤ length history →
    AreParts rules history pin from parts → offers_read parts ≡ drop from (sheet rules history pin.version pin.match_name)
rest_read rules history pin from [] within all = sym (drop_of_length-le (sheet rules history pin.version pin.match_name) all)
rest_read rules history pin from (part ∷ parts) within both =
    let offers = sheet rules history pin.version pin.match_name in
    let P : List Offer → Type 0 = λ xs. IsCopied xs from part.old part.new part.count in
    let copied : IsCopied offers from part.old part.new part.count = subst P (sheet_stays rules history part.later pin.version pin.match_name within) both.0 in
    let first : take part.count part.new ≡ take part.count (drop from offers) = front offers from part.old part.new part.count copied in
    let rest : offers_read parts ≡ drop part.count (drop from offers) = rest_read rules history pin (from + part.count) parts within both.1 ∙ sym (drop_more offers from part.count) in
    ap (λ xs. xs ++ offers_read parts) first ∙ ap (λ xs. take part.count (drop from offers) ++ xs) rest ∙ take-append-drop part.count (drop from offers)

pub whole_read : (rules : List (Option VoidRule)) (history : List Entry) (pin : Pin) (parts : List PartRead) → IsLive history pin →
    AreParts rules history pin 0 parts → offers_read parts ≡ sheet rules history pin.version pin.match_name
whole_read rules history pin parts live read = let within = version_within history pin live in rest_read rules history pin 0 parts (omega (arith, within)) read
