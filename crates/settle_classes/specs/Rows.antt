use Rattle.std.specs.Prelude.{ℤ, Bool, ◌&&◌, List, map}
use Rattle.std.specs.Ordering.{int_eq}
use Rattle.std.specs.Cmp.Lexicographic.{pointwise}
use Rattle.scan_types.specs.declared.offer.Offer.{Offer}
use Rattle.scan_types.specs.declared.outcome.Outcome.{Outcome}
use Rattle.settlement_definitions.specs.Gain.{gain}
use Rattle.settle_classes.specs.declared.row.Row.{Row}
use Rattle.settlement_definitions.specs.StandIns.{is_final}
use Rattle.settlement_definitions.specs.Classes.{same_bool}

-- what a row holds
abbrev pub parts_of : Row → Bool × List ℤ
parts_of row = (row.is_final, row.gains.items)

-- how an outcome settles a sheet: its kind, and the gain of each offer
abbrev pub settlement_of : List Offer → Outcome → Bool × List ℤ
settlement_of offers x = (is_final x, map (λ offer. gain offer x) offers)

-- whether two settlements are the same
abbrev pub same_settlement : Bool × List ℤ → Bool × List ℤ → Bool
same_settlement s t = same_bool s.0 t.0 && pointwise int_eq s.1 t.1
