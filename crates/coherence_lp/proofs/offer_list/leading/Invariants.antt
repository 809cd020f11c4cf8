use Rattle.std.proofs.Common.{◌≡◌, map, take, filter, ℕ}
use Rattle.std.specs.List.{enumerate_from}
use Rattle.scan_types.specs.declared.offer.Offer.{Offer}
use Rattle.judging_definitions.specs.Columns.{is_undominated}
use Rattle.coherence_lp.proofs.offer_list.leading.Given as goal

abbrev pub invariant-loop-i : goal.invariant-loop-i
invariant-loop-i l =
    let all = enumerate_from 0 l.offers in
    l.numbers.items ≡ map (λ (offer : ℕ × Offer). offer.0) (filter (is_undominated l.outcomes all) (take l.i all))
