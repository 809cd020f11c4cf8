use Rattle.std.proofs.Common.{◌≡◌, ℕ, map, take, filter}
use Rattle.std.specs.List.{enumerate_from}
use Rattle.scan_types.specs.declared.offer.Offer.{Offer}
use Rattle.coherence_lp.proofs.CoarseSheets.{stays_on, lowered_one}
use Rattle.coherence_lp.proofs.coarse.coarse_down.Given as goal

abbrev pub invariant-loop-i : goal.invariant-loop-i
invariant-loop-i l =
    let kept = filter stays_on (take l.i (enumerate_from 0 l.offers)) in
    record {
      sheet : l.lowered ≡ map lowered_one kept;
      from : l.numbers.items ≡ map (λ (e : ℕ × Offer). e.0) kept;
    }
