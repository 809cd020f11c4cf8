use Rattle.std.proofs.Common.{◌≡◌, ◌*◌, ◌^◌, pos, ◌≤ℤ◌, take}
use Rattle.finding_definitions.specs.Verdicts.{reach as reach_of}
use Rattle.cert_checker.proofs.means.reach.Given as goal

abbrev pub invariant-loop-offer : goal.invariant-loop-offer
invariant-loop-offer l =
    (l.sum ≡ reach_of (take l.offer-index l.offers) l.entries) × (pos 0 ≤ℤ l.sum) × (l.sum ≤ℤ pos (l.offer-index * 2 ^ 118))
