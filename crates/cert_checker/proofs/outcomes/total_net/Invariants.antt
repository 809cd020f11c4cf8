use Rattle.std.proofs.Common.{◌≡◌, ◌*◌, ◌^◌, pos, neg_ℤ, ◌≤ℤ◌, take}
use Rattle.finding_definitions.specs.Arbitrage.{total_net as total_of}
use Rattle.cert_checker.proofs.outcomes.total_net.Given as goal

abbrev pub invariant-loop-i : goal.invariant-loop-i
invariant-loop-i l =
    (l.won ≡ total_of (take l.i l.offers) (take l.i l.stakes) l.outcome) × (neg_ℤ (pos (l.i * 2 ^ 50)) ≤ℤ l.won) × (l.won ≤ℤ pos (l.i * 2 ^ 50))
