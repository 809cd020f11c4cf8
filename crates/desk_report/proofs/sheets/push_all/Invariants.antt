use Rattle.std.proofs.Common.{◌≡◌, ◌++◌, take}
use Rattle.desk_report.proofs.sheets.push_all.Given as goal

-- the offers so far were appended
abbrev pub invariant-loop-offer : goal.invariant-loop-offer
invariant-loop-offer l = l.sheet ≡ l.fn.sheet ++ take l.offer-index l.offers
