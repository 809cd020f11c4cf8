use Rattle.std.proofs.Common.{◌≡◌, ◌≤◌, ◌++◌, length, take, drop}
use Rattle.std.specs.BTreeMap.{values}
use Rattle.quote_board.proofs.book.copy_offers.Given as goal

-- so many offers are copied, one for each that was yielded
abbrev pub invariant-loop-offer : goal.invariant-loop-offer
invariant-loop-offer l = record {
  counted : l.count ≡ length l.yielded;
  within : l.count ≤ length l.fn.out;
  copied : l.out ≡ take l.count (drop l.from (values l.book.offers)) ++ drop l.count l.fn.out;
}
