use Rattle.std.proofs.Common.{◌≡◌, ◌⊎◌, ◌≤◌, ◌<◌, ◌+◌, ◌-◌, length, drop, vec_capacity}
use Rattle.scan_types.specs.declared.limits.TheConstants.{MOST_FEED_BYTES}
use Rattle.feed_definitions.specs.Lines.{pieces}
use Rattle.feed_lines.specs.Taking.{GoesOn, looked_at}
use Rattle.feed_lines.proofs.Splits.{IsOneLineUpTo}
use Rattle.feed_lines.proofs.taken.Taken.search.Given as goal

-- no line feed stands from the start of the line up to `from`; and what the reads so far did
abbrev pub invariant-reads : goal.invariant-reads
invariant-reads g l =
    let S = g.S.Source in
    record {
      start : l.self.start ≡ l.fn.self.start;
      low : l.self.start ≤ MOST_FEED_BYTES;
      after : l.self.start ≤ l.from;
      within : l.from ≤ length (looked_at l.self.bytes.items);
      looked : IsOneLineUpTo (looked_at l.self.bytes.items) l.self.start l.from;
      room : 4198400 ≤ vec_capacity l.self.bytes;
      few : length l.self.bytes.items ≤ 4198400;
      goes_on : GoesOn (S.left l.fn.source) (S.left l.source) l.fn.self.bytes.items l.self.bytes.items
          (S.faults l.fn.source) (S.faults l.source) (S.later l.fn.source l.source) (S.never_fails l.fn.source → S.never_fails l.source);
      no_fault : S.faults l.source ≡ S.faults l.fn.source;
      no_read : ((1 < length (pieces (drop l.fn.self.start (looked_at l.fn.self.bytes.items)))) ⊎ (MOST_FEED_BYTES < length l.fn.self.bytes.items)) →
          (l.self.bytes.items ≡ l.fn.self.bytes.items) × (l.source ≡ l.fn.source);
    }

abbrev pub decreases-reads : goal.decreases-reads
decreases-reads g l = MOST_FEED_BYTES + 1 - length l.self.bytes.items
