use Rattle.std.proofs.Common.{◌≡◌, ℕ, ◌+◌, List, Option, length, All}
use Rattle.desk_definitions.specs.Opening.{AreOpened}
use Rattle.desk_opening.specs.Headers.{AreHeadersRead}
use Rattle.desk_opening.proofs.headers.read_headers.Given as goal

abbrev pub invariant-loop-source : goal.invariant-loop-source
invariant-loop-source g l = record {
  read : (told : ℕ → Option (List ℕ)) → AreOpened g.S.Source.left g.S.Source.faults told 0 l.fn.sources.items →
      AreHeadersRead g.S.Source.left told 0 l.begun.items × AreOpened g.S.Source.left g.S.Source.faults told (length l.begun.items) l.sources.items;
  count : length l.begun.items + length l.sources.items ≡ length l.fn.sources.items;
  promises : All g.S.Source.never_fails l.fn.sources.items → All (λ feed. g.S.Source.never_fails feed.reader.source) l.begun.items × All g.S.Source.never_fails l.sources.items;
  counts : All (λ source. g.S.Source.faults source ≡ 0) l.fn.sources.items → All (λ feed. g.S.Source.faults feed.reader.source ≡ 0) l.begun.items × All (λ source. g.S.Source.faults source ≡ 0) l.sources.items;
}

abbrev pub decreases-loop-source : goal.decreases-loop-source
decreases-loop-source g l = length l.sources.items
