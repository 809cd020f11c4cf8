use Rattle.std.proofs.Common.{arith, sym, ap, ◌∙◌, take, length-take}
use Rattle.feed_lines.specs.Taking.{looked_at}
use Rattle.feed_lines.proofs.Takings.{all_looked_at}
use Rattle.feed_lines.proofs.taken.Taken.looked_at.Goals as goal

pub slice_bounds-result-end : goal.slice_bounds-result-end
slice_bounds-result-end c = omega (arith, length-take 4194304 c.deref.result.now)

pub returns-then-len-gt-MOST_FEED_BYTES : goal.returns-then-len-gt-MOST_FEED_BYTES
unfolding looked_at
returns-then-len-gt-MOST_FEED_BYTES c = ap (λ l. take 4194304 l) c.deref.ensures.value

pub returns-else-len-gt-MOST_FEED_BYTES : goal.returns-else-len-gt-MOST_FEED_BYTES
returns-else-len-gt-MOST_FEED_BYTES c =
    c.deref-else-len-gt-MOST_FEED_BYTES.ensures.value ∙ sym (all_looked_at c.args.self.now.bytes.items (omega arith))
