use Rattle.std.proofs.Common.{[], unwrap_or, ap, sym, codes, ◌∙◌}
use Rattle.clap.specs.Words.{found_of}
use Rattle.clap.proofs.WalkLemmas.{raw_values-rows}
use Rattle.desk_words.specs.Commands.{few_enough}
use Rattle.desk_words.proofs.FeedCounts.{few_names, other_names}
use Rattle.desk_words.proofs.reading.named_feeds.Goals as goal

pub returns-in_default : goal.returns-in_default
returns-in_default c = ap (λ names. few_enough (unwrap_or names [])) (c.in_default.ensures ∙ raw_values-rows (found_of c.args.matches.now) (codes "FEED"))

pub returns-then-is_feed_count : goal.returns-then-is_feed_count
returns-then-is_feed_count c =
    few_names c.in-Some.names.now (sym c.is_feed_count.ensures ∙ c.if-is_feed_count.true)
    ∙ ap (λ names. few_enough (unwrap_or names [])) (c.in-Some.ensures ∙ raw_values-rows (found_of c.args.matches.now) (codes "FEED"))

pub returns-else-is_feed_count : goal.returns-else-is_feed_count
returns-else-is_feed_count c =
    other_names c.in-Some.names.now (sym c.is_feed_count.ensures ∙ c.if-is_feed_count.false)
    ∙ ap (λ names. few_enough (unwrap_or names [])) (c.in-Some.ensures ∙ raw_values-rows (found_of c.args.matches.now) (codes "FEED"))
