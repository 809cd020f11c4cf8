-- The first quote of a board.
use Rattle.std.proofs.Common.{◌≡◌, ℕ, ◌+◌, inr, List, [], refl, sym, subst, arith}
use Rattle.std.specs.Prelude.{Option, IsSome}
use Rattle.scan_types.specs.declared.rule.VoidRule.{VoidRule}
use Rattle.scan_types.specs.Ranges.{IsLimitRange}
use Rattle.board_definitions.specs.declared.event.Entry.{Entry}
use Rattle.board_definitions.specs.declared.key.Key.{Key}
use Rattle.board_definitions.specs.Entries.{rule_of}
use Rattle.board_definitions.specs.Legal.{MayQuote}
use Rattle.quote_board.proofs.ShortHistories.{short_history}

-- the first quote may be made
pub may_quote_first : (rules : List (Option VoidRule)) (history : List Entry) (key : Key) (limit line : ℕ) → history ≡ [] → IsSome (rule_of rules key.feed) → IsLimitRange limit → MayQuote rules history (key.feed + 1) key limit line
may_quote_first rules history key limit line none exists in_range =
    subst (λ h. MayQuote rules h (key.feed + 1) key limit line) (sym none)
    (record {
      feed = record { caller_is = refl; exists = exists; not_ended = refl };
      later = λ k d h. absurd (omega (arith, h));
      in_range = in_range;
      room = inr (omega (arith, short_history [] key.match_name key.feed));
    })
