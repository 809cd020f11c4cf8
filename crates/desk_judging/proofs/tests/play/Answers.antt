use Rattle.std.proofs.Common.{◌≡◌, ◌+◌, [], refl, sym, ap, ◌∙◌, subst, rules, arith, eq-eqb}
use Rattle.std.specs.Prelude.{IsSome}
use Rattle.scan_types.specs.Ranges.{IsLimitRange}
use Rattle.board_definitions.specs.declared.event.Event.TheVariants.{Quoted, Ended, Filed, Released}
use Rattle.board_definitions.specs.declared.event.FeedStop.TheVariants.{End}
use Rattle.board_definitions.specs.declared.event.Entry.{Entry}
use Rattle.board_definitions.specs.declared.pin.Pin.{Pin}
use Rattle.board_definitions.specs.Entries.{rule_of}
use Rattle.board_definitions.specs.Legal.{MayQuote}
use Rattle.quote_board.specs.Answers.{IsPick}
use Rattle.quote_board.specs.Views.{BoardView}
use Rattle.verdict_maker.specs.declared.law.FindingLaw.{FindingLaw}
use Rattle.desk_definitions.specs.Judged.{pinned_entry, filed_entry, released_entry}
use Rattle.desk_judging.proofs.FirstQuote.{may_quote_first}
use Rattle.desk_judging.proofs.HeldPins.{no_pin_at_first, no_pin_more, no_pin_event, holds_new, holds_more, holds_none}
use Rattle.desk_judging.proofs.tests.play.Goals as goal

pub pin-requires : goal.pin-requires
pin-requires c = no_pin_at_first c.args.board.now.history 2 c.requires.first

pub quote-requires : goal.quote-requires
quote-requires c =
    let key = c.args.key in
    let board = c.pin.new.self in
    let idle = subst (IsPick c.args.board.now 2 board) c.in-Idle.is c.in_ok-pin.ensures.pick in
    let none : board.history ≡ [] = ap (λ (b : BoardView FindingLaw). b.history) idle.2 ∙ c.requires.first in
    let there : IsSome (rule_of board.fixed.rules 0) = subst (λ (b : BoardView FindingLaw). IsSome (rule_of b.fixed.rules 0)) (sym idle.2) c.requires.rule in
    let exists : IsSome (rule_of board.fixed.rules key.feed) = subst (λ feed. IsSome (rule_of board.fixed.rules feed)) (sym c.requires.feed) there in
    let in_range : IsLimitRange 100 = search rules in
    subst (λ caller. MayQuote board.fixed.rules board.history caller key 100 2) (ap (λ feed. feed + 1) c.requires.feed) (may_quote_first board.fixed.rules board.history key 100 2 none exists in_range)

-- the only pin of caller 2 is filed
pub pin-requires-4 : goal.pin-requires-4
pin-requires-4 c =
    let before = c.in-Pinned.before in
    let after = c.in-Pinned-2.after in
    let idle = subst (IsPick c.args.board.now 2 c.pin.new.self) c.in-Idle.is c.in_ok-pin.ensures.pick in
    let pinned = subst (IsPick c.quote.new.self 2 c.pin-2.new.self) c.in-Pinned.is c.in_ok-before.ensures.pick in
    let other = subst (IsPick c.quote-2.new.self 3 c.pin-3.new.self) c.in-Pinned-2.is c.in_ok-after.ensures.pick in
    let filed = c.in_ok-judge_pinned.ensures.filed in
    let first = Quoted c.args.key c.args.odds.0 100 2 in
    let second = Quoted c.args.key c.args.odds.1 100 3 in
    let none = no_pin_at_first c.pin.new.self.history 2 (ap (λ (b : BoardView FindingLaw). b.history) idle.2 ∙ c.requires.first) in
    let none_yet = no_pin_more c.pin.new.self.history c.quote.new.self.history (record { caller = 1; event = first }) 2 (ap (λ (b : BoardView FindingLaw). b.history) c.in_ok-quote.ensures.added) (no_pin_event 2 1 first refl) none in
    let one = holds_new c.quote.new.self.history c.pin-2.new.self.history (pinned_entry 2 before.match_name) 2 before.version (ap (λ (b : BoardView FindingLaw). b.history) pinned.2) (ap (λ (p : Pin). p.version) pinned.1) none_yet in
    let one_quoted = holds_more c.pin-2.new.self.history c.quote-2.new.self.history (record { caller = 1; event = second }) 2 before.version (ap (λ (b : BoardView FindingLaw). b.history) c.in_ok-quote-2.ensures.added) (no_pin_event 2 1 second refl) one in
    let one_pinned = holds_more c.quote-2.new.self.history c.pin-3.new.self.history (pinned_entry 3 after.match_name) 2 before.version (ap (λ (b : BoardView FindingLaw). b.history) other.2) (λ m e. let k : 3 ≡ 2 = ap (λ (x : Entry). x.caller) e in absurd (omega (arith, k))) one_quoted in
    let one_ended = holds_more c.pin-3.new.self.history c.end_feed.new.self.history (record { caller = 1; event = Ended 0 End }) 2 before.version (ap (λ (b : BoardView FindingLaw). b.history) c.end_feed.ensures.added) (no_pin_event 2 1 (Ended 0 End) refl) one_pinned in
    let none_left = holds_none c.end_feed.new.self.history c.judge_pinned.new.board.history (filed_entry before.caller before.version filed.0) 2 before.version (ap (λ (b : BoardView FindingLaw). b.history) filed.2) (no_pin_event 2 before.caller (Filed before.version filed.0) refl) (eq-eqb before.version before.version refl) one_ended in
    no_pin_more c.judge_pinned.new.board.history c.release.new.self.history (released_entry after.caller after.version) 2 (ap (λ (b : BoardView FindingLaw). b.history) c.release.ensures.added) (no_pin_event 2 after.caller (Released after.version) refl) none_left
