-- The answers to a request for a pin.
use Rattle.std.proofs.Common.{ℕ, ◌≡◌, length, refl, sym, ◌∙◌, arith}
use Rattle.scan_types.specs.declared.limits.TheConstants.{MOST_FEEDS}
use Rattle.board_definitions.specs.declared.pin.Pick.{Pick}
use Rattle.board_definitions.specs.declared.pin.Pick.TheVariants.{Pinned, Idle, Finished}
use Rattle.quote_board.specs.Views.{BoardView}
use Rattle.quote_board.specs.Kept.{open_count}
use Rattle.quote_board.specs.Answers.{IsPick, IsEmptyPick, NoneIsDue}
use Rattle.quote_board.proofs.Feeds.{all_ended, some_open}

pub empty_pick_is : {W : Type 0} (board : BoardView W) (caller open_feeds : ℕ) (pick : Pick) → NoneIsDue board.history → length board.fixed.rules ≡ MOST_FEEDS →
    open_feeds ≡ open_count board.fixed.rules board.history → IsEmptyPick open_feeds pick → IsPick board caller board pick
empty_pick_is board caller open_feeds (Pinned pin) none eight is h = absurd h
empty_pick_is board caller open_feeds Idle none eight is h = (none, some_open board.fixed.rules board.history (omega (arith, is, h)), refl)
empty_pick_is board caller open_feeds Finished none eight is h = (none, all_ended board.fixed.rules board.history eight (sym is ∙ h), refl)
