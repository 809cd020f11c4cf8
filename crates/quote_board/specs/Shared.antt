-- A board behind a turn lock: what it never changes, and what one turn of a caller does.
use Rattle.std.specs.Prelude.{ℕ, ◌≡◌, ◌++◌, List, Option}
use mathlib.Core.List.{IsPrefix}
use Rattle.scan_types.specs.declared.offer.Offer.{Offer}
use Rattle.scan_types.specs.declared.rule.VoidRule.{VoidRule}
use Rattle.finding_definitions.specs.declared.finding.Finding.{Finding}
use Rattle.board_definitions.specs.declared.event.Entry.{Entry}
use Rattle.board_definitions.specs.Legal.{IsLegal}
use Rattle.turn_lock.specs.declared.lock.TurnLock.{TurnLock}
use Rattle.turn_lock.specs.Calls.{calls_of}
use Rattle.turn_lock.specs.Passes.{Known, fixed_part}
use Rattle.quote_board.specs.declared.part.BoardPart.{BoardPart}
use Rattle.quote_board.specs.Views.{BoardView}

-- what never changes of the board behind the lock
abbrev pub board_part : {W : Type 0} → TurnLock (BoardView W) Entry (BoardPart W) → BoardPart W
board_part {W} lock = fixed_part (λ (board : BoardView W). board.fixed) lock

-- the entries that this caller added, in order
abbrev pub calls_by : ℕ → List Entry → List Entry
calls_by caller history = calls_of (λ (entry : Entry). entry.caller) caller history

-- it is the same pass, and it has seen no less
pub record IsLaterPass (old new : Known Entry) : Type 0 where
  pub number : new.number ≡ old.number
  pub given : new.given ≡ old.given
  pub joined : new.joined ≡ old.joined
  pub seen : IsPrefix old.seen new.seen

-- one turn of a pass: it found this history, which has just its own entries under its number, and added these entries, legally
pub record IsTurnOf (rules : List (Option VoidRule)) (allows : List Offer → Finding → Type 0) (old : Known Entry) (history added : List Entry) (new : Known Entry) : Type 0 where
  pub seen : IsPrefix old.seen history
  pub own : calls_by old.number history ≡ old.own
  pub legal : IsLegal rules allows (history ++ added)
  pub then_ : new ≡ record old { seen = history ++ added; own = old.own ++ added }
