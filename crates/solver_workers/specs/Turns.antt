-- What single turns of a worker tell it.
use Rattle.std.specs.Prelude.{ℕ, ◌≡◌, ◌≤◌, ◌∷◌, ◌++◌, [], List, Option, Some, None, IfSome, length}
use Rattle.scan_types.specs.declared.offer.Offer.{Offer}
use Rattle.scan_types.specs.declared.rule.VoidRule.{VoidRule}
use Rattle.finding_definitions.specs.declared.finding.Finding.{Finding}
use Rattle.board_definitions.specs.declared.event.Entry.{Entry}
use Rattle.board_definitions.specs.declared.pin.Pin.{Pin}
use Rattle.board_definitions.specs.declared.pin.Pick.{Pick}
use Rattle.board_definitions.specs.declared.pin.Pick.TheVariants as pick
use Rattle.board_definitions.specs.Sheets.{sheet}
use Rattle.board_definitions.specs.Legal.{IsLegal}
use Rattle.board_definitions.specs.Pins.{IsLive, HaveAllEnded}
use Rattle.turn_lock.specs.Passes.{Known}
use Rattle.quote_board.specs.Answers.{next_pin, NoneIsDue}
use Rattle.quote_board.specs.Shared.{calls_by, IsLaterPass, IsTurnOf}
use Rattle.desk_definitions.specs.Judged.{pinned_entry}
use Rattle.solver_workers.specs.declared.ends.SolverStop.{SolverStop}
use Rattle.solver_workers.specs.declared.ends.SolverStop.TheVariants as stops
use Rattle.solver_workers.specs.Works.{Work, end_of, AreFiled}

-- the pass holds this pin: its own entries are those under its number in what it has seen, where the pin is live
pub record Holds (known : Known Entry) (pin : Pin) : Type 0 where
  pub own : calls_by known.number known.seen ≡ known.own
  pub caller : pin.caller ≡ known.number
  pub live : IsLive known.seen pin

module _ (rules : List (Option VoidRule)) (allows : List Offer → Finding → Type 0) (old : Known Entry) (history : List Entry) (new : Known Entry) where
  -- the turn made this pin, the caller's next
  abbrev pub MakesPin : Pin → Type 0
  MakesPin pin = IsTurnOf rules allows old history (pinned_entry old.number pin.match_name ∷ []) new × (pin ≡ next_pin history old.number pin.match_name)

  -- the turn was one of `pin`, with this answer
  abbrev pub Picks : Pick → Type 0
  Picks (pick.Pinned pin) = MakesPin pin
  Picks pick.Idle = IsTurnOf rules allows old history [] new
  Picks pick.Finished = IsTurnOf rules allows old history [] new × NoneIsDue history × HaveAllEnded rules history

-- after some looks the pass holds its pin still, and has added nothing
pub record StillHolds (old new : Known Entry) (pin : Pin) : Type 0 where
  pub later : IsLaterPass old new
  pub own : new.own ≡ old.own
  pub holds : Holds new pin

-- the pass has ended its pin, by a finding that is allowed for the pinned sheet, or by a release if it has none
pub record EndsPin (rules : List (Option VoidRule)) (allows : List Offer → Finding → Type 0) (old new : Known Entry) (pin : Pin) (finding : Option Finding) : Type 0 where
  pub later : IsLaterPass old new
  pub own : new.own ≡ old.own ++ end_of old.number pin.version finding ∷ []
  pub allowed : IfSome finding (λ found. allows (sheet rules old.seen pin.version pin.match_name) found)
  pub legal : IsLegal rules allows new.seen

-- how one step of a worker ends, if it ends it, with these pins: going on, each has its finding; finished, there is none, no match is due and
-- every feed has ended; for want of memory there is at most one
abbrev pub StepEnds : List (Option VoidRule) → List Entry → Option SolverStop → List Work → Type 0
StepEnds rules seen None works = AreFiled works
StepEnds rules seen (Some stops.Finished) works = (works ≡ []) × NoneIsDue seen × HaveAllEnded rules seen
StepEnds rules seen (Some stops.NoMemory) works = length works ≤ 1

-- the pins of a request that no memory was left for: none, or one of the match, which was released
abbrev pub AreGivenUp : List ℕ → List Work → Type 0
AreGivenUp match_name [] = Unit {0}
AreGivenUp match_name (work ∷ []) = (work.match_name ≡ match_name) × (work.finding ≡ None)
AreGivenUp match_name (work ∷ next ∷ works) = ⊥
