-- What a caller does with its pins: each is made, and then its finding is filed, or it is released.
use Rattle.std.specs.Prelude.{ℕ, ◌≡◌, ◌≤◌, List, [], ◌∷◌, ◌++◌, length, take, Option, Some, None, IsSome, IfSome, slice_get}
use Rattle.scan_types.specs.declared.offer.Offer.{Offer}
use Rattle.scan_types.specs.declared.rule.VoidRule.{VoidRule}
use Rattle.finding_definitions.specs.declared.finding.Finding.{Finding}
use Rattle.board_definitions.specs.declared.event.Entry.{Entry}
use Rattle.board_definitions.specs.Sheets.{sheet}
use Rattle.turn_lock.specs.Passes.{Known}
use Rattle.quote_board.specs.Shared.{calls_by, IsLaterPass}
use Rattle.desk_definitions.specs.Judged.{pinned_entry, filed_entry, released_entry}
use Rattle.solver_workers.specs.declared.ends.SolverStop.{SolverStop}
use Rattle.solver_workers.specs.declared.ends.SolverStop.TheVariants as stops

-- a pin: the match, the version, and the finding that was filed for it, or none if it was released
pub record Work : Type 0 where
  pub match_name : List ℕ
  pub version : ℕ
  pub finding : Option Finding

-- the entry that ends the pin
abbrev pub end_of : ℕ → ℕ → Option Finding → Entry
end_of caller version (Some finding) = filed_entry caller version finding
end_of caller version None = released_entry caller version

-- the entries of the pin: the one that makes it, and the one that ends it
abbrev pub work_entries : ℕ → Work → List Entry
work_entries caller work = pinned_entry caller work.match_name ∷ end_of caller work.version work.finding ∷ []

-- those of several pins, one behind the other
abbrev pub works_entries : ℕ → List Work → List Entry
works_entries caller [] = []
works_entries caller (work ∷ works) = work_entries caller work ++ works_entries caller works

-- the pin is the caller's next entry behind these, and the history has it at its version. A finding that was filed for it is allowed for
-- the sheet of its match at its version
pub record IsWork (rules : List (Option VoidRule)) (allows : List Offer → Finding → Type 0) (history : List Entry) (caller : ℕ) (earlier : List Entry) (work : Work) : Type 0 where
  pub pinned : slice_get history work.version ≡ Some (pinned_entry caller work.match_name)
  pub next : calls_by caller (take work.version history) ≡ earlier
  pub allowed : IfSome work.finding (λ finding. allows (sheet rules history work.version work.match_name) finding)

-- the same of several pins, each behind the one before it
abbrev pub AreWorks : List (Option VoidRule) → (List Offer → Finding → Type 0) → List Entry → ℕ → List Entry → List Work → Type 0
AreWorks rules allows history caller earlier [] = Unit {0}
AreWorks rules allows history caller earlier (work ∷ works) =
    IsWork rules allows history caller earlier work × AreWorks rules allows history caller (earlier ++ work_entries caller work) works

-- each pin has its finding
abbrev pub AreFiled : List Work → Type 0
AreFiled [] = Unit {0}
AreFiled (work ∷ works) = IsSome work.finding × AreFiled works

-- how the pins of a worker end that stops so: each has its finding, and only for want of memory the last one may have none
abbrev pub AreEnded : SolverStop → List Work → Type 0
AreEnded stops.Finished works = AreFiled works
AreEnded stops.NoMemory works = (filed last : List Work) × (works ≡ filed ++ last) × (length last ≤ 1) × AreFiled filed

-- the pass added the entries of these pins, and nothing else
pub record HasWorked (rules : List (Option VoidRule)) (allows : List Offer → Finding → Type 0) (old new : Known Entry) (works : List Work) : Type 0 where
  pub later : IsLaterPass old new
  pub own : new.own ≡ old.own ++ works_entries old.number works
  pub are : AreWorks rules allows new.seen old.number old.own works
