-- What a run over opened feeds is, whole.
use Rattle.std.specs.Prelude.{ℕ, ◌≡◌, ◌⊎◌, List, Option}
use Rattle.desk_definitions.specs.declared.status.TheConstants.{WANT_OF_MEMORY}
use Rattle.desk_definitions.specs.Seen.{SinkSeen, Due, IsWritten}
use Rattle.desk_definitions.specs.Course.{Outcome, HasNoHeader, HaveOneBook, HasReport, StopsInBodies, StopsInJudging, WritesNothing}

module _ {S : Type 0} (left : S → Option (List ℕ)) (faults : S → ℕ) (told : ℕ → Option (List ℕ)) (names : ℕ) (budget : ℕ) where
  -- what is due: the line of a feed without a header, or of two feeds of one book, or the report
  abbrev pub IsDueOpened : Outcome S → Due → Type 0
  IsDueOpened out due = HasNoHeader left faults told names out due ⊎ (HaveOneBook left faults told names out due ⊎ HasReport left faults told names budget out due)

  -- no memory was left
  abbrev pub IsCutOpened : Outcome S → Type 0
  IsCutOpened out = StopsInBodies left faults told names out ⊎ StopsInJudging left faults told names budget out

  -- what is due was written; or no memory was left, the status says so, and nothing was written
  abbrev pub RunsSo : Outcome S → ℕ → SinkSeen → Type 0
  RunsSo out status sink = ((due : Due) × IsDueOpened out due × IsWritten due status sink) ⊎ ((status ≡ WANT_OF_MEMORY) × WritesNothing sink × IsCutOpened out)
