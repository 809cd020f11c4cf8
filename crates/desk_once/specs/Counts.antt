-- What the sources of feeds have counted of failed reads.
use Rattle.std.specs.Prelude.{ℕ, ◌≡◌, ◌≢◌, List, All}
use Rattle.board_definitions.specs.declared.event.FeedStop.TheVariants as stops
use Rattle.desk_opening.specs.declared.begun.Begun.{Begun}
use Rattle.desk_definitions.specs.declared.feed_end.FeedEnd.{FeedEnd}

-- no read of a feed has failed but one that stopped it
abbrev pub AreCounted : {S : Type 0} → (S → ℕ) → List (FeedEnd S) → Type 0
AreCounted faults ends = All (λ end. end.stop ≢ stops.ReadFault → faults end.source ≡ 0) ends

-- no read of the begun feeds has failed
abbrev pub AreFresh : {S : Type 0} → (S → ℕ) → List (Begun S) → Type 0
AreFresh faults begun = All (λ feed. faults feed.reader.source ≡ 0) begun
