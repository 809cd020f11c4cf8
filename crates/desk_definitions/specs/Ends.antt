-- How a feed ended, by the bytes that were taken of its source.
use Rattle.std.specs.Prelude.{ℕ, ◌≡◌, ◌<◌, ◌⊎◌, Bool, true, false, List, [], ◌∷◌, ◌++◌, length, Option, Some, None}
use Rattle.std.specs.List.{filter_map}
use Rattle.std.specs.Io.KnownBytes.{Consumes, IsAtEnd}
use Rattle.feed_definitions.specs.declared.header.Header.{Header}
use Rattle.feed_definitions.specs.declared.cause.Refusal.{Refusal}
use Rattle.feed_definitions.specs.declared.step.Step.{Step}
use Rattle.feed_definitions.specs.declared.step.Step.TheVariants as step
use Rattle.feed_definitions.specs.Lines.{ended_lines, is_too_large}
use Rattle.feed_definitions.specs.Feed.{steps}
use Rattle.board_definitions.specs.declared.event.FeedStop.{FeedStop}
use Rattle.board_definitions.specs.declared.event.FeedStop.TheVariants as stops
use Rattle.desk_definitions.specs.declared.feed_end.FeedEnd.{FeedEnd}

-- the header, if the first of these steps is one
abbrev pub header_in : List Step → Option Header
header_in (step.Header header ∷ others) = Some header
header_in _ = None

-- the refused line of a step
abbrev pub refused_line : Step → Option Refusal
refused_line (step.Refused refusal) = Some refusal
refused_line _ = None

-- the refused lines of these steps, in order
abbrev pub refused_in : List Step → List Refusal
refused_in lines = filter_map refused_line lines

-- line 1 is clear: a line feed ends it, or more bytes follow than are looked at, or the source has none left
abbrev pub IsFirstLineClear : Option (List ℕ) → List ℕ → Type 0
IsFirstLineClear left text = (0 < length (ended_lines text)) ⊎ ((is_too_large text ≡ true) ⊎ IsAtEnd left)

-- the feed with these bytes stopped so after these steps of its lines. With the stop `NoMemory` they are those answered so far, which
-- begin the steps of the feed, whether reading fails behind these bytes or they are all
abbrev pub IsStopOf : FeedStop → Option (List ℕ) → ℕ → List ℕ → List Step → Type 0
IsStopOf stops.End left faults text lines = (steps false text ≡ lines ++ step.End ∷ []) × IsAtEnd left
IsStopOf stops.Cut left faults text lines = steps false text ≡ lines ++ step.Cut ∷ []
IsStopOf stops.ReadFault left faults text lines = (steps true text ≡ lines ++ step.ReadFault ∷ []) × (0 < faults)
IsStopOf stops.BadHeader left faults text lines =
    (refusal : Refusal) × (lines ≡ step.BadHeader refusal ∷ []) × (steps false text ≡ lines) × IsFirstLineClear left text
IsStopOf stops.NoMemory left faults text lines = (failed : Bool) × (rest : List Step) × (steps failed text ≡ lines ++ rest)

-- the refused lines that are kept: all, and with the stop `NoMemory` the first of them
abbrev pub AreKept : FeedStop → List Refusal → List Refusal → Type 0
AreKept stops.NoMemory kept refused = (more : List Refusal) × (refused ≡ kept ++ more)
AreKept _ kept refused = kept ≡ refused

-- the end of the feed of this number, of which these bytes were taken and these steps of lines answered
pub record IsEndOf {S : Type 0} (left : S → Option (List ℕ)) (faults : S → ℕ) (number : ℕ) (end : FeedEnd S) (text : List ℕ) (lines : List Step)
    : Type 0 where
  pub number_is : end.feed ≡ number
  pub header : end.header ≡ header_in lines
  pub count : end.lines ≡ length lines
  pub refusals : AreKept end.stop end.refusals (refused_in lines)
  pub stop : IsStopOf end.stop (left end.source) (faults end.source) text lines

-- the same, of a feed whose source had so much left when it was opened
pub record IsReadSo {S : Type 0} (left : S → Option (List ℕ)) (faults : S → ℕ) (told : Option (List ℕ)) (number : ℕ) (end : FeedEnd S)
    (text : List ℕ) (lines : List Step) : Type 0 where
  pub given : Consumes told (left end.source) text
  pub is_end : IsEndOf left faults number end text lines
