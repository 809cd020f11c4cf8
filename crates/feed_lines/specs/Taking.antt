-- Bytes taken from a source, and how the next line stands in them.
use Rattle.std.specs.Prelude.{◌≡◌, ◌+◌, ◌-◌, ◌<◌, ◌≤◌, ℕ, List, [], ◌∷◌, ◌++◌, Option, Bool, true, false, length, take, drop}
use Rattle.std.specs.Io.KnownBytes.{Consumes}
use Rattle.scan_types.specs.declared.limits.TheConstants.{MOST_FEED_BYTES}
use Rattle.feed_definitions.specs.Lines.{pieces}
use Rattle.feed_lines.specs.declared.taken.Search.{Search}
use Rattle.feed_lines.specs.declared.taken.Search.TheVariants.{LineFeed, TooLarge, Drained, Failed}

-- the bytes that were taken are those that the source gave
pub record Takes (left_old left_new : Option (List ℕ)) (old new : List ℕ) : Type 0 where
  pub more : List ℕ
  pub appended : new ≡ old ++ more
  pub given : Consumes left_old left_new more

-- what each call does to the source and to the bytes taken, whatever it answers: the bytes that were given are appended, the count of
-- faults does not fall, the source is later than before, and its promise is kept
pub record GoesOn (left_old left_new : Option (List ℕ)) (old new : List ℕ) (faults_old faults_new : ℕ) (Later Promise : Type 0) : Type 0 where
  pub takes : Takes left_old left_new old new
  pub faults_kept : faults_old ≤ faults_new
  pub is_later : Later
  pub promise_kept : Promise

-- the bytes that are looked at
unfoldable pub looked_at : List ℕ → List ℕ
looked_at bytes = take MOST_FEED_BYTES bytes

-- no line feed stands in the text
abbrev pub IsOneLine : List ℕ → Type 0
IsOneLine text = pieces text ≡ text ∷ []

-- the line that begins at this index ends before the line feed at that one
pub record IsEndedAt (bytes : List ℕ) (start end : ℕ) : Type 0 where
  pub after : start ≤ end
  pub within : end < length bytes
  pub line : IsOneLine (take (end - start) (drop start bytes))
  pub parts : drop start bytes ≡ take (end - start) (drop start bytes) ++ 10 ∷ drop (end + 1) bytes

-- how the line that begins at this index stands in the bytes
abbrev pub FoundSo : List ℕ → ℕ → Search → Type 0
FoundSo bytes start (LineFeed end) = IsEndedAt (looked_at bytes) start end
FoundSo bytes start TooLarge = IsOneLine (drop start (looked_at bytes)) × (MOST_FEED_BYTES < length bytes)
FoundSo bytes start Drained = IsOneLine (drop start (looked_at bytes)) × (length bytes ≤ MOST_FEED_BYTES)
FoundSo bytes start Failed = IsOneLine (drop start (looked_at bytes)) × (length bytes ≤ MOST_FEED_BYTES)

abbrev pub is_failed : Search → Bool
is_failed Failed = true
is_failed _ = false

abbrev pub is_drained : Search → Bool
is_drained Drained = true
is_drained _ = false
