-- What the answers so far leave to be answered.
use Rattle.std.specs.Prelude.{ℕ, suc, Bool, true, false, List, [], ◌∷◌, length, Result, Ok, Err}
use Rattle.feed_definitions.specs.declared.cause.Fault.{Fault}
use Rattle.feed_definitions.specs.declared.header.Header.{Header}
use Rattle.feed_definitions.specs.declared.step.Step.{Step}
use Rattle.feed_definitions.specs.declared.step.Step.TheVariants as step
use Rattle.feed_definitions.specs.Forms.{header_of}
use Rattle.feed_definitions.specs.Feed.{refusal, line_answer, accepted_in}

-- the step of line 1
abbrev pub header_step : Result Header Fault → Step
header_step (Ok header) = step.Header header
header_step (Err fault) = step.BadHeader (refusal 1 fault)

-- the answer to the next line, by itself and by the answers so far
abbrev pub next_answer : List Step → List ℕ → Step
next_answer [] line = header_step (header_of line)
next_answer (first ∷ others) line = line_answer (accepted_in (first ∷ others)) (suc (length (first ∷ others))) line

abbrev pub is_header : Step → Bool
is_header (step.Header header) = true
is_header _ = false

-- no answer yet, or the first one is a header
abbrev pub is_open : List Step → Bool
is_open [] = true
is_open (first ∷ others) = is_header first

-- nothing follows the step
abbrev pub ends_feed : Step → Bool
ends_feed (step.BadHeader refusal) = true
ends_feed step.End = true
ends_feed step.Cut = true
ends_feed step.ReadFault = true
ends_feed _ = false
