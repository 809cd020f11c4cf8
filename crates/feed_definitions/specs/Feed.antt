-- The steps of a feed, as one function of all its bytes.
use Rattle.std.specs.Prelude.{ℕ, suc, Bool, List, [], ◌∷◌, ◌++◌, Option, Some, None, Ok, Err, if◌then◌else◌}
use Rattle.std.specs.List.{filter_map}
use Rattle.scan_types.specs.Selections.{selection_number}
use Rattle.feed_definitions.specs.declared.accepted.Accepted.{Accepted}
use Rattle.feed_definitions.specs.declared.cause.Cause.{Cause}
use Rattle.feed_definitions.specs.declared.cause.Fault.{Fault}
use Rattle.feed_definitions.specs.declared.cause.Refusal.{Refusal}
use Rattle.feed_definitions.specs.declared.request.Request.{Request}
use Rattle.feed_definitions.specs.declared.request.LineForm.{LineForm}
use Rattle.feed_definitions.specs.declared.request.LineForm.TheVariants as form
use Rattle.feed_definitions.specs.declared.step.Step.{Step}
use Rattle.feed_definitions.specs.declared.step.Step.TheVariants as step
use Rattle.feed_definitions.specs.Lines.{answered_lines, is_cut}
use Rattle.feed_definitions.specs.Forms.{header_of, line_form}
use Rattle.feed_definitions.specs.Standing.{refused_for}

-- the fault in the line of this number
abbrev pub refusal : ℕ → Fault → Refusal
refusal number fault = record { place = record { line = number; column = fault.column }; cause = fault.cause }

-- the step of a request in the line of this number, by why it is refused, if it is
abbrev pub request_step : ℕ → Request → Option Cause → Step
request_step number request None =
    step.Line (record { line = number; match_name = request.match_name; selection = request.selection; change = request.change })
request_step number request (Some cause) = step.Refused (refusal number (record { column = request.column; cause = cause }))

-- the step of the line of this number, after these accepted lines, by what it is by itself
abbrev pub form_step : List Accepted → ℕ → LineForm → Step
form_step before number form.Skipped = step.Skipped
form_step before number (form.Wrong fault) = step.Refused (refusal number fault)
form_step before number (form.Asks request) =
    request_step number request (refused_for before request.match_name (selection_number request.selection) request.change)

-- the step of a line that is not line 1
abbrev pub line_answer : List Accepted → ℕ → List ℕ → Step
line_answer before number line = form_step before number (line_form line)

-- the accepted line of a step
abbrev pub accepted_line : Step → Option Accepted
accepted_line (step.Line line) = Some line
accepted_line _ = None

-- the accepted lines of these steps, in order
abbrev pub accepted_in : List Step → List Accepted
accepted_in steps = filter_map accepted_line steps

-- the steps of the lines from this number on, after these accepted lines, and how the feed ends
unfoldable pub line_steps : Step → List Accepted → ℕ → List (List ℕ) → List Step
line_steps ending before number [] = ending ∷ []
line_steps ending before number (line ∷ lines) =
    line_answer before number line
    ∷ line_steps ending (before ++ accepted_in (line_answer before number line ∷ [])) (suc number) lines

-- the steps of all lines: of line 1 that is no header nothing follows
unfoldable pub feed_steps : Step → List (List ℕ) → List Step
feed_steps ending [] = ending ∷ []
feed_steps ending (line ∷ lines) = elim (header_of line) [
  | Err fault ↦ step.BadHeader (refusal 1 fault) ∷ []
  | Ok header ↦ step.Header header ∷ line_steps ending [] 2 lines
]

-- how the feed ends after its lines
abbrev pub ending : Bool → List ℕ → Step
ending failed text = if is_cut text then step.Cut else (if failed then step.ReadFault else step.End)

-- the steps of a feed with these bytes; after a fault of reading a line without its line feed is left out
unfoldable pub steps : Bool → List ℕ → List Step
steps failed text = feed_steps (ending failed text) (answered_lines failed text)

-- the accepted lines of a feed with these bytes
abbrev pub accepted : Bool → List ℕ → List Accepted
accepted failed text = accepted_in (steps failed text)
