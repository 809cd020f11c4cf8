-- What is done for the command of some words, or if there is none.
use Rattle.std.proofs.Common.{ℕ, ◌≡◌, ◌≢◌, ◌≤◌, ◌⊎◌, List, [], length, Option, Some, None, refl, sym, ◌∙◌, subst, arith, inl, inr, drop}
use Rattle.std.specs.Prelude.{IfSome, option_map}
use Rattle.std.proofs.KnownBytes.{Keeps-refl}
use Rattle.clap.specs.Words.{Text}
use Rattle.outside_definitions.specs.Opener.{Told}
use Rattle.board_definitions.specs.declared.event.Entry.{Entry}
use Rattle.desk_words.specs.declared.command.Command.{Command}
use Rattle.desk_words.specs.declared.command.Command.TheVariants.{Once, Help, Version}
use Rattle.desk_definitions.specs.declared.feed_end.FeedEnd.{FeedEnd}
use Rattle.desk_definitions.specs.declared.status.TheConstants.{NOT_READ, NOT_WRITTEN, WANT_OF_MEMORY}
use Rattle.desk_definitions.specs.Seen.{Due, OpenerSeen, SinkSeen, IsWritten}
use Rattle.desk_definitions.specs.Opening.{StopsAt}
use Rattle.desk_definitions.specs.Course.{Handed, StatusAlone, OfFeeds, Outcome, IsCourse, IsUnbegun, SaysOnly, WritesNothing}
use Rattle.desk_definitions.specs.Causes.{AreCounted, HasCauses, HasTextCauses}
use Rattle.scan_desk.specs.Desk.{HasCausesOf, IsCourseOf, IsRunOf, help, refusal, version_told}

-- the cause of each status of a run that reads no feed
pub text_causes : (due : Due) (opener : OpenerSeen) (status : ℕ) (sink : SinkSeen) → due.status ≢ NOT_WRITTEN → due.status ≢ WANT_OF_MEMORY → SaysOnly due opener status sink
    → HasTextCauses due opener status sink
text_causes due opener status sink not_five not_seven says = record {
  one_of = one says.answer;
  done = whole says.answer;
  opener_faults = says.no_fault;
  not_written = broken says.answer;
  else_written = kept says.answer;
  no_memory = nothing says.answer;
}
  where
    Answer : Type 0
    Answer = IsWritten due status sink ⊎ ((status ≡ WANT_OF_MEMORY) × WritesNothing sink)

    one : Answer → Rattle.desk_definitions.specs.Causes.IsOrYields due.status status
    one (inl (inl w)) = inl w.status_is
    one (inl (inr p)) = inr (inl p.status_is)
    one (inr n) = inr (inr n.0)

    whole : Answer → status ≡ due.status → Rattle.std.specs.Io.KnownBytes.Appends sink.written_before sink.written_after due.text
    whole (inl (inl w)) e = w.written
    whole (inl (inr p)) e = absurd (not_five (sym e ∙ p.status_is))
    whole (inr n) e = absurd (not_seven (sym e ∙ n.0))

    broken : Answer → status ≡ NOT_WRITTEN → Rattle.outside_definitions.specs.Faults.Rose sink.faults_before sink.faults_after
    broken (inl (inl w)) e = absurd (not_five (sym w.status_is ∙ e))
    broken (inl (inr p)) e = p.fault
    broken (inr n) e = absurd (omega (arith, n.0, e))

    kept : Answer → status ≢ NOT_WRITTEN → sink.faults_after ≡ sink.faults_before
    kept (inl (inl w)) e = w.no_fault
    kept (inl (inr p)) e = absurd (e p.status_is)
    kept (inr n) e = n.1.no_fault

    nothing : Answer → status ≡ WANT_OF_MEMORY → WritesNothing sink
    nothing (inl (inl w)) e = absurd (not_seven (sym w.status_is ∙ e))
    nothing (inl (inr p)) e = absurd (omega (arith, p.status_is, e))
    nothing (inr n) e = n.1

pub nothing_written : (before : Option (List ℕ)) (faults : ℕ) → WritesNothing (record { written_before = before; written_after = before; faults_before = faults; faults_after = faults })
nothing_written before faults = record { kept = Keeps-refl before; no_fault = refl }

-- a text was written, and the opener was not called
pub says : (due : Due) (told : Told) (promises opens_told : Type 0) (count status : ℕ) (sink : SinkSeen) → IsWritten due status sink ⊎ ((status ≡ WANT_OF_MEMORY) × WritesNothing sink)
    → SaysOnly due (record { told = told; told_after = told; promises = promises; opens_told = opens_told; faults_before = count; faults_after = count }) status sink
says due told promises opens_told count status sink answer = record { told_kept = refl; no_fault = refl; answer = answer }

kept_told : (sources : Option (List (List ℕ))) → sources ≡ option_map (λ texts. drop 0 texts) sources
kept_told None = refl
kept_told (Some texts) = refl

some_told : (sources : Option (List (List ℕ))) → IfSome sources (λ texts. 0 ≤ length texts)
some_told None = tt
some_told (Some texts) = omega arith

-- no memory was left before the first opening
stops_at_once : (names : List Text) (told : Told) (promises opens_told : Type 0) (count : ℕ)
    → StopsAt names (record { told = told; told_after = told; promises = promises; opens_told = opens_told; faults_before = count; faults_after = count }) 0
stops_at_once names told promises opens_told count =
    record {
      few = omega arith;
      taken = λ name. kept_told (told name);
      earlier = λ name. some_told (told name);
      no_fault = refl;
    }

module _ {S : Type 0} (left : S → Option (List ℕ)) (faults : S → ℕ) where
  none_counted : (ends : List (FeedEnd S)) → ends ≡ [] → AreCounted faults ends
  none_counted ends none =
      let P : List (FeedEnd S) → Type 0 = λ xs. AreCounted faults xs in
      let empty : P [] = λ k d h. absurd (omega (arith, h)) in
      subst P (sym none) empty

  -- a run over feeds, handed out
  pub run_of_feeds : (pivots : ℕ) (feeds names : List Text) (opener : OpenerSeen) (ends : List (FeedEnd S)) (history : List Entry) (status : ℕ) (sink : SinkSeen)
      → names ≡ feeds → IsCourse left faults names pivots opener (record { ends = ends; history = history }) status sink
      → IsRunOf left faults (Some (Once pivots feeds)) opener ends history status sink
  run_of_feeds pivots feeds names opener ends history status sink same course =
      let P : List Text → Type 0 = λ texts. IsCourse left faults texts pivots opener (record { ends = ends; history = history }) status sink in
      record { handed = OfFeeds (record { ends = ends; history = history }); ends_are = refl; history_is = refl; course = subst P same course }

  -- a run that reads no feed, handed out
  pub run_of_text : (command : Option Command) (opener : OpenerSeen) (ends : List (FeedEnd S)) (history : List Entry) (status : ℕ) (sink : SinkSeen)
      → IsUnbegun (record { ends = ends; history = history }) → IsCourseOf left faults command opener StatusAlone status sink → IsRunOf left faults command opener ends history status sink
  run_of_text command opener ends history status sink unbegun course =
      record { handed = StatusAlone; ends_are = unbegun.no_feed; history_is = unbegun.no_history; course = course }

  module _ (told : Told) (promises opens_told : Type 0) (count : ℕ) (ends : List (FeedEnd S)) (history : List Entry) (sink : SinkSeen)
      (unbegun : IsUnbegun (record { ends = ends; history = history })) (nothing : WritesNothing sink) where
    abbrev seen : OpenerSeen
    seen = record { told = told; told_after = told; promises = promises; opens_told = opens_told; faults_before = count; faults_after = count }

    course_at_once : (pivots : ℕ) (feeds : List Text) → IsCourse left faults feeds pivots seen (record { ends = ends; history = history }) WANT_OF_MEMORY sink
    course_at_once pivots feeds = inr (refl, nothing, inl (unbegun, 0, stops_at_once feeds told promises opens_told count))

    -- the run of any command, or if there is none, if no memory was left before anything was begun
    pub run_without_memory : (command : Option Command) → IsRunOf left faults command seen ends history WANT_OF_MEMORY sink
    run_without_memory None = run_of_text None seen ends history WANT_OF_MEMORY sink unbegun (says refusal told promises opens_told count WANT_OF_MEMORY sink (inr (refl, nothing)))
    run_without_memory (Some Help) = run_of_text (Some Help) seen ends history WANT_OF_MEMORY sink unbegun (says help told promises opens_told count WANT_OF_MEMORY sink (inr (refl, nothing)))
    run_without_memory (Some Version) =
        run_of_text (Some Version) seen ends history WANT_OF_MEMORY sink unbegun (says version_told told promises opens_told count WANT_OF_MEMORY sink (inr (refl, nothing)))
    run_without_memory (Some (Once pivots feeds)) = run_of_feeds pivots feeds feeds seen ends history WANT_OF_MEMORY sink refl (course_at_once pivots feeds)

    pub causes_without_memory : ((names : List Text) (budget : ℕ) → IsCourse left faults names budget seen (record { ends = ends; history = history }) WANT_OF_MEMORY sink
        → AreCounted faults ends → (promises → WANT_OF_MEMORY ≢ NOT_READ) → HasCauses left faults names budget seen (record { ends = ends; history = history }) WANT_OF_MEMORY sink)
        → (command : Option Command) → HasCausesOf left faults command seen (record { ends = ends; history = history }) WANT_OF_MEMORY sink
    causes_without_memory law None =
        text_causes refusal seen WANT_OF_MEMORY sink (λ e. absurd (omega (arith, e))) (λ e. absurd (omega (arith, e))) (says refusal told promises opens_told count WANT_OF_MEMORY sink (inr (refl, nothing)))
    causes_without_memory law (Some Help) =
        text_causes help seen WANT_OF_MEMORY sink (λ e. absurd (omega (arith, e))) (λ e. absurd (omega (arith, e))) (says help told promises opens_told count WANT_OF_MEMORY sink (inr (refl, nothing)))
    causes_without_memory law (Some Version) =
        text_causes version_told seen WANT_OF_MEMORY sink (λ e. absurd (omega (arith, e))) (λ e. absurd (omega (arith, e)))
        (says version_told told promises opens_told count WANT_OF_MEMORY sink (inr (refl, nothing)))
    causes_without_memory law (Some (Once pivots feeds)) =
        law feeds pivots (course_at_once pivots feeds) (none_counted ends unbegun.no_feed) (λ promise e. absurd (omega (arith, e)))

  -- whatever the command, no failed read is hidden, and none comes against a promise
  pub counted_of : (command : Option Command) (opener : OpenerSeen) (ends : List (FeedEnd S)) (history : List Entry) (status : ℕ) (sink : SinkSeen)
      → IsRunOf left faults command opener ends history status sink → HasCausesOf left faults command opener (record { ends = ends; history = history }) status sink → AreCounted faults ends
  counted_of (Some (Once pivots feeds)) opener ends history status sink run causes = causes.source_faults
  counted_of None opener ends history status sink run causes = alone run.handed run.ends_are run.course
    where
      alone : (handed : Handed S) → ends ≡ Rattle.desk_definitions.specs.Course.ends_of handed → IsCourseOf left faults None opener handed status sink → AreCounted faults ends
      alone StatusAlone none course = none_counted ends none
      alone (OfFeeds out) none course = absurd course
  counted_of (Some Help) opener ends history status sink run causes = alone run.handed run.ends_are run.course
    where
      alone : (handed : Handed S) → ends ≡ Rattle.desk_definitions.specs.Course.ends_of handed → IsCourseOf left faults (Some Help) opener handed status sink → AreCounted faults ends
      alone StatusAlone none course = none_counted ends none
      alone (OfFeeds out) none course = absurd course
  counted_of (Some Version) opener ends history status sink run causes = alone run.handed run.ends_are run.course
    where
      alone : (handed : Handed S) → ends ≡ Rattle.desk_definitions.specs.Course.ends_of handed → IsCourseOf left faults (Some Version) opener handed status sink → AreCounted faults ends
      alone StatusAlone none course = none_counted ends none
      alone (OfFeeds out) none course = absurd course

  not_four : (due : Due) (opener : OpenerSeen) (status : ℕ) (sink : SinkSeen) → due.status ≢ NOT_READ → HasTextCauses due opener status sink → status ≢ NOT_READ
  not_four due opener status sink other causes e = elim causes.one_of [
    | inl is ↦ other (sym is ∙ e)
    | inr (inl is) ↦ absurd (omega (arith, is, e))
    | inr (inr is) ↦ absurd (omega (arith, is, e))
  ]

  pub promised_of : (command : Option Command) (opener : OpenerSeen) (out : Outcome S) (status : ℕ) (sink : SinkSeen) → HasCausesOf left faults command opener out status sink
      → opener.promises → status ≢ NOT_READ
  promised_of (Some (Once pivots feeds)) opener out status sink causes promise = causes.read_as_promised promise
  promised_of None opener out status sink causes promise = not_four refusal opener status sink (λ e. absurd (omega (arith, e))) causes
  promised_of (Some Help) opener out status sink causes promise = not_four help opener status sink (λ e. absurd (omega (arith, e))) causes
  promised_of (Some Version) opener out status sink causes promise = not_four version_told opener status sink (λ e. absurd (omega (arith, e))) causes
