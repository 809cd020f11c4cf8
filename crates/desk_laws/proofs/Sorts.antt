-- Each status of a run has its cause, and each cause its status.
use Rattle.std.proofs.Common.{◌≡◌, ◌≢◌, ℕ, ◌+◌, ◌<◌, ◌≤◌, ◌⊎◌, List, [], ◌∷◌, ◌++◌, length, get_or, take, drop, Option, Some, IfSome, cond, refl, sym, ap, ◌∙◌, subst, arith, inl, inr}
use Rattle.std.specs.Str.{bytes_eq}
use Rattle.std.proofs.lemmas.Bool.{false≢true}
use Rattle.std.proofs.lemmas.List.{take-append-drop, take_more}
use Rattle.std.proofs.lemmas.List.Sums.{sum_by-append}
use Rattle.std.proofs.lemmas.Slice.Eq.{bytes_eq-Decides}
use Rattle.outside_definitions.specs.Faults.{Rose}
use Rattle.outside_definitions.specs.Opener.{Told, times}
use Rattle.board_definitions.specs.declared.event.FeedStop.{FeedStop}
use Rattle.board_definitions.specs.declared.event.FeedStop.TheVariants as stops
use Rattle.desk_definitions.specs.declared.feed_end.FeedEnd.{FeedEnd}
use Rattle.desk_definitions.specs.declared.status.TheConstants.{DONE, NOT_OPENED, NOT_READ, NOT_WRITTEN, BAD_HEADER, WANT_OF_MEMORY, CUT}
use Rattle.desk_definitions.specs.Seen.{OpenerSeen, SinkSeen, Due}
use Rattle.desk_definitions.specs.Opening.{told_bytes, HasSources, LacksSource}
use Rattle.desk_definitions.specs.Course.{Outcome, IsUnbegun, IsDueForHeader, IsDue, IsCourse, WritesNothing, HasNoHeader}
use Rattle.desk_definitions.specs.Causes.{IsOrYields, HaveRun, SomeStop, NoneStops, HasFailedRead, HasFailedOpening, HasCauses, AreCounted, EndsWithout, HaveTwins, IsReported}
use Rattle.desk_laws.proofs.GoodFeeds.{complete}
use Rattle.desk_laws.proofs.Ends.{has_header, not_nothing, one_stop, no_twins, fault_found, cut_found, no_fault_found, StatusSays, Fault, Limit, Whole, status_says, all_ended, none_stops, counted_fault, last_fault, begun_headers, begun_not_failed, none_more}

-- a name stands once more among all names than among those before it
times_more : (name other : List ℕ) (earlier : List (List ℕ)) → times other (earlier ++ name ∷ []) ≡ times other earlier + cond (bytes_eq name other) 1 0
times_more name other earlier = sum_by-append (λ n. cond (bytes_eq n other) 1 0) earlier (name ∷ []) ∙ ap (λ k. times other earlier + k) {x = 0 + cond (bytes_eq name other) 1 0} {y = cond (bytes_eq name other) 1 0} (omega arith)

times_before : (names : List (List ℕ)) (k : ℕ) → k < length names → times (get_or names k []) (take k names) < times (get_or names k []) names
times_before names k lt =
    let name = get_or names k [] in
    let whole : times name names ≡ times name (take (k + 1) names) + times name (drop (k + 1) names) =
    ap (λ xs. times name xs) (sym (take-append-drop (k + 1) names)) ∙ sum_by-append (λ n. cond (bytes_eq n name) 1 0) (take (k + 1) names) (drop (k + 1) names) in
    let first : times name (take (k + 1) names) ≡ times name (take k names) + 1 =
    ap (λ xs. times name xs) (take_more names k [] lt) ∙ times_more name name (take k names) ∙ ap (λ b. times name (take k names) + cond b 1 0) ((bytes_eq-Decides name name).1 refl) in
    omega (arith, whole, first)

too_few : (told : Option (List (List ℕ))) (sources : List (List ℕ)) (count : ℕ) → told ≡ Some sources → IfSome told (λ xs. count ≤ length xs) → length sources < count → ⊥
too_few told sources count e enough few =
    let P : Option (List (List ℕ)) → Type 0 = λ o. IfSome o (λ xs. count ≤ length xs) in
    let h : count ≤ length sources = subst P e enough in
    omega arith

pub lacks_one : (told : Told) (names : List (List ℕ)) (k : ℕ) → k < length names → LacksSource told names k → HasSources told names → ⊥
lacks_one told names k lt lacks enough =
    too_few (told (get_or names k [])) lacks.sources (times (get_or names k []) names) lacks.are_told (enough (get_or names k [])) (omega (arith, lacks.too_few, times_before names k lt))

module _ {S : Type 0} (left : S → Option (List ℕ)) (faults : S → ℕ) (names : List (List ℕ)) (budget : ℕ) (opener : OpenerSeen) where
  -- what a due status says
  record IsRead (ends : List (FeedEnd S)) (status : ℕ) : Type 0 where
    run : HaveRun (length names) ends
    says : StatusSays ends status
    counted : SomeStop stops.ReadFault ends → HasFailedRead faults ends

  data Sort (ends : List (FeedEnd S)) (status : ℕ) : Type 0 where
    Unopened : status ≡ NOT_OPENED → HasFailedOpening names opener → ends ≡ [] → Sort ends status
    Unread : status ≡ NOT_READ → EndsWithout stops.ReadFault ends → HasFailedRead faults ends → Sort ends status
    Malformed : status ≡ BAD_HEADER → EndsWithout stops.BadHeader ends → NoneStops stops.ReadFault ends → Sort ends status
    Twins : status ≡ BAD_HEADER → HaveTwins (length names) ends → NoneStops stops.ReadFault ends → Sort ends status
    Read : IsRead ends status → Sort ends status

  header_sort : (out : Outcome S) (due : Due) (told : ℕ → Option (List ℕ)) (h : HasNoHeader left faults told (length names) out due) (s : FeedStop) → h.last.stop ≡ s → IsDueForHeader s (length h.front) h.read due →
      Sort out.ends due.status
  header_sort out due told h stops.End e d = absurd d
  header_sort out due told h stops.Cut e d = absurd d
  header_sort out due told h stops.NoMemory e d = absurd d
  header_sort out due told h stops.ReadFault e d =
      Unread (ap (λ (x : Due). x.status) d)
      (record { front = h.front; last = h.last; are = h.begun_are; no_header = h.last_read.is_end.header ∙ h.no_header; stop_is = e })
      (last_fault left faults (told (length h.front)) (length h.front) out.ends h.front h.last h.read.text h.read.lines h.begun_are h.last_read e)
  header_sort out due told h stops.BadHeader e d =
      Malformed (ap (λ (x : Due). x.status) d.2)
      (record { front = h.front; last = h.last; are = h.begun_are; no_header = h.last_read.is_end.header ∙ h.no_header; stop_is = e })
      (none_more stops.ReadFault out.ends h.front h.last h.begun_are (begun_not_failed left faults told 0 h.front h.reads h.begun) (λ f. let g = sym e ∙ f in absurd (cc)))

  due_sort : (out : Outcome S) (due : Due) → IsDue left faults names budget opener out due → Sort out.ends due.status
  due_sort out due (inl unopened) = Unopened (ap (λ (x : Due). x.status) unopened.due_is) (record { feed = unopened.feed; fails = unopened.fails }) unopened.unbegun.no_feed
  due_sort out due (inr (opens, inl h)) = header_sort out due (told_bytes opener.told names) h h.last.stop refl h.due_is
  due_sort out due (inr (opens, inr (inl h))) =
      Twins (ap (λ (x : Due). x.status) h.due_is)
      (record { all_named = h.all_named; headers = begun_headers left faults (told_bytes opener.told names) 0 out.ends h.reads h.begun; earlier = h.earlier; later = h.later; twins = h.twins })
      (begun_not_failed left faults (told_bytes opener.told names) 0 out.ends h.reads h.begun)
  due_sort out due (inr (opens, inr (inr h))) =
      Read (record {
        run = record { all_named = h.bodies.all_named; headers = h.bodies.headers; different = h.bodies.different };
        says = status_says out.ends due.status h.status_is;
        counted = counted_fault left faults (told_bytes opener.told names) out.ends h.reads h.bodies.read;
      })

  -- a cause under which a status is due
  no_name : (ends : List (FeedEnd S)) → HaveRun (length names) ends → HasFailedOpening names opener → ends ≡ [] → ⊥
  no_name ends run failed none = omega (arith, failed.fails.is_named, run.all_named, ap (λ (l : List (FeedEnd S)). length l) none)

  no_name_twins : (ends : List (FeedEnd S)) → HaveTwins (length names) ends → HasFailedOpening names opener → ends ≡ [] → ⊥
  no_name_twins ends run failed none = omega (arith, failed.fails.is_named, run.all_named, ap (λ (l : List (FeedEnd S)). length l) none)

  due_read : (ends : List (FeedEnd S)) (status : ℕ) → HaveRun (length names) ends → Sort ends status → IsRead ends status
  due_read ends status run (Unopened e failed none) = absurd (no_name ends run failed none)
  due_read ends status run (Unread e without failed) = absurd (has_header stops.ReadFault ends without run.headers)
  due_read ends status run (Malformed e without good) = absurd (has_header stops.BadHeader ends without run.headers)
  due_read ends status run (Twins e twins good) = absurd (no_twins ends twins.earlier twins.later twins.twins run.different)
  due_read ends status run (Read r) = r

  fault_due : (ends : List (FeedEnd S)) (status : ℕ) → SomeStop stops.ReadFault ends → StatusSays ends status → status ≡ NOT_READ
  fault_due ends status some (Fault e a) = e
  fault_due ends status some (Limit e f a) = absurd (false≢true (sym f ∙ fault_found ends some))
  fault_due ends status some (Whole e f c) = absurd (false≢true (sym f ∙ fault_found ends some))

  limit_due : (ends : List (FeedEnd S)) (status : ℕ) → NoneStops stops.ReadFault ends → SomeStop stops.Cut ends → StatusSays ends status → status ≡ CUT
  limit_due ends status none some (Fault e a) = absurd (false≢true (sym (no_fault_found ends none) ∙ fault_found ends a))
  limit_due ends status none some (Limit e f a) = e
  limit_due ends status none some (Whole e f c) = absurd (false≢true (sym c ∙ cut_found ends some))

  failed_due : (ends : List (FeedEnd S)) (status : ℕ) → SomeStop stops.ReadFault ends → Sort ends status → status ≡ NOT_READ
  failed_due ends status some (Unopened e failed none) = absurd (omega (arith, some.2, ap (λ (l : List (FeedEnd S)). length l) none))
  failed_due ends status some (Unread e without failed) = e
  failed_due ends status some (Malformed e without good) = absurd (false≢true (sym (no_fault_found ends good) ∙ fault_found ends some))
  failed_due ends status some (Twins e twins good) = absurd (false≢true (sym (no_fault_found ends good) ∙ fault_found ends some))
  failed_due ends status some (Read r) = fault_due ends status some r.says

  malformed_due : (ends : List (FeedEnd S)) (status : ℕ) → EndsWithout stops.BadHeader ends → Sort ends status → status ≡ BAD_HEADER
  malformed_due ends status w (Unopened e failed none) = absurd (not_nothing stops.BadHeader ends w none)
  malformed_due ends status w (Unread e without failed) = absurd (let h = one_stop stops.BadHeader stops.ReadFault ends w without in cc)
  malformed_due ends status w (Malformed e without good) = e
  malformed_due ends status w (Twins e twins good) = absurd (has_header stops.BadHeader ends w twins.headers)
  malformed_due ends status w (Read r) = absurd (has_header stops.BadHeader ends w r.run.headers)

  twins_due : (ends : List (FeedEnd S)) (status : ℕ) → HaveTwins (length names) ends → Sort ends status → status ≡ BAD_HEADER
  twins_due ends status t (Unopened e failed none) = absurd (no_name_twins ends t failed none)
  twins_due ends status t (Unread e without failed) = absurd (has_header stops.ReadFault ends without t.headers)
  twins_due ends status t (Malformed e without good) = e
  twins_due ends status t (Twins e twins good) = e
  twins_due ends status t (Read r) = absurd (no_twins ends t.earlier t.later t.twins r.run.different)

  -- a status by its cause
  opened_by : (ends : List (FeedEnd S)) (status : ℕ) → status ≡ NOT_OPENED → Sort ends status → HasFailedOpening names opener
  opened_by ends status e (Unopened f failed none) = failed
  opened_by ends status e (Unread f without failed) = absurd (omega (arith, e, f))
  opened_by ends status e (Malformed f without good) = absurd (omega (arith, e, f))
  opened_by ends status e (Twins f twins good) = absurd (omega (arith, e, f))
  opened_by ends status e (Read r) = by_says r.says
    where
      by_says : StatusSays ends status → HasFailedOpening names opener
      by_says (Fault f a) = absurd (omega (arith, e, f))
      by_says (Limit f h a) = absurd (omega (arith, e, f))
      by_says (Whole f h c) = absurd (omega (arith, e, f))

  read_by : (ends : List (FeedEnd S)) (status : ℕ) → status ≡ NOT_READ → Sort ends status → HasFailedRead faults ends
  read_by ends status e (Unopened f failed none) = absurd (omega (arith, e, f))
  read_by ends status e (Unread f without failed) = failed
  read_by ends status e (Malformed f without good) = absurd (omega (arith, e, f))
  read_by ends status e (Twins f twins good) = absurd (omega (arith, e, f))
  read_by ends status e (Read r) = by_says r.says
    where
      by_says : StatusSays ends status → HasFailedRead faults ends
      by_says (Fault f a) = r.counted a
      by_says (Limit f h a) = absurd (omega (arith, e, f))
      by_says (Whole f h c) = absurd (omega (arith, e, f))

  header_by : (ends : List (FeedEnd S)) (status : ℕ) → status ≡ BAD_HEADER → Sort ends status → EndsWithout stops.BadHeader ends ⊎ HaveTwins (length names) ends
  header_by ends status e (Unopened f failed none) = absurd (omega (arith, e, f))
  header_by ends status e (Unread f without failed) = absurd (omega (arith, e, f))
  header_by ends status e (Malformed f without good) = inl without
  header_by ends status e (Twins f twins good) = inr twins
  header_by ends status e (Read r) = by_says r.says
    where
      by_says : StatusSays ends status → EndsWithout stops.BadHeader ends ⊎ HaveTwins (length names) ends
      by_says (Fault f a) = absurd (omega (arith, e, f))
      by_says (Limit f h a) = absurd (omega (arith, e, f))
      by_says (Whole f h c) = absurd (omega (arith, e, f))

  cut_by : (ends : List (FeedEnd S)) (status : ℕ) → status ≡ CUT → Sort ends status → HaveRun (length names) ends × NoneStops stops.ReadFault ends × SomeStop stops.Cut ends
  cut_by ends status e (Unopened f failed none) = absurd (omega (arith, e, f))
  cut_by ends status e (Unread f without failed) = absurd (omega (arith, e, f))
  cut_by ends status e (Malformed f without good) = absurd (omega (arith, e, f))
  cut_by ends status e (Twins f twins good) = absurd (omega (arith, e, f))
  cut_by ends status e (Read r) = by_says r.says
    where
      by_says : StatusSays ends status → HaveRun (length names) ends × NoneStops stops.ReadFault ends × SomeStop stops.Cut ends
      by_says (Fault f a) = absurd (omega (arith, e, f))
      by_says (Limit f h a) = (r.run, none_stops ends h, a)
      by_says (Whole f h c) = absurd (omega (arith, e, f))

  -- no due status is that of a failed write, or of want of memory
  other_status : (ends : List (FeedEnd S)) (status : ℕ) → Sort ends status → (status ≢ NOT_WRITTEN) × (status ≢ WANT_OF_MEMORY)
  other_status ends status (Unopened f failed none) = (λ e. omega (arith, e, f), λ e. omega (arith, e, f))
  other_status ends status (Unread f without failed) = (λ e. omega (arith, e, f), λ e. omega (arith, e, f))
  other_status ends status (Malformed f without good) = (λ e. omega (arith, e, f), λ e. omega (arith, e, f))
  other_status ends status (Twins f twins good) = (λ e. omega (arith, e, f), λ e. omega (arith, e, f))
  other_status ends status (Read r) = by_says r.says
    where
      by_says : StatusSays ends status → (status ≢ NOT_WRITTEN) × (status ≢ WANT_OF_MEMORY)
      by_says (Fault f a) = (λ e. omega (arith, e, f), λ e. omega (arith, e, f))
      by_says (Limit f h a) = (λ e. omega (arith, e, f), λ e. omega (arith, e, f))
      by_says (Whole f h c) = (λ e. omega (arith, e, f), λ e. omega (arith, e, f))

  module _ (out : Outcome S) (status : ℕ) (sink : SinkSeen) where
    -- a status that is not that of a failed write or of want of memory is the one that was due
    sort_of : IsCourse left faults names budget opener out status sink → status ≢ NOT_WRITTEN → status ≢ WANT_OF_MEMORY → Sort out.ends status
    sort_of (inl (due, is, inl written)) w m = subst (λ (n : ℕ). Sort out.ends n) (sym written.status_is) (due_sort out due is)
    sort_of (inl (due, is, inr broken)) w m = absurd (w broken.status_is)
    sort_of (inr (seven, nothing, off)) w m = absurd (m seven)

    -- a cause has its status, which gives way
    yields : (cause : ℕ) → ((due : ℕ) → Sort out.ends due → due ≡ cause) → IsCourse left faults names budget opener out status sink → IsOrYields cause status
    yields cause by (inl (due, is, inl written)) = inl (written.status_is ∙ by due.status (due_sort out due is))
    yields cause by (inl (due, is, inr broken)) = inr (inl broken.status_is)
    yields cause by (inr (seven, nothing, off)) = inr (inr seven)

    done_by : IsCourse left faults names budget opener out status sink → status ≡ DONE → IsReported left faults (told_bytes opener.told names) (length names) budget out sink
    done_by (inr (seven, nothing, off)) e = absurd (omega (arith, e, seven))
    done_by (inl (due, is, inr broken)) e = absurd (omega (arith, e, broken.status_is))
    done_by (inl (due, inl unopened, inl written)) e = absurd (omega (arith, e, written.status_is, ap (λ (x : Due). x.status) unopened.due_is))
    done_by (inl (due, inr (opens, inl h), inl written)) e = absurd (header_not_done (due_sort out due (inr (opens, inl h))))
      where
        header_not_done : Sort out.ends due.status → ⊥
        header_not_done (Unopened f failed none) = omega (arith, e, f, written.status_is)
        header_not_done (Unread f without failed) = omega (arith, e, f, written.status_is)
        header_not_done (Malformed f without good) = omega (arith, e, f, written.status_is)
        header_not_done (Twins f twins good) = omega (arith, e, f, written.status_is)
        header_not_done (Read r) = has_header h.last.stop out.ends (record { front = h.front; last = h.last; are = h.begun_are; no_header = h.last_read.is_end.header ∙ h.no_header; stop_is = refl }) r.run.headers
    done_by (inl (due, inr (opens, inr (inl h)), inl written)) e = absurd (omega (arith, e, written.status_is, ap (λ (x : Due). x.status) h.due_is))
    done_by (inl (due, inr (opens, inr (inr h)), inl written)) e = by_says (status_says out.ends due.status h.status_is)
      where
        by_says : StatusSays out.ends due.status → IsReported left faults (told_bytes opener.told names) (length names) budget out sink
        by_says (Fault f a) = absurd (omega (arith, e, f, written.status_is))
        by_says (Limit f g a) = absurd (omega (arith, e, f, written.status_is))
        by_says (Whole f g c) = record { due = due; has = h; ended = all_ended out.ends h.bodies.stopped g c; written = written.written }

    not_written_by : IsCourse left faults names budget opener out status sink → status ≡ NOT_WRITTEN → Rose sink.faults_before sink.faults_after
    not_written_by (inl (due, is, inl written)) e = absurd ((other_status out.ends due.status (due_sort out due is)).0 (sym written.status_is ∙ e))
    not_written_by (inl (due, is, inr broken)) e = broken.fault
    not_written_by (inr (seven, nothing, off)) e = absurd (omega (arith, e, seven))

    else_written_by : IsCourse left faults names budget opener out status sink → status ≢ NOT_WRITTEN → sink.faults_after ≡ sink.faults_before
    else_written_by (inl (due, is, inl written)) e = written.no_fault
    else_written_by (inl (due, is, inr broken)) e = absurd (e broken.status_is)
    else_written_by (inr (seven, nothing, off)) e = nothing.no_fault

    no_memory_by : IsCourse left faults names budget opener out status sink → status ≡ WANT_OF_MEMORY → WritesNothing sink
    no_memory_by (inl (due, is, inl written)) e = absurd ((other_status out.ends due.status (due_sort out due is)).1 (sym written.status_is ∙ e))
    no_memory_by (inl (due, is, inr broken)) e = absurd (omega (arith, e, broken.status_is))
    no_memory_by (inr (seven, nothing, off)) e = nothing

    lacks_due : (k : ℕ) → k < length names → LacksSource opener.told names k → IsCourse left faults names budget opener out status sink → IsOrYields NOT_OPENED status
    lacks_due k lt lacks (inl (due, inl unopened, inl written)) = inl (written.status_is ∙ ap (λ (x : Due). x.status) unopened.due_is)
    lacks_due k lt lacks (inl (due, inr (opens, others), inl written)) = absurd (lacks_one opener.told names k lt lacks opens.enough)
    lacks_due k lt lacks (inl (due, is, inr broken)) = inr (inl broken.status_is)
    lacks_due k lt lacks (inr (seven, nothing, off)) = inr (inr seven)

    none_begun_by : (k : ℕ) → k < length names → LacksSource opener.told names k → IsCourse left faults names budget opener out status sink → IsUnbegun out
    none_begun_by k lt lacks (inl (due, inl unopened, written)) = unopened.unbegun
    none_begun_by k lt lacks (inl (due, inr (opens, others), written)) = absurd (lacks_one opener.told names k lt lacks opens.enough)
    none_begun_by k lt lacks (inr (seven, nothing, inl off)) = off.0
    none_begun_by k lt lacks (inr (seven, nothing, inr (opens, off))) = absurd (lacks_one opener.told names k lt lacks opens.enough)

    opener_by : IsCourse left faults names budget opener out status sink → (opener.faults_after ≡ opener.faults_before) ⊎ (HasFailedOpening names opener × IsOrYields NOT_OPENED status)
    opener_by (inl (due, inl unopened, inl written)) = inr (record { feed = unopened.feed; fails = unopened.fails }, inl (written.status_is ∙ ap (λ (x : Due). x.status) unopened.due_is))
    opener_by (inl (due, inl unopened, inr broken)) = inr (record { feed = unopened.feed; fails = unopened.fails }, inr (inl broken.status_is))
    opener_by (inl (due, inr (opens, others), written)) = inl opens.no_fault
    opener_by (inr (seven, nothing, inl off)) = inl off.2.no_fault
    opener_by (inr (seven, nothing, inr (opens, off))) = inl opens.no_fault

    pub causes : IsCourse left faults names budget opener out status sink → AreCounted faults out.ends → (opener.promises → status ≢ NOT_READ)
        → HasCauses left faults names budget opener out status sink
    causes course counted promised = record {
      done = done_by course;
      complete = complete left faults names budget opener out status sink course;
      read_as_promised = promised;
      source_faults = counted;
      not_opened = λ e. opened_by out.ends status e (sort_of course (λ f. omega (arith, e, f)) (λ f. omega (arith, e, f)));
      not_opened_due = λ k lt lacks. lacks_due k lt lacks course;
      none_begun = λ k lt lacks. none_begun_by k lt lacks course;
      opener_faults = opener_by course;
      not_read = λ e. read_by out.ends status e (sort_of course (λ f. omega (arith, e, f)) (λ f. omega (arith, e, f)));
      not_read_due = λ some. yields NOT_READ (λ due s. failed_due out.ends due some s) course;
      not_written = not_written_by course;
      else_written = else_written_by course;
      bad_header = λ e. header_by out.ends status e (sort_of course (λ f. omega (arith, e, f)) (λ f. omega (arith, e, f)));
      bad_header_due = λ w. yields BAD_HEADER (λ due s. malformed_due out.ends due w s) course;
      one_book_due = λ t. yields BAD_HEADER (λ due s. twins_due out.ends due t s) course;
      no_memory = no_memory_by course;
      cut = λ e. cut_by out.ends status e (sort_of course (λ f. omega (arith, e, f)) (λ f. omega (arith, e, f)));
      cut_due = λ run none some. yields CUT (λ due s. limit_due out.ends due none some (due_read out.ends due run s).says) course;
    }
