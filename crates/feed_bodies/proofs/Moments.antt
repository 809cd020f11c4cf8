-- A reader, a board and the refused lines, from one step to the next.
use Rattle.std.proofs.Common.{ℕ, ◌≡◌, ◌+◌, ◌<◌, ◌≤◌, Bool, true, false, cond, List, [], ◌∷◌, ◌++◌, length, take, drop, slice_get, refl, sym, ap, subst, ◌∙◌, arith, length-append, append-nil, append_assoc, ⊎_elim}
use Rattle.std.specs.Prelude.{◌≢◌, Option, Some, None, not, min}
use Rattle.std.specs.Io.KnownBytes.{IsAtEnd}
use Rattle.std.specs.Option.{is_some}
use Rattle.std.proofs.lemmas.Bool.{cases_Bool}
use Rattle.std.proofs.lemmas.List.{take-append-drop, length-take}
use Rattle.std.proofs.lemmas.List.Elements.{filter_map-append}
use Rattle.outside_definitions.specs.Faults.{Rose}
use Rattle.scan_types.specs.declared.rule.VoidRule.{VoidRule}
use Rattle.feed_definitions.specs.declared.accepted.Accepted.{Accepted}
use Rattle.feed_definitions.specs.declared.cause.Refusal.{Refusal}
use Rattle.feed_definitions.specs.declared.header.Header.{Header}
use Rattle.feed_definitions.specs.declared.step.Step.{Step}
use Rattle.feed_definitions.specs.declared.step.Step.TheVariants as step
use Rattle.feed_definitions.specs.Feed.{accepted_in, steps}
use Rattle.feed_definitions.specs.Answers.{ends_feed}
use Rattle.feed_definitions.proofs.Walk.{accepted_joined}
use Rattle.board_definitions.specs.declared.event.FeedStop.{FeedStop}
use Rattle.board_definitions.specs.declared.event.FeedStop.TheVariants as stops
use Rattle.board_definitions.specs.declared.event.Entry.{Entry}
use Rattle.quote_board.specs.Views.{BoardView}
use Rattle.desk_definitions.specs.Ends.{header_in, refused_line, refused_in, IsStopOf, AreKept}
use Rattle.desk_definitions.specs.Lines.{entry_of, entries_of}
use Rattle.feed_board_laws.specs.Bodies.{HoldsLines, IsAcceptedAfter}
use Rattle.feed_board_laws.proofs.Takes.{line_held}
use Rattle.feed_board_laws.proofs.Accepts.{steps_accepted}
use Rattle.feed_lines.specs.Reader.{ReaderView, its_steps, answered, is_of_line, is_read_fault}
use Rattle.feed_bodies.specs.Bodies.{stop_of, with_entries, IsReadyFor, ArePut, IsBegun, IsBetween, IsOver}
use Rattle.feed_bodies.proofs.Steps.{steps_few, is_first, behind_header, end_read, fault_read, cut_read}

-- what one step of a reader told
pub record IsNext {S : Type 0} (left : S → Option (List ℕ)) (faults : S → ℕ) (old new : ReaderView S) (s : Step) : Type 0 where
  pub item : slice_get (its_steps new) old.answers ≡ Some s
  pub earlier : take old.answers (its_steps new) ≡ answered old
  pub one_more : answered new ≡ answered old ++ s ∷ []
  pub last : ends_feed s ≡ true → its_steps new ≡ answered new
  pub counted : new.answers ≡ old.answers + 1
  pub over_is : new.over ≡ ends_feed s
  pub ended_is : new.ended ≡ not (is_of_line s)
  pub drained : old.drained ≡ false → new.drained ≡ true → IsAtEnd (left new.source)
  pub stays : old.drained ≡ true → (new.drained ≡ true) × (new.taken ≡ old.taken) × (new.source ≡ old.source)
  pub fault : is_read_fault s ≡ true → Rose (faults old.source) (faults new.source)

-- steps

none_of_line : (s : Step) → stop_of s ≡ None → is_of_line s ≡ true
none_of_line (step.Header header) h = refl
none_of_line (step.BadHeader r) h = refl
none_of_line (step.Line line) h = refl
none_of_line (step.Refused r) h = refl
none_of_line step.Skipped h = refl
none_of_line step.End h = absurd (cc h)
none_of_line step.Cut h = absurd (cc h)
none_of_line step.ReadFault h = absurd (cc h)

goes_on : (s : Step) → stop_of s ≡ None → is_first s ≡ false → ends_feed s ≡ false
goes_on (step.Header header) h f = absurd (cc f)
goes_on (step.BadHeader r) h f = absurd (cc f)
goes_on (step.Line line) h f = refl
goes_on (step.Refused r) h f = refl
goes_on step.Skipped h f = refl
goes_on step.End h f = absurd (cc h)
goes_on step.Cut h f = absurd (cc h)
goes_on step.ReadFault h f = absurd (cc h)

header_more : (xs ys : List Step) (header : Header) → header_in xs ≡ Some header → header_in (xs ++ ys) ≡ Some header
header_more [] ys header h = absurd (cc h)
header_more (step.Header first ∷ xs) ys header h = h
header_more (step.BadHeader r ∷ xs) ys header h = absurd (cc h)
header_more (step.Line line ∷ xs) ys header h = absurd (cc h)
header_more (step.Refused r ∷ xs) ys header h = absurd (cc h)
header_more (step.Skipped ∷ xs) ys header h = absurd (cc h)
header_more (step.End ∷ xs) ys header h = absurd (cc h)
header_more (step.Cut ∷ xs) ys header h = absurd (cc h)
header_more (step.ReadFault ∷ xs) ys header h = absurd (cc h)

refused_joined : (xs ys : List Step) → refused_in (xs ++ ys) ≡ refused_in xs ++ refused_in ys
refused_joined xs ys = filter_map-append refused_line xs ys

entries_joined : (feed : ℕ) (xs ys : List Accepted) → entries_of feed (xs ++ ys) ≡ entries_of feed xs ++ entries_of feed ys
entries_joined feed [] ys = refl
entries_joined feed (x ∷ xs) ys = ap (λ (es : List Entry). entry_of feed x ∷ es) (entries_joined feed xs ys)

-- boards

module _ {W : Type 0} where
  with_nothing : (board : BoardView W) → with_entries board [] ≡ board
  with_nothing board = ap (λ (h : List Entry). record { history = h; fixed = board.fixed }) (append-nil board.history)

  with_both : (board : BoardView W) (es fs : List Entry) → with_entries (with_entries board es) fs ≡ with_entries board (es ++ fs)
  with_both board es fs = ap (λ (h : List Entry). record { history = h; fixed = board.fixed }) (append_assoc board.history es fs)

same_held : (rules : List (Option VoidRule)) (history : List Entry) (feed : ℕ) (lines : List Accepted) → HoldsLines rules history feed lines →
    HoldsLines rules (history ++ []) feed (lines ++ [])
same_held rules history feed lines holds =
    let P : List Entry → Type 0 = λ h. HoldsLines rules h feed (lines ++ []) in
    let Q : List Accepted → Type 0 = λ xs. HoldsLines rules history feed xs in
    subst P (sym (append-nil history)) (subst Q (sym (append-nil lines)) holds)

-- the board holds the line of a step too
held_more : (rules : List (Option VoidRule)) (history : List Entry) (feed : ℕ) (lines : List Accepted) (s : Step) → HoldsLines rules history feed lines →
    HoldsLines rules (history ++ entries_of feed (accepted_in (s ∷ []))) feed (lines ++ accepted_in (s ∷ []))
held_more rules history feed lines (step.Line line) holds = line_held rules history feed lines line holds
held_more rules history feed lines (step.Header header) holds = same_held rules history feed lines holds
held_more rules history feed lines (step.BadHeader r) holds = same_held rules history feed lines holds
held_more rules history feed lines (step.Refused r) holds = same_held rules history feed lines holds
held_more rules history feed lines step.Skipped holds = same_held rules history feed lines holds
held_more rules history feed lines step.End holds = same_held rules history feed lines holds
held_more rules history feed lines step.Cut holds = same_held rules history feed lines holds
held_more rules history feed lines step.ReadFault holds = same_held rules history feed lines holds

above_zero : (old new : ℕ) → Rose old new → 0 < new
above_zero old new rose = omega (arith, rose)

module _ {S W : Type 0} (left : S → Option (List ℕ)) (faults : S → ℕ) (feed : ℕ) (header : Header) (before : BoardView W) where
  -- at the start
  pub between_start : (reader : ReaderView S) → IsReadyFor before feed header → IsBegun left feed header reader → IsBetween left feed header before before [] reader
  between_start reader ready begun =
      let nothing : accepted_in (answered reader) ≡ [] = ap accepted_in begun.answered_is in
      let one = begun.one_answer in
      record {
        begins = ap header_in begun.answered_is;
        each_answer = one ∙ sym (ap length begun.answered_is);
        some = omega (arith, one);
        not_ended = begun.not_ended;
        not_over = begun.not_over;
        at_end = begun.at_end;
        holds = record { exists = ap (λ (o : Option VoidRule). is_some o) ready.rule; running = ready.running; lines_are = ready.no_lines ∙ sym nothing };
        added = sym (with_nothing before) ∙ ap (λ (xs : List Accepted). with_entries before (entries_of feed xs)) (sym nothing);
        kept = sym (ap refused_in begun.answered_is);
      }

  module _ (now : BoardView W) (refusals : List Refusal) (a b : ReaderView S) (s : Step) (was : IsBetween left feed header before now refusals a) (next : IsNext left faults a b s) where
    -- the source has nothing left if a read has said so
    at_end_now : b.drained ≡ true → IsAtEnd (left b.source)
    at_end_now now_drained = ⊎_elim
        (λ (before_ : a.drained ≡ true). let P : S → Type 0 = λ source. IsAtEnd (left source) in subst P (sym (next.stays before_).2) (was.at_end before_))
        (λ (not_before : a.drained ≡ false). next.drained not_before now_drained)
        (cases_Bool a.drained)

    of_line_first : stop_of s ≡ None → (is_of_line s ≡ true) × (is_first s ≡ false)
    of_line_first on_ =
        let of = none_of_line s on_ in
        (of, (behind_header (not b.drained) b.taken a.answers s was.some next.item).1 of)

    -- an accepted line may be taken
    pub may_take : (line : Accepted) → s ≡ step.Line line → IsAcceptedAfter (accepted_in (answered a)) line
    may_take line is =
        let P : List Step → Type 0 = λ xs. IsAcceptedAfter (accepted_in xs) line in
        subst P next.earlier (steps_accepted (not b.drained) b.taken a.answers line (next.item ∙ ap (λ (t : Step). Some t) is))

    accepted_now : accepted_in (answered b) ≡ accepted_in (answered a) ++ accepted_in (s ∷ [])
    accepted_now = ap accepted_in next.one_more ∙ accepted_joined (answered a) (s ∷ [])

    refused_now : refused_in (answered b) ≡ refused_in (answered a) ++ refused_in (s ∷ [])
    refused_now = ap refused_in next.one_more ∙ refused_joined (answered a) (s ∷ [])

    count_now : b.answers ≡ length (answered b)
    count_now =
        let each = was.each_answer in
        let counted = next.counted in
        let long : length (answered b) ≡ length (answered a ++ s ∷ []) = ap length next.one_more in
        omega (arith, each, counted, long, length-append (answered a) (s ∷ []))

    begins_now : header_in (answered b) ≡ Some header
    begins_now = ap header_in next.one_more ∙ header_more (answered a) (s ∷ []) header was.begins

    -- between this step and the next
    pub between_next : (then_ : BoardView W) (kept : List Refusal) → stop_of s ≡ None → then_ ≡ with_entries now (entries_of feed (accepted_in (s ∷ []))) → kept ≡ refusals ++ refused_in (s ∷ []) →
        IsBetween left feed header before then_ kept b
    between_next then_ kept on_ added more =
        let of = of_line_first on_ in
        let counted = next.counted in
        let P : BoardView W → Type 0 = λ board. HoldsLines board.fixed.rules board.history feed (accepted_in (answered b)) in
        let Q : List Accepted → Type 0 = λ xs. HoldsLines now.fixed.rules (now.history ++ entries_of feed (accepted_in (s ∷ []))) feed xs in
        record {
          begins = begins_now;
          each_answer = count_now;
          some = omega (arith, counted);
          not_ended = next.ended_is ∙ ap not of.0;
          not_over = next.over_is ∙ goes_on s on_ of.1;
          at_end = at_end_now;
          holds = subst P (sym added) (subst Q (sym accepted_now) (held_more now.fixed.rules now.history feed (accepted_in (answered a)) s was.holds));
          added = added
              ∙ ap (λ (board : BoardView W). with_entries board (entries_of feed (accepted_in (s ∷ [])))) was.added
              ∙ with_both before (entries_of feed (accepted_in (answered a))) (entries_of feed (accepted_in (s ∷ [])))
              ∙ ap (with_entries before) (sym (entries_joined feed (accepted_in (answered a)) (accepted_in (s ∷ []))))
              ∙ ap (λ (xs : List Accepted). with_entries before (entries_of feed xs)) (sym accepted_now);
          kept = more ∙ ap (λ (xs : List Refusal). xs ++ refused_in (s ∷ [])) was.kept ∙ sym refused_now;
        }

    -- no memory is left for what the step adds
    pub over_spilt : stop_of s ≡ None → IsOver left faults feed header before now refusals b stops.NoMemory
    over_spilt on_ =
        let of = of_line_first on_ in
        let count = count_now in
        let running = next.ended_is ∙ ap not of.0 in
        let one : cond {A = ℕ} b.ended 1 0 ≡ 0 = ap (λ (c : Bool). cond {A = ℕ} c 1 0) running in
        record {
          lines = answered b;
          put = accepted_in (answered a);
          begins = begins_now;
          stop_is = (not b.drained, drop b.answers (its_steps b), sym (take-append-drop b.answers (its_steps b)));
          header_read = λ h. absurd (cc h);
          each_answer = omega (arith, count, one);
          put_is = (accepted_in (s ∷ []), accepted_now);
          kept = (refused_in (s ∷ []), refused_now ∙ ap (λ (xs : List Refusal). xs ++ refused_in (s ∷ [])) (sym was.kept));
          running = was.holds.running;
          added = was.added;
        }

    stop_so : (t : Step) (stop : FeedStop) → s ≡ t → stop_of t ≡ Some stop → IsStopOf stop (left b.source) (faults b.source) b.taken (answered a) × (b.ended ≡ true) × (stop ≢ stops.BadHeader) × (stop ≢ stops.NoMemory)
    stop_so step.End stop is of =
        let same : stops.End ≡ stop = cc of in
        let at : slice_get (steps (not b.drained) b.taken) a.answers ≡ Some step.End = next.item ∙ ap (λ (t : Step). Some t) is in
        let read : not b.drained ≡ false = end_read (not b.drained) b.taken a.answers was.some at in
        let out : b.drained ≡ true = not_false b.drained read in
        let all : its_steps b ≡ answered a ++ step.End ∷ [] = next.last (ap ends_feed is) ∙ next.one_more ∙ ap (λ (t : Step). answered a ++ t ∷ []) is in
        let P : FeedStop → Type 0 = λ st. IsStopOf st (left b.source) (faults b.source) b.taken (answered a) × (b.ended ≡ true) × (st ≢ stops.BadHeader) × (st ≢ stops.NoMemory) in
        subst P same ((ap (λ (failed : Bool). steps failed b.taken) (sym read) ∙ all, at_end_now out), next.ended_is ∙ ap (λ (t : Step). not (is_of_line t)) is, (λ h. absurd (cc h)), λ h. absurd (cc h))
      where
        not_false : (c : Bool) → not c ≡ false → c ≡ true
        not_false true h = refl
        not_false false h = absurd (cc h)
    stop_so step.Cut stop is of =
        let same : stops.Cut ≡ stop = cc of in
        let at : slice_get (steps (not b.drained) b.taken) a.answers ≡ Some step.Cut = next.item ∙ ap (λ (t : Step). Some t) is in
        let all : its_steps b ≡ answered a ++ step.Cut ∷ [] = next.last (ap ends_feed is) ∙ next.one_more ∙ ap (λ (t : Step). answered a ++ t ∷ []) is in
        let P : FeedStop → Type 0 = λ st. IsStopOf st (left b.source) (faults b.source) b.taken (answered a) × (b.ended ≡ true) × (st ≢ stops.BadHeader) × (st ≢ stops.NoMemory) in
        subst P same (cut_read (not b.drained) b.taken a.answers was.some at ∙ all, next.ended_is ∙ ap (λ (t : Step). not (is_of_line t)) is, (λ h. absurd (cc h)), λ h. absurd (cc h))
    stop_so step.ReadFault stop is of =
        let same : stops.ReadFault ≡ stop = cc of in
        let at : slice_get (steps (not b.drained) b.taken) a.answers ≡ Some step.ReadFault = next.item ∙ ap (λ (t : Step). Some t) is in
        let read : not b.drained ≡ true = fault_read (not b.drained) b.taken a.answers was.some at in
        let all : its_steps b ≡ answered a ++ step.ReadFault ∷ [] = next.last (ap ends_feed is) ∙ next.one_more ∙ ap (λ (t : Step). answered a ++ t ∷ []) is in
        let P : FeedStop → Type 0 = λ st. IsStopOf st (left b.source) (faults b.source) b.taken (answered a) × (b.ended ≡ true) × (st ≢ stops.BadHeader) × (st ≢ stops.NoMemory) in
        subst P same (
          (ap (λ (failed : Bool). steps failed b.taken) (sym read) ∙ all, above_zero (faults a.source) (faults b.source) (next.fault (ap is_read_fault is))),
          next.ended_is ∙ ap (λ (t : Step). not (is_of_line t)) is,
          (λ h. absurd (cc h)),
          λ h. absurd (cc h),
        )
    stop_so (step.Header h) stop is of = absurd (cc of)
    stop_so (step.BadHeader r) stop is of = absurd (cc of)
    stop_so (step.Line line) stop is of = absurd (cc of)
    stop_so (step.Refused r) stop is of = absurd (cc of)
    stop_so step.Skipped stop is of = absurd (cc of)

    all_put : (stop : FeedStop) → stop ≢ stops.NoMemory → (xs : List Accepted) → ArePut stop xs xs
    all_put stops.NoMemory other xs = absurd (other refl)
    all_put stops.End other xs = refl
    all_put stops.Cut other xs = refl
    all_put stops.ReadFault other xs = refl
    all_put stops.BadHeader other xs = refl

    all_kept : (stop : FeedStop) → stop ≢ stops.NoMemory → (xs ys : List Refusal) → xs ≡ ys → AreKept stop xs ys
    all_kept stops.NoMemory other xs ys same = absurd (other refl)
    all_kept stops.End other xs ys same = same
    all_kept stops.Cut other xs ys same = same
    all_kept stops.ReadFault other xs ys same = same
    all_kept stops.BadHeader other xs ys same = same

    -- the feed stops at the step
    pub over_stopped : (stop : FeedStop) → stop_of s ≡ Some stop → IsOver left faults feed header before now refusals b stop
    over_stopped stop of =
        let at = stop_so s stop refl of in
        let each = was.each_answer in
        let counted = next.counted in
        let one : cond {A = ℕ} b.ended 1 0 ≡ 1 = ap (λ (c : Bool). cond {A = ℕ} c 1 0) at.1 in
        record {
          lines = answered a;
          put = accepted_in (answered a);
          begins = was.begins;
          stop_is = at.0;
          header_read = at.2;
          each_answer = omega (arith, each, counted, one);
          put_is = all_put stop at.3 (accepted_in (answered a));
          kept = all_kept stop at.3 refusals (refused_in (answered a)) was.kept;
          running = was.holds.running;
          added = was.added;
        }

  -- no memory is left for the next step
  pub over_full : (now : BoardView W) (refusals : List Refusal) (a : ReaderView S) → IsBetween left feed header before now refusals a → IsOver left faults feed header before now refusals a stops.NoMemory
  over_full now refusals a was =
      let each = was.each_answer in
      let one : cond {A = ℕ} a.ended 1 0 ≡ 0 = ap (λ (c : Bool). cond {A = ℕ} c 1 0) was.not_ended in
      record {
        lines = answered a;
        put = accepted_in (answered a);
        begins = was.begins;
        stop_is = (not a.drained, drop a.answers (its_steps a), sym (take-append-drop a.answers (its_steps a)));
        header_read = λ h. absurd (cc h);
        each_answer = omega (arith, each, one);
        put_is = ([], sym (append-nil (accepted_in (answered a))));
        kept = ([], sym was.kept ∙ sym (append-nil refusals));
        running = was.holds.running;
        added = was.added;
      }

-- a reader between two steps has answered no more than a feed has steps
pub few_answers : {S : Type 0} (reader : ReaderView S) → reader.answers ≡ length (answered reader) → reader.answers ≤ 16385
few_answers reader each =
    let most = steps_few (not reader.drained) reader.taken in
    let taken : length (answered reader) ≡ min reader.answers (length (its_steps reader)) = length-take reader.answers (its_steps reader) in
    omega (arith, each, most, taken)
