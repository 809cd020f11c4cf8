-- A round of a feed: what was gathered is put, as far as memory is left.
use Rattle.std.proofs.Common.{ℕ, ◌≡◌, ◌≤◌, ◌<◌, List, [], ◌∷◌, ◌++◌, length, take, drop, refl, sym, ap, ◌∙◌, subst, arith, append_assoc, append-nil, Some, None, true, false, ⊎_elim}
use Rattle.std.specs.Prelude.{◌≢◌, ◌⊎◌, Option, IsSome}
use Rattle.std.proofs.lemmas.List.{take-append-drop, take_all}
use Rattle.scan_types.specs.declared.rule.VoidRule.{VoidRule}
use Rattle.feed_definitions.specs.declared.accepted.Accepted.{Accepted}
use Rattle.feed_definitions.specs.declared.cause.Refusal.{Refusal}
use Rattle.feed_definitions.specs.declared.header.Header.{Header}
use Rattle.feed_definitions.specs.declared.step.Step.{Step}
use Rattle.feed_definitions.specs.declared.step.Step.TheVariants as step
use Rattle.feed_definitions.specs.Feed.{accepted_in}
use Rattle.board_definitions.specs.declared.event.FeedStop.{FeedStop}
use Rattle.board_definitions.specs.declared.event.FeedStop.TheVariants as stops
use Rattle.board_definitions.specs.declared.event.Entry.{Entry}
use Rattle.board_definitions.specs.Entries.{rule_of}
use Rattle.quote_board.specs.Views.{BoardView}
use Rattle.desk_definitions.specs.Ends.{IsStopOf, AreKept}
use Rattle.desk_definitions.specs.Lines.{entries_of}
use Rattle.feed_board_laws.specs.Bodies.{lines_in}
use Rattle.feed_lines.specs.Reader.{ReaderView, answered}
use Rattle.feed_bodies.specs.Bodies.{ArePut, IsOver, IsBegun, IsBetween}
use Rattle.feed_bodies.proofs.Moments.{between_start}
use Rattle.feed_workers.specs.Runs.{alone, IsPut, IsPutOver, Rounds, Gathers}
use Rattle.feed_workers.proofs.Lines.{joined, held_alone}
use Rattle.feed_workers.proofs.Gathered.{gathered_full}

-- what any stop says, want of memory says too
stop_short : (stop : FeedStop) (left : Option (List ℕ)) (faults : ℕ) (text : List ℕ) (lines : List Step) → stop ≢ stops.BadHeader → IsStopOf stop left faults text lines → IsStopOf stops.NoMemory left faults text lines
stop_short stops.End left faults text lines other is = (false, step.End ∷ [], is.0)
stop_short stops.Cut left faults text lines other is = (false, step.Cut ∷ [], is)
stop_short stops.ReadFault left faults text lines other is = (true, step.ReadFault ∷ [], is.0)
stop_short stops.BadHeader left faults text lines other is = absurd (other refl)
stop_short stops.NoMemory left faults text lines other is = is

kept_short : (stop : FeedStop) (kept refused : List Refusal) → AreKept stop kept refused → AreKept stops.NoMemory kept refused
kept_short stops.End kept refused is = ([], sym is ∙ sym (append-nil kept))
kept_short stops.Cut kept refused is = ([], sym is ∙ sym (append-nil kept))
kept_short stops.ReadFault kept refused is = ([], sym is ∙ sym (append-nil kept))
kept_short stops.BadHeader kept refused is = ([], sym is ∙ sym (append-nil kept))
kept_short stops.NoMemory kept refused is = is

put_short : (stop : FeedStop) (put accepted : List Accepted) → ArePut stop put accepted → ArePut stops.NoMemory put accepted
put_short stops.End put accepted is = ([], sym is ∙ sym (append-nil put))
put_short stops.Cut put accepted is = ([], sym is ∙ sym (append-nil put))
put_short stops.ReadFault put accepted is = ([], sym is ∙ sym (append-nil put))
put_short stops.BadHeader put accepted is = ([], sym is ∙ sym (append-nil put))
put_short stops.NoMemory put accepted is = is

module _ {S : Type 0} (left : S → Option (List ℕ)) (faults : S → ℕ) (feed : ℕ) (rules : List (Option VoidRule)) (header : Header) (exists : IsSome (rule_of rules feed)) where
  -- entries tell which lines they are of
  same_lines : (one other : List Accepted) → entries_of feed one ≡ entries_of feed other → one ≡ other
  same_lines one other same =
      sym (held_alone rules feed one exists).lines_are ∙ ap (λ (h : List Entry). lines_in h feed) same ∙ (held_alone rules feed other exists).lines_are

  -- memory was left for some of the lines alone
  over_short : (put lines : List Accepted) (refusals : List Refusal) (reader : ReaderView S) (stop : FeedStop) (count : ℕ) →
      IsOver left faults feed header (alone rules []) (alone rules (entries_of feed (put ++ lines))) refusals reader stop →
      IsOver left faults feed header (alone rules []) (alone rules (entries_of feed (put ++ take count lines))) refusals reader stops.NoMemory
  over_short put lines refusals reader stop count over =
      let all : put ++ lines ≡ over.put = same_lines (put ++ lines) over.put (ap (λ (b : BoardView (Unit {0})). b.history) over.added) in
      let short = put_short stop over.put (accepted_in over.lines) over.put_is in
      record {
        lines = over.lines;
        put = put ++ take count lines;
        begins = over.begins;
        stop_is = stop_short stop _ _ _ over.lines over.header_read over.stop_is;
        header_read = λ h. absurd (cc h);
        each_answer = over.each_answer;
        put_is = (
          drop count lines ++ short.0,
          short.1 ∙ ap (λ (xs : List Accepted). xs ++ short.0) (sym all ∙ ap (λ (xs : List Accepted). put ++ xs) (sym (take-append-drop count lines)) ∙ sym (append_assoc put (take count lines) (drop count lines)))
              ∙ append_assoc (put ++ take count lines) (drop count lines) short.0,
        );
        kept = kept_short stop refusals _ over.kept;
        running = (held_alone rules feed (put ++ take count lines) exists).running;
        added = refl;
      }

  -- the round puts these lines of those in hand
  module _ (put lines : List Accepted) (refusals : List Refusal) (reader : ReaderView S) (own after : List Entry) (count : ℕ)
      (own_is : own ≡ entries_of feed put) (added : after ≡ own ++ entries_of feed (take count lines)) where
    after_is : after ≡ entries_of feed (put ++ take count lines)
    after_is = added ∙ ap (λ (es : List Entry). es ++ entries_of feed (take count lines)) own_is ∙ sym (joined feed put (take count lines))

    -- not all of them
    pub round_short : (stop : Option FeedStop) → Gathers left feed rules header faults put lines refusals reader stop → IsPutOver left feed rules header faults after refusals reader stops.NoMemory
    round_short None gathered =
        (put ++ take count lines, over_short put lines refusals reader stops.NoMemory count (gathered_full left faults feed rules header put lines refusals reader gathered).over, after_is)
    round_short (Some stop) over = (put ++ take count lines, over_short put lines refusals reader stop count over.over, after_is)

    -- all of them
    pub round_whole : length lines ≤ count → (stop : Option FeedStop) → Gathers left feed rules header faults put lines refusals reader stop → Rounds left feed rules header faults after refusals reader stop
    round_whole many None gathered = (
      put ++ lines,
      record { between = gathered.between; all = gathered.all ∙ sym (append-nil (put ++ lines)); next = tt },
      after_is ∙ ap (λ (xs : List Accepted). entries_of feed (put ++ xs)) (take_all count lines many),
    )
    round_whole many (Some stop) over =
        (put ++ lines, over.over, after_is ∙ ap (λ (xs : List Accepted). entries_of feed (put ++ xs)) (take_all count lines many))

-- before the first round
pub put_none : {S : Type 0} (left : S → Option (List ℕ)) (feed : ℕ) (rules : List (Option VoidRule)) (header : Header) (reader : ReaderView S) (own : List Entry) →
    rule_of rules feed ≡ Some header.rule → own ≡ [] → IsBegun left feed header reader → IsPut left feed rules header own [] reader
put_none left feed rules header reader own rule none begun =
    let nothing : accepted_in (answered reader) ≡ [] = ap accepted_in begun.answered_is in
    let start = between_start left (λ _. 0) feed header (alone rules []) reader (record { rule = rule; running = refl; no_lines = refl }) begun in (
      [],
      record {
        between = subst (λ (xs : List Accepted). IsBetween left feed header (alone rules []) (alone rules (entries_of feed xs)) [] reader) (sym nothing) start;
        all = nothing;
        next = tt;
      },
      none,
    )

-- no fault is counted by a round that has lines in hand
pub none_counted : {Same : Type 0} (result : Option FeedStop) (lines : List Accepted) → (result ≢ Some stops.ReadFault → Same) → (result ≡ Some stops.ReadFault → (lines ≡ []) ⊎ Same) →
    0 < length lines → Same
none_counted None lines other here some = other (λ h. absurd (cc h))
none_counted (Some stops.End) lines other here some = other (λ h. absurd (cc h))
none_counted (Some stops.Cut) lines other here some = other (λ h. absurd (cc h))
none_counted (Some stops.NoMemory) lines other here some = other (λ h. absurd (cc h))
none_counted (Some stops.BadHeader) lines other here some = other (λ h. absurd (cc h))
none_counted {Same} (Some stops.ReadFault) lines other here some = ⊎_elim (λ (none : lines ≡ []). absurd (let long = ap length none in omega (arith, long, some))) (λ (same : Same). same) (here refl)
