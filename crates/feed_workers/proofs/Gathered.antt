-- The lines in hand, from one step to the next.
use Rattle.std.proofs.Common.{ℕ, ◌≡◌, List, [], ◌∷◌, ◌++◌, refl, sym, ap, ◌∙◌, subst, append_assoc, append-nil, Some, None}
use Rattle.std.specs.Prelude.{Option}
use Rattle.scan_types.specs.declared.rule.VoidRule.{VoidRule}
use Rattle.feed_definitions.specs.declared.accepted.Accepted.{Accepted}
use Rattle.feed_definitions.specs.declared.cause.Refusal.{Refusal}
use Rattle.feed_definitions.specs.declared.header.Header.{Header}
use Rattle.feed_definitions.specs.declared.step.Step.{Step}
use Rattle.feed_definitions.specs.declared.step.Step.TheVariants as step
use Rattle.feed_definitions.specs.Feed.{accepted_in}
use Rattle.feed_definitions.proofs.Walk.{accepted_joined}
use Rattle.board_definitions.specs.declared.event.FeedStop.{FeedStop}
use Rattle.board_definitions.specs.declared.event.FeedStop.TheVariants as stops
use Rattle.quote_board.specs.Views.{BoardView}
use Rattle.desk_definitions.specs.Ends.{refused_in}
use Rattle.desk_definitions.specs.Lines.{entries_of}
use Rattle.feed_board_laws.specs.Bodies.{IsAcceptedAfter}
use Rattle.feed_lines.specs.Reader.{ReaderView, answered}
use Rattle.feed_bodies.specs.Bodies.{stop_of, with_entries, IsOver}
use Rattle.feed_bodies.proofs.Moments.{IsNext, may_take, between_next, over_stopped, over_spilt, over_full}
use Rattle.feed_workers.specs.Runs.{alone, AreAccepted, IsGathered, IsGatheredOver}
use Rattle.feed_workers.proofs.Lines.{joined}

accepted_more : (put lines : List Accepted) (line : Accepted) → AreAccepted put lines → IsAcceptedAfter (put ++ lines) line → AreAccepted put (lines ++ line ∷ [])
accepted_more put [] line are next = (subst (λ (xs : List Accepted). IsAcceptedAfter xs line) (append-nil put) next, tt)
accepted_more put (first ∷ lines) line are next = (
  are.0,
  accepted_more (put ++ first ∷ []) lines line are.1
      (subst (λ (xs : List Accepted). IsAcceptedAfter xs line) (sym (append_assoc put (first ∷ []) lines)) next),
)

nothing_more : (put lines : List Accepted) → AreAccepted put lines → AreAccepted put (lines ++ [])
nothing_more put lines are = subst (AreAccepted put) (sym (append-nil lines)) are

accepted_step : (put lines : List Accepted) (s : Step) → AreAccepted put lines → ((line : Accepted) → s ≡ step.Line line → IsAcceptedAfter (put ++ lines) line) → AreAccepted put (lines ++ accepted_in (s ∷ []))
accepted_step put lines (step.Line line) are may = accepted_more put lines line are (may line refl)
accepted_step put lines (step.Header header) are may = nothing_more put lines are
accepted_step put lines (step.BadHeader r) are may = nothing_more put lines are
accepted_step put lines (step.Refused r) are may = nothing_more put lines are
accepted_step put lines step.Skipped are may = nothing_more put lines are
accepted_step put lines step.End are may = nothing_more put lines are
accepted_step put lines step.Cut are may = nothing_more put lines are
accepted_step put lines step.ReadFault are may = nothing_more put lines are

module _ {S : Type 0} (left : S → Option (List ℕ)) (faults : S → ℕ) (feed : ℕ) (rules : List (Option VoidRule)) (header : Header) (put : List Accepted) where
  now_of : ReaderView S → BoardView (Unit {0})
  now_of reader = alone rules (entries_of feed (accepted_in (answered reader)))

  module _ (lines : List Accepted) (refusals : List Refusal) (a b : ReaderView S) (s : Step) (was : IsGathered left feed rules header put lines refusals a) (next : IsNext left faults a b s) where
    accepted_then : accepted_in (answered b) ≡ accepted_in (answered a) ++ accepted_in (s ∷ [])
    accepted_then = ap accepted_in next.one_more ∙ accepted_joined (answered a) (s ∷ [])

    -- one step more is in hand
    pub gathered_next : (more : List Accepted) (kept : List Refusal) → stop_of s ≡ None → more ≡ lines ++ accepted_in (s ∷ []) → kept ≡ refusals ++ refused_in (s ∷ []) →
        IsGathered left feed rules header put more kept b
    gathered_next more kept on_ more_is kept_is =
        let then_ : alone rules (entries_of feed (accepted_in (answered b))) ≡ with_entries (alone rules (entries_of feed (accepted_in (answered a)))) (entries_of feed (accepted_in (s ∷ []))) =
        ap (alone rules) (ap (entries_of feed) accepted_then ∙ joined feed (accepted_in (answered a)) (accepted_in (s ∷ []))) in
        let may : (line : Accepted) → s ≡ step.Line line → IsAcceptedAfter (put ++ lines) line =
        λ line is. subst (λ (xs : List Accepted). IsAcceptedAfter xs line) was.all
        (may_take left faults feed header (alone rules []) (alone rules (entries_of feed (accepted_in (answered a)))) refusals a b s was.between next line is) in
        record {
          between = between_next left faults feed header (alone rules []) (alone rules (entries_of feed (accepted_in (answered a)))) refusals a b s was.between next
              (alone rules (entries_of feed (accepted_in (answered b)))) kept on_ then_ kept_is;
          all = accepted_then ∙ ap (λ (xs : List Accepted). xs ++ accepted_in (s ∷ [])) was.all ∙ append_assoc put lines (accepted_in (s ∷ []))
              ∙ ap (λ (xs : List Accepted). put ++ xs) (sym more_is);
          next = subst (AreAccepted put) (sym more_is) (accepted_step put lines s was.next may);
        }

    over_in_hand : (stop : FeedStop) → IsOver left faults feed header (alone rules []) (alone rules (entries_of feed (accepted_in (answered a)))) refusals b stop →
        IsGatheredOver left feed rules header faults put lines refusals b stop
    over_in_hand stop over = record {
      over = subst (λ (xs : List Accepted). IsOver left faults feed header (alone rules []) (alone rules (entries_of feed xs)) refusals b stop) was.all over;
      next = was.next;
    }

    -- the feed stops at the step
    pub gathered_stopped : (stop : FeedStop) → stop_of s ≡ Some stop → IsGatheredOver left feed rules header faults put lines refusals b stop
    gathered_stopped stop of = over_in_hand stop
        (over_stopped left faults feed header (alone rules []) (alone rules (entries_of feed (accepted_in (answered a)))) refusals a b s was.between next stop of)

    -- no memory is left for what the step tells
    pub gathered_spilt : stop_of s ≡ None → IsGatheredOver left feed rules header faults put lines refusals b stops.NoMemory
    gathered_spilt on_ = over_in_hand stops.NoMemory
        (over_spilt left faults feed header (alone rules []) (alone rules (entries_of feed (accepted_in (answered a)))) refusals a b s was.between next on_)

  -- no memory is left for the next step
  pub gathered_full : (lines : List Accepted) (refusals : List Refusal) (a : ReaderView S) → IsGathered left feed rules header put lines refusals a →
      IsGatheredOver left feed rules header faults put lines refusals a stops.NoMemory
  gathered_full lines refusals a was = record {
    over = subst (λ (xs : List Accepted). IsOver left faults feed header (alone rules []) (alone rules (entries_of feed xs)) refusals a stops.NoMemory) was.all
        (over_full left faults feed header (alone rules []) (alone rules (entries_of feed (accepted_in (answered a)))) refusals a was.between);
    next = was.next;
  }
