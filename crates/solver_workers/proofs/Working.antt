-- Pins that were made and ended, one behind the other.
use Rattle.std.proofs.Common.{ℕ, ◌≡◌, ◌≤◌, ◌<◌, false, List, [], ◌∷◌, ◌++◌, length, take, refl, sym, ap, ap₂, ◌∙◌, subst, arith, length-append, append_assoc, append-nil, Some, None}
use Rattle.std.specs.Prelude.{Option, slice_get, IfSome}
use Rattle.std.proofs.lemmas.List.{take-append-le}
use Rattle.std.proofs.Math.Seq.{take-append_seam}
use Rattle.std.proofs.lemmas.Option.{slice_get_within}
use Rattle.scan_types.specs.declared.offer.Offer.{Offer}
use Rattle.scan_types.specs.declared.rule.VoidRule.{VoidRule}
use Rattle.finding_definitions.specs.declared.finding.Finding.{Finding}
use Rattle.board_definitions.specs.declared.event.Entry.{Entry}
use Rattle.board_definitions.specs.declared.pin.Pin.{Pin}
use Rattle.board_definitions.specs.Sheets.{sheet}
use Rattle.board_definitions.specs.Legal.{IsLegal}
use Rattle.board_definitions.proofs.Live.{slice_get-before, slice_get-last, sheet_stays}
use Rattle.board_laws.specs.Callers.{holds_pin}
use Rattle.board_laws.proofs.Pins.{holds_more}
use Rattle.turn_lock.specs.Passes.{Known}
use Rattle.board_definitions.specs.Pins.{HaveAllEnded}
use Rattle.quote_board.specs.Answers.{NoneIsDue}
use Rattle.quote_board.specs.Shared.{calls_by, IsTurnOf}
use Rattle.quote_board.proofs.Turning.{turn_later, later_self, later_trans}
use Rattle.desk_definitions.specs.Judged.{pinned_entry}
use Rattle.solver_workers.specs.declared.ends.SolverStop.{SolverStop}
use Rattle.solver_workers.specs.declared.ends.SolverStop.TheVariants as stops
use Rattle.solver_workers.specs.Works.{Work, end_of, work_entries, works_entries, IsWork, AreWorks, AreFiled, AreEnded, HasWorked}
use Rattle.solver_workers.specs.Turns.{MakesPin, StillHolds, EndsPin, StepEnds}

module _ (rules : List (Option VoidRule)) (allows : List Offer → Finding → Type 0) where
  -- a pin that was held is ended
  pub ends_pin : (old mid new : Known Entry) (history : List Entry) (pin : Pin) (finding : Option Finding) → StillHolds old mid pin →
      IsTurnOf rules allows mid history (end_of mid.number pin.version finding ∷ []) new → IfSome finding (λ found. allows (sheet rules old.seen pin.version pin.match_name) found) →
      EndsPin rules allows old new pin finding
  ends_pin old mid new history pin finding still turn allowed = record {
    later = later_trans old mid new still.later (turn_later rules allows mid new history (end_of mid.number pin.version finding ∷ []) turn);
    own = ap (λ (k : Known Entry). k.own) turn.then_ ∙ ap₂ (λ (xs : List Entry) (n : ℕ). xs ++ end_of n pin.version finding ∷ []) still.own still.later.number;
    allowed = allowed;
    legal = subst (IsLegal rules allows) (sym (ap (λ (k : Known Entry). k.seen) turn.then_)) turn.legal;
  }

  -- the work of a pin that was made and ended
  abbrev pub work_of : Pin → Option Finding → Work
  work_of pin finding = record { match_name = pin.match_name; version = pin.version; finding = finding }

  if_some_same : (sheet_is other : List Offer) (finding : Option Finding) → sheet_is ≡ other → IfSome finding (λ found. allows sheet_is found) → IfSome finding (λ found. allows other found)
  if_some_same sheet_is other finding same h = subst (λ (offers : List Offer). IfSome finding (λ found. allows offers found)) same h

  pub one_work : (old mid new : Known Entry) (history : List Entry) (pin : Pin) (finding : Option Finding) → MakesPin rules allows old history mid pin → EndsPin rules allows mid new pin finding →
      HasWorked rules allows old new (work_of pin finding ∷ [])
  one_work old mid new history pin finding made ends =
      let p = pinned_entry old.number pin.match_name in
      let version : pin.version ≡ length history = ap (λ (x : Pin). x.version) made.1 in
      let first : mid.seen ≡ history ++ p ∷ [] = ap (λ (k : Known Entry). k.seen) made.0.then_ in
      let own : mid.own ≡ old.own ++ p ∷ [] = ap (λ (k : Known Entry). k.own) made.0.then_ in
      let number : mid.number ≡ old.number = ap (λ (k : Known Entry). k.number) made.0.then_ in
      let within : pin.version < length mid.seen = (let long = ap length first in omega (arith, version, long, length-append history (p ∷ []))) in
      let later = turn_later rules allows old mid history (p ∷ []) made.0 in
      let grown : mid.seen ++ ends.later.seen.0 ≡ new.seen = ends.later.seen.1 in
      record {
        later = later_trans old mid new later ends.later;
        own = ends.own ∙ ap₂ (λ (xs : List Entry) (n : ℕ). xs ++ end_of n pin.version finding ∷ []) own number ∙ append_assoc old.own (p ∷ []) (end_of old.number pin.version finding ∷ []);
        are = (
          record {
            pinned = ap (λ (h : List Entry). slice_get h pin.version) (sym grown) ∙ slice_get-before mid.seen ends.later.seen.0 pin.version within
                ∙ ap₂ (λ (h : List Entry) (v : ℕ). slice_get h v) first version ∙ slice_get-last history p;
            next = ap (λ (h : List Entry). calls_by old.number (take pin.version h)) (sym grown)
                ∙ ap (calls_by old.number) (take-append-le pin.version mid.seen ends.later.seen.0 (omega (arith, within)))
                ∙ ap₂ (λ (h : List Entry) (v : ℕ). calls_by old.number (take v h)) first version
                ∙ ap (calls_by old.number) (take-append_seam history (p ∷ []))
                ∙ made.0.own;
            allowed = if_some_same (sheet rules mid.seen pin.version pin.match_name) (sheet rules new.seen pin.version pin.match_name) finding
                (sym (ap (λ (h : List Entry). sheet rules h pin.version pin.match_name) (sym grown) ∙ sheet_stays rules mid.seen ends.later.seen.0 pin.version pin.match_name (omega (arith, within))))
                ends.allowed;
          },
          tt,
        );
      }

  -- the version is no less than what the pass had seen
  pub version_most : (old mid : Known Entry) (history : List Entry) (pin : Pin) → MakesPin rules allows old history mid pin → length old.seen ≤ pin.version
  version_most old mid history pin made =
      let version : pin.version ≡ length history = ap (λ (x : Pin). x.version) made.1 in
      let long = ap length made.0.seen.1 in
      omega (arith, version, long, length-append old.seen made.0.seen.0)

  -- a look is no work
  pub no_work : (old new : Known Entry) (history : List Entry) → IsTurnOf rules allows old history [] new → HasWorked rules allows old new []
  no_work old new history turn = record {
    later = turn_later rules allows old new history [] turn;
    own = ap (λ (k : Known Entry). k.own) turn.then_;
    are = tt;
  }

  -- what was seen in a turn is legal
  pub legal_seen : (old new : Known Entry) (history added : List Entry) → IsTurnOf rules allows old history added new → IsLegal rules allows new.seen
  legal_seen old new history added turn = subst (IsLegal rules allows) (sym (ap (λ (k : Known Entry). k.seen) turn.then_)) turn.legal

  -- a worker that is told so has finished
  pub finished_work : (old new : Known Entry) (history : List Entry) → IsTurnOf rules allows old history [] new × NoneIsDue history × HaveAllEnded rules history → StepEnds rules new.seen (Some stops.Finished) []
  finished_work old new history told =
      let seen : history ≡ new.seen = sym (append-nil history) ∙ sym (ap (λ (k : Known Entry). k.seen) told.0.then_) in
      (refl, subst NoneIsDue seen told.1, subst (HaveAllEnded rules) seen told.2)

  -- works stay works while entries are added
  work_stays : (history more : List Entry) (caller : ℕ) (earlier : List Entry) (work : Work) → IsWork rules allows history caller earlier work → IsWork rules allows (history ++ more) caller earlier work
  work_stays history more caller earlier work is =
      let within : work.version < length history = slice_get_within history work.version _ is.pinned in
      record {
        pinned = slice_get-before history more work.version within ∙ is.pinned;
        next = ap (calls_by caller) (take-append-le work.version history more (omega (arith, within))) ∙ is.next;
        allowed = if_some_same (sheet rules history work.version work.match_name) (sheet rules (history ++ more) work.version work.match_name) work.finding
            (sym (sheet_stays rules history more work.version work.match_name (omega (arith, within)))) is.allowed;
      }

  works_stay : (history more : List Entry) (caller : ℕ) (earlier : List Entry) (works : List Work) → AreWorks rules allows history caller earlier works → AreWorks rules allows (history ++ more) caller earlier works
  works_stay history more caller earlier [] are = tt
  works_stay history more caller earlier (work ∷ works) are =
      (work_stays history more caller earlier work are.0, works_stay history more caller (earlier ++ work_entries caller work) works are.1)

  works_joined : (history : List Entry) (caller : ℕ) (earlier : List Entry) (works more : List Work) → AreWorks rules allows history caller earlier works →
      AreWorks rules allows history caller (earlier ++ works_entries caller works) more → AreWorks rules allows history caller earlier (works ++ more)
  works_joined history caller earlier [] more are rest = subst (λ (xs : List Entry). AreWorks rules allows history caller xs more) (append-nil earlier) rest
  works_joined history caller earlier (work ∷ works) more are rest = (
    are.0,
    works_joined history caller (earlier ++ work_entries caller work) works more are.1
        (subst (λ (xs : List Entry). AreWorks rules allows history caller xs more) (sym (append_assoc earlier (work_entries caller work) (works_entries caller works))) rest),
  )

  entries_joined : (caller : ℕ) (works more : List Work) → works_entries caller (works ++ more) ≡ works_entries caller works ++ works_entries caller more
  entries_joined caller [] more = refl
  entries_joined caller (work ∷ works) more =
      ap (λ (xs : List Entry). work_entries caller work ++ xs) (entries_joined caller works more)
      ∙ sym (append_assoc (work_entries caller work) (works_entries caller works) (works_entries caller more))

  pub worked_on : (old mid new : Known Entry) (works more : List Work) → HasWorked rules allows old mid works → HasWorked rules allows mid new more → HasWorked rules allows old new (works ++ more)
  worked_on old mid new works more one other = record {
    later = later_trans old mid new one.later other.later;
    own = other.own
        ∙ ap₂ (λ (xs : List Entry) (n : ℕ). xs ++ works_entries n more) one.own one.later.number
        ∙ append_assoc old.own (works_entries old.number works) (works_entries old.number more)
        ∙ ap (λ (xs : List Entry). old.own ++ xs) (sym (entries_joined old.number works more));
    are = works_joined new.seen old.number old.own works more
        (subst (λ (h : List Entry). AreWorks rules allows h old.number old.own works) other.later.seen.1 (works_stay mid.seen other.later.seen.0 old.number old.own works one.are))
        (subst (λ (n : ℕ). AreWorks rules allows new.seen n (old.own ++ works_entries old.number works) more) one.later.number
        (subst (λ (xs : List Entry). AreWorks rules allows new.seen mid.number xs more) one.own other.are));
  }

  pub worked_none : (k : Known Entry) → HasWorked rules allows k k []
  worked_none k = record { later = later_self k; own = sym (append-nil k.own); are = tt }

  -- no pin is left
  work_free : (own : List Entry) (caller version : ℕ) (m : List ℕ) (finding : Option Finding) → holds_pin ((own ++ pinned_entry caller m ∷ []) ++ end_of caller version finding ∷ []) ≡ false
  work_free own caller version m None = holds_more (own ++ pinned_entry caller m ∷ []) (end_of caller version None)
  work_free own caller version m (Some found) = holds_more (own ++ pinned_entry caller m ∷ []) (end_of caller version (Some found))

  works_free : (own : List Entry) (caller : ℕ) (works : List Work) → holds_pin own ≡ false → holds_pin (own ++ works_entries caller works) ≡ false
  works_free own caller [] free = ap holds_pin (append-nil own) ∙ free
  works_free own caller (work ∷ works) free =
      ap holds_pin (sym (append_assoc own (work_entries caller work) (works_entries caller works)))
      ∙ works_free (own ++ work_entries caller work) caller works
      (ap holds_pin (sym (append_assoc own (pinned_entry caller work.match_name ∷ []) (end_of caller work.version work.finding ∷ []))) ∙ work_free own caller work.version work.match_name work.finding)

  pub free_then : (old new : Known Entry) (works : List Work) → HasWorked rules allows old new works → holds_pin old.own ≡ false → holds_pin new.own ≡ false
  free_then old new works worked free = ap holds_pin worked.own ∙ works_free old.own old.number works free

filed_both : (works more : List Work) → AreFiled works → AreFiled more → AreFiled (works ++ more)
filed_both [] more one other = other
filed_both (work ∷ works) more one other = (one.0, filed_both works more one.1 other)

pub filed_more : (works more : List Work) → AreFiled works → AreFiled more → AreFiled (works ++ more)
filed_more works more one other = filed_both works more one other

-- how a worker ends, by its last step
pub ended_so : (rules : List (Option VoidRule)) (seen : List Entry) (stop : SolverStop) (works more : List Work) → AreFiled works → StepEnds rules seen (Some stop) more → AreEnded stop (works ++ more)
ended_so rules seen stops.Finished works more one step = filed_both works more one (subst AreFiled (sym step.0) tt)
ended_so rules seen stops.NoMemory works more one step = (works, more, refl, step, one)
