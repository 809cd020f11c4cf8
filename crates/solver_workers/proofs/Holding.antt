-- A pass that holds a pin, and what turns do to it.
use Rattle.std.proofs.Common.{ℕ, ◌≡◌, ◌<◌, List, [], ◌∷◌, ◌++◌, length, take, refl, sym, ap, ap₂, ◌∙◌, subst, arith, length-append, append-nil}
use Rattle.std.specs.Prelude.{Option}
use mathlib.Core.List.{IsPrefix}
use Rattle.std.proofs.lemmas.Option.{slice_get_within}
use Rattle.scan_types.specs.declared.offer.Offer.{Offer}
use Rattle.scan_types.specs.declared.rule.VoidRule.{VoidRule}
use Rattle.scan_types.specs.Sheets.{IsSheet}
use Rattle.finding_definitions.specs.declared.finding.Finding.{Finding}
use Rattle.board_definitions.specs.declared.event.Event.{Event}
use Rattle.board_definitions.specs.declared.event.Entry.{Entry}
use Rattle.board_definitions.specs.declared.pin.Pin.{Pin}
use Rattle.board_definitions.specs.Sheets.{sheet}
use Rattle.board_definitions.specs.Pins.{IsLive}
use Rattle.board_definitions.specs.Legal.{IsLegal}
use Rattle.board_definitions.proofs.Live.{sheet_stays}
use Rattle.board_definitions.proofs.More.{live_new}
use Rattle.board_definitions.proofs.Counts.{few_stand}
use Rattle.board_definitions.proofs.Rising.{sheet_is_sheet}
use Rattle.board_laws.proofs.Pins.{calls_own, calls_joined, others_keep}
use Rattle.turn_lock.specs.Passes.{Known}
use Rattle.quote_board.specs.declared.part.BoardPart.{BoardPart}
use Rattle.quote_board.specs.Views.{BoardView, with_entry}
use Rattle.quote_board.specs.Shared.{calls_by, IsTurnOf}
use Rattle.quote_board.proofs.Turning.{adding, turn_of, turn_later, later_self, later_trans}
use Rattle.desk_definitions.specs.Judged.{pinned_entry}
use Rattle.solver_workers.specs.Turns.{Holds, MakesPin, StillHolds}

nothing_left : {X : Type 0} (xs ys : List X) → xs ++ ys ≡ xs → ys ≡ []
nothing_left xs [] same = refl
nothing_left xs (y ∷ ys) same = let long = ap length same in absurd (omega (arith, long, length-append xs (y ∷ ys)))

-- nothing was added by the pass's own caller since
none_of_own : (old : Known Entry) (history : List Entry) (seen : IsPrefix old.seen history) → calls_by old.number old.seen ≡ old.own → calls_by old.number history ≡ old.own → calls_by old.number seen.0 ≡ []
none_of_own old history seen before now =
    nothing_left (calls_by old.number old.seen) (calls_by old.number seen.0)
    (sym (calls_joined old.number old.seen seen.0) ∙ ap (calls_by old.number) seen.1 ∙ now ∙ sym before)

-- the pin is live in what is found
pub still_live : (rules : List (Option VoidRule)) (allows : List Offer → Finding → Type 0) (old : Known Entry) (history : List Entry) (pin : Pin) →
    Holds old pin → IsPrefix old.seen history → calls_by old.number history ≡ old.own → IsLegal rules allows history → IsLive history pin
still_live rules allows old history pin holds seen own legal =
    let none : calls_by pin.caller seen.0 ≡ [] = ap (λ (n : ℕ). calls_by n seen.0) holds.caller ∙ none_of_own old history seen holds.own own in
    subst (λ (h : List Entry). IsLive h pin) seen.1
    (others_keep rules allows old.seen seen.0 pin (subst (IsLegal rules allows) (sym seen.1) legal) holds.live none)

-- and its sheet is as it was
pub same_sheet : (rules : List (Option VoidRule)) (old : Known Entry) (history : List Entry) (pin : Pin) → Holds old pin → IsPrefix old.seen history →
    sheet rules history pin.version pin.match_name ≡ sheet rules old.seen pin.version pin.match_name
same_sheet rules old history pin holds seen =
    let within : pin.version < length old.seen = slice_get_within old.seen pin.version _ holds.live.pinned in
    ap (λ (h : List Entry). sheet rules h pin.version pin.match_name) (sym seen.1) ∙ sheet_stays rules old.seen seen.0 pin.version pin.match_name (omega (arith, within))

-- a pass holds the pin that it made
pub holds_made : (rules : List (Option VoidRule)) (allows : List Offer → Finding → Type 0) (old new : Known Entry) (history : List Entry) (pin : Pin) →
    MakesPin rules allows old history new pin → Holds new pin
holds_made rules allows old new history pin made =
    let e = pinned_entry old.number pin.match_name in
    let caller : pin.caller ≡ old.number = ap (λ (p : Pin). p.caller) made.1 in
    let version : pin.version ≡ length history = ap (λ (p : Pin). p.version) made.1 in
    let live : IsLive (history ++ e ∷ []) pin = subst (λ (n : ℕ). IsLive (history ++ pinned_entry n pin.match_name ∷ []) pin) caller (live_new history pin version) in
    subst (λ (k : Known Entry). Holds k pin) (sym made.0.then_)
    (record {
      own = calls_own old.number history e refl ∙ ap (λ (xs : List Entry). xs ++ e ∷ []) made.0.own;
      caller = caller;
      live = live;
    })

-- a pass that looked holds its pin still
pub holds_looked : (rules : List (Option VoidRule)) (allows : List Offer → Finding → Type 0) (old new : Known Entry) (history : List Entry) (pin : Pin) →
    IsTurnOf rules allows old history [] new → Holds old pin → Holds new pin
holds_looked rules allows old new history pin turn holds =
    let same : history ++ [] ≡ history = nil_behind history in
    subst (λ (k : Known Entry). Holds k pin) (sym turn.then_)
    (record {
      own = ap (calls_by old.number) same ∙ turn.own ∙ sym (nil_behind old.own);
      caller = holds.caller;
      live = subst (λ (h : List Entry). IsLive h pin) (sym same)
          (still_live rules allows old history pin holds turn.seen turn.own (subst (IsLegal rules allows) same turn.legal));
    })
  where
    nil_behind : (xs : List Entry) → xs ++ [] ≡ xs
    nil_behind xs = append-nil xs

-- turns with a pin in hand, by what their calls tell

module _ {W : Type 0} (allows : W → List Offer → Finding → Type 0) (part : BoardPart W) (old : Known Entry) (found : BoardView W) (pin : Pin)
    (holds : Holds old pin) (seen : IsPrefix old.seen found.history) (own : calls_by old.number found.history ≡ old.own) (same_part : found.fixed ≡ part)
    (legal : IsLegal found.fixed.rules (allows found.fixed.law) found.history) where
  -- the pin is live, once the state is the one that was found
  pub live_now : (now : BoardView W) → now ≡ found → IsLive now.history pin
  live_now now same = subst (λ (b : BoardView W). IsLive b.history pin) (sym same)
      (still_live found.fixed.rules (allows found.fixed.law) old found.history pin holds seen own legal)

  pub sheet_now : (now : BoardView W) → now ≡ found → sheet now.fixed.rules now.history pin.version pin.match_name ≡ sheet part.rules old.seen pin.version pin.match_name
  sheet_now now same =
      ap (λ (b : BoardView W). sheet b.fixed.rules b.history pin.version pin.match_name) same
      ∙ ap (λ (p : BoardPart W). sheet p.rules found.history pin.version pin.match_name) same_part
      ∙ same_sheet part.rules old found.history pin holds seen

  pub law_now : (now : BoardView W) → now ≡ found → now.fixed.law ≡ part.law
  law_now now same = ap (λ (b : BoardView W). b.fixed.law) same ∙ ap (λ (p : BoardPart W). p.law) same_part

  -- one entry of the pin's caller was added
  pub one_added : (new : Known Entry) (before after : BoardView W) (event : Event) → before ≡ found → after ≡ with_entry before pin.caller event →
      IsLegal after.fixed.rules (allows after.fixed.law) after.history → new ≡ adding old found.history (record { caller = old.number; event = event } ∷ []) →
      IsTurnOf part.rules (allows part.law) old found.history (record { caller = old.number; event = event } ∷ []) new
  one_added new before after event same is legal_ then_ =
      let at : after ≡ with_entry found old.number event = is ∙ ap₂ (λ (b : BoardView W) (c : ℕ). with_entry b c event) same holds.caller in
      turn_of allows part old new found after seen own same_part legal_ (ap (λ (b : BoardView W). b.fixed) at) (record { caller = old.number; event = event } ∷ []) (ap (λ (b : BoardView W). b.history) at) then_

nil_after : (xs : List Entry) → xs ++ [] ≡ xs
nil_after xs = append-nil xs

pub still_held : (old : Known Entry) (pin : Pin) → Holds old pin → StillHolds old old pin
still_held old pin holds = record { later = later_self old; own = refl; holds = holds }

-- one look more
pub still_looked : (rules : List (Option VoidRule)) (allows : List Offer → Finding → Type 0) (old mid new : Known Entry) (history : List Entry) (pin : Pin) →
    StillHolds old mid pin → IsTurnOf rules allows mid history [] new → StillHolds old new pin
still_looked rules allows old mid new history pin was turn = record {
  later = later_trans old mid new was.later (turn_later rules allows mid new history [] turn);
  own = ap (λ (k : Known Entry). k.own) turn.then_ ∙ nil_after mid.own ∙ was.own;
  holds = holds_looked rules allows mid new history pin turn was.holds;
}

-- the sheet of a pin that is held is a sheet
pub is_sheet : (rules : List (Option VoidRule)) (allows : List Offer → Finding → Type 0) (old mid new : Known Entry) (history : List Entry) (pin : Pin) →
    Holds old pin → StillHolds old mid pin → IsTurnOf rules allows mid history [] new → IsSheet (sheet rules old.seen pin.version pin.match_name)
is_sheet rules allows old mid new history pin holds was turn =
    let legal = subst (IsLegal rules allows) (nil_after history) turn.legal in
    let same = same_sheet rules mid history pin was.holds turn.seen ∙ same_sheet rules old mid.seen pin holds was.later.seen in
    subst IsSheet same (sheet_is_sheet rules (take pin.version history) pin.match_name (λ f. few_stand rules allows history pin.match_name f legal pin.version))
