-- One turn that pins, by what its calls tell.
use Rattle.std.proofs.Common.{ℕ, ◌≡◌, false, List, [], ◌∷◌, sym, ap, ap₂, ◌∙◌, subst}
use mathlib.Core.List.{IsPrefix}
use Rattle.scan_types.specs.declared.offer.Offer.{Offer}
use Rattle.finding_definitions.specs.declared.finding.Finding.{Finding}
use Rattle.board_definitions.specs.declared.event.Event.TheVariants.{Pinned}
use Rattle.board_definitions.specs.declared.event.Entry.{Entry}
use Rattle.board_definitions.specs.declared.pin.Pin.{Pin}
use Rattle.board_definitions.specs.declared.pin.Pick.{Pick}
use Rattle.board_definitions.specs.declared.pin.Pick.TheVariants as pick
use Rattle.board_definitions.specs.Pins.{HasNoPin, HaveAllEnded}
use Rattle.board_definitions.specs.Legal.{IsLegal}
use Rattle.board_laws.specs.Callers.{holds_pin}
use Rattle.board_laws.proofs.Pins.{tell_of_pins}
use Rattle.turn_lock.specs.Passes.{Known}
use Rattle.quote_board.specs.declared.part.BoardPart.{BoardPart}
use Rattle.quote_board.specs.Views.{BoardView, with_entry}
use Rattle.quote_board.specs.Answers.{IsPick, NoneIsDue, next_pin}
use Rattle.quote_board.specs.Shared.{calls_by, IsTurnOf}
use Rattle.quote_board.proofs.Turning.{seeing, adding, turn_of, look_of}
use Rattle.desk_definitions.specs.Judged.{pinned_entry}
use Rattle.solver_workers.specs.Turns.{MakesPin}

-- the caller may pin
pub may_pin : {W : Type 0} (allows : W → List Offer → Finding → Type 0) (old : Known Entry) (found now : BoardView W) (caller : ℕ) → caller ≡ old.number → holds_pin old.own ≡ false →
    calls_by old.number found.history ≡ old.own → IsLegal found.fixed.rules (allows found.fixed.law) found.history → now ≡ found → HasNoPin now.history caller
may_pin {W} allows old found now caller caller_is free own legal same =
    subst (λ (b : BoardView W). HasNoPin b.history caller) (sym same)
    (subst (HasNoPin found.history) (sym caller_is)
    (tell_of_pins found.fixed.rules (allows found.fixed.law) found.history old.number legal (ap holds_pin own ∙ free)))

module _ {W : Type 0} (allows : W → List Offer → Finding → Type 0) (part : BoardPart W) (old new : Known Entry) (found before after : BoardView W) (caller : ℕ)
    (seen : IsPrefix old.seen found.history) (own : calls_by old.number found.history ≡ old.own) (same_part : found.fixed ≡ part) (same : before ≡ found)
    (caller_is : caller ≡ old.number) (legal : IsLegal after.fixed.rules (allows after.fixed.law) after.history) where
  -- what was pinned, once the state is the one that was found
  abbrev Says : Pick → Type 0
  Says p = IsPick before caller after p

  pub pin_entry : (p : Pick) (pin : Pin) → p ≡ pick.Pinned pin → Says p → after ≡ with_entry found old.number (Pinned pin.match_name)
  pin_entry p pin is says =
      (subst Says is says).2 ∙ ap₂ (λ (b : BoardView W) (c : ℕ). with_entry b c (Pinned pin.match_name)) same caller_is

  pub pin_made : (p : Pick) (pin : Pin) → p ≡ pick.Pinned pin → Says p → new ≡ adding old found.history (pinned_entry old.number pin.match_name ∷ []) →
      MakesPin part.rules (allows part.law) old found.history new pin
  pin_made p pin is says then_ =
      let at = pin_entry p pin is says in (
        turn_of allows part old new found after seen own same_part legal (ap (λ (b : BoardView W). b.fixed) at) (pinned_entry old.number pin.match_name ∷ []) (ap (λ (b : BoardView W). b.history) at) then_,
        (subst Says is says).1 ∙ ap₂ (λ (b : BoardView W) (c : ℕ). next_pin b.history c pin.match_name) same caller_is,
      )

  pub looked : after ≡ before → new ≡ seeing old found.history → IsTurnOf part.rules (allows part.law) old found.history [] new
  looked is then_ =
      look_of allows part old new found after seen own same_part legal (ap (λ (b : BoardView W). b.fixed) (is ∙ same)) (ap (λ (b : BoardView W). b.history) (is ∙ same)) then_

  pub idled : (p : Pick) → p ≡ pick.Idle → Says p → new ≡ seeing old found.history → IsTurnOf part.rules (allows part.law) old found.history [] new
  idled p is says then_ = looked (subst Says is says).2 then_

  pub finished : (p : Pick) → p ≡ pick.Finished → Says p → new ≡ seeing old found.history →
      IsTurnOf part.rules (allows part.law) old found.history [] new × NoneIsDue found.history × HaveAllEnded part.rules found.history
  finished p is says then_ =
      let at = subst Says is says in
      let P : BoardView W → Type 0 = λ b. NoneIsDue b.history in
      let Q : BoardView W → Type 0 = λ b. HaveAllEnded b.fixed.rules b.history in
      let R : BoardPart W → Type 0 = λ p. HaveAllEnded p.rules found.history in
      (looked at.2 then_, subst P same at.0, subst R same_part (subst Q same at.1))

  -- the match of this name was pinned
  pub named_entry : (m : List ℕ) (pin : Pin) → pin ≡ next_pin before.history caller m → after ≡ with_entry before caller (Pinned m) → after ≡ with_entry found old.number (Pinned pin.match_name)
  named_entry m pin is added =
      added ∙ ap₂ (λ (b : BoardView W) (c : ℕ). with_entry b c (Pinned m)) same caller_is
      ∙ ap (λ (n : List ℕ). with_entry found old.number (Pinned n)) (sym (ap (λ (p : Pin). p.match_name) is))

  pub named_made : (m : List ℕ) (pin : Pin) → pin ≡ next_pin before.history caller m → after ≡ with_entry before caller (Pinned m) →
      new ≡ adding old found.history (pinned_entry old.number pin.match_name ∷ []) → (pin.match_name ≡ m) × MakesPin part.rules (allows part.law) old found.history new pin
  named_made m pin is added then_ =
      let at = named_entry m pin is added in
      let name : pin.match_name ≡ m = ap (λ (p : Pin). p.match_name) is in (
        name,
        (
          turn_of allows part old new found after seen own same_part legal (ap (λ (b : BoardView W). b.fixed) at) (pinned_entry old.number pin.match_name ∷ []) (ap (λ (b : BoardView W). b.history) at) then_,
          is ∙ ap₂ (λ (b : BoardView W) (c : ℕ). next_pin b.history c m) same caller_is ∙ ap (next_pin found.history old.number) (sym name),
        ),
      )
