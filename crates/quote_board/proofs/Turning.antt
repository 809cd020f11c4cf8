-- A turn on a shared board, by what its calls tell.
use Rattle.std.proofs.Common.{ℕ, ◌≡◌, List, [], ◌∷◌, ◌++◌, refl, sym, ap, ap₂, ◌∙◌, subst, append-nil, append_assoc}
use mathlib.Core.List.{IsPrefix}
use Rattle.scan_types.specs.declared.offer.Offer.{Offer}
use Rattle.scan_types.specs.declared.rule.VoidRule.{VoidRule}
use Rattle.std.specs.Prelude.{Option}
use Rattle.finding_definitions.specs.declared.finding.Finding.{Finding}
use Rattle.board_definitions.specs.declared.event.Entry.{Entry}
use Rattle.board_definitions.specs.Legal.{IsLegal}
use Rattle.turn_lock.specs.Passes.{Known, with_entry}
use Rattle.quote_board.specs.declared.part.BoardPart.{BoardPart}
use Rattle.quote_board.specs.Views.{BoardView}
use Rattle.quote_board.specs.Shared.{calls_by, IsLaterPass, IsTurnOf}

-- a pass that has seen this history, and one that then added these entries
abbrev pub seeing : Known Entry → List Entry → Known Entry
seeing k history = record k { seen = history }

abbrev pub adding : Known Entry → List Entry → List Entry → Known Entry
adding k history added = record k { seen = history ++ added; own = k.own ++ added }

module _ {W : Type 0} (allows : W → List Offer → Finding → Type 0) (part : BoardPart W) (old new : Known Entry) (found after : BoardView W)
    (seen : IsPrefix old.seen found.history) (own : calls_by old.number found.history ≡ old.own) (same_part : found.fixed ≡ part)
    (legal : IsLegal after.fixed.rules (allows after.fixed.law) after.history) (kept : after.fixed ≡ found.fixed) where
  legal_then : (added : List Entry) → after.history ≡ found.history ++ added → IsLegal part.rules (allows part.law) (found.history ++ added)
  legal_then added is =
      let P : BoardPart W → List Entry → Type 0 = λ p h. IsLegal p.rules (allows p.law) h in
      subst (λ p. P p (found.history ++ added)) (kept ∙ same_part) (subst (P after.fixed) is legal)

  -- it added these entries
  pub turn_of : (added : List Entry) → after.history ≡ found.history ++ added → new ≡ adding old found.history added → IsTurnOf part.rules (allows part.law) old found.history added new
  turn_of added is then_ = record { seen = seen; own = own; legal = legal_then added is; then_ = then_ }

  -- it added nothing
  pub look_of : after.history ≡ found.history → new ≡ seeing old found.history → IsTurnOf part.rules (allows part.law) old found.history [] new
  look_of is then_ = turn_of [] (is ∙ sym (append-nil found.history))
      (then_ ∙ ap₂ (λ (s o : List Entry). record old { seen = s; own = o }) (sym (append-nil found.history)) (sym (append-nil old.own)))

-- a turn leaves a later pass
pub turn_later : (rules : List (Option VoidRule)) (allows : List Offer → Finding → Type 0) (old new : Known Entry) (history added : List Entry) →
    IsTurnOf rules allows old history added new → IsLaterPass old new
turn_later rules allows old new history added turn = record {
  number = ap (λ (k : Known Entry). k.number) turn.then_;
  given = ap (λ (k : Known Entry). k.given) turn.then_;
  joined = ap (λ (k : Known Entry). k.joined) turn.then_;
  seen = subst (IsPrefix old.seen) (sym (ap (λ (k : Known Entry). k.seen) turn.then_))
      (turn.seen.0 ++ added, sym (append_assoc old.seen turn.seen.0 added) ∙ ap (λ (h : List Entry). h ++ added) turn.seen.1);
}

pub later_self : (k : Known Entry) → IsLaterPass k k
later_self k = record { number = refl; given = refl; joined = refl; seen = ([], append-nil k.seen) }

pub later_trans : (a b c : Known Entry) → IsLaterPass a b → IsLaterPass b c → IsLaterPass a c
later_trans a b c p q = record {
  number = q.number ∙ p.number;
  given = q.given ∙ p.given;
  joined = q.joined ∙ p.joined;
  seen = (p.seen.0 ++ q.seen.0, sym (append_assoc a.seen p.seen.0 q.seen.0) ∙ ap (λ (h : List Entry). h ++ q.seen.0) p.seen.1 ∙ q.seen.1);
}
