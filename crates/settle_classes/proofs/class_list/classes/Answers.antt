use Rattle.std.proofs.Common.{◌≡◌, ◌≤◌, sym, ◌∙◌, ap, true, false, map}
use Rattle.std.specs.List.{list_any}
use Rattle.settlement_definitions.specs.StandIns.{is_final}
use Rattle.settlement_definitions.specs.Classes.{settle_alike, distinct_by, classes_of}
use Rattle.settle_classes.specs.Rows.{parts_of, settlement_of, same_settlement}
use Rattle.settlement_laws.proofs.Table.{take-stand_ins_all}
use Rattle.settle_classes.proofs.Kept.{found_by_row, kept_more, rows_more}
use Rattle.settle_classes.proofs.SameBets.{classes_of_bets}
use Rattle.settle_classes.proofs.class_list.classes.Goals as goal
use Rattle.settle_classes.proofs.class_list.classes.Goals.{then-not-is_kept+in_ok-push+in_ok-push-2, else-not-is_kept}

pub loop-k-preserved : goal.loop-k-preserved
loop-k-preserved c =
    let bets = c.in_ok-bets.bets.items in
    let outcomes = c.loop-k.outcomes.items in
    let rows = c.loop-k.rows.items in
    let row = c.in_ok-row.row in
    let x = c.stand_in-outcome.result in
    let is : parts_of row ≡ settlement_of bets x =
    ap (λ k. (k, row.gains.items)) c.in_ok-row.ensures.kind ∙ ap (λ g. (is_final x, g)) c.in_ok-row.ensures.gains ∙ ap (λ l. settlement_of l x) c.deref.ensures.value in
    let found : c.is_kept.result ≡ list_any (λ y. settle_alike bets y x) outcomes =
    c.is_kept.ensures ∙ ap (list_any (λ y. same_settlement (parts_of y) (parts_of row))) c.deref-in-loop-k.ensures.value ∙ found_by_row bets rows outcomes row x c.loop-k.invariant.1 is in
    elim c.if-not-is_kept.branch [
      | then-not-is_kept+in_ok-push+in_ok-push-2 w ↦
          let outcomes_are = ap (λ v. v.items) w.outcomes-is ∙ w.in_ok-push.ensures.items in
          let rows_are = ap (λ v. v.items) w.rows-is ∙ w.in_ok-push-2.ensures.items in (
            outcomes_are ∙ kept_more bets outcomes c.loop-k.k x false c.stand_in-outcome.ensures.numbered c.loop-k.invariant.0 (sym found ∙ w.if-not-is_kept.true),
            ap (map parts_of) rows_are ∙ rows_more bets rows outcomes row x c.loop-k.invariant.1 is ∙ sym (ap (map (settlement_of bets)) outcomes_are),
          )
      | else-not-is_kept w ↦ (
        ap (λ v. v.items) w.outcomes-is ∙ kept_more bets outcomes c.loop-k.k x true c.stand_in-outcome.ensures.numbered c.loop-k.invariant.0 (sym found ∙ w.if-not-is_kept.false),
        ap (λ v. map parts_of v.items) w.rows-is ∙ c.loop-k.invariant.1 ∙ sym (ap (λ v. map (settlement_of bets) v.items) w.outcomes-is),
      )
    ]

pub returns : goal.returns
returns c =
    record {
      exact =
          let bets = c.in_ok-bets.bets.items in
          let all : 98 ≤ c.loop-k.k = c.loop-k-test.false in
          c.loop-k.invariant.0 ∙ ap (distinct_by (settle_alike bets)) (take-stand_ins_all c.loop-k.k all) ∙ classes_of_bets c.offers.result.now bets c.in_ok-bets.ensures ∙ ap classes_of c.offers.ensures.value;
    }
