use Rattle.std.proofs.Common.{List, refl, sym, ap, subst}
use Rattle.std.specs.Prelude.{Option}
use Rattle.scan_types.specs.declared.rule.VoidRule.{VoidRule}
use Rattle.board_definitions.specs.Pins.{HasNoPin}
use Rattle.board_definitions.specs.Sheets.{sheet}
use Rattle.judging_definitions.specs.ExactFinding.{IsFindingOf}
use Rattle.quote_board.specs.Answers.{IsPick}
use Rattle.quote_board.specs.Views.{BoardView}
use Rattle.verdict_maker.specs.declared.law.FindingLaw.{FindingLaw}
use Rattle.desk_judging.specs.Findings.{findings_by}
use Rattle.desk_judging.proofs.Steps.{live_pinned, judged_one, given_up, no_pin_after_judging, no_pin_after_release}
use Rattle.desk_judging.proofs.due.judge_longest_due.Goals as goal

pub judge_pinned-requires-clause-live : goal.judge_pinned-requires-clause-live
judge_pinned-requires-clause-live c =
    let picked = subst (IsPick c.args.board.now c.args.caller c.pin.new.self) c.in-Pinned.is c.in_ok-pin.ensures.pick in
    live_pinned c.args.board.now.history c.pin.new.self.history c.args.caller c.in-Pinned.pin picked.1 (ap (λ (b : BoardView FindingLaw). b.history) picked.2)

pub returns-in_err-judge_pinned-in-Pinned-clause-no_pin_left :
    goal.returns-in_err-judge_pinned-in-Pinned-clause-no_pin_left
returns-in_err-judge_pinned-in-Pinned-clause-no_pin_left c =
    let before = c.args.board.now.history in
    let picked = subst (IsPick c.args.board.now c.args.caller c.pin.new.self) c.in-Pinned.is c.in_ok-pin.ensures.pick in
    let gives = given_up c.args.caller before c.pin.new.self.history c.judge_pinned.new.board.history c.in-Pinned.pin picked.0 picked.1 (ap (λ (b : BoardView FindingLaw). b.history) picked.2) (ap (λ (b : BoardView FindingLaw). b.history) c.in_err-judge_pinned-in-Pinned.ensures.released) in
    no_pin_after_release c.args.caller before c.judge_pinned.new.board.history c.requires.no_pin gives

pub returns-in_ok-judge_pinned-in-Pinned-clause-judged :
    goal.returns-in_ok-judge_pinned-in-Pinned-clause-judged
returns-in_ok-judge_pinned-in-Pinned-clause-judged c =
    let pin = c.in-Pinned.pin in
    let middle = c.pin.new.self in
    let picked = subst (IsPick c.args.board.now c.args.caller middle) c.in-Pinned.is c.in_ok-pin.ensures.pick in
    let filed = c.in_ok-judge_pinned-in-Pinned.ensures.filed in
    judged_one c.args.board.now.fixed.rules (findings_by c.args.bench.now) c.args.caller c.args.board.now.history middle.history c.judge_pinned.new.board.history pin filed.0 picked.0 picked.1 (ap (λ (b : BoardView FindingLaw). b.history) picked.2)
    (subst (λ (rules : List (Option VoidRule)). IsFindingOf (sheet rules middle.history pin.version pin.match_name) c.args.bench.now filed.0) (ap (λ (b : BoardView FindingLaw). b.fixed.rules) picked.2) filed.1)
    (ap (λ (b : BoardView FindingLaw). b.history) filed.2)

pub returns-in_ok-judge_pinned-in-Pinned-clause-no_pin_left :
    goal.returns-in_ok-judge_pinned-in-Pinned-clause-no_pin_left
returns-in_ok-judge_pinned-in-Pinned-clause-no_pin_left c =
    let pin = c.in-Pinned.pin in
    let middle = c.pin.new.self in
    let picked = subst (IsPick c.args.board.now c.args.caller middle) c.in-Pinned.is c.in_ok-pin.ensures.pick in
    let filed = c.in_ok-judge_pinned-in-Pinned.ensures.filed in
    let judges = judged_one c.args.board.now.fixed.rules (findings_by c.args.bench.now) c.args.caller c.args.board.now.history middle.history c.judge_pinned.new.board.history pin filed.0 picked.0 picked.1 (ap (λ (b : BoardView FindingLaw). b.history) picked.2)
    (subst (λ (rules : List (Option VoidRule)). IsFindingOf (sheet rules middle.history pin.version pin.match_name) c.args.bench.now filed.0) (ap (λ (b : BoardView FindingLaw). b.fixed.rules) picked.2) filed.1)
    (ap (λ (b : BoardView FindingLaw). b.history) filed.2) in
    no_pin_after_judging c.args.board.now.fixed.rules (findings_by c.args.bench.now) c.args.caller c.args.board.now.history c.judge_pinned.new.board.history c.requires.no_pin judges

pub returns-in-Idle : goal.returns-in-Idle
returns-in-Idle c =
    let picked = subst (IsPick c.args.board.now c.args.caller c.pin.new.self) c.in-Idle.is c.in_ok-pin.ensures.pick in
    record {
      judged = (picked.0, picked.2);
      stopped = tt;
      no_pin_left = subst (λ (b : BoardView FindingLaw). HasNoPin b.history c.args.caller) (sym picked.2) c.requires.no_pin;
      fixed_stays = ap (λ (b : BoardView FindingLaw). b.fixed) picked.2;
      budget_stays = refl;
    }

pub returns-in-Finished : goal.returns-in-Finished
returns-in-Finished c =
    let picked = subst (IsPick c.args.board.now c.args.caller c.pin.new.self) c.in-Finished.is c.in_ok-pin.ensures.pick in
    record {
      judged = (picked.0, picked.2);
      stopped = tt;
      no_pin_left = subst (λ (b : BoardView FindingLaw). HasNoPin b.history c.args.caller) (sym picked.2) c.requires.no_pin;
      fixed_stays = ap (λ (b : BoardView FindingLaw). b.fixed) picked.2;
      budget_stays = refl;
    }
