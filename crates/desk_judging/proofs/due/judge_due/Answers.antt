use Rattle.std.proofs.Common.{◌≡◌, ℕ, Bool, ◌<◌, sym, ◌∙◌, subst, subst₂, arith}
use Rattle.std.specs.Prelude.{MatchBool}
use Rattle.board_definitions.specs.Pins.{IsDue}
use Rattle.quote_board.specs.Answers.{NoneIsDue}
use Rattle.quote_board.specs.Views.{BoardView}
use Rattle.quote_board.specs.declared.part.BoardPart.{BoardPart}
use Rattle.verdict_maker.specs.declared.law.FindingLaw.{FindingLaw}
use Rattle.desk_definitions.specs.Judged.{JudgesLongestDue, IsJudged}
use Rattle.desk_judging.specs.Findings.{findings_by}
use Rattle.desk_judging.proofs.Waiting.{waiting}
use Rattle.desk_judging.proofs.Steps.{judged_more, fewer_wait}
use Rattle.desk_judging.proofs.due.judge_due.Goals as goal

-- what one step says, once it is known whether a match was due
abbrev Says : BoardView FindingLaw → BoardView FindingLaw → ℕ → ℕ → Bool → Type 0
Says before after budget caller more =
    MatchBool more (JudgesLongestDue before.fixed.rules (findings_by budget) caller before.history after.history) (NoneIsDue before.history × (after ≡ before))

pub loop-smaller : goal.loop-smaller
loop-smaller c =
    let one = subst (Says c.loop.board c.judge_longest_due.new.board c.loop.bench c.args.caller) c.if-branch.true c.in_ok-judge_longest_due.ensures.judged in
    let less = fewer_wait c.loop.board.fixed.rules (findings_by c.loop.bench) c.args.caller c.loop.board.history c.judge_longest_due.new.board.history one in
    let smaller : waiting c.judge_longest_due.new.board.history < waiting c.loop.board.history = omega (arith, less) in
    smaller

pub loop-preserved : goal.loop-preserved
loop-preserved c =
    let kept = c.loop.invariant in
    let step = c.in_ok-judge_longest_due.ensures in
    let after = c.judge_longest_due.new.board.history in
    let one = subst (Says c.loop.board c.judge_longest_due.new.board c.loop.bench c.args.caller) c.if-branch.true step.judged in
    let same = subst₂ (λ (part : BoardPart FindingLaw) (budget : ℕ). JudgesLongestDue part.rules (findings_by budget) c.args.caller c.loop.board.history after) kept.fixed_stays kept.budget_stays one in
    record {
      judged = judged_more c.args.board.now.fixed.rules (findings_by c.args.bench.now) c.args.caller c.args.board.now.history c.loop.board.history after kept.judged same;
      no_pin = step.no_pin_left;
      fixed_stays = step.fixed_stays ∙ kept.fixed_stays;
      budget_stays = step.budget_stays ∙ kept.budget_stays;
    }

pub returns-clause-judged : goal.returns-clause-judged
returns-clause-judged c =
    let kept = c.loop.invariant in
    let none = subst (Says c.loop.board c.judge_longest_due.new.board c.loop.bench c.args.caller) c.if-branch.false c.in_ok-judge_longest_due.ensures.judged in
    record {
      judged = subst (λ (b : BoardView FindingLaw). IsJudged c.args.board.now.fixed.rules (findings_by c.args.bench.now) c.args.caller c.args.board.now.history b.history) (sym none.1) kept.judged;
      none_due = λ m due. none.0 m (subst (λ (b : BoardView FindingLaw). IsDue b.history m) none.1 due);
    }
