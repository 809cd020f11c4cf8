use Rattle.std.proofs.Common.{List, inl, sym, ap, ◌∙◌, subst}
use Rattle.std.proofs.lemmas.Result.{IfOk-weaker}
use Rattle.pivot_definitions.specs.Programs.{LinearProgram, IsCapped}
use Rattle.scan_types.specs.declared.outcome.Outcome.{Outcome}
use Rattle.finding_definitions.specs.declared.finding.Stage.TheVariants.{Plain}
use Rattle.judging_definitions.specs.JudgingPrograms.{limited_program, plain_need}
use Rattle.judging_laws.proofs.ProgramRows.{limited_is_capped}
use Rattle.coherence_lp.specs.Asked.{asked_for}
use Rattle.coherence_lp.specs.declared.asked.Needs.TheVariants as needs
use Rattle.verdict_maker.specs.Runs.{RanAs, LeavesBest}
use Rattle.verdict_maker.specs.declared.runs.Ran.TheVariants.{Open}
use Rattle.verdict_maker.specs.Turns.{AfterPlain}
use Rattle.verdict_maker.proofs.RunFacts.{after_best}
use Rattle.verdict_maker.proofs.judging.found_by_plain_run.Goals as goal

pub run_program-requires-clause-capped : goal.run_program-requires-clause-capped
run_program-requires-clause-capped c = subst IsCapped (sym c.in_ok-program.ensures) (limited_is_capped c.args.classes.now c.args.sheet.now (asked_for needs.Plain c.args.sheet.now)).1

pub after_plain_run-requires-clause-best : goal.after_plain_run-requires-clause-best
after_plain_run-requires-clause-best c =
    let same = c.in_ok-program.ensures ∙ ap (λ (cs : List Outcome). limited_program cs c.args.sheet.now plain_need) c.requires in
    let leaves : LeavesBest c.in_ok-program.program c.args.budget c.in-AtBest.pivots c.run_program.new.tableau = subst (λ r. RanAs c.in_ok-program.program c.args.budget Plain r c.run_program.new.tableau) c.in-AtBest.is c.in_ok-ran.ensures in
    (subst (λ (p : LinearProgram). LeavesBest p c.args.budget c.in-AtBest.pivots c.run_program.new.tableau) same leaves).at_best

pub returns-in-Open : goal.returns-in-Open
returns-in-Open c =
    let same = c.in_ok-program.ensures ∙ ap (λ (cs : List Outcome). limited_program cs c.args.sheet.now plain_need) c.requires in
    inl (subst (λ (p : LinearProgram). RanAs p c.args.budget Plain (Open c.in-Open.finding) c.run_program.new.tableau) same (subst (λ r. RanAs c.in_ok-program.program c.args.budget Plain r c.run_program.new.tableau) c.in-Open.is c.in_ok-ran.ensures))

pub returns-in-AtBest : goal.returns-in-AtBest
returns-in-AtBest c =
    let same = c.in_ok-program.ensures ∙ ap (λ (cs : List Outcome). limited_program cs c.args.sheet.now plain_need) c.requires in
    let leaves : LeavesBest c.in_ok-program.program c.args.budget c.in-AtBest.pivots c.run_program.new.tableau = subst (λ r. RanAs c.in_ok-program.program c.args.budget Plain r c.run_program.new.tableau) c.in-AtBest.is c.in_ok-ran.ensures in
    let there = subst (λ (p : LinearProgram). LeavesBest p c.args.budget c.in-AtBest.pivots c.run_program.new.tableau) same leaves in
    IfOk-weaker c.after_plain_run.result _ _
    (λ finding follows. after_best (limited_program _ c.args.sheet.now plain_need) c.args.budget c.in-AtBest.pivots Plain (λ n end f. AfterPlain c.args.sheet.now c.args.direction c.args.slack_measure n end f) c.run_program.new.tableau finding there follows)
    c.after_plain_run.ensures
