use Rattle.std.proofs.Common.{◌≡◌, List, ap, ◌∙◌}
use Rattle.std.proofs.lemmas.Result.{IfOk-weaker}
use Rattle.pivot_definitions.specs.Tableaus.{SimplexTableau, built}
use Rattle.pivot_definitions.specs.Programs.{LinearProgram}
use Rattle.scan_types.specs.declared.offer.Offer.{Offer}
use Rattle.scan_types.specs.declared.outcome.Outcome.{Outcome}
use Rattle.settlement_definitions.specs.Classes.{classes_of}
use Rattle.judging_definitions.specs.JudgingPrograms.{limited_program}
use Rattle.judging_definitions.specs.MostProgram.{most_need}
use Rattle.best_laws.specs.Laws.{most_program}
use Rattle.best_stakes.proofs.BestFacts.{starts, at_best, found_best, found_wide, found_spent}
use Rattle.best_stakes.proofs.running.run_for_best.Goals as goal

start_is : (offers : List Offer) (classes : List Outcome) (program : LinearProgram) (start : SimplexTableau) → start ≡ built program → program ≡ limited_program classes offers (most_need offers) → classes ≡ classes_of offers → start ≡ built (most_program offers)
start_is offers classes program start begun written listed = begun ∙ ap built (written ∙ ap (λ cs. limited_program cs offers (most_need offers)) listed)

pub run-requires : goal.run-requires
run-requires c =
    starts c.args.sheet.now c.rebuild.new.self (start_is c.args.sheet.now _ _ c.rebuild.new.self c.in_ok-rebuild.ensures.ok c.in_ok-program.ensures c.in_ok-outcomes.ensures.exact)

pub read_best-requires-clause-best : goal.read_best-requires-clause-best
read_best-requires-clause-best c =
    at_best c.args.sheet.now c.rebuild.new.self c.run.new.tableau c.args.budget c.in-Best.pivots (start_is c.args.sheet.now _ _ c.rebuild.new.self c.in_ok-rebuild.ensures.ok c.in_ok-program.ensures c.in_ok-outcomes.ensures.exact) c.in-Best.ensures.end c.in-Best.ensures.best

pub returns-in-Best : goal.returns-in-Best
returns-in-Best c =
    let is = start_is c.args.sheet.now _ _ c.rebuild.new.self c.in_ok-rebuild.ensures.ok c.in_ok-program.ensures c.in_ok-outcomes.ensures.exact in
    IfOk-weaker c.read_best.result _ _ (λ out read. found_best c.args.sheet.now c.rebuild.new.self c.run.new.tableau c.args.budget c.in-Best.pivots out is c.in-Best.ensures.end read) c.read_best.ensures

pub returns-in-Wide : goal.returns-in-Wide
returns-in-Wide c =
    found_wide c.args.sheet.now c.rebuild.new.self c.run.new.tableau c.args.budget c.in-Wide.pivots c.in-Wide.row c.in-Wide.column (start_is c.args.sheet.now _ _ c.rebuild.new.self c.in_ok-rebuild.ensures.ok c.in_ok-program.ensures c.in_ok-outcomes.ensures.exact) c.in-Wide.ensures.end

pub returns : goal.returns
returns c =
    found_spent c.args.sheet.now c.rebuild.new.self c.run.new.tableau c.args.budget c.in-OutOfPivots.pivots (start_is c.args.sheet.now _ _ c.rebuild.new.self c.in_ok-rebuild.ensures.ok c.in_ok-program.ensures c.in_ok-outcomes.ensures.exact) c.in-OutOfPivots.ensures.end
