use Rattle.std.proofs.Common.{inl, inr}
use Rattle.verdict_maker.proofs.RunFacts.{ran_best, ran_wide, ran_spent}
use Rattle.verdict_maker.proofs.runs.run_program.Goals as goal

pub run-requires : goal.run-requires
run-requires c = (c.args.program.now, c.requires.program, c.requires.capped, c.in_ok-rebuild.ensures.ok)

pub returns-in-Best : goal.returns-in-Best
returns-in-Best c = ran_best c.args.program.now _ _ c.args.budget c.in-Best.pivots c.requires.program c.requires.capped c.in_ok-rebuild.ensures.ok c.in-Best.ensures.end c.in-Best.ensures.best

pub returns-in-Wide : goal.returns-in-Wide
returns-in-Wide c = inl (ran_wide c.args.program.now _ _ c.args.budget c.in-Wide.pivots c.in-Wide.row c.in-Wide.column c.args.stage c.in_ok-rebuild.ensures.ok c.in-Wide.ensures.end)

pub returns-in-OutOfPivots : goal.returns-in-OutOfPivots
returns-in-OutOfPivots c = inr (ran_spent c.args.program.now _ _ c.args.budget c.in-OutOfPivots.pivots c.args.stage c.in_ok-rebuild.ensures.ok c.in-OutOfPivots.ensures.end)
