use Rattle.best_checker.proofs.OneBestAnswer.{one_best_answer}
use Rattle.best_checker.proofs.laws.best_stakes_have_one_answer.Goals as goal

pub returns : goal.returns
returns c = one_best_answer
