use Rattle.board_laws.proofs.Feeds.{their_callers, tell_of_ends}
use Rattle.board_laws.proofs.laws.feeds_are_their_callers.Goals as goal

pub returns-clause-entries : goal.returns-clause-entries
returns-clause-entries g c = λ rules law. their_callers rules (g.W.Law.allows law)

pub returns-clause-ends : goal.returns-clause-ends
returns-clause-ends g c = λ rules law. tell_of_ends rules (g.W.Law.allows law)
