use Rattle.std.proofs.Common.{sym, ap, ◌∙◌}
use Rattle.feed_definitions.specs.Fields.{Unread}
use Rattle.feed_fields.proofs.First.{none_left, nothing_left, one_left}
use Rattle.feed_fields.proofs.fields.Fields.end.Goals as goal

pub returns-in-None : goal.returns-in-None
returns-in-None c = nothing_left c.self.inside.rest.now c.self.inside.after (sym c.in-None.ensures) ∙ ap (λ (u : Unread). none_left u.others) c.self.view_is

pub returns-in-Some : goal.returns-in-Some
returns-in-Some c = one_left c.self.inside.rest.now c.self.inside.after c.in-Some.start (sym c.in-Some.ensures) ∙ ap (λ (u : Unread). none_left u.others) c.self.view_is
