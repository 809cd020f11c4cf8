use Rattle.std.proofs.Common.{sym, ap, ◌∙◌}
use Rattle.feed_definitions.specs.Fields.{Unread}
use Rattle.feed_definitions.specs.Forms.{is_skipped}
use Rattle.feed_fields.proofs.First.{nothing_skipped, first_byte}
use Rattle.feed_fields.proofs.fields.Fields.is_skipped.Goals as goal

pub returns-in-None : goal.returns-in-None
returns-in-None c = nothing_skipped c.self.inside.rest.now c.self.inside.after (sym c.in-None.ensures) ∙ ap (λ (u : Unread). is_skipped u.others) c.self.view_is

pub returns-in-Some : goal.returns-in-Some
returns-in-Some c = first_byte c.self.inside.rest.now c.self.inside.after c.in-Some.start (sym c.in-Some.ensures) ∙ ap (λ (u : Unread). is_skipped u.others) c.self.view_is
