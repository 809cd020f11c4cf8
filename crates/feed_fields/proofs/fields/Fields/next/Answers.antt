use Rattle.std.proofs.Common.{sym, ap, ◌∙◌, Ok}
use Rattle.feed_definitions.specs.Fields.{Field, Unread, first_field}
use Rattle.feed_fields.proofs.First.{nothing_next, parts_next}
use Rattle.feed_fields.proofs.fields.Fields.next.Goals as goal

pub returns-in-None : goal.returns-in-None
returns-in-None c = nothing_next c.self.inside.rest.now c.self.inside.after (sym c.in-None.ensures)
    ∙ ap (λ (u : Unread). first_field {A = Field} Ok u.after u.others) c.self.view_is

pub returns-in-Some : goal.returns-in-Some
returns-in-Some c =
    parts_next c.self.inside.rest.now c.split_at.result.1.now c.split_at-in-Some.result.0.now c.split_at-in-Some.result.1.now c.self.inside.after c.in-Some.start c.field_length.result
    (sym c.in-Some.ensures) c.split_at.ensures.back c.field_length.ensures.value c.split_at-in-Some.ensures.front c.split_at-in-Some.ensures.back
    ∙ ap (λ (u : Unread). first_field {A = Field} Ok u.after u.others) c.self.view_is
