use Rattle.std.proofs.Common.{sym}
use Rattle.feed_fields.proofs.First.{length_none, length_some, length_within}
use Rattle.feed_fields.proofs.fields.field_length.Goals as goal

pub returns-in-None-clause-value : goal.returns-in-None-clause-value
returns-in-None-clause-value c = length_none c.args.text.now (sym c.in-None.ensures)

pub returns-in-Some-clause-value : goal.returns-in-Some-clause-value
returns-in-Some-clause-value c = length_some c.args.text.now c.in-Some.index (sym c.in-Some.ensures)

pub returns-in-Some-clause-within : goal.returns-in-Some-clause-within
returns-in-Some-clause-within c = length_within c.args.text.now c.in-Some.index (sym c.in-Some.ensures)
