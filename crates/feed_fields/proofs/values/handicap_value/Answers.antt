use Rattle.std.proofs.Common.{◌∙◌, SFits, w16, to_z-of_z, rules}
use Rattle.number_definitions.specs.Values.{handicap_with}
use Rattle.number_definitions.proofs.Made.{handicap_made}
use Rattle.feed_fields.proofs.Causes.{line_read}
use Rattle.feed_fields.proofs.values.handicap_value.Goals as goal

pub returns-in-Some : goal.returns-in-Some
returns-in-Some c =
    let fits : SFits w16 c.in-Some.quarters = search rules in
    c.ok_or.ensures.value
    ∙ line_read c.args.text.now c.in-Some.quarters _ c.new.result handicap_with c.in-Some.ensures (to_z-of_z fits) (handicap_made c.new.result _ c.new.ensures.value c.new.ensures.in_range)
