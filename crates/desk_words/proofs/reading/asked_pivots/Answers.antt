use Rattle.std.proofs.Common.{ap, codes, ◌∙◌}
use Rattle.clap.specs.Words.{found_of}
use Rattle.clap.proofs.WalkLemmas.{first_value-rows}
use Rattle.desk_words.specs.Commands.{pivots_of}
use Rattle.desk_words.proofs.reading.asked_pivots.Goals as goal

pub returns-in_default : goal.returns-in_default
returns-in_default c = ap pivots_of (c.in_default.ensures ∙ first_value-rows (found_of c.args.matches.now) (codes "pivots"))

pub returns-in_default-read_number : goal.returns-in_default-read_number
returns-in_default-read_number c =
    c.in_default-read_number.ensures ∙ ap pivots_of (c.in-Some.ensures ∙ first_value-rows (found_of c.args.matches.now) (codes "pivots"))

pub returns : goal.returns
returns c = c.in-Some-read_number.ensures ∙ ap pivots_of (c.in-Some.ensures ∙ first_value-rows (found_of c.args.matches.now) (codes "pivots"))
