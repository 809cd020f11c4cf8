use Rattle.std.proofs.Common.{arith, ◌≡◌, true, rules}
use Rattle.desk_words.specs.Numbers.{is_number_word}
use Rattle.desk_words.proofs.NumberWords.{word_too_large}
use Rattle.desk_words.proofs.numbers.read_number.Goals as goal

pub returns-in_default : goal.returns-in_default
returns-in_default c =
    let is : is_number_word c.args.word.now ≡ true = search rules in
    word_too_large c.args.least c.args.most c.args.word.now c.parse.result c.in_default.field-0 c.in_default.is (omega (arith, c.ranges.most.fits)) is c.parse.ensures.value.0
