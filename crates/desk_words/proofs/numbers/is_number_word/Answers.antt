use Rattle.std.proofs.Common.{arith, ◌∙◌, ◌≤◌, length}
use Rattle.std.proofs.lemmas.Bool.Decides.{nat_tests}
use Rattle.desk_words.proofs.NumberWords.{number_word_by_digits}
use Rattle.desk_words.proofs.numbers.is_number_word.Goals as goal

pub returns : goal.returns
returns c =
    let some : 1 ≤ length c.args.word.now = grind (arith, nat_tests) in
    c.are_digits.ensures ∙ number_word_by_digits c.args.word.now some (omega arith)
