use Rattle.std.proofs.Common.{ℕ, List, true, take, drop, sym, ap, ◌∙◌}
use Rattle.std.specs.Str.{bytes_eq}
use Rattle.std.proofs.lemmas.Bool.{false≢true}
use Rattle.indexmap.specs.IndexMap.{get as row_at, index_map_len}
use Rattle.feed_definitions.specs.declared.step.Step.{Step}
use Rattle.feed_definitions.specs.Answers.{next_answer}
use Rattle.feed_lines.specs.Reader.{steps_so, is_read_fault, is_of_line}
use Rattle.feed_lines.proofs.Answering.{line_answers, line_length, low_line, reading_on, answer_is_of_line, answer_numbered}
use Rattle.feed_lines.proofs.answer.last_answer.Goals as goal

pub line_answer-requires-clause-few : goal.line_answer-requires-clause-few
line_answer-requires-clause-few c = low_line true c.args.taken.now.bytes.items c.args.lines (drop c.args.taken.now.start c.args.taken.now.bytes.items) c.requires.stands.line

pub returns-clause-answer : goal.returns-clause-answer
returns-clause-answer c =
    let bytes = c.args.taken.now.bytes.items in
    let lines = c.args.lines in
    let line = drop c.args.taken.now.start c.args.taken.now.bytes.items in
    let before = take lines (steps_so true bytes) in
    let long = line_length true bytes lines line c.requires.stands.line c.requires.opened in
    let is = c.line_answer.ensures.step before long c.requires.standing ∙ ap (λ (l : List ℕ). next_answer before l) c.rest-line.ensures in
    line_answers true bytes lines line c.line_answer.result c.requires.stands.line c.requires.opened is

pub returns-clause-reading : goal.returns-clause-reading
returns-clause-reading c = λ goes_on.
    let bytes = c.args.taken.now.bytes.items in
    let lines = c.args.lines in
    let line = drop c.args.taken.now.start c.args.taken.now.bytes.items in
    let before = take lines (steps_so true bytes) in
    let long = line_length true bytes lines line c.requires.stands.line c.requires.opened in
    let is = c.line_answer.ensures.step before long c.requires.standing ∙ ap (λ (l : List ℕ). next_answer before l) c.rest-line.ensures in
    reading_on true bytes c.args.taken.now.start lines line c.line_answer.result (row_at bytes_eq c.line_answer.new.standing.rows) (index_map_len c.line_answer.new.standing.rows)
    c.requires.stands.line (line_answers true bytes lines line c.line_answer.result c.requires.stands.line c.requires.opened is)
    (c.line_answer.ensures.standing before long c.requires.standing)
    (λ h. absurd (false≢true (sym h))) (λ _. c.requires.stands.out) goes_on

pub returns-clause-no_fault : goal.returns-clause-no_fault
returns-clause-no_fault c =
    let bytes = c.args.taken.now.bytes.items in
    let lines = c.args.lines in
    let line = drop c.args.taken.now.start c.args.taken.now.bytes.items in
    let before = take lines (steps_so true bytes) in
    let long = line_length true bytes lines line c.requires.stands.line c.requires.opened in
    let is = c.line_answer.ensures.step before long c.requires.standing ∙ ap (λ (l : List ℕ). next_answer before l) c.rest-line.ensures in
    ap (λ (s : Step). is_read_fault s) is ∙ (answer_is_of_line before line).1

pub returns-clause-few : goal.returns-clause-few
returns-clause-few c =
    let bytes = c.args.taken.now.bytes.items in
    let before = take c.args.lines (steps_so true bytes) in
    let long = line_length true bytes c.args.lines (drop c.args.taken.now.start c.args.taken.now.bytes.items) c.requires.stands.line c.requires.opened in
    (c.line_answer.ensures.standing before long c.requires.standing).few

pub returns-clause-of_line : goal.returns-clause-of_line
returns-clause-of_line c =
    let bytes = c.args.taken.now.bytes.items in
    let lines = c.args.lines in
    let line = drop c.args.taken.now.start c.args.taken.now.bytes.items in
    let before = take lines (steps_so true bytes) in
    let long = line_length true bytes lines line c.requires.stands.line c.requires.opened in
    let is = c.line_answer.ensures.step before long c.requires.standing ∙ ap (λ (l : List ℕ). next_answer before l) c.rest-line.ensures in
    ap (λ (s : Step). is_of_line s) is ∙ (answer_is_of_line before line).0

pub returns-clause-numbered : goal.returns-clause-numbered
returns-clause-numbered c =
    let bytes = c.args.taken.now.bytes.items in
    let lines = c.args.lines in
    let line = drop c.args.taken.now.start c.args.taken.now.bytes.items in
    let before = take lines (steps_so true bytes) in
    let long = line_length true bytes lines line c.requires.stands.line c.requires.opened in
    let is = c.line_answer.ensures.step before long c.requires.standing ∙ ap (λ (l : List ℕ). next_answer before l) c.rest-line.ensures in
    answer_numbered before line lines c.line_answer.result long is
