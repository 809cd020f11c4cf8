use Rattle.std.proofs.Common.{ℕ, List, false, take, drop, ◌-◌, ◌+◌, sym, ap, ◌∙◌, subst}
use Rattle.std.specs.Str.{bytes_eq}
use Rattle.std.proofs.lemmas.Bool.{false≢true}
use Rattle.indexmap.specs.IndexMap.{get as row_at, index_map_len}
use Rattle.feed_definitions.specs.declared.step.Step.{Step}
use Rattle.feed_definitions.specs.Answers.{next_answer}
use Rattle.feed_lines.specs.Taking.{looked_at}
use Rattle.feed_lines.specs.Reader.{steps_so, IsAtLine, is_read_fault, is_of_line}
use Rattle.feed_lines.proofs.Answering.{line_answers, line_length, low_line, reading_on, answer_is_of_line, answer_numbered, shut_is_whole}
use Rattle.feed_lines.proofs.answer.ended_answer.Goals as goal

pub line_answer-step-requires-clause-few : goal.line_answer-step-requires-clause-few
line_answer-step-requires-clause-few c = low_line false c.args.taken.now.bytes.items c.args.lines (take (c.args.end - c.args.taken.now.start) (drop c.args.taken.now.start (looked_at c.args.taken.now.bytes.items))) c.requires.stands.line

pub returns-clause-answer : goal.returns-clause-answer
returns-clause-answer c =
    let bytes = c.args.taken.now.bytes.items in
    let lines = c.args.lines in
    let line = take (c.args.end - c.args.taken.now.start) (drop c.args.taken.now.start (looked_at c.args.taken.now.bytes.items)) in
    let before = take lines (steps_so false bytes) in
    let long = line_length false bytes lines line c.requires.stands.line c.requires.opened in
    let is = c.line_answer-step.ensures.step before long c.requires.standing ∙ ap (λ (l : List ℕ). next_answer before l) c.line-line.ensures in
    line_answers false bytes lines line c.line_answer-step.result c.requires.stands.line c.requires.opened is

pub returns-clause-reading : goal.returns-clause-reading
returns-clause-reading c = λ goes_on.
    let bytes = c.args.taken.now.bytes.items in
    let lines = c.args.lines in
    let line = take (c.args.end - c.args.taken.now.start) (drop c.args.taken.now.start (looked_at c.args.taken.now.bytes.items)) in
    let before = take lines (steps_so false bytes) in
    let long = line_length false bytes lines line c.requires.stands.line c.requires.opened in
    let is = c.line_answer-step.ensures.step before long c.requires.standing ∙ ap (λ (l : List ℕ). next_answer before l) c.line-line.ensures in
    reading_on false bytes c.pass.new.self.start lines line c.line_answer-step.result (row_at bytes_eq c.line_answer-step.new.standing.rows) (index_map_len c.line_answer-step.new.standing.rows)
    c.requires.stands.line (line_answers false bytes lines line c.line_answer-step.result c.requires.stands.line c.requires.opened is)
    (c.line_answer-step.ensures.standing before long c.requires.standing)
    (λ _. subst (λ (s : ℕ). IsAtLine bytes s (lines + 1)) (sym c.pass.ensures.start) c.requires.stands.next_line) (λ h. absurd (false≢true h)) goes_on

pub returns-clause-no_fault : goal.returns-clause-no_fault
returns-clause-no_fault c =
    let bytes = c.args.taken.now.bytes.items in
    let lines = c.args.lines in
    let line = take (c.args.end - c.args.taken.now.start) (drop c.args.taken.now.start (looked_at c.args.taken.now.bytes.items)) in
    let before = take lines (steps_so false bytes) in
    let long = line_length false bytes lines line c.requires.stands.line c.requires.opened in
    let is = c.line_answer-step.ensures.step before long c.requires.standing ∙ ap (λ (l : List ℕ). next_answer before l) c.line-line.ensures in
    ap (λ (s : Step). is_read_fault s) is ∙ (answer_is_of_line before line).1

pub returns-clause-few : goal.returns-clause-few
returns-clause-few c =
    let bytes = c.args.taken.now.bytes.items in
    let before = take c.args.lines (steps_so false bytes) in
    let long = line_length false bytes c.args.lines (take (c.args.end - c.args.taken.now.start) (drop c.args.taken.now.start (looked_at c.args.taken.now.bytes.items))) c.requires.stands.line c.requires.opened in
    (c.line_answer-step.ensures.standing before long c.requires.standing).few

pub returns-clause-of_line : goal.returns-clause-of_line
returns-clause-of_line c =
    let bytes = c.args.taken.now.bytes.items in
    let lines = c.args.lines in
    let line = take (c.args.end - c.args.taken.now.start) (drop c.args.taken.now.start (looked_at c.args.taken.now.bytes.items)) in
    let before = take lines (steps_so false bytes) in
    let long = line_length false bytes lines line c.requires.stands.line c.requires.opened in
    let is = c.line_answer-step.ensures.step before long c.requires.standing ∙ ap (λ (l : List ℕ). next_answer before l) c.line-line.ensures in
    ap (λ (s : Step). is_of_line s) is ∙ (answer_is_of_line before line).0

pub returns-clause-numbered : goal.returns-clause-numbered
returns-clause-numbered c =
    let bytes = c.args.taken.now.bytes.items in
    let lines = c.args.lines in
    let line = take (c.args.end - c.args.taken.now.start) (drop c.args.taken.now.start (looked_at c.args.taken.now.bytes.items)) in
    let before = take lines (steps_so false bytes) in
    let long = line_length false bytes lines line c.requires.stands.line c.requires.opened in
    let is = c.line_answer-step.ensures.step before long c.requires.standing ∙ ap (λ (l : List ℕ). next_answer before l) c.line-line.ensures in
    answer_numbered before line lines c.line_answer-step.result long is

pub returns-clause-whole : goal.returns-clause-whole
returns-clause-whole c = λ ends.
    let bytes = c.args.taken.now.bytes.items in
    let lines = c.args.lines in
    let line = take (c.args.end - c.args.taken.now.start) (drop c.args.taken.now.start (looked_at c.args.taken.now.bytes.items)) in
    let before = take lines (steps_so false bytes) in
    let long = line_length false bytes lines line c.requires.stands.line c.requires.opened in
    let is = c.line_answer-step.ensures.step before long c.requires.standing ∙ ap (λ (l : List ℕ). next_answer before l) c.line-line.ensures in
    shut_is_whole bytes lines line c.line_answer-step.result c.requires.stands.line c.requires.opened is ends
