use Rattle.std.proofs.Common.{◌≡◌, ℕ, List, false, true, take, refl, sym, ap, ◌∙◌, subst}
use Rattle.std.proofs.lemmas.Bool.{false≢true}
use Rattle.feed_definitions.specs.declared.step.Step.{Step}
use Rattle.feed_definitions.specs.declared.step.Step.TheVariants as step
use Rattle.feed_definitions.specs.Forms.{header_of}
use Rattle.feed_definitions.specs.Answers.{is_open, ends_feed, header_step}
use Rattle.feed_lines.specs.declared.next_line.NextLine.{NextLine}
use Rattle.feed_lines.specs.Taking.{looked_at}
use Rattle.feed_lines.specs.Reader.{steps_so, StandsSo, IsAnswer, drained_by}
use Rattle.feed_lines.proofs.Answering.{line_answers, line_length, ending_answers, answer_first, long_is_shut, shut_is_whole, cut_is_whole}
use Rattle.feed_lines.proofs.answer.answer.Goals as goal

pub returns-in-Whole-clause-answer : goal.returns-in-Whole-clause-answer
returns-in-Whole-clause-answer c =
    let bytes = c.args.taken.now.bytes.items in
    let stands = subst (λ (f : NextLine). StandsSo bytes c.args.taken.now.start c.args.lines f) c.in-Whole.is c.requires.stands in
    let opened = subst (λ (f : NextLine). is_open (take c.args.lines (steps_so (drained_by f) bytes)) ≡ true) c.in-Whole.is c.requires.opened in
    let long = line_length false bytes c.args.lines (looked_at bytes) stands.line opened in
    let is = c.first_step.ensures.step ∙ ap (λ (l : List ℕ). header_step (header_of l)) c.looked_at.ensures ∙ answer_first (take c.args.lines (steps_so false bytes)) (looked_at bytes) (long ∙ stands.first) in
    subst (λ (f : NextLine). IsAnswer (drained_by f) bytes c.args.lines c.first_step.result) (sym c.in-Whole.is)
    (line_answers false bytes c.args.lines (looked_at bytes) c.first_step.result stands.line opened is)

pub returns-in-Whole-clause-reading : goal.returns-in-Whole-clause-reading
returns-in-Whole-clause-reading c = λ goes_on.
    let bytes = c.args.taken.now.bytes.items in
    let stands = subst (λ (f : NextLine). StandsSo bytes c.args.taken.now.start c.args.lines f) c.in-Whole.is c.requires.stands in
    absurd (false≢true (sym goes_on ∙ ap (λ (s : Step). ends_feed s) (c.first_step.ensures.step ∙ ap (λ (l : List ℕ). header_step (header_of l)) c.looked_at.ensures) ∙ long_is_shut (looked_at bytes) stands.long))

pub returns-in-Cut-clause-answer : goal.returns-in-Cut-clause-answer
returns-in-Cut-clause-answer c =
    let bytes = c.args.taken.now.bytes.items in
    let stands = subst (λ (f : NextLine). StandsSo bytes c.args.taken.now.start c.args.lines f) c.in-Cut.is c.requires.stands in
    let opened = subst (λ (f : NextLine). is_open (take c.args.lines (steps_so (drained_by f) bytes)) ≡ true) c.in-Cut.is c.requires.opened in
    subst (λ (f : NextLine). IsAnswer (drained_by f) bytes c.args.lines step.Cut) (sym c.in-Cut.is)
    (ending_answers false bytes c.args.lines step.Cut stands opened refl)

pub returns-in-End-clause-answer : goal.returns-in-End-clause-answer
returns-in-End-clause-answer c =
    let bytes = c.args.taken.now.bytes.items in
    let stands = subst (λ (f : NextLine). StandsSo bytes c.args.taken.now.start c.args.lines f) c.in-End.is c.requires.stands in
    let opened = subst (λ (f : NextLine). is_open (take c.args.lines (steps_so (drained_by f) bytes)) ≡ true) c.in-End.is c.requires.opened in
    subst (λ (f : NextLine). IsAnswer (drained_by f) bytes c.args.lines step.End) (sym c.in-End.is)
    (ending_answers true bytes c.args.lines step.End stands opened refl)

pub returns-in-ReadFault-clause-answer : goal.returns-in-ReadFault-clause-answer
returns-in-ReadFault-clause-answer c =
    let bytes = c.args.taken.now.bytes.items in
    let stands = subst (λ (f : NextLine). StandsSo bytes c.args.taken.now.start c.args.lines f) c.in-ReadFault.is c.requires.stands in
    let opened = subst (λ (f : NextLine). is_open (take c.args.lines (steps_so (drained_by f) bytes)) ≡ true) c.in-ReadFault.is c.requires.opened in
    subst (λ (f : NextLine). IsAnswer (drained_by f) bytes c.args.lines step.ReadFault) (sym c.in-ReadFault.is)
    (ending_answers false bytes c.args.lines step.ReadFault stands opened refl)

pub returns-in-Whole-clause-whole : goal.returns-in-Whole-clause-whole
returns-in-Whole-clause-whole c = λ ends no_fault not_drained.
    let bytes = c.args.taken.now.bytes.items in
    let stands = subst (λ (f : NextLine). StandsSo bytes c.args.taken.now.start c.args.lines f) c.in-Whole.is c.requires.stands in
    let opened = subst (λ (f : NextLine). is_open (take c.args.lines (steps_so (drained_by f) bytes)) ≡ true) c.in-Whole.is c.requires.opened in
    let long = line_length false bytes c.args.lines (looked_at bytes) stands.line opened in
    let is = c.first_step.ensures.step ∙ ap (λ (l : List ℕ). header_step (header_of l)) c.looked_at.ensures ∙ answer_first (take c.args.lines (steps_so false bytes)) (looked_at bytes) (long ∙ stands.first) in
    shut_is_whole bytes c.args.lines (looked_at bytes) c.first_step.result stands.line opened is ends

pub returns-in-Cut-clause-whole : goal.returns-in-Cut-clause-whole
returns-in-Cut-clause-whole c = λ ends no_fault not_drained.
    let bytes = c.args.taken.now.bytes.items in
    let stands = subst (λ (f : NextLine). StandsSo bytes c.args.taken.now.start c.args.lines f) c.in-Cut.is c.requires.stands in
    cut_is_whole bytes c.args.lines stands
