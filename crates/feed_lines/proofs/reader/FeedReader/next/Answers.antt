use Rattle.std.proofs.Common.{ℕ, ◌+◌, Bool, List, [], ◌∷◌, ◌++◌, length, take, sym, ap, ◌∙◌, subst, arith}
use Rattle.std.specs.Str.{bytes_eq}
use Rattle.std.specs.Map.{lookup}
use Rattle.indexmap.specs.IndexMap.{get as row_at, index_map_len}
use Rattle.feed_definitions.specs.declared.step.Step.{Step}
use Rattle.feed_definitions.specs.Feed.{accepted_in}
use Rattle.feed_definitions.specs.Answers.{is_open}
use Rattle.feed_lines.specs.Rows.{IsStanding}
use Rattle.feed_lines.specs.Reader.{steps_so, answered, drained_by}
use Rattle.feed_lines.proofs.Between.{kept_answers, same_list, reading_so}
use Rattle.feed_lines.proofs.reader.FeedReader.next.Goals as goal

pub answer-step-requires-clause-opened : goal.answer-step-requires-clause-opened
answer-step-requires-clause-opened g c =
    let old = c.self.inside.taken.bytes.items in
    let now = c.found_next-found.new.taken.bytes.items in
    let count = c.self.inside.answers in
    let was = c.self.inside.drained in
    let found = drained_by c.found_next-found.result in
    let reading = c.self.invariant.reading (ap (λ v. v.over) c.self.view_is ∙ c.requires) in
    let same = c.in_ok-reserve-2.ensures.same in
    let takes = c.found_next-found.ensures.goes_on.takes in
    let kept = kept_answers old now takes.more c.self.inside.taken.start count was found
    reading.few_lines reading.at_line (takes.appended ∙ ap (λ (l : List ℕ). l ++ takes.more) same)
    (λ h. let k = c.found_next-found.ensures.kept h in (k.0, k.1 ∙ same)) in
    ap (λ (l : List Step). is_open l) kept ∙ reading.opened

pub answer-step-requires-clause-standing : goal.answer-step-requires-clause-standing
answer-step-requires-clause-standing g c =
    let old = c.self.inside.taken.bytes.items in
    let now = c.found_next-found.new.taken.bytes.items in
    let count = c.self.inside.answers in
    let was = c.self.inside.drained in
    let found = drained_by c.found_next-found.result in
    let reading = c.self.invariant.reading (ap (λ v. v.over) c.self.view_is ∙ c.requires) in
    let same = c.in_ok-reserve-2.ensures.same in
    let takes = c.found_next-found.ensures.goes_on.takes in
    let kept = kept_answers old now takes.more c.self.inside.taken.start count was found
    reading.few_lines reading.at_line (takes.appended ∙ ap (λ (l : List ℕ). l ++ takes.more) same)
    (λ h. let k = c.found_next-found.ensures.kept h in (k.0, k.1 ∙ same)) in
    subst (λ (l : List Step). IsStanding (row_at bytes_eq c.reserve.new.self.rows) (index_map_len c.reserve.new.self.rows) (accepted_in l)) (sym kept)
    (subst (λ (es : List (List ℕ × List Bool)). IsStanding (λ q. lookup (bytes_eq q) es) (length es) (accepted_in (take count (steps_so was old)))) (sym c.in_ok-reserve.ensures.same) reading.standing)

pub invariant_of-self-2 : goal.invariant_of-self-2
invariant_of-self-2 g c = record {
  reading = λ goes_on. reading_so c.is_drained-drained.result (drained_by c.found_next-found.result) c.answer-step.new.taken.bytes.items c.found_next-found.new.taken.bytes.items c.answer-step.new.taken.start (c.self.inside.answers + 1)
      (row_at bytes_eq c.answer-step.new.standing.rows) (index_map_len c.answer-step.new.standing.rows) c.is_drained-drained.ensures c.answer-step.ensures.bytes
      (c.answer-step.ensures.reading (sym c.ends_feed-self-inside.ensures ∙ goes_on));
  some = λ h. omega arith;
  few_taken = omega (arith, ap (λ (l : List ℕ). length l) c.answer-step.ensures.bytes, c.found_next-found.ensures.few);
  few_rows = c.answer-step.ensures.few;
}

pub returns-clause-earlier : goal.returns-clause-earlier
returns-clause-earlier g c =
    let old = c.self.inside.taken.bytes.items in
    let now = c.found_next-found.new.taken.bytes.items in
    let count = c.self.inside.answers in
    let was = c.self.inside.drained in
    let found = drained_by c.found_next-found.result in
    let reading = c.self.invariant.reading (ap (λ v. v.over) c.self.view_is ∙ c.requires) in
    let same = c.in_ok-reserve-2.ensures.same in
    let takes = c.found_next-found.ensures.goes_on.takes in
    let kept = kept_answers old now takes.more c.self.inside.taken.start count was found
    reading.few_lines reading.at_line (takes.appended ∙ ap (λ (l : List ℕ). l ++ takes.more) same)
    (λ h. let k = c.found_next-found.ensures.kept h in (k.0, k.1 ∙ same)) in
    ap (λ (n : ℕ). take n (steps_so c.is_drained-drained.result c.answer-step.new.taken.bytes.items)) (sym (ap (λ v. v.answers) c.self.view_is))
    ∙ same_list count c.is_drained-drained.result found c.answer-step.new.taken.bytes.items now c.is_drained-drained.ensures c.answer-step.ensures.bytes
    ∙ kept
    ∙ ap (λ v. answered v) c.self.view_is

pub returns-clause-answered : goal.returns-clause-answered
returns-clause-answered g c =
    let old = c.self.inside.taken.bytes.items in
    let now = c.found_next-found.new.taken.bytes.items in
    let count = c.self.inside.answers in
    let was = c.self.inside.drained in
    let found = drained_by c.found_next-found.result in
    let reading = c.self.invariant.reading (ap (λ v. v.over) c.self.view_is ∙ c.requires) in
    let same = c.in_ok-reserve-2.ensures.same in
    let takes = c.found_next-found.ensures.goes_on.takes in
    let kept = kept_answers old now takes.more c.self.inside.taken.start count was found
    reading.few_lines reading.at_line (takes.appended ∙ ap (λ (l : List ℕ). l ++ takes.more) same)
    (λ h. let k = c.found_next-found.ensures.kept h in (k.0, k.1 ∙ same)) in
    same_list (count + 1) c.is_drained-drained.result found c.answer-step.new.taken.bytes.items now c.is_drained-drained.ensures c.answer-step.ensures.bytes
    ∙ c.answer-step.ensures.answer.taken
    ∙ ap (λ (l : List Step). l ++ c.answer-step.result ∷ []) (kept ∙ ap (λ v. answered v) c.self.view_is)
