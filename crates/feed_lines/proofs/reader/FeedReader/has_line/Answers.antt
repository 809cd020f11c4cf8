use Rattle.std.proofs.Common.{ℕ, ◌≡◌, ◌≤◌, ◌<◌, List, length, drop, sym, ap, ◌∙◌, subst, subst₂, arith, true, false}
use Rattle.std.specs.Prelude.{Bool, MatchBool}
use Rattle.feed_definitions.specs.Lines.{ended_lines}
use Rattle.feed_lines.specs.Taking.{looked_at, IsEndedAt, IsOneLine}
use Rattle.feed_lines.proofs.Lines.{more_ended, ended_looked}
use Rattle.feed_lines.proofs.Takings.{length-looked_at}
use Rattle.feed_lines.proofs.reader.FeedReader.has_line.Goals as goal

-- what the bytes say, once it is known whether a line feed follows
Says : List ℕ → ℕ → Bool → Type 0
Says bytes start found = MatchBool found ((end : ℕ) × IsEndedAt (looked_at bytes) start end) (IsOneLine (drop start (looked_at bytes)))

pub has_line-requires : goal.has_line-requires
has_line-requires g c =
    let at = (c.self.invariant.reading c.if-self.false).at_line c.if-self-2.false in
    let long = length-looked_at c.self.inside.taken.bytes.items in
    let low = at.low in
    let within = at.within in
    omega (arith, long, low, within)

pub returns-clause-no_read : goal.returns-clause-no_read
unfolding Says
returns-clause-no_read g c = λ some.
    let bytes = c.self.inside.taken.bytes.items in
    let at = (c.self.invariant.reading c.if-self.false).at_line c.if-self-2.false in
    let found = subst (Says bytes c.self.inside.taken.start) some c.has_line.ensures in
    let more = more_ended bytes c.self.inside.taken.start c.self.inside.answers at found.0 found.1 in
    subst₂ (λ (n : ℕ) (b : List ℕ). n < length (ended_lines b)) (ap (λ v. v.answers) c.self.view_is) (ap (λ v. v.taken) c.self.view_is) more

pub returns-clause-exact : goal.returns-clause-exact
unfolding Says
returns-clause-exact g c = λ over drained none.
    let bytes = c.self.inside.taken.bytes.items in
    let at = (c.self.invariant.reading c.if-self.false).at_line c.if-self-2.false in
    let one = subst (Says bytes c.self.inside.taken.start) none c.has_line.ensures in
    let same : length (ended_lines (looked_at bytes)) ≡ c.self.inside.answers = ap length (ended_looked bytes c.self.inside.taken.start c.self.inside.answers at one) ∙ at.count in
    subst₂ (λ (n : ℕ) (b : List ℕ). length (ended_lines (looked_at b)) ≡ n) (ap (λ v. v.answers) c.self.view_is) (ap (λ v. v.taken) c.self.view_is) same
