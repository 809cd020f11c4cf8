use Rattle.std.proofs.Common.{◌≡◌, ◌≤◌, ◌-◌, ◌∙◌, [], ◌∷◌, refl, ap, sym, arith, length, take, drop}
use Rattle.feed_definitions.specs.Lines.{pieces}
use Rattle.scan_types.specs.declared.limits.TheConstants.{MOST_FEED_BYTES}
use Rattle.feed_lines.specs.Taking.{looked_at}
use Rattle.feed_lines.proofs.Splits.{one_line_on, ended_earlier}
use Rattle.feed_lines.proofs.Takings.{takes_nothing, takes_on, nothing_more, looked_through, no_second, all_looked_at, length-looked_at, found_none}
use Rattle.feed_lines.proofs.taken.Taken.search.Goals as goal

pub returns-in-Some-clause-found : goal.returns-in-Some-clause-found
returns-in-Some-clause-found g c =
    ended_earlier (looked_at c.reads.self.bytes.items) c.reads.self.start c.reads.from c.reads.invariant.after c.in-Some.end c.reads.invariant.looked c.in-Some.ensures

pub returns-in-Ok-eq0-clause-found : goal.returns-in-Ok-eq0-clause-found
returns-in-Ok-eq0-clause-found g c =
    let one = one_line_on (looked_at c.reads.self.bytes.items) c.reads.self.start c.reads.from c.reads.invariant.after c.reads.invariant.looked c.in_default.ensures in
    let same = nothing_more _ _ c.reads.self.bytes.items c.read_more.new.self.bytes.items c.in-Ok-eq0.ensures.goes_on.takes (omega (arith, c.in-Ok-eq0.ensures.count, c.in-Ok-eq0.field-0-is, c.in-Ok-eq0.field-0-test)) in
    found_none c.read_more.new.self.bytes.items c.reads.self.bytes.items c.read_more.new.self.start c.reads.self.start same c.in-Ok-eq0.ensures.start one (omega arith)

pub returns-in-Ok-eq0-clause-no_read : goal.returns-in-Ok-eq0-clause-no_read
returns-in-Ok-eq0-clause-no_read g c = λ more.
    let one = one_line_on (looked_at c.reads.self.bytes.items) c.reads.self.start c.reads.from c.reads.invariant.after c.reads.invariant.looked c.in_default.ensures in
    absurd (no_second c.args.self.now.bytes.items c.reads.self.bytes.items c.args.self.now.start c.reads.self.start (c.reads.invariant.no_read more).0 c.reads.invariant.start one (omega arith) more)

pub returns-in-Ok-eq0-clause-goes_on : goal.returns-in-Ok-eq0-clause-goes_on
returns-in-Ok-eq0-clause-goes_on g c =
    let before = c.reads.invariant.goes_on in
    let read = c.in-Ok-eq0.ensures.goes_on in
    record {
      takes = takes_on _ _ _ c.args.self.now.bytes.items c.reads.self.bytes.items c.read_more.new.self.bytes.items before.takes read.takes;
      faults_kept = omega (arith, before.faults_kept, read.faults_kept);
      is_later = g.met.S.Source.later_transitive c.args.source.now c.reads.source c.read_more.new.source before.is_later read.is_later;
      promise_kept = λ p. read.promise_kept (before.promise_kept p);
    }

pub reads-preserved : goal.reads-preserved
reads-preserved g c =
    let before = c.reads.invariant in
    let read = c.in-Ok.ensures in
    let few : length c.reads.self.bytes.items ≤ MOST_FEED_BYTES = omega arith in
    let one = one_line_on (looked_at c.reads.self.bytes.items) c.reads.self.start c.reads.from before.after before.looked c.in_default.ensures in
    let seen : length (looked_at c.reads.self.bytes.items) ≡ length c.reads.self.bytes.items = ap length (all_looked_at c.reads.self.bytes.items few) in
    record {
      start = read.start ∙ before.start;
      low = omega (arith, read.start, before.low);
      after = omega (arith, read.start, before.after, before.within, seen);
      within = omega (arith, read.count, length-looked_at c.read_more.new.self.bytes.items, few);
      looked = looked_through _ _ c.reads.self.bytes.items c.read_more.new.self.bytes.items c.reads.self.start c.len-from.result c.read_more.new.self.start read.goes_on.takes (omega (arith, before.after, before.within, seen)) few (omega arith) read.start one;
      room = omega (arith, read.room, before.room);
      few = omega (arith, read.count, few);
      goes_on = record {
        takes = takes_on _ _ _ c.args.self.now.bytes.items c.reads.self.bytes.items c.read_more.new.self.bytes.items before.goes_on.takes read.goes_on.takes;
        faults_kept = omega (arith, before.goes_on.faults_kept, read.goes_on.faults_kept);
        is_later = g.met.S.Source.later_transitive c.args.source.now c.reads.source c.read_more.new.source before.goes_on.is_later read.goes_on.is_later;
        promise_kept = λ p. read.goes_on.promise_kept (before.goes_on.promise_kept p);
      };
      no_fault = read.no_fault ∙ before.no_fault;
      no_read = λ more. absurd (no_second c.args.self.now.bytes.items c.reads.self.bytes.items c.args.self.now.start c.reads.self.start (before.no_read more).0 before.start one few more);
    }

pub returns-in-Err-clause-found : goal.returns-in-Err-clause-found
returns-in-Err-clause-found g c =
    let one = one_line_on (looked_at c.reads.self.bytes.items) c.reads.self.start c.reads.from c.reads.invariant.after c.reads.invariant.looked c.in_default.ensures in
    found_none c.read_more.new.self.bytes.items c.reads.self.bytes.items c.read_more.new.self.start c.reads.self.start c.in-Err.ensures.nothing c.in-Err.ensures.start one (omega arith)

pub returns-in-Err-clause-no_read : goal.returns-in-Err-clause-no_read
returns-in-Err-clause-no_read g c = λ more.
    let one = one_line_on (looked_at c.reads.self.bytes.items) c.reads.self.start c.reads.from c.reads.invariant.after c.reads.invariant.looked c.in_default.ensures in
    absurd (no_second c.args.self.now.bytes.items c.reads.self.bytes.items c.args.self.now.start c.reads.self.start (c.reads.invariant.no_read more).0 c.reads.invariant.start one (omega arith) more)

pub returns-in-Err-clause-goes_on : goal.returns-in-Err-clause-goes_on
returns-in-Err-clause-goes_on g c =
    let before = c.reads.invariant.goes_on in
    let read = c.in-Err.ensures.goes_on in
    record {
      takes = takes_on _ _ _ c.args.self.now.bytes.items c.reads.self.bytes.items c.read_more.new.self.bytes.items before.takes read.takes;
      faults_kept = omega (arith, before.faults_kept, read.faults_kept);
      is_later = g.met.S.Source.later_transitive c.args.source.now c.reads.source c.read_more.new.source before.is_later read.is_later;
      promise_kept = λ p. read.promise_kept (before.promise_kept p);
    }

pub reads-init : goal.reads-init
reads-init g c = record {
  start = refl;
  low = c.requires.low;
  after = omega arith;
  within = omega (arith, length-looked_at c.args.self.now.bytes.items, c.requires.low, c.args.self.now.start_within, c.args.self.now.bytes.ok.0);
  looked = ap (λ n. pieces (take n (drop c.args.self.now.start (looked_at c.args.self.now.bytes.items)))) {x = c.args.self.now.start - c.args.self.now.start} {y = 0} (omega arith)
      ∙ sym (ap (λ n. take n (drop c.args.self.now.start (looked_at c.args.self.now.bytes.items)) ∷ []) {x = c.args.self.now.start - c.args.self.now.start} {y = 0} (omega arith));
  room = c.requires.room;
  few = c.requires.few;
  goes_on = record {
    takes = takes_nothing (g.S.Source.left c.args.source.now) c.args.self.now.bytes.items;
    faults_kept = omega arith;
    is_later = g.met.S.Source.later_reflexive c.args.source.now;
    promise_kept = λ p. p;
  };
  no_fault = refl;
  no_read = λ more. (refl, refl);
}

pub returns-then-len-gt-MOST_FEED_BYTES-clause-found : goal.returns-then-len-gt-MOST_FEED_BYTES-clause-found
returns-then-len-gt-MOST_FEED_BYTES-clause-found g c = (
  one_line_on (looked_at c.reads.self.bytes.items) c.reads.self.start c.reads.from c.reads.invariant.after c.reads.invariant.looked c.in_default.ensures,
  omega arith,
)
