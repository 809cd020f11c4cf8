use Rattle.std.proofs.Common.{ℕ, ◌≡◌, List, length, arith, subst}
use Rattle.desk_report.specs.Marks.{mark_in, mark_at}
use Rattle.desk_report.proofs.Steps.{mark_more}
use Rattle.desk_report.proofs.marks.noted.Goals as goal

pub loop-place-preserved : goal.loop-place-preserved
loop-place-preserved c = λ q.
    mark_more c.args.history.now c.loop-place.place c.index-history-place.result q (mark_in c.loop-place.marks q) (mark_in c.note.new.marks q)
    c.loop-place-test.true c.index-history-place.is (c.loop-place.invariant q) (c.in_ok-note.ensures q)

pub returns : goal.returns
returns c =
    let all : c.loop-place.place ≡ length c.args.history.now = omega (arith, c.loop-place-test.false, c.loop-place.auto.place-end) in
    subst (λ (n : ℕ). (q : List ℕ) → mark_in c.loop-place.marks q ≡ mark_at c.args.history.now n q) all c.loop-place.invariant
