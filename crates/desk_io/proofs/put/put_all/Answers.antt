use Rattle.std.proofs.Common.{◌∙◌, subst}
use Rattle.std.proofs.KnownBytes.{Appends-trans}
use Rattle.std.specs.Io.KnownBytes.{Appends}
use Rattle.desk_io.proofs.Rests.{after_within, after_is_rest, done_grows, after_shorter}
use Rattle.desk_io.proofs.put.put_all.Goals as goal

-- each write appends the next of the bytes that are left
pub loop-rest-preserved : goal.loop-rest-preserved
loop-rest-preserved g c =
    let K = g.K.Sink in
    let bytes = c.args.bytes.now in
    let rest = c.loop-rest.rest.now in
    let count = c.in_ok-taken.taken in
    let before = c.loop-rest.invariant in
    let wrote = c.in_ok-taken.ensures in
    record {
      within = after_within bytes rest count before.rest wrote.bound before.within;
      rest = after_is_rest bytes rest count before.rest wrote.bound before.within;
      appended = subst (Appends (K.written c.args.sink.now) (K.written c.write.new.self))
          (done_grows bytes rest count before.rest wrote.bound before.within)
          (Appends-trans _ _ _ _ _ before.appended wrote.appended);
      faults = wrote.no_fault ∙ before.faults;
      untouched = λ whole. absurd (after_shorter bytes rest count before.rest wrote.bound before.within wrote.some whole);
    }
