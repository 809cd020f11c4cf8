use Rattle.std.proofs.Common.{◌≡◌, ◌≤◌, ◌+◌, length, rules}
use Rattle.desk_definitions.specs.Seen.{sink_seen}
use Rattle.desk_once.proofs.NoBodies.{unheaded}
use Rattle.desk_once.proofs.headless.without_header.Goals as goal

pub returns-clause-course : goal.returns-clause-course
returns-clause-course g c = λ told names budget stops.
    let counted : 1 ≤ length c.args.no.ends.items → c.last_number-number.result + 1 ≡ length c.args.no.ends.items = search rules in
    unheaded g.S.Source.left g.S.Source.faults told names budget c.args.no.ends.items c.new.result.items c.new.ensures.items c.say_no_header-status.result
    (sink_seen g.K.Sink.written g.K.Sink.faults c.args.sink.now c.say_no_header-status.new.sink) c.args.no.stop c.last_number-number.result counted c.say_no_header-status.ensures stops
