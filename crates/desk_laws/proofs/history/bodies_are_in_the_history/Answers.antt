use Rattle.desk_definitions.specs.Seen.{opener_seen, sink_seen}
use Rattle.desk_laws.proofs.Pasts.{history_of}
use Rattle.desk_laws.proofs.history.bodies_are_in_the_history.Goals as goal

pub returns : goal.returns
returns g c = λ names budget status before after sink_before sink_after out course run memory.
    history_of _ _ names budget (opener_seen g.O.Opener.told g.O.Opener.promises g.O.Opener.opens_told g.O.Opener.faults before after) out status (sink_seen g.K.Sink.written g.K.Sink.faults sink_before sink_after) c.findings_are_right.ensures course run memory
