use Rattle.std.proofs.Common.{ℕ, Global, map, string_bytes, sym, subst}
use Rattle.desk_words.specs.Commands.{command_of}
use Rattle.desk_definitions.specs.Course.{Outcome}
use Rattle.desk_definitions.specs.Seen.{opener_seen, sink_seen}
use Rattle.scan_desk.specs.Desk.{HasCausesOf, IsRunOf}
use Rattle.scan_desk.proofs.Commands.{causes_without_memory, nothing_written, run_without_memory}
use Rattle.scan_desk.proofs.program.desk.Goals as goal

pub returns-in-Err-WantOfMemory-clause-course : goal.returns-in-Err-WantOfMemory-clause-course
returns-in-Err-WantOfMemory-clause-course g c =
    let O = g.O.Opener in
    let K = g.K.Sink in
    let S = g.O.S.Source in
    let opener = c.args.opener.now in
    let sink = c.args.sink.now in
    let seen = opener_seen O.told O.promises O.opens_told O.faults opener opener in
    let sunk = sink_seen K.written K.faults sink sink in
    let command = command_of (map (string_bytes {Z = Global}) c.args.words.now) in
    let end = c.unbegun in
    let P : ℕ → Type 0 = λ status. IsRunOf S.left S.faults command seen end.result.feeds.items end.result.history.items status sunk in
    subst P (sym end.ensures.status)
    (run_without_memory S.left S.faults (O.told opener) (O.promises opener) (O.opens_told opener) (O.faults opener) end.result.feeds.items end.result.history.items sunk
    end.ensures.unbegun (nothing_written (K.written sink) (K.faults sink)) command)

pub returns-in-Err-WantOfMemory-clause-causes : goal.returns-in-Err-WantOfMemory-clause-causes
returns-in-Err-WantOfMemory-clause-causes g c =
    let O = g.O.Opener in
    let K = g.K.Sink in
    let S = g.O.S.Source in
    let opener = c.args.opener.now in
    let sink = c.args.sink.now in
    let seen = opener_seen O.told O.promises O.opens_told O.faults opener opener in
    let sunk = sink_seen K.written K.faults sink sink in
    let command = command_of (map (string_bytes {Z = Global}) c.args.words.now) in
    let end = c.unbegun in
    let out : Outcome g.row.O-S.Denot = record { ends = end.result.feeds.items; history = end.result.history.items } in
    let P : ℕ → Type 0 = λ status. HasCausesOf S.left S.faults command seen out status sunk in
    subst P (sym end.ensures.status)
    (causes_without_memory S.left S.faults (O.told opener) (O.promises opener) (O.opens_told opener) (O.faults opener) end.result.feeds.items end.result.history.items sunk
    end.ensures.unbegun (nothing_written (K.written sink) (K.faults sink)) (λ names budget. c.statuses_have_causes.ensures names budget 7 opener opener sink sink out) command)
