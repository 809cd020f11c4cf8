use Rattle.std.proofs.lemmas.List.{length-map}
use Rattle.std.proofs.Common.{ℕ, List, ◌≡◌, Global, Some, length, map, string_bytes, sym, ap, ◌∙◌, subst}
use Rattle.clap.specs.Words.{Text}
use Rattle.desk_words.specs.declared.command.Command.{Command}
use Rattle.desk_definitions.specs.Seen.{opener_seen, sink_seen}
use Rattle.desk_definitions.specs.Opening.{told_bytes}
use Rattle.desk_definitions.specs.Course.{Outcome}
use Rattle.desk_definitions.specs.Causes.{HaveRun, HasCauses}
use Rattle.desk_laws.specs.Histories.{HasWholeHistory}
use Rattle.scan_desk.specs.Desk.{HasCausesOf, IsRunOf, ReadsFeeds}
use Rattle.scan_desk.proofs.Commands.{run_of_feeds}
use Rattle.scan_desk.proofs.program.run_command.Goals as goal

pub returns-in-Once-clause-course : goal.returns-in-Once-clause-course
returns-in-Once-clause-course g c =
    let left = g.O.S.Source.left in
    let faults = g.O.S.Source.faults in
    let P : Command → Type 0 = λ command. IsRunOf left faults (Some command) (opener_seen g.O.Opener.told g.O.Opener.promises g.O.Opener.opens_told g.O.Opener.faults c.args.opener.now c.once.new.opener) c.once.result.feeds.items c.once.result.history.items c.once.result.status
    (sink_seen g.K.Sink.written g.K.Sink.faults c.args.sink.now c.once.new.sink) in
    subst P (sym c.in-Once.is) (run_of_feeds left faults c.in-Once.pivots c.in-Once.feeds (map (string_bytes {Z = Global}) c.names.result.now) (opener_seen g.O.Opener.told g.O.Opener.promises g.O.Opener.opens_told g.O.Opener.faults c.args.opener.now c.once.new.opener)
    c.once.result.feeds.items c.once.result.history.items c.once.result.status (sink_seen g.K.Sink.written g.K.Sink.faults c.args.sink.now c.once.new.sink) c.names.ensures c.once.ensures.course)

pub returns-in-Once-clause-history : goal.returns-in-Once-clause-history
returns-in-Once-clause-history g c = λ names pivots reads ran memory.
    let left = g.O.S.Source.left in
    let faults = g.O.S.Source.faults in
    let given = map (string_bytes {Z = Global}) c.names.result.now in
    let told = g.O.Opener.told c.args.opener.now in
    let out : Outcome g.row.O-S.Denot = record { ends = c.once.result.feeds.items; history = c.once.result.history.items } in
    let R : Command → Type 0 = λ command. ReadsFeeds (Some command) names pivots in
    let asked : (c.in-Once.feeds ≡ names) × (c.in-Once.pivots ≡ pivots) = subst R c.in-Once.is reads in
    let same : given ≡ names = c.names.ensures ∙ asked.0 in
    let each = length-map c.names.result.now (string_bytes {Z = Global}) in
    let N : ℕ → Type 0 = λ n. HaveRun n c.once.result.feeds.items in
    let Q : ℕ → Type 0 = λ n. HasWholeHistory left faults (told_bytes told given) n c.in-Once.pivots out in
    let F : List Text → Type 0 = λ texts. HasWholeHistory left faults (told_bytes told texts) (length texts) c.in-Once.pivots out in
    let B : ℕ → Type 0 = λ n. HasWholeHistory left faults (told_bytes told names) (length names) n out in
    subst B asked.1 (subst F same (subst Q (sym each) (c.once.ensures.history (subst N (ap length (sym same) ∙ each) ran) memory)))

pub returns-in-Once-clause-causes : goal.returns-in-Once-clause-causes
returns-in-Once-clause-causes g c =
    let left = g.O.S.Source.left in
    let faults = g.O.S.Source.faults in
    let given = map (string_bytes {Z = Global}) c.names.result.now in
    let out : Outcome g.row.O-S.Denot = record { ends = c.once.result.feeds.items; history = c.once.result.history.items } in
    let P : Command → Type 0 = λ command. HasCausesOf left faults (Some command) (opener_seen g.O.Opener.told g.O.Opener.promises g.O.Opener.opens_told g.O.Opener.faults c.args.opener.now c.once.new.opener) out c.once.result.status (sink_seen g.K.Sink.written g.K.Sink.faults c.args.sink.now c.once.new.sink) in
    let F : List Text → Type 0 = λ texts. HasCauses left faults texts c.in-Once.pivots (opener_seen g.O.Opener.told g.O.Opener.promises g.O.Opener.opens_told g.O.Opener.faults c.args.opener.now c.once.new.opener) out c.once.result.status (sink_seen g.K.Sink.written g.K.Sink.faults c.args.sink.now c.once.new.sink) in
    subst P (sym c.in-Once.is) (subst F c.names.ensures
    (c.statuses_have_causes.ensures given c.in-Once.pivots c.once.result.status c.args.opener.now c.once.new.opener c.args.sink.now c.once.new.sink out c.once.ensures.course c.once.ensures.source_faults c.once.ensures.read_as_promised))
