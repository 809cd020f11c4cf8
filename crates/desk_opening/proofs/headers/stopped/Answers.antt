use Rattle.std.proofs.Common.{◌≡◌, ◌≢◌, ◌∙◌, List, [], ◌∷◌, ◌++◌, ap, sym, subst, All}
use Rattle.std.proofs.lemmas.List.Elements.{All-append, All-cons, All-nil}
use Rattle.board_definitions.specs.declared.event.FeedStop.TheVariants as stops
use Rattle.desk_definitions.specs.declared.feed_end.FeedEnd.{FeedEnd}
use Rattle.desk_opening.specs.declared.begun.HeaderStop.{HeaderStop}
use Rattle.desk_opening.specs.declared.begun.HeaderStop.TheVariants.{NoMemory}
use Rattle.desk_opening.specs.Headers.{StopsSo, begun_ends}
use Rattle.desk_opening.proofs.BegunFeeds.{stops_so, before_of, begun_counted}
use Rattle.desk_opening.proofs.headers.stopped.Goals as goal

pub returns-clause-stop : goal.returns-clause-stop
returns-clause-stop g c told count read few none =
    let P : List (FeedEnd g.row.S.Denot) → Type 0 = λ es. StopsSo g.S.Source.left g.S.Source.faults told count c.args.last.stop es in
    subst P (sym (c.in-Ok-push.ensures.items ∙ ap (λ es. es ++ c.args.last.end ∷ []) c.in-Ok.ensures.are))
    (stops_so g.S.Source.left g.S.Source.faults told count c.args.begun.items c.args.last.stop c.args.last.end read few none)

pub returns-in_default-push-clause-stop : goal.returns-in_default-push-clause-stop
returns-in_default-push-clause-stop g c told count read few none =
    let P : List (FeedEnd g.row.S.Denot) → Type 0 = λ es. StopsSo g.S.Source.left g.S.Source.faults told count NoMemory es in
    let Q : HeaderStop → Type 0 = λ s. StopsSo g.S.Source.left g.S.Source.faults told count s c.without_memory-in_default-push.result.ends.items in
    subst Q (sym c.without_memory-in_default-push.ensures.stop)
    (subst P (sym (c.without_memory-in_default-push.ensures.ends ∙ c.in_default-push.ensures.items ∙ c.in-Ok.ensures.are)) (before_of g.S.Source.left g.S.Source.faults told count c.args.begun.items read few))

pub returns-clause-counted : goal.returns-clause-counted
returns-clause-counted g c begun last =
    let P : FeedEnd g.row.S.Denot → Type 0 = λ end. end.stop ≢ stops.ReadFault → g.S.Source.faults end.source ≡ 0 in
    subst (All P) (sym (c.in-Ok-push.ensures.items ∙ ap (λ es. es ++ c.args.last.end ∷ []) c.in-Ok.ensures.are))
    (All-append P (begun_ends 0 c.args.begun.items) (c.args.last.end ∷ []) (begun_counted g.S.Source.faults 0 c.args.begun.items begun) (All-cons P c.args.last.end [] last (All-nil P)))

pub returns-in_default-push-clause-counted : goal.returns-in_default-push-clause-counted
returns-in_default-push-clause-counted g c begun last =
    let P : FeedEnd g.row.S.Denot → Type 0 = λ end. end.stop ≢ stops.ReadFault → g.S.Source.faults end.source ≡ 0 in
    subst (All P) (sym (c.without_memory-in_default-push.ensures.ends ∙ c.in_default-push.ensures.items ∙ c.in-Ok.ensures.are))
    (begun_counted g.S.Source.faults 0 c.args.begun.items begun)
