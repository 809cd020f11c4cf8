use Rattle.std.proofs.Common.{◌≡◌, List, map, sym, subst}
use Rattle.desk_definitions.specs.declared.feed_end.FeedEnd.{FeedEnd}
use Rattle.desk_definitions.specs.Reads.{AreBegun, AreReadSo}
use Rattle.desk_opening.specs.Headers.{begun_ends, begun_read}
use Rattle.desk_opening.proofs.BegunFeeds.{are_begun, are_read_so, if_ok}
use Rattle.desk_opening.proofs.headers.begun_ends.Goals as goal

pub returns-clause-begun : goal.returns-clause-begun
returns-clause-begun g c told read =
    let P : List (FeedEnd g.row.S.Denot) → Type 0 = λ es. AreBegun g.S.Source.left g.S.Source.faults told 0 es (map begun_read c.args.begun.items) in
    if_ok (λ ends. ends.items ≡ begun_ends 0 c.args.begun.items) (λ ends. P ends.items) c.listed_ends.result (λ ends is. subst P (sym is) (are_begun g.S.Source.left g.S.Source.faults told 0 c.args.begun.items read)) c.listed_ends.ensures

pub returns-clause-read : goal.returns-clause-read
returns-clause-read g c told read =
    let P : List (FeedEnd g.row.S.Denot) → Type 0 = λ es. AreReadSo g.S.Source.left g.S.Source.faults told 0 es (map begun_read c.args.begun.items) in
    if_ok (λ ends. ends.items ≡ begun_ends 0 c.args.begun.items) (λ ends. P ends.items) c.listed_ends.result (λ ends is. subst P (sym is) (are_read_so g.S.Source.left g.S.Source.faults told 0 c.args.begun.items read)) c.listed_ends.ensures
