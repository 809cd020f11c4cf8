use Rattle.std.proofs.Common.{◌≡◌, ◌+◌, ◌∙◌, List, [], ◌∷◌, ◌++◌, length, sym, subst, ap, arith}
use Rattle.std.specs.Prelude.{Some, if◌then◌else◌}
use Rattle.std.proofs.lemmas.List.{length_push}
use Rattle.row_pool.specs.Pools.{zeros}
use Rattle.row_pool.specs.declared.pool.RowId.{RowId}
use Rattle.fraction_tableau.specs.Rows.{AreIds}
use Rattle.fraction_tableau.proofs.PoolRows.{not_all_out, taken_next}
use Rattle.fraction_tableau.proofs.pooled.take_all.Goals as goal

pub unreachable-requires : goal.unreachable-requires
unreachable-requires c = not_all_out c.loop.pool.rows (Some (zeros c.args.pool.now.width)) c.loop.counter c.args.count c.loop.invariant.1 c.loop-test.true c.in_default.ensures.none

pub loop-preserved : goal.loop-preserved
loop-preserved c =
    let i = c.loop.invariant in
    let e = c.in-Some.ensures in
    let next = taken_next c.loop.pool c.take.new.self c.args.pool.now.width c.loop.counter c.args.count c.loop.ids.items c.in-Some.id i.0 i.1 c.loop-test.true i.2 i.3 e.free e.first e.taken in
    let ids : List RowId = c.loop.ids.items in
    let items : c.push-pushed.new.self.items ≡ ids ++ c.in-Some.id ∷ [] = c.push-pushed.ensures.items ∙ ap (λ ok. if ok then ids ++ c.in-Some.id ∷ [] else ids) (sym c.if-prove.ensures.value) in
    let count : length c.push-pushed.new.self.items ≡ c.loop.counter + 1 = ap length items ∙ length_push ids c.in-Some.id ∙ ap (λ n. n + 1) i.3 in
    (next.0, next.1, subst (AreIds c.take.new.self) (sym items) next.2, count, omega (arith, c.push-pushed.ensures.capacity, i.4))
