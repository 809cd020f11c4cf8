use Rattle.std.proofs.Common.{◌∙◌, ◌++◌, ap, List, ℤ, Bool, replicate, false}
use Rattle.std.specs.Prelude.{Option}
use Rattle.row_pool.specs.Pools.{Pool, rows_of}
use Rattle.row_pool.proofs.Rows.{rows_free}
use Rattle.row_pool.proofs.pool.RowPool.reserve.Goals as goal

pub returns-clause-ok : goal.returns-clause-ok
returns-clause-ok c =
    let pooled : List (Option (List ℤ)) → Pool = λ rows. record { width = c.args.width; rows = rows } in
    let rows : List Bool → List (Option (List ℤ)) = λ outs. rows_of c.args.width outs c.push_zeros.new.block.items in
    let behind : List Bool → List Bool = λ xs. xs ++ replicate c.args.rows false in
    ap pooled (ap rows (c.push_free.ensures ∙ ap behind (c.in_ok-reserve_exact.ensures.items ∙ c.clear.ensures.items)) ∙ rows_free c.args.width c.args.rows c.push_zeros.new.block.items)
