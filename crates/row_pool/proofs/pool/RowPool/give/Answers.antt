use Rattle.std.proofs.Common.{◌∙◌, ap, sym, subst, List, ℤ, arith}
use Rattle.std.specs.Prelude.{None, Option}
use Rattle.row_pool.specs.Pools.{Pool, IsOut, with_row}
use Rattle.row_pool.proofs.Rows.{out_is_part, row_freed}
use Rattle.row_pool.proofs.pool.RowPool.give.Goals as goal

pub index_mut-requires : goal.index_mut-requires
index_mut-requires c =
    let out = let P : Pool → Type 0 = λ p. IsOut p c.args.id.number in subst P (sym c.self.view_is) c.requires in
    let part = out_is_part c.self.inside.width c.self.inside.out.items c.self.inside.block.items c.args.id.number out in
    omega (arith, part.within, c.self.inside.out.ok.0)

pub returns : goal.returns
returns c =
    let pooled : List (Option (List ℤ)) → Pool = λ rows. record { width = c.self.inside.width; rows = rows } in
    let freed : Pool → Pool = λ p. with_row p c.args.id.number None in
    ap pooled (row_freed c.self.inside.width c.self.inside.out.items c.self.inside.block.items c.args.id.number) ∙ ap freed c.self.view_is
