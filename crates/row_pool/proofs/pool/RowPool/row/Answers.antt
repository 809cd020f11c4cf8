use Rattle.std.proofs.Common.{◌∙◌, ◌*◌, ap, sym, subst, List, ℤ, arith}
use Rattle.std.specs.Prelude.{Some, Option}
use Rattle.row_pool.specs.Pools.{Pool, IsOut, row_at}
use Rattle.row_pool.specs.Parts.{part_of}
use Rattle.row_pool.proofs.Rows.{out_is_part, ends_within}
use Rattle.row_pool.proofs.pool.RowPool.row.Goals as goal

pub overflow_mul-id : goal.overflow_mul-id
overflow_mul-id c =
    let out = let P : Pool → Type 0 = λ p. IsOut p c.args.id.now.number in subst P (sym c.self.view_is) c.requires in
    let i = c.self.inside in
    let part = out_is_part i.width i.out.items i.block.items c.args.id.now.number out in
    omega (arith, ends_within i.width i.out.items i.block.items c.args.id.now.number c.self.invariant.0 part.within, i.block.small, i.block.ok.0)

pub part-requires : goal.part-requires
part-requires c =
    let out = let P : Pool → Type 0 = λ p. IsOut p c.args.id.now.number in subst P (sym c.self.view_is) c.requires in
    let i = c.self.inside in
    let part = out_is_part i.width i.out.items i.block.items c.args.id.now.number out in
    omega (arith, ends_within i.width i.out.items i.block.items c.args.id.now.number c.self.invariant.0 part.within, i.block.ok.0, c.deref.ensures.len)

pub returns : goal.returns
returns c =
    let out = let P : Pool → Type 0 = λ p. IsOut p c.args.id.now.number in subst P (sym c.self.view_is) c.requires in
    let i = c.self.inside in
    let part = out_is_part i.width i.out.items i.block.items c.args.id.now.number out in
    let row : Pool → Option (List ℤ) = λ p. row_at p c.args.id.now.number in
    let some : List ℤ → Option (List ℤ) = λ block. Some (part_of block (c.args.id.now.number * i.width) i.width) in
    sym (ap row c.self.view_is) ∙ part.is ∙ ap some (sym c.deref.ensures.value) ∙ ap Some (sym c.part.ensures)
