use Rattle.std.proofs.Common.{◌∙◌, ◌*◌, ap, ap₂, sym, subst, List, ℤ, Bool, true, arith}
use Rattle.std.specs.Prelude.{Some, Option}
use Rattle.std.specs.Fn.{FnOnceReturnsAtMut}
use Rattle.std.proofs.lemmas.List.{with_items_is}
use Rattle.row_pool.specs.Pools.{Pool, IsOut, row_at, with_row, rows_of}
use Rattle.row_pool.specs.Parts.{part_of, with_part}
use Rattle.row_pool.proofs.Rows.{out_is_part, ends_within, mark_stays, row_written}
use Rattle.row_pool.proofs.pool.RowPool.row_mut.Goals as goal

pub overflow_mul-start : goal.overflow_mul-start
overflow_mul-start g c =
    let out = let P : Pool → Type 0 = λ p. IsOut p c.args.id.now.number in subst P (sym c.self.view_is) c.requires.out in
    let i = c.self.inside in
    let part = out_is_part i.width i.out.items i.block.items c.args.id.now.number out in
    omega (arith, ends_within i.width i.out.items i.block.items c.args.id.now.number c.self.invariant.0 part.within, i.block.small, i.block.ok.0)

pub change_part-requires-clause-within : goal.change_part-requires-clause-within
change_part-requires-clause-within g c =
    let out = let P : Pool → Type 0 = λ p. IsOut p c.args.id.now.number in subst P (sym c.self.view_is) c.requires.out in
    let i = c.self.inside in
    let part = out_is_part i.width i.out.items i.block.items c.args.id.now.number out in
    omega (arith, ends_within i.width i.out.items i.block.items c.args.id.now.number c.self.invariant.0 part.within, i.block.ok.0, c.as_mut_slice.ensures.len)

pub change_part-requires-clause-callable : goal.change_part-requires-clause-callable
change_part-requires-clause-callable g c p shows =
    let out = let P : Pool → Type 0 = λ p. IsOut p c.args.id.now.number in subst P (sym c.self.view_is) c.requires.out in
    let i = c.self.inside in
    let part = out_is_part i.width i.out.items i.block.items c.args.id.now.number out in
    let row : Pool → Option (List ℤ) = λ p. row_at p c.args.id.now.number in
    let place : List ℤ → List ℤ = λ block. part_of block (c.args.id.now.number * i.width) i.width in
    c.requires.callable _ (sym (ap row c.self.view_is) ∙ part.is) p (shows ∙ ap place c.as_mut_slice.ensures.value)

pub returns : goal.returns
returns g c =
    let out = let P : Pool → Type 0 = λ p. IsOut p c.args.id.now.number in subst P (sym c.self.view_is) c.requires.out in
    let i = c.self.inside in
    let number = c.args.id.now.number in
    let part = out_is_part i.width i.out.items i.block.items number out in
    let row : Pool → Option (List ℤ) = λ p. row_at p number in
    let place : List ℤ → List ℤ = λ block. part_of block (number * i.width) i.width in
    let done = c.change_part.ensures in
    let written : List ℤ → List ℤ = λ block. with_part block (number * i.width) done.new in
    let pooled : List (Option (List ℤ)) → Pool = λ rows. record { width = i.width; rows = rows } in
    let changed : Pool → Pool = λ p. with_row p number (Some done.new) in
    let block = with_items_is i.block c.change_part.new.block (c.change_part.auto.block ∙ c.as_mut_slice.ensures.len) ∙ done.is ∙ ap written c.as_mut_slice.ensures.value in
    let rows : List Bool → List ℤ → List (Option (List ℤ)) = rows_of i.width in
    record {
      old = place i.block.items;
      new = done.new;
      was = sym (ap row c.self.view_is) ∙ part.is;
      returned = let P : List ℤ → Type 0 = λ block. FnOnceReturnsAtMut g.F.FnOnce c.args.change (place block) c.change_part.result done.new in subst P c.as_mut_slice.ensures.value done.returned;
      is = ap pooled (ap₂ rows (sym (mark_stays i.width i.out.items i.block.items number out)) block ∙ row_written i.width i.out.items i.block.items number true done.new part.within (omega (arith, c.self.invariant.0)) done.as_many) ∙ ap changed c.self.view_is;
    }
