use Rattle.std.proofs.Common.{◌∙◌, ◌*◌, ap, ap₂, sym, subst, List, ℤ, Bool, true, arith}
use Rattle.std.specs.Prelude.{Some, Option}
use Rattle.std.proofs.lemmas.List.{with_items_is}
use Rattle.row_pool.specs.Pools.{Pool, IsOut, row_at, with_row, rows_of}
use Rattle.row_pool.specs.Changes.{ReturnsAtRows}
use Rattle.row_pool.specs.Parts.{part_of, with_part}
use Rattle.row_pool.proofs.Blocks.{rows_apart}
use Rattle.row_pool.proofs.Rows.{out_is_part, ends_within, mark_stays, row_written}
use Rattle.row_pool.proofs.pool.RowPool.pair_mut.Goals as goal

pub overflow_mul-first : goal.overflow_mul-first
overflow_mul-first g c =
    let out = let P : Pool → Type 0 = λ p. IsOut p c.args.target.now.number in subst P (sym c.self.view_is) c.requires.target in
    let i = c.self.inside in
    let part = out_is_part i.width i.out.items i.block.items c.args.target.now.number out in
    omega (arith, ends_within i.width i.out.items i.block.items c.args.target.now.number c.self.invariant.0 part.within, i.block.small, i.block.ok.0)

pub overflow_mul-second : goal.overflow_mul-second
overflow_mul-second g c =
    let out = let P : Pool → Type 0 = λ p. IsOut p c.args.pivot.now.number in subst P (sym c.self.view_is) c.requires.pivot in
    let i = c.self.inside in
    let part = out_is_part i.width i.out.items i.block.items c.args.pivot.now.number out in
    omega (arith, ends_within i.width i.out.items i.block.items c.args.pivot.now.number c.self.invariant.0 part.within, i.block.small, i.block.ok.0)

pub change_part_by-requires-clause-target : goal.change_part_by-requires-clause-target
change_part_by-requires-clause-target g c =
    let out = let P : Pool → Type 0 = λ p. IsOut p c.args.target.now.number in subst P (sym c.self.view_is) c.requires.target in
    let i = c.self.inside in
    let part = out_is_part i.width i.out.items i.block.items c.args.target.now.number out in
    omega (arith, ends_within i.width i.out.items i.block.items c.args.target.now.number c.self.invariant.0 part.within, i.block.ok.0, c.as_mut_slice.ensures.len)

pub change_part_by-requires-clause-pivot : goal.change_part_by-requires-clause-pivot
change_part_by-requires-clause-pivot g c =
    let out = let P : Pool → Type 0 = λ p. IsOut p c.args.pivot.now.number in subst P (sym c.self.view_is) c.requires.pivot in
    let i = c.self.inside in
    let part = out_is_part i.width i.out.items i.block.items c.args.pivot.now.number out in
    omega (arith, ends_within i.width i.out.items i.block.items c.args.pivot.now.number c.self.invariant.0 part.within, i.block.ok.0, c.as_mut_slice.ensures.len)

pub change_part_by-requires-clause-apart : goal.change_part_by-requires-clause-apart
change_part_by-requires-clause-apart g c = rows_apart c.args.target.now.number c.args.pivot.now.number c.self.inside.width c.requires.differ

pub change_part_by-requires-clause-callable : goal.change_part_by-requires-clause-callable
change_part_by-requires-clause-callable g c first second shows shows_second =
    let i = c.self.inside in
    let out = let P : Pool → Type 0 = λ p. IsOut p c.args.target.now.number in subst P (sym c.self.view_is) c.requires.target in
    let other_out = let P : Pool → Type 0 = λ p. IsOut p c.args.pivot.now.number in subst P (sym c.self.view_is) c.requires.pivot in
    let part = out_is_part i.width i.out.items i.block.items c.args.target.now.number out in
    let other = out_is_part i.width i.out.items i.block.items c.args.pivot.now.number other_out in
    let row : Pool → Option (List ℤ) = λ p. row_at p c.args.target.now.number in
    let other_row : Pool → Option (List ℤ) = λ p. row_at p c.args.pivot.now.number in
    let place : List ℤ → List ℤ = λ block. part_of block (c.args.target.now.number * i.width) i.width in
    let other_place : List ℤ → List ℤ = λ block. part_of block (c.args.pivot.now.number * i.width) i.width in
    c.requires.callable _ _ (sym (ap row c.self.view_is) ∙ part.is) (sym (ap other_row c.self.view_is) ∙ other.is) first second (shows ∙ ap place c.as_mut_slice.ensures.value) (shows_second ∙ ap other_place c.as_mut_slice.ensures.value)

pub returns : goal.returns
returns g c =
    let i = c.self.inside in
    let number = c.args.target.now.number in
    let out = let P : Pool → Type 0 = λ p. IsOut p number in subst P (sym c.self.view_is) c.requires.target in
    let other_out = let P : Pool → Type 0 = λ p. IsOut p c.args.pivot.now.number in subst P (sym c.self.view_is) c.requires.pivot in
    let part = out_is_part i.width i.out.items i.block.items number out in
    let other = out_is_part i.width i.out.items i.block.items c.args.pivot.now.number other_out in
    let row : Pool → Option (List ℤ) = λ p. row_at p number in
    let other_row : Pool → Option (List ℤ) = λ p. row_at p c.args.pivot.now.number in
    let place : List ℤ → List ℤ = λ block. part_of block (number * i.width) i.width in
    let other_place : List ℤ → List ℤ = λ block. part_of block (c.args.pivot.now.number * i.width) i.width in
    let done = c.change_part_by.ensures in
    let written : List ℤ → List ℤ = λ block. with_part block (number * i.width) done.new in
    let pooled : List (Option (List ℤ)) → Pool = λ rows. record { width = i.width; rows = rows } in
    let changed : Pool → Pool = λ p. with_row p number (Some done.new) in
    let block = with_items_is i.block c.change_part_by.new.block (c.change_part_by.auto.block ∙ c.as_mut_slice.ensures.len) ∙ done.is ∙ ap written c.as_mut_slice.ensures.value in
    let rows : List Bool → List ℤ → List (Option (List ℤ)) = rows_of i.width in
    record {
      old = place i.block.items;
      other = other_place i.block.items;
      new = done.new;
      was = sym (ap row c.self.view_is) ∙ part.is;
      other_was = sym (ap other_row c.self.view_is) ∙ other.is;
      returned = let P : List ℤ → Type 0 = λ block. ReturnsAtRows g.F.FnOnce c.args.change (place block) (other_place block) c.change_part_by.result done.new in subst P c.as_mut_slice.ensures.value done.returned;
      is = ap pooled (ap₂ rows (sym (mark_stays i.width i.out.items i.block.items number out)) block ∙ row_written i.width i.out.items i.block.items number true done.new part.within (omega (arith, c.self.invariant.0)) done.as_many) ∙ ap changed c.self.view_is;
    }
