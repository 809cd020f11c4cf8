use Rattle.std.proofs.Common.{◌≡◌, ◌∙◌, ◌*◌, ap, sym, subst, List, ℤ, Bool, true, false, pos, arith}
use Rattle.std.specs.Prelude.{Some, Option, IsSome, IfNone, IsTrue}
use Rattle.std.specs.List.{All, slice_get}
use Rattle.std.proofs.lemmas.List.{length-replicate, with_items_is}
use Rattle.std.proofs.lemmas.Option.{slice_get_within}
use Rattle.row_pool.specs.Pools.{Pool, IsFree, IsOut, AreMarked, with_row, rows_of, zeros}
use Rattle.row_pool.specs.Parts.{with_part}
use Rattle.row_pool.proofs.Rows.{all_out, ends_within, length-rows_of, unmarked_is_free, row_written, marked_is_out}
use Rattle.row_pool.proofs.pool.RowPool.take.Goals as goal

pub returns-in_err-number-clause-none : goal.returns-in_err-number-clause-none
returns-in_err-number-clause-none c =
    let i = c.self.inside in
    let marked : All IsTrue i.out.items = let P : List Bool → Type 0 = All IsTrue in subst P c.deref.ensures.value c.in_err-number.ensures.none in
    let out : All IsSome c.args.self.now.rows = let P : Pool → Type 0 = λ p. All IsSome p.rows in subst P c.self.view_is (all_out i.width i.out.items i.block.items marked) in
    let P : Option _ → Type 0 = λ r. IfNone r (All IsSome c.args.self.now.rows) in subst P (sym c.from_residual.ensures) out

pub overflow_mul-start : goal.overflow_mul-start
overflow_mul-start c =
    let i = c.self.inside in
    let free : slice_get i.out.items c.in_ok-number.number ≡ Some false = let P : List Bool → Type 0 = λ xs. slice_get xs c.in_ok-number.number ≡ Some false in subst P c.deref.ensures.value c.in_ok-number.ensures.some in
    omega (arith, ends_within i.width i.out.items i.block.items c.in_ok-number.number c.self.invariant.0 (slice_get_within i.out.items c.in_ok-number.number false free), i.block.small, i.block.ok.0)

pub clear_part-requires : goal.clear_part-requires
clear_part-requires c =
    let i = c.self.inside in
    let free : slice_get i.out.items c.in_ok-number.number ≡ Some false = let P : List Bool → Type 0 = λ xs. slice_get xs c.in_ok-number.number ≡ Some false in subst P c.deref.ensures.value c.in_ok-number.ensures.some in
    omega (arith, ends_within i.width i.out.items i.block.items c.in_ok-number.number c.self.invariant.0 (slice_get_within i.out.items c.in_ok-number.number false free), i.block.ok.0, c.as_mut_slice.ensures.len)

pub index_mut-requires : goal.index_mut-requires
index_mut-requires c =
    let i = c.self.inside in
    let free : slice_get i.out.items c.in_ok-number.number ≡ Some false = let P : List Bool → Type 0 = λ xs. slice_get xs c.in_ok-number.number ≡ Some false in subst P c.deref.ensures.value c.in_ok-number.ensures.some in
    omega (arith, slice_get_within i.out.items c.in_ok-number.number false free, i.out.ok.0)

pub overflow_cast-result : goal.overflow_cast-result
overflow_cast-result c =
    let i = c.self.inside in
    let free : slice_get i.out.items c.in_ok-number.number ≡ Some false = let P : List Bool → Type 0 = λ xs. slice_get xs c.in_ok-number.number ≡ Some false in subst P c.deref.ensures.value c.in_ok-number.ensures.some in
    omega (arith, slice_get_within i.out.items c.in_ok-number.number false free, c.self.invariant.1)

pub returns-clause-free : goal.returns-clause-free
returns-clause-free c =
    let i = c.self.inside in
    let free : slice_get i.out.items c.in_ok-number.number ≡ Some false = let P : List Bool → Type 0 = λ xs. slice_get xs c.in_ok-number.number ≡ Some false in subst P c.deref.ensures.value c.in_ok-number.ensures.some in
    let P : Pool → Type 0 = λ p. IsFree p c.in_ok-number.number in
    subst P c.self.view_is (record {
      within = omega (arith, slice_get_within i.out.items c.in_ok-number.number false free, length-rows_of i.width i.out.items i.block.items);
      free = unmarked_is_free i.width i.out.items i.block.items c.in_ok-number.number free;
    })

pub returns-clause-taken : goal.returns-clause-taken
returns-clause-taken c =
    let i = c.self.inside in
    let number = c.in_ok-number.number in
    let free : slice_get i.out.items number ≡ Some false = let P : List Bool → Type 0 = λ xs. slice_get xs number ≡ Some false in subst P c.deref.ensures.value c.in_ok-number.ensures.some in
    let written : List ℤ → List ℤ = λ block. with_part block (number * i.width) (zeros i.width) in
    let pooled : List (Option (List ℤ)) → Pool = λ rows. record { width = i.width; rows = rows } in
    let taken : Pool → Pool = λ p. with_row p number (Some (zeros p.width)) in
    let block = with_items_is i.block c.clear_part.new.block (c.clear_part.auto.block ∙ c.as_mut_slice.ensures.len) ∙ c.clear_part.ensures ∙ ap written c.as_mut_slice.ensures.value in
    let rows : List ℤ → List (Option (List ℤ)) = rows_of i.width _ in
    ap pooled (ap rows block ∙ row_written i.width i.out.items i.block.items number true (zeros i.width) (slice_get_within i.out.items number false free) (omega (arith, c.self.invariant.0)) (length-replicate i.width (pos 0))) ∙ ap taken c.self.view_is

pub returns-clause-first : goal.returns-clause-first
returns-clause-first c row below =
    let i = c.self.inside in
    let marked : AreMarked i.out.items c.in_ok-number.number = let P : List Bool → Type 0 = λ xs. AreMarked xs c.in_ok-number.number in subst P c.deref.ensures.value c.in_ok-number.ensures.first in
    let P : Pool → Type 0 = λ p. IsOut p row in
    subst P c.self.view_is (marked_is_out i.width i.out.items i.block.items row (marked row below))
