use Rattle.std.proofs.Common.{◌≡◌, ◌∙◌, ◌+◌, ◌≤◌, [], ◌∷◌, ◌++◌, length, sym, ap, arith, vec_len}
use Rattle.std.specs.List.{range_with_len}
use Rattle.std.proofs.lemmas.List.{length-append, append_assoc}
use Rattle.std.proofs.lemmas.List.FromFn.{length-range_with_len}
use Rattle.pivot_definitions.proofs.Built.{range_more}
use Rattle.fraction_tableau.proofs.condensed.push_range.Goals as goal

pub push_one-requires : goal.push_one-requires
push_one-requires c =
    let count : length c.loop-more.numbers.items ≡ length c.args.numbers.now.items + c.loop-more.more = ap length c.loop-more.invariant.0 ∙ length-append c.args.numbers.now.items (range_with_len c.args.first c.loop-more.more) ∙ ap (λ n. length c.args.numbers.now.items + n) (length-range_with_len c.args.first c.loop-more.more) in
    omega (arith, count, c.loop-more.numbers.ok.0, c.args.numbers.now.ok.0, c.requires.room, c.loop-more.invariant.1, c.loop-more-test.true)

pub loop-more-preserved : goal.loop-more-preserved
loop-more-preserved c = (
  c.push_one.ensures.items
      ∙ ap (λ xs. xs ++ (c.args.first + c.loop-more.more) ∷ []) c.loop-more.invariant.0
      ∙ append_assoc c.args.numbers.now.items (range_with_len c.args.first c.loop-more.more) ((c.args.first + c.loop-more.more) ∷ [])
      ∙ ap (λ xs. c.args.numbers.now.items ++ xs) (sym (range_more c.args.first c.loop-more.more)),
  omega (arith, c.loop-more.invariant.1, c.push_one.ensures.capacity),
)
