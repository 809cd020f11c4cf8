use Rattle.std.proofs.Common.{◌+◌, ◌∷◌, [], ◌++◌, ◌∙◌, ap, sym, List, set, drop, get_or, replicate}
use Rattle.std.proofs.lemmas.List.{length-replicate, set_at, drop_more, append_assoc, replicate-append-replicate}
use lib.IntN.{ℤ, pos}
use Rattle.row_pool.proofs.part.clear.Goals as goal

pub loop-column-preserved : goal.loop-column-preserved
loop-column-preserved c =
    let row = c.args.row.now in
    let k = c.loop-column.column in
    ap (λ (xs : List ℤ). set xs k (pos 0)) (c.loop-column.invariant ∙ ap (λ (xs : List ℤ). replicate k (pos 0) ++ xs) (drop_more row k (pos 0) c.loop-column-test.true))
    ∙ set_at (replicate k (pos 0)) (get_or row k (pos 0)) (drop (k + 1) row) (pos 0) k (length-replicate k (pos 0))
    ∙ sym (append_assoc (replicate k (pos 0)) (pos 0 ∷ []) (drop (k + 1) row))
    ∙ ap (λ (xs : List ℤ). xs ++ drop (k + 1) row) (replicate-append-replicate k 1 (pos 0))
