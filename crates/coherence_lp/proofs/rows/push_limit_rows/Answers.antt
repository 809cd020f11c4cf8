use Rattle.std.proofs.Common.{◌≡◌, ℕ, suc, ◌+◌, List, ◌++◌, sym, ap, ap₂, ◌∙◌, arith, add-one}
use Rattle.std.specs.List.{flat_map, range_with_len}
use lib.IntN.{ℤ}
use Rattle.pivot_definitions.specs.Programs.{unit_row}
use Rattle.coherence_lp.proofs.Ranges.{flat_map-range_more, behind}
use Rattle.coherence_lp.proofs.rows.push_limit_rows.Goals as goal

pub loop-i-preserved : goal.loop-i-preserved
loop-i-preserved c =
    let f : ℕ → List ℤ = λ column. unit_row (suc c.args.count) column in
    let old = c.args.coefs.now.items in
    let i = c.loop-i.i in
    let row : unit_row (c.args.count + 1) (i + 1) ≡ f (1 + i) = ap₂ unit_row (add-one c.args.count) (let e : i + 1 ≡ 1 + i = omega arith in e) in
    behind old (flat_map f (range_with_len 1 i)) (f (1 + i)) c.loop-i.coefs.items c.push_unit_row.new.coefs.items c.loop-i.invariant (c.in_ok-push_unit_row.ensures ∙ ap (λ r. c.loop-i.coefs.items ++ r) row)
    ∙ ap (λ xs. old ++ xs) (sym (flat_map-range_more f 1 i) ∙ ap (λ n. flat_map f (range_with_len 1 n)) (sym (add-one i)))
