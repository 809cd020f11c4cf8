use Rattle.std.proofs.Common.{◌≡◌, ℕ, ◌+◌, ◌*◌, List, [], ◌∷◌, ◌++◌, length, map, sym, ap, ◌∙◌, arith, add-one, SFits, to_z-of_z, rules}
use Rattle.std.specs.Int.{w128}
use Rattle.std.specs.List.{flat_map, range_with_len}
use lib.IntN.{ℤ, neg_ℤ}
use Rattle.row_definitions.specs.Rows.{entry}
use Rattle.coherence_lp.specs.ProgramTables.{row_of_class}
use Rattle.coherence_lp.proofs.Ranges.{flat_map-range_more, row_behind}
use Rattle.coherence_lp.proofs.rows.push_class_rows.Goals as goal

pub loop-j-preserved : goal.loop-j-preserved
loop-j-preserved c =
    let asked = c.args.asked.now in
    let gains = c.args.gains.now in
    let count = c.args.count in
    let width = length asked in
    let j = c.loop-j.j in
    let old = c.args.coefs.now.items in
    let f : ℕ → List ℤ = λ j. row_of_class gains width count (entry asked j) j in
    let fits : SFits w128 (entry asked j) = search rules in
    row_behind old (flat_map f (range_with_len 0 j)) (map (λ i. neg_ℤ (entry gains (i * width + j))) (range_with_len 0 count)) c.loop-j.coefs.items c.push.new.self.items c.push_negated.new.coefs.items (entry asked j)
    c.loop-j.invariant (c.in_ok-push.ensures.items ∙ ap (λ v. c.loop-j.coefs.items ++ v ∷ []) (to_z-of_z fits)) c.in_ok-push_negated.ensures
    ∙ ap (λ xs. old ++ xs)
    (ap (λ k. flat_map f (range_with_len 0 j) ++ f k) (let e : j ≡ 0 + j = omega arith in e) ∙ sym (flat_map-range_more f 0 j) ∙ ap (λ n. flat_map f (range_with_len 0 n)) (sym (add-one j)))
