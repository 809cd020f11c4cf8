use Rattle.std.proofs.Common.{ℕ, List, ◌∷◌, ◌+◌, drop, decimal}
use Rattle.std.specs.List.{flat_map}
use Rattle.text_out.proofs.Writes.{and_then, cut, same_text, nothing, flat_map_take, flat_map_rest, flat_map_all}
use Rattle.certificates.proofs.writing.put_long_items.Goals as goal

pub loop-item-init : goal.loop-item-init
loop-item-init g c = nothing _ _ _ tt

pub returns-in_err-put_number : goal.returns-in_err-put_number
returns-in_err-put_number g c =
    let xs : List ℕ = c.args.items.now in
    let i : ℕ = c.loop-item.item-index in
    same_text (cut (and_then c.loop-item.invariant c.in_err-put_number.ensures) (flat_map (λ (item : ℕ). 32 ∷ decimal item) (drop (i + 1) xs)) _ c.from_residual.ensures.0) _ (flat_map_rest (λ (item : ℕ). 32 ∷ decimal item) xs i 0 c.loop-item-test.true)

pub loop-item-preserved : goal.loop-item-preserved
loop-item-preserved g c =
    same_text (and_then c.loop-item.invariant c.in_ok-put_number.ensures) _ (flat_map_take (λ (item : ℕ). 32 ∷ decimal item) c.args.items.now c.loop-item.item-index 0 c.loop-item-test.true)

pub returns : goal.returns
returns g c = same_text c.loop-item.invariant _ (flat_map_all (λ (item : ℕ). 32 ∷ decimal item) c.args.items.now c.loop-item.item-index c.loop-item-test.false)
