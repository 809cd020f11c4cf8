use Rattle.std.proofs.Common.{◌≡◌, ◌==◌, ◌+◌, ℕ, List, [], ◌∷◌, ◌++◌, position, sym, ap, ap₂, ◌∙◌, arith}
use Rattle.std.proofs.lemmas.List.FromFn.{map-range_with_len_more}
use Rattle.judging_definitions.specs.CoarseOdds.{item_at}
use Rattle.coherence_lp.proofs.offer_list.OfferList.with_zeros.Goals as goal

pub loop-i-preserved : goal.loop-i-preserved
loop-i-preserved c =
    let numbers = c.args.self.now in
    let items = c.args.items.now in
    let i = c.loop-i.i in
    let item : List ℕ → ℕ = λ others. item_at items (position (λ other. other == i) others) in
    let same = c.as_slice.ensures.value ∙ c.self.view_is in
    c.in_ok-push.ensures.items
    ∙ ap₂ (λ xs x. xs ++ x ∷ []) c.loop-i.invariant (c.item_for.ensures ∙ ap item same)
    ∙ sym (map-range_with_len_more (λ offer. item_at items (position (λ number. number == offer) numbers)) 0 i i (let e : 0 + i ≡ i = omega arith in e))
