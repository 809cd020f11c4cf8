use Rattle.std.proofs.Common.{◌≡◌, ℕ, ◌+◌, ◌*◌, ◌^◌, ◌<◌, [], ◌∷◌, ◌++◌, map, sym, ap, ◌∙◌, subst, arith, of_z, to_z, to_z-of_z}
use Rattle.std.specs.Prelude.{unsigned_abs}
use Rattle.std.specs.Int.{w128}
use Rattle.std.specs.List.{range_with_len}
use Rattle.std.proofs.lemmas.Int.{ints, fits_signed_from_abs}
use Rattle.std.proofs.lemmas.List.Elements.{All-get_or}
use Rattle.std.proofs.lemmas.List.FromFn.{map-range_with_len_more}
use lib.IntN.{ℤ, pos, neg_ℤ, ◌-ℤ◌}
use Rattle.row_definitions.specs.Rows.{entry}
use Rattle.row_definitions.specs.Combination.{FitsEntry}
use Rattle.coherence_lp.proofs.Ranges.{behind, place_within}
use Rattle.coherence_lp.proofs.rows.push_negated.Goals as goal

negative : (x : ℤ) → pos 0 -ℤ x ≡ neg_ℤ x
negative x = omega (arith, ints)

-- the machine's negative of an entry
negated_is : (x : ℤ) → FitsEntry x → to_z w128 (of_z w128 (pos 0 -ℤ to_z w128 (of_z w128 x))) ≡ neg_ℤ x
negated_is x fits =
    let size : unsigned_abs (pos 0 -ℤ x) ≡ unsigned_abs x = omega (arith, ints) in
    ap (λ z. to_z w128 (of_z w128 (pos 0 -ℤ z))) (to_z-of_z (fits_signed_from_abs w128 x fits))
    ∙ to_z-of_z (fits_signed_from_abs w128 (pos 0 -ℤ x) (subst (λ n. n < 2 ^ 127) (sym size) fits))
    ∙ negative x

pub loop-i-preserved : goal.loop-i-preserved
loop-i-preserved c =
    let gains = c.args.gains.now in
    let i = c.loop-i.i in
    let old = c.args.coefs.now.items in
    let f : ℕ → ℤ = λ i. neg_ℤ (entry gains (i * c.args.width + c.args.j)) in
    let place = i * c.args.width + c.args.j in
    let within = place_within i c.args.j c.args.width c.args.count _ c.loop-i-test.true c.requires.class c.requires.table in
    let value = negated_is (entry gains place) (All-get_or FitsEntry gains place (pos 0) within c.requires.fits) in
    behind old (map f (range_with_len 0 i)) (f i ∷ []) c.loop-i.coefs.items c.push.new.self.items c.loop-i.invariant (c.in_ok-push.ensures.items ∙ ap (λ v. c.loop-i.coefs.items ++ v ∷ []) value)
    ∙ ap (λ xs. old ++ xs) (sym (map-range_with_len_more f 0 i i (let e : 0 + i ≡ i = omega arith in e)))
