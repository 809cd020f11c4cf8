-- Fractions are compared by their whole parts, and then by the reciprocals of their rests.
use Rattle.std.proofs.Common.{◌≡◌, ◌≢◌, ℕ, suc, ◌+◌, ◌*◌, ◌/◌, ◌%◌, ◌<◌, ◌≤◌, ◌⊎◌, inl, inr, sym, ap, ◌∙◌, arith, mul-le-mul_right, mul-lt-mul_of_pos_right, mul-pos}
use Rattle.std.specs.Ordering.{MatchOrdering}
use Rattle.std.specs.declared.cmp.Ordering.{Ordering}
use Rattle.std.specs.declared.cmp.Ordering.TheVariants.{Less, Equal, Greater}

-- the order of two fractions by products, which the code never forms
abbrev pub Compares : Ordering → ℕ → ℕ → ℕ → ℕ → Type 0
Compares r an ad bn bd = MatchOrdering r (an * bd < bn * ad) (an * bd ≡ bn * ad) (bn * ad < an * bd)

below_from_whole : (an ad bn bd : ℕ) → 0 < ad → 0 < bd → an / ad < bn / bd → an * bd < bn * ad
below_from_whole an ad bn bd ha hb less =
    let p = an / ad in
    let q = bn / bd in
    let whole : suc p * ad ≤ q * ad = mul-le-mul_right ad less in
    let x : an < q * ad = omega (arith, whole) in
    let y : an * bd < q * ad * bd = mul-lt-mul_of_pos_right x hb in
    let z : q * bd ≤ bn = omega arith in
    let w : q * bd * ad ≤ bn * ad = mul-le-mul_right ad z in
    omega (arith, y, w)

pub by_whole : (an ad bn bd : ℕ) (r : Ordering) → 0 < ad → 0 < bd → an / ad ≢ bn / bd → MatchOrdering r (an / ad < bn / bd) (an / ad ≡ bn / bd) (bn / bd < an / ad) → Compares r an ad bn bd
by_whole an ad bn bd Less ha hb differ less = below_from_whole an ad bn bd ha hb less
by_whole an ad bn bd Equal ha hb differ same = absurd (differ same)
by_whole an ad bn bd Greater ha hb differ more = below_from_whole bn bd an ad hb ha more

-- the products by the whole part and the rests
parts : (an ad bn bd p r : ℕ) → an ≡ p * ad + r → an * bd ≡ p * ad * bd + r * bd
parts an ad bn bd p r e = ap (λ x. x * bd) e ∙ (let z : (p * ad + r) * bd ≡ p * ad * bd + r * bd = omega arith in z)

record Parts (an ad bn bd : ℕ) : Type 0 where
  first : an * bd ≡ an / ad * ad * bd + an % ad * bd
  second : bn * ad ≡ an / ad * ad * bd + bn % bd * ad

parts_of : (an ad bn bd : ℕ) → 0 < ad → 0 < bd → an / ad ≡ bn / bd → Parts an ad bn bd
parts_of an ad bn bd ha hb same =
    let x : an ≡ an / ad * ad + an % ad = omega arith in
    let own : bn ≡ bn / bd * bd + bn % bd = omega arith in
    let y : bn ≡ an / ad * bd + bn % bd = own ∙ ap (λ k. k * bd + bn % bd) (sym same) in
    let z = parts bn bd an ad (an / ad) (bn % bd) y in
    record { first = parts an ad bn bd (an / ad) (an % ad) x; second = omega (arith, z) }

pub by_rest : (an ad bn bd : ℕ) (r : Ordering) → 0 < ad → 0 < bd → an / ad ≡ bn / bd → ((an % ad ≡ 0) ⊎ (bn % bd ≡ 0)) → MatchOrdering r (an % ad < bn % bd) (an % ad ≡ bn % bd) (bn % bd < an % ad) → Compares r an ad bn bd
by_rest an ad bn bd Less ha hb same none less =
    let e = parts_of an ad bn bd ha hb same in
    let x : an % ad ≡ 0 = elim none [ inl z ↦ z | inr z ↦ omega arith ] in
    let y : an % ad * bd ≡ 0 = ap (λ k. k * bd) x ∙ (let z : 0 * bd ≡ 0 = omega arith in z) in
    let w : 0 < bn % bd * ad = mul-pos (omega arith) ha in
    omega (arith, e.first, e.second, y, w)
by_rest an ad bn bd Equal ha hb same none equal =
    let e = parts_of an ad bn bd ha hb same in
    let x : an % ad ≡ 0 = elim none [ inl z ↦ z | inr z ↦ equal ∙ z ] in
    let y : an % ad * bd ≡ 0 = ap (λ k. k * bd) x ∙ (let z : 0 * bd ≡ 0 = omega arith in z) in
    let w : bn % bd * ad ≡ 0 = ap (λ k. k * ad) (sym equal ∙ x) ∙ (let z : 0 * ad ≡ 0 = omega arith in z) in
    omega (arith, e.first, e.second, y, w)
by_rest an ad bn bd Greater ha hb same none more =
    let e = parts_of an ad bn bd ha hb same in
    let x : bn % bd ≡ 0 = elim none [ inl z ↦ omega arith | inr z ↦ z ] in
    let y : bn % bd * ad ≡ 0 = ap (λ k. k * ad) x ∙ (let z : 0 * ad ≡ 0 = omega arith in z) in
    let w : 0 < an % ad * bd = mul-pos (omega arith) hb in
    omega (arith, e.first, e.second, y, w)

pub by_reciprocal : (an ad bn bd : ℕ) (r : Ordering) → 0 < ad → 0 < bd → an / ad ≡ bn / bd → Compares r bd (bn % bd) ad (an % ad) → Compares r an ad bn bd
by_reciprocal an ad bn bd Less ha hb same less = let e = parts_of an ad bn bd ha hb same in omega (arith, e.first, e.second, less)
by_reciprocal an ad bn bd Equal ha hb same equal = let e = parts_of an ad bn bd ha hb same in omega (arith, e.first, e.second, equal)
by_reciprocal an ad bn bd Greater ha hb same more = let e = parts_of an ad bn bd ha hb same in omega (arith, e.first, e.second, more)
