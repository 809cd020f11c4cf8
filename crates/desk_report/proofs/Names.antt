-- Sorted names that differ rise.
use Rattle.std.proofs.Common.{ℕ, ◌≡◌, ◌<◌, List, length, get_or, zero, suc, sym, ap, subst, ◌∙◌, false, arith, add-one, inl, inr}
use Rattle.std.specs.List.{IsDistinct}
use Rattle.std.specs.List.Sorted.{IsSorted}
use Rattle.std.specs.Str.{bytes_eq}
use Rattle.std.specs.Cmp.Lexicographic.{slice_cmp, nat_list_cmp_total}
use Rattle.std.specs.Ordering.{nat_cmp, is_lt, is_eq, ordering_reverse}
use Rattle.std.specs.declared.cmp.Ordering.{Ordering}
use Rattle.std.specs.declared.cmp.Ordering.TheVariants.{Less, Equal, Greater}
use Rattle.std.proofs.lemmas.Bool.{cases_lt}
use Rattle.std.proofs.lemmas.Map.Keys.{apart_from_distinct}
use Rattle.std.proofs.lemmas.Map.Text.{is_eq-slice_cmp}

only_less : (r s : Ordering) → r ≡ ordering_reverse s → is_lt s ≡ false → is_eq r ≡ false → r ≡ Less
only_less r Less flips above apart = absurd (cc above)
only_less r Equal flips above apart = let same : is_eq Equal ≡ false = ap is_eq (sym flips) ∙ apart in absurd (cc same)
only_less r Greater flips above apart = flips

-- of two names that differ, the first is less if the second is not
less : (a b : List ℕ) → is_lt (slice_cmp nat_cmp b a) ≡ false → bytes_eq a b ≡ false → slice_cmp nat_cmp a b ≡ Less
less a b above apart = only_less (slice_cmp nat_cmp a b) (slice_cmp nat_cmp b a) (nat_list_cmp_total.antisymm a b) above (is_eq-slice_cmp a b ∙ apart)

next : (ks : List (List ℕ)) → IsSorted (slice_cmp nat_cmp) ks → IsDistinct bytes_eq ks → (i : ℕ) (d : List ℕ) → suc i < length ks → slice_cmp nat_cmp (get_or ks i d) (get_or ks (suc i) d) ≡ Less
next ks sorted distinct i d within =
    let above : is_lt (slice_cmp nat_cmp (get_or ks (suc i) d) (get_or ks i d)) ≡ false =
    subst (λ (k : ℕ). is_lt (slice_cmp nat_cmp (get_or ks k d) (get_or ks i d)) ≡ false) (add-one i) (sorted i d (omega arith) (omega (arith, within))) in
    less (get_or ks i d) (get_or ks (suc i) d) above (apart_from_distinct bytes_eq ks i (suc i) d distinct (omega arith) within)

pub rises : (ks : List (List ℕ)) → IsSorted (slice_cmp nat_cmp) ks → IsDistinct bytes_eq ks → (i j : ℕ) (d : List ℕ) → i < j → j < length ks → slice_cmp nat_cmp (get_or ks i d) (get_or ks j d) ≡ Less
rises ks sorted distinct i zero d before within = absurd (omega (arith, before))
rises ks sorted distinct i (suc j) d before within = elim (cases_lt i j) [
  | inl below ↦
      nat_list_cmp_total.trans (get_or ks i d) (get_or ks j d) (get_or ks (suc j) d) (rises ks sorted distinct i j d below (omega (arith, within))) (next ks sorted distinct j d within)
  | inr past ↦
      let same : j ≡ i = omega (arith, past, before) in
      subst (λ (k : ℕ). slice_cmp nat_cmp (get_or ks k d) (get_or ks (suc j) d) ≡ Less) same (next ks sorted distinct j d within)
]
