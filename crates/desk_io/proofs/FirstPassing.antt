-- The first item of a list that passes a test, and the list without it.
use Rattle.std.proofs.Common.{◌≡◌, ◌<◌, ◌+◌, ℕ, suc, Bool, true, false, not, cond, ltb, Some, None, List, [], ◌∷◌, ◌++◌, length, get_or, take, drop, refl, sym, ◌∙◌, ap, add-one, arith}
use Rattle.std.specs.List.{filter, position, position_or_len, remove}
use Rattle.std.proofs.lemmas.List.{take-append-drop, drop_more, get_or-take, length-take-le}
use Rattle.std.proofs.lemmas.List.Elements.{filter-append}
use Rattle.std.proofs.lemmas.List.Quantifiers.{position-Some}
use Rattle.std.proofs.lemmas.List.Sums.{prefix_len_passes}
use Rattle.std.proofs.lemmas.Bool.Decides.{not_from_Decides, Decides-ltb}

not_some : (b : Bool) (n : ℕ) → cond b (Some n) None ≡ None → b ≡ false
not_some true n none = absurd (cc none)
not_some false n none = refl

negated : (b : Bool) → not b ≡ true → b ≡ false
negated true contrary = sym contrary
negated false contrary = refl

module _ {X : Type 0} (p : X → Bool) where
  none_passes : (xs : List X) → ((k : ℕ) (d : X) → k < length xs → p (get_or xs k d) ≡ false) → filter p xs ≡ []
  none_passes [] fails = refl
  none_passes (x ∷ xs) fails =
      ap (λ b. cond b (x ∷ filter p xs) (filter p xs)) (fails 0 x (omega arith))
      ∙ none_passes xs (λ k d within. fails (suc k) d (omega (arith, within)))

  -- the items in front of one, that one, and those behind it
  split_at : (xs : List X) (k : ℕ) (x : X) → k < length xs → x ≡ get_or xs k x → xs ≡ take k xs ++ x ∷ drop (suc k) xs
  split_at xs k x within is =
      sym (take-append-drop k xs)
      ∙ ap (λ l. take k xs ++ l) (drop_more xs k x within ∙ ap (λ y. y ∷ drop (k + 1) xs) (sym is) ∙ ap (λ j. x ∷ drop j xs) (add-one k))

  filter_split : (xs : List X) (k : ℕ) (x : X) → k < length xs → x ≡ get_or xs k x → filter p xs ≡ filter p (take k xs) ++ cond (p x) (x ∷ filter p (drop (suc k) xs)) (filter p (drop (suc k) xs))
  filter_split xs k x within is = ap (filter p) (split_at xs k x within is) ∙ filter-append p (take k xs) (x ∷ drop (suc k) xs)

  -- without an item that fails the test, the same items pass
  pub filter-remove_other : (xs : List X) (k : ℕ) (x : X) → k < length xs → x ≡ get_or xs k x → p x ≡ false → filter p (remove xs k) ≡ filter p xs
  filter-remove_other xs k x within is fails =
      filter-append p (take k xs) (drop (suc k) xs)
      ∙ ap (λ b. filter p (take k xs) ++ cond b (x ∷ filter p (drop (suc k) xs)) (filter p (drop (suc k) xs))) (sym fails)
      ∙ sym (filter_split xs k x within is)

  -- the first item that passes is the first of those that pass
  pub filter_first : (xs : List X) (k : ℕ) (x : X) → position p xs ≡ Some k → x ≡ get_or xs k x → filter p xs ≡ x ∷ filter p (remove xs k)
  filter_first xs k x found is =
      let here = position-Some p xs k x found in
      let passes : p x ≡ true = ap p is ∙ here.1 in
      let shorter : length (take k xs) ≡ k = length-take-le k xs (omega (arith, here.0)) in
      let front : filter p (take k xs) ≡ [] = none_passes (take k xs) (λ j d within.
      let before : j < k = omega (arith, within, shorter) in
      ap p (get_or-take k xs j d before) ∙ (position-Some p xs k d found).2 j before) in
      filter_split xs k x here.0 is
      ∙ ap (λ b. filter p (take k xs) ++ cond b (x ∷ filter p (drop (suc k) xs)) (filter p (drop (suc k) xs))) passes
      ∙ ap (λ l. l ++ x ∷ filter p (drop (suc k) xs)) front
      ∙ ap (λ l. x ∷ l ++ filter p (drop (suc k) xs)) (sym front)
      ∙ ap (λ l. x ∷ l) (sym (filter-append p (take k xs) (drop (suc k) xs)))

  -- where none is the first, none passes
  pub filter_nil : (xs : List X) → position p xs ≡ None → filter p xs ≡ []
  filter_nil xs none =
      let front = position_or_len p xs in
      let past : ¬ (front < length xs) = not_from_Decides (ltb front (length xs)) (Decides-ltb front (length xs)) (not_some (ltb front (length xs)) front none) in
      none_passes xs (λ k d within. negated (p (get_or xs k d)) (prefix_len_passes (λ x. not (p x)) xs k d (omega (arith, within, past))))
