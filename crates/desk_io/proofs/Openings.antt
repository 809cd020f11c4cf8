-- Openings under one name after another.
use Rattle.std.proofs.Common.{◌≡◌, ◌+◌, ℕ, zero, suc, Bool, true, false, cond, List, [], ◌∷◌, ◌++◌, Option, Some, None, IfSome, option_map, drop, refl, sym, ◌∙◌, ap, subst, add-one, add-zero, zero-add}
use Rattle.std.specs.List.{slice_get}
use Rattle.std.specs.Str.{bytes_eq}
use Rattle.std.specs.Option.{option_and_then}
use Rattle.std.proofs.lemmas.List.Sums.{sum_by-append}
use Rattle.std.proofs.lemmas.Slice.Eq.{bytes_eq-Decides}
use Rattle.desk_io.specs.Opener.{Told, OpensFirst, SameUnderOthers, times, next_under, OpenedUnder, TakenUnder}

pub opened_under_none : (told : Told) → OpenedUnder [] told told
opened_under_none told name = none (told name)
  where
    none : (o : Option (List (List ℕ))) → IfSome o (λ sources. o ≡ Some (drop 0 sources))
    none None = tt
    none (Some sources) = refl

drop_next : (sources : List (List ℕ)) (k : ℕ) (first : List ℕ) (others : List (List ℕ)) → drop k sources ≡ first ∷ others → (slice_get sources k ≡ Some first) × (drop (suc k) sources ≡ others)
drop_next [] zero first others is = absurd (cc is)
drop_next [] (suc k) first others is = absurd (cc is)
drop_next (source ∷ sources) zero first others is = (ap (λ l. slice_get l 0) is, ap (drop 1) is)
drop_next (source ∷ sources) (suc k) first others is = drop_next sources k first others is

-- what the opening does to the list of its own name
opened_here : (told now after : Option (List (List ℕ))) (left : Option (List ℕ)) (k : ℕ) → IfSome told (λ sources. now ≡ Some (drop k sources)) → OpensFirst now after left
    → IfSome told (λ sources. (after ≡ Some (drop (suc k) sources)) × (left ≡ slice_get sources k))
opened_here None now after left k is opens = tt
opened_here (Some sources) now after left k is opens = at (drop k sources) refl (subst (λ o. OpensFirst o after left) is opens)
  where
    at : (rest : List (List ℕ)) → drop k sources ≡ rest → OpensFirst (Some rest) after left → (after ≡ Some (drop (suc k) sources)) × (left ≡ slice_get sources k)
    at [] is_rest opens_rest = absurd opens_rest
    at (first ∷ others) is_rest (others_left, first_left) =
        let next = drop_next sources k first others is_rest in
        (others_left ∙ ap Some (sym next.1), first_left ∙ sym next.0)

still : (told now after : Option (List (List ℕ))) (k more : ℕ) → more ≡ k → after ≡ now → IfSome told (λ sources. now ≡ Some (drop k sources)) → IfSome told (λ sources. after ≡ Some (drop more sources))
still None now after k more same kept is = tt
still (Some sources) now after k more same kept is = kept ∙ is ∙ ap (λ j. Some (drop j sources)) (sym same)

first_part : (told : Option (List (List ℕ))) (after : Option (List (List ℕ))) (left : Option (List ℕ)) (k more : ℕ) → more ≡ suc k → IfSome told (λ sources. (after ≡ Some (drop (suc k) sources)) × (left ≡ slice_get sources k))
    → IfSome told (λ sources. after ≡ Some (drop more sources))
first_part None after left k more is both = tt
first_part (Some sources) after left k more is both = both.0 ∙ ap (λ j. Some (drop j sources)) (sym is)

second_part : (told : Option (List (List ℕ))) (after : Option (List (List ℕ))) (left : Option (List ℕ)) (k : ℕ) → IfSome told (λ sources. (after ≡ Some (drop (suc k) sources)) × (left ≡ slice_get sources k))
    → IfSome told (λ _. left ≡ option_and_then (λ sources. slice_get sources k) told)
second_part None after left k both = tt
second_part (Some sources) after left k both = both.1

times_more : (name other : List ℕ) (earlier : List (List ℕ)) → times other (earlier ++ name ∷ []) ≡ times other earlier + cond (bytes_eq name other) 1 0
times_more name other earlier =
    sum_by-append (λ n. cond (bytes_eq n other) 1 0) earlier (name ∷ [])
    ∙ ap (λ k. times other earlier + k) (zero-add (cond (bytes_eq name other) 1 0))

module _ (earlier : List (List ℕ)) (name : List ℕ) (first now after : Told) (left : Option (List ℕ)) (opened : OpenedUnder earlier first now) (opens : OpensFirst (now name) (after name) left) (others : SameUnderOthers name now after) where
  here : IfSome (first name) (λ sources. (after name ≡ Some (drop (suc (times name earlier)) sources)) × (left ≡ slice_get sources (times name earlier)))
  here = opened_here (first name) (now name) (after name) left (times name earlier) (opened name) opens

  -- one more opening
  pub opened_under_more : OpenedUnder (earlier ++ name ∷ []) first after
  opened_under_more other = by (bytes_eq name other) refl
    where
      by : (same : Bool) → bytes_eq name other ≡ same → IfSome (first other) (λ sources. after other ≡ Some (drop (times other (earlier ++ name ∷ [])) sources))
      by true same =
          let is : name ≡ other = (bytes_eq-Decides name other).0 same in
          subst (λ n. IfSome (first n) (λ sources. after n ≡ Some (drop (times n (earlier ++ name ∷ [])) sources))) is
          (first_part (first name) (after name) left (times name earlier) (times name (earlier ++ name ∷ []))
          (times_more name name earlier ∙ ap (λ b. times name earlier + cond b 1 0) ((bytes_eq-Decides name name).1 refl) ∙ add-one (times name earlier)) here)
      by false differ =
          still (first other) (now other) (after other) (times other earlier) (times other (earlier ++ name ∷ []))
          (times_more name other earlier ∙ ap (λ b. times other earlier + cond b 1 0) differ ∙ add-zero (times other earlier))
          (others other (λ same. absurd (cc (differ, (bytes_eq-Decides name other).1 (sym same)))))
          (opened other)

  -- the source that it gives
  pub opens_next : IfSome (first name) (λ _. left ≡ next_under earlier name first)
  opens_next = second_part (first name) (after name) left (times name earlier) here

-- of a name of which nothing was told at first nothing is told later
abbrev pub StaysUntold : Told → Told → Type 0
StaysUntold first now = (name : List ℕ) → first name ≡ None → now name ≡ None

-- openings that are exact under each name of which something is told, and leave the others untold, are exact
pub taken_under : (names : List (List ℕ)) (first now : Told) → OpenedUnder names first now → StaysUntold first now → TakenUnder names first now
taken_under names first now opened stays name = at (first name) refl (opened name)
  where
    at : (told : Option (List (List ℕ))) → first name ≡ told → IfSome told (λ sources. now name ≡ Some (drop (times name names) sources)) → now name ≡ option_map (λ sources. drop (times name names) sources) told
    at None untold h = stays name untold
    at (Some sources) told h = h
