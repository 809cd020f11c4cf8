-- The sources of the named feeds, as they are opened one after another.
use Rattle.std.proofs.Common.{◌≡◌, ◌≢◌, ℕ, zero, suc, ◌+◌, ◌<◌, ◌≤◌, Bool, true, false, cond, List, [], ◌∷◌, ◌++◌, length, get_or, take, drop, Option, Some, None, refl, sym, ◌∙◌, ap, subst, MatchOption, IfSome, arith, zero-add}
use Rattle.std.specs.Bool.{⊤}
use Rattle.std.specs.Option.{option_and_then}
use Rattle.std.specs.Str.{bytes_eq}
use Rattle.std.proofs.lemmas.List.{take_more, take-append-drop}
use Rattle.std.proofs.lemmas.List.Sums.{sum_by-append}
use Rattle.std.proofs.lemmas.Slice.Eq.{bytes_eq-Decides}
use Rattle.outside_definitions.specs.Opener.{Told, OpensFirst, SameUnderAll, SameUnderOthers, OpenedUnder, TakenUnder, times, next_under}
use Rattle.desk_io.proofs.Openings.{StaysUntold, opened_under_more, opens_next}
use Rattle.desk_definitions.specs.Opening.{told_bytes, HasSources, LacksSource, IsOpened, AreOpened}

-- the openings under one name more
pub opened_more : (first now after : Told) (names : List (List ℕ)) (n : ℕ) (name : List ℕ) (left : Option (List ℕ)) → n < length names → name ≡ get_or names n [] → OpenedUnder (take n names) first now
    → OpensFirst (now name) (after name) left → SameUnderOthers name now after → OpenedUnder (take (n + 1) names) first after
opened_more first now after names n name left lt is opened opens others =
    let P : List (List ℕ) → Type 0 = λ xs. OpenedUnder xs first after in
    let Q : List ℕ → Type 0 = λ x. P (take n names ++ x ∷ []) in
    subst P (sym (take_more names n [] lt)) (subst Q is (opened_under_more (take n names) name first now after left opened opens others))

-- what is known is told
is_told : (told left : Option (List ℕ)) → left ≡ told → MatchOption told ⊤ (λ bytes. left ≡ Some bytes)
is_told None left e = tt
is_told (Some bytes) left e = e

tells_of : (sources : Option (List (List ℕ))) (next : List (List ℕ) → Option (List ℕ)) (left : Option (List ℕ)) → IfSome sources (λ _. left ≡ option_and_then next sources) → MatchOption (option_and_then next sources) ⊤ (λ bytes. left ≡ Some bytes)
tells_of None next left h = tt
tells_of (Some sources) next left h = is_told (next sources) left h

-- what the source of a name has left is what was told of it
pub tells : (first now after : Told) (names : List (List ℕ)) (n : ℕ) (name : List ℕ) (left : Option (List ℕ)) → name ≡ get_or names n [] → OpenedUnder (take n names) first now
    → OpensFirst (now name) (after name) left → SameUnderOthers name now after → MatchOption (told_bytes first names n) ⊤ (λ bytes. left ≡ Some bytes)
tells first now after names n name left is opened opens others =
    let P : List ℕ → Type 0 = λ x. MatchOption (next_under (take n names) x first) ⊤ (λ bytes. left ≡ Some bytes) in
    subst P is (tells_of (first name) _ left (opens_next (take n names) name first now after left opened opens others))

-- one more source at the end
pub AreOpened_push : {S : Type 0} (left : S → Option (List ℕ)) (faults : S → ℕ) (told : ℕ → Option (List ℕ)) (number : ℕ) (sources : List S) (source : S) → AreOpened left faults told number sources → IsOpened left faults (told (number + length sources)) source → AreOpened left faults told number (sources ++ source ∷ [])
AreOpened_push left faults told number [] source h o =
    let e : number + 0 ≡ number = omega arith in
    let P : ℕ → Type 0 = λ k. IsOpened left faults (told k) source in
    (subst P e o, tt)
AreOpened_push left faults told number (first ∷ sources) source h o =
    let e : number + suc (length sources) ≡ number + 1 + length sources = omega arith in
    let P : ℕ → Type 0 = λ k. IsOpened left faults (told k) source in
    (h.0, AreOpened_push left faults told (number + 1) sources source h.1 (subst P e o))

-- under a name that is opened once more there was one more source
times_more : (name other : List ℕ) (earlier : List (List ℕ)) → times other (earlier ++ name ∷ []) ≡ times other earlier + cond (bytes_eq name other) 1 0
times_more name other earlier = sum_by-append (λ n. cond (bytes_eq n other) 1 0) earlier (name ∷ []) ∙ ap (λ k. times other earlier + k) (zero-add (cond (bytes_eq name other) 1 0))

pub enough_none : (told : Told) → HasSources told []
enough_none told name = none (told name)
  where
    none : (o : Option (List (List ℕ))) → IfSome o (λ sources. 0 ≤ length sources)
    none None = tt
    none (Some sources) = omega arith

some_left : (sources : List (List ℕ)) (k : ℕ) → drop k sources ≢ [] → k < length sources
some_left [] zero h = absurd (h refl)
some_left [] (suc k) h = absurd (h refl)
some_left (source ∷ sources) zero h = omega arith
some_left (source ∷ sources) (suc k) h = omega (arith, some_left sources k h)

-- the list of the name that is opened
enough_here : (told now after : Option (List (List ℕ))) (left : Option (List ℕ)) (k : ℕ) → IfSome told (λ sources. now ≡ Some (drop k sources)) → OpensFirst now after left → IfSome told (λ sources. k + 1 ≤ length sources)
enough_here None now after left k is opens = tt
enough_here (Some sources) now after left k is opens =
    let P : Option (List (List ℕ)) → Type 0 = λ o. OpensFirst o after left in
    let Q : List (List ℕ) → Type 0 = λ rest. OpensFirst (Some rest) after left in
    omega (arith, some_left sources k (λ e. subst Q e (subst P is opens)))

enough_there : (told : Option (List (List ℕ))) (k more : ℕ) → more ≤ k → IfSome told (λ sources. k ≤ length sources) → IfSome told (λ sources. more ≤ length sources)
enough_there None k more few h = tt
enough_there (Some sources) k more few h = omega arith

enough_under : (first now after : Told) (earlier : List (List ℕ)) (name : List ℕ) (left : Option (List ℕ)) → OpenedUnder earlier first now → HasSources first earlier → OpensFirst (now name) (after name) left → HasSources first (earlier ++ name ∷ [])
enough_under first now after earlier name left opened enough opens other = by (bytes_eq name other) refl
  where
    by : (same : Bool) → bytes_eq name other ≡ same → IfSome (first other) (λ sources. times other (earlier ++ name ∷ []) ≤ length sources)
    by true same =
        let is : name ≡ other = (bytes_eq-Decides name other).0 same in
        let count : times other (earlier ++ name ∷ []) ≡ times other earlier + 1 = times_more name other earlier ∙ ap (λ b. times other earlier + cond b 1 0) same in
        let P : List ℕ → Type 0 = λ n. IfSome (first n) (λ sources. times n earlier + 1 ≤ length sources) in
        enough_there (first other) (times other earlier + 1) (times other (earlier ++ name ∷ [])) (omega (arith, count))
        (subst P is (enough_here (first name) (now name) (after name) left (times name earlier) (opened name) opens))
    by false differ =
        let count : times other (earlier ++ name ∷ []) ≡ times other earlier + 0 = times_more name other earlier ∙ ap (λ b. times other earlier + cond b 1 0) differ in
        enough_there (first other) (times other earlier) (times other (earlier ++ name ∷ [])) (omega (arith, count)) (enough other)

-- one name more
pub enough_more : (first now after : Told) (names : List (List ℕ)) (n : ℕ) (name : List ℕ) (left : Option (List ℕ)) → n < length names → name ≡ get_or names n [] → OpenedUnder (take n names) first now
    → HasSources first (take n names) → OpensFirst (now name) (after name) left → HasSources first (take (n + 1) names)
enough_more first now after names n name left lt is opened enough opens =
    let P : List (List ℕ) → Type 0 = λ xs. HasSources first xs in
    let Q : List ℕ → Type 0 = λ x. P (take n names ++ x ∷ []) in
    subst P (sym (take_more names n [] lt)) (subst Q is (enough_under first now after (take n names) name left opened enough opens))

-- the openings under one name more
pub stays_untold : (first now after : Told) (name : List ℕ) (left : Option (List ℕ)) → StaysUntold first now → OpensFirst (now name) (after name) left → SameUnderOthers name now after → StaysUntold first after
stays_untold first now after name left stays opens others other untold = by (bytes_eq name other) refl
  where
    P : Option (List (List ℕ)) → Type 0
    P o = OpensFirst o (after name) left

    by : (same : Bool) → bytes_eq name other ≡ same → after other ≡ None
    by true same =
        let is : name ≡ other = (bytes_eq-Decides name other).0 same in
        let here : after name ≡ None = subst P (ap now is ∙ stays other untold) opens in
        ap after (sym is) ∙ here
    by false differ = others other (λ same. absurd (cc (differ, (bytes_eq-Decides name other).1 (sym same)))) ∙ stays other untold

none_left : (sources : List (List ℕ)) (k : ℕ) → drop k sources ≡ [] → length sources ≤ k
none_left [] k e = omega arith
none_left (source ∷ sources) zero e = absurd (cc e)
none_left (source ∷ sources) (suc k) e = omega (arith, none_left sources k e)

-- a name that has no source left now, of the list told at first
lacks_at : (first now : Told) (names : List (List ℕ)) (k : ℕ) (name : List ℕ) (told : Option (List (List ℕ))) → first name ≡ told → name ≡ get_or names k [] → StaysUntold first now → OpenedUnder (take k names) first now → now name ≡ Some [] → LacksSource first names k
lacks_at first now names k name None e is stays opened none_now = absurd (cc (sym none_now ∙ stays name e))
lacks_at first now names k name (Some sources) e is stays opened none_now =
    let P : Option (List (List ℕ)) → Type 0 = λ o. IfSome o (λ xs. now name ≡ Some (drop (times name (take k names)) xs)) in
    let left : now name ≡ Some (drop (times name (take k names)) sources) = subst P e (opened name) in
    let both : Some [] ≡ Some (drop (times name (take k names)) sources) = sym none_now ∙ left in
    let Q : List ℕ → Type 0 = λ x. first x ≡ Some sources in
    let R : List ℕ → Type 0 = λ x. length sources ≤ times x (take k names) in
    record {
      sources = sources;
      are_told = subst Q is e;
      too_few = subst R is (none_left sources (times name (take k names)) (cc both));
    }

pub lacks : (first now : Told) (names : List (List ℕ)) (k : ℕ) (name : List ℕ) → name ≡ get_or names k [] → StaysUntold first now → OpenedUnder (take k names) first now → now name ≡ Some [] → LacksSource first names k
lacks first now names k name is stays opened none_now = lacks_at first now names k name (first name) refl is stays opened none_now

-- an opening that failed changes nothing that is told
pub taken_still : (names : List (List ℕ)) (first now after : Told) → TakenUnder names first now → SameUnderAll now after → TakenUnder names first after
taken_still names first now after taken same name = same name ∙ taken name

-- a name stands once more among all names than among those before it
pub times_before : (names : List (List ℕ)) (k : ℕ) → k < length names → times (get_or names k []) (take k names) < times (get_or names k []) names
times_before names k lt =
    let name = get_or names k [] in
    let whole : times name names ≡ times name (take (k + 1) names) + times name (drop (k + 1) names) =
    ap (λ xs. times name xs) (sym (take-append-drop (k + 1) names)) ∙ sum_by-append (λ n. cond (bytes_eq n name) 1 0) (take (k + 1) names) (drop (k + 1) names) in
    let first : times name (take (k + 1) names) ≡ times name (take k names) + 1 =
    ap (λ xs. times name xs) (take_more names k [] lt) ∙ times_more name name (take k names) ∙ ap (λ b. times name (take k names) + cond b 1 0) ((bytes_eq-Decides name name).1 refl) in
    omega (arith, whole, first)
