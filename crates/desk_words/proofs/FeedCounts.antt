-- How many feeds may be named.
use Rattle.std.proofs.Common.{◌≡◌, ◌∙◌, ◌≤◌, Bool, true, false, cond, List, length, map, Some, None, refl, sym, ap}
use Rattle.std.specs.Borrow.{Bor}
use Rattle.std.proofs.lemmas.Bool.{le-leb}
use Rattle.std.proofs.lemmas.List.{length-map}
use Rattle.clap.specs.Words.{Text}
use Rattle.desk_words.specs.Commands.{few_enough, is_feed_count}

abbrev texts : List (Bor Text) → List Text
texts = map (λ name. name.now)

-- names behind references, by the test of their number
counted : (names : List (Bor Text)) (b : Bool) → is_feed_count (length names) ≡ b → few_enough (texts names) ≡ cond b (Some (texts names)) None
counted names b is = ap (λ n. cond (is_feed_count n) (Some (texts names)) None) (length-map names (λ name. name.now)) ∙ ap (λ t. cond t (Some (texts names)) None) is

pub few_names : (names : List (Bor Text)) → is_feed_count (length names) ≡ true → Some (texts names) ≡ few_enough (texts names)
few_names names is = sym (counted names true is)

pub other_names : (names : List (Bor Text)) → is_feed_count (length names) ≡ false → None ≡ few_enough (texts names)
other_names names is = sym (counted names false is)

pub few : (names : List Text) → 1 ≤ length names → length names ≤ 8 → few_enough names ≡ Some names
few names some most =
    let within : is_feed_count (length names) ≡ true = rw (le-leb 1 (length names) some, le-leb (length names) 8 most) refl in
    ap (λ t. cond t (Some names) None) within
