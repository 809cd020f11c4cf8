-- What a table reads from a text is a value whose word the text is.
use Rattle.std.proofs.Common.{ℕ, ◌≡◌, Bool, true, false, cond, List, [], ◌∷◌, Option, Some, refl, ap, ◌∙◌}
use Rattle.std.specs.Str.{bytes_eq}
use Rattle.std.proofs.lemmas.Slice.Eq.{bytes_eq-Decides}
use Rattle.bet_definitions.specs.Tables.{table_of, value_of}

same_value : {A : Type 0} (x y : A) → Some x ≡ Some y → x ≡ y
same_value x y h = cc h

by_test : {A : Type 0} (word : A → List ℕ) (first value : A) (later : Option A) (text : List ℕ) (b : Bool) → bytes_eq text (word first) ≡ b →
    (later ≡ Some value → text ≡ word value) → cond b (Some first) later ≡ Some value → text ≡ word value
by_test word first value later text true is others h = (bytes_eq-Decides text (word first)).0 is ∙ ap word (same_value first value h)
by_test word first value later text false is others h = others h

pub read_is_spelled : {A : Type 0} (word : A → List ℕ) (values : List A) (text : List ℕ) (value : A) →
    value_of (table_of word values) text ≡ Some value → text ≡ word value
read_is_spelled word [] text value h = absurd (cc h)
read_is_spelled word (first ∷ others) text value h =
    by_test word first value (value_of (table_of word others) text) text (bytes_eq text (word first)) refl (read_is_spelled word others text value) h
