-- What each match has after a change of one match.
use Rattle.std.proofs.Common.{ℕ, ◌≡◌, Bool, true, false, cond, List, sym, ap, ◌∙◌, Some, None, ⊎_elim}
use Rattle.std.specs.Prelude.{Option, option_and_then}
use Rattle.std.specs.Option.{unwrap_or}
use Rattle.std.specs.Map.{lookup}
use Rattle.std.specs.Str.{bytes_eq}
use Rattle.std.proofs.lemmas.Bool.{cases_Bool}
use Rattle.std.proofs.lemmas.Slice.Eq.{bytes_eq-Decides}
use Rattle.indexmap.specs.IndexMap.{IndexMap, get as entry_of}
use Rattle.quote_board.specs.declared.book.Book.{Book}

-- what is read of each match stays where it stays at the one that changed
pub read_same : {S A : Type 0} (read : Book → Option A) (old : IndexMap (List ℕ) Book S) (entries : List (List ℕ × Book)) (name : List ℕ) (book : Book) →
    ((q : List ℕ) → lookup (bytes_eq q) entries ≡ cond (bytes_eq name q) (Some book) (entry_of bytes_eq old q)) →
    read book ≡ option_and_then read (entry_of bytes_eq old name) →
    (m : List ℕ) → option_and_then read (lookup (bytes_eq m) entries) ≡ option_and_then read (entry_of bytes_eq old m)
read_same {S} {A} read old entries name book h same m =
    ap (option_and_then read) (h m)
    ∙ ⊎_elim
    (λ (here : bytes_eq name m ≡ true).
    let names : name ≡ m = (bytes_eq-Decides name m).0 here in
    ap (λ (b : Bool). option_and_then read (cond b (Some book) (entry_of bytes_eq old m))) here
    ∙ same ∙ ap (λ (q : List ℕ). option_and_then read (entry_of bytes_eq old q)) names)
    (λ (there : bytes_eq name m ≡ false). ap (λ (b : Bool). option_and_then read (cond b (Some book) (entry_of bytes_eq old m))) there)
    (cases_Bool (bytes_eq name m))

-- what is read of a match that was there
pub read_there : {S A : Type 0} (read : Book → Option A) (old : IndexMap (List ℕ) Book S) (name : List ℕ) (before after : Book) →
    entry_of bytes_eq old name ≡ Some before → read after ≡ read before → read after ≡ option_and_then read (entry_of bytes_eq old name)
read_there {S} {A} read old name before after there same = same ∙ ap (option_and_then read) (sym there)

-- what is read of a match that was there or is new
pub read_new : {A : Type 0} (read : Book → Option A) (entry stood : Option Book) (blank before after : Book) → entry ≡ stood →
    before ≡ unwrap_or entry blank → read blank ≡ None → read after ≡ read before → read after ≡ option_and_then read stood
read_new {A} read None stood blank before after e found none same = same ∙ ap read found ∙ none ∙ ap (λ (o : Option Book). option_and_then {U = A} read o) e
read_new {A} read (Some there) stood blank before after e found none same = same ∙ ap read found ∙ ap (λ (o : Option Book). option_and_then {U = A} read o) e
