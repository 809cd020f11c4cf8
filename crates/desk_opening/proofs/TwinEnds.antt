-- Feeds of one book, as they are left.
use Rattle.std.proofs.Common.{◌≡◌, ◌≢◌, ℕ, zero, suc, ◌+◌, ◌<◌, List, [], ◌∷◌, length, map, Option, Some, None, refl, ap, ◌∙◌, arith}
use Rattle.std.specs.Prelude.{slice_get, slice_index_or, option_and_then}
use Rattle.std.specs.List.{AllPairs}
use Rattle.std.proofs.lemmas.List.{length-map}
use Rattle.feed_definitions.specs.declared.header.Header.{Header}
use Rattle.desk_definitions.specs.declared.feed_end.FeedEnd.{FeedEnd}
use Rattle.desk_definitions.specs.Reads.{book_of, AreFirstTwins, AreOfDifferentBooks}
use Rattle.desk_opening.specs.declared.begun.Begun.{Begun}
use Rattle.desk_opening.specs.Headers.{begun_ends}
use Rattle.desk_opening.specs.Twins.{books_of, book_at, AreFirstTwinBooks}

-- the feeds were left with these headers
abbrev pub HaveHeaders : {S : Type 0} → List (FeedEnd S) → List Header → Type 0
HaveHeaders [] [] = Unit {0}
HaveHeaders [] (header ∷ headers) = ⊥
HaveHeaders (end ∷ ends) [] = ⊥
HaveHeaders (end ∷ ends) (header ∷ headers) = (end.header ≡ Some header) × HaveHeaders ends headers

book_of_header : {S : Type 0} (end : FeedEnd S) (header : Header) → end.header ≡ Some header → book_of end ≡ Some header.book
book_of_header end header is = ap (λ (o : Option Header). (elim o as (λ _. Option (List ℕ)) [ None ↦ None | Some h ↦ Some h.book ])) is

-- the book of a feed by its number
book_there : {S : Type 0} (ends : List (FeedEnd S)) (headers : List Header) (k : ℕ) → HaveHeaders ends headers → k < length headers → option_and_then book_of (slice_get ends k) ≡ Some (book_at (books_of headers) k)
book_there [] [] k have h = absurd (omega (arith, h))
book_there [] (header ∷ headers) k have h = absurd have
book_there (end ∷ ends) [] k have h = absurd have
book_there (end ∷ ends) (header ∷ headers) zero have h = book_of_header end header have.0
book_there (end ∷ ends) (header ∷ headers) (suc k) have h = book_there ends headers k have.1 (omega (arith, h))

book_at_end : {S : Type 0} (ends : List (FeedEnd S)) (headers : List Header) (k : ℕ) (d : FeedEnd S) → HaveHeaders ends headers → k < length ends → book_of (slice_index_or ends k d) ≡ Some (book_at (books_of headers) k)
book_at_end [] headers k d have h = absurd (omega (arith, h))
book_at_end (end ∷ ends) [] k d have h = absurd have
book_at_end (end ∷ ends) (header ∷ headers) zero d have h = book_of_header end header have.0
book_at_end (end ∷ ends) (header ∷ headers) (suc k) d have h = book_at_end ends headers k d have.1 (omega (arith, h))

header_count : {S : Type 0} (ends : List (FeedEnd S)) (headers : List Header) → HaveHeaders ends headers → length ends ≡ length headers
header_count [] [] have = refl
header_count [] (header ∷ headers) have = absurd have
header_count (end ∷ ends) [] have = absurd have
header_count (end ∷ ends) (header ∷ headers) have = ap suc (header_count ends headers have.1)

same_value : {A : Type 0} (x y name : A) (o p : Option A) → o ≡ Some x → p ≡ Some y → o ≡ Some name → p ≡ Some name → x ≡ y
same_value x y name o p a b c d = cc

same_some : {A : Type 0} (x y : A) (o p : Option A) → o ≡ Some x → p ≡ Some y → o ≡ p → x ≡ y
same_some x y o p a b c = cc

-- the first two feeds of one book, as they were left
pub twins_of_ends : {S : Type 0} (ends : List (FeedEnd S)) (headers : List Header) (earlier later : ℕ) → HaveHeaders ends headers → AreFirstTwinBooks (books_of headers) earlier later → AreFirstTwins ends earlier later
twins_of_ends ends headers earlier later have twins =
    let books = books_of headers in
    let order = twins.order in
    let count = length-map headers (λ (header : Header). header.book) in
    let within : later < length headers = omega (arith, twins.within, count) in
    record {
      book = book_at books later;
      order = order;
      one = book_there ends headers earlier have (omega (arith, order, within)) ∙ ap Some twins.one;
      other = book_there ends headers later have within;
      first = λ a b name less before one other.
          twins.first a b less before (same_value (book_at books a) (book_at books b) name (option_and_then book_of (slice_get ends a)) (option_and_then book_of (slice_get ends b))
          (book_there ends headers a have (omega (arith, less, before, within))) (book_there ends headers b have (omega (arith, before, within))) one other);
    }

-- feeds of different books, as they were left
pub different_ends : {S : Type 0} (ends : List (FeedEnd S)) (headers : List Header) → HaveHeaders ends headers → AllPairs (λ book other. book ≢ other) (books_of headers) → AreOfDifferentBooks ends
different_ends ends headers have differ i j d less within same =
    let count = length-map headers (λ (header : Header). header.book) in
    let as_many = header_count ends headers have in
    differ i j [] less (omega (arith, within, as_many, count))
    (same_some (book_at (books_of headers) i) (book_at (books_of headers) j) (book_of (slice_index_or ends i d)) (book_of (slice_index_or ends j d))
    (book_at_end ends headers i d have (omega (arith, less, within))) (book_at_end ends headers j d have within) same)

-- the feeds of which the header was read have their headers
pub begun_have : {S : Type 0} (number : ℕ) (begun : List (Begun S)) → HaveHeaders (begun_ends number begun) (map (λ (feed : Begun S). feed.header) begun)
begun_have number [] = tt
begun_have number (first ∷ others) = (refl, begun_have (number + 1) others)
