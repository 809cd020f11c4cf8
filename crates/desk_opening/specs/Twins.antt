-- Feeds of one book, by the books of all feeds in order.
use Rattle.std.specs.Prelude.{ℕ, ◌≡◌, ◌≢◌, ◌<◌, List, [], length, map, slice_index_or}
use Rattle.feed_definitions.specs.declared.header.Header.{Header}

-- the books that these headers name
abbrev pub books_of : List Header → List (List ℕ)
books_of headers = map (λ header. header.book) headers

-- the book of the feed of this number
abbrev pub book_at : List (List ℕ) → ℕ → List ℕ
book_at books k = slice_index_or books k []

-- the feeds before the later one are of different books, and the later one is of the book of the earlier one
pub record AreFirstTwinBooks (books : List (List ℕ)) (earlier later : ℕ) : Type 0 where
  pub order : earlier < later
  pub within : later < length books
  pub one : book_at books earlier ≡ book_at books later
  pub first : (a b : ℕ) → a < b → b < later → book_at books a ≢ book_at books b
