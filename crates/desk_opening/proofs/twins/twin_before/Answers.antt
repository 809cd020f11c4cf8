use Rattle.std.proofs.Common.{◌≡◌, ◌≢◌, ◌∙◌, ℕ, ◌<◌, true, false, List, [], length, sym, arith}
use Rattle.std.specs.Prelude.{slice_index_or}
use Rattle.std.specs.Str.{bytes_eq}
use Rattle.std.proofs.lemmas.List.{get_or-map}
use Rattle.std.proofs.lemmas.Slice.Eq.{bytes_eq-Decides}
use borrow.Author.Count.{below_more}
use Rattle.feed_definitions.specs.declared.header.Header.{Header}
use Rattle.desk_opening.specs.Twins.{books_of, book_at}
use Rattle.desk_opening.proofs.twins.twin_before.Goals as goal

-- the book of a header
book_is : (headers : List Header) (k : ℕ) (d : Header) → k < length headers → book_at (books_of headers) k ≡ (slice_index_or headers k d).book
book_is headers k d within = get_or-map (λ (header : Header). header.book) headers k d [] within

-- books that are compared, by what the comparison gave
same_book : (headers : List Header) (i j : ℕ) (d e : Header) → i < length headers → j < length headers → bytes_eq (slice_index_or headers i d).book (slice_index_or headers j e).book ≡ true → book_at (books_of headers) i ≡ book_at (books_of headers) j
same_book headers i j d e first second same = book_is headers i d first ∙ (bytes_eq-Decides (slice_index_or headers i d).book (slice_index_or headers j e).book).0 same ∙ sym (book_is headers j e second)

other_book : (headers : List Header) (i j : ℕ) (d e : Header) → i < length headers → j < length headers → bytes_eq (slice_index_or headers i d).book (slice_index_or headers j e).book ≡ false → book_at (books_of headers) i ≢ book_at (books_of headers) j
other_book headers i j d e first second differ same =
    let equal = (bytes_eq-Decides (slice_index_or headers i d).book (slice_index_or headers j e).book).1 (sym (book_is headers i d first) ∙ same ∙ book_is headers j e second) in
    cc (differ, equal)

pub returns-then-eq-clause-one : goal.returns-then-eq-clause-one
returns-then-eq-clause-one c = same_book c.args.headers.now c.loop-earlier.earlier c.args.later c.index-headers-earlier.result c.index-headers-later.result (omega arith) (omega arith) (sym c.eq.ensures ∙ c.if-eq.true)

pub loop-earlier-preserved : goal.loop-earlier-preserved
loop-earlier-preserved c =
    let books = books_of c.args.headers.now in
    below_more (λ k. book_at books k ≢ book_at books c.args.later) c.loop-earlier.earlier c.loop-earlier.invariant
    (other_book c.args.headers.now c.loop-earlier.earlier c.args.later c.index-headers-earlier.result c.index-headers-later.result (omega arith) (omega arith) (sym c.eq.ensures ∙ c.if-eq.false))
