use Rattle.std.proofs.Common.{rules}
use Rattle.quote_board.specs.Books.{offer_in}
use Rattle.quote_board.proofs.Entries.{read_same, read_there}
use Rattle.quote_board.proofs.books.settle.Goals as goal

pub returns-in-Some-clause-offers : goal.returns-in-Some-clause-offers
returns-in-Some-clause-offers c = λ m feed number.
    read_same (λ book. offer_in book feed number) c.args.books.now _ c.args.match_name c.clear_due.new.book (search rules)
    (read_there (λ book. offer_in book feed number) c.args.books.now c.args.match_name c.in-Some.book.now c.clear_due.new.book (search rules) (c.clear_due.ensures.offers feed number)) m
