use Rattle.std.proofs.Common.{rules}
use Rattle.std.proofs.lemmas.Result.{on_err_weaker}
use Rattle.quote_board.specs.Books.{offer_in}
use Rattle.quote_board.proofs.Entries.{read_same, read_there}
use Rattle.quote_board.proofs.books.withdraw_on.Goals as goal

pub returns-clause-err_offers : goal.returns-clause-err_offers
returns-clause-err_offers c = on_err_weaker c.take_offer.result (λ kept m feed number.
    read_same (λ book. offer_in book feed number) c.args.books.now _ c.args.match_name c.take_offer.new.book (search rules)
    (read_there (λ book. offer_in book feed number) c.args.books.now c.args.match_name c.in-Some.book.now c.take_offer.new.book (search rules) (kept feed number)) m)
    c.take_offer.ensures.err_offers

pub returns-clause-err_due : goal.returns-clause-err_due
returns-clause-err_due c = on_err_weaker c.take_offer.result (λ kept m.
    read_same (λ book. book.due) c.args.books.now _ c.args.match_name c.take_offer.new.book (search rules)
    (read_there (λ book. book.due) c.args.books.now c.args.match_name c.in-Some.book.now c.take_offer.new.book (search rules) kept) m)
    c.take_offer.ensures.err_due
