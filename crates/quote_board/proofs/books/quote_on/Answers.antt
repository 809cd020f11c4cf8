use Rattle.std.proofs.Common.{rules}
use Rattle.std.proofs.lemmas.Result.{on_err_weaker}
use Rattle.quote_board.specs.Books.{offer_in}
use Rattle.quote_board.proofs.Entries.{read_same, read_new}
use Rattle.quote_board.proofs.books.quote_on.Goals as goal

pub returns-clause-err_offers : goal.returns-clause-err_offers
returns-clause-err_offers c = on_err_weaker c.put_offer.result (λ kept m feed number.
    read_same (λ book. offer_in book feed number) c.args.books.now _ c.args.match_name c.put_offer.new.book (search rules)
    (read_new (λ book. offer_in book feed number) _ _ c.new.result c.or_insert-book.result.now c.put_offer.new.book c.in_ok-books.ensures.value c.or_insert-book.ensures.value (c.new.ensures.offers feed number) (kept feed number)) m)
    c.put_offer.ensures.err_offers

pub returns-clause-err_due : goal.returns-clause-err_due
returns-clause-err_due c = on_err_weaker c.put_offer.result (λ kept m.
    read_same (λ book. book.due) c.args.books.now _ c.args.match_name c.put_offer.new.book (search rules)
    (read_new (λ book. book.due) _ _ c.new.result c.or_insert-book.result.now c.put_offer.new.book c.in_ok-books.ensures.value c.or_insert-book.ensures.value c.new.ensures.due kept) m)
    c.put_offer.ensures.err_due
