use Rattle.std.proofs.Common.{ℕ, ◌<◌, ◌≢◌}
use Rattle.desk_opening.specs.Twins.{books_of, book_at}
use Rattle.desk_opening.proofs.twins.twin_before.Given as goal

abbrev pub invariant-loop-earlier : goal.invariant-loop-earlier
invariant-loop-earlier l = (a : ℕ) → a < l.earlier → book_at (books_of l.headers) a ≢ book_at (books_of l.headers) l.later
