use Rattle.std.proofs.Common.{ℕ, ◌<◌, ◌≢◌}
use Rattle.desk_opening.specs.Twins.{books_of, book_at}
use Rattle.desk_opening.proofs.twins.first_twins.Given as goal

abbrev pub invariant-loop-later : goal.invariant-loop-later
invariant-loop-later l = (a b : ℕ) → a < b → b < l.later → book_at (books_of l.headers) a ≢ book_at (books_of l.headers) b
