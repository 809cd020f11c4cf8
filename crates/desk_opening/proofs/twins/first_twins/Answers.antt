use Rattle.std.proofs.Common.{ℕ, ◌<◌, ◌≢◌}
use borrow.Author.Count.{below_more}
use Rattle.desk_opening.specs.Twins.{books_of, book_at}
use Rattle.desk_opening.proofs.twins.first_twins.Goals as goal

pub loop-later-preserved : goal.loop-later-preserved
loop-later-preserved c a b less within =
    let books = books_of c.args.headers.now in
    let P : ℕ → Type 0 = λ k. (j : ℕ) → j < k → book_at books j ≢ book_at books k in
    below_more P c.loop-later.later (λ k before j h. c.loop-later.invariant j k h before) c.in_default.ensures.none b within a less
