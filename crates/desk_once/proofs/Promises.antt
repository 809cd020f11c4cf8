-- Feeds whose sources never fail, one after another.
use Rattle.std.proofs.Common.{◌≡◌, ◌≢◌, ℕ, zero, suc, ◌+◌, ◌<◌, Bool, true, List, [], ◌∷◌, ◌++◌, length, sym, subst, arith}
use Rattle.std.specs.Prelude.{All, slice_index_or}
use Rattle.std.proofs.lemmas.List.Elements.{All-push}
use Rattle.board_definitions.specs.declared.event.FeedStop.TheVariants as stops
use Rattle.desk_definitions.specs.declared.feed_end.FeedEnd.{FeedEnd}
use Rattle.desk_opening.specs.declared.begun.Begun.{Begun}

-- one more feed did not stop by a failed read
pub pushed_promise : {S : Type 0} (ends after : List (FeedEnd S)) (end : FeedEnd S) → after ≡ ends ++ end ∷ [] → end.stop ≢ stops.ReadFault
    → All (λ (e : FeedEnd S). e.stop ≢ stops.ReadFault) ends → All (λ (e : FeedEnd S). e.stop ≢ stops.ReadFault) after
pushed_promise {S} ends after end is last h =
    let P : List (FeedEnd S) → Type 0 = λ xs. All (λ (e : FeedEnd S). e.stop ≢ stops.ReadFault) xs in
    subst P (sym is) (All-push (λ (e : FeedEnd S). e.stop ≢ stops.ReadFault) ends end h last)

-- the next feed was read, and the others are still to be read
pub promised_on : {S : Type 0} (never : S → Type 0) (ends : List (FeedEnd S)) (begun : List (Begun S)) (next : Begun S) (rest : List (Begun S)) (after : List (FeedEnd S)) → begun ≡ next ∷ rest
    → All (λ (e : FeedEnd S). e.stop ≢ stops.ReadFault) ends × All (λ (b : Begun S). never b.reader.source) begun
    → (All (λ (e : FeedEnd S). e.stop ≢ stops.ReadFault) ends → never next.reader.source → All (λ (e : FeedEnd S). e.stop ≢ stops.ReadFault) after)
    → All (λ (e : FeedEnd S). e.stop ≢ stops.ReadFault) after × All (λ (b : Begun S). never b.reader.source) rest
promised_on {S} never ends begun next rest after is so_far step =
    let P : List (Begun S) → Type 0 = λ xs. All (λ (b : Begun S). never b.reader.source) xs in
    let all : P (next ∷ rest) = subst P is so_far.1 in
    (step so_far.0 (all 0 next (omega arith)), λ k d h. all (suc k) d (omega (arith, h)))
