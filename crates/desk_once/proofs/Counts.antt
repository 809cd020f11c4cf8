-- Failed reads are counted where feeds stop by them.
use Rattle.std.proofs.Common.{◌≡◌, ◌≢◌, ℕ, zero, suc, ◌+◌, ◌<◌, List, [], ◌∷◌, ◌++◌, length, Option, sym, subst, arith}
use Rattle.std.specs.Prelude.{All}
use Rattle.std.proofs.lemmas.List.Elements.{All-push}
use Rattle.board_definitions.specs.declared.event.FeedStop.TheVariants as stops
use Rattle.desk_definitions.specs.declared.feed_end.FeedEnd.{FeedEnd}
use Rattle.desk_definitions.specs.Opening.{AreOpened}
use Rattle.desk_opening.specs.declared.begun.Begun.{Begun}
use Rattle.desk_opening.specs.Headers.{begun_ends}
use Rattle.desk_once.specs.Counts.{AreCounted, AreFresh}

module _ {S : Type 0} (faults : S → ℕ) where
  pub none_counted : (ends : List (FeedEnd S)) → ends ≡ [] → AreCounted faults ends
  none_counted ends none =
      let P : List (FeedEnd S) → Type 0 = λ xs. AreCounted faults xs in
      let empty : P [] = λ k d h. absurd (omega (arith, h)) in
      subst P (sym none) empty

  -- one more feed
  pub push_counted : (ends after : List (FeedEnd S)) (end : FeedEnd S) → after ≡ ends ++ end ∷ [] → (end.stop ≢ stops.ReadFault → faults end.source ≡ 0) → AreCounted faults ends → AreCounted faults after
  push_counted ends after end is last h =
      let P : List (FeedEnd S) → Type 0 = λ xs. AreCounted faults xs in
      subst P (sym is) (All-push (λ (e : FeedEnd S). e.stop ≢ stops.ReadFault → faults e.source ≡ 0) ends end h last)

  -- the next feed was read, and the others are still to be read
  pub counted_on : (ends : List (FeedEnd S)) (begun : List (Begun S)) (next : Begun S) (rest : List (Begun S)) (after : List (FeedEnd S)) → begun ≡ next ∷ rest
      → AreCounted faults ends × AreFresh faults begun → (AreCounted faults ends → faults next.reader.source ≡ 0 → AreCounted faults after) → AreCounted faults after × AreFresh faults rest
  counted_on ends begun next rest after is so_far step =
      let P : List (Begun S) → Type 0 = λ xs. AreFresh faults xs in
      let all : P (next ∷ rest) = subst P is so_far.1 in
      (step so_far.0 (all 0 next (omega arith)), λ k d h. all (suc k) d (omega (arith, h)))

  -- feeds of which no more than the header was read
  pub begun_counted : (number : ℕ) (begun : List (Begun S)) → AreFresh faults begun → AreCounted faults (begun_ends number begun)
  begun_counted number [] fresh k d h = absurd (omega (arith, h))
  begun_counted number (first ∷ begun) fresh zero d h = λ stop. fresh 0 first (omega arith)
  begun_counted number (first ∷ begun) fresh (suc k) d h = begun_counted (number + 1) begun (λ i x less. fresh (suc i) x (omega (arith, less))) k d (omega (arith, h))

  -- sources that were just opened
  pub opened_fresh : (left : S → Option (List ℕ)) (told : ℕ → Option (List ℕ)) (number : ℕ) (sources : List S) → AreOpened left faults told number sources → All (λ (source : S). faults source ≡ 0) sources
  opened_fresh left told number [] h k d less = absurd (omega (arith, less))
  opened_fresh left told number (source ∷ sources) h zero d less = h.0.fresh
  opened_fresh left told number (source ∷ sources) h (suc k) d less = opened_fresh left told (number + 1) sources h.1 k d (omega (arith, less))
