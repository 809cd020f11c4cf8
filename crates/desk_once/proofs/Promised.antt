-- The status if no read failed.
use Rattle.std.proofs.Common.{◌≡◌, ◌≢◌, ℕ, zero, suc, ◌+◌, Bool, true, false, cond, ◌||◌, List, [], ◌∷◌, refl, sym, ◌∙◌, arith, inl, inr, ◌⊎◌}
use Rattle.std.specs.List.{list_any}
use Rattle.board_definitions.specs.declared.event.FeedStop.{FeedStop}
use Rattle.board_definitions.specs.declared.event.FeedStop.TheVariants as stops
use Rattle.report_definitions.specs.Seen.{SeenFeed}
use Rattle.report_definitions.specs.Report.{IsReport}
use Rattle.desk_definitions.specs.declared.feed_end.FeedEnd.{FeedEnd}
use Rattle.desk_definitions.specs.declared.status.TheConstants.{WANT_OF_MEMORY}
use Rattle.desk_definitions.specs.Seen.{SinkSeen, Due, IsWritten}
use Rattle.desk_definitions.specs.Course.{is_cut, is_read_fault, status_of, WritesNothing}
use Rattle.desk_definitions.specs.Causes.{NoneStops}

not_fault : (stop : FeedStop) → stop ≢ stops.ReadFault → is_read_fault stop ≡ false
not_fault stops.End h = refl
not_fault stops.Cut h = refl
not_fault stops.ReadFault h = absurd (h refl)
not_fault stops.NoMemory h = refl
not_fault stops.BadHeader h = refl

or_false : (a b : Bool) → a ≡ false → b ≡ false → a || b ≡ false
or_false true b e f = absurd (cc)
or_false false b e f = f

none_any : {S : Type 0} (ends : List (FeedEnd S)) → NoneStops stops.ReadFault ends → list_any (λ (end : FeedEnd S). is_read_fault end.stop) ends ≡ false
none_any [] h = refl
none_any (end ∷ ends) h =
    or_false (is_read_fault end.stop) (list_any (λ (e : FeedEnd _). is_read_fault e.stop) ends) (not_fault end.stop (h 0 end (omega arith)))
    (none_any ends (λ k d lt. h (suc k) d (omega (arith, lt))))

abbrev number : Bool → Bool → ℕ
number a b = cond a 4 (cond b 8 0)

not_four : (a b : Bool) → a ≡ false → number a b ≢ 4
not_four true b e = absurd (cc)
not_four false true e = λ wrong. absurd (cc)
not_four false false e = λ wrong. absurd (cc)

pub report_status : {S : Type 0} (ends : List (FeedEnd S)) → NoneStops stops.ReadFault ends → status_of ends ≢ 4
report_status ends h = not_four (list_any (λ (end : FeedEnd _). is_read_fault end.stop) ends) (list_any (λ (end : FeedEnd _). is_cut end.stop) ends) (none_any ends h)

pub report_promised : {S : Type 0} (ends : List (FeedEnd S)) (budget status : ℕ) (seen : List SeenFeed) (sink : SinkSeen) → NoneStops stops.ReadFault ends
    → ((due : Due) × (due.status ≡ status_of ends) × IsReport budget seen due.text × IsWritten due status sink) ⊎ ((status ≡ WANT_OF_MEMORY) × WritesNothing sink) → status ≢ 4
report_promised ends budget status seen sink h (inl (due, is, report, inl whole)) = λ e. report_status ends h (sym (whole.status_is ∙ is) ∙ e)
report_promised ends budget status seen sink h (inl (due, is, report, inr part)) = λ e. let wrong : 5 ≡ 4 = sym part.status_is ∙ e in absurd (cc)
report_promised ends budget status seen sink h (inr none) = λ e. let wrong : 7 ≡ 4 = sym none.0 ∙ e in absurd (cc)
