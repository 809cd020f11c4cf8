-- What the ends of the feeds say of one another.
use Rattle.std.proofs.Common.{◌≡◌, ◌≢◌, ℕ, zero, suc, ◌+◌, ◌<◌, Bool, true, false, List, [], ◌∷◌, ◌++◌, length, get_or, slice_get, Option, Some, None, IsSome, All, IsTrue, cond, refl, sym, ap, ◌∙◌, subst, arith, rules, length-append}
use Rattle.std.specs.List.{list_any}
use Rattle.std.proofs.lemmas.Bool.{false≢true}
use Rattle.std.proofs.lemmas.List.Folds.{Any-from_list_any, list_any-from_Any, list_any_none, list_any_at}
use Rattle.std.proofs.lemmas.List.Elements.{All-append}
use Rattle.std.proofs.lemmas.Option.{option_and_then_some, slice_get_within, slice_get-get_or}
use Rattle.std.proofs.Math.Seq.{get_or-append_seam}
use Rattle.board_definitions.specs.declared.event.FeedStop.{FeedStop}
use Rattle.board_definitions.specs.declared.event.FeedStop.TheVariants as stops
use Rattle.feed_definitions.specs.declared.step.Step.{Step}
use Rattle.feed_definitions.specs.declared.header.Header.{Header}
use Rattle.report_definitions.specs.Stops.{is_reported}
use Rattle.desk_definitions.specs.declared.feed_end.FeedEnd.{FeedEnd}
use Rattle.desk_definitions.specs.declared.status.TheConstants.{DONE, NOT_READ, CUT}
use Rattle.desk_definitions.specs.Ends.{header_in, IsStopOf, IsReadSo}
use Rattle.desk_definitions.specs.Reads.{FeedRead, AreReadSo, IsBegun, AreBegun, AreRead, AreFirstTwins, AreOfDifferentBooks, book_of}
use Rattle.desk_definitions.specs.Course.{is_read_fault, is_cut, status_of}
use Rattle.desk_definitions.specs.Causes.{SomeStop, NoneStops, HasFailedRead, EndsWithout}

pub all_cons : {X : Type 0} (P : X → Type 0) (x : X) (xs : List X) → P x → All P xs → All P (x ∷ xs)
all_cons P x xs p h zero d lt = p
all_cons P x xs p h (suc k) d lt = h k d (omega arith)

-- the last of a list
abbrev last_of : {X : Type 0} → List X → X → X
last_of [] d = d
last_of (x ∷ xs) d = last_of xs x

last_is : {X : Type 0} (xs : List X) (a d : X) → last_of (xs ++ a ∷ []) d ≡ a
last_is [] a d = refl
last_is (x ∷ xs) a d = last_is xs a x

pub one_last : {X : Type 0} (all xs ys : List X) (a b : X) → all ≡ xs ++ a ∷ [] → all ≡ ys ++ b ∷ [] → a ≡ b
one_last all xs ys a b e f = sym (last_is xs a a) ∙ ap (λ l. last_of l a) (sym e ∙ f) ∙ last_is ys b a

pub last_at : {X : Type 0} (all xs : List X) (a : X) → all ≡ xs ++ a ∷ [] → (length xs < length all) × (get_or all (length xs) a ≡ a)
last_at all xs a e = (omega (arith, ap (λ l. length l) e, length-append xs (a ∷ [])), ap (λ l. get_or l (length xs) a) e ∙ get_or-append_seam xs a [] a)

none_is_some : {X : Type 0} (o : Option X) → o ≡ None → IsSome o → ⊥
none_is_some None e h = false≢true h
none_is_some (Some x) e h = absurd (cc)

-- the tests of stops
fault_stop : (s : FeedStop) → is_read_fault s ≡ true → s ≡ stops.ReadFault
fault_stop stops.End h = absurd (cc)
fault_stop stops.Cut h = absurd (cc)
fault_stop stops.ReadFault h = refl
fault_stop stops.NoMemory h = absurd (cc)
fault_stop stops.BadHeader h = absurd (cc)

cut_stop : (s : FeedStop) → is_cut s ≡ true → s ≡ stops.Cut
cut_stop stops.End h = absurd (cc)
cut_stop stops.Cut h = refl
cut_stop stops.ReadFault h = absurd (cc)
cut_stop stops.NoMemory h = absurd (cc)
cut_stop stops.BadHeader h = absurd (cc)

no_fault_stop : (s : FeedStop) → s ≢ stops.ReadFault → is_read_fault s ≡ false
no_fault_stop stops.End h = refl
no_fault_stop stops.Cut h = refl
no_fault_stop stops.ReadFault h = absurd (h refl)
no_fault_stop stops.NoMemory h = refl
no_fault_stop stops.BadHeader h = refl

end_stop : (s : FeedStop) → IsTrue (is_reported s) → is_read_fault s ≡ false → is_cut s ≡ false → s ≡ stops.End
end_stop stops.End h f c = refl
end_stop stops.Cut h f c = absurd (cc)
end_stop stops.ReadFault h f c = absurd (cc)
end_stop stops.NoMemory h f c = absurd (false≢true h)
end_stop stops.BadHeader h f c = absurd (false≢true h)

stop_of_fault : (s : FeedStop) → s ≡ stops.ReadFault → is_read_fault s ≡ true
stop_of_fault s e = ap (λ (t : FeedStop). is_read_fault t) e

module _ {S : Type 0} where
  -- feeds that all have a header
  pub has_header : (stop : FeedStop) (ends : List (FeedEnd S)) → EndsWithout stop ends → All (λ end. IsSome end.header) ends → ⊥
  has_header stop ends without all =
      let at = last_at ends without.front without.last without.are in
      none_is_some without.last.header without.no_header (subst (λ (end : FeedEnd S). IsSome end.header) at.1 (all (length without.front) without.last at.0))

  pub not_nothing : (stop : FeedStop) (ends : List (FeedEnd S)) → EndsWithout stop ends → ends ≡ [] → ⊥
  not_nothing stop ends without none = let at = last_at ends without.front without.last without.are in omega (arith, at.0, ap (λ (l : List (FeedEnd S)). length l) none)

  pub one_stop : (a b : FeedStop) (ends : List (FeedEnd S)) → EndsWithout a ends → EndsWithout b ends → a ≡ b
  one_stop a b ends x y = sym x.stop_is ∙ ap (λ (end : FeedEnd S). end.stop) (one_last ends x.front y.front x.last y.last x.are y.are) ∙ y.stop_is

  -- feeds of one book are not of different books
  at_place : (ends : List (FeedEnd S)) (k : ℕ) (x d : FeedEnd S) → slice_get ends k ≡ Some x → get_or ends k d ≡ x
  at_place ends k x d h = some_same (get_or ends k d) x (sym (slice_get-get_or ends k d (slice_get_within ends k x h)) ∙ h)
    where
      some_same : (a b : FeedEnd S) → Some a ≡ Some b → a ≡ b
      some_same a b e = cc

  pub no_twins : (ends : List (FeedEnd S)) (earlier later : ℕ) → AreFirstTwins ends earlier later → AreOfDifferentBooks ends → ⊥
  no_twins ends earlier later twins different =
      option_and_then_some book_of (slice_get ends earlier) twins.book twins.one (λ x is_x book_x.
      option_and_then_some book_of (slice_get ends later) twins.book twins.other (λ y is_y book_y.
      different earlier later x twins.order (slice_get_within ends later y is_y)
      (ap (λ (end : FeedEnd S). book_of end) (at_place ends earlier x x is_x) ∙ book_x ∙ sym (ap (λ (end : FeedEnd S). book_of end) (at_place ends later y x is_y) ∙ book_y))))

  -- none of the feeds stopped so, and one more did not
  pub none_more : (stop : FeedStop) (ends front : List (FeedEnd S)) (last : FeedEnd S) → ends ≡ front ++ last ∷ [] → NoneStops stop front → last.stop ≢ stop → NoneStops stop ends
  none_more stop ends front last are none other =
      let P : FeedEnd S → Type 0 = λ end. end.stop ≢ stop in
      subst (λ (all : List (FeedEnd S)). All P all) (sym are) (All-append P front (last ∷ []) none (all_cons P last [] other (λ k d lt. absurd (omega (arith, lt)))))

  any_fault : (ends : List (FeedEnd S)) → list_any (λ end. is_read_fault end.stop) ends ≡ true → SomeStop stops.ReadFault ends
  any_fault ends h = let a = Any-from_list_any (λ (end : FeedEnd S). is_read_fault end.stop) ends h in (a.0, a.1, a.2, a.3, fault_stop a.1.stop a.4)

  any_cut : (ends : List (FeedEnd S)) → list_any (λ end. is_cut end.stop) ends ≡ true → SomeStop stops.Cut ends
  any_cut ends h = let a = Any-from_list_any (λ (end : FeedEnd S). is_cut end.stop) ends h in (a.0, a.1, a.2, a.3, cut_stop a.1.stop a.4)

  pub fault_found : (ends : List (FeedEnd S)) → SomeStop stops.ReadFault ends → list_any (λ end. is_read_fault end.stop) ends ≡ true
  fault_found ends a = list_any-from_Any (λ (end : FeedEnd S). is_read_fault end.stop) ends (a.0, a.1, a.2, a.3, ap (λ (t : FeedStop). is_read_fault t) a.4)

  pub cut_found : (ends : List (FeedEnd S)) → SomeStop stops.Cut ends → list_any (λ end. is_cut end.stop) ends ≡ true
  cut_found ends a = list_any-from_Any (λ (end : FeedEnd S). is_cut end.stop) ends (a.0, a.1, a.2, a.3, ap (λ (t : FeedStop). is_cut t) a.4)

  pub no_fault_found : (ends : List (FeedEnd S)) → NoneStops stops.ReadFault ends → list_any (λ end. is_read_fault end.stop) ends ≡ false
  no_fault_found ends none = list_any_none (λ (end : FeedEnd S). is_read_fault end.stop) ends (λ k d lt. no_fault_stop (get_or ends k d).stop (none k d lt))

  -- the status of feeds with these ends, by its cause
  pub data StatusSays (ends : List (FeedEnd S)) (status : ℕ) : Type 0 where
    Fault : status ≡ NOT_READ → SomeStop stops.ReadFault ends → StatusSays ends status
    Limit : status ≡ CUT → list_any (λ end. is_read_fault end.stop) ends ≡ false → SomeStop stops.Cut ends → StatusSays ends status
    Whole : status ≡ DONE → list_any (λ end. is_read_fault end.stop) ends ≡ false → list_any (λ end. is_cut end.stop) ends ≡ false → StatusSays ends status

  pub status_says : (ends : List (FeedEnd S)) (status : ℕ) → status ≡ status_of ends → StatusSays ends status
  status_says ends status e = by_fault (list_any (λ end. is_read_fault end.stop) ends) refl (list_any (λ end. is_cut end.stop) ends) refl
    where
      by_fault : (f : Bool) → list_any (λ end. is_read_fault end.stop) ends ≡ f → (c : Bool) → list_any (λ end. is_cut end.stop) ends ≡ c → StatusSays ends status
      by_fault true h c g = Fault (e ∙ ap (λ t. cond t NOT_READ (cond (list_any (λ (end : FeedEnd S). is_cut end.stop) ends) CUT DONE)) h) (any_fault ends h)
      by_fault false h true g = Limit (e ∙ ap (λ t. cond t NOT_READ (cond (list_any (λ (end : FeedEnd S). is_cut end.stop) ends) CUT DONE)) h ∙ ap (λ t. cond t CUT DONE) g) h (any_cut ends g)
      by_fault false h false g = Whole (e ∙ ap (λ t. cond t NOT_READ (cond (list_any (λ (end : FeedEnd S). is_cut end.stop) ends) CUT DONE)) h ∙ ap (λ t. cond t CUT DONE) g) h g

  none_passes : (p : FeedEnd S → Bool) (ends : List (FeedEnd S)) → list_any p ends ≡ false → (k : ℕ) (d : FeedEnd S) → k < length ends → p (get_or ends k d) ≡ false
  none_passes p ends h k d lt = by_test (p (get_or ends k d)) refl
    where
      by_test : (t : Bool) → p (get_or ends k d) ≡ t → p (get_or ends k d) ≡ false
      by_test true e = absurd (false≢true (sym h ∙ list_any_at p ends k d lt e))
      by_test false e = e

  pub all_ended : (ends : List (FeedEnd S)) → AreRead ends → list_any (λ end. is_read_fault end.stop) ends ≡ false → list_any (λ end. is_cut end.stop) ends ≡ false → All (λ end. end.stop ≡ stops.End) ends
  all_ended ends read f c = λ k d lt. end_stop (get_or ends k d).stop (read k d lt) (none_passes (λ (end : FeedEnd S). is_read_fault end.stop) ends f k d lt) (none_passes (λ (end : FeedEnd S). is_cut end.stop) ends c k d lt)

  pub none_stops : (ends : List (FeedEnd S)) → list_any (λ end. is_read_fault end.stop) ends ≡ false → NoneStops stops.ReadFault ends
  none_stops ends f = λ k d lt e. false≢true (sym (none_passes (λ (end : FeedEnd S). is_read_fault end.stop) ends f k d lt) ∙ stop_of_fault (get_or ends k d).stop e)

  module _ (left : S → Option (List ℕ)) (faults : S → ℕ) where
    stop_fault : (end : FeedEnd S) (told : Option (List ℕ)) (number : ℕ) (text : List ℕ) (lines : List Step) → IsReadSo left faults told number end text lines → end.stop ≡ stops.ReadFault → 0 < faults end.source
    stop_fault end told number text lines so e = (subst (λ (s : FeedStop). IsStopOf s (left end.source) (faults end.source) text lines) e so.is_end.stop).1

    fault_at : (told : ℕ → Option (List ℕ)) (number : ℕ) (ends : List (FeedEnd S)) (reads : List FeedRead) → AreReadSo left faults told number ends reads → (k : ℕ) (d : FeedEnd S) → k < length ends →
        (get_or ends k d).stop ≡ stops.ReadFault → 0 < faults (get_or ends k d).source
    fault_at told number [] reads so k d lt e = absurd (omega (arith, lt))
    fault_at told number (end ∷ ends) [] so k d lt e = absurd so
    fault_at told number (end ∷ ends) (read ∷ reads) so zero d lt e = stop_fault end (told number) number read.text read.lines so.0 e
    fault_at told number (end ∷ ends) (read ∷ reads) so (suc k) d lt e = fault_at told (number + 1) ends reads so.1 k d (omega arith) e

    -- a failed read was counted
    pub counted_fault : (told : ℕ → Option (List ℕ)) (ends : List (FeedEnd S)) (reads : List FeedRead) → AreReadSo left faults told 0 ends reads → SomeStop stops.ReadFault ends → HasFailedRead faults ends
    counted_fault told ends reads so a =
        (a.0, a.1, a.2, a.3, (a.4, subst (λ (end : FeedEnd S). 0 < faults end.source) a.3 (fault_at told 0 ends reads so a.0 a.1 a.2 (ap (λ (end : FeedEnd S). end.stop) a.3 ∙ a.4))))

    pub last_fault : (told : Option (List ℕ)) (number : ℕ) (ends front : List (FeedEnd S)) (last : FeedEnd S) (text : List ℕ) (lines : List Step) → ends ≡ front ++ last ∷ [] →
        IsReadSo left faults told number last text lines → last.stop ≡ stops.ReadFault → HasFailedRead faults ends
    last_fault told number ends front last text lines are so e =
        let at = last_at ends front last are in (length front, last, at.0, at.1, (e, stop_fault last told number text lines so e))

    header_of_begun : (told : Option (List ℕ)) (number : ℕ) (end : FeedEnd S) (read : FeedRead) → IsBegun left faults told number end read → IsSome end.header
    header_of_begun told number end read b = subst (λ (o : Option Header). IsSome o) (sym (b.so_far.is_end.header ∙ ap (λ (l : List Step). header_in l) b.first)) (search rules)

    -- feeds that were begun have headers
    pub begun_headers : (told : ℕ → Option (List ℕ)) (number : ℕ) (ends : List (FeedEnd S)) (reads : List FeedRead) → AreBegun left faults told number ends reads → All (λ end. IsSome end.header) ends
    begun_headers told number [] reads so = λ k d lt. absurd (omega (arith, lt))
    begun_headers told number (end ∷ ends) [] so = absurd so
    begun_headers told number (end ∷ ends) (read ∷ reads) so = all_cons (λ (end : FeedEnd S). IsSome end.header) end ends (header_of_begun (told number) number end read so.0) (begun_headers told (number + 1) ends reads so.1)

    -- no read of feeds that were begun has failed
    pub begun_not_failed : (told : ℕ → Option (List ℕ)) (number : ℕ) (ends : List (FeedEnd S)) (reads : List FeedRead) → AreBegun left faults told number ends reads → NoneStops stops.ReadFault ends
    begun_not_failed told number [] reads so = λ k d lt. absurd (omega (arith, lt))
    begun_not_failed told number (end ∷ ends) [] so = absurd so
    begun_not_failed told number (end ∷ ends) (read ∷ reads) so = all_cons (λ (end : FeedEnd S). end.stop ≢ stops.ReadFault) end ends so.0.not_failed (begun_not_failed told (number + 1) ends reads so.1)
