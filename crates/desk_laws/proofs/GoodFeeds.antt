-- A run over good feeds.
use Rattle.std.proofs.Common.{◌≡◌, ℕ, zero, suc, ◌+◌, ◌<◌, ◌⊎◌, List, [], ◌∷◌, ◌++◌, length, get_or, slice_get, take, Option, Some, All, refl, sym, ap, ◌∙◌, subst, arith, inl, inr}
use Rattle.std.specs.Prelude.{option_map}
use Rattle.std.proofs.lemmas.Option.{option_and_then_some, slice_get_within}
use Rattle.outside_definitions.specs.Opener.{Told, times}
use Rattle.board_definitions.specs.declared.event.FeedStop.{FeedStop}
use Rattle.board_definitions.specs.declared.event.FeedStop.TheVariants as stops
use Rattle.feed_definitions.specs.declared.header.Header.{Header}
use Rattle.feed_definitions.specs.declared.step.Step.{Step}
use Rattle.desk_definitions.specs.declared.feed_end.FeedEnd.{FeedEnd}
use Rattle.desk_definitions.specs.declared.status.TheConstants.{DONE, WANT_OF_MEMORY}
use Rattle.desk_definitions.specs.Seen.{OpenerSeen, SinkSeen, Due}
use Rattle.desk_definitions.specs.Opening.{told_bytes, LacksSource}
use Rattle.desk_definitions.specs.Ends.{header_in, IsStopOf, IsReadSo}
use Rattle.desk_definitions.specs.Reads.{FeedRead, AreReadSo, IsBegun, AreBegun, book_of}
use Rattle.desk_definitions.specs.Course.{Outcome, IsDueForHeader, IsCourse, HasNoHeader, HaveOneBook}
use Rattle.desk_definitions.specs.Causes.{HasNoFault, HasFailedRead, SomeStop, IsGoodText, HaveTexts, AreGoodFeeds}
use Rattle.desk_laws.proofs.Ends.{StatusSays, Fault, Limit, Whole, status_says, counted_fault, last_fault}
use Rattle.desk_laws.proofs.Texts.{not_cut, not_malformed, own_header, IsFront, front_of, clear_of}

-- the text that is told of a feed
told_at : (told : ℕ → Option (List ℕ)) (number : ℕ) (texts : List (List ℕ)) (k : ℕ) → k < length texts → HaveTexts told number texts → told (number + k) ≡ Some (get_or texts k [])
told_at told number [] k lt h = absurd (omega (arith, lt))
told_at told number (text ∷ texts) zero lt h = ap told {x = number + 0} {y = number} (omega arith) ∙ h.0
told_at told number (text ∷ texts) (suc k) lt h = ap told {x = number + suc k} {y = number + 1 + k} (omega arith) ∙ told_at told (number + 1) texts k (omega arith) h.1

told_of : (told : ℕ → Option (List ℕ)) (texts : List (List ℕ)) (k : ℕ) → k < length texts → HaveTexts told 0 texts → told k ≡ Some (get_or texts k [])
told_of told texts k lt h = ap told {x = k} {y = 0 + k} (omega arith) ∙ told_at told 0 texts k lt h

-- a source of which something is told is there
has_source : (told : Told) (names : List (List ℕ)) (k : ℕ) (text : List ℕ) → told_bytes told names k ≡ Some text → LacksSource told names k → ⊥
has_source told names k text e lacks =
    option_and_then_some (λ sources. slice_get sources (times (get_or names k []) (take k names))) (told (get_or names k [])) text e (λ sources is found.
    let same : sources ≡ lacks.sources = some_same sources lacks.sources (sym is ∙ lacks.are_told) in
    omega (arith, slice_get_within sources (times (get_or names k []) (take k names)) text found, lacks.too_few, ap (λ (l : List (List ℕ)). length l) same))
  where
    some_same : (a b : List (List ℕ)) → Some a ≡ Some b → a ≡ b
    some_same a b h = cc

module _ {S : Type 0} (left : S → Option (List ℕ)) (faults : S → ℕ) where
  no_failed_read : (ends : List (FeedEnd S)) → All (λ end. faults end.source ≡ 0) ends → HasFailedRead faults ends → ⊥
  no_failed_read ends none a = omega (arith, a.4.1, subst (λ (end : FeedEnd S). faults end.source ≡ 0) a.3 (none a.0 a.1 a.2))

  read_at : (told : ℕ → Option (List ℕ)) (number : ℕ) (ends : List (FeedEnd S)) (reads : List FeedRead) → AreReadSo left faults told number ends reads → (k : ℕ) (d : FeedEnd S) → k < length ends →
      (read : FeedRead) × IsReadSo left faults (told (number + k)) (number + k) (get_or ends k d) read.text read.lines
  read_at told number [] reads so k d lt = absurd (omega (arith, lt))
  read_at told number (end ∷ ends) [] so k d lt = absurd so
  read_at told number (end ∷ ends) (read ∷ reads) so zero d lt = (read, subst (λ n. IsReadSo left faults (told n) n end read.text read.lines) {x = number} {y = number + 0} (omega arith) so.0)
  read_at told number (end ∷ ends) (read ∷ reads) so (suc k) d lt =
      let r = read_at told (number + 1) ends reads so.1 k d (omega arith) in
      (r.0, subst (λ n. IsReadSo left faults (told n) n (get_or ends k d) r.0.text r.0.lines) {x = number + 1 + k} {y = number + suc k} (omega arith) r.1)

  begun_at : (told : ℕ → Option (List ℕ)) (number : ℕ) (ends : List (FeedEnd S)) (reads : List FeedRead) → AreBegun left faults told number ends reads → (k : ℕ) (end : FeedEnd S) → slice_get ends k ≡ Some end →
      (read : FeedRead) × IsBegun left faults (told (number + k)) (number + k) end read
  begun_at told number [] reads so k end e = absurd (cc)
  begun_at told number (first ∷ ends) [] so k end e = absurd so
  begun_at told number (first ∷ ends) (read ∷ reads) so zero end e =
      (read, subst (λ n. IsBegun left faults (told n) n end read) {x = number} {y = number + 0} (omega arith) (subst (λ x. IsBegun left faults (told number) number x read) (some_same first end e) so.0))
    where
      some_same : (a b : FeedEnd S) → Some a ≡ Some b → a ≡ b
      some_same a b h = cc
  begun_at told number (first ∷ ends) (read ∷ reads) so (suc k) end e =
      let r = begun_at told (number + 1) ends reads so.1 k end e in
      (r.0, subst (λ n. IsBegun left faults (told n) n end r.0) {x = number + 1 + k} {y = number + suc k} (omega arith) r.1)

  -- a feed that was begun has its own header
  begun_header : (told : Option (List ℕ)) (number : ℕ) (end : FeedEnd S) (read : FeedRead) (full : List ℕ) → told ≡ Some full → IsBegun left faults told number end read → (good : IsGoodText full) → end.header ≡ Some good.header
  begun_header told number end read full e b good =
      b.so_far.is_end.header ∙ ap (λ (l : List Step). header_in l) b.first ∙ ap Some (sym own)
    where
      front : IsFront full read.text (left end.source)
      front = front_of told full read.text (left end.source) e b.so_far.given

      own : good.header ≡ b.header
      own =
          let stop = b.so_far.is_end.stop in
          own_header full read.text front.more stop.0 b.header stop.1 front.is (stop.2 ∙ ap (λ (l : List Step). l ++ stop.1) b.first) (clear_of (left end.source) read.text front.more front.ends b.clear) good

  module _ (told : ℕ → Option (List ℕ)) (names : ℕ) (good : AreGoodFeeds told names) where
    text_of : (k : ℕ) → k < names → told k ≡ Some (get_or good.texts k [])
    text_of k lt = told_of told good.texts k (omega (arith, lt, good.each)) good.are_told

    good_at : (k : ℕ) → k < names → IsGoodText (get_or good.texts k [])
    good_at k lt = good.good k [] (omega (arith, lt, good.each))

    no_cut_feed : (ends : List (FeedEnd S)) (reads : List FeedRead) → AreReadSo left faults told 0 ends reads → length ends ≡ names → SomeStop stops.Cut ends → ⊥
    no_cut_feed ends reads so all a =
        let r = read_at told 0 ends reads so a.0 a.1 a.2 in
        let lt : a.0 < names = omega (arith, a.2, all) in
        let e : told (0 + a.0) ≡ Some (get_or good.texts a.0 []) = ap told {x = 0 + a.0} {y = a.0} (omega arith) ∙ text_of a.0 lt in
        let end = get_or ends a.0 a.1 in
        let front = front_of (told (0 + a.0)) (get_or good.texts a.0 []) r.0.text (left end.source) e r.1.given in
        let stop = subst (λ (s : FeedStop). IsStopOf s (left end.source) (faults end.source) r.0.text r.0.lines) (ap (λ (x : FeedEnd S). x.stop) a.3 ∙ a.4) r.1.is_end.stop in
        not_cut (get_or good.texts a.0 []) r.0.text front.more r.0.lines front.is stop (good_at a.0 lt)

    no_bad_header : (out : Outcome S) (due : Due) (h : HasNoHeader left faults told names out due) → All (λ end. faults end.source ≡ 0) out.ends → (s : FeedStop) → h.last.stop ≡ s → IsDueForHeader s (length h.front) h.read due → ⊥
    no_bad_header out due h none stops.End e d = d
    no_bad_header out due h none stops.Cut e d = d
    no_bad_header out due h none stops.NoMemory e d = d
    no_bad_header out due h none stops.ReadFault e d =
        no_failed_read out.ends none (last_fault left faults (told (length h.front)) (length h.front) out.ends h.front h.last h.read.text h.read.lines h.begun_are h.last_read e)
    no_bad_header out due h none stops.BadHeader e d =
        let front = front_of (told (length h.front)) (get_or good.texts (length h.front) []) h.read.text (left h.last.source) (text_of (length h.front) h.is_named) h.last_read.given in
        let stop = subst (λ (s : FeedStop). IsStopOf s (left h.last.source) (faults h.last.source) h.read.text h.read.lines) e h.last_read.is_end.stop in
        not_malformed (get_or good.texts (length h.front) []) h.read.text front.more stop.0 front.is (stop.2 ∙ stop.1) (clear_of (left h.last.source) h.read.text front.more front.ends stop.3) (good_at (length h.front) h.is_named)

    no_twins_of : (out : Outcome S) (due : Due) (h : HaveOneBook left faults told names out due) → ⊥
    no_twins_of out due h =
        option_and_then_some book_of (slice_get out.ends h.earlier) h.twins.book h.twins.one (λ x is_x book_x.
        option_and_then_some book_of (slice_get out.ends h.later) h.twins.book h.twins.other (λ y is_y book_y. one_book x is_x book_x y is_y book_y))
      where
        some_same : (a b : List ℕ) → Some a ≡ Some b → a ≡ b
        some_same a b e = cc

        book_at : (k : ℕ) (x : FeedEnd S) → slice_get out.ends k ≡ Some x → book_of x ≡ Some h.twins.book → (lt : k < names) → (good_at k lt).header.book ≡ h.twins.book
        book_at k x is_x book_x lt =
            let b = begun_at told 0 out.ends h.reads h.begun k x is_x in
            let e : told (0 + k) ≡ Some (get_or good.texts k []) = ap told {x = 0 + k} {y = k} (omega arith) ∙ text_of k lt in
            some_same (good_at k lt).header.book h.twins.book (sym (ap (λ (o : Option Header). option_map (λ header. header.book) o) (begun_header (told (0 + k)) (0 + k) x b.0 (get_or good.texts k []) e b.1 (good_at k lt))) ∙ book_x)

        one_book : (x : FeedEnd S) → slice_get out.ends h.earlier ≡ Some x → book_of x ≡ Some h.twins.book → (y : FeedEnd S) → slice_get out.ends h.later ≡ Some y → book_of y ≡ Some h.twins.book → ⊥
        one_book x is_x book_x y is_y book_y =
            let low : h.earlier < names = omega (arith, slice_get_within out.ends h.earlier x is_x, h.all_named) in
            let high : h.later < names = omega (arith, slice_get_within out.ends h.later y is_y, h.all_named) in
            good.different h.earlier h.later [] h.twins.order (omega (arith, high, good.each)) (good_at h.earlier low) (good_at h.later high) (book_at h.earlier x is_x book_x low ∙ sym (book_at h.later y is_y book_y high))

pub complete : {S : Type 0} (left : S → Option (List ℕ)) (faults : S → ℕ) (names : List (List ℕ)) (budget : ℕ) (opener : OpenerSeen) (out : Outcome S) (status : ℕ) (sink : SinkSeen) →
    IsCourse left faults names budget opener out status sink → AreGoodFeeds (told_bytes opener.told names) (length names) → HasNoFault faults opener out.ends sink → (status ≡ DONE) ⊎ (status ≡ WANT_OF_MEMORY)
complete left faults names budget opener out status sink (inr (seven, nothing, off)) good none = inr seven
complete left faults names budget opener out status sink (inl (due, is, inr broken)) good none = absurd (none.written broken.fault)
complete left faults names budget opener out status sink (inl (due, inl unopened, inl written)) good none = absurd (elim none.opened [
  | inl still ↦ still unopened.fails.fault
  | inr promise ↦ has_source opener.told names unopened.feed (get_or good.texts unopened.feed []) (text_of left faults (told_bytes opener.told names) (length names) good unopened.feed unopened.fails.is_named) (unopened.fails.lacks promise)
])
complete left faults names budget opener out status sink (inl (due, inr (opens, inl h), inl written)) good none =
    absurd (no_bad_header left faults (told_bytes opener.told names) (length names) good out due h none.read h.last.stop refl h.due_is)
complete left faults names budget opener out status sink (inl (due, inr (opens, inr (inl h)), inl written)) good none =
    absurd (no_twins_of left faults (told_bytes opener.told names) (length names) good out due h)
complete left faults names budget opener out status sink (inl (due, inr (opens, inr (inr h)), inl written)) good none = by_says (status_says out.ends due.status h.status_is)
  where
    by_says : StatusSays out.ends due.status → (status ≡ DONE) ⊎ (status ≡ WANT_OF_MEMORY)
    by_says (Fault e a) = absurd (no_failed_read left faults out.ends none.read (counted_fault left faults (told_bytes opener.told names) out.ends h.reads h.bodies.read a))
    by_says (Limit e f a) = absurd (no_cut_feed left faults (told_bytes opener.told names) (length names) good out.ends h.reads h.bodies.read h.bodies.all_named a)
    by_says (Whole e f c) = inl (written.status_is ∙ e)
