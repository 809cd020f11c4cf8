-- The history of a run whose report is due.
use Rattle.std.proofs.Common.{◌≡◌, ◌≢◌, ℕ, zero, suc, ◌+◌, ◌<◌, ◌≤◌, ◌⊎◌, Bool, true, false, cond, eqb, List, [], ◌∷◌, ◌++◌, length, get_or, slice_get, drop, filter, Option, Some, IsSomeAnd, IsTrue, refl, sym, ap, ◌∙◌, subst, arith, inl, inr, ⊎_elim, append-nil}
use Rattle.std.specs.List.{list_any}
use Rattle.std.proofs.lemmas.Bool.{false≢true, eq-eqb, eqb-true}
use Rattle.std.proofs.lemmas.List.{take-append-le}
use Rattle.std.proofs.lemmas.List.Elements.{filter-append}
use Rattle.std.proofs.lemmas.List.Folds.{Any-from_list_any}
use Rattle.std.proofs.lemmas.Option.{slice_get_within}
use Rattle.std.proofs.lemmas.Slice.Eq.{bytes_eq-Decides}
use Rattle.scan_types.specs.declared.rule.VoidRule.{VoidRule}
use Rattle.finding_definitions.specs.declared.finding.Finding.{Finding}
use Rattle.finding_definitions.specs.Findings.{IsRight}
use Rattle.feed_definitions.specs.declared.accepted.Accepted.{Accepted}
use Rattle.feed_definitions.specs.declared.accepted.Change.{Change}
use Rattle.feed_definitions.specs.declared.accepted.Change.TheVariants as change
use Rattle.feed_definitions.specs.Feed.{accepted_in}
use Rattle.judging_definitions.specs.ExactFinding.{IsFindingOf}
use Rattle.judging_laws.specs.Laws.{FindingIsRight}
use Rattle.board_definitions.specs.declared.key.Key.{Key}
use Rattle.board_definitions.specs.declared.event.Entry.{Entry}
use Rattle.board_definitions.specs.declared.event.Event.{Event}
use Rattle.board_definitions.specs.declared.event.Event.TheVariants.{Quoted, Withdrawn, Ended, Pinned, Filed, Released}
use Rattle.board_definitions.specs.declared.event.FeedStop.{FeedStop}
use Rattle.board_definitions.specs.Entries.{changes, pins}
use Rattle.board_definitions.specs.Sheets.{sheet, standing_sheet}
use Rattle.desk_definitions.specs.declared.feed_end.FeedEnd.{FeedEnd}
use Rattle.desk_definitions.specs.Lines.{event_of, key_of, entry_of, entries_of, ended_entry, body_of}
use Rattle.desk_definitions.specs.Reads.{FeedRead}
use Rattle.desk_definitions.specs.History.{bodies_of, findings_with}
use Rattle.desk_definitions.specs.Judged.{pinned_entry, filed_entry, JudgesLongestDue, JudgesSoMany}
use Rattle.desk_definitions.specs.Course.{Outcome, HasReport, IsCourse}
use Rattle.desk_definitions.specs.declared.status.TheConstants.{WANT_OF_MEMORY}
use Rattle.desk_definitions.specs.Opening.{told_bytes}
use Rattle.desk_definitions.specs.Causes.{HaveRun}
use Rattle.desk_definitions.specs.Seen.{OpenerSeen, SinkSeen, Due}
use Rattle.desk_laws.proofs.Ends.{has_header, no_twins}
use Rattle.desk_laws.specs.Histories.{is_by, IsFiledRight, IsFiledAfter, HasWholeHistory}

-- a match with what was found of its sheet, and the entries of that
record Judged : Type 0 where
  match_name : List ℕ
  finding : Finding

abbrev judged_entries : ℕ → ℕ → Judged → List Entry
judged_entries caller version judged = pinned_entry caller judged.match_name ∷ filed_entry caller version judged.finding ∷ []

-- what holds of each entry
abbrev Each : (Entry → Type 0) → List Entry → Type 0
Each P xs = (p : ℕ) (e : Entry) → slice_get xs p ≡ Some e → P e

some_same : (a b : Entry) → Some a ≡ Some b → a ≡ b
some_same a b h = cc

each_cons : (P : Entry → Type 0) (x : Entry) (xs : List Entry) → P x → Each P xs → Each P (x ∷ xs)
each_cons P x xs px h zero e is = subst P (some_same x e is) px
each_cons P x xs px h (suc p) e is = h p e is

each_append : (P : Entry → Type 0) (xs ys : List Entry) → Each P xs → Each P ys → Each P (xs ++ ys)
each_append P [] ys h g = g
each_append P (x ∷ xs) ys h g = each_cons P x (xs ++ ys) (h 0 x refl) (each_append P xs ys (λ p e is. h (suc p) e is) g)

-- an entry that is added
get_front : (xs ys : List Entry) (p : ℕ) (e : Entry) → slice_get xs p ≡ Some e → slice_get (xs ++ ys) p ≡ Some e
get_front [] ys p e h = absurd (cc)
get_front (x ∷ xs) ys zero e h = h
get_front (x ∷ xs) ys (suc p) e h = get_front xs ys p e h

get_back : (xs ys : List Entry) (p : ℕ) → slice_get (xs ++ ys) (length xs + p) ≡ slice_get ys p
get_back [] ys p = ap (slice_get ys) (omega arith)
get_back (x ∷ xs) ys p = ap (slice_get (x ∷ (xs ++ ys))) {x = suc (length xs) + p} {y = suc (length xs + p)} (omega arith) ∙ get_back xs ys p

where_is : (xs ys : List Entry) (p : ℕ) (e : Entry) → slice_get (xs ++ ys) p ≡ Some e → (slice_get xs p ≡ Some e) ⊎ ((q : ℕ) × (p ≡ length xs + q) × (slice_get ys q ≡ Some e))
where_is [] ys p e h = inr (p, omega arith, h)
where_is (x ∷ xs) ys zero e h = inl h
where_is (x ∷ xs) ys (suc p) e h =
    ⊎_elim (λ (f : slice_get xs p ≡ Some e). inl f) (λ (g : (q : ℕ) × (p ≡ length xs + q) × (slice_get ys q ≡ Some e)). inr (g.0, omega (arith, g.1), g.2)) (where_is xs ys p e h)

-- the entries of a feed are neither pins nor findings
abbrev is_of_feed : Event → Bool
is_of_feed (Quoted key odds limit line) = true
is_of_feed (Withdrawn key line) = true
is_of_feed (Ended feed stop) = true
is_of_feed (Pinned match_name) = false
is_of_feed (Filed version finding) = false
is_of_feed (Released version) = false

record IsOfFeed (feed : ℕ) (e : Entry) : Type 0 where
  by : e.caller ≡ feed + 1
  kind : is_of_feed e.event ≡ true

change_of_feed : (key : Key) (line : ℕ) (c : Change) → is_of_feed (event_of key line c) ≡ true
change_of_feed key line (change.Quote odds limit) = refl
change_of_feed key line change.Withdraw = refl

none_each : (P : Entry → Type 0) → Each P []
none_each P p e h = absurd (cc)

entries_each : (feed : ℕ) (lines : List Accepted) → Each (IsOfFeed feed) (entries_of feed lines)
entries_each feed [] = none_each (IsOfFeed feed)
entries_each feed (line ∷ lines) = each_cons (IsOfFeed feed) (entry_of feed line) (entries_of feed lines) (record { by = refl; kind = change_of_feed (key_of feed line) line.line line.change }) (entries_each feed lines)

body_each : (feed : ℕ) (lines : List Accepted) (stop : FeedStop) → Each (IsOfFeed feed) (body_of feed lines stop)
body_each feed lines stop =
    each_append (IsOfFeed feed) (entries_of feed lines) (ended_entry feed stop ∷ []) (entries_each feed lines)
    (each_cons (IsOfFeed feed) (ended_entry feed stop) [] (record { by = refl; kind = refl }) (none_each (IsOfFeed feed)))

-- the entries of one caller
all_by : (caller : ℕ) (xs : List Entry) → Each (λ e. e.caller ≡ caller) xs → filter (is_by caller) xs ≡ xs
all_by caller [] h = refl
all_by caller (x ∷ xs) h =
    ap (λ t. cond t (x ∷ filter (is_by caller) xs) (filter (is_by caller) xs)) (eq-eqb x.caller caller (h 0 x refl))
    ∙ ap (λ l. x ∷ l) (all_by caller xs (λ p e is. h (suc p) e is))

apart : (a b : ℕ) → a ≢ b → eqb a b ≡ false
apart a b h = by_test (eqb a b) refl
  where
    by_test : (t : Bool) → eqb a b ≡ t → eqb a b ≡ false
    by_test true e = absurd (h (eqb-true a b e))
    by_test false e = e

none_by : (caller : ℕ) (xs : List Entry) → Each (λ e. e.caller ≢ caller) xs → filter (is_by caller) xs ≡ []
none_by caller [] h = refl
none_by caller (x ∷ xs) h =
    ap (λ t. cond t (x ∷ filter (is_by caller) xs) (filter (is_by caller) xs)) (apart x.caller caller (h 0 x refl))
    ∙ none_by caller xs (λ p e is. h (suc p) e is)

module _ {S : Type 0} where
  bodies_each : (number : ℕ) (ends : List (FeedEnd S)) (reads : List FeedRead) → Each (λ e. (number < e.caller) × (is_of_feed e.event ≡ true)) (bodies_of number ends reads)
  bodies_each number [] reads = none_each (λ e. (number < e.caller) × (is_of_feed e.event ≡ true))
  bodies_each number (end ∷ ends) [] = none_each (λ e. (number < e.caller) × (is_of_feed e.event ≡ true))
  bodies_each number (end ∷ ends) (read ∷ reads) =
      each_append (λ e. (number < e.caller) × (is_of_feed e.event ≡ true)) (body_of number (accepted_in read.lines) end.stop) (bodies_of (number + 1) ends reads)
      (λ p e is. let b = body_each number (accepted_in read.lines) end.stop p e is in (omega (arith, b.by), b.kind))
      (λ p e is. let b = bodies_each (number + 1) ends reads p e is in (omega (arith, b.0), b.1))

  bodies_by : (number k : ℕ) (ends : List (FeedEnd S)) (reads : List FeedRead) (end : FeedEnd S) (read : FeedRead) → slice_get ends k ≡ Some end → slice_get reads k ≡ Some read →
      filter (is_by (number + k + 1)) (bodies_of number ends reads) ≡ body_of (number + k) (accepted_in read.lines) end.stop
  bodies_by number k [] reads end read e f = absurd (cc)
  bodies_by number k (first ∷ ends) [] end read e f = absurd (cc)
  bodies_by number zero (first ∷ ends) (one ∷ reads) end read e f =
      filter-append (is_by (number + 0 + 1)) (body_of number (accepted_in one.lines) first.stop) (bodies_of (number + 1) ends reads)
      ∙ ap (λ l. l ++ filter (is_by (number + 0 + 1)) (bodies_of (number + 1) ends reads)) (all_by (number + 0 + 1) (body_of number (accepted_in one.lines) first.stop) (λ p x is. omega (arith, (body_each number (accepted_in one.lines) first.stop p x is).by)))
      ∙ ap (λ l. body_of number (accepted_in one.lines) first.stop ++ l) (none_by (number + 0 + 1) (bodies_of (number + 1) ends reads) (λ p x is g. omega (arith, g, (bodies_each (number + 1) ends reads p x is).0)))
      ∙ append-nil (body_of number (accepted_in one.lines) first.stop)
      ∙ ap (λ n. body_of n (accepted_in one.lines) first.stop) {x = number} {y = number + 0} (omega arith)
      ∙ ap (λ (x : FeedEnd S). body_of (number + 0) (accepted_in one.lines) x.stop) (end_same first end e)
      ∙ ap (λ (r : FeedRead). body_of (number + 0) (accepted_in r.lines) end.stop) (read_same one read f)
    where
      end_same : (a b : FeedEnd S) → Some a ≡ Some b → a ≡ b
      end_same a b h = cc

      read_same : (a b : FeedRead) → Some a ≡ Some b → a ≡ b
      read_same a b h = cc
  bodies_by number (suc k) (first ∷ ends) (one ∷ reads) end read e f =
      filter-append (is_by (number + suc k + 1)) (body_of number (accepted_in one.lines) first.stop) (bodies_of (number + 1) ends reads)
      ∙ ap (λ l. l ++ filter (is_by (number + suc k + 1)) (bodies_of (number + 1) ends reads)) (none_by (number + suc k + 1) (body_of number (accepted_in one.lines) first.stop) (λ p x is g. omega (arith, g, (body_each number (accepted_in one.lines) first.stop p x is).by)))
      ∙ ap (λ n. filter (is_by (n + 1)) (bodies_of (number + 1) ends reads)) {x = number + suc k} {y = number + 1 + k} (omega arith)
      ∙ bodies_by (number + 1) k ends reads end read e f
      ∙ ap (λ n. body_of n (accepted_in read.lines) end.stop) {x = number + 1 + k} {y = number + suc k} (omega arith)

module _ (right : FindingIsRight) (budget : ℕ) (rules : List (Option VoidRule)) (caller : ℕ) where
  -- what holds of a history so far
  pub record IsSound (history : List Entry) : Type 0 where
    pub filed : (place by version : ℕ) (finding : Finding) → slice_get history place ≡ Some (record { caller = by; event = Filed version finding }) → IsFiledRight budget rules history by version finding
    pub pinned : (version by : ℕ) (match_name : List ℕ) → slice_get history version ≡ Some (record { caller = by; event = Pinned match_name }) →
        (finding : Finding) × (slice_get history (version + 1) ≡ Some (record { caller = by; event = Filed version finding }))

  event_same : (a b : Entry) → a ≡ b → a.event ≡ b.event
  event_same a b e = ap (λ (x : Entry). x.event) e

  -- more entries leave what was filed
  same_sheet : (history more : List Entry) (version : ℕ) (match_name : List ℕ) → version ≤ length history → sheet rules history version match_name ≡ sheet rules (history ++ more) version match_name
  same_sheet history more version match_name h = ap (λ l. standing_sheet rules l match_name) (sym (take-append-le version history more h))

  filed_more : (history more : List Entry) (by version : ℕ) (finding : Finding) → IsFiledRight budget rules history by version finding → IsFiledRight budget rules (history ++ more) by version finding
  filed_more history more by version finding f =
      let low : version ≤ length history = omega (arith, slice_get_within history version (record { caller = by; event = Pinned f.match_name }) f.pinned) in
      let same = same_sheet history more version f.match_name low in
      record {
        match_name = f.match_name;
        pinned = get_front history more version (record { caller = by; event = Pinned f.match_name }) f.pinned;
        exact = subst (λ s. IsFindingOf s budget finding) same f.exact;
        right = subst (λ s. IsRight s finding) same f.right;
      }

  not_pinned : (m : List ℕ) (v : ℕ) (f : Finding) → Pinned m ≡ Filed v f → ⊥
  not_pinned m v f e = absurd (cc)

  filed_version : (a b : ℕ) (f g : Finding) → Filed a f ≡ Filed b g → (a ≡ b) × (f ≡ g)
  filed_version a b f g e = (cc, cc)

  pinned_name : (a b : List ℕ) → Pinned a ≡ Pinned b → a ≡ b
  pinned_name a b e = cc

  sound_more : (history : List Entry) (judged : Judged) → IsFindingOf (sheet rules history (length history) judged.match_name) budget judged.finding → IsSound history → IsSound (history ++ judged_entries caller (length history) judged)
  sound_more history judged exact sound = record { filed = filed; pinned = pinned }
    where
      first : slice_get (history ++ judged_entries caller (length history) judged) (length history) ≡ Some (record { caller = caller; event = Pinned judged.match_name })
      first = ap (slice_get (history ++ judged_entries caller (length history) judged)) {x = length history} {y = length history + 0} (omega arith) ∙ get_back history (judged_entries caller (length history) judged) 0

      second : slice_get (history ++ judged_entries caller (length history) judged) (length history + 1) ≡ Some (record { caller = caller; event = Filed (length history) judged.finding })
      second = get_back history (judged_entries caller (length history) judged) 1

      here : IsFiledRight budget rules (history ++ judged_entries caller (length history) judged) caller (length history) judged.finding
      here =
          let same = same_sheet history (judged_entries caller (length history) judged) (length history) judged.match_name (omega arith) in
          record {
            match_name = judged.match_name;
            pinned = first;
            exact = subst (λ s. IsFindingOf s budget judged.finding) same exact;
            right = right (sheet rules (history ++ judged_entries caller (length history) judged) (length history) judged.match_name) budget judged.finding (subst (λ s. IsFindingOf s budget judged.finding) same exact);
          }

      filed_at : (q by version : ℕ) (finding : Finding) → slice_get (judged_entries caller (length history) judged) q ≡ Some (record { caller = by; event = Filed version finding }) →
          IsFiledRight budget rules (history ++ judged_entries caller (length history) judged) by version finding
      filed_at zero by version finding e = absurd (not_pinned judged.match_name version finding (event_same (record { caller = caller; event = Pinned judged.match_name }) (record { caller = by; event = Filed version finding }) (some_same (record { caller = caller; event = Pinned judged.match_name }) (record { caller = by; event = Filed version finding }) e)))
      filed_at (suc zero) by version finding e =
          let is = some_same (record { caller = caller; event = Filed (length history) judged.finding }) (record { caller = by; event = Filed version finding }) e in
          let parts = filed_version (length history) version judged.finding finding (event_same (record { caller = caller; event = Filed (length history) judged.finding }) (record { caller = by; event = Filed version finding }) is) in
          subst (λ (c : ℕ). IsFiledRight budget rules (history ++ judged_entries caller (length history) judged) c version finding) (ap (λ (x : Entry). x.caller) is)
          (subst (λ (v : ℕ). IsFiledRight budget rules (history ++ judged_entries caller (length history) judged) caller v finding) parts.0
          (subst (λ (f : Finding). IsFiledRight budget rules (history ++ judged_entries caller (length history) judged) caller (length history) f) parts.1 here))
      filed_at (suc (suc q)) by version finding e = absurd (cc)

      filed : (place by version : ℕ) (finding : Finding) → slice_get (history ++ judged_entries caller (length history) judged) place ≡ Some (record { caller = by; event = Filed version finding }) →
          IsFiledRight budget rules (history ++ judged_entries caller (length history) judged) by version finding
      filed place by version finding e =
          ⊎_elim (λ (f : slice_get history place ≡ Some (record { caller = by; event = Filed version finding })). filed_more history (judged_entries caller (length history) judged) by version finding (sound.filed place by version finding f))
          (λ (g : (q : ℕ) × (place ≡ length history + q) × (slice_get (judged_entries caller (length history) judged) q ≡ Some (record { caller = by; event = Filed version finding }))). filed_at g.0 by version finding g.2)
          (where_is history (judged_entries caller (length history) judged) place (record { caller = by; event = Filed version finding }) e)

      pinned_at : (q version by : ℕ) (match_name : List ℕ) → version ≡ length history + q → slice_get (judged_entries caller (length history) judged) q ≡ Some (record { caller = by; event = Pinned match_name }) →
          (finding : Finding) × (slice_get (history ++ judged_entries caller (length history) judged) (version + 1) ≡ Some (record { caller = by; event = Filed version finding }))
      pinned_at zero version by match_name at e =
          let v : length history ≡ version = omega (arith, at) in (
            judged.finding,
            subst (λ (n : ℕ). slice_get (history ++ judged_entries caller (length history) judged) (n + 1) ≡ Some (record { caller = by; event = Filed n judged.finding })) v
                (subst (λ (c : ℕ). slice_get (history ++ judged_entries caller (length history) judged) (length history + 1) ≡ Some (record { caller = c; event = Filed (length history) judged.finding }))
                (ap (λ (x : Entry). x.caller) (some_same (record { caller = caller; event = Pinned judged.match_name }) (record { caller = by; event = Pinned match_name }) e)) second),
          )
      pinned_at (suc zero) version by match_name at e = absurd (not_pinned match_name (length history) judged.finding (sym (event_same (record { caller = caller; event = Filed (length history) judged.finding }) (record { caller = by; event = Pinned match_name }) (some_same (record { caller = caller; event = Filed (length history) judged.finding }) (record { caller = by; event = Pinned match_name }) e))))
      pinned_at (suc (suc q)) version by match_name at e = absurd (cc)

      pinned : (version by : ℕ) (match_name : List ℕ) → slice_get (history ++ judged_entries caller (length history) judged) version ≡ Some (record { caller = by; event = Pinned match_name }) →
          (finding : Finding) × (slice_get (history ++ judged_entries caller (length history) judged) (version + 1) ≡ Some (record { caller = by; event = Filed version finding }))
      pinned version by match_name e =
          ⊎_elim (λ (f : slice_get history version ≡ Some (record { caller = by; event = Pinned match_name })). let g = sound.pinned version by match_name f in (g.0, get_front history (judged_entries caller (length history) judged) (version + 1) (record { caller = by; event = Filed version g.0 }) g.1))
          (λ (g : (q : ℕ) × (version ≡ length history + q) × (slice_get (judged_entries caller (length history) judged) q ≡ Some (record { caller = by; event = Pinned match_name }))). pinned_at g.0 version by match_name g.1 g.2)
          (where_is history (judged_entries caller (length history) judged) version (record { caller = by; event = Pinned match_name }) e)

  sound_step : (before after : List Entry) → JudgesLongestDue rules (findings_with budget) caller before after → IsSound before → IsSound after
  sound_step before after step sound =
      subst (λ l. IsSound l) (sym step.entries) (sound_more before (record { match_name = step.match_name; finding = step.finding }) step.allowed sound)

  sound_after : (n : ℕ) (before after : List Entry) → JudgesSoMany rules (findings_with budget) caller n before after → IsSound before → IsSound after
  sound_after zero before after h sound = subst (λ l. IsSound l) (sym h) sound
  sound_after (suc n) before after h sound = sound_step h.0 after h.2 (sound_after n before h.0 h.1 sound)

  -- bodies have no pin and no finding
  not_feed : (e : Event) (m : List ℕ) → is_of_feed e ≡ true → e ≡ Pinned m → ⊥
  not_feed e m h is = false≢true (sym (ap (λ x. is_of_feed x) is) ∙ h)

  not_feed_filed : (e : Event) (v : ℕ) (f : Finding) → is_of_feed e ≡ true → e ≡ Filed v f → ⊥
  not_feed_filed e v f h is = false≢true (sym (ap (λ x. is_of_feed x) is) ∙ h)

  pub sound_bodies : (xs : List Entry) → Each (λ e. is_of_feed e.event ≡ true) xs → IsSound xs
  sound_bodies xs h = record {
    filed = λ place by version finding e. absurd (not_feed_filed (Filed version finding) version finding (h place (record { caller = by; event = Filed version finding }) e) refl);
    pinned = λ version by match_name e. absurd (not_feed (Pinned match_name) match_name (h version (record { caller = by; event = Pinned match_name }) e) refl);
  }

  -- the judge's entries are of no feed
  judged_step : (feed : ℕ) (before after : List Entry) → caller ≢ feed → JudgesLongestDue rules (findings_with budget) caller before after → filter (is_by feed) after ≡ filter (is_by feed) before
  judged_step feed before after other step =
      ap (filter (is_by feed)) step.entries
      ∙ filter-append (is_by feed) before (pinned_entry caller step.match_name ∷ filed_entry caller (length before) step.finding ∷ [])
      ∙ ap (λ l. filter (is_by feed) before ++ l) (none_by feed (pinned_entry caller step.match_name ∷ filed_entry caller (length before) step.finding ∷ [])
      (each_cons (λ e. e.caller ≢ feed) (pinned_entry caller step.match_name) (filed_entry caller (length before) step.finding ∷ []) other
      (each_cons (λ e. e.caller ≢ feed) (filed_entry caller (length before) step.finding) [] other (none_each (λ e. e.caller ≢ feed)))))
      ∙ append-nil (filter (is_by feed) before)

  judged_by : (feed n : ℕ) (before after : List Entry) → caller ≢ feed → JudgesSoMany rules (findings_with budget) caller n before after → filter (is_by feed) after ≡ filter (is_by feed) before
  judged_by feed zero before after other h = ap (filter (is_by feed)) h
  judged_by feed (suc n) before after other h = judged_step feed h.0 after other h.2 ∙ judged_by feed n before h.0 other h.1

-- a pin behind a place
get_dropped : (xs : List Entry) (n k : ℕ) → slice_get (drop n xs) k ≡ slice_get xs (n + k)
get_dropped xs zero k = ap (slice_get xs) (omega arith)
get_dropped [] (suc n) k = refl
get_dropped (x ∷ xs) (suc n) k = get_dropped xs n k ∙ ap (slice_get (x ∷ xs)) {x = suc (n + k)} {y = suc n + k} (omega arith)

get_of : (xs : List Entry) (k : ℕ) (x : Entry) → k < length xs → get_or xs k x ≡ x → slice_get xs k ≡ Some x
get_of [] k x lt e = absurd (omega (arith, lt))
get_of (y ∷ xs) zero x lt e = ap Some e
get_of (y ∷ xs) (suc k) x lt e = get_of xs k x (omega arith) e

pin_is : (m : List ℕ) (e : Event) → pins m e ≡ true → e ≡ Pinned m
pin_is m (Quoted key odds limit line) h = absurd (false≢true h)
pin_is m (Withdrawn key line) h = absurd (false≢true h)
pin_is m (Ended feed stop) h = absurd (false≢true h)
pin_is m (Pinned name) h = ap Pinned ((bytes_eq-Decides name m).0 h)
pin_is m (Filed version finding) h = absurd (false≢true h)
pin_is m (Released version) h = absurd (false≢true h)

module _ {S : Type 0} (left : S → Option (List ℕ)) (faults : S → ℕ) (told : ℕ → Option (List ℕ)) (names budget : ℕ) (right : FindingIsRight) (out : Outcome S) (due : Due) (h : HasReport left faults told names budget out due) where
  sound : IsSound right budget h.rules (names + 1) out.history
  sound = sound_after right budget h.rules (names + 1) h.judged.judged.0 (bodies_of 0 out.ends h.reads) out.history h.judged.judged.1
      (sound_bodies right budget h.rules (names + 1) (bodies_of 0 out.ends h.reads) (λ p e is. (bodies_each 0 out.ends h.reads p e is).1))

  filed_after : (match_name : List ℕ) (place : ℕ) (entry : Entry) → slice_get out.history place ≡ Some entry → changes match_name entry.event ≡ true → IsFiledAfter out.history match_name place
  filed_after match_name place entry e c = by_pins (list_any (λ entry. pins match_name entry.event) (drop place out.history)) refl
    where
      by_pins : (t : Bool) → list_any (λ entry. pins match_name entry.event) (drop place out.history) ≡ t → IsFiledAfter out.history match_name place
      by_pins false none = absurd (h.judged.none_due match_name (place, record { change = subst (λ o. IsSomeAnd o (λ entry. IsTrue (changes match_name entry.event))) (sym e) c; unpinned = none }))
      by_pins true some =
          let a = Any-from_list_any (λ (entry : Entry). pins match_name entry.event) (drop place out.history) some in
          let at : slice_get out.history (place + a.0) ≡ Some a.1 = sym (get_dropped out.history place a.0) ∙ get_of (drop place out.history) a.0 a.1 a.2 a.3 in
          let is : a.1.event ≡ Pinned match_name = pin_is match_name a.1.event a.4 in
          let pinned : slice_get out.history (place + a.0) ≡ Some (record { caller = a.1.caller; event = Pinned match_name }) = at ∙ ap (λ (x : Event). Some (record { caller = a.1.caller; event = x })) is in
          let filed = sound.pinned (place + a.0) a.1.caller match_name pinned in
          record {
            version = place + a.0;
            caller = a.1.caller;
            finding = filed.0;
            later = by_place a.0 a.1 at is;
            pinned = pinned;
            filed = filed.1;
          }
        where
          by_place : (k : ℕ) (x : Entry) → slice_get out.history (place + k) ≡ Some x → x.event ≡ Pinned match_name → place < place + k
          by_place zero x at is =
              let same : x ≡ entry = some_same x entry (sym (ap (slice_get out.history) {x = place} {y = place + 0} (omega arith) ∙ at) ∙ e) in
              absurd (false≢true (sym (ap (λ (v : Event). changes match_name v) is) ∙ ap (λ (v : Entry). changes match_name v.event) same ∙ c))
          by_place (suc k) x at is = omega arith

  pub whole_history : HasWholeHistory left faults told names budget out
  whole_history = record {
    reads = h.reads;
    rules = h.rules;
    bodies = h.bodies;
    each_feed = λ feed end read e f.
        judged_by right budget h.rules (names + 1) (feed + 1) h.judged.judged.0 (bodies_of 0 out.ends h.reads) out.history (λ g. omega (arith, g, slice_get_within out.ends feed end e, h.bodies.all_named)) h.judged.judged.1
        ∙ ap (λ n. filter (is_by (n + 1)) (bodies_of 0 out.ends h.reads)) {x = feed} {y = 0 + feed} (omega arith)
        ∙ bodies_by 0 feed out.ends h.reads end read e f
        ∙ ap (λ n. body_of n (accepted_in read.lines) end.stop) {x = 0 + feed} {y = feed} (omega arith);
    filed_right = λ place caller version finding e. sound.filed place caller version finding e;
    all_filed = filed_after;
  }

-- a run whose bodies were read, and that had memory
pub history_of : {S : Type 0} (left : S → Option (List ℕ)) (faults : S → ℕ) (names : List (List ℕ)) (budget : ℕ) (opener : OpenerSeen) (out : Outcome S) (status : ℕ) (sink : SinkSeen) → FindingIsRight →
    IsCourse left faults names budget opener out status sink → HaveRun (length names) out.ends → status ≢ WANT_OF_MEMORY → HasWholeHistory left faults (told_bytes opener.told names) (length names) budget out
history_of left faults names budget opener out status sink right (inr (seven, nothing, off)) run memory = absurd (memory seven)
history_of {S} left faults names budget opener out status sink right (inl (due, inl unopened, written)) run memory =
    absurd (omega (arith, unopened.fails.is_named, run.all_named, ap (λ (l : List (FeedEnd S)). length l) unopened.unbegun.no_feed))
history_of left faults names budget opener out status sink right (inl (due, inr (opens, inl h), written)) run memory =
    absurd (has_header h.last.stop out.ends (record { front = h.front; last = h.last; are = h.begun_are; no_header = h.last_read.is_end.header ∙ h.no_header; stop_is = refl }) run.headers)
history_of left faults names budget opener out status sink right (inl (due, inr (opens, inr (inl h)), written)) run memory =
    absurd (no_twins out.ends h.earlier h.later h.twins run.different)
history_of left faults names budget opener out status sink right (inl (due, inr (opens, inr (inr h)), written)) run memory =
    whole_history left faults (told_bytes opener.told names) (length names) budget right out due h
