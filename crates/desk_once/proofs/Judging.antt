-- Before and after the due matches are judged.
use Rattle.std.proofs.Common.{◌≡◌, ℕ, zero, suc, ◌+◌, ◌≤◌, Bool, true, false, ◌||◌, List, [], ◌∷◌, ◌++◌, length, Option, Some, None, refl, sym, ap, subst, ◌∙◌, inl, inr, ◌⊎◌}
use Rattle.std.specs.Prelude.{slice_get, take}
use Rattle.std.specs.List.{list_any}
use Rattle.std.proofs.lemmas.Slice.Eq.{bytes_eq-Decides}
use Rattle.std.proofs.Math.Seq.{take-append_seam}
use Rattle.std.proofs.KnownBytes.{Keeps-refl}
use Rattle.scan_types.specs.declared.rule.VoidRule.{VoidRule}
use Rattle.report_definitions.specs.Seen.{SeenFeed}
use Rattle.report_definitions.specs.Report.{IsReport}
use Rattle.board_definitions.specs.declared.event.Entry.{Entry}
use Rattle.board_definitions.specs.declared.event.Event.TheVariants.{Pinned}
use Rattle.board_definitions.specs.Entries.{pins}
use Rattle.board_definitions.specs.Pins.{HasNoPin}
use Rattle.desk_report.specs.Histories.{HasNoPins}
use Rattle.desk_definitions.specs.declared.feed_end.FeedEnd.{FeedEnd}
use Rattle.desk_definitions.specs.declared.status.TheConstants.{WANT_OF_MEMORY}
use Rattle.desk_definitions.specs.Seen.{SinkSeen, Due, IsWritten}
use Rattle.desk_definitions.specs.Reads.{FeedRead, AreSeenAs}
use Rattle.desk_definitions.specs.History.{bodies_of, findings_with}
use Rattle.desk_definitions.specs.Judged.{IsAllJudged, IsJudgedInPart}
use Rattle.desk_definitions.specs.Course.{Outcome, HaveBodies, StopsInBodies, WritesNothing, status_of}
use Rattle.desk_once.specs.Outcomes.{RunsSo}
use Rattle.desk_once.proofs.SeenFeeds.{bodies_unpinned}

or_here : (a b : Bool) → a ≡ true → a || b ≡ true
or_here true b e = refl
or_here false b e = absurd (cc)

or_later : (a b : Bool) → b ≡ true → a || b ≡ true
or_later true b e = refl
or_later false b e = e

any_there : (p : Entry → Bool) (history : List Entry) (place : ℕ) (entry : Entry) → slice_get history place ≡ Some entry → p entry ≡ true → list_any p history ≡ true
any_there p [] place entry is holds = absurd (cc)
any_there p (first ∷ history) zero entry is holds =
    let same : first ≡ entry = cc in
    or_here (p first) (list_any p history) (ap p same ∙ holds)
any_there p (first ∷ history) (suc place) entry is holds = or_later (p first) (list_any p history) (any_there p history place entry is holds)

true_false : (a : Bool) → a ≡ true → a ≡ false → ⊥
true_false true e f = absurd (cc)
true_false false e f = absurd (cc)

pub unpinned : {S : Type 0} (number : ℕ) (ends : List (FeedEnd S)) (reads : List FeedRead) (caller : ℕ) → HasNoPin (bodies_of number ends reads) caller
unpinned number ends reads caller pin is live =
    let m = pin.match_name in
    let p : Entry → Bool = λ entry. pins m entry.event in
    let entry : Entry = record { caller = pin.caller; event = Pinned m } in
    true_false (list_any p (bodies_of number ends reads)) (any_there p (bodies_of number ends reads) pin.version entry live.pinned ((bytes_eq-Decides m m).1 refl)) (bodies_unpinned number ends reads m)

pub moved_all : (rules : List (Option VoidRule)) (b d k l : ℕ) (before front after whole : List Entry) → b ≡ d → k ≡ l → before ≡ front → after ≡ whole
    → IsAllJudged rules (findings_with b) k before after → IsAllJudged rules (findings_with d) l front whole
moved_all rules b d k l before front after whole p q r s h =
    let P : ℕ → Type 0 = λ b. IsAllJudged rules (findings_with b) k before after in
    let Q : ℕ → Type 0 = λ k. IsAllJudged rules (findings_with d) k before after in
    let R : List Entry → Type 0 = λ before. IsAllJudged rules (findings_with d) l before after in
    let T : List Entry → Type 0 = λ after. IsAllJudged rules (findings_with d) l front after in
    subst T s (subst R r (subst Q q (subst P p h)))

pub moved_part : (rules : List (Option VoidRule)) (b d k l : ℕ) (before front after whole : List Entry) → b ≡ d → k ≡ l → before ≡ front → after ≡ whole
    → IsJudgedInPart rules (findings_with b) k before after → IsJudgedInPart rules (findings_with d) l front whole
moved_part rules b d k l before front after whole p q r s h =
    let P : ℕ → Type 0 = λ b. IsJudgedInPart rules (findings_with b) k before after in
    let Q : ℕ → Type 0 = λ k. IsJudgedInPart rules (findings_with d) k before after in
    let R : List Entry → Type 0 = λ before. IsJudgedInPart rules (findings_with d) l before after in
    let T : List Entry → Type 0 = λ after. IsJudgedInPart rules (findings_with d) l front after in
    subst T s (subst R r (subst Q q (subst P p h)))

pub given_back : {X : Type 0} (n : ℕ) (xs rest items : List X) → xs ≡ items → n ≡ length items → take n (xs ++ rest) ≡ items
given_back n xs rest items same count = ap (λ k. take k (xs ++ rest)) (count ∙ ap length (sym same)) ∙ take-append_seam xs rest ∙ same

pub nothing_written : (before : Option (List ℕ)) (faults : ℕ) → WritesNothing (record { written_before = before; written_after = before; faults_before = faults; faults_after = faults })
nothing_written before faults = record { kept = Keeps-refl before; no_fault = refl }

module _ {S : Type 0} (left : S → Option (List ℕ)) (faults : S → ℕ) (told : ℕ → Option (List ℕ)) (budget : ℕ) (out : Outcome S) (sink : SinkSeen) where
  -- judging stopped for want of memory
  pub stopped_judging : (reads : List FeedRead) (rules : List (Option VoidRule)) → HaveBodies left faults told (length out.ends) out.ends reads rules → WritesNothing sink
      → IsJudgedInPart rules (findings_with budget) (length out.ends + 1) (bodies_of 0 out.ends reads) out.history → RunsSo left faults told (length out.ends) budget out WANT_OF_MEMORY sink
  stopped_judging reads rules bodies nothing judged = inr (refl, nothing, inr (record { reads = reads; rules = rules; bodies = bodies; judged = judged }))

  -- all was judged, and the report was written, or no memory was left for it
  pub reported : (status : ℕ) (reads : List FeedRead) (rules : List (Option VoidRule)) (seen : List SeenFeed) → HaveBodies left faults told (length out.ends) out.ends reads rules
      → IsAllJudged rules (findings_with budget) (length out.ends + 1) (bodies_of 0 out.ends reads) out.history → AreSeenAs out.ends reads seen
      → ((due : Due) × (due.status ≡ status_of out.ends) × IsReport budget seen due.text × IsWritten due status sink) ⊎ ((status ≡ WANT_OF_MEMORY) × WritesNothing sink)
      → RunsSo left faults told (length out.ends) budget out status sink
  reported status reads rules seen bodies judged are (inl written) =
      inl (written.0, inr (inr (record { reads = reads; rules = rules; bodies = bodies; judged = judged; seen = seen; seen_are = are; status_is = written.1; report = written.2 })), written.3)
  reported status reads rules seen bodies judged are (inr none) =
      inr (none.0, none.1, inr (record { reads = reads; rules = rules; bodies = bodies; judged = record { middle = out.history; judged = judged.judged; rest = inl refl } }))

  pub no_run : (names status : ℕ) → status ≡ WANT_OF_MEMORY → WritesNothing sink → StopsInBodies left faults told names out → RunsSo left faults told names budget out status sink
  no_run names status is nothing stops = inr (is, nothing, inl stops)
