-- Where every due match is judged, each match that is quoted has a finding for a pin after its last change.
use Rattle.std.proofs.Common.{ℕ, ◌≡◌, ◌<◌, ◌≤◌, Bool, true, false, List, [], ◌∷◌, ◌++◌, length, drop, zero, suc, refl, sym, ap, subst, ◌∙◌, Some, arith, inl, inr}
use Rattle.std.specs.Prelude.{◌⊎◌, ◌||◌, Option, IsTrue, IsSomeAnd, option_and_then, slice_get}
use Rattle.std.specs.List.{list_any}
use Rattle.std.specs.Str.{bytes_eq}
use Rattle.std.proofs.lemmas.Bool.{cases_lt, cases_Bool, or_from, or_parts, and_parts}
use Rattle.std.proofs.Math.Bool.{or-false}
use Rattle.std.proofs.lemmas.List.{drop-append-le}
use Rattle.std.proofs.lemmas.List.Folds.{list_any-append, Any-from_list_any}
use Rattle.std.proofs.lemmas.Option.{slice_get_within, slice_get-get_or}
use Rattle.std.proofs.lemmas.Slice.Eq.{bytes_eq-Decides}
use Rattle.scan_types.specs.declared.rule.VoidRule.{VoidRule}
use Rattle.scan_types.specs.declared.offer.Offer.{Offer}
use Rattle.finding_definitions.specs.declared.finding.Finding.{Finding}
use Rattle.board_definitions.specs.declared.event.Entry.{Entry}
use Rattle.board_definitions.specs.Entries.{changes, pins}
use Rattle.board_definitions.specs.Pins.{IsDue}
use Rattle.board_definitions.proofs.Live.{slice_get-before}
use Rattle.board_definitions.proofs.More.{change_within}
use Rattle.report_laws.specs.Boards.{quotes_match}
use Rattle.desk_definitions.specs.Judged.{pinned_entry, filed_entry, JudgesLongestDue, JudgesSoMany, IsAllJudged}
use Rattle.desk_report.specs.Marks.{pinned_by, pinned_name}
use Rattle.desk_report.specs.Judged.{HasNewFinding, HasFindings}
use Rattle.desk_report.specs.Histories.{HasNoPins}

first_behind : {X : Type 0} (xs : List X) (y z : X) → slice_get (xs ++ y ∷ z ∷ []) (length xs) ≡ Some y
first_behind [] y z = refl
first_behind (x ∷ xs) y z = first_behind xs y z

second_behind : {X : Type 0} (xs : List X) (y z : X) → slice_get (xs ++ y ∷ z ∷ []) (suc (length xs)) ≡ Some z
second_behind [] y z = refl
second_behind (x ∷ xs) y z = second_behind xs y z

-- neither of the last two entries changes the match
none_behind : (h : List Entry) (p f : Entry) (m : List ℕ) → changes m p.event ≡ false → changes m f.event ≡ false → (place : ℕ) (e : Entry) → length h ≤ place → slice_get (h ++ p ∷ f ∷ []) place ≡ Some e
    → changes m e.event ≡ false
none_behind [] p f m first second zero e from there = let same : p ≡ e = cc in ap (λ (x : Entry). changes m x.event) (sym same) ∙ first
none_behind [] p f m first second (suc zero) e from there = let same : f ≡ e = cc in ap (λ (x : Entry). changes m x.event) (sym same) ∙ second
none_behind [] p f m first second (suc (suc place)) e from there = absurd (cc there)
none_behind (x ∷ h) p f m first second zero e from there = absurd (omega (arith, from))
none_behind (x ∷ h) p f m first second (suc place) e from there = none_behind h p f m first second place e (omega (arith, from)) there

-- a finding stays new behind entries that do not change its match
finding_stays : (h : List Entry) (p f : Entry) (m : List ℕ) → changes m p.event ≡ false → changes m f.event ≡ false → HasNewFinding h m → HasNewFinding (h ++ p ∷ f ∷ []) m
finding_stays h p f m first second new =
    let name : pinned_name (h ++ p ∷ f ∷ []) new.version ≡ pinned_name h new.version =
    elim (cases_lt new.version (length h)) [
      | inl within ↦ ap (λ (o : Option Entry). option_and_then (λ (entry : Entry). pinned_by entry.event) o) (slice_get-before h (p ∷ f ∷ []) new.version within)
      | inr past ↦ absurd (let there : new.version < length h = named_within h new.version m new.pinned in omega (arith, past, there))
    ] in
    record {
      filed = new.filed;
      caller = new.caller;
      version = new.version;
      finding = new.finding;
      is_filed = slice_get-before h (p ∷ f ∷ []) new.filed (slice_get_within h new.filed _ new.is_filed) ∙ new.is_filed;
      pinned = name ∙ new.pinned;
      newest = λ place e from there. elim (cases_lt place (length h)) [
        | inl within ↦ new.newest place e from (sym (slice_get-before h (p ∷ f ∷ []) place within) ∙ there)
        | inr past ↦ none_behind h p f m first second place e past there
      ];
    }
  where
    named_within : (xs : List Entry) (version : ℕ) (name : List ℕ) → pinned_name xs version ≡ Some name → version < length xs
    named_within [] version name h = absurd (cc h)
    named_within (x ∷ xs) zero name h = omega arith
    named_within (x ∷ xs) (suc version) name h = omega (arith, named_within xs version name h)

-- a finding is filed for a pin that was just made
finding_now : (h : List Entry) (caller : ℕ) (m : List ℕ) (finding : Finding) → HasNewFinding (h ++ pinned_entry caller m ∷ filed_entry caller (length h) finding ∷ []) m
finding_now h caller m finding = record {
  filed = suc (length h);
  caller = caller;
  version = length h;
  finding = finding;
  is_filed = second_behind h (pinned_entry caller m) (filed_entry caller (length h) finding);
  pinned = ap (λ (o : Option Entry). option_and_then (λ (entry : Entry). pinned_by entry.event) o) (first_behind h (pinned_entry caller m) (filed_entry caller (length h) finding));
  newest = λ place e from there. none_behind h (pinned_entry caller m) (filed_entry caller (length h) finding) m refl refl place e from there;
}

-- a match that is due stays so while another is judged
due_stays : (h : List Entry) (caller : ℕ) (name m : List ℕ) (finding : Finding) → bytes_eq name m ≡ false → IsDue h m → IsDue (h ++ pinned_entry caller name ∷ filed_entry caller (length h) finding ∷ []) m
due_stays h caller name m finding other (place, was) =
    let within : place < length h = change_within h m place was in
    let more : List Entry = pinned_entry caller name ∷ filed_entry caller (length h) finding ∷ [] in
    let none : list_any (λ (x : Entry). pins m x.event) more ≡ false = ap (λ (b : Bool). b || (false || false)) other in (
      place,
      record {
        change = subst (λ (o : Option Entry). IsSomeAnd o (λ x. IsTrue (changes m x.event))) (sym (slice_get-before h more place within)) was.change;
        unpinned = ap (list_any (λ (x : Entry). pins m x.event)) (drop-append-le place h more (omega (arith, within)))
            ∙ (list_any-append (λ (x : Entry). pins m x.event) (drop place h) more ∙ or_from _ _ was.unpinned none);
      },
    )

-- each match that is quoted is due, or has its finding
abbrev DueOrFound : List Entry → Type 0
DueOrFound h = (m : List ℕ) → list_any (quotes_match m) h ≡ true → IsDue h m ⊎ HasNewFinding h m

judged_step : (rules : List (Option VoidRule)) (allows : List Offer → Finding → Type 0) (caller : ℕ) (before after : List Entry) → JudgesLongestDue rules allows caller before after → DueOrFound before → DueOrFound after
judged_step rules allows caller before after step known =
    subst DueOrFound (sym step.entries) (λ m quoted.
    let more : List Entry = pinned_entry caller step.match_name ∷ filed_entry caller (length before) step.finding ∷ [] in
    let old : list_any (quotes_match m) before ≡ true = sym (list_any-append (quotes_match m) before more ∙ or-false (list_any (quotes_match m) before)) ∙ quoted in
    elim (known m old) [
      | inr found ↦ inr (finding_stays before (pinned_entry caller step.match_name) (filed_entry caller (length before) step.finding) m refl refl found)
      | inl due ↦ elim (cases_Bool (bytes_eq step.match_name m)) [
        | inl same ↦
            inr (subst (λ (name : List ℕ). HasNewFinding (before ++ pinned_entry caller name ∷ filed_entry caller (length before) step.finding ∷ []) m) (sym ((bytes_eq-Decides step.match_name m).0 same)) (finding_now before caller m step.finding))
        | inr other ↦ inl (due_stays before caller step.match_name m step.finding other due)
      ]
    ])

judged_many : (rules : List (Option VoidRule)) (allows : List Offer → Finding → Type 0) (caller n : ℕ) (before after : List Entry) → JudgesSoMany rules allows caller n before after → DueOrFound before → DueOrFound after
judged_many rules allows caller zero before after same known = subst DueOrFound (sym same) known
judged_many rules allows caller (suc n) before after (middle, steps, last) known =
    judged_step rules allows caller middle after last (judged_many rules allows caller n before middle steps known)

quote_changes : (m : List ℕ) (e : Entry) → quotes_match m e ≡ true → changes m e.event ≡ true
quote_changes m e h = (and_parts _ (changes m e.event) h).1

-- without a pin, each match that is quoted is due
unpinned_due : (h : List Entry) → HasNoPins h → DueOrFound h
unpinned_due h none m quoted =
    let found = Any-from_list_any (quotes_match m) h quoted in
    let at : slice_get h found.0 ≡ Some found.1 = slice_get-get_or h found.0 found.1 found.2 ∙ ap (λ (x : Entry). Some x) found.3 in
    inl (
      found.0,
      record {
        change = subst (λ (o : Option Entry). IsSomeAnd o (λ x. IsTrue (changes m x.event))) (sym at) (quote_changes m found.1 found.4);
        unpinned = none_dropped (λ (x : Entry). pins m x.event) h found.0 (none m);
      },
    )
  where
    none_dropped : (p : Entry → Bool) (xs : List Entry) (n : ℕ) → list_any p xs ≡ false → list_any p (drop n xs) ≡ false
    none_dropped p xs zero h = h
    none_dropped p [] (suc n) h = refl
    none_dropped p (x ∷ xs) (suc n) h = none_dropped p xs n (or_parts (p x) (list_any p xs) h).1

pub judged_has : (rules : List (Option VoidRule)) (allows : List Offer → Finding → Type 0) (caller : ℕ) (before after : List Entry) → HasNoPins before → IsAllJudged rules allows caller before after → HasFindings after
judged_has rules allows caller before after none all m quoted =
    elim (judged_many rules allows caller all.judged.0 before after all.judged.1 (unpinned_due before none) m quoted) [
      | inl due ↦ absurd (all.none_due m due)
      | inr found ↦ found
    ]
