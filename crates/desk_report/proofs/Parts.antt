-- The parts of the marks are the matches of the report.
use Rattle.std.proofs.Common.{ℕ, ◌≡◌, ◌<◌, ◌≤◌, List, [], ◌∷◌, true, length, get_or, zero, suc, refl, sym, ap, subst, ◌∙◌, Some, None, arith}
use Rattle.std.specs.Prelude.{Option, Any, IfSome, IsSome, option_and_then}
use Rattle.std.specs.Option.{is_some}
use Rattle.std.specs.List.{AllZip, list_any}
use Rattle.std.specs.List.Sorted.{IsSorted}
use Rattle.std.specs.Str.{bytes_eq}
use Rattle.std.specs.Cmp.Lexicographic.{slice_cmp, nat_list_eq_equiv}
use Rattle.std.specs.Ordering.{nat_cmp}
use Rattle.std.specs.declared.cmp.Ordering.TheVariants.{Less}
use Rattle.std.proofs.lemmas.List.{get_or-map, length-map, take_all}
use Rattle.std.proofs.lemmas.Option.{slice_get_within, get_or_from_slice_get, slice_get-get_or}
use Rattle.std.proofs.lemmas.Map.Entries.{place_from_lookup, hash_map_get_place}
use Rattle.std.proofs.lemmas.Slice.Eq.{bytes_eq-Decides}
use Rattle.indexmap.specs.IndexMap.{IndexMap, get, keys, IsUnique}
use Rattle.scan_types.specs.declared.rule.VoidRule.{VoidRule}
use Rattle.scan_types.specs.declared.offer.Offer.{Offer}
use Rattle.finding_definitions.specs.declared.finding.Finding.{Finding}
use Rattle.judging_definitions.specs.ExactFinding.{IsFindingOf}
use Rattle.board_definitions.specs.declared.event.Entry.{Entry}
use Rattle.board_definitions.specs.Legal.{IsLegal}
use Rattle.board_definitions.specs.Sheets.{sheet}
use Rattle.report_definitions.specs.declared.match_part.MatchPart.{MatchPart}
use Rattle.report_definitions.specs.Seen.{SeenFeed, IsQuoted, sheet_of}
use Rattle.report_definitions.specs.Report.{AreMatchesOf}
use Rattle.report_laws.specs.Boards.{HoldsLinesOf, quotes_match}
use Rattle.report_laws.proofs.Boards.{same_sheets, same_matches}
use Rattle.desk_report.specs.declared.marks.Mark.{Mark}
use Rattle.desk_report.specs.Marks.{mark_in, mark_at}
use Rattle.desk_report.specs.Judged.{filed_at, HasNewFinding, HasFindings, AllowsFindings, IsPart}
use Rattle.desk_report.proofs.Names.{rises}
use Rattle.desk_report.proofs.Zips.{AllZip-at, length-all_zip}
use Rattle.desk_report.proofs.Sound.{IsFiledAt, IsMark, HasFiled, marks_sound, marks_quoted, marks_found}
use Rattle.desk_report.proofs.Newest.{found_is, pin_is_earlier, filed_there}

-- a match has a mark just if it was quoted
marked_quoted : (h : List Entry) (m : List ℕ) → is_some (mark_at h (length h) m) ≡ list_any (quotes_match m) h
marked_quoted h m = marks_quoted h m (length h) (omega arith) ∙ ap (list_any (quotes_match m)) (take_all (length h) h (omega arith))

filed_some : (h : List Entry) (m : List ℕ) (changed : ℕ) (filed : Option ℕ) → IsSome filed → IfSome filed (IsFiledAt h m changed) → IsSome (option_and_then (filed_at h) filed)
filed_some h m changed None some is = absurd (cc some)
filed_some h m changed (Some place) some is = ap is_some (filed_there h m changed place is)

-- each mark of a judged history has a finding
pub has_finding : (rules : List (Option VoidRule)) (allows : List Offer → Finding → Type 0) (h : List Entry) → IsLegal rules allows h → HasFindings h → (m : List ℕ) (o : Option Mark) → o ≡ mark_at h (length h) m
    → IfSome o (λ mark. IsSome (option_and_then (filed_at h) mark.filed))
has_finding rules allows h legal judged m None at = tt
has_finding rules allows h legal judged m (Some mark) at =
    let new : HasNewFinding h m = judged m (sym (marked_quoted h m) ∙ ap is_some (sym at)) in
    let order : new.version ≤ new.filed = pin_is_earlier rules allows h new.filed new.caller new.version new.finding legal new.is_filed in
    let found : HasFiled (Some mark) = subst HasFiled (sym at) (marks_found h m new order (length h) (slice_get_within h new.filed _ new.is_filed) (omega arith)) in
    let sound : IfSome (Some mark) (IsMark h (length h) m) = subst (λ (o : Option Mark). IfSome o (IsMark h (length h) m)) (sym at) (marks_sound h m (length h) (omega arith)) in
    filed_some h m mark.changed mark.filed found sound.filed

found_finding : (rules : List (Option VoidRule)) (allows : List Offer → Finding → Type 0) (h : List Entry) (m : List ℕ) → IsLegal rules allows h → (mark : Mark) → IsMark h (length h) m mark
    → (filed : Option ℕ) → IfSome filed (IsFiledAt h m mark.changed) → (finding : Finding) → option_and_then (filed_at h) filed ≡ Some finding → allows (sheet rules h (length h) m) finding
found_finding rules allows h m legal mark sound None is finding there = absurd (cc there)
found_finding rules allows h m legal mark sound (Some place) is finding there =
    let same : Some is.finding ≡ Some finding = sym (filed_there h m mark.changed place is) ∙ there in
    let one : is.finding ≡ finding = cc in
    subst (allows (sheet rules h (length h) m)) one (found_is rules allows h m mark.changed place legal sound.after is)

any_at : {X : Type 0} (P : X → Type 0) (xs : List X) (k : ℕ) → k < length xs → ((d : X) → P (get_or xs k d)) → Any P xs
any_at P [] k l h = absurd (omega arith)
any_at P (x ∷ xs) zero l h = (zero, x, l, refl, h x)
any_at P (x ∷ xs) (suc k) l h = let r = any_at P xs k (omega arith) h in (suc r.0, r.1, (let s = r.2 in omega arith), r.3, r.4)

less_along : (a b c d : List ℕ) → a ≡ c → b ≡ d → slice_cmp nat_cmp c d ≡ Less → slice_cmp nat_cmp a b ≡ Less
less_along a b c d p q h = ap (λ (x : List ℕ). slice_cmp nat_cmp x b) p ∙ ap (λ (y : List ℕ). slice_cmp nat_cmp c y) q ∙ h

blank_entry : List ℕ × Mark
blank_entry = ([], record { changed = 0; filed = None })

abbrev pub GoTogether : List (Option VoidRule) → List Entry → List (List ℕ × Mark) → List MatchPart → Type 0
GoTogether rules h entries parts = AllZip (λ (entry : List ℕ × Mark) (part : MatchPart). IsPart rules h entry.0 entry.1 part) entries parts

-- the parts of the marks of a history that holds the lines of the feeds are the matches of their report
pub are_matches : {S : Type 0} (rules : List (Option VoidRule)) (allows : List Offer → Finding → Type 0) (h : List Entry) → IsLegal rules allows h → (m : IndexMap (List ℕ) Mark S) → IsSorted (slice_cmp nat_cmp) (keys m) → IsUnique bytes_eq m
    → ((q : List ℕ) → mark_in m q ≡ mark_at h (length h) q) → (parts : List MatchPart) → GoTogether rules h m.entries parts
    → (budget : ℕ) → AllowsFindings budget allows → (feeds : List SeenFeed) → HoldsLinesOf feeds rules h → AreMatchesOf budget feeds parts
are_matches rules allows h legal m sorted unique marks parts z budget findings feeds holds =
    record {
      rising = λ i j d before last.
          less_along (get_or parts i d).match_name (get_or parts j d).match_name (get_or (keys m) i []) (get_or (keys m) j []) (name_at i d (omega arith)) (name_at j d last)
          (rises (keys m) sorted unique i j [] before (omega (arith, long, length-map m.entries (λ (e : List ℕ × Mark). e.0))));
      quoted = λ name q. quoted name (marked_quoted h name ∙ (same_matches feeds rules h holds name).1 q) (get bytes_eq m name) refl;
      only = λ k d l.
          let p = part_at k d l in
          subst (λ (name : List ℕ). IsQuoted feeds name) (sym p.name_is) ((same_matches feeds rules h holds _).0 (sym (marked_quoted h _) ∙ ap is_some (mark_is k l)));
      sheets = λ k d l.
          let p = part_at k d l in
          p.sheet_is ∙ (same_sheets feeds rules h holds _ ∙ ap (sheet_of feeds) (sym p.name_is));
      found = λ k d l.
          let p = part_at k d l in
          let sound : IfSome (Some (get_or m.entries k blank_entry).1) (IsMark h (length h) (get_or m.entries k blank_entry).0) =
          subst (λ (o : Option Mark). IfSome o (IsMark h (length h) (get_or m.entries k blank_entry).0)) (mark_is k l) (marks_sound h (get_or m.entries k blank_entry).0 (length h) (omega arith)) in
          subst (λ (offers : List Offer). IsFindingOf offers budget (get_or parts k d).finding) (sym p.sheet_is)
          (findings _ (get_or parts k d).finding (found_finding rules allows h _ legal (get_or m.entries k blank_entry).1 sound (get_or m.entries k blank_entry).1.filed sound.filed (get_or parts k d).finding p.finding_is));
    }
  where
    long : length parts ≡ length m.entries
    long = length-all_zip (λ (entry : List ℕ × Mark) (part : MatchPart). IsPart rules h entry.0 entry.1 part) m.entries parts z

    part_at : (k : ℕ) (d : MatchPart) → k < length parts → IsPart rules h (get_or m.entries k blank_entry).0 (get_or m.entries k blank_entry).1 (get_or parts k d)
    part_at k d l = AllZip-at (λ (entry : List ℕ × Mark) (part : MatchPart). IsPart rules h entry.0 entry.1 part) m.entries parts k blank_entry d z (let e = long in omega arith)

    mark_is : (k : ℕ) → k < length parts → mark_at h (length h) (get_or m.entries k blank_entry).0 ≡ Some (get_or m.entries k blank_entry).1
    mark_is k l =
        let e = get_or m.entries k blank_entry in
        sym (marks e.0) ∙ hash_map_get_place nat_list_eq_equiv m k e.0 e.1 unique (slice_get-get_or m.entries k blank_entry (let same = long in omega arith))

    name_at : (k : ℕ) (d : MatchPart) → k < length parts → (get_or parts k d).match_name ≡ get_or (keys m) k []
    name_at k d l =
        (part_at k d l).name_is
        ∙ sym (get_or-map (λ (e : List ℕ × Mark). e.0) m.entries k blank_entry [] (let e = long in omega arith))

    quoted : (name : List ℕ) → is_some (mark_at h (length h) name) ≡ true → (o : Option Mark) → get bytes_eq m name ≡ o → Any (λ part. part.match_name ≡ name) parts
    quoted name n None e = absurd (let none : is_some (mark_at h (length h) name) ≡ is_some {T = Mark} None = ap is_some (sym (marks name) ∙ e) in cc)
    quoted name n (Some mark) e =
        let place = place_from_lookup (bytes_eq name) m.entries mark e in
        let within : place.0 < length parts = let w = slice_get_within m.entries place.0 (place.1, mark) place.2 in let e = long in omega arith in
        let same : name ≡ place.1 = (bytes_eq-Decides name place.1).0 place.3 in
        any_at (λ (part : MatchPart). part.match_name ≡ name) parts place.0 within
        (λ d. (part_at place.0 d within).name_is
        ∙ ap (λ (entry : List ℕ × Mark). entry.0) (get_or_from_slice_get m.entries place.0 (place.1, mark) blank_entry place.2)
        ∙ sym same)
