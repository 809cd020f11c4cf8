-- The finding at a mark is the finding of the newest sheet.
use Rattle.std.proofs.Common.{ℕ, ◌≡◌, ◌<◌, ◌≤◌, Bool, true, false, cond, List, [], ◌∷◌, ◌++◌, length, take, drop, zero, suc, refl, sym, ap, subst, ◌∙◌, Some, arith, inl, inr}
use Rattle.std.specs.Prelude.{◌&&◌, Option, option_and_then, slice_get}
use Rattle.std.specs.List.{filter_map, range_with_len}
use Rattle.std.proofs.lemmas.Bool.{cases_lt}
use Rattle.std.proofs.lemmas.List.{take-append-drop, take-append-le, length-take}
use Rattle.std.proofs.lemmas.Option.{slice_get_within}
use Rattle.scan_types.specs.declared.limits.TheConstants.{MOST_FEEDS}
use Rattle.scan_types.specs.declared.rule.VoidRule.{VoidRule}
use Rattle.scan_types.specs.declared.offer.Offer.{Offer}
use Rattle.finding_definitions.specs.declared.finding.Finding.{Finding}
use Rattle.board_definitions.specs.declared.key.TheConstants.{SELECTIONS}
use Rattle.board_definitions.specs.declared.event.Event.{Event}
use Rattle.board_definitions.specs.declared.event.Event.TheVariants.{Quoted, Withdrawn, Ended, Pinned, Filed, Released}
use Rattle.board_definitions.specs.declared.event.Entry.{Entry}
use Rattle.board_definitions.specs.Entries.{changes, is_about}
use Rattle.board_definitions.specs.Sheets.{sheet, standing_sheet, standing, offer_of}
use Rattle.board_definitions.specs.Legal.{IsLegal}
use Rattle.board_definitions.proofs.Changes.{standing-push}
use Rattle.board_definitions.proofs.Live.{take_next, slice_get-before}
use Rattle.report_laws.proofs.Through.{filter_map-same, flat_map-same}
use Rattle.desk_report.specs.Marks.{pinned_by, pinned_name}
use Rattle.desk_report.specs.Judged.{filed_by, filed_at}
use Rattle.desk_report.proofs.Sound.{IsFiledAt}

no_and : (a b : Bool) → a ≡ false → (a && b) ≡ false
no_and true b e = absurd (cc e)
no_and false b e = refl

-- an entry that does not change the match is about none of its keys
about_none : (m : List ℕ) (f k : ℕ) (event : Event) → changes m event ≡ false → is_about m f k event ≡ false
about_none m f k (Quoted key odds limit line) same = no_and _ _ same
about_none m f k (Withdrawn key line) same = no_and _ _ same
about_none m f k (Ended feed stop) same = refl
about_none m f k (Pinned name) same = refl
about_none m f k (Filed version finding) same = refl
about_none m f k (Released version) same = refl

-- such an entry leaves the sheet as it was
one_same : (rules : List (Option VoidRule)) (xs : List Entry) (e : Entry) (m : List ℕ) → changes m e.event ≡ false → standing_sheet rules (xs ++ e ∷ []) m ≡ standing_sheet rules xs m
unfolding standing_sheet
one_same rules xs e m same =
    flat_map-same (λ f. filter_map (standing rules (xs ++ e ∷ []) m f) (range_with_len 0 SELECTIONS)) (λ f. filter_map (standing rules xs m f) (range_with_len 0 SELECTIONS)) (range_with_len 0 MOST_FEEDS)
    (λ f. filter_map-same (standing rules (xs ++ e ∷ []) m f) (standing rules xs m f) (range_with_len 0 SELECTIONS)
    (λ k. standing-push rules xs e m f k ∙ ap (λ (b : Bool). cond b (offer_of rules e.event) (standing rules xs m f k)) (about_none m f k e.event same)))

-- entries that do not change the match leave its sheet as it was
pub same_sheet : (rules : List (Option VoidRule)) (h : List Entry) (m : List ℕ) (version n : ℕ) → version ≤ n → n ≤ length h
    → ((place : ℕ) (e : Entry) → version ≤ place → place < n → slice_get h place ≡ Some e → changes m e.event ≡ false)
    → standing_sheet rules (take n h) m ≡ standing_sheet rules (take version h) m
same_sheet rules h m version zero order within none =
    let at : zero ≡ version = omega (arith, order) in
    ap (λ (k : ℕ). standing_sheet rules (take k h) m) at
same_sheet rules h m version (suc n) order within none = elim (cases_lt n version) [
  | inl behind ↦
      let at : suc n ≡ version = omega (arith, order, behind) in
      ap (λ (k : ℕ). standing_sheet rules (take k h) m) at
  | inr past ↦
      let next = take_next h n (omega (arith, within)) in
      ap (λ (xs : List Entry). standing_sheet rules xs m) next.2
      ∙ (one_same rules (take n h) next.0 m (none n next.0 past (omega arith) next.1)
      ∙ same_sheet rules h m version n past (omega (arith, within)) (λ place e from before there. none place e from (omega (arith, before)) there))
]

-- the first entries of a longer front
front_of_front : (h : List Entry) (version n : ℕ) → version ≤ n → n ≤ length h → take version (take n h) ≡ take version h
front_of_front h version n order within =
    sym (take-append-le version (take n h) (drop n h) (omega (arith, order, within, length-take n h))) ∙ ap (take version) (take-append-drop n h)

-- what is found among the first entries is found among all
found_in_front : (h : List Entry) (n place : ℕ) (e : Entry) → slice_get (take n h) place ≡ Some e → slice_get h place ≡ Some e
found_in_front h n place e there =
    ap (λ (xs : List Entry). slice_get xs place) (sym (take-append-drop n h))
    ∙ (slice_get-before (take n h) (drop n h) place (slice_get_within (take n h) place e there) ∙ there)

name_pinned : (h : List Entry) (version caller : ℕ) (name m : List ℕ) → slice_get h version ≡ Some (record { caller = caller; event = Pinned name }) → pinned_name h version ≡ Some m → name ≡ m
name_pinned h version caller name m there pinned =
    let same : Some name ≡ Some m = sym (ap (λ (o : Option Entry). option_and_then (λ (entry : Entry). pinned_by entry.event) o) there) ∙ pinned in cc

pub found_is : (rules : List (Option VoidRule)) (allows : List Offer → Finding → Type 0) (h : List Entry) (m : List ℕ) (changed place : ℕ) → IsLegal rules allows h
    → ((at : ℕ) (e : Entry) → changed < at → at < length h → slice_get h at ≡ Some e → changes m e.event ≡ false)
    → (filed : IsFiledAt h m changed place) → allows (sheet rules h (length h) m) filed.finding
unfolding IsLegal
found_is rules allows h m changed place legal after filed =
    let may = legal place _ filed.is_filed in
    let pin : slice_get h filed.version ≡ Some (record { caller = filed.caller; event = Pinned may.0 }) = found_in_front h place filed.version _ may.1.live.pinned in
    let name : may.0 ≡ m = name_pinned h filed.version filed.caller may.0 m pin filed.pinned in
    let inside : place < length h = slice_get_within h place _ filed.is_filed in
    let early : filed.version < length (take place h) = slice_get_within (take place h) filed.version _ may.1.live.pinned in
    let order : filed.version < place = omega (arith, early, length-take place h) in
    let old : sheet rules (take place h) filed.version may.0 ≡ sheet rules h filed.version m =
    ap (sheet rules (take place h) filed.version) name ∙ ap (λ (xs : List Entry). standing_sheet rules xs m) (front_of_front h filed.version place (omega (arith, order)) (omega (arith, inside))) in
    let now : sheet rules h (length h) m ≡ sheet rules h filed.version m =
    same_sheet rules h m filed.version (length h) (omega (arith, order, inside)) (omega arith) (λ at e from before there. after at e (omega (arith, from, filed.later)) before there) in
    subst (λ (offers : List Offer). allows offers filed.finding) (old ∙ sym now) may.1.allowed

-- the pin of a filed finding comes before it
pub pin_is_earlier : (rules : List (Option VoidRule)) (allows : List Offer → Finding → Type 0) (h : List Entry) (place caller version : ℕ) (finding : Finding) → IsLegal rules allows h
    → slice_get h place ≡ Some (record { caller = caller; event = Filed version finding }) → version ≤ place
unfolding IsLegal
pin_is_earlier rules allows h place caller version finding legal is =
    let may = legal place _ is in
    let early : version < length (take place h) = slice_get_within (take place h) version _ may.1.live.pinned in
    omega (arith, early, length-take place h)

pub filed_there : (h : List Entry) (m : List ℕ) (changed place : ℕ) (filed : IsFiledAt h m changed place) → filed_at h place ≡ Some filed.finding
filed_there h m changed place filed = ap (λ (o : Option Entry). option_and_then (λ (entry : Entry). filed_by entry.event) o) filed.is_filed
