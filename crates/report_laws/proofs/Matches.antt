-- Feeds with a budget have one list of matches, and one report.
use Rattle.std.proofs.Common.{◌≡◌, ℕ, List, map, sym, ◌∙◌, ap, subst}
use Rattle.std.specs.Prelude.{All}
use Rattle.std.specs.Cmp.Lexicographic.{slice_cmp}
use Rattle.std.specs.Ordering.{nat_cmp, ordering_reverse}
use Rattle.std.specs.declared.cmp.Ordering.TheVariants as ordering
use Rattle.std.proofs.lemmas.Cmp.{nat_list_cmp_total}
use Rattle.scan_types.specs.declared.offer.Offer.{Offer}
use Rattle.finding_definitions.specs.declared.finding.Finding.{Finding}
use Rattle.finding_definitions.specs.Findings.{IsRight}
use Rattle.judging_definitions.specs.ExactFinding.{IsFindingOf}
use Rattle.judging_definitions.proofs.OneCoarseVerdict.{finding_one}
use Rattle.judging_laws.proofs.RightFindings.{finding_right}
use Rattle.report_definitions.specs.declared.match_part.MatchPart.{MatchPart}
use Rattle.report_definitions.specs.Seen.{SeenFeed, IsQuoted, sheet_of}
use Rattle.report_definitions.specs.Report.{report_text, AreMatchesOf, IsReport}
use Rattle.board_definitions.proofs.Orders.{IsIn, all_at, any_in, below_of, same_lists}

abbrev NameIsBelow : MatchPart → MatchPart → Type 0
NameIsBelow a b = slice_cmp nat_cmp a.match_name b.match_name ≡ ordering.Less

below_not : (a b : MatchPart) → NameIsBelow a b → NameIsBelow b a → ⊥
below_not a b p q =
    let swapped : slice_cmp nat_cmp a.match_name b.match_name ≡ ordering_reverse (slice_cmp nat_cmp b.match_name a.match_name) = nat_list_cmp_total.antisymm a.match_name b.match_name in
    let greater : slice_cmp nat_cmp a.match_name b.match_name ≡ ordering.Greater = swapped ∙ ap ordering_reverse q in
    cc

-- two matches of the same name with their sheets and findings are the same
part_same : (budget : ℕ) (feeds : List SeenFeed) (a b : MatchPart) → a.match_name ≡ b.match_name → a.sheet ≡ sheet_of feeds a.match_name → b.sheet ≡ sheet_of feeds b.match_name
    → IsFindingOf a.sheet budget a.finding → IsFindingOf b.sheet budget b.finding → a ≡ b
part_same budget feeds a b e p q f g =
    let sheets : a.sheet ≡ b.sheet = p ∙ (ap (sheet_of feeds) e ∙ sym q) in
    let found : a.finding ≡ b.finding = finding_one b.sheet budget a.finding b.finding (subst (λ (s : List Offer). IsFindingOf s budget a.finding) sheets f) g in
    let N : List ℕ → MatchPart = λ x. record { match_name = x; sheet = a.sheet; finding = a.finding } in
    let S : List Offer → MatchPart = λ x. record { match_name = b.match_name; sheet = x; finding = a.finding } in
    let F : Finding → MatchPart = λ x. record { match_name = b.match_name; sheet = b.sheet; finding = x } in
    ap N e ∙ (ap S sheets ∙ ap F found)

in_other : (budget : ℕ) (feeds : List SeenFeed) (xs ys : List MatchPart) → AreMatchesOf budget feeds xs → AreMatchesOf budget feeds ys → (z : MatchPart) → IsIn z xs → IsIn z ys
in_other budget feeds xs ys p q z i =
    let IsQuotedPart : MatchPart → Type 0 = λ part. IsQuoted feeds part.match_name in
    let HasSheet : MatchPart → Type 0 = λ part. part.sheet ≡ sheet_of feeds part.match_name in
    let HasFinding : MatchPart → Type 0 = λ part. IsFindingOf part.sheet budget part.finding in
    let quoted : IsQuoted feeds z.match_name = all_at IsQuotedPart xs z p.only i in
    let found = any_in (λ part. part.match_name ≡ z.match_name) ys (q.quoted z.match_name quoted) in
    let same : found.0 ≡ z = part_same budget feeds found.0 z found.2 (all_at HasSheet ys found.0 q.sheets found.1) (all_at HasSheet xs z p.sheets i)
    (all_at HasFinding ys found.0 q.found found.1) (all_at HasFinding xs z p.found i) in
    subst (λ (part : MatchPart). IsIn part ys) same found.1

pub one_list : (budget : ℕ) (feeds : List SeenFeed) (xs ys : List MatchPart) → AreMatchesOf budget feeds xs → AreMatchesOf budget feeds ys → xs ≡ ys
one_list budget feeds xs ys p q =
    same_lists NameIsBelow below_not xs ys (below_of NameIsBelow xs p.rising) (below_of NameIsBelow ys q.rising)
    (in_other budget feeds xs ys p q) (in_other budget feeds ys xs q p)

pub one_report : (budget : ℕ) (feeds : List SeenFeed) (bytes other : List ℕ) → IsReport budget feeds bytes → IsReport budget feeds other → bytes ≡ other
one_report budget feeds bytes other p q =
    p.text ∙ (ap (report_text budget (map (λ seen. seen.part) feeds)) (one_list budget feeds p.matches q.matches p.are q.are) ∙ sym q.text)

pub all_right : (budget : ℕ) (feeds : List SeenFeed) (matches : List MatchPart) → AreMatchesOf budget feeds matches → All (λ part. IsRight part.sheet part.finding) matches
all_right budget feeds matches p = λ i d h. finding_right _ budget _ (p.found i d h)
