-- The text of a report is the text of its lines one after another.
use Rattle.std.proofs.Common.{◌≡◌, ℕ, List, [], ◌∷◌, ◌++◌, refl, sym, ap, ◌∙◌, map}
use Rattle.std.specs.List.{flat_map, enumerate_from}
use Rattle.std.proofs.lemmas.Grind.{flat_map-append}
use Rattle.std.proofs.lemmas.List.Folds.{flat_map-map}
use Rattle.std.proofs.lemmas.List.{append-nil}
use Rattle.feed_definitions.specs.declared.cause.Refusal.{Refusal}
use Rattle.scan_types.specs.declared.offer.Offer.{Offer}
use Rattle.report_definitions.specs.declared.feed_part.FeedPart.{FeedPart}
use Rattle.report_definitions.specs.declared.match_part.MatchPart.{MatchPart}
use Rattle.report_definitions.specs.declared.line.Line.{Line}
use Rattle.report_definitions.specs.declared.line.Line.TheVariants as line
use Rattle.report_definitions.specs.Report.{report_text, feed_lines, feed_line, match_lines, match_line, offer_line, finding_line, title_line, pivots_line, end_line}
use Rattle.report_definitions.specs.Lines.{ended, lines_text, report_lines, lines_of_feed, lines_of_match, line_of_offer}

-- texts of parts, where the text of each part is that of its lines
parts : {A : Type 0} (text : A → List ℕ) (lines : A → List Line) → ((a : A) → text a ≡ lines_text (lines a)) → (items : List A) → flat_map text items ≡ lines_text (flat_map lines items)
parts text lines each [] = refl
parts text lines each (a ∷ items) =
    ap (λ (t : List ℕ). t ++ flat_map text items) (each a)
    ∙ ap (λ (t : List ℕ). lines_text (lines a) ++ t) (parts text lines each items)
    ∙ sym (flat_map-append ended (lines a) (flat_map lines items))

feed_is : (numbered : ℕ × FeedPart) → feed_lines numbered ≡ lines_text (lines_of_feed numbered)
feed_is numbered = ap (λ (t : List ℕ). feed_line numbered.0 numbered.1 ++ t) (sym (flat_map-map ended (λ (refusal : Refusal). line.Refused numbered.0 refusal) numbered.1.refusals))

match_is : (part : MatchPart) → match_lines part ≡ lines_text (lines_of_match part)
match_is part =
    let offers : List Line = map (λ (offer : Offer). line.Offer (line_of_offer offer)) part.sheet in
    let texts : lines_text offers ≡ flat_map offer_line part.sheet = flat_map-map ended (λ (offer : Offer). line.Offer (line_of_offer offer)) part.sheet in
    let behind : lines_text (offers ++ line.Found part.finding ∷ []) ≡ flat_map offer_line part.sheet ++ finding_line part.finding =
    flat_map-append ended offers (line.Found part.finding ∷ [])
    ∙ ap (λ (t : List ℕ). t ++ (finding_line part.finding ++ [])) texts
    ∙ ap (λ (t : List ℕ). flat_map offer_line part.sheet ++ t) (append-nil (finding_line part.finding)) in
    ap (λ (t : List ℕ). match_line part ++ t) (sym behind)

pub report_is_its_lines : (pivots : ℕ) (feeds : List FeedPart) (matches : List MatchPart) → report_text pivots feeds matches ≡ lines_text (report_lines pivots feeds matches)
unfolding report_text report_lines
report_is_its_lines pivots feeds matches =
    let fs : List Line = flat_map lines_of_feed (enumerate_from 0 feeds) in
    let ms : List Line = flat_map lines_of_match matches in
    let f : flat_map feed_lines (enumerate_from 0 feeds) ≡ lines_text fs = parts feed_lines lines_of_feed feed_is (enumerate_from 0 feeds) in
    let m : flat_map match_lines matches ≡ lines_text ms = parts match_lines lines_of_match match_is matches in
    let last : lines_text (ms ++ line.End ∷ []) ≡ flat_map match_lines matches ++ end_line =
    flat_map-append ended ms (line.End ∷ [])
    ∙ ap (λ (t : List ℕ). t ++ (end_line ++ [])) (sym m)
    ∙ ap (λ (t : List ℕ). flat_map match_lines matches ++ t) (append-nil end_line) in
    let all : lines_text (fs ++ (ms ++ line.End ∷ [])) ≡ flat_map feed_lines (enumerate_from 0 feeds) ++ (flat_map match_lines matches ++ end_line) =
    flat_map-append ended fs (ms ++ line.End ∷ [])
    ∙ ap (λ (t : List ℕ). t ++ lines_text (ms ++ line.End ∷ [])) (sym f)
    ∙ ap (λ (t : List ℕ). flat_map feed_lines (enumerate_from 0 feeds) ++ t) last in
    ap (λ (t : List ℕ). title_line ++ (pivots_line pivots ++ t)) (sym all)
