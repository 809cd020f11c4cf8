-- What is moved out of the ends of feeds, written, and moved back.
use Rattle.std.proofs.Common.{◌≡◌, ℕ, Bool, true, Some, List, [], ◌∷◌, length, map, zip, refl, sym, ap, ap₂, ◌∙◌, subst}
use Rattle.std.specs.Prelude.{Option, IsTrue}
use Rattle.std.specs.List.{AllZip}
use Rattle.std.proofs.Props.{props}
use Rattle.feed_definitions.specs.declared.cause.Refusal.{Refusal}
use Rattle.feed_definitions.specs.declared.header.Header.{Header}
use Rattle.board_definitions.specs.declared.event.FeedStop.{FeedStop}
use Rattle.report_definitions.specs.declared.feed_part.FeedPart.{FeedPart}
use Rattle.report_definitions.specs.Stops.{is_reported}
use Rattle.report_definitions.specs.Seen.{SeenFeed}
use Rattle.desk_definitions.specs.declared.feed_end.FeedEnd.{FeedEnd}
use Rattle.desk_definitions.specs.Reads.{FeedRead, IsSeenAs, AreSeenAs}
use Rattle.desk_once.specs.Reports.{IsPartOf, emptied, filled}

-- ---- parts of the same words are the same

true_once : (b : Bool) → IsProp (b ≡ true)
true_once b = hlevel props

abbrev made : Header → ℕ → List Refusal → (stop : FeedStop) → IsTrue (is_reported stop) → FeedPart
made header lines refusals stop is = record { header = header; lines = lines; refusals = refusals; stop = stop; stop_is = is }

part_same : (a b : FeedPart) → a.header ≡ b.header → a.lines ≡ b.lines → a.refusals ≡ b.refusals → a.stop ≡ b.stop → a ≡ b
part_same a b header lines refusals stop =
    let P : FeedStop → Type 0 = λ s. (p : IsTrue (is_reported s)) → made b.header b.lines b.refusals a.stop a.stop_is ≡ made b.header b.lines b.refusals s p in
    let here : P a.stop = λ p. ap (made b.header b.lines b.refusals a.stop) (true_once (is_reported a.stop) a.stop_is p) in
    ap (λ h. made h a.lines a.refusals a.stop a.stop_is) header
    ∙ ap (λ n. made b.header n a.refusals a.stop a.stop_is) lines
    ∙ ap (λ rs. made b.header b.lines rs a.stop a.stop_is) refusals
    ∙ subst P stop here b.stop_is

same_header : (a b : Header) → Some a ≡ Some b → a ≡ b
same_header a b e = cc

one_part : {S : Type 0} (end : FeedEnd S) (read : FeedRead) (seen : SeenFeed) (part : FeedPart) → IsSeenAs end read seen → IsPartOf end part → seen.part ≡ part
one_part end read seen part seen_as is = part_same seen.part part (same_header seen.part.header part.header (sym seen_as.header ∙ is.header)) (seen_as.lines ∙ sym is.lines) (seen_as.refusals ∙ sym is.refusals) (seen_as.stop ∙ sym is.stop)

-- the parts are those of the feeds as the report sees them
pub seen_parts : {S : Type 0} (ends : List (FeedEnd S)) (reads : List FeedRead) (seen : List SeenFeed) (parts : List FeedPart) → AreSeenAs ends reads seen → AllZip IsPartOf ends parts → map (λ (s : SeenFeed). s.part) seen ≡ parts
seen_parts [] [] [] [] seen_as are = refl
seen_parts [] [] [] (part ∷ parts) seen_as are = absurd are
seen_parts [] [] (s ∷ seen) parts seen_as are = absurd seen_as
seen_parts [] (read ∷ reads) seen parts seen_as are = absurd seen_as
seen_parts (end ∷ ends) [] seen parts seen_as are = absurd seen_as
seen_parts (end ∷ ends) (read ∷ reads) [] parts seen_as are = absurd seen_as
seen_parts (end ∷ ends) (read ∷ reads) (s ∷ seen) [] seen_as are = absurd are
seen_parts (end ∷ ends) (read ∷ reads) (s ∷ seen) (part ∷ parts) seen_as are = ap₂ (λ p ps. p ∷ ps) (one_part end read s part seen_as.0 are.0) (seen_parts ends reads seen parts seen_as.1 are.1)

-- ---- what was moved out is moved back

refilled : {S : Type 0} (end : FeedEnd S) (part : FeedPart) → IsPartOf end part → filled (emptied end, part) ≡ end
refilled {S} end part is =
    let with : List Refusal → FeedEnd S = λ refusals. record end { refusals = refusals } in
    ap with is.refusals

pub restored : {S : Type 0} (ends : List (FeedEnd S)) (parts : List FeedPart) → AllZip IsPartOf ends parts → map filled (zip (map emptied ends) parts) ≡ ends
restored [] [] are = refl
restored [] (part ∷ parts) are = absurd are
restored (end ∷ ends) [] are = absurd are
restored (end ∷ ends) (part ∷ parts) are = ap₂ (λ e es. e ∷ es) (refilled end part are.0) (restored ends parts are.1)
