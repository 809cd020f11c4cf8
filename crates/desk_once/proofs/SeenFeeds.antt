-- The feeds of a run as the report sees them: there are such feeds, the judged history holds their lines, and has their findings.
use Rattle.std.proofs.Common.{◌≡◌, ℕ, zero, suc, ◌+◌, ◌<◌, Bool, true, false, cond, List, [], ◌∷◌, ◌++◌, Option, Some, None, refl, sym, ap, ◌∙◌, arith, append-nil}
use Rattle.std.specs.Prelude.{◌==◌, All, IsSome, IsTrue, option_map}
use Rattle.std.proofs.lemmas.Bool.{or_from}
use Rattle.std.proofs.lemmas.Bool.Decides.{nat_tests}
use Rattle.std.proofs.lemmas.List.Elements.{All-head, All-tail, filter_map-append}
use Rattle.std.proofs.lemmas.List.Folds.{list_any-append}
use Rattle.scan_types.specs.declared.offer.Offer.{Offer}
use Rattle.scan_types.specs.declared.rule.VoidRule.{VoidRule}
use Rattle.finding_definitions.specs.declared.finding.Finding.{Finding}
use Rattle.feed_definitions.specs.declared.accepted.Accepted.{Accepted}
use Rattle.feed_definitions.specs.declared.header.Header.{Header}
use Rattle.feed_definitions.specs.Feed.{accepted_in}
use Rattle.board_definitions.specs.declared.event.Entry.{Entry}
use Rattle.board_definitions.specs.Entries as entries
use Rattle.report_definitions.specs.declared.feed_part.FeedPart.{FeedPart}
use Rattle.report_definitions.specs.Stops.{is_reported}
use Rattle.report_definitions.specs.Seen.{SeenFeed, lines_of, rule_of}
use Rattle.report_laws.specs.Boards.{HoldsLinesOf, line_in}
use Rattle.desk_report.specs.Histories.{HasNoPins, lines_in}
use Rattle.desk_report.specs.Judged.{HasFindings}
use Rattle.desk_report.proofs.Bodies.{body_lines, body_unpinned, judged_lines}
use Rattle.desk_report.proofs.Judged.{judged_has}
use Rattle.desk_definitions.specs.declared.feed_end.FeedEnd.{FeedEnd}
use Rattle.desk_definitions.specs.Lines.{body_of}
use Rattle.desk_definitions.specs.History.{bodies_of}
use Rattle.desk_definitions.specs.Judged.{IsAllJudged}
use Rattle.desk_definitions.specs.Reads.{AreRead, AreReadSo, AreSeenAs, FeedRead, IsSeenAs, rule_at}

header_from : (o : Option Header) → IsSome o → (header : Header) × (o ≡ Some header)
header_from None some = absurd (cc)
header_from (Some header) some = (header, refl)

-- behind a body of another feed, and behind the body of this one
lines_behind : (own k : ℕ) (lines : List Accepted) (later : List Entry) (body : List Entry) → lines_in k body ≡ cond (own == k) lines [] → (b : Bool) → (own == k) ≡ b
    → lines_in k (body ++ later) ≡ cond b lines [] ++ lines_in k later
lines_behind own k lines later body of_body b test =
    filter_map-append (λ (entry : Entry). line_in k entry.event) body later
    ∙ ap (λ (xs : List Accepted). xs ++ lines_in k later) (of_body ∙ ap (λ (c : Bool). cond c lines []) test)

module _ {S : Type 0} where
  -- bodies of later feeds have no line of the feed
  no_line_before : (number : ℕ) (ends : List (FeedEnd S)) (reads : List FeedRead) (k : ℕ) → k < number → lines_in k (bodies_of number ends reads) ≡ []
  no_line_before number [] reads k before = refl
  no_line_before number (end ∷ ends) [] k before = refl
  no_line_before number (end ∷ ends) (read ∷ reads) k before =
      let other : (number == k) ≡ false = grind (arith, nat_tests) in
      lines_behind number k (accepted_in read.lines) (bodies_of (number + 1) ends reads) (body_of number (accepted_in read.lines) end.stop)
      (body_lines number k (accepted_in read.lines) end.stop) false other
      ∙ no_line_before (number + 1) ends reads k (omega (arith, before))

  -- the bodies hold the lines of each feed, by its number
  bodies_lines : (number : ℕ) (ends : List (FeedEnd S)) (reads : List FeedRead) (seen : List SeenFeed) → AreSeenAs ends reads seen → (place k : ℕ) → k ≡ number + place
      → lines_in k (bodies_of number ends reads) ≡ lines_of seen place
  bodies_lines number [] [] [] are place k at = refl
  bodies_lines number [] [] (one ∷ others) are place k at = absurd are
  bodies_lines number [] (read ∷ reads) seen are place k at = absurd are
  bodies_lines number (end ∷ ends) [] seen are place k at = absurd are
  bodies_lines number (end ∷ ends) (read ∷ reads) [] are place k at = absurd are
  bodies_lines number (end ∷ ends) (read ∷ reads) (one ∷ others) are zero k at =
      let own : (number == k) ≡ true = grind (arith, nat_tests) in
      lines_behind number k (accepted_in read.lines) (bodies_of (number + 1) ends reads) (body_of number (accepted_in read.lines) end.stop)
      (body_lines number k (accepted_in read.lines) end.stop) true own
      ∙ ap (λ (xs : List Accepted). accepted_in read.lines ++ xs) (no_line_before (number + 1) ends reads k (omega (arith, at)))
      ∙ append-nil (accepted_in read.lines)
      ∙ sym are.0.accepted
  bodies_lines number (end ∷ ends) (read ∷ reads) (one ∷ others) are (suc place) k at =
      let other : (number == k) ≡ false = grind (arith, nat_tests) in
      lines_behind number k (accepted_in read.lines) (bodies_of (number + 1) ends reads) (body_of number (accepted_in read.lines) end.stop)
      (body_lines number k (accepted_in read.lines) end.stop) false other
      ∙ bodies_lines (number + 1) ends reads others are.1 place k (omega (arith, at))

  -- the rules are those of the headers
  seen_rules : (ends : List (FeedEnd S)) (reads : List FeedRead) (seen : List SeenFeed) → AreSeenAs ends reads seen → (feed : ℕ) → rule_at ends feed ≡ rule_of seen feed
  seen_rules [] [] [] are feed = refl
  seen_rules [] [] (one ∷ others) are feed = absurd are
  seen_rules [] (read ∷ reads) seen are feed = absurd are
  seen_rules (end ∷ ends) [] seen are feed = absurd are
  seen_rules (end ∷ ends) (read ∷ reads) [] are feed = absurd are
  seen_rules (end ∷ ends) (read ∷ reads) (one ∷ others) are zero = ap (λ (o : Option Header). option_map (λ (header : Header). header.rule) o) are.0.header
  seen_rules (end ∷ ends) (read ∷ reads) (one ∷ others) are (suc feed) = seen_rules ends reads others are.1 feed

  -- the bodies pin no match
  pub bodies_unpinned : (number : ℕ) (ends : List (FeedEnd S)) (reads : List FeedRead) → HasNoPins (bodies_of number ends reads)
  bodies_unpinned number [] reads match_name = refl
  bodies_unpinned number (end ∷ ends) [] match_name = refl
  bodies_unpinned number (end ∷ ends) (read ∷ reads) match_name =
      list_any-append (λ (entry : Entry). entries.pins match_name entry.event) (body_of number (accepted_in read.lines) end.stop) (bodies_of (number + 1) ends reads)
      ∙ or_from _ _ (body_unpinned number (accepted_in read.lines) end.stop match_name) (bodies_unpinned (number + 1) ends reads match_name)

  -- the judged history holds the lines of the feeds, whoever sees them
  pub judged_holds : (rules : List (Option VoidRule)) (allows : List Offer → Finding → Type 0) (caller : ℕ) (ends : List (FeedEnd S)) (reads : List FeedRead) (seen : List SeenFeed) (after : List Entry)
      → AreSeenAs ends reads seen → ((feed : ℕ) → entries.rule_of rules feed ≡ rule_at ends feed) → IsAllJudged rules allows caller (bodies_of 0 ends reads) after → HoldsLinesOf seen rules after
  judged_holds rules allows caller ends reads seen after are same judged = record {
    rules_are = λ feed. same feed ∙ seen_rules ends reads seen are feed;
    lines_are = λ feed. judged_lines rules allows caller (bodies_of 0 ends reads) after judged.judged feed ∙ bodies_lines 0 ends reads seen are feed feed (omega arith);
  }

  -- each match that is quoted has its finding
  pub judged_findings : (rules : List (Option VoidRule)) (allows : List Offer → Finding → Type 0) (caller : ℕ) (ends : List (FeedEnd S)) (reads : List FeedRead) (after : List Entry)
      → IsAllJudged rules allows caller (bodies_of 0 ends reads) after → HasFindings after
  judged_findings rules allows caller ends reads after judged = judged_has rules allows caller (bodies_of 0 ends reads) after (bodies_unpinned 0 ends reads) judged

module _ {S : Type 0} (left : S → Option (List ℕ)) (faults : S → ℕ) (told : ℕ → Option (List ℕ)) where
  -- feeds that were read are seen by the report
  pub seen_feeds : (number : ℕ) (ends : List (FeedEnd S)) (reads : List FeedRead) → AreReadSo left faults told number ends reads → All (λ end. IsSome end.header) ends → AreRead ends
      → (seen : List SeenFeed) × AreSeenAs ends reads seen
  seen_feeds number [] [] read headers stopped = ([], tt)
  seen_feeds number [] (one ∷ reads) read headers stopped = absurd read
  seen_feeds number (end ∷ ends) [] read headers stopped = absurd read
  seen_feeds number (end ∷ ends) (one ∷ reads) read headers stopped =
      let header = header_from end.header (All-head (λ (e : FeedEnd S). IsSome e.header) end ends headers) in
      let stop : IsTrue (is_reported end.stop) = All-head (λ (e : FeedEnd S). IsTrue (is_reported e.stop)) end ends stopped in
      let others =
      seen_feeds (number + 1) ends reads read.1 (All-tail (λ (e : FeedEnd S). IsSome e.header) end ends headers)
      (All-tail (λ (e : FeedEnd S). IsTrue (is_reported e.stop)) end ends stopped)
      in
      let part : FeedPart = record { header = header.0; lines = end.lines; refusals = end.refusals; stop = end.stop; stop_is = stop } in
      let seen : SeenFeed = record { part = part; accepted = accepted_in one.lines } in
      let is : IsSeenAs end one seen = record { header = header.1; lines = refl; refusals = refl; stop = refl; accepted = refl } in
      (seen ∷ others.0, (is, others.1))

  -- and the judged history holds their lines
  pub seen_and_held : (rules : List (Option VoidRule)) (allows : List Offer → Finding → Type 0) (caller : ℕ) (ends : List (FeedEnd S)) (reads : List FeedRead) (after : List Entry)
      → AreReadSo left faults told 0 ends reads → All (λ end. IsSome end.header) ends → AreRead ends → ((feed : ℕ) → entries.rule_of rules feed ≡ rule_at ends feed)
      → IsAllJudged rules allows caller (bodies_of 0 ends reads) after → (seen : List SeenFeed) × AreSeenAs ends reads seen × HoldsLinesOf seen rules after
  seen_and_held rules allows caller ends reads after read headers stopped same judged =
      let found = seen_feeds 0 ends reads read headers stopped in
      (found.0, found.1, judged_holds rules allows caller ends reads found.0 after found.1 same judged)
