-- Which lines of feeds a body holds, and that judging adds none.
use Rattle.std.proofs.Common.{ℕ, ◌≡◌, Bool, true, false, cond, List, [], ◌∷◌, length, zero, suc, refl, ap, ◌∙◌, Some, None}
use Rattle.std.specs.Prelude.{◌==◌, ◌||◌, Option}
use Rattle.std.specs.List.{cons_option, list_any}
use Rattle.std.proofs.lemmas.List.{append-nil}
use Rattle.std.proofs.lemmas.List.Elements.{filter_map-append}
use Rattle.scan_types.specs.declared.rule.VoidRule.{VoidRule}
use Rattle.scan_types.specs.declared.selection.Selection.{Selection}
use Rattle.scan_types.specs.declared.offer.Offer.{Offer}
use Rattle.finding_definitions.specs.declared.finding.Finding.{Finding}
use Rattle.feed_definitions.specs.declared.accepted.Accepted.{Accepted}
use Rattle.feed_definitions.specs.declared.accepted.Change.{Change}
use Rattle.feed_definitions.specs.declared.accepted.Change.TheVariants.{Quote, Withdraw}
use Rattle.board_definitions.specs.declared.event.FeedStop.{FeedStop}
use Rattle.board_definitions.specs.declared.event.Entry.{Entry}
use Rattle.board_definitions.specs.Entries.{pins}
use Rattle.report_laws.specs.Boards.{line_in}
use Rattle.desk_definitions.specs.Judged.{pinned_entry, filed_entry, JudgesSoMany, IsJudged}
use Rattle.desk_definitions.specs.Lines.{key_of, event_of, body_of}
use Rattle.desk_report.specs.Histories.{lines_in, HasNoPins}

judged_many : (rules : List (Option VoidRule)) (allows : List Offer → Finding → Type 0) (caller n : ℕ) (before after : List Entry) → JudgesSoMany rules allows caller n before after → (feed : ℕ) → lines_in feed after ≡ lines_in feed before
judged_many rules allows caller zero before after same feed = ap (lines_in feed) same
judged_many rules allows caller (suc n) before after (middle, steps, last) feed =
    let more : List Entry = pinned_entry caller last.match_name ∷ filed_entry caller (length middle) last.finding ∷ [] in
    ap (lines_in feed) last.entries
    ∙ (filter_map-append (λ (entry : Entry). line_in feed entry.event) middle more ∙ (append-nil (lines_in feed middle) ∙ judged_many rules allows caller n before middle steps feed))

pub judged_lines : (rules : List (Option VoidRule)) (allows : List Offer → Finding → Type 0) (caller : ℕ) (before after : List Entry) → IsJudged rules allows caller before after → (feed : ℕ) → lines_in feed after ≡ lines_in feed before
judged_lines rules allows caller before after judged feed = judged_many rules allows caller judged.0 before after judged.1 feed

-- the line of an entry
one_line : (feed k number : ℕ) (name : List ℕ) (selection : Selection) (change : Change)
    → line_in k (event_of (record { feed = feed; match_name = name; selection = selection }) number change)
    ≡ cond (feed == k) (Some (record { line = number; match_name = name; selection = selection; change = change })) None
one_line feed k number name selection (Quote odds limit) = refl
one_line feed k number name selection Withdraw = refl

behind : (b : Bool) (line : Accepted) (lines : List Accepted) → cons_option (cond b (Some line) None) (cond b lines []) ≡ cond b (line ∷ lines) []
behind true line lines = refl
behind false line lines = refl

no_line : (b : Bool) → [] ≡ cond {A = List Accepted} b [] []
no_line true = refl
no_line false = refl

pub body_lines : (feed k : ℕ) (lines : List Accepted) (stop : FeedStop) → lines_in k (body_of feed lines stop) ≡ cond (feed == k) lines []
body_lines feed k [] stop = no_line (feed == k)
body_lines feed k (line ∷ lines) stop =
    ap (λ (o : Option Accepted). cons_option o (lines_in k (body_of feed lines stop))) (one_line feed k line.line line.match_name line.selection line.change)
    ∙ (ap (cons_option (cond (feed == k) (Some line) None)) (body_lines feed k lines stop) ∙ behind (feed == k) line lines)

no_pin : (feed number : ℕ) (line : Accepted) (change : Change) (m : List ℕ) → pins m (event_of (key_of feed line) number change) ≡ false
no_pin feed number line (Quote odds limit) m = refl
no_pin feed number line Withdraw m = refl

pub body_unpinned : (feed : ℕ) (lines : List Accepted) (stop : FeedStop) → HasNoPins (body_of feed lines stop)
body_unpinned feed [] stop m = refl
body_unpinned feed (line ∷ lines) stop m =
    ap (λ (b : Bool). b || list_any (λ (entry : Entry). pins m entry.event) (body_of feed lines stop)) (no_pin feed line.line line line.change m) ∙ body_unpinned feed lines stop m
