-- What the bodies of feeds put on the board, feed by feed.
use Rattle.std.proofs.Common.{◌≡◌, ◌≢◌, ℕ, zero, suc, ◌+◌, ◌<◌, ◌≤◌, Bool, true, false, cond, ◌||◌, List, [], ◌∷◌, ◌++◌, length, Option, Some, None, refl, sym, ap, ap₂, ◌∙◌, subst, arith, append-nil, append_assoc}
use Rattle.std.specs.Prelude.{◌==◌}
use Rattle.std.specs.List.{cons_option, filter_map, list_any}
use Rattle.std.proofs.lemmas.Bool.Decides.{nat_tests}
use Rattle.std.proofs.lemmas.List.Elements.{filter_map-append}
use Rattle.std.proofs.lemmas.List.Folds.{list_any-append}
use Rattle.feed_definitions.specs.declared.accepted.Accepted.{Accepted}
use Rattle.feed_definitions.specs.declared.accepted.Change.{Change}
use Rattle.feed_definitions.specs.declared.accepted.Change.TheVariants.{Quote, Withdraw}
use Rattle.feed_definitions.specs.Feed.{accepted_in}
use Rattle.board_definitions.specs.declared.event.Event.{Event}
use Rattle.board_definitions.specs.declared.event.Entry.{Entry}
use Rattle.board_definitions.specs.declared.event.FeedStop.{FeedStop}
use Rattle.board_definitions.specs.Entries.{ends}
use Rattle.board_definitions.specs.Pins.{has_ended}
use Rattle.report_laws.specs.Boards.{line_in}
use Rattle.feed_board_laws.specs.Bodies.{lines_in}
use Rattle.desk_definitions.specs.declared.feed_end.FeedEnd.{FeedEnd}
use Rattle.desk_definitions.specs.Lines.{body_of, ended_entry, entries_of, entry_of, event_of, key_of}
use Rattle.desk_definitions.specs.History.{bodies_of}
use Rattle.desk_definitions.specs.Reads.{FeedRead}

-- an accepted line's entry ends no feed
entry_ends : (number k : ℕ) (line : Accepted) → ends k (entry_of number line).event ≡ false
entry_ends number k line = go line.change
  where
    go : (change : Change) → ends k (event_of (key_of number line) line.line change) ≡ false
    go (Quote odds limit) = refl
    go Withdraw = refl

entries_end : (number k : ℕ) (lines : List Accepted) → has_ended (entries_of number lines) k ≡ false
entries_end number k [] = refl
entries_end number k (line ∷ lines) = ap₂ (λ (a b : Bool). a || b) (entry_ends number k line) (entries_end number k lines)

-- the body of another feed does not end the feed
body_ends : (number k : ℕ) (lines : List Accepted) (stop : FeedStop) → number < k → has_ended (body_of number lines stop) k ≡ false
body_ends number k lines stop lt =
    let other : (number == k) ≡ false = grind (arith, nat_tests) in
    list_any-append (λ (entry : Entry). ends k entry.event) (entries_of number lines) (ended_entry number stop ∷ [])
    ∙ ap₂ (λ (a b : Bool). a || (b || false)) (entries_end number k lines) other

-- its accepted line is the line of no other feed
entry_line : (number k : ℕ) (line : Accepted) → line_in k (entry_of number line).event ≡ cond (number == k) (Some line) None
entry_line number k line = go line.change refl
  where
    go : (change : Change) → line.change ≡ change → line_in k (event_of (key_of number line) line.line change) ≡ cond (number == k) (Some line) None
    go (Quote odds limit) e =
        (let same : line ≡ record { line = line.line; match_name = line.match_name; selection = line.selection; change = Quote odds limit } =
        ap (λ c. record { line = line.line; match_name = line.match_name; selection = line.selection; change = c }) e in
        ap (λ l. cond (number == k) (Some l) None) (sym same))
    go Withdraw e =
        (let same : line ≡ record { line = line.line; match_name = line.match_name; selection = line.selection; change = Withdraw } =
        ap (λ c. record { line = line.line; match_name = line.match_name; selection = line.selection; change = c }) e in
        ap (λ l. cond (number == k) (Some l) None) (sym same))

entries_lines : (number k : ℕ) (lines : List Accepted) → lines_in (entries_of number lines) k ≡ cond (number == k) lines []
entries_lines number k [] = go (number == k)
  where
    go : (b : Bool) → ◌≡◌ {A = List Accepted} [] (cond b [] [])
    go true = refl
    go false = refl
entries_lines number k (line ∷ lines) =
    ap₂ (λ (o : Option Accepted) (rest : List Accepted). cons_option o rest) (entry_line number k line) (entries_lines number k lines) ∙ go (number == k)
  where
    go : (b : Bool) → cons_option (cond b (Some line) None) (cond b lines []) ≡ cond b (line ∷ lines) []
    go true = refl
    go false = refl

body_lines : (number k : ℕ) (lines : List Accepted) (stop : FeedStop) → lines_in (body_of number lines stop) k ≡ cond (number == k) lines []
body_lines number k lines stop =
    filter_map-append (λ (entry : Entry). line_in k entry.event) (entries_of number lines) (ended_entry number stop ∷ []) ∙ append-nil (lines_in (entries_of number lines) k) ∙ entries_lines number k lines

module _ {S : Type 0} where
  -- a feed that comes later has not ended
  pub not_ended : (number : ℕ) (all : List (FeedEnd S)) (reads : List FeedRead) (k : ℕ) → number + length all ≤ k → has_ended (bodies_of number all reads) k ≡ false
  not_ended number [] reads k later = refl
  not_ended number (end ∷ all) [] k later = refl
  not_ended number (end ∷ all) (read ∷ reads) k later =
      list_any-append (λ (entry : Entry). ends k entry.event) (body_of number (accepted_in read.lines) end.stop) (bodies_of (number + 1) all reads)
      ∙ ap₂ (λ (a b : Bool). a || b) (body_ends number k (accepted_in read.lines) end.stop (omega (arith, later))) (not_ended (number + 1) all reads k (omega (arith, later)))

  -- and has no line yet
  pub no_lines : (number : ℕ) (all : List (FeedEnd S)) (reads : List FeedRead) (k : ℕ) → number + length all ≤ k → lines_in (bodies_of number all reads) k ≡ []
  no_lines number [] reads k later = refl
  no_lines number (end ∷ all) [] k later = refl
  no_lines number (end ∷ all) (read ∷ reads) k later =
      let other : (number == k) ≡ false = grind (arith, nat_tests) in
      filter_map-append (λ (entry : Entry). line_in k entry.event) (body_of number (accepted_in read.lines) end.stop) (bodies_of (number + 1) all reads)
      ∙ ap₂ (λ (a b : List Accepted). a ++ b) (body_lines number k (accepted_in read.lines) end.stop ∙ ap (λ b. cond b (accepted_in read.lines) []) other) (no_lines (number + 1) all reads k (omega (arith, later)))

  -- one more body
  pub bodies_more : (number : ℕ) (all : List (FeedEnd S)) (reads : List FeedRead) (end : FeedEnd S) (read : FeedRead) → length reads ≡ length all
      → bodies_of number (all ++ end ∷ []) (reads ++ read ∷ []) ≡ bodies_of number all reads ++ body_of (number + length all) (accepted_in read.lines) end.stop
  bodies_more number [] [] end read same =
      let e : number ≡ number + 0 = omega arith in
      append-nil (body_of number (accepted_in read.lines) end.stop) ∙ ap (λ k. body_of k (accepted_in read.lines) end.stop) e
  bodies_more number [] (other ∷ reads) end read same = absurd (omega (arith, same))
  bodies_more number (first ∷ all) [] end read same = absurd (omega (arith, same))
  bodies_more number (first ∷ all) (other ∷ reads) end read same =
      let e : number + 1 + length all ≡ number + suc (length all) = omega arith in
      ap (λ xs. body_of number (accepted_in other.lines) first.stop ++ xs) (bodies_more (number + 1) all reads end read (omega (arith, same)))
      ∙ ap (λ k. body_of number (accepted_in other.lines) first.stop ++ (bodies_of (number + 1) all reads ++ body_of k (accepted_in read.lines) end.stop)) e
      ∙ sym (append_assoc (body_of number (accepted_in other.lines) first.stop) (bodies_of (number + 1) all reads) (body_of (number + suc (length all)) (accepted_in read.lines) end.stop))
