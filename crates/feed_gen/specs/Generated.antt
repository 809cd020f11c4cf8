-- The feeds that are made from a number.
use Rattle.std.specs.Prelude.{ℕ, ◌+◌, ◌*◌, ◌/◌, ◌%◌, ◌^◌, ◌-◌, ◌==◌, ◌&&◌, Bool, true, false, List, [], ◌∷◌, ◌++◌, zero, suc, codes, decimal, if◌then◌else◌}
use Rattle.std.specs.List.{flat_map}
use Rattle.std.proofs.Math.ListN.{get_or}
use Rattle.scan_types.specs.declared.rule.VoidRule.{VoidRule}
use Rattle.scan_types.specs.declared.rule.VoidRule.TheVariants.{Void, Score, Decided}
use Rattle.number_definitions.specs.Spellings.{last_digit, odds_text}
use Rattle.bet_definitions.specs.Bets.{rule_text}
use Rattle.feed_gen.specs.declared.made_line.MadeLine.{MadeLine}

-- the state of the numbers after one more draw: Knuth's linear congruential step modulo 2^64
abbrev pub next_state : ℕ → ℕ
next_state state = (state * 6364136223846793005 + 1442695040888963407) % 2 ^ 64

-- what a draw that leads to this state gives, below a bound
abbrev pub drawn : ℕ → ℕ → ℕ
drawn state bound = state / 2 ^ 33 % bound

-- the state before the first draw of a feed
abbrev pub first_state : ℕ → ℕ → ℕ
first_state seed feed = (seed + feed) % 2 ^ 64

-- the selections that are quoted, each with the least odds, in thousandths
abbrev pub choices : List (List ℕ × ℕ)
choices =
    (codes "1x2 home", 2050)
    ∷ (codes "1x2 draw", 3300)
    ∷ (codes "1x2 away", 3300)
    ∷ (codes "ah -0.25 home", 1800)
    ∷ (codes "ah -0.25 away", 1800)
    ∷ (codes "total 2.50 over", 1850)
    ∷ (codes "total 2.50 under", 1800)
    ∷ []

-- the selection of this number
abbrev pub choice_at : ℕ → List ℕ × ℕ
choice_at number = get_or choices number ([], 0)

-- the line is about this selection of this match
abbrev pub is_about : ℕ → ℕ → MadeLine → Bool
is_about match_number choice line = (line.match_number == match_number) && (line.choice == choice)

-- the selection stands after these lines, of which the latest comes first: the latest line about it is a quote
abbrev pub stands : List MadeLine → ℕ → ℕ → Bool
stands [] match_number choice = false
stands (line ∷ earlier) match_number choice =
    if is_about match_number choice line then line.is_quote else stands earlier match_number choice

-- the five states that one line takes from a state: of match, selection, odds, limit, and of whether the line withdraws what stands
pub record Drawn : Type 0 where
  pub of_match : ℕ
  pub of_choice : ℕ
  pub of_odds : ℕ
  pub of_limit : ℕ
  pub of_change : ℕ

abbrev pub drawn_from : ℕ → Drawn
drawn_from state =
    let a = next_state state in
    let b = next_state a in
    let c = next_state b in
    let d = next_state c in
    record { of_match = a; of_choice = b; of_odds = c; of_limit = d; of_change = next_state d }

-- the line that these draws make, for so many matches, after these lines: one line in sixteen withdraws, if its selection stands
abbrev pub line_of : Drawn → ℕ → List MadeLine → MadeLine
line_of draws matches earlier =
    let match_number = drawn draws.of_match matches in
    let choice = drawn draws.of_choice 7 in
    record {
      match_number = match_number;
      choice = choice;
      odds = (choice_at choice).1 + 10 * drawn draws.of_odds 21;
      limit = 1000 * (drawn draws.of_limit 100 + 1);
      is_quote = if drawn draws.of_change 16 == 0 then (if stands earlier match_number choice then false else true) else true;
    }

-- so many lines from a state on, after these lines
abbrev pub lines_from : ℕ → ℕ → ℕ → List MadeLine → List MadeLine
lines_from matches zero state earlier = []
lines_from matches (suc count) state earlier =
    let draws = drawn_from state in
    let line = line_of draws matches earlier in
    line ∷ lines_from matches count draws.of_change (line ∷ earlier)

-- the name of a match: `m` and its number in three digits
abbrev pub match_text : ℕ → List ℕ
match_text number = 109 ∷ last_digit (number / 100) ∷ last_digit (number / 10) ∷ last_digit number ∷ []

-- the match and the selection of a line
abbrev pub bet_text : MadeLine → List ℕ
bet_text line = match_text line.match_number ++ 32 ∷ (choice_at line.choice).0

-- a line, with the line feed that ends it
abbrev pub line_text : MadeLine → List ℕ
line_text line =
    if line.is_quote then codes "quote " ++ (bet_text line ++ 32 ∷ (odds_text line.odds ++ 32 ∷ (decimal line.limit ++ codes "\n")))
    else codes "withdraw " ++ (bet_text line ++ codes "\n")

-- the rules of the books by turns
abbrev pub rule_of_feed : ℕ → VoidRule
rule_of_feed feed = get_or (Void ∷ Score ∷ Decided ∷ []) (feed % 3) Void

-- the header of a feed
abbrev pub header_text : ℕ → List ℕ
header_text feed = codes "feed 1 book" ++ (decimal feed ++ 32 ∷ (rule_text (rule_of_feed feed) ++ codes "\n"))

-- the feed of this number that is made from a seed, over so many matches and of so many lines, the header among them
unfoldable pub generated_text : ℕ → ℕ → ℕ → ℕ → List ℕ
generated_text seed feed matches lines =
    header_text feed ++ flat_map line_text (lines_from matches (lines - 1) (first_state seed feed) [])
