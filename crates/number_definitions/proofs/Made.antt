-- What a constructor with a range answers: the value of its number.
use Rattle.std.proofs.Common.{◌≡◌, ◌≤◌, ℕ, T, Bool, true, false, leb, ◌&&◌, Option, Some, None, IsSome, IfSome, ◌↔◌, refl, sym, ap, ◌∙◌, subst}
use Rattle.std.specs.Prelude.{ℤ, pos, negsuc, ◌≤ℤ◌}
use Rattle.std.specs.Int.Signed.{le_z}
use Rattle.std.proofs.Props.{props}
use Rattle.std.proofs.lemmas.Float.{T_from_true}
use Rattle.std.proofs.lemmas.Bool.{false≢true, le-leb}
use Rattle.scan_types.specs.declared.odds.Odds.{Odds}
use Rattle.scan_types.specs.declared.line.HandicapLine.{HandicapLine}
use Rattle.scan_types.specs.declared.line.TotalLine.{TotalLine}
use Rattle.number_definitions.specs.Values.{odds_with, odds_if, handicap_with, handicap_if, total_with, total_if, is_within, is_within_signed, within_from, within_signed_from}

at_most_once : (a b : ℕ) → IsProp (a ≤ b)
at_most_once a b = hlevel props

at_most_once_int : (a b : ℤ) → IsProp (a ≤ℤ b)
at_most_once_int a b = hlevel props

pub odds_same : (a b : Odds) → a.thousandths ≡ b.thousandths → a ≡ b
odds_same a b e =
    let P : ℕ → Type 0 = λ n. (p : 1001 ≤ n) (q : n ≤ 1000000) → a ≡ record { thousandths = n; at_least = p; at_most = q } in
    let F : 1001 ≤ a.thousandths → Odds = λ p. record { thousandths = a.thousandths; at_least = p; at_most = a.at_most } in
    let here : P a.thousandths = λ p q.
    let G : a.thousandths ≤ 1000000 → Odds = λ r. record { thousandths = a.thousandths; at_least = p; at_most = r } in
    ap F (at_most_once _ _ a.at_least p) ∙ ap G (at_most_once _ _ a.at_most q) in
    subst P e here b.at_least b.at_most

pub handicap_same : (a b : HandicapLine) → a.quarters ≡ b.quarters → a ≡ b
handicap_same a b e =
    let P : ℤ → Type 0 = λ n. (p : negsuc 19 ≤ℤ n) (q : n ≤ℤ pos 20) → a ≡ record { quarters = n; at_least = p; at_most = q } in
    let F : negsuc 19 ≤ℤ a.quarters → HandicapLine = λ p. record { quarters = a.quarters; at_least = p; at_most = a.at_most } in
    let here : P a.quarters = λ p q.
    let G : a.quarters ≤ℤ pos 20 → HandicapLine = λ r. record { quarters = a.quarters; at_least = p; at_most = r } in
    ap F (at_most_once_int _ _ a.at_least p) ∙ ap G (at_most_once_int _ _ a.at_most q) in
    subst P e here b.at_least b.at_most

pub total_same : (a b : TotalLine) → a.quarters ≡ b.quarters → a ≡ b
total_same a b e =
    let P : ℕ → Type 0 = λ n. (p : 2 ≤ n) (q : n ≤ 30) → a ≡ record { quarters = n; at_least = p; at_most = q } in
    let F : 2 ≤ a.quarters → TotalLine = λ p. record { quarters = a.quarters; at_least = p; at_most = a.at_most } in
    let here : P a.quarters = λ p q.
    let G : a.quarters ≤ 30 → TotalLine = λ r. record { quarters = a.quarters; at_least = p; at_most = r } in
    ap F (at_most_once _ _ a.at_least p) ∙ ap G (at_most_once _ _ a.at_most q) in
    subst P e here b.at_least b.at_most

within_to : (least most n : ℕ) → least ≤ n → n ≤ most → is_within least most n ≡ true
within_to least most n low high = rw (le-leb least n low, le-leb n most high) refl

test_true : (b : Bool) → T b → b ≡ true
test_true true h = refl
test_true false h = absurd h

within_signed_to : (least most z : ℤ) → least ≤ℤ z → z ≤ℤ most → is_within_signed least most z ≡ true
within_signed_to least most z low high = ap (λ b. b && le_z z most) (test_true (le_z least z) low.le) ∙ test_true (le_z z most) high.le

-- odds
with_odds : (odds : Odds) (b : Bool) (is : is_within 1001 1000000 odds.thousandths ≡ b) → b ≡ true → odds_if odds.thousandths b is ≡ Some odds
with_odds odds true is e = ap Some (odds_same _ odds refl)
with_odds odds false is e = absurd (false≢true e)

pub odds_with_odds : (odds : Odds) → odds_with odds.thousandths ≡ Some odds
unfolding odds_with
odds_with_odds odds = with_odds odds (is_within 1001 1000000 odds.thousandths) refl (within_to 1001 1000000 odds.thousandths odds.at_least odds.at_most)

no_odds : (n : ℕ) (b : Bool) (is : is_within 1001 1000000 n ≡ b) → (((1001 ≤ n) × (n ≤ 1000000)) → ⊥) → odds_if n b is ≡ None
no_odds n true is out = absurd (out (within_from 1001 1000000 n is))
no_odds n false is out = refl

pub odds_made : (made : Option Odds) (n : ℕ) → IfSome made (λ o. o.thousandths ≡ n) → (IsSome made ↔ ((1001 ≤ n) × (n ≤ 1000000))) → made ≡ odds_with n
unfolding odds_with
odds_made None n is iff = sym (no_odds n (is_within 1001 1000000 n) refl (λ h. absurd (false≢true (iff.1 h))))
odds_made (Some odds) n is iff = sym (ap odds_with (sym is) ∙ odds_with_odds odds)

-- handicap lines
with_handicap : (line : HandicapLine) (b : Bool) (is : is_within_signed (negsuc 19) (pos 20) line.quarters ≡ b) → b ≡ true → handicap_if line.quarters b is ≡ Some line
with_handicap line true is e = ap Some (handicap_same _ line refl)
with_handicap line false is e = absurd (false≢true e)

pub handicap_with_line : (line : HandicapLine) → handicap_with line.quarters ≡ Some line
unfolding handicap_with
handicap_with_line line = with_handicap line (is_within_signed (negsuc 19) (pos 20) line.quarters) refl (within_signed_to (negsuc 19) (pos 20) line.quarters line.at_least line.at_most)

no_handicap : (z : ℤ) (b : Bool) (is : is_within_signed (negsuc 19) (pos 20) z ≡ b) → (((negsuc 19 ≤ℤ z) × (z ≤ℤ pos 20)) → ⊥) → handicap_if z b is ≡ None
no_handicap z true is out = absurd (out (within_signed_from (negsuc 19) (pos 20) z is))
no_handicap z false is out = refl

pub handicap_made : (made : Option HandicapLine) (z : ℤ) → IfSome made (λ line. line.quarters ≡ z) → (IsSome made ↔ ((negsuc 19 ≤ℤ z) × (z ≤ℤ pos 20))) → made ≡ handicap_with z
unfolding handicap_with
handicap_made None z is iff = sym (no_handicap z (is_within_signed (negsuc 19) (pos 20) z) refl (λ h. absurd (false≢true (iff.1 h))))
handicap_made (Some line) z is iff = sym (ap handicap_with (sym is) ∙ handicap_with_line line)

-- total lines
with_total : (line : TotalLine) (b : Bool) (is : is_within 2 30 line.quarters ≡ b) → b ≡ true → total_if line.quarters b is ≡ Some line
with_total line true is e = ap Some (total_same _ line refl)
with_total line false is e = absurd (false≢true e)

pub total_with_line : (line : TotalLine) → total_with (pos line.quarters) ≡ Some line
unfolding total_with
total_with_line line = with_total line (is_within 2 30 line.quarters) refl (within_to 2 30 line.quarters line.at_least line.at_most)

no_total : (n : ℕ) (b : Bool) (is : is_within 2 30 n ≡ b) → (((2 ≤ n) × (n ≤ 30)) → ⊥) → total_if n b is ≡ None
no_total n true is out = absurd (out (within_from 2 30 n is))
no_total n false is out = refl

signed : (a b : ℕ) → a ≤ b → pos a ≤ℤ pos b
signed a b h = record { le = T_from_true (leb a b) (le-leb a b h) }

pub total_made : (made : Option TotalLine) (z : ℤ) → IfSome made (λ line. pos line.quarters ≡ z) → (IsSome made ↔ ((pos 2 ≤ℤ z) × (z ≤ℤ pos 30))) → made ≡ total_with z
unfolding total_with
total_made None (pos n) is iff = sym (no_total n (is_within 2 30 n) refl (λ h. absurd (false≢true (iff.1 (signed 2 n h.0, signed n 30 h.1)))))
total_made None (negsuc n) is iff = refl
total_made (Some line) z is iff = sym (ap total_with (sym is) ∙ total_with_line line)
