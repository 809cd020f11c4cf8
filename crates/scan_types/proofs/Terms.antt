-- Offers with the same terms are equal, and a selection is known by its number.
use Rattle.std.proofs.Common.{◌≡◌, ◌<◌, ◌≤◌, ◌-◌, ℕ, arith, refl, sym, ◌∙◌, ap, subst}
use Rattle.std.specs.Prelude.{ℤ, pos, negsuc, ◌≤ℤ◌, ◌+ℤ◌, unsigned_abs}
use Rattle.std.proofs.Props.{props}
use Rattle.std.proofs.lemmas.Int.{ints}
use Rattle.scan_types.specs.declared.limits.TheConstants.{LEAST_ODDS, MOST_ODDS, MOST_FEEDS, MOST_LIMIT}
use Rattle.scan_types.specs.declared.odds.Odds.{Odds}
use Rattle.scan_types.specs.declared.line.HandicapLine.{HandicapLine}
use Rattle.scan_types.specs.declared.line.TotalLine.{TotalLine}
use Rattle.scan_types.specs.declared.rule.VoidRule.{VoidRule}
use Rattle.scan_types.specs.declared.offer.Offer.{Offer}
use Rattle.scan_types.specs.declared.selection.Selection.{Selection}
use Rattle.scan_types.specs.declared.selection.Selection.TheVariants.{Home, Draw, Away, HandicapHome, HandicapAway, Over, Under}
use Rattle.scan_types.specs.Selections.{selection_number}

at_most_once : (a b : ℕ) → IsProp (a ≤ b)
at_most_once a b = hlevel props

below_once : (a b : ℕ) → IsProp (a < b)
below_once a b = hlevel props

at_most_once_int : (a b : ℤ) → IsProp (a ≤ℤ b)
at_most_once_int a b = hlevel props

-- odds of the same thousandths are the same
pub odds_same : (a b : Odds) → a.thousandths ≡ b.thousandths → a ≡ b
odds_same a b e =
    let P : ℕ → Type 0 = λ n. (p : LEAST_ODDS ≤ n) (q : n ≤ MOST_ODDS) → a ≡ record { thousandths = n; at_least = p; at_most = q } in
    let F : LEAST_ODDS ≤ a.thousandths → Odds = λ p. record { thousandths = a.thousandths; at_least = p; at_most = a.at_most } in
    let here : P a.thousandths = λ p q.
    let G : a.thousandths ≤ MOST_ODDS → Odds = λ r. record { thousandths = a.thousandths; at_least = p; at_most = r } in
    ap F (at_most_once _ _ a.at_least p) ∙ ap G (at_most_once _ _ a.at_most q) in
    subst P e here b.at_least b.at_most

-- lines of the same quarters are the same
pub handicap_same : (a b : HandicapLine) → a.quarters ≡ b.quarters → a ≡ b
handicap_same a b e =
    let P : ℤ → Type 0 = λ n. (p : negsuc 19 ≤ℤ n) (q : n ≤ℤ pos 20) → a ≡ record { quarters = n; at_least = p; at_most = q } in
    let F : negsuc 19 ≤ℤ a.quarters → HandicapLine = λ p. record { quarters = a.quarters; at_least = p; at_most = a.at_most } in
    let here : P a.quarters = λ p q.
    let G : a.quarters ≤ℤ pos 20 → HandicapLine = λ r. record { quarters = a.quarters; at_least = p; at_most = r } in
    ap F (at_most_once_int _ _ a.at_least p) ∙ ap G (at_most_once_int _ _ a.at_most q) in
    subst P e here b.at_least b.at_most

pub total_same : (a b : TotalLine) → a.quarters ≡ b.quarters → a ≡ b
total_same a b e =
    let P : ℕ → Type 0 = λ n. (p : 2 ≤ n) (q : n ≤ 30) → a ≡ record { quarters = n; at_least = p; at_most = q } in
    let F : 2 ≤ a.quarters → TotalLine = λ p. record { quarters = a.quarters; at_least = p; at_most = a.at_most } in
    let here : P a.quarters = λ p q.
    let G : a.quarters ≤ 30 → TotalLine = λ r. record { quarters = a.quarters; at_least = p; at_most = r } in
    ap F (at_most_once _ _ a.at_least p) ∙ ap G (at_most_once _ _ a.at_most q) in
    subst P e here b.at_least b.at_most

absolute : (z : ℤ) → pos 0 ≤ℤ z → pos (unsigned_abs z) ≡ z
absolute (pos n) h = refl
absolute (negsuc n) h = absurd (omega (arith, ints))

handicap_at : (line : HandicapLine) → pos (unsigned_abs (line.quarters +ℤ pos 20)) ≡ line.quarters +ℤ pos 20
handicap_at line =
    let low : negsuc 19 ≤ℤ line.quarters = line.at_least in
    absolute (line.quarters +ℤ pos 20) (omega (arith, ints))

handicap_few : (line : HandicapLine) → unsigned_abs (line.quarters +ℤ pos 20) ≤ 40
handicap_few line =
    let high : line.quarters ≤ℤ pos 20 = line.at_most in
    let at : pos (unsigned_abs (line.quarters +ℤ pos 20)) ≡ line.quarters +ℤ pos 20 = handicap_at line in
    omega (arith, ints)

handicap_one : (a b : HandicapLine) → unsigned_abs (a.quarters +ℤ pos 20) ≡ unsigned_abs (b.quarters +ℤ pos 20) → a ≡ b
handicap_one a b e =
    let x : pos (unsigned_abs (a.quarters +ℤ pos 20)) ≡ a.quarters +ℤ pos 20 = handicap_at a in
    let y : pos (unsigned_abs (b.quarters +ℤ pos 20)) ≡ b.quarters +ℤ pos 20 = handicap_at b in
    let s : a.quarters +ℤ pos 20 ≡ b.quarters +ℤ pos 20 = sym x ∙ (ap pos e ∙ y) in
    handicap_same a b (omega (arith, ints))

total_few : (line : TotalLine) → line.quarters - 2 ≤ 28
total_few line = let high : line.quarters ≤ 30 = line.at_most in omega arith

total_one : (a b : TotalLine) → a.quarters - 2 ≡ b.quarters - 2 → a ≡ b
total_one a b e =
    let p : 2 ≤ a.quarters = a.at_least in
    let q : 2 ≤ b.quarters = b.at_least in
    total_same a b (omega arith)

-- two selections with the same number are the same
pub selection_same : (a b : Selection) → selection_number a ≡ selection_number b → a ≡ b
selection_same Home Home e = refl
selection_same Home Draw e = absurd (omega arith)
selection_same Home Away e = absurd (omega arith)
selection_same Home (HandicapHome b) e = absurd (omega (arith, handicap_few b))
selection_same Home (HandicapAway b) e = absurd (omega (arith, handicap_few b))
selection_same Home (Over b) e = absurd (omega (arith, total_few b))
selection_same Home (Under b) e = absurd (omega (arith, total_few b))
selection_same Draw Home e = absurd (omega arith)
selection_same Draw Draw e = refl
selection_same Draw Away e = absurd (omega arith)
selection_same Draw (HandicapHome b) e = absurd (omega (arith, handicap_few b))
selection_same Draw (HandicapAway b) e = absurd (omega (arith, handicap_few b))
selection_same Draw (Over b) e = absurd (omega (arith, total_few b))
selection_same Draw (Under b) e = absurd (omega (arith, total_few b))
selection_same Away Home e = absurd (omega arith)
selection_same Away Draw e = absurd (omega arith)
selection_same Away Away e = refl
selection_same Away (HandicapHome b) e = absurd (omega (arith, handicap_few b))
selection_same Away (HandicapAway b) e = absurd (omega (arith, handicap_few b))
selection_same Away (Over b) e = absurd (omega (arith, total_few b))
selection_same Away (Under b) e = absurd (omega (arith, total_few b))
selection_same (HandicapHome a) Home e = absurd (omega (arith, handicap_few a))
selection_same (HandicapHome a) Draw e = absurd (omega (arith, handicap_few a))
selection_same (HandicapHome a) Away e = absurd (omega (arith, handicap_few a))
selection_same (HandicapHome a) (HandicapHome b) e = ap HandicapHome (handicap_one a b (omega arith))
selection_same (HandicapHome a) (HandicapAway b) e = absurd (omega (arith, handicap_few a, handicap_few b))
selection_same (HandicapHome a) (Over b) e = absurd (omega (arith, handicap_few a, total_few b))
selection_same (HandicapHome a) (Under b) e = absurd (omega (arith, handicap_few a, total_few b))
selection_same (HandicapAway a) Home e = absurd (omega (arith, handicap_few a))
selection_same (HandicapAway a) Draw e = absurd (omega (arith, handicap_few a))
selection_same (HandicapAway a) Away e = absurd (omega (arith, handicap_few a))
selection_same (HandicapAway a) (HandicapHome b) e = absurd (omega (arith, handicap_few a, handicap_few b))
selection_same (HandicapAway a) (HandicapAway b) e = ap HandicapAway (handicap_one a b (omega arith))
selection_same (HandicapAway a) (Over b) e = absurd (omega (arith, handicap_few a, total_few b))
selection_same (HandicapAway a) (Under b) e = absurd (omega (arith, handicap_few a, total_few b))
selection_same (Over a) Home e = absurd (omega (arith, total_few a))
selection_same (Over a) Draw e = absurd (omega (arith, total_few a))
selection_same (Over a) Away e = absurd (omega (arith, total_few a))
selection_same (Over a) (HandicapHome b) e = absurd (omega (arith, total_few a, handicap_few b))
selection_same (Over a) (HandicapAway b) e = absurd (omega (arith, total_few a, handicap_few b))
selection_same (Over a) (Over b) e = ap Over (total_one a b (omega arith))
selection_same (Over a) (Under b) e = absurd (omega (arith, total_few a, total_few b))
selection_same (Under a) Home e = absurd (omega (arith, total_few a))
selection_same (Under a) Draw e = absurd (omega (arith, total_few a))
selection_same (Under a) Away e = absurd (omega (arith, total_few a))
selection_same (Under a) (HandicapHome b) e = absurd (omega (arith, total_few a, handicap_few b))
selection_same (Under a) (HandicapAway b) e = absurd (omega (arith, total_few a, handicap_few b))
selection_same (Under a) (Over b) e = absurd (omega (arith, total_few a, total_few b))
selection_same (Under a) (Under b) e = ap Under (total_one a b (omega arith))

-- two offers with the same terms are the same
pub offer_same : (a b : Offer) → a.feed ≡ b.feed → a.selection ≡ b.selection → a.odds.thousandths ≡ b.odds.thousandths → a.limit ≡ b.limit → a.rule ≡ b.rule → a ≡ b
offer_same a b f s o l r =
    let P : ℕ → Type 0 = λ n. (p : n < MOST_FEEDS) → a ≡ record { feed = n; selection = a.selection; odds = a.odds; limit = a.limit; rule = a.rule; feed_at_most = p; limit_at_least = a.limit_at_least; limit_at_most = a.limit_at_most } in
    let F : a.feed < MOST_FEEDS → Offer = λ p. record { feed = a.feed; selection = a.selection; odds = a.odds; limit = a.limit; rule = a.rule; feed_at_most = p; limit_at_least = a.limit_at_least; limit_at_most = a.limit_at_most } in
    let feeds : P b.feed = subst P f (λ p. ap F (below_once _ _ a.feed_at_most p)) in
    let S : Selection → Offer = λ x. record { feed = b.feed; selection = x; odds = a.odds; limit = a.limit; rule = a.rule; feed_at_most = b.feed_at_most; limit_at_least = a.limit_at_least; limit_at_most = a.limit_at_most } in
    let O : Odds → Offer = λ x. record { feed = b.feed; selection = b.selection; odds = x; limit = a.limit; rule = a.rule; feed_at_most = b.feed_at_most; limit_at_least = a.limit_at_least; limit_at_most = a.limit_at_most } in
    let R : VoidRule → Offer = λ x. record { feed = b.feed; selection = b.selection; odds = b.odds; limit = a.limit; rule = x; feed_at_most = b.feed_at_most; limit_at_least = a.limit_at_least; limit_at_most = a.limit_at_most } in
    let Q : ℕ → Type 0 = λ n. (p : 1 ≤ n) (q : n ≤ MOST_LIMIT) → R b.rule ≡ record { feed = b.feed; selection = b.selection; odds = b.odds; limit = n; rule = b.rule; feed_at_most = b.feed_at_most; limit_at_least = p; limit_at_most = q } in
    let G : 1 ≤ a.limit → Offer = λ p. record { feed = b.feed; selection = b.selection; odds = b.odds; limit = a.limit; rule = b.rule; feed_at_most = b.feed_at_most; limit_at_least = p; limit_at_most = a.limit_at_most } in
    let here : Q a.limit = λ p q.
    let H : a.limit ≤ MOST_LIMIT → Offer = λ x. record { feed = b.feed; selection = b.selection; odds = b.odds; limit = a.limit; rule = b.rule; feed_at_most = b.feed_at_most; limit_at_least = p; limit_at_most = x } in
    ap G (at_most_once _ _ a.limit_at_least p) ∙ ap H (at_most_once _ _ a.limit_at_most q) in
    let limits : R b.rule ≡ b = subst Q l here b.limit_at_least b.limit_at_most in
    feeds b.feed_at_most ∙ (ap S s ∙ (ap O (odds_same a.odds b.odds o) ∙ (ap R r ∙ limits)))
