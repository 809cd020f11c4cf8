-- How a text is read from left to right: a value and the bytes behind it, or how many bytes are left where
-- the text stops being one that can be continued to a finding's.
use Rattle.std.specs.Prelude.{ℕ, zero, suc, ◌+◌, ◌-◌, ◌*◌, ◌^◌, Bool, false, ◌==◌, ◌&&◌, nat_lt, nat_le, List, [], ◌∷◌, length, codes, Result, Ok, Err, if◌then◌else◌}
use Rattle.scan_types.specs.declared.outcome.Outcome.{Outcome}
use Rattle.scan_types.specs.declared.outcome.Outcome.TheVariants.{Full, Abandoned}
use Rattle.scan_types.specs.declared.limits.TheConstants.{MOST_OFFERS, MOST_MEASURE_ENTRIES}
use Rattle.finding_definitions.specs.declared.finding.Stage.{Stage}
use Rattle.finding_definitions.specs.declared.finding.Stage.TheVariants.{First, Slack, Plain}
use Rattle.finding_definitions.specs.declared.finding.WideAt.{WideAt}
use Rattle.finding_definitions.specs.declared.finding.WideAt.TheVariants.{Entry, Weight, Stake}
use Rattle.finding_definitions.specs.declared.finding.Finding.{Finding}
use Rattle.finding_definitions.specs.declared.finding.Finding.TheVariants.{Arb, Coherent, Thin, Narrow, Wide, OutOfPivots}
use Rattle.finding_definitions.specs.Fractions.{Fractions}

abbrev pub Read : Type 0 → Type 0
Read A = Result (A × List ℕ) ℕ

infixl 10 ◌>>=◌
abbrev pub ◌>>=◌ : {A B : Type 0} → Result A ℕ → (A → Result B ℕ) → Result B ℕ
(Ok x) >>= f = f x
(Err left) >>= f = Err left

-- what stands behind this word
abbrev pub word_at : List ℕ → List ℕ → Result (List ℕ) ℕ
word_at [] text = Ok text
word_at (b ∷ word) [] = Err 0
word_at (b ∷ word) (c ∷ text) = if c == b then word_at word text else Err (suc (length text))

-- the text begins with this byte
abbrev pub starts : ℕ → List ℕ → Bool
starts b [] = false
starts b (c ∷ text) = c == b

abbrev pub is_digit : ℕ → Bool
is_digit c = nat_le 48 c && nat_le c 57

-- a digit behind the number makes another one, without a leading zero and within the most
abbrev pub can_follow : ℕ → ℕ → ℕ → Bool
can_follow most number c = is_digit c && (nat_lt 0 number && nat_le (10 * number + (c - 48)) most)

-- as many digits more as there are, as long as they can follow
abbrev pub digits_on : ℕ → ℕ → List ℕ → ℕ × List ℕ
digits_on most number [] = (number, [])
digits_on most number (c ∷ text) = if can_follow most number c then digits_on most (10 * number + (c - 48)) text else (number, c ∷ text)

-- a number of at most so much, without a leading zero
unfoldable pub number_at : ℕ → List ℕ → Read ℕ
number_at most [] = Err 0
number_at most (c ∷ text) = if is_digit c then Ok (digits_on most (c - 48) text) else Err (suc (length text))

-- the same behind a space
unfoldable pub field_at : ℕ → List ℕ → Read ℕ
field_at most text = word_at (codes " ") text >>= number_at most

-- so many values, one behind the other
unfoldable pub items_at : {A : Type 0} → (List ℕ → Read A) → ℕ → List ℕ → Read (List A)
items_at read zero text = Ok ([], text)
items_at read (suc n) text = read text >>= λ first. items_at read n first.1 >>= λ others. Ok (first.0 ∷ others.0, others.1)

-- a count of at most so much, and so many values
unfoldable pub counted_at : {A : Type 0} → ℕ → (List ℕ → Read A) → List ℕ → Read (List A)
counted_at most read text = field_at most text >>= λ n. items_at read n.0 n.1 >>= λ xs. Ok (xs.0, xs.1)

abbrev pub MOST_SHORT : ℕ
MOST_SHORT = 2 ^ 32 - 1

abbrev pub MOST_LONG : ℕ
MOST_LONG = 2 ^ 64 - 1

unfoldable pub stakes_at : List ℕ → Read (List ℕ)
stakes_at text = counted_at MOST_OFFERS (field_at MOST_SHORT) text

unfoldable pub parts_at : List ℕ → Read Fractions
parts_at text = field_at MOST_LONG text >>= λ d. counted_at MOST_OFFERS (field_at MOST_LONG) d.1 >>= λ xs. Ok (record { divisor = d.0; parts = xs.0 }, xs.1)

-- two numbers, and what is made of them
unfoldable pub pair_at : {A : Type 0} → ℕ → (ℕ → ℕ → A) → List ℕ → Read A
pair_at most make text = field_at most text >>= λ m. field_at most m.1 >>= λ n. Ok (make m.0 n.0, n.1)

unfoldable pub outcome_at : List ℕ → Read Outcome
outcome_at text = word_at (codes " ") text >>= λ rest.
    if starts 102 rest then (word_at (codes "full") rest >>= pair_at MOST_LONG Full) else (word_at (codes "abandoned") rest >>= pair_at MOST_LONG Abandoned)

unfoldable pub entry_at : List ℕ → Read (Outcome × ℕ)
entry_at text = outcome_at text >>= λ x. field_at MOST_LONG x.1 >>= λ w. Ok ((x.0, w.0), w.1)

unfoldable pub measure_at : List ℕ → Read (List (Outcome × ℕ))
measure_at text = counted_at MOST_MEASURE_ENTRIES entry_at text

unfoldable pub bound_at : {A : Type 0} → (Fractions → List (Outcome × ℕ) → A) → List ℕ → Read A
bound_at make text = parts_at text >>= λ p. measure_at p.1 >>= λ m. Ok (make p.0 m.0, m.1)

-- one of the three digits
unfoldable pub stage_at : List ℕ → Read Stage
stage_at text = word_at (codes " ") text >>= λ rest.
    if starts 49 rest then (word_at (codes "1") rest >>= λ s. Ok (First, s))
    else (if starts 50 rest then (word_at (codes "2") rest >>= λ s. Ok (Slack, s)) else (word_at (codes "3") rest >>= λ s. Ok (Plain, s)))

unfoldable pub run_at : List ℕ → Read (Stage × ℕ)
run_at text = stage_at text >>= λ k. field_at MOST_SHORT k.1 >>= λ p. Ok ((k.0, p.0), p.1)

unfoldable pub one_at : {A : Type 0} → (ℕ → A) → List ℕ → Read A
one_at make text = field_at MOST_SHORT text >>= λ n. Ok (make n.0, n.1)

unfoldable pub place_at : List ℕ → Read WideAt
place_at text = word_at (codes " ") text >>= λ rest.
    if starts 101 rest then (word_at (codes "entry") rest >>= pair_at MOST_SHORT Entry)
    else (if starts 119 rest then (word_at (codes "weight") rest >>= one_at Weight) else (word_at (codes "stake") rest >>= one_at Stake))

unfoldable pub wide_at : List ℕ → Read Finding
wide_at text = run_at text >>= λ k. place_at k.1 >>= λ p. Ok (Wide k.0.0 k.0.1 p.0, p.1)

-- a value, and what is made of it
abbrev pub made_at : {A B : Type 0} → (A → B) → (List ℕ → Read A) → List ℕ → Read B
made_at make read text = read text >>= λ x. Ok (make x.0, x.1)

-- a finding by its first byte
unfoldable pub finding_at : List ℕ → Read Finding
finding_at text =
    if starts 97 text then (word_at (codes "arb") text >>= made_at Arb stakes_at)
    else (if starts 99 text then (word_at (codes "coherent") text >>= made_at Coherent measure_at)
    else (if starts 116 text then (word_at (codes "thin") text >>= bound_at Thin)
    else (if starts 110 text then (word_at (codes "narrow") text >>= bound_at Narrow)
    else (if starts 119 text then (word_at (codes "wide") text >>= wide_at)
    else (word_at (codes "out-of-pivots") text >>= made_at (λ (k : Stage × ℕ). OutOfPivots k.0 k.1) run_at)))))

-- the whole text
unfoldable pub whole_at : List ℕ → Result Finding ℕ
whole_at text = finding_at text >>= λ x. if length x.1 == 0 then Ok x.0 else Err (length x.1)
