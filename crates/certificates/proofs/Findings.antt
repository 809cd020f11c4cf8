-- The reader of findings reads the texts of readable findings.
use Rattle.std.proofs.Common.{ℕ, ◌≡◌, ◌^◌, ◌≤◌, ◌<◌, false, cond, eqb, ◌⊎◌, inl, inr, List, [], ◌∷◌, ◌++◌, length, refl, sym, ap, subst, ◌∙◌, arith, decimal, lit<, lit≤}
use Rattle.std.specs.Prelude.{Ok, codes}
use Rattle.std.specs.List.{flat_map, AllByRecursion}
use Rattle.std.proofs.lemmas.Fmt.{decimal_digit}
use Rattle.std.proofs.lemmas.List.{append-nil}
use Rattle.scan_types.specs.declared.outcome.Outcome.{Outcome}
use Rattle.scan_types.specs.declared.outcome.Outcome.TheVariants.{Full, Abandoned}
use Rattle.scan_types.specs.declared.limits.TheConstants.{MOST_OFFERS, MOST_MEASURE_ENTRIES}
use Rattle.finding_definitions.specs.declared.finding.Stage.{Stage}
use Rattle.finding_definitions.specs.declared.finding.Stage.TheVariants.{First, Slack, Plain}
use Rattle.finding_definitions.specs.declared.finding.WideAt.{WideAt}
use Rattle.finding_definitions.specs.declared.finding.WideAt.TheVariants.{Entry, Weight, Stake}
use Rattle.finding_definitions.specs.declared.finding.Finding.{Finding}
use Rattle.finding_definitions.specs.declared.finding.Finding.TheVariants.{Arb, Coherent, Thin, Narrow, Wide, OutOfPivots}
use Rattle.finding_definitions.specs.Fractions.{Fractions}
use Rattle.finding_definitions.specs.Text.{outcome_fields, entry_fields, stake_fields, measure_fields, fraction_fields, stage_number, run_fields, place_fields, finding_text}
use Rattle.text_out.specs.Written.{spaced}
use Rattle.certificates.specs.Reading.{Read, ◌>>=◌, word_at, starts, number_at, field_at, items_at, counted_at, MOST_SHORT, MOST_LONG, stakes_at, parts_at, pair_at, outcome_at, entry_at, measure_at, bound_at, stage_at, run_at, one_at, place_at, wide_at, made_at, finding_at}
use Rattle.text_out.proofs.Writes.{join_spaced, spaced-append, pair_shape, one_shape, numbers_shape, number_shape, counted_shape}
use Rattle.certificates.proofs.Readers.{Ends, Reads, Both, Made, Reads-then, Reads-made, Reads-same, Reads-unit, Reads-word, Reads-kind, Heads, head_word, heads_or, Reads-choice, AreItems, some_items, Reads-items, flat_map_leads, then_with}
use Rattle.certificates.proofs.Numbers.{Reads-number}

-- ---- numbers and lists

abbrev pub field_text : ℕ → List ℕ
field_text n = 32 ∷ decimal n

abbrev pub AtMost : ℕ → ℕ → Type 0
AtMost most n = n ≤ most

pub Reads-field : (most : ℕ) → 9 ≤ most → most < 2 ^ 64 → Reads (AtMost most) field_text (field_at most)
unfolding field_at
Reads-field most big small = Reads-word (codes " ") (AtMost most) decimal (number_at most) 0 (omega arith) (Reads-number most big small)

short_field : Reads (AtMost MOST_SHORT) field_text (field_at MOST_SHORT)
short_field = Reads-field MOST_SHORT (lit≤ tt) (lit< tt)

long_field : Reads (AtMost MOST_LONG) field_text (field_at MOST_LONG)
long_field = Reads-field MOST_LONG (lit≤ tt) (lit< tt)

-- at most so many values that fit
abbrev pub AreFew : {A : Type 0} → ℕ → (A → Type 0) → List A → Type 0
AreFew most P xs = (length xs ≤ most) × AllByRecursion P xs

pub Reads-counted : {A : Type 0} (most : ℕ) → 9 ≤ most → most < 2 ^ 64 → (P : A → Type 0) (t : A → List ℕ) (r : List ℕ → Read A) → ((a : A) (rest : List ℕ) → Ends rest → Ends (t a ++ rest)) → (a : A) → P a → Reads P t r
    → Reads (AreFew most P) (λ xs. (32 ∷ decimal (length xs)) ++ flat_map t xs) (counted_at most r)
unfolding counted_at
Reads-counted {A} most big small P t r leads a p h =
    Reads-same (Both (λ (n : ℕ) (xs : List A). xs) (AtMost most) (AreItems P)) (AreFew most P) (λ xs. (32 ∷ decimal (length xs)) ++ flat_map t xs) (λ xs. (32 ∷ decimal (length xs)) ++ flat_map t xs)
    (then_with (λ (n : ℕ) (xs : List A). xs) (field_at most) (items_at r)) (counted_at most r) there (λ xs few. (length xs, xs, few.0, (refl, few.1), refl)) (λ xs q. refl) (λ s. refl)
    (Reads-then (λ (n : ℕ) (xs : List A). xs) (AtMost most) field_text (field_at most) (AreItems P) (λ n. flat_map t) (items_at r) (λ xs. (32 ∷ decimal (length xs)) ++ flat_map t xs) record {
      first = Reads-field most big small;
      second = λ n le. Reads-items P t r leads a p h n;
      leads = λ n xs rest ends. flat_map_leads t leads xs rest ends;
      some = λ n le. some_items P a p n;
      texts = λ n xs le items. ap (λ (k : ℕ). (32 ∷ decimal k) ++ flat_map t xs) items.0;
    })
  where
    there : (xs : List A) → Both (λ (n : ℕ) (xs : List A). xs) (AtMost most) (AreItems P) xs → AreFew most P xs
    there xs (n, ys, le, items, e) = subst (AreFew most P) (sym e) (subst (λ (k : ℕ). k ≤ most) (sym items.0) le, items.1)

abbrev pub AreStakes : List ℕ → Type 0
AreStakes = AreFew MOST_OFFERS (AtMost MOST_SHORT)

pub Reads-stakes : Reads AreStakes (λ xs. spaced (stake_fields xs)) stakes_at
unfolding stakes_at
Reads-stakes =
    Reads-same AreStakes AreStakes (λ xs. (32 ∷ decimal (length xs)) ++ flat_map field_text xs) (λ xs. spaced (stake_fields xs)) (counted_at MOST_OFFERS (field_at MOST_SHORT)) stakes_at
    (λ xs q. q) (λ xs q. q) (λ xs q. sym (counted_shape (λ (n : ℕ). decimal n ∷ []) xs field_text number_shape)) (λ s. refl)
    (Reads-counted MOST_OFFERS (lit≤ tt) (lit< tt) (AtMost MOST_SHORT) field_text (field_at MOST_SHORT) (λ n rest ends. refl) 0 (omega arith) short_field)

abbrev pub AreLongs : List ℕ → Type 0
AreLongs = AreFew MOST_OFFERS (AtMost MOST_LONG)

abbrev pub to_fractions : ℕ → List ℕ → Fractions
to_fractions d xs = record { divisor = d; parts = xs }

abbrev pub AreParts : Fractions → Type 0
AreParts = Both to_fractions (AtMost MOST_LONG) (λ d. AreLongs)

pub Reads-parts : Reads AreParts (λ p. spaced (fraction_fields p)) parts_at
unfolding parts_at
Reads-parts =
    Reads-then to_fractions (AtMost MOST_LONG) field_text (field_at MOST_LONG) (λ d. AreLongs) (λ d xs. (32 ∷ decimal (length xs)) ++ flat_map field_text xs) (λ d. counted_at MOST_OFFERS (field_at MOST_LONG)) (λ p. spaced (fraction_fields p)) record {
      first = long_field;
      second = λ d le. Reads-counted MOST_OFFERS (lit≤ tt) (lit< tt) (AtMost MOST_LONG) field_text (field_at MOST_LONG) (λ n rest ends. refl) 0 (omega arith) long_field;
      leads = λ d xs rest ends. refl;
      some = λ d le. ([], (omega arith, tt));
      texts = λ d xs p q. ap (λ (v : List ℕ). (32 ∷ decimal d) ++ v) (sym (counted_shape (λ (n : ℕ). decimal n ∷ []) xs field_text number_shape));
    }

-- ---- outcomes and measures

abbrev pub IsPair : {A : Type 0} → ℕ → (ℕ → ℕ → A) → A → Type 0
IsPair most make = Both make (AtMost most) (λ m. AtMost most)

pub Reads-pair : {A : Type 0} (most : ℕ) → 9 ≤ most → most < 2 ^ 64 → (make : ℕ → ℕ → A) (t : A → List ℕ) → ((m n : ℕ) → t (make m n) ≡ field_text m ++ field_text n) → Reads (IsPair most make) t (pair_at most make)
unfolding pair_at
Reads-pair most big small make t texts =
    Reads-then make (AtMost most) field_text (field_at most) (λ m. AtMost most) (λ m. field_text) (λ m. field_at most) t record {
      first = Reads-field most big small;
      second = λ m le. Reads-field most big small;
      leads = λ m n rest ends. refl;
      some = λ m le. (0, omega arith);
      texts = λ m n p q. texts m n;
    }

abbrev goals_text : Outcome → List ℕ
goals_text (Full home away) = field_text home ++ field_text away
goals_text (Abandoned home away) = field_text home ++ field_text away

abbrev kind_text : Outcome → List ℕ
kind_text (Full home away) = codes "full" ++ (field_text home ++ field_text away)
kind_text (Abandoned home away) = codes "abandoned" ++ (field_text home ++ field_text away)

abbrev pub AreOutcomes : Outcome → Type 0
AreOutcomes x = IsPair MOST_LONG Full x ⊎ IsPair MOST_LONG Abandoned x

full_text : (x : Outcome) → IsPair MOST_LONG Full x → kind_text x ≡ codes "full" ++ goals_text x
full_text x (h, a, p, q, e) = subst (λ (o : Outcome). kind_text o ≡ codes "full" ++ goals_text o) (sym e) refl

abandoned_text : (x : Outcome) → IsPair MOST_LONG Abandoned x → kind_text x ≡ codes "abandoned" ++ goals_text x
abandoned_text x (h, a, p, q, e) = subst (λ (o : Outcome). kind_text o ≡ codes "abandoned" ++ goals_text o) (sym e) refl

outcome_text : (x : Outcome) → spaced (outcome_fields x) ≡ codes " " ++ kind_text x
outcome_text (Full home away) = sym (pair_shape (codes "full") home away)
outcome_text (Abandoned home away) = sym (pair_shape (codes "abandoned") home away)

pub Reads-outcome : Reads AreOutcomes (λ x. spaced (outcome_fields x)) outcome_at
unfolding outcome_at
Reads-outcome =
    Reads-kind (codes " ") AreOutcomes kind_text (λ rest. cond (starts 102 rest) (word_at (codes "full") rest >>= pair_at MOST_LONG Full) (word_at (codes "abandoned") rest >>= pair_at MOST_LONG Abandoned)) (λ x. spaced (outcome_fields x))
    (Full 0 0) (inl (0, 0, omega arith, omega arith, refl)) (λ x p. outcome_text x)
    (Reads-choice 102 (IsPair MOST_LONG Full) (IsPair MOST_LONG Abandoned) kind_text (λ s. word_at (codes "full") s >>= pair_at MOST_LONG Full) (λ s. word_at (codes "abandoned") s >>= pair_at MOST_LONG Abandoned)
    (head_word 102 (codes "ull") (IsPair MOST_LONG Full) goals_text kind_text full_text 102)
    (head_word 97 (codes "bandoned") (IsPair MOST_LONG Abandoned) goals_text kind_text abandoned_text 102)
    (Reads-kind (codes "full") (IsPair MOST_LONG Full) goals_text (pair_at MOST_LONG Full) kind_text (Full 0 0) (0, 0, omega arith, omega arith, refl) full_text (Reads-pair MOST_LONG (lit≤ tt) (lit< tt) Full goals_text (λ m n. refl)))
    (Reads-kind (codes "abandoned") (IsPair MOST_LONG Abandoned) goals_text (pair_at MOST_LONG Abandoned) kind_text (Abandoned 0 0) (0, 0, omega arith, omega arith, refl) abandoned_text (Reads-pair MOST_LONG (lit≤ tt) (lit< tt) Abandoned goals_text (λ m n. refl))))

abbrev pub to_entry : Outcome → ℕ → Outcome × ℕ
to_entry x w = (x, w)

abbrev pub AreEntries : Outcome × ℕ → Type 0
AreEntries = Both to_entry AreOutcomes (λ x. AtMost MOST_LONG)

no_goals : AreOutcomes (Full 0 0)
no_goals = inl (0, 0, omega arith, omega arith, refl)

entry_text : (x : Outcome) (w : ℕ) → spaced (entry_fields (x, w)) ≡ spaced (outcome_fields x) ++ field_text w
entry_text x w = spaced-append (outcome_fields x) (decimal w ∷ []) ∙ ap (λ (v : List ℕ). spaced (outcome_fields x) ++ v) (sym (number_shape w))

pub Reads-entry : Reads AreEntries (λ e. spaced (entry_fields e)) entry_at
unfolding entry_at
Reads-entry =
    Reads-then to_entry AreOutcomes (λ x. spaced (outcome_fields x)) outcome_at (λ x. AtMost MOST_LONG) (λ x. field_text) (λ x. field_at MOST_LONG) (λ e. spaced (entry_fields e)) record {
      first = Reads-outcome;
      second = λ x p. long_field;
      leads = λ x w rest ends. refl;
      some = λ x p. (0, omega arith);
      texts = λ x w p q. entry_text x w;
    }

entry_leads : (e : Outcome × ℕ) (rest : List ℕ) → Ends rest → Ends (spaced (entry_fields e) ++ rest)
entry_leads (Full home away, w) rest ends = refl
entry_leads (Abandoned home away, w) rest ends = refl

abbrev pub AreMeasures : List (Outcome × ℕ) → Type 0
AreMeasures = AreFew MOST_MEASURE_ENTRIES AreEntries

pub Reads-measure : Reads AreMeasures (λ m. spaced (measure_fields m)) measure_at
unfolding measure_at
Reads-measure =
    Reads-same AreMeasures AreMeasures (λ m. (32 ∷ decimal (length m)) ++ flat_map (λ e. spaced (entry_fields e)) m) (λ m. spaced (measure_fields m)) (counted_at MOST_MEASURE_ENTRIES entry_at) measure_at
    (λ m q. q) (λ m q. q) (λ m q. sym (counted_shape entry_fields m (λ e. spaced (entry_fields e)) (λ x. refl))) (λ s. refl)
    (Reads-counted MOST_MEASURE_ENTRIES (lit≤ tt) (lit< tt) AreEntries (λ e. spaced (entry_fields e)) entry_at entry_leads (Full 0 0, 0) (Full 0 0, 0, no_goals, omega arith, refl) Reads-entry)

no_measure : AreMeasures []
no_measure = (omega arith, tt)

no_parts : AreParts (to_fractions 0 [])
no_parts = (0, [], omega arith, (omega arith, tt), refl)

abbrev pub IsBound : {A : Type 0} → (Fractions → List (Outcome × ℕ) → A) → A → Type 0
IsBound make = Both make AreParts (λ p. AreMeasures)

pub Reads-bound : {A : Type 0} (make : Fractions → List (Outcome × ℕ) → A) (t : A → List ℕ) → ((p : Fractions) (m : List (Outcome × ℕ)) → t (make p m) ≡ spaced (fraction_fields p ++ measure_fields m)) → Reads (IsBound make) t (bound_at make)
unfolding bound_at
Reads-bound make t texts =
    Reads-then make AreParts (λ p. spaced (fraction_fields p)) parts_at (λ p. AreMeasures) (λ p m. spaced (measure_fields m)) (λ p. measure_at) t record {
      first = Reads-parts;
      second = λ p fits. Reads-measure;
      leads = λ p m rest ends. refl;
      some = λ p fits. ([], no_measure);
      texts = λ p m a b. texts p m ∙ spaced-append (fraction_fields p) (measure_fields m);
    }

-- ---- runs and places

abbrev Is : {A : Type 0} → A → A → Type 0
Is a b = b ≡ a

abbrev stage_digit : Stage → List ℕ
stage_digit First = codes "1"
stage_digit Slack = codes "2"
stage_digit Plain = codes "3"

abbrev pub AreStages : Stage → Type 0
AreStages k = Is First k ⊎ (Is Slack k ⊎ Is Plain k)

digit_text : (k a : Stage) → Is a k → stage_digit k ≡ stage_digit a ++ []
digit_text k a e = ap stage_digit e ∙ sym (append-nil (stage_digit a))

stage_text : (k : Stage) → 32 ∷ decimal (stage_number k) ≡ codes " " ++ stage_digit k
stage_text First = ap (λ (v : List ℕ). 32 ∷ v) (decimal_digit 1 (lit< tt))
stage_text Slack = ap (λ (v : List ℕ). 32 ∷ v) (decimal_digit 2 (lit< tt))
stage_text Plain = ap (λ (v : List ℕ). 32 ∷ v) (decimal_digit 3 (lit< tt))

pub every_stage : (k : Stage) → AreStages k
every_stage First = inl refl
every_stage Slack = inr (inl refl)
every_stage Plain = inr (inr refl)

one_stage : (a : Stage) → Reads (Is a) stage_digit (λ s. word_at (stage_digit a) s >>= λ r. Ok (a, r))
one_stage a = Reads-kind (stage_digit a) (Is a) (λ b. []) (λ r. Ok (a, r)) stage_digit a refl (λ k e. digit_text k a e) (Reads-unit a)

pub Reads-stage : Reads AreStages (λ k. 32 ∷ decimal (stage_number k)) stage_at
unfolding stage_at
Reads-stage =
    Reads-kind (codes " ") AreStages stage_digit (λ rest. cond (starts 49 rest) (word_at (codes "1") rest >>= λ s. Ok (First, s)) (cond (starts 50 rest) (word_at (codes "2") rest >>= λ s. Ok (Slack, s)) (word_at (codes "3") rest >>= λ s. Ok (Plain, s)))) (λ k. 32 ∷ decimal (stage_number k))
    First (inl refl) (λ k p. stage_text k)
    (Reads-choice 49 (Is First) (λ k. Is Slack k ⊎ Is Plain k) stage_digit (λ s. word_at (codes "1") s >>= λ r. Ok (First, r)) (λ rest. cond (starts 50 rest) (word_at (codes "2") rest >>= λ s. Ok (Slack, s)) (word_at (codes "3") rest >>= λ s. Ok (Plain, s)))
    (head_word 49 [] (Is First) (λ b. []) stage_digit (λ k e. digit_text k First e) 49)
    (heads_or 49 false (Is Slack) (Is Plain) stage_digit (head_word 50 [] (Is Slack) (λ b. []) stage_digit (λ k e. digit_text k Slack e) 49) (head_word 51 [] (Is Plain) (λ b. []) stage_digit (λ k e. digit_text k Plain e) 49))
    (one_stage First)
    (Reads-choice 50 (Is Slack) (Is Plain) stage_digit (λ s. word_at (codes "2") s >>= λ r. Ok (Slack, r)) (λ s. word_at (codes "3") s >>= λ r. Ok (Plain, r))
    (head_word 50 [] (Is Slack) (λ b. []) stage_digit (λ k e. digit_text k Slack e) 50)
    (head_word 51 [] (Is Plain) (λ b. []) stage_digit (λ k e. digit_text k Plain e) 50)
    (one_stage Slack) (one_stage Plain)))

abbrev pub to_run : Stage → ℕ → Stage × ℕ
to_run k n = (k, n)

abbrev pub AreRuns : Stage × ℕ → Type 0
AreRuns = Both to_run AreStages (λ k. AtMost MOST_SHORT)

pub Reads-run : Reads AreRuns (λ k. spaced (run_fields k.0 k.1)) run_at
unfolding run_at
Reads-run =
    Reads-then to_run AreStages (λ k. 32 ∷ decimal (stage_number k)) stage_at (λ k. AtMost MOST_SHORT) (λ k. field_text) (λ k. field_at MOST_SHORT) (λ k. spaced (run_fields k.0 k.1)) record {
      first = Reads-stage;
      second = λ k p. short_field;
      leads = λ k n rest ends. refl;
      some = λ k p. (0, omega arith);
      texts = λ k n p q. sym (numbers_shape (stage_number k) n);
    }

abbrev numbers_text : WideAt → List ℕ
numbers_text (Entry row column) = field_text row ++ field_text column
numbers_text (Weight entry) = field_text entry
numbers_text (Stake offer) = field_text offer

abbrev where_text : WideAt → List ℕ
where_text (Entry row column) = codes "entry" ++ (field_text row ++ field_text column)
where_text (Weight entry) = codes "weight" ++ field_text entry
where_text (Stake offer) = codes "stake" ++ field_text offer

abbrev pub IsOne : {A : Type 0} → (ℕ → A) → A → Type 0
IsOne make = Made make (AtMost MOST_SHORT)

abbrev pub ArePlaces : WideAt → Type 0
ArePlaces p = IsPair MOST_SHORT Entry p ⊎ (IsOne Weight p ⊎ IsOne Stake p)

pub Reads-one : {A : Type 0} (make : ℕ → A) (t : A → List ℕ) → ((n : ℕ) → t (make n) ≡ field_text n) → Reads (IsOne make) t (one_at make)
unfolding one_at
Reads-one make t texts = Reads-made make (AtMost MOST_SHORT) field_text (field_at MOST_SHORT) t texts short_field

place_entry : (p : WideAt) → IsPair MOST_SHORT Entry p → where_text p ≡ codes "entry" ++ numbers_text p
place_entry p (r, c, a, b, e) = subst (λ (o : WideAt). where_text o ≡ codes "entry" ++ numbers_text o) (sym e) refl

place_weight : (p : WideAt) → IsOne Weight p → where_text p ≡ codes "weight" ++ numbers_text p
place_weight p (n, a, e) = subst (λ (o : WideAt). where_text o ≡ codes "weight" ++ numbers_text o) (sym e) refl

place_stake : (p : WideAt) → IsOne Stake p → where_text p ≡ codes "stake" ++ numbers_text p
place_stake p (n, a, e) = subst (λ (o : WideAt). where_text o ≡ codes "stake" ++ numbers_text o) (sym e) refl

place_text : (p : WideAt) → spaced (place_fields p) ≡ codes " " ++ where_text p
place_text (Entry row column) = sym (pair_shape (codes "entry") row column)
place_text (Weight entry) = sym (one_shape (codes "weight") entry)
place_text (Stake offer) = sym (one_shape (codes "stake") offer)

pub Reads-place : Reads ArePlaces (λ p. spaced (place_fields p)) place_at
unfolding place_at
Reads-place =
    Reads-kind (codes " ") ArePlaces where_text (λ rest. cond (starts 101 rest) (word_at (codes "entry") rest >>= pair_at MOST_SHORT Entry) (cond (starts 119 rest) (word_at (codes "weight") rest >>= one_at Weight) (word_at (codes "stake") rest >>= one_at Stake))) (λ p. spaced (place_fields p))
    (Weight 0) (inr (inl (0, omega arith, refl))) (λ p q. place_text p)
    (Reads-choice 101 (IsPair MOST_SHORT Entry) (λ p. IsOne Weight p ⊎ IsOne Stake p) where_text (λ s. word_at (codes "entry") s >>= pair_at MOST_SHORT Entry) (λ rest. cond (starts 119 rest) (word_at (codes "weight") rest >>= one_at Weight) (word_at (codes "stake") rest >>= one_at Stake))
    (head_word 101 (codes "ntry") (IsPair MOST_SHORT Entry) numbers_text where_text place_entry 101)
    (heads_or 101 false (IsOne Weight) (IsOne Stake) where_text (head_word 119 (codes "eight") (IsOne Weight) numbers_text where_text place_weight 101) (head_word 115 (codes "take") (IsOne Stake) numbers_text where_text place_stake 101))
    (Reads-kind (codes "entry") (IsPair MOST_SHORT Entry) numbers_text (pair_at MOST_SHORT Entry) where_text (Entry 0 0) (0, 0, omega arith, omega arith, refl) place_entry (Reads-pair MOST_SHORT (lit≤ tt) (lit< tt) Entry numbers_text (λ m n. refl)))
    (Reads-choice 119 (IsOne Weight) (IsOne Stake) where_text (λ s. word_at (codes "weight") s >>= one_at Weight) (λ s. word_at (codes "stake") s >>= one_at Stake)
    (head_word 119 (codes "eight") (IsOne Weight) numbers_text where_text place_weight 119)
    (head_word 115 (codes "take") (IsOne Stake) numbers_text where_text place_stake 119)
    (Reads-kind (codes "weight") (IsOne Weight) numbers_text (one_at Weight) where_text (Weight 0) (0, omega arith, refl) place_weight (Reads-one Weight numbers_text (λ n. refl)))
    (Reads-kind (codes "stake") (IsOne Stake) numbers_text (one_at Stake) where_text (Stake 0) (0, omega arith, refl) place_stake (Reads-one Stake numbers_text (λ n. refl)))))

abbrev pub to_wide : Stage × ℕ → WideAt → Finding
to_wide k p = Wide k.0 k.1 p

abbrev pub AreWide : Finding → Type 0
AreWide = Both to_wide AreRuns (λ k. ArePlaces)

place_leads : (p : WideAt) (rest : List ℕ) → Ends rest → Ends (spaced (place_fields p) ++ rest)
place_leads (Entry row column) rest ends = refl
place_leads (Weight entry) rest ends = refl
place_leads (Stake offer) rest ends = refl

-- ---- findings

-- what stands behind the first word
abbrev body : Finding → List ℕ
body (Arb stakes) = spaced (stake_fields stakes)
body (Coherent measure) = spaced (measure_fields measure)
body (Thin parts measure) = spaced (fraction_fields parts ++ measure_fields measure)
body (Narrow parts measure) = spaced (fraction_fields parts ++ measure_fields measure)
body (Wide stage pivots place) = spaced (run_fields stage pivots ++ place_fields place)
body (OutOfPivots stage pivots) = spaced (run_fields stage pivots)

pub Reads-wide : Reads AreWide body wide_at
unfolding wide_at
Reads-wide =
    Reads-then to_wide AreRuns (λ k. spaced (run_fields k.0 k.1)) run_at (λ k. ArePlaces) (λ k p. spaced (place_fields p)) (λ k. place_at) body record {
      first = Reads-run;
      second = λ k q. Reads-place;
      leads = λ k p rest ends. place_leads p rest ends;
      some = λ k q. (Weight 0, inr (inl (0, omega arith, refl)));
      texts = λ k p a b. spaced-append (run_fields k.0 k.1) (place_fields p);
    }

abbrev pub to_out : Stage × ℕ → Finding
to_out k = OutOfPivots k.0 k.1

abbrev pub IsArb : Finding → Type 0
IsArb = Made Arb AreStakes

abbrev pub IsCoherent : Finding → Type 0
IsCoherent = Made Coherent AreMeasures

abbrev pub IsOut : Finding → Type 0
IsOut = Made to_out AreRuns

abbrev pub AreFindings : Finding → Type 0
AreFindings f = IsArb f ⊎ (IsCoherent f ⊎ (IsBound Thin f ⊎ (IsBound Narrow f ⊎ (AreWide f ⊎ IsOut f))))

arb_text : (f : Finding) → IsArb f → finding_text f ≡ codes "arb" ++ body f
arb_text f (x, p, e) = subst (λ (g : Finding). finding_text g ≡ codes "arb" ++ body g) (sym e) (join_spaced (codes "arb") (stake_fields x))

coherent_text : (f : Finding) → IsCoherent f → finding_text f ≡ codes "coherent" ++ body f
coherent_text f (x, p, e) = subst (λ (g : Finding). finding_text g ≡ codes "coherent" ++ body g) (sym e) (join_spaced (codes "coherent") (measure_fields x))

thin_text : (f : Finding) → IsBound Thin f → finding_text f ≡ codes "thin" ++ body f
thin_text f (x, m, p, q, e) = subst (λ (g : Finding). finding_text g ≡ codes "thin" ++ body g) (sym e) (join_spaced (codes "thin") (fraction_fields x ++ measure_fields m))

narrow_text : (f : Finding) → IsBound Narrow f → finding_text f ≡ codes "narrow" ++ body f
narrow_text f (x, m, p, q, e) = subst (λ (g : Finding). finding_text g ≡ codes "narrow" ++ body g) (sym e) (join_spaced (codes "narrow") (fraction_fields x ++ measure_fields m))

wide_text : (f : Finding) → AreWide f → finding_text f ≡ codes "wide" ++ body f
wide_text f (k, w, p, q, e) = subst (λ (g : Finding). finding_text g ≡ codes "wide" ++ body g) (sym e) (join_spaced (codes "wide") (run_fields k.0 k.1 ++ place_fields w))

out_text : (f : Finding) → IsOut f → finding_text f ≡ codes "out-of-pivots" ++ body f
out_text f (k, p, e) = subst (λ (g : Finding). finding_text g ≡ codes "out-of-pivots" ++ body g) (sym e) (join_spaced (codes "out-of-pivots") (run_fields k.0 k.1))

head_coherent : (k : ℕ) → Heads k (eqb 99 k) IsCoherent finding_text
head_coherent = head_word 99 (codes "oherent") IsCoherent body finding_text coherent_text

head_thin : (k : ℕ) → Heads k (eqb 116 k) (IsBound Thin) finding_text
head_thin = head_word 116 (codes "hin") (IsBound Thin) body finding_text thin_text

head_narrow : (k : ℕ) → Heads k (eqb 110 k) (IsBound Narrow) finding_text
head_narrow = head_word 110 (codes "arrow") (IsBound Narrow) body finding_text narrow_text

head_wide : (k : ℕ) → Heads k (eqb 119 k) AreWide finding_text
head_wide = head_word 119 (codes "ide") AreWide body finding_text wide_text

head_out : (k : ℕ) → Heads k (eqb 111 k) IsOut finding_text
head_out = head_word 111 (codes "ut-of-pivots") IsOut body finding_text out_text

abbrev read_out : List ℕ → Read Finding
read_out s = word_at (codes "out-of-pivots") s >>= made_at to_out run_at

abbrev read_wide : List ℕ → Read Finding
read_wide s = cond (starts 119 s) (word_at (codes "wide") s >>= wide_at) (read_out s)

abbrev read_narrow : List ℕ → Read Finding
read_narrow s = cond (starts 110 s) (word_at (codes "narrow") s >>= bound_at Narrow) (read_wide s)

abbrev read_thin : List ℕ → Read Finding
read_thin s = cond (starts 116 s) (word_at (codes "thin") s >>= bound_at Thin) (read_narrow s)

abbrev read_coherent : List ℕ → Read Finding
read_coherent s = cond (starts 99 s) (word_at (codes "coherent") s >>= made_at Coherent measure_at) (read_thin s)

no_run : AreRuns (First, 0)
no_run = (First, 0, inl refl, omega arith, refl)

no_place : ArePlaces (Weight 0)
no_place = inr (inl (0, omega arith, refl))

reads_out : Reads IsOut finding_text read_out
reads_out = Reads-kind (codes "out-of-pivots") IsOut body (made_at to_out run_at) finding_text (to_out (First, 0)) ((First, 0), no_run, refl) out_text (Reads-made to_out AreRuns (λ k. spaced (run_fields k.0 k.1)) run_at body (λ k. refl) Reads-run)

reads_wide : Reads (λ f. AreWide f ⊎ IsOut f) finding_text read_wide
reads_wide = Reads-choice 119 AreWide IsOut finding_text (λ s. word_at (codes "wide") s >>= wide_at) read_out (head_wide 119) (head_out 119)
    (Reads-kind (codes "wide") AreWide body wide_at finding_text (to_wide (First, 0) (Weight 0)) ((First, 0), Weight 0, no_run, no_place, refl) wide_text Reads-wide) reads_out

reads_narrow : Reads (λ f. IsBound Narrow f ⊎ (AreWide f ⊎ IsOut f)) finding_text read_narrow
reads_narrow = Reads-choice 110 (IsBound Narrow) (λ f. AreWide f ⊎ IsOut f) finding_text (λ s. word_at (codes "narrow") s >>= bound_at Narrow) read_wide (head_narrow 110)
    (heads_or 110 false AreWide IsOut finding_text (head_wide 110) (head_out 110))
    (Reads-kind (codes "narrow") (IsBound Narrow) body (bound_at Narrow) finding_text (Narrow (to_fractions 0 []) []) (to_fractions 0 [], [], no_parts, no_measure, refl) narrow_text (Reads-bound Narrow body (λ p m. refl))) reads_wide

reads_thin : Reads (λ f. IsBound Thin f ⊎ (IsBound Narrow f ⊎ (AreWide f ⊎ IsOut f))) finding_text read_thin
reads_thin = Reads-choice 116 (IsBound Thin) (λ f. IsBound Narrow f ⊎ (AreWide f ⊎ IsOut f)) finding_text (λ s. word_at (codes "thin") s >>= bound_at Thin) read_narrow (head_thin 116)
    (heads_or 116 false (IsBound Narrow) (λ f. AreWide f ⊎ IsOut f) finding_text (head_narrow 116) (heads_or 116 false AreWide IsOut finding_text (head_wide 116) (head_out 116)))
    (Reads-kind (codes "thin") (IsBound Thin) body (bound_at Thin) finding_text (Thin (to_fractions 0 []) []) (to_fractions 0 [], [], no_parts, no_measure, refl) thin_text (Reads-bound Thin body (λ p m. refl))) reads_narrow

reads_coherent : Reads (λ f. IsCoherent f ⊎ (IsBound Thin f ⊎ (IsBound Narrow f ⊎ (AreWide f ⊎ IsOut f)))) finding_text read_coherent
reads_coherent = Reads-choice 99 IsCoherent (λ f. IsBound Thin f ⊎ (IsBound Narrow f ⊎ (AreWide f ⊎ IsOut f))) finding_text (λ s. word_at (codes "coherent") s >>= made_at Coherent measure_at) read_thin (head_coherent 99)
    (heads_or 99 false (IsBound Thin) (λ f. IsBound Narrow f ⊎ (AreWide f ⊎ IsOut f)) finding_text (head_thin 99) (heads_or 99 false (IsBound Narrow) (λ f. AreWide f ⊎ IsOut f) finding_text (head_narrow 99) (heads_or 99 false AreWide IsOut finding_text (head_wide 99) (head_out 99))))
    (Reads-kind (codes "coherent") IsCoherent body (made_at Coherent measure_at) finding_text (Coherent []) ([], no_measure, refl) coherent_text (Reads-made Coherent AreMeasures (λ m. spaced (measure_fields m)) measure_at body (λ m. refl) Reads-measure)) reads_thin

pub Reads-finding : Reads AreFindings finding_text finding_at
unfolding finding_at
Reads-finding = Reads-choice 97 IsArb (λ f. IsCoherent f ⊎ (IsBound Thin f ⊎ (IsBound Narrow f ⊎ (AreWide f ⊎ IsOut f)))) finding_text (λ s. word_at (codes "arb") s >>= made_at Arb stakes_at) read_coherent
    (head_word 97 (codes "rb") IsArb body finding_text arb_text 97)
    (heads_or 97 false IsCoherent (λ f. IsBound Thin f ⊎ (IsBound Narrow f ⊎ (AreWide f ⊎ IsOut f))) finding_text (head_coherent 97) (heads_or 97 false (IsBound Thin) (λ f. IsBound Narrow f ⊎ (AreWide f ⊎ IsOut f)) finding_text (head_thin 97) (heads_or 97 false (IsBound Narrow) (λ f. AreWide f ⊎ IsOut f) finding_text (head_narrow 97) (heads_or 97 false AreWide IsOut finding_text (head_wide 97) (head_out 97)))))
    (Reads-kind (codes "arb") IsArb body (made_at Arb stakes_at) finding_text (Arb []) ([], (omega arith, tt), refl) arb_text (Reads-made Arb AreStakes (λ xs. spaced (stake_fields xs)) stakes_at body (λ xs. refl) Reads-stakes)) reads_coherent
