-- What one more accepted line does to the rows of what stands.
use Rattle.std.proofs.Common.{◌≡◌, ℕ, zero, suc, ◌+◌, ◌<◌, ◌≤◌, Bool, true, false, not, cond, eqb, ltb, ◌&&◌, ◌||◌, List, [], ◌∷◌, ◌++◌, length, map, filter, reverse, find, get_or, set, replicate, Option, Some, None, is_some, IfSome, IfNone, count_by, refl, sym, ap, ◌∙◌, subst, arith, length-append}
use Rattle.std.specs.List.{list_any, range_with_len}
use Rattle.std.specs.Str.{bytes_eq}
use Rattle.std.proofs.lemmas.Bool.{ltb-true, eqb-true, eq-eqb, false≢true}
use Rattle.std.proofs.lemmas.List.Sums.{sum_by-cons}
use Rattle.std.proofs.lemmas.List.{reverse-append, get_or-set_same, get_or-set_other, get_or-replicate, length-set, length-replicate}
use Rattle.std.proofs.lemmas.Slice.Eq.{bytes_eq-Decides}
use Rattle.scan_types.specs.declared.limits.TheConstants.{MOST_MATCHES, MOST_SELECTIONS, MOST_STANDING}
use Rattle.scan_types.specs.Selections.{selection_number}
use Rattle.feed_definitions.specs.declared.accepted.Accepted.{Accepted}
use Rattle.feed_definitions.specs.declared.accepted.Change.{Change}
use Rattle.feed_definitions.specs.declared.accepted.Change.TheVariants.{Quote, Withdraw}
use Rattle.feed_definitions.specs.declared.cause.Cause.{Cause}
use Rattle.feed_definitions.specs.declared.cause.Cause.TheVariants.{TooManyMatches, TooManyOffers, NotQuoted}
use Rattle.feed_definitions.specs.Standing.{is_quote, each_once, matches_of, is_known, is_about, is_quoted_by, stands, standing_count, refused_for}
use Rattle.feed_lines.specs.Rows.{stands_in, row_or_empty, IsStanding, quote_refused_by, refused_by}

-- the tests of `==` on texts
same_text : (a b : List ℕ) → bytes_eq a b ≡ true → a ≡ b
same_text a b = (bytes_eq-Decides a b).0

text_same : (a : List ℕ) → bytes_eq a a ≡ true
text_same a = (bytes_eq-Decides a a).1 refl

other_way : (a b : List ℕ) (t : Bool) → bytes_eq a b ≡ t → bytes_eq b a ≡ t
other_way a b true h = (bytes_eq-Decides b a).1 (sym (same_text a b h))
other_way a b false h = still (bytes_eq b a) (λ k. false≢true (sym h ∙ (bytes_eq-Decides a b).1 (sym (same_text b a k))))
  where
    still : (t : Bool) → (t ≡ true → ⊥) → t ≡ false
    still true k = absurd (k refl)
    still false k = refl

-- the names other than x
abbrev without : List ℕ → List (List ℕ) → List (List ℕ)
without x names = filter (λ other. not (bytes_eq other x)) names

abbrev among : List ℕ → List (List ℕ) → Bool
among y names = list_any (λ other. bytes_eq other y) names

-- taking other names away leaves a name that stands
among_without : (x y : List ℕ) → bytes_eq x y ≡ false → (names : List (List ℕ)) → among y (without x names) ≡ among y names
among_without x y apart [] = refl
among_without x y apart (e ∷ names) = one (bytes_eq e x) refl (among_without x y apart names)
  where
    one : (t : Bool) → bytes_eq e x ≡ t → among y (without x names) ≡ among y names → among y (cond (not t) (e ∷ without x names) (without x names)) ≡ (bytes_eq e y || among y names)
    one true h rest = rest ∙ ap (λ t. t || among y names) (sym (ap (λ z. bytes_eq z y) (same_text e x h) ∙ apart))
    one false h rest = ap (λ t. bytes_eq e y || t) rest

without_push : (x y : List ℕ) (t : Bool) → bytes_eq y x ≡ t → (names : List (List ℕ)) → without x (names ++ y ∷ []) ≡ cond t (without x names) (without x names ++ y ∷ [])
without_push x y t h [] = last t h
  where
    last : (t : Bool) → bytes_eq y x ≡ t → cond (not (bytes_eq y x)) (y ∷ []) [] ≡ cond t [] (y ∷ [])
    last true h = ap (λ u. cond (not u) (y ∷ []) []) h
    last false h = ap (λ u. cond (not u) (y ∷ []) []) h
without_push x y t h (e ∷ names) = one t (not (bytes_eq e x)) (without_push x y t h names)
  where
    one : (t keep : Bool) → without x (names ++ y ∷ []) ≡ cond t (without x names) (without x names ++ y ∷ []) →
        cond keep (e ∷ without x (names ++ y ∷ [])) (without x (names ++ y ∷ [])) ≡ cond t (cond keep (e ∷ without x names) (without x names)) (cond keep (e ∷ without x names) (without x names) ++ y ∷ [])
    one true true k = ap (λ l. e ∷ l) k
    one true false k = k
    one false true k = ap (λ l. e ∷ l) k
    one false false k = k

-- one more name
pub once_more : (xs : List (List ℕ)) (y : List ℕ) → each_once (xs ++ y ∷ []) ≡ cond (among y (each_once xs)) (each_once xs) (each_once xs ++ y ∷ [])
once_more [] y = refl
once_more (x ∷ xs) y =
    ap (λ names. x ∷ without x names) (once_more xs y) ∙ cases (bytes_eq x y) refl (among y (each_once xs)) refl
  where
    cases : (t : Bool) → bytes_eq x y ≡ t → (m : Bool) → among y (each_once xs) ≡ m →
        (x ∷ without x (cond m (each_once xs) (each_once xs ++ y ∷ [])))
        ≡ cond (t || among y (without x (each_once xs))) (x ∷ without x (each_once xs)) ((x ∷ without x (each_once xs)) ++ y ∷ [])
    cases true h true k = refl
    cases true h false k = ap (λ l. x ∷ l) (without_push x y true (other_way x y true h) (each_once xs))
    cases false h true k = ap (λ u. cond u (x ∷ without x (each_once xs)) ((x ∷ without x (each_once xs)) ++ y ∷ [])) (sym (among_without x y h (each_once xs) ∙ k))
    cases false h false k =
        ap (λ l. x ∷ l) (without_push x y false (other_way x y false h) (each_once xs))
        ∙ ap (λ u. cond u (x ∷ without x (each_once xs)) ((x ∷ without x (each_once xs)) ++ y ∷ [])) (sym (among_without x y h (each_once xs) ∙ k))

-- the names after one more line
names_push : (lines : List Accepted) (line : Accepted) →
    map (λ (l : Accepted). l.match_name) (filter (λ (l : Accepted). is_quote l.change) (lines ++ line ∷ []))
    ≡ cond (is_quote line.change) (map (λ (l : Accepted). l.match_name) (filter (λ (l : Accepted). is_quote l.change) lines) ++ line.match_name ∷ []) (map (λ (l : Accepted). l.match_name) (filter (λ (l : Accepted). is_quote l.change) lines))
names_push [] line = one (is_quote line.change)
  where
    one : (t : Bool) → map (λ (l : Accepted). l.match_name) (cond t (line ∷ []) []) ≡ cond t (line.match_name ∷ []) []
    one true = refl
    one false = refl
names_push (first ∷ lines) line = one (is_quote first.change) (is_quote line.change) (names_push lines line)
  where
    one : (t q : Bool) →
        map (λ (l : Accepted). l.match_name) (filter (λ (l : Accepted). is_quote l.change) (lines ++ line ∷ []))
        ≡ cond q (map (λ (l : Accepted). l.match_name) (filter (λ (l : Accepted). is_quote l.change) lines) ++ line.match_name ∷ []) (map (λ (l : Accepted). l.match_name) (filter (λ (l : Accepted). is_quote l.change) lines)) →
        map (λ (l : Accepted). l.match_name) (cond t (first ∷ filter (λ (l : Accepted). is_quote l.change) (lines ++ line ∷ [])) (filter (λ (l : Accepted). is_quote l.change) (lines ++ line ∷ [])))
        ≡ cond q (map (λ (l : Accepted). l.match_name) (cond t (first ∷ filter (λ (l : Accepted). is_quote l.change) lines) (filter (λ (l : Accepted). is_quote l.change) lines)) ++ line.match_name ∷ []) (map (λ (l : Accepted). l.match_name) (cond t (first ∷ filter (λ (l : Accepted). is_quote l.change) lines) (filter (λ (l : Accepted). is_quote l.change) lines)))
    one true true h = ap (λ l. first.match_name ∷ l) h
    one true false h = ap (λ l. first.match_name ∷ l) h
    one false true h = h
    one false false h = h

matches_quote : (lines : List Accepted) (line : Accepted) → is_quote line.change ≡ true →
    matches_of (lines ++ line ∷ []) ≡ cond (is_known lines line.match_name) (matches_of lines) (matches_of lines ++ line.match_name ∷ [])
matches_quote lines line h =
    ap each_once (names_push lines line ∙ ap (λ q. cond q (map (λ (l : Accepted). l.match_name) (filter (λ (l : Accepted). is_quote l.change) lines) ++ line.match_name ∷ []) (map (λ (l : Accepted). l.match_name) (filter (λ (l : Accepted). is_quote l.change) lines))) h)
    ∙ once_more (map (λ (l : Accepted). l.match_name) (filter (λ (l : Accepted). is_quote l.change) lines)) line.match_name

matches_withdrawal : (lines : List Accepted) (line : Accepted) → is_quote line.change ≡ false → matches_of (lines ++ line ∷ []) ≡ matches_of lines
matches_withdrawal lines line h =
    ap each_once (names_push lines line ∙ ap (λ q. cond q (map (λ (l : Accepted). l.match_name) (filter (λ (l : Accepted). is_quote l.change) lines) ++ line.match_name ∷ []) (map (λ (l : Accepted). l.match_name) (filter (λ (l : Accepted). is_quote l.change) lines))) h)

any_last : (q name : List ℕ) (names : List (List ℕ)) → among q (names ++ name ∷ []) ≡ (among q names || bytes_eq name q)
any_last q name [] = one (bytes_eq name q)
  where
    one : (t : Bool) → (t || false) ≡ t
    one true = refl
    one false = refl
any_last q name (first ∷ names) = ap (λ t. bytes_eq first q || t) (any_last q name names) ∙ one (bytes_eq first q) (among q names) (bytes_eq name q)
  where
    one : (a b c : Bool) → (a || (b || c)) ≡ ((a || b) || c)
    one true b c = refl
    one false b c = refl

-- the last line about a selection
last_about : (p : Accepted → Bool) (lines : List Accepted) (line : Accepted) → find p (reverse (lines ++ line ∷ [])) ≡ cond (p line) (Some line) (find p (reverse lines))
last_about p lines line = ap (find p) (reverse-append lines (line ∷ []))

stands_more : (lines : List Accepted) (line : Accepted) (q : List ℕ) (n : ℕ) →
    stands (lines ++ line ∷ []) q n ≡ cond (bytes_eq line.match_name q && eqb (selection_number line.selection) n) (is_quote line.change) (stands lines q n)
stands_more lines line q n =
    ap is_quoted_by (last_about (is_about q n) lines line) ∙ one (is_about q n line)
  where
    one : (t : Bool) → is_quoted_by (cond t (Some line) (find (is_about q n) (reverse lines))) ≡ cond t (is_quote line.change) (stands lines q n)
    one true = refl
    one false = refl

-- how many stand, counted in the row
count_same : (f : ℕ → Bool) (row : List Bool) (a : ℕ) → ((i : ℕ) → i < length row → f (a + i) ≡ get_or row i false) →
    count_by f (range_with_len a (length row)) ≡ count_by (λ t. t) row
count_same f [] a h = refl
count_same f (t ∷ row) a h =
    sum_by-cons (λ (i : ℕ). cond (f i) 1 0) a (range_with_len (a + 1) (length row))
    ∙ ap (λ n. cond (f a) 1 0 + n) (count_same f row (a + 1) (λ i within. ap f (omega arith) ∙ h (suc i) (omega arith)))
    ∙ ap (λ b. cond b 1 0 + count_by (λ t. t) row) (ap f (omega arith) ∙ h 0 (omega arith))
    ∙ sym (sum_by-cons (λ (b : Bool). cond b 1 0) t row)

count_none : (f : ℕ → Bool) (a n : ℕ) → ((i : ℕ) → i < n → f (a + i) ≡ false) → count_by f (range_with_len a n) ≡ 0
count_none f a zero h = refl
count_none f a (suc n) h =
    sum_by-cons (λ (i : ℕ). cond (f i) 1 0) a (range_with_len (a + 1) n)
    ∙ ap (λ m. cond (f a) 1 0 + m) (count_none f (a + 1) n (λ i within. ap f (omega arith) ∙ h (suc i) (omega arith)))
    ∙ ap (λ b. cond b 1 0 + 0) (ap f (omega arith) ∙ h 0 (omega arith))

none_in : (n : ℕ) → count_by (λ t. t) (replicate n false) ≡ 0
none_in zero = refl
none_in (suc n) = sum_by-cons (λ (b : Bool). cond b 1 0) false (replicate n false) ∙ ap (λ m. 0 + m) (none_in n)

abbrev refuse : Bool → Bool → Option Cause
refuse m s = cond (not m) (Some TooManyMatches) (cond (not s) (Some TooManyOffers) None)

none_case : (k s : Bool) (r n c : ℕ) → k ≡ false → s ≡ false → r ≡ n → c ≡ 0 →
    cond (ltb r MOST_MATCHES) None (Some TooManyMatches) ≡ refuse (k || ltb n MOST_MATCHES) (s || ltb c MOST_STANDING)
none_case k s r n c ke se re ce =
    one (ltb r MOST_MATCHES)
    ∙ ap (λ m. refuse (ltb m MOST_MATCHES) true) re
    ∙ ap (λ t. refuse (t || ltb n MOST_MATCHES) true) (sym ke)
    ∙ ap (λ t. refuse (k || ltb n MOST_MATCHES) (t || ltb 0 MOST_STANDING)) (sym se)
    ∙ ap (λ m. refuse (k || ltb n MOST_MATCHES) (s || ltb m MOST_STANDING)) (sym ce)
  where
    one : (t : Bool) → cond t None (Some TooManyMatches) ≡ refuse t true
    one true = refl
    one false = refl

row_case : (k s here : Bool) (c count n : ℕ) → k ≡ true → s ≡ here → c ≡ count →
    cond (here || ltb count MOST_STANDING) None (Some TooManyOffers) ≡ refuse (k || ltb n MOST_MATCHES) (s || ltb c MOST_STANDING)
row_case k s here c count n ke se ce =
    one (here || ltb count MOST_STANDING)
    ∙ ap (λ t. refuse true (t || ltb count MOST_STANDING)) (sym se)
    ∙ ap (λ m. refuse true (s || ltb m MOST_STANDING)) (sym ce)
    ∙ ap (λ t. refuse (t || ltb n MOST_MATCHES) (s || ltb c MOST_STANDING)) (sym ke)
  where
    one : (t : Bool) → cond t None (Some TooManyOffers) ≡ refuse true t
    one true = refl
    one false = refl

module _ (row_of : List ℕ → Option (List Bool)) (rows : ℕ) (lines : List Accepted) (is : IsStanding row_of rows lines) (name : List ℕ) where
  count_in : (o : Option (List Bool)) → row_of name ≡ o → standing_count lines name ≡ count_by (λ t. t) (row_or_empty o)
  count_in None e =
      count_none (stands lines name) 0 MOST_SELECTIONS (λ i within. ap (stands lines name) (omega arith) ∙ sym (is.stand name i within) ∙ ap (λ o. stands_in o i) e)
      ∙ sym (none_in MOST_SELECTIONS)
  count_in (Some row) e =
      let size : length row ≡ MOST_SELECTIONS = subst (λ o. IfSome o (λ row. length row ≡ MOST_SELECTIONS)) e (is.sizes name) in
      ap (λ n. count_by (stands lines name) (range_with_len 0 n)) (sym size)
      ∙ count_same (stands lines name) row 0 (λ i within. ap (stands lines name) (omega arith) ∙ sym (is.stand name i (omega (arith, size))) ∙ ap (λ o. stands_in o i) e)

  known_is : (o : Option (List Bool)) → row_of name ≡ o → is_known lines name ≡ is_some o
  known_is o e = sym (is.known name) ∙ ap is_some e

  stands_is : (number : ℕ) (o : Option (List Bool)) → number < MOST_SELECTIONS → row_of name ≡ o → stands lines name number ≡ stands_in o number
  stands_is number o h e = sym (is.stand name number h) ∙ ap (λ o. stands_in o number) e

  -- the refusals that the rows show are those of the lines
  pub refused_is : (number : ℕ) (change : Change) → number < MOST_SELECTIONS → refused_by (row_of name) rows number change ≡ refused_for lines name number change
  refused_is number Withdraw h = ap (λ t. cond t None (Some NotQuoted)) (is.stand name number h)
  refused_is number (Quote odds limit) h = by_row (row_of name) refl
    where
      by_row : (o : Option (List Bool)) → row_of name ≡ o → quote_refused_by o rows number
          ≡ refuse (is_known lines name || ltb (length (matches_of lines)) MOST_MATCHES) (stands lines name number || ltb (standing_count lines name) MOST_STANDING)
      by_row None e = none_case (is_known lines name) (stands lines name number) rows (length (matches_of lines)) (standing_count lines name)
          (known_is None e) (stands_is number None h e) is.count (count_in None e ∙ none_in MOST_SELECTIONS)
      by_row (Some row) e = row_case (is_known lines name) (stands lines name number) (get_or row number false) (standing_count lines name) (count_by (λ t. t) row) (length (matches_of lines))
          (known_is (Some row) e) (stands_is number (Some row) h e) (count_in (Some row) e)

-- one more accepted line
get_empty : (o : Option (List Bool)) (n : ℕ) → n < MOST_SELECTIONS → get_or (row_or_empty o) n false ≡ stands_in o n
get_empty None n h = get_or-replicate MOST_SELECTIONS n false false h
get_empty (Some row) n h = refl

size_empty : (o : Option (List Bool)) → IfSome o (λ row. length row ≡ MOST_SELECTIONS) → length (row_or_empty o) ≡ MOST_SELECTIONS
size_empty None h = length-replicate MOST_SELECTIONS false
size_empty (Some row) h = h

stands_known : (o : Option (List Bool)) (number : ℕ) → cond (stands_in o number) None (Some NotQuoted) ≡ None → is_some o ≡ true
stands_known None number h = absurd (cc)
stands_known (Some row) number h = refl

room_new : (o : Option (List Bool)) (rows number : ℕ) → is_some o ≡ false → quote_refused_by o rows number ≡ None → rows < MOST_MATCHES
room_new None rows number e h = ltb-true rows MOST_MATCHES (one (ltb rows MOST_MATCHES) h)
  where
    one : (t : Bool) → cond t None (Some TooManyMatches) ≡ None → t ≡ true
    one true h = refl
    one false h = absurd (cc)
room_new (Some row) rows number e h = absurd (cc)

module _ (row_of row_now : List ℕ → Option (List Bool)) (rows rows_now : ℕ) (lines : List Accepted) (line : Accepted) (is : IsStanding row_of rows lines)
    (low : selection_number line.selection < MOST_SELECTIONS)
    (free : refused_by (row_of line.match_name) rows (selection_number line.selection) line.change ≡ None)
    (put : (q : List ℕ) → row_now q ≡ cond (bytes_eq line.match_name q) (Some (set (row_or_empty (row_of line.match_name)) (selection_number line.selection) (is_quote line.change))) (row_of q))
    (len : rows_now ≡ rows + cond (is_some (row_of line.match_name)) 0 1) where
  name : List ℕ
  name = line.match_name

  by_change : (c : Change) → line.change ≡ c → (is_quote line.change ≡ false → is_some (row_of line.match_name) ≡ true)
  by_change (Quote odds limit) e h = absurd (false≢true (sym h ∙ ap is_quote e))
  by_change Withdraw e h = stands_known (row_of line.match_name) (selection_number line.selection) (ap (refused_by (row_of line.match_name) rows (selection_number line.selection)) (sym e) ∙ free)

  few_new : (c : Change) → line.change ≡ c → is_some (row_of line.match_name) ≡ false → rows < MOST_MATCHES
  few_new (Quote odds limit) e h = room_new (row_of line.match_name) rows (selection_number line.selection) h (ap (refused_by (row_of line.match_name) rows (selection_number line.selection)) (sym e) ∙ free)
  few_new Withdraw e h = absurd (false≢true (sym h ∙ by_change Withdraw e (ap is_quote e)))

  names_now : matches_of (lines ++ line ∷ []) ≡ cond (is_some (row_of line.match_name)) (matches_of lines) (matches_of lines ++ line.match_name ∷ [])
  names_now = by_quote (is_quote line.change) refl
    where
      by_quote : (t : Bool) → is_quote line.change ≡ t → matches_of (lines ++ line ∷ []) ≡ cond (is_some (row_of line.match_name)) (matches_of lines) (matches_of lines ++ line.match_name ∷ [])
      by_quote true e = matches_quote lines line e ∙ ap (λ t. cond t (matches_of lines) (matches_of lines ++ line.match_name ∷ [])) (sym (is.known line.match_name))
      by_quote false e = matches_withdrawal lines line e ∙ ap (λ t. cond t (matches_of lines) (matches_of lines ++ line.match_name ∷ [])) (sym (by_change line.change refl e))

  known_now : (q : List ℕ) → is_some (row_now q) ≡ is_known (lines ++ line ∷ []) q
  known_now q =
      ap is_some (put q)
      ∙ by_tests (bytes_eq line.match_name q) refl (is_some (row_of line.match_name)) refl
      ∙ ap (λ names. among q names) (sym names_now)
    where
      row : List Bool
      row = set (row_or_empty (row_of line.match_name)) (selection_number line.selection) (is_quote line.change)

      or_true : (t : Bool) → true ≡ (t || true)
      or_true true = refl
      or_true false = refl

      or_false : (t : Bool) → t ≡ (t || false)
      or_false true = refl
      or_false false = refl

      by_tests : (b : Bool) → bytes_eq line.match_name q ≡ b → (k : Bool) → is_some (row_of line.match_name) ≡ k →
          is_some (cond b (Some row) (row_of q)) ≡ among q (cond k (matches_of lines) (matches_of lines ++ line.match_name ∷ []))
      by_tests true e true known = sym (ap (is_known lines) (sym (same_text line.match_name q e)) ∙ sym (is.known line.match_name) ∙ known)
      by_tests false e true known = is.known q
      by_tests true e false known = or_true (among q (matches_of lines)) ∙ ap (λ t. among q (matches_of lines) || t) (sym e) ∙ sym (any_last q line.match_name (matches_of lines))
      by_tests false e false known = is.known q ∙ or_false (among q (matches_of lines)) ∙ ap (λ t. among q (matches_of lines) || t) (sym e) ∙ sym (any_last q line.match_name (matches_of lines))

  count_now : rows_now ≡ length (matches_of (lines ++ line ∷ []))
  count_now = len ∙ by_test (is_some (row_of line.match_name)) ∙ sym (ap length names_now)
    where
      by_test : (k : Bool) → rows + cond k 0 1 ≡ length (cond k (matches_of lines) (matches_of lines ++ line.match_name ∷ []))
      by_test true = omega (arith, is.count)
      by_test false = omega (arith, is.count, length-append (matches_of lines) (line.match_name ∷ []))

  few_now : rows_now ≤ MOST_MATCHES
  few_now = by_test (is_some (row_of line.match_name)) refl
    where
      by_test : (k : Bool) → is_some (row_of line.match_name) ≡ k → rows_now ≤ MOST_MATCHES
      by_test true e = omega (arith, len, ap (λ k. rows + cond k 0 1) e, is.few)
      by_test false e = omega (arith, len, ap (λ k. rows + cond k 0 1) e, few_new line.change refl e)

  stand_now : (q : List ℕ) (n : ℕ) → n < MOST_SELECTIONS → stands_in (row_now q) n ≡ stands (lines ++ line ∷ []) q n
  stand_now q n h =
      ap (λ o. stands_in o n) (put q)
      ∙ by_name (bytes_eq line.match_name q) refl (eqb (selection_number line.selection) n) refl
      ∙ sym (stands_more lines line q n)
    where
      row : List Bool
      row = row_or_empty (row_of line.match_name)

      wide : length row ≡ MOST_SELECTIONS
      wide = size_empty (row_of line.match_name) (is.sizes line.match_name)

      same_number : eqb (selection_number line.selection) n ≡ true → selection_number line.selection ≡ n
      same_number e = eqb-true (selection_number line.selection) n e

      other_number : eqb (selection_number line.selection) n ≡ false → n ≡ selection_number line.selection → ⊥
      other_number e same = false≢true (sym e ∙ ap (eqb (selection_number line.selection)) same ∙ eq-eqb (selection_number line.selection) (selection_number line.selection) refl)

      by_name : (b : Bool) → bytes_eq line.match_name q ≡ b → (m : Bool) → eqb (selection_number line.selection) n ≡ m →
          stands_in (cond b (Some (set row (selection_number line.selection) (is_quote line.change))) (row_of q)) n
          ≡ cond (b && m) (is_quote line.change) (stands lines q n)
      by_name false e m k = is.stand q n h
      by_name true e true k =
          ap (λ i. get_or (set row (selection_number line.selection) (is_quote line.change)) i false) (sym (same_number k))
          ∙ get_or-set_same row (selection_number line.selection) (is_quote line.change) false (omega (arith, wide, low))
      by_name true e false k =
          get_or-set_other row (selection_number line.selection) n (is_quote line.change) false (other_number k)
          ∙ get_empty (row_of line.match_name) n h
          ∙ is.stand line.match_name n h
          ∙ ap (λ q. stands lines q n) (same_text line.match_name q e)

  sizes_now : (q : List ℕ) → IfSome (row_now q) (λ row. length row ≡ MOST_SELECTIONS)
  sizes_now q = subst (λ o. IfSome o (λ row. length row ≡ MOST_SELECTIONS)) (sym (put q)) (by_name (bytes_eq line.match_name q))
    where
      by_name : (b : Bool) → IfSome (cond b (Some (set (row_or_empty (row_of line.match_name)) (selection_number line.selection) (is_quote line.change))) (row_of q)) (λ row. length row ≡ MOST_SELECTIONS)
      by_name true = length-set (row_or_empty (row_of line.match_name)) (selection_number line.selection) (is_quote line.change) ∙ size_empty (row_of line.match_name) (is.sizes line.match_name)
      by_name false = is.sizes q

  pub standing_more : IsStanding row_now rows_now (lines ++ line ∷ [])
  standing_more = record { known = known_now; count = count_now; few = few_now; stand = stand_now; sizes = sizes_now }

-- what a change ensures if it is made, and if it is refused
pub at_none : {A : Type 0} {P : Type 0} (o : Option A) → o ≡ None → IfNone o P → P
at_none None e h = h
at_none (Some x) e h = absurd (cc)

pub at_some : {A : Type 0} {P : Type 0} (o : Option A) {x : A} → o ≡ Some x → IfSome o (λ _. P) → P
at_some None e h = absurd (cc)
at_some (Some y) e h = h

pub at_refusal : {A : Type 0} {P Q : Type 0} (o : Option A) → (P → Q) → IfSome o (λ _. P) → IfSome o (λ _. Q)
at_refusal None f h = h
at_refusal (Some x) f h = f h

-- a row in which one selection stands
pub count_one : (n i : ℕ) → i < n → count_by (λ t. t) (set (replicate n false) i true) ≡ 1
count_one zero i h = absurd (omega (arith, h))
count_one (suc n) zero h = sum_by-cons (λ (b : Bool). cond b 1 0) true (replicate n false) ∙ ap (λ m. 1 + m) (none_in n)
count_one (suc n) (suc i) h = sum_by-cons (λ (b : Bool). cond b 1 0) false (set (replicate n false) i true) ∙ ap (λ m. 0 + m) (count_one n i (omega (arith, h)))
