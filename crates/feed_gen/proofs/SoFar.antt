-- The lines that were put so far, and those that are left.
use Rattle.std.proofs.Common.{ℕ, ◌≡◌, ◌+◌, ◌<◌, ◌≤◌, zero, suc, Bool, List, [], ◌∷◌, ◌++◌, refl, sym, ap, subst, ◌∙◌, append_assoc, arith}
use Rattle.std.specs.List.{flat_map}
use Rattle.std.proofs.lemmas.List.{append-nil}
use Rattle.std.proofs.lemmas.Grind.{flat_map-append}
use Rattle.feed_gen.specs.declared.made_line.MadeLine.{MadeLine}
use Rattle.feed_gen.specs.Generated.{drawn_from, line_of, lines_from, line_text}
use Rattle.feed_gen.specs.Standing.{IsStanding}

-- of so many lines from a state on, these were put so far and so many are left; and this is said of their text
pub record IsSoFar (matches count first : ℕ) (P : List ℕ → Type 0) (counter state : ℕ) (standing : List Bool) : Type 0 where
  pub front : List MadeLine
  pub earlier : List MadeLine
  pub left : ℕ
  pub counted : left + counter ≡ count
  pub lines_are : lines_from matches count first [] ≡ front ++ lines_from matches left state earlier
  pub stands_so : IsStanding standing earlier
  pub is_put : P (flat_map line_text front)

pub none_so_far : (matches count first : ℕ) (P : List ℕ → Type 0) (standing : List Bool) → IsStanding standing [] → P [] → IsSoFar matches count first P 0 first standing
none_so_far matches count first P standing none put = record {
  front = [];
  earlier = [];
  left = count;
  counted = omega arith;
  lines_are = refl;
  stands_so = none;
  is_put = put;
}

-- the next line is the first of those that are left
next_is_first : (matches k state next : ℕ) (earlier front all : List MadeLine) (line : MadeLine) → all ≡ front ++ lines_from matches (suc k) state earlier → line ≡ line_of (drawn_from state) matches earlier → next ≡ (drawn_from state).of_change → all ≡ (front ++ line ∷ []) ++ lines_from matches k next (line ∷ earlier)
next_is_first matches k state next earlier front all line are is_line is_next =
    let P : MadeLine → Type 0 = λ l. all ≡ (front ++ l ∷ []) ++ lines_from matches k (drawn_from state).of_change (l ∷ earlier) in
    let first = line_of (drawn_from state) matches earlier in
    let here : P first = are ∙ sym (append_assoc front (first ∷ []) (lines_from matches k (drawn_from state).of_change (first ∷ earlier))) in
    let Q : ℕ → Type 0 = λ n. all ≡ (front ++ line ∷ []) ++ lines_from matches k n (line ∷ earlier) in
    subst Q (sym is_next) (subst P (sym is_line) here)

text_of_more : (front : List MadeLine) (line : MadeLine) → flat_map line_text front ++ line_text line ≡ flat_map line_text (front ++ line ∷ [])
text_of_more front line = sym (flat_map-append line_text front (line ∷ []) ∙ ap (λ (r : List ℕ). flat_map line_text front ++ r) (append-nil (line_text line)))

pub one_more : {matches count first counter state : ℕ} {P : List ℕ → Type 0} {standing : List Bool} (Q : List ℕ → Type 0) (marked : List Bool) (line : MadeLine) (next : ℕ) → IsSoFar matches count first P counter state standing → counter < count → ((earlier : List MadeLine) → IsStanding standing earlier → line ≡ line_of (drawn_from state) matches earlier) → next ≡ (drawn_from state).of_change → ((earlier : List MadeLine) → IsStanding standing earlier → IsStanding marked (line ∷ earlier)) → ((text : List ℕ) → P text → Q (text ++ line_text line)) → IsSoFar matches count first Q (counter + 1) next marked
one_more {matches = matches} {count = count} {first = first} {counter = counter} {state = state} Q marked line next s less is_line is_next marks puts =
    elim s.left as (λ n. s.left ≡ n → IsSoFar matches count first Q (counter + 1) next marked) [
      | zero ↦ λ e. absurd (omega (arith, e, s.counted))
      | suc k ↦ λ e. record {
        front = s.front ++ line ∷ [];
        earlier = line ∷ s.earlier;
        left = k;
        counted = omega (arith, e, s.counted);
        lines_are = next_is_first matches k state next s.earlier s.front _ line (s.lines_are ∙ ap (λ n. s.front ++ lines_from matches n state s.earlier) e) (is_line s.earlier s.stands_so) is_next;
        stands_so = marks s.earlier s.stands_so;
        is_put = subst Q (text_of_more s.front line) (puts (flat_map line_text s.front) s.is_put);
      }
    ] refl

-- what is said of the text so far and any text behind it, is said of the whole text
pub of_the_whole : {matches count first counter state : ℕ} {P : List ℕ → Type 0} {standing : List Bool} (Q : List ℕ → Type 0) → IsSoFar matches count first P counter state standing → ((text rest : List ℕ) → P text → Q (text ++ rest)) → Q (flat_map line_text (lines_from matches count first []))
of_the_whole {matches = matches} {state = state} Q s more =
    let rest = lines_from matches s.left state s.earlier in
    let e = ap (flat_map line_text) s.lines_are ∙ flat_map-append line_text s.front rest in
    subst Q (sym e) (more (flat_map line_text s.front) (flat_map line_text rest) s.is_put)

-- if no line is left, the text so far is the whole text
pub all_so_far : {matches count first counter state : ℕ} {P : List ℕ → Type 0} {standing : List Bool} → IsSoFar matches count first P counter state standing → count ≤ counter → P (flat_map line_text (lines_from matches count first []))
all_so_far {matches = matches} {state = state} {P = P} s all =
    let none : s.left ≡ 0 = omega (arith, s.counted) in
    let e = s.lines_are ∙ ap (λ n. s.front ++ lines_from matches n state s.earlier) none ∙ append-nil s.front in
    subst P (sym (ap (flat_map line_text) e)) s.is_put
