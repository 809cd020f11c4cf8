-- Numbers are read as far as their digits go.
use Rattle.std.proofs.Common.{ℕ, suc, ◌≡◌, ◌+◌, ◌-◌, ◌*◌, ◌/◌, ◌%◌, ◌^◌, ◌≤◌, ◌<◌, Bool, true, false, cond, List, [], ◌∷◌, ◌++◌, length, refl, sym, ap, subst, ◌∙◌, arith, append_assoc, decimal}
use Rattle.std.specs.Prelude.{Ok, Err, nat_le, nat_lt, ◌&&◌}
use Rattle.std.proofs.lemmas.Bool.Decides.{nat_tests}
use Rattle.std.proofs.lemmas.Fmt.{decimal_digit, decimal_step, decimal_by_steps}
use Rattle.certificates.specs.Reading.{is_digit, can_follow, digits_on, number_at}
use Rattle.certificates.proofs.Readers.{Ends, SameHead, Stuck, Reads, ok_is, not_both, tail_is}

digit_bounds : (c : ℕ) → is_digit c ≡ true → (48 ≤ c) × (c ≤ 57)
digit_bounds c e = (grind (arith, nat_tests), grind (arith, nat_tests))

is_digit_of : (d : ℕ) → d < 10 → is_digit (48 + d) ≡ true
is_digit_of d h = grind (arith, nat_tests)

-- what it takes that a byte goes on with a number
record Follows (most number c : ℕ) : Type 0 where
  digit : is_digit c ≡ true
  some : 0 < number
  within : 10 * number + (c - 48) ≤ most

and_true : (a b : Bool) → (a && b) ≡ true → (a ≡ true) × (b ≡ true)
and_true true b e = (refl, e)
and_true false b e = absurd cc

follows : (most number c : ℕ) → can_follow most number c ≡ true → Follows most number c
follows most number c e =
    let (d, e1) = and_true (is_digit c) (nat_lt 0 number && nat_le (10 * number + (c - 48)) most) e in
    let (p, w) = and_true (nat_lt 0 number) (nat_le (10 * number + (c - 48)) most) e1 in
    record { digit = d; some = grind (arith, nat_tests); within = grind (arith, nat_tests) }

can_follow_is : (most number c : ℕ) → Follows most number c → can_follow most number c ≡ true
can_follow_is most number c f =
    let p : nat_lt 0 number ≡ true = grind (arith, nat_tests, f.some) in
    let w : nat_le (10 * number + (c - 48)) most ≡ true = grind (arith, nat_tests, f.within) in
    rw (f.digit, p, w) refl

-- one digit more at the end
one_more : (number c : ℕ) → 0 < number → 48 ≤ c → c ≤ 57 → 10 * number + (c - 48) < 2 ^ 64 → decimal (10 * number + (c - 48)) ≡ decimal number ++ c ∷ []
one_more number c p low high small =
    let m : ℕ = 10 * number + (c - 48) in
    let q : m / 10 ≡ number = omega arith in
    let r : 48 + m % 10 ≡ c = omega arith in
    decimal_step m (omega arith) small ∙ ap (λ (k : ℕ). decimal k ++ (48 + m % 10) ∷ []) q ∙ ap (λ (k : ℕ). decimal number ++ k ∷ []) r

-- what was taken and what is left
record Takes (number : ℕ) (text : List ℕ) (most : ℕ) (x : ℕ × List ℕ) : Type 0 where
  parts : decimal number ++ text ≡ decimal x.0 ++ x.1
  within : x.0 ≤ most
  shorter : length x.1 ≤ length text

digits_take : (most : ℕ) → most < 2 ^ 64 → (text : List ℕ) (number : ℕ) → number ≤ most → Takes number text most (digits_on most number text)
digits_take most small [] number h = record { parts = refl; within = h; shorter = omega arith }
digits_take most small (c ∷ text) number h =
    elim (can_follow most number c) as (λ v. can_follow most number c ≡ v → Takes number (c ∷ text) most (cond v (digits_on most (10 * number + (c - 48)) text) (number, c ∷ text))) [
      | true ↦ λ e.
          let f = follows most number c e in
          let (low, high) = digit_bounds c f.digit in
          let within : 10 * number + (c - 48) ≤ most = f.within in
          let next = digits_take most small text (10 * number + (c - 48)) within in
          record {
            parts = sym (ap (λ (v : List ℕ). v ++ text) (one_more number c f.some low high (omega arith)) ∙ append_assoc (decimal number) (c ∷ []) text) ∙ next.parts;
            within = next.within;
            shorter = omega (arith, next.shorter);
          }
      | false ↦ λ e. record { parts = refl; within = h; shorter = omega arith }
    ] refl

number_starts : (most c : ℕ) (text : List ℕ) → is_digit c ≡ true → number_at most (c ∷ text) ≡ Ok (digits_on most (c - 48) text)
unfolding number_at
number_starts most c text e = rw e refl

-- behind the digits of a number, reading goes on with what follows
number_core : (most : ℕ) → most < 2 ^ 64 → (n : ℕ) → n ≤ most → (text : List ℕ) → number_at most (decimal n ++ text) ≡ Ok (digits_on most n text)
number_core most small n h =
    decimal_by_steps (λ n ds. n ≤ most → (text : List ℕ) → number_at most (ds ++ text) ≡ Ok (digits_on most n text))
    (λ n lt le text.
    let e : (48 + n) - 48 ≡ n = omega arith in
    number_starts most (48 + n) text (is_digit_of n lt) ∙ ap (λ (k : ℕ). Ok (digits_on most k text)) e)
    (λ n ds ge before le text.
    let c : ℕ = 48 + n % 10 in
    let some : 0 < n / 10 = omega arith in
    let whole : 10 * (n / 10) + (c - 48) ≡ n = omega arith in
    let within : 10 * (n / 10) + (c - 48) ≤ most = omega arith in
    let can = can_follow_is most (n / 10) c record { digit = is_digit_of (n % 10) (omega arith); some = some; within = within } in
    let step : digits_on most (n / 10) (c ∷ text) ≡ digits_on most n text = ap (λ (v : Bool). cond v (digits_on most (10 * (n / 10) + (c - 48)) text) (n / 10, c ∷ text)) can ∙ ap (λ (k : ℕ). digits_on most k text) whole in
    ap (number_at most) (append_assoc ds (c ∷ []) text) ∙ before (omega arith) (c ∷ text) ∙ ap (λ (x : ℕ × List ℕ). Ok x) step)
    n (omega arith) h

-- nothing goes on with the number
stops : (most n : ℕ) (text : List ℕ) → Ends text → digits_on most n text ≡ (n, text)
stops most n [] ends = refl
stops most n (c ∷ text) ends =
    elim (can_follow most n c) as (λ v. can_follow most n c ≡ v → cond v (digits_on most (10 * n + (c - 48)) text) (n, c ∷ text) ≡ (n, c ∷ text)) [
      | true ↦ λ e. let f = follows most n c e in absurd cc
      | false ↦ λ e. refl
    ] refl

-- where a number stops is told by the next byte
stops_alike : (most : ℕ) → most < 2 ^ 64 → (n : ℕ) → n ≤ most → (text other : List ℕ) → digits_on most n text ≡ (n, text) → SameHead text other → digits_on most n other ≡ (n, other)
stops_alike most small n h [] [] e same = refl
stops_alike most small n h [] (d ∷ other) e same = absurd same
stops_alike most small n h (c ∷ text) [] e same = refl
stops_alike most small n h (c ∷ text) (d ∷ other) e same =
    elim (can_follow most n d) as (λ v. can_follow most n d ≡ v → cond v (digits_on most (10 * n + (d - 48)) other) (n, d ∷ other) ≡ (n, d ∷ other)) [
      | true ↦ λ can.
          let can_c : can_follow most n c ≡ true = ap (can_follow most n) same ∙ can in
          let f = follows most n c can_c in
          let next = digits_take most small text (10 * n + (c - 48)) f.within in
          let is : digits_on most (10 * n + (c - 48)) text ≡ (n, c ∷ text) = ap (λ (v : Bool). cond v (digits_on most (10 * n + (c - 48)) text) (n, c ∷ text)) (sym can_c) ∙ e in
          let longer : length (digits_on most (10 * n + (c - 48)) text).1 ≡ length (c ∷ text) = ap (λ (x : ℕ × List ℕ). length x.1) is in
          absurd (omega (arith, next.shorter))
      | false ↦ λ can. refl
    ] refl

first_digit_only : (most c : ℕ) (text : List ℕ) (x : ℕ × List ℕ) → number_at most (c ∷ text) ≡ Ok x → is_digit c ≡ true
unfolding number_at
first_digit_only most c text x e =
    elim (is_digit c) as (λ v. cond v (Ok (digits_on most (c - 48) text)) (Err (suc (length text))) ≡ Ok x → v ≡ true) [ true ↦ λ h. refl | false ↦ λ h. absurd cc ] e

small_number : (c : ℕ) → 48 ≤ c → c ≤ 57 → decimal (c - 48) ≡ c ∷ []
small_number c low high =
    let e : 48 + (c - 48) ≡ c = omega arith in
    decimal_digit (c - 48) (omega arith) ∙ ap (λ (k : ℕ). k ∷ []) e

pub Reads-number : (most : ℕ) → 9 ≤ most → most < 2 ^ 64 → Reads (λ n. n ≤ most) decimal (number_at most)
unfolding number_at
Reads-number most big small = record {
  takes = number_takes;
  again = λ n rest h ends. number_core most small n h rest ∙ ap (λ (x : ℕ × List ℕ). Ok x) (stops most n rest ends);
  here = λ s x other e same.
      let one = number_takes s x e in
      let on : digits_on most x.0 x.1 ≡ x = ok_is (digits_on most x.0 x.1) x (sym (number_core most small x.0 one.1 x.1) ∙ ap (number_at most) (sym one.0) ∙ e) in
      number_core most small x.0 one.1 other ∙ ap (λ (x : ℕ × List ℕ). Ok x) (stops_alike most small x.0 one.1 x.1 other on same);
  stuck = number_stuck;
} where
  number_takes : (s : List ℕ) (x : ℕ × List ℕ) → number_at most s ≡ Ok x → (s ≡ decimal x.0 ++ x.1) × (x.0 ≤ most)
  number_takes [] x e = absurd cc
  number_takes (c ∷ s) x e =
      let digit = first_digit_only most c s x e in
      let (low, high) = digit_bounds c digit in
      let t = digits_take most small s (c - 48) (omega arith) in
      let made : (c ∷ s ≡ decimal (digits_on most (c - 48) s).0 ++ (digits_on most (c - 48) s).1) × ((digits_on most (c - 48) s).0 ≤ most) =
      (ap (λ (v : List ℕ). v ++ s) (sym (small_number c low high)) ∙ t.parts, t.within) in
      subst (λ (y : ℕ × List ℕ). (c ∷ s ≡ decimal y.0 ++ y.1) × (y.0 ≤ most)) (ok_is (digits_on most (c - 48) s) x (sym (number_starts most c s digit) ∙ e)) made

  number_stuck : (s : List ℕ) (n : ℕ) → number_at most s ≡ Err n → Stuck (λ n. n ≤ most) decimal s n
  number_stuck [] n e = record {
    front = [];
    rest = [];
    parts = refl;
    left = cc;
    some = 0;
    more = decimal 0;
    fits = omega arith;
    goes_on = refl;
    ends_here = λ c after z y a er q ends eq. absurd cc;
  }
  number_stuck (c ∷ s) n e =
      elim (is_digit c) as (λ v. is_digit c ≡ v → cond v (Ok (digits_on most (c - 48) s)) (Err (suc (length s))) ≡ Err n → Stuck (λ n. n ≤ most) decimal (c ∷ s) n) [
        | true ↦ λ is h. absurd (not_both (digits_on most (c - 48) s) n h)
        | false ↦ λ is h. record {
          front = [];
          rest = c ∷ s;
          parts = refl;
          left = cc;
          some = 0;
          more = decimal 0;
          fits = omega arith;
          goes_on = refl;
          ends_here = λ d after z y b er q ends eq.
              let one = (tail_is c d s after er).0 in
              let read : number_at most (d ∷ z) ≡ Ok (digits_on most b y) = ap (number_at most) (sym eq) ∙ number_core most small b q y in
              let digit = first_digit_only most d z (digits_on most b y) read in
              let other : is_digit d ≡ false = ap is_digit (sym one) ∙ is in
              absurd cc;
        }
      ] refl e
