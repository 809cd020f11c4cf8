-- What a reader reads: exactly the texts of a form, and where it stops no longer front begins one.
use Rattle.std.proofs.Common.{ℕ, zero, suc, ◌≡◌, Bool, true, false, cond, eqb, ◌⊎◌, inl, inr, List, [], ◌∷◌, ◌++◌, length, refl, sym, ap, subst, ◌∙◌, arith, append_assoc}
use Rattle.std.specs.Prelude.{Result, Ok, Err}
use Rattle.std.proofs.lemmas.Bool.Decides.{nat_tests}
use Rattle.std.specs.List.{flat_map, AllByRecursion}
use Rattle.certificates.specs.Reading.{Read, ◌>>=◌, word_at, starts, is_digit, items_at, made_at}

-- no digit follows
abbrev pub Ends : List ℕ → Type 0
Ends [] = Unit {0}
Ends (c ∷ text) = is_digit c ≡ false

-- the same byte comes next, or none in both
abbrev pub SameHead : List ℕ → List ℕ → Type 0
SameHead [] [] = Unit {0}
SameHead [] (d ∷ v) = ⊥
SameHead (c ∷ u) [] = ⊥
SameHead (c ∷ u) (d ∷ v) = c ≡ d

pub SameHead-append : (x u v : List ℕ) → SameHead u v → SameHead (x ++ u) (x ++ v)
SameHead-append [] u v h = h
SameHead-append (c ∷ x) u v h = refl

pub SameHead-front : (x : List ℕ) (c : ℕ) (u v : List ℕ) → SameHead (x ++ c ∷ u) (x ++ c ∷ v)
SameHead-front x c u v = SameHead-append x (c ∷ u) (c ∷ v) refl

-- where a reader stops: a front that can be continued to a text, and no longer front can
pub record Stuck {A : Type 0} (P : A → Type 0) (t : A → List ℕ) (s : List ℕ) (n : ℕ) : Type 0 where
  pub front : List ℕ
  pub rest : List ℕ
  pub parts : s ≡ front ++ rest
  pub left : length rest ≡ n
  pub some : A
  pub more : List ℕ
  pub fits : P some
  pub goes_on : t some ≡ front ++ more
  pub ends_here : (c : ℕ) (after z y : List ℕ) (b : A) → rest ≡ c ∷ after → P b → Ends y → t b ++ y ≡ front ++ c ∷ z → ⊥

pub record Reads {A : Type 0} (P : A → Type 0) (t : A → List ℕ) (r : List ℕ → Read A) : Type 0 where
  pub takes : (s : List ℕ) (x : A × List ℕ) → r s ≡ Ok x → (s ≡ t x.0 ++ x.1) × P x.0
  pub again : (a : A) (rest : List ℕ) → P a → Ends rest → r (t a ++ rest) ≡ Ok (a, rest)
  pub here : (s : List ℕ) (x : A × List ℕ) (other : List ℕ) → r s ≡ Ok x → SameHead x.1 other → r (t x.0 ++ other) ≡ Ok (x.0, other)
  pub stuck : (s : List ℕ) (n : ℕ) → r s ≡ Err n → Stuck P t s n

pub bind_ok : {A B : Type 0} (m : Result A ℕ) (f : A → Result B ℕ) (y : B) → (m >>= f) ≡ Ok y → (x : A) × (m ≡ Ok x) × (f x ≡ Ok y)
bind_ok (Ok x) f y e = (x, refl, e)
bind_ok (Err n) f y e = absurd cc

pub bind_err : {A B : Type 0} (m : Result A ℕ) (f : A → Result B ℕ) (n : ℕ) → (m >>= f) ≡ Err n → (m ≡ Err n) ⊎ ((x : A) × (m ≡ Ok x) × (f x ≡ Err n))
bind_err (Ok x) f n e = inr (x, refl, e)
bind_err (Err k) f n e = inl cc

abbrev good : {A : Type 0} → A → Result A ℕ
good x = Ok x

pub ok_is : {A : Type 0} (x y : A) → good x ≡ good y → x ≡ y
ok_is x y e = cc

pub not_both : {A : Type 0} (x : A) (n : ℕ) → good x ≡ Err n → ⊥
not_both x n e = cc

pub bind_is : {A B : Type 0} (m : Result A ℕ) (f : A → Result B ℕ) (x : A) → m ≡ Ok x → (m >>= f) ≡ f x
bind_is m f x e = ap (λ (r : Result _ ℕ). r >>= f) e

-- ---- one behind the other

abbrev pub then_with : {A B C : Type 0} → (A → B → C) → (List ℕ → Read A) → (A → List ℕ → Read B) → List ℕ → Read C
then_with f r1 r2 s = r1 s >>= λ x. r2 x.0 x.1 >>= λ y. Ok (f x.0 y.0, y.1)

-- a value that is made of two that fit
abbrev pub Both : {A B C : Type 0} → (A → B → C) → (A → Type 0) → (A → B → Type 0) → C → Type 0
Both {A} {B} f P1 P2 c = (a : A) × (b : B) × P1 a × P2 a b × (c ≡ f a b)

pub record Then {A B C : Type 0} (f : A → B → C) (P1 : A → Type 0) (t1 : A → List ℕ) (r1 : List ℕ → Read A) (P2 : A → B → Type 0) (t2 : A → B → List ℕ) (r2 : A → List ℕ → Read B) (t : C → List ℕ) : Type 0 where
  pub first : Reads P1 t1 r1
  pub second : (a : A) → P1 a → Reads (P2 a) (t2 a) (r2 a)
  pub leads : (a : A) (b : B) (rest : List ℕ) → Ends rest → Ends (t2 a b ++ rest)
  pub some : (a : A) → P1 a → (b : B) × P2 a b
  pub texts : (a : A) (b : B) → P1 a → P2 a b → t (f a b) ≡ t1 a ++ t2 a b

then_text : {A B C : Type 0} (f : A → B → C) (P1 : A → Type 0) (t1 : A → List ℕ) (r1 : List ℕ → Read A) (P2 : A → B → Type 0) (t2 : A → B → List ℕ) (r2 : A → List ℕ → Read B) (t : C → List ℕ)
    → Then f P1 t1 r1 P2 t2 r2 t → (a : A) (b : B) → P1 a → P2 a b → (y : List ℕ) → t (f a b) ++ y ≡ t1 a ++ (t2 a b ++ y)
then_text f P1 t1 r1 P2 t2 r2 t h a b p q y = ap (λ (u : List ℕ). u ++ y) (h.texts a b p q) ∙ append_assoc (t1 a) (t2 a b) y

then_again : {A B C : Type 0} (f : A → B → C) (P1 : A → Type 0) (t1 : A → List ℕ) (r1 : List ℕ → Read A) (P2 : A → B → Type 0) (t2 : A → B → List ℕ) (r2 : A → List ℕ → Read B) (t : C → List ℕ)
    → Then f P1 t1 r1 P2 t2 r2 t → (a : A) (b : B) → P1 a → P2 a b → (rest : List ℕ) → r1 (t1 a ++ (t2 a b ++ rest)) ≡ Ok (a, t2 a b ++ rest) → r2 a (t2 a b ++ rest) ≡ Ok (b, rest)
    → then_with f r1 r2 (t (f a b) ++ rest) ≡ Ok (f a b, rest)
then_again f P1 t1 r1 P2 t2 r2 t h a b p q rest e1 e2 =
    ap (then_with f r1 r2) (then_text f P1 t1 r1 P2 t2 r2 t h a b p q rest)
    ∙ bind_is (r1 (t1 a ++ (t2 a b ++ rest))) (λ x. r2 x.0 x.1 >>= λ y. Ok (f x.0 y.0, y.1)) (a, t2 a b ++ rest) e1
    ∙ bind_is (r2 a (t2 a b ++ rest)) (λ y. Ok (f a y.0, y.1)) (b, rest) e2

pub Reads-then : {A B C : Type 0} (f : A → B → C) (P1 : A → Type 0) (t1 : A → List ℕ) (r1 : List ℕ → Read A) (P2 : A → B → Type 0) (t2 : A → B → List ℕ) (r2 : A → List ℕ → Read B) (t : C → List ℕ)
    → Then f P1 t1 r1 P2 t2 r2 t → Reads (Both f P1 P2) t (then_with f r1 r2)
Reads-then {A} {B} {C} f P1 t1 r1 P2 t2 r2 t h = record {
  takes = λ s c e.
      let (x, ex, e1) = bind_ok (r1 s) (λ x. r2 x.0 x.1 >>= λ y. Ok (f x.0 y.0, y.1)) c e in
      let (y, ey, e2) = bind_ok (r2 x.0 x.1) (λ y. Ok (f x.0 y.0, y.1)) c e1 in
      let one = h.first.takes s x ex in
      let two = (h.second x.0 one.1).takes x.1 y ey in
      let whole : s ≡ t (f x.0 y.0) ++ y.1 = one.0 ∙ ap (λ (u : List ℕ). t1 x.0 ++ u) two.0 ∙ sym (then_text f P1 t1 r1 P2 t2 r2 t h x.0 y.0 one.1 two.1 y.1) in
      subst (λ (z : C × List ℕ). (s ≡ t z.0 ++ z.1) × Both f P1 P2 z.0) (ok_is (f x.0 y.0, y.1) c e2) (whole, (x.0, y.0, one.1, two.1, refl));
  again = λ c rest fits ends.
      let (a, b, p1, p2, e) = fits in
      let made = then_again f P1 t1 r1 P2 t2 r2 t h a b p1 p2 rest (h.first.again a (t2 a b ++ rest) p1 (h.leads a b rest ends)) ((h.second a p1).again b rest p2 ends) in
      subst (λ (z : C). then_with f r1 r2 (t z ++ rest) ≡ Ok (z, rest)) (sym e) made;
  here = λ s c other e same.
      let (x, ex, e1) = bind_ok (r1 s) (λ x. r2 x.0 x.1 >>= λ y. Ok (f x.0 y.0, y.1)) c e in
      let (y, ey, e2) = bind_ok (r2 x.0 x.1) (λ y. Ok (f x.0 y.0, y.1)) c e1 in
      let one = h.first.takes s x ex in
      let two = (h.second x.0 one.1).takes x.1 y ey in
      let same_y : SameHead y.1 other = subst (λ (z : C × List ℕ). SameHead z.1 other) (sym (ok_is (f x.0 y.0, y.1) c e2)) same in
      let same_x : SameHead x.1 (t2 x.0 y.0 ++ other) = subst (λ (u : List ℕ). SameHead u (t2 x.0 y.0 ++ other)) (sym two.0) (SameHead-append (t2 x.0 y.0) y.1 other same_y) in
      let made = then_again f P1 t1 r1 P2 t2 r2 t h x.0 y.0 one.1 two.1 other (h.first.here s x (t2 x.0 y.0 ++ other) ex same_x) ((h.second x.0 one.1).here x.1 y other ey same_y) in
      subst (λ (z : C × List ℕ). then_with f r1 r2 (t z.0 ++ other) ≡ Ok (z.0, other)) (ok_is (f x.0 y.0, y.1) c e2) made;
  stuck = λ s n e.
      elim (bind_err (r1 s) (λ x. r2 x.0 x.1 >>= λ y. Ok (f x.0 y.0, y.1)) n e) [
        | inl e1 ↦
            let S = h.first.stuck s n e1 in
            let (b, p2) = h.some S.some S.fits in
            record {
              front = S.front;
              rest = S.rest;
              parts = S.parts;
              left = S.left;
              some = f S.some b;
              more = S.more ++ t2 S.some b;
              fits = (S.some, b, S.fits, p2, refl);
              goes_on = h.texts S.some b S.fits p2 ∙ ap (λ (u : List ℕ). u ++ t2 S.some b) S.goes_on ∙ append_assoc S.front S.more (t2 S.some b);
              ends_here = λ c after z y v er fits ends eq.
                  let (a, w, q1, q2, ev) = fits in
                  S.ends_here c after z (t2 a w ++ y) a er q1 (h.leads a w y ends) (sym (then_text f P1 t1 r1 P2 t2 r2 t h a w q1 q2 y) ∙ ap (λ (u : C). t u ++ y) (sym ev) ∙ eq);
            }
        | inr found ↦
            let (x, ex, e2) = found in
            let one = h.first.takes s x ex in
            elim (bind_err (r2 x.0 x.1) (λ y. Ok (f x.0 y.0, y.1)) n e2) [
              | inl e3 ↦
                  let S = (h.second x.0 one.1).stuck x.1 n e3 in
                  record {
                    front = t1 x.0 ++ S.front;
                    rest = S.rest;
                    parts = one.0 ∙ ap (λ (u : List ℕ). t1 x.0 ++ u) S.parts ∙ sym (append_assoc (t1 x.0) S.front S.rest);
                    left = S.left;
                    some = f x.0 S.some;
                    more = S.more;
                    fits = (x.0, S.some, one.1, S.fits, refl);
                    goes_on = h.texts x.0 S.some one.1 S.fits ∙ ap (λ (u : List ℕ). t1 x.0 ++ u) S.goes_on ∙ sym (append_assoc (t1 x.0) S.front S.more);
                    ends_here = λ c after z y v er fits ends eq.
                        let (a, w, q1, q2, ev) = fits in
                        let same_x : SameHead x.1 (S.front ++ c ∷ z) = subst (λ (u : List ℕ). SameHead u (S.front ++ c ∷ z)) (sym (S.parts ∙ ap (λ (u : List ℕ). S.front ++ u) er)) (SameHead-front S.front c after z) in
                        let texts : t1 a ++ (t2 a w ++ y) ≡ t1 x.0 ++ (S.front ++ c ∷ z) = sym (then_text f P1 t1 r1 P2 t2 r2 t h a w q1 q2 y) ∙ ap (λ (u : C). t u ++ y) (sym ev) ∙ eq ∙ append_assoc (t1 x.0) S.front (c ∷ z) in
                        let both : good (a, t2 a w ++ y) ≡ good (x.0, S.front ++ c ∷ z) = sym (h.first.again a (t2 a w ++ y) q1 (h.leads a w y ends)) ∙ ap r1 texts ∙ h.first.here s x (S.front ++ c ∷ z) ex same_x in
                        let pairs : (a, t2 a w ++ y) ≡ (x.0, S.front ++ c ∷ z) = ok_is (a, t2 a w ++ y) (x.0, S.front ++ c ∷ z) both in
                        let ea : a ≡ x.0 = ap (λ (p : A × List ℕ). p.0) pairs in
                        let et : t2 a w ++ y ≡ S.front ++ c ∷ z = ap (λ (p : A × List ℕ). p.1) pairs in
                        S.ends_here c after z y w er (subst (λ (u : A). P2 u w) ea q2) ends (subst (λ (u : A). t2 u w ++ y ≡ S.front ++ c ∷ z) ea et);
                  }
              | inr other ↦ absurd (not_both _ n other.2)
            ]
      ];
}

-- ---- other values, texts and readers

-- a value that is made of one that fits
abbrev pub Made : {A B : Type 0} → (A → B) → (A → Type 0) → B → Type 0
Made {A} f P b = (a : A) × P a × (b ≡ f a)

pub Reads-made : {A B : Type 0} (f : A → B) (P : A → Type 0) (t : A → List ℕ) (r : List ℕ → Read A) (u : B → List ℕ) → ((a : A) → u (f a) ≡ t a) → Reads P t r → Reads (Made f P) u (made_at f r)
Reads-made {A} {B} f P t r u texts h = record {
  takes = λ s c e.
      let (x, ex, e1) = bind_ok (r s) (λ x. Ok (f x.0, x.1)) c e in
      let one = h.takes s x ex in
      subst (λ (z : B × List ℕ). (s ≡ u z.0 ++ z.1) × Made f P z.0) (ok_is (f x.0, x.1) c e1) (one.0 ∙ ap (λ (v : List ℕ). v ++ x.1) (sym (texts x.0)), (x.0, one.1, refl));
  again = λ c rest fits ends.
      let (a, p, e) = fits in
      let made : made_at f r (u (f a) ++ rest) ≡ Ok (f a, rest) = ap (λ (v : List ℕ). made_at f r (v ++ rest)) (texts a) ∙ bind_is (r (t a ++ rest)) (λ x. Ok (f x.0, x.1)) (a, rest) (h.again a rest p ends) in
      subst (λ (z : B). made_at f r (u z ++ rest) ≡ Ok (z, rest)) (sym e) made;
  here = λ s c other e same.
      let (x, ex, e1) = bind_ok (r s) (λ x. Ok (f x.0, x.1)) c e in
      let same_x : SameHead x.1 other = subst (λ (z : B × List ℕ). SameHead z.1 other) (sym (ok_is (f x.0, x.1) c e1)) same in
      let made : made_at f r (u (f x.0) ++ other) ≡ Ok (f x.0, other) = ap (λ (v : List ℕ). made_at f r (v ++ other)) (texts x.0) ∙ bind_is (r (t x.0 ++ other)) (λ x. Ok (f x.0, x.1)) (x.0, other) (h.here s x other ex same_x) in
      subst (λ (z : B × List ℕ). made_at f r (u z.0 ++ other) ≡ Ok (z.0, other)) (ok_is (f x.0, x.1) c e1) made;
  stuck = λ s n e.
      elim (bind_err (r s) (λ x. Ok (f x.0, x.1)) n e) [
        | inl e1 ↦
            let S = h.stuck s n e1 in
            record {
              front = S.front;
              rest = S.rest;
              parts = S.parts;
              left = S.left;
              some = f S.some;
              more = S.more;
              fits = (S.some, S.fits, refl);
              goes_on = texts S.some ∙ S.goes_on;
              ends_here = λ c after z y v er fits ends eq.
                  let (a, p, e2) = fits in
                  S.ends_here c after z y a er p ends (ap (λ (w : List ℕ). w ++ y) (sym (texts a)) ∙ ap (λ (b : B). u b ++ y) (sym e2) ∙ eq);
            }
        | inr found ↦ absurd (not_both _ n found.2)
      ];
}

-- the same under other names
pub Reads-same : {A : Type 0} (P Q : A → Type 0) (t u : A → List ℕ) (r q : List ℕ → Read A) → ((a : A) → P a → Q a) → ((a : A) → Q a → P a) → ((a : A) → P a → u a ≡ t a) → ((s : List ℕ) → q s ≡ r s) → Reads P t r → Reads Q u q
Reads-same {A} P Q t u r q there back texts readers h = record {
  takes = λ s x e.
      let one = h.takes s x (sym (readers s) ∙ e) in
      (one.0 ∙ ap (λ (v : List ℕ). v ++ x.1) (sym (texts x.0 one.1)), there x.0 one.1);
  again = λ a rest p ends. ap (λ (v : List ℕ). q (v ++ rest)) (texts a (back a p)) ∙ readers (t a ++ rest) ∙ h.again a rest (back a p) ends;
  here = λ s x other e same. ap (λ (v : List ℕ). q (v ++ other)) (texts x.0 (h.takes s x (sym (readers s) ∙ e)).1) ∙ readers (t x.0 ++ other) ∙ h.here s x other (sym (readers s) ∙ e) same;
  stuck = λ s n e.
      let S = h.stuck s n (sym (readers s) ∙ e) in
      record {
        front = S.front;
        rest = S.rest;
        parts = S.parts;
        left = S.left;
        some = S.some;
        more = S.more;
        fits = there S.some S.fits;
        goes_on = texts S.some S.fits ∙ S.goes_on;
        ends_here = λ c after z y b er p ends eq. S.ends_here c after z y b er (back b p) ends (ap (λ (w : List ℕ). w ++ y) (sym (texts b (back b p))) ∙ eq);
      };
}

-- one value without a text
pub Reads-unit : {A : Type 0} (a : A) → Reads (λ (b : A). b ≡ a) (λ (b : A). []) (λ s. Ok (a, s))
Reads-unit {A} a = record {
  takes = λ s x e. subst (λ (y : A × List ℕ). (s ≡ y.1) × (y.0 ≡ a)) (ok_is (a, s) x e) (refl, refl);
  again = λ b rest p ends. ap (λ (z : A). Ok (z, rest)) (sym p);
  here = λ s x other e same. ap (λ (y : A × List ℕ). Ok (y.0, other)) (ok_is (a, s) x e);
  stuck = λ s n e. absurd (not_both (a, s) n e);
}

-- ---- a word in front

abbrev byte_then : {A : Type 0} → ℕ → (List ℕ → Read A) → List ℕ → Read A
byte_then b r [] = Err 0
byte_then b r (c ∷ s) = cond (eqb c b) (r s) (Err (suc (length s)))

eqb_same : (b : ℕ) → eqb b b ≡ true
eqb_same b = grind (arith, nat_tests)

eqb_is : (c b : ℕ) → eqb c b ≡ true → c ≡ b
eqb_is c b e = grind (arith, nat_tests)

pub tail_is : (c d : ℕ) (u v : List ℕ) → c ∷ u ≡ d ∷ v → (c ≡ d) × (u ≡ v)
tail_is c d u v e = (cc, cc)

Reads-byte : {A : Type 0} (b : ℕ) (P : A → Type 0) (t : A → List ℕ) (r : List ℕ → Read A) → (a : A) → P a → Reads P t r → Reads P (λ a. b ∷ t a) (byte_then b r)
Reads-byte {A} b P t r some p h = record {
  takes = byte_takes;
  again = λ a rest q ends. rw (eqb_same b) (h.again a rest q ends);
  here = byte_here;
  stuck = byte_stuck;
} where
  byte_takes : (s : List ℕ) (x : A × List ℕ) → byte_then b r s ≡ Ok x → (s ≡ b ∷ (t x.0 ++ x.1)) × P x.0
  byte_takes [] x e = absurd cc
  byte_takes (c ∷ s) x e =
      elim (eqb c b) as (λ v. eqb c b ≡ v → cond v (r s) (Err (suc (length s))) ≡ Ok x → (c ∷ s ≡ b ∷ (t x.0 ++ x.1)) × P x.0) [
        | true ↦ λ same e1. let one = h.takes s x e1 in (ap (λ (d : ℕ). d ∷ s) (eqb_is c b same) ∙ ap (λ (v : List ℕ). b ∷ v) one.0, one.1)
        | false ↦ λ same e1. absurd cc
      ] refl e

  byte_here : (s : List ℕ) (x : A × List ℕ) (other : List ℕ) → byte_then b r s ≡ Ok x → SameHead x.1 other → byte_then b r (b ∷ (t x.0 ++ other)) ≡ Ok (x.0, other)
  byte_here [] x other e same = absurd cc
  byte_here (c ∷ s) x other e same =
      elim (eqb c b) as (λ v. eqb c b ≡ v → cond v (r s) (Err (suc (length s))) ≡ Ok x → byte_then b r (b ∷ (t x.0 ++ other)) ≡ Ok (x.0, other)) [
        | true ↦ λ same_byte e1. rw (eqb_same b) (h.here s x other e1 same)
        | false ↦ λ same_byte e1. absurd cc
      ] refl e

  byte_stuck : (s : List ℕ) (n : ℕ) → byte_then b r s ≡ Err n → Stuck P (λ a. b ∷ t a) s n
  byte_stuck [] n e = record {
    front = [];
    rest = [];
    parts = refl;
    left = cc;
    some = some;
    more = b ∷ t some;
    fits = p;
    goes_on = refl;
    ends_here = λ c after z y a er q ends eq. absurd cc;
  }
  byte_stuck (c ∷ s) n e =
      elim (eqb c b) as (λ v. eqb c b ≡ v → cond v (r s) (Err (suc (length s))) ≡ Err n → Stuck P (λ a. b ∷ t a) (c ∷ s) n) [
        | true ↦ λ same e1.
            let S = h.stuck s n e1 in
            record {
              front = b ∷ S.front;
              rest = S.rest;
              parts = ap (λ (d : ℕ). d ∷ s) (eqb_is c b same) ∙ ap (λ (v : List ℕ). b ∷ v) S.parts;
              left = S.left;
              some = S.some;
              more = S.more;
              fits = S.fits;
              goes_on = ap (λ (v : List ℕ). b ∷ v) S.goes_on;
              ends_here = λ d after z y a er q ends eq. S.ends_here d after z y a er q ends (tail_is b b (t a ++ y) (S.front ++ d ∷ z) eq).1;
            }
        | false ↦ λ differs e1.
            record {
              front = [];
              rest = c ∷ s;
              parts = refl;
              left = cc;
              some = some;
              more = b ∷ t some;
              fits = p;
              goes_on = refl;
              ends_here = λ d after z y a er q ends eq.
                  let one = (tail_is c d s after er).0 in
                  let two = (tail_is b d (t a ++ y) z eq).0 in
                  let same : eqb c b ≡ true = ap (λ (k : ℕ). eqb k b) (one ∙ sym two) ∙ eqb_same b in
                  absurd cc;
            }
      ] refl e

pub Reads-word : {A : Type 0} (word : List ℕ) (P : A → Type 0) (t : A → List ℕ) (r : List ℕ → Read A) → (a : A) → P a → Reads P t r → Reads P (λ a. word ++ t a) (λ s. word_at word s >>= r)
Reads-word [] P t r a p h = h
Reads-word {A} (b ∷ word) P t r a p h =
    Reads-same P P (λ x. b ∷ (word ++ t x)) (λ x. b ∷ (word ++ t x)) (byte_then b (λ s. word_at word s >>= r)) (λ s. word_at (b ∷ word) s >>= r) (λ x q. q) (λ x q. q) (λ x q. refl) readers
    (Reads-byte b P (λ x. word ++ t x) (λ s. word_at word s >>= r) a p (Reads-word word P t r a p h))
  where
    readers : (s : List ℕ) → (word_at (b ∷ word) s >>= r) ≡ byte_then b (λ s. word_at word s >>= r) s
    readers [] = refl
    readers (c ∷ s) = elim (eqb c b) as (λ v. (cond v (word_at word s) (Err (suc (length s))) >>= r) ≡ cond v (word_at word s >>= r) (Err (suc (length s)))) [ true ↦ refl | false ↦ refl ]

-- ---- one of two by the first byte

-- each text begins with this byte, or none does
abbrev pub Heads : {A : Type 0} → ℕ → Bool → (A → Type 0) → (A → List ℕ) → Type 0
Heads {A} k b P t = (a : A) → P a → (c : ℕ) × (u : List ℕ) × (t a ≡ c ∷ u) × (eqb c k ≡ b)

head_starts : {A : Type 0} (k : ℕ) (b : Bool) (P : A → Type 0) (t : A → List ℕ) → Heads k b P t → (a : A) → P a → (y : List ℕ) → starts k (t a ++ y) ≡ b
head_starts k b P t heads a p y = let (c, u, e, same) = heads a p in ap (λ (v : List ℕ). starts k (v ++ y)) e ∙ same

same_starts : (k : ℕ) (u v : List ℕ) → SameHead u v → starts k u ≡ starts k v
same_starts k [] [] h = refl
same_starts k [] (d ∷ v) h = absurd h
same_starts k (c ∷ u) [] h = absurd h
same_starts k (c ∷ u) (d ∷ v) h = ap (λ (x : ℕ). eqb x k) h

pub Reads-choice : {A : Type 0} (k : ℕ) (P Q : A → Type 0) (t : A → List ℕ) (r q : List ℕ → Read A) → Heads k true P t → Heads k false Q t → Reads P t r → Reads Q t q → Reads (λ a. P a ⊎ Q a) t (λ s. cond (starts k s) (r s) (q s))
Reads-choice {A} k P Q t r q hp hq rp rq = record {
  takes = λ s x e.
      elim (starts k s) as (λ v. cond v (r s) (q s) ≡ Ok x → (s ≡ t x.0 ++ x.1) × (P x.0 ⊎ Q x.0)) [
        | true ↦ λ e1. let one = rp.takes s x e1 in (one.0, inl one.1)
        | false ↦ λ e1. let one = rq.takes s x e1 in (one.0, inr one.1)
      ] e;
  again = λ a rest fits ends.
      elim fits [
        | inl p ↦ rw (head_starts k true P t hp a p rest) (rp.again a rest p ends)
        | inr p ↦ rw (head_starts k false Q t hq a p rest) (rq.again a rest p ends)
      ];
  here = λ s x other e same.
      elim (starts k s) as (λ v. cond v (r s) (q s) ≡ Ok x → cond (starts k (t x.0 ++ other)) (r (t x.0 ++ other)) (q (t x.0 ++ other)) ≡ Ok (x.0, other)) [
        | true ↦ λ e1. rw (head_starts k true P t hp x.0 (rp.takes s x e1).1 other) (rp.here s x other e1 same)
        | false ↦ λ e1. rw (head_starts k false Q t hq x.0 (rq.takes s x e1).1 other) (rq.here s x other e1 same)
      ] e;
  stuck = λ s n e.
      elim (starts k s) as (λ v. starts k s ≡ v → cond v (r s) (q s) ≡ Err n → Stuck (λ a. P a ⊎ Q a) t s n) [
        | true ↦ λ is e1.
            let S = rp.stuck s n e1 in
            record {
              front = S.front;
              rest = S.rest;
              parts = S.parts;
              left = S.left;
              some = S.some;
              more = S.more;
              fits = inl S.fits;
              goes_on = S.goes_on;
              ends_here = λ c after z y b er fits ends eq.
                  elim fits [
                    | inl p ↦ S.ends_here c after z y b er p ends eq
                    | inr p ↦
                        let same = same_starts k (S.front ++ c ∷ after) (S.front ++ c ∷ z) (SameHead-front S.front c after z) in
                        let whole : s ≡ S.front ++ c ∷ after = S.parts ∙ ap (λ (u : List ℕ). S.front ++ u) er in
                        let one : true ≡ false = sym is ∙ ap (starts k) whole ∙ same ∙ ap (starts k) (sym eq) ∙ head_starts k false Q t hq b p y in
                        absurd cc
                  ];
            }
        | false ↦ λ is e1.
            let S = rq.stuck s n e1 in
            record {
              front = S.front;
              rest = S.rest;
              parts = S.parts;
              left = S.left;
              some = S.some;
              more = S.more;
              fits = inr S.fits;
              goes_on = S.goes_on;
              ends_here = λ c after z y b er fits ends eq.
                  elim fits [
                    | inr p ↦ S.ends_here c after z y b er p ends eq
                    | inl p ↦
                        let same = same_starts k (S.front ++ c ∷ after) (S.front ++ c ∷ z) (SameHead-front S.front c after z) in
                        let whole : s ≡ S.front ++ c ∷ after = S.parts ∙ ap (λ (u : List ℕ). S.front ++ u) er in
                        let one : false ≡ true = sym is ∙ ap (starts k) whole ∙ same ∙ ap (starts k) (sym eq) ∙ head_starts k true P t hp b p y in
                        absurd cc
                  ];
            }
      ] refl e;
}

-- ---- so many, one behind the other

abbrev pub AreItems : {A : Type 0} → (A → Type 0) → ℕ → List A → Type 0
AreItems P n xs = (length xs ≡ n) × AllByRecursion P xs

pub flat_map_leads : {A : Type 0} (t : A → List ℕ) → ((a : A) (rest : List ℕ) → Ends rest → Ends (t a ++ rest)) → (xs : List A) (rest : List ℕ) → Ends rest → Ends (flat_map t xs ++ rest)
flat_map_leads t leads [] rest ends = ends
flat_map_leads t leads (x ∷ xs) rest ends =
    subst Ends (sym (append_assoc (t x) (flat_map t xs) rest)) (leads x (flat_map t xs ++ rest) (flat_map_leads t leads xs rest ends))

pub some_items : {A : Type 0} (P : A → Type 0) (a : A) → P a → (n : ℕ) → (xs : List A) × AreItems P n xs
some_items P a p zero = ([], (refl, tt))
some_items P a p (suc n) = let (xs, (l, all)) = some_items P a p n in (a ∷ xs, (ap suc l, (p, all)))

pub Reads-items : {A : Type 0} (P : A → Type 0) (t : A → List ℕ) (r : List ℕ → Read A) → ((a : A) (rest : List ℕ) → Ends rest → Ends (t a ++ rest)) → (a : A) → P a → Reads P t r → (n : ℕ) → Reads (AreItems P n) (flat_map t) (items_at r n)
unfolding items_at
Reads-items {A} P t r leads a p h zero =
    Reads-same (λ (xs : List A). xs ≡ []) (AreItems P 0) (λ xs. []) (flat_map t) (λ s. Ok ([], s)) (items_at r 0) there back texts (λ s. refl) (Reads-unit [])
  where
    there : (xs : List A) → xs ≡ [] → AreItems P 0 xs
    there [] e = (refl, tt)
    there (x ∷ xs) e = absurd cc

    back : (xs : List A) → AreItems P 0 xs → xs ≡ []
    back [] h = refl
    back (x ∷ xs) h = absurd (omega arith)

    texts : (xs : List A) → xs ≡ [] → flat_map t xs ≡ []
    texts [] e = refl
    texts (x ∷ xs) e = absurd cc
Reads-items {A} P t r leads a p h (suc n) =
    Reads-same (Both cons P (λ x xs. AreItems P n xs)) (AreItems P (suc n)) (flat_map t) (flat_map t) (then_with cons r (λ x. items_at r n)) (items_at r (suc n)) there back (λ xs e. refl) (λ s. refl)
    (Reads-then cons P t r (λ x xs. AreItems P n xs) (λ x. flat_map t) (λ x. items_at r n) (flat_map t) record {
      first = h;
      second = λ x q. Reads-items P t r leads a p h n;
      leads = λ x xs rest ends. flat_map_leads t leads xs rest ends;
      some = λ x q. some_items P a p n;
      texts = λ x xs p q. refl;
    })
  where
    cons : A → List A → List A
    cons x xs = x ∷ xs

    there : (xs : List A) → Both cons P (λ x xs. AreItems P n xs) xs → AreItems P (suc n) xs
    there xs (y, ys, q, all, e) = subst (AreItems P (suc n)) (sym e) (ap suc all.0, (q, all.1))

    back : (xs : List A) → AreItems P (suc n) xs → Both cons P (λ x xs. AreItems P n xs) xs
    back [] h = absurd (omega arith)
    back (x ∷ xs) h = (x, xs, h.1.0, (omega arith, h.1.1), refl)

-- ---- a kind by its first word

pub Reads-kind : {A : Type 0} (word : List ℕ) (P : A → Type 0) (body : A → List ℕ) (r : List ℕ → Read A) (t : A → List ℕ) → (a : A) → P a → ((a : A) → P a → t a ≡ word ++ body a) → Reads P body r → Reads P t (λ s. word_at word s >>= r)
Reads-kind word P body r t a p texts h =
    Reads-same P P (λ x. word ++ body x) t (λ s. word_at word s >>= r) (λ s. word_at word s >>= r) (λ x q. q) (λ x q. q) texts (λ s. refl) (Reads-word word P body r a p h)

pub head_word : {A : Type 0} (c : ℕ) (word : List ℕ) (P : A → Type 0) (body t : A → List ℕ) → ((a : A) → P a → t a ≡ (c ∷ word) ++ body a) → (k : ℕ) → Heads k (eqb c k) P t
head_word c word P body t texts k a p = (c, word ++ body a, texts a p, refl)

pub heads_or : {A : Type 0} (k : ℕ) (b : Bool) (P Q : A → Type 0) (t : A → List ℕ) → Heads k b P t → Heads k b Q t → Heads k b (λ a. P a ⊎ Q a) t
heads_or k b P Q t hp hq a (inl p) = hp a p
heads_or k b P Q t hp hq a (inr q) = hq a q
