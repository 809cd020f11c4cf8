-- Dropping the values that are not needed changes no read that is still made, and leaves few values.
use Rattle.std.proofs.Common.{ℕ, ◌≡◌, ◌+◌, ◌≤◌, ◌<◌, Bool, true, false, cond, leb, ltb, ◌&&◌, ◌||◌, List, [], ◌∷◌, ◌++◌, length, refl, sym, ap, ◌∙◌, Some, None, arith, subst, inl, inr, ⊎_elim}
use Rattle.std.specs.Prelude.{Option, find, reverse, Contains, count_by, IfSome}
use Rattle.std.specs.List.{AllByRecursion}
use Rattle.std.specs.Option.{option_or, is_some}
use Rattle.std.proofs.lemmas.Bool.{cases_Bool, cases_lt, le-leb, leb-true}
use Rattle.std.proofs.lemmas.Bool.Decides.{nat_tests}
use Rattle.std.proofs.lemmas.List.{reverse-append}
use Rattle.std.proofs.lemmas.List.Folds.{find-append, list_any_at}
use Rattle.std.proofs.lemmas.List.Sums.{count_by-le-length, sum_by-cons}
use Rattle.board_definitions.proofs.Placed.{IsPlaced}
use Rattle.snapshot_pins.specs.declared.value.CellValue.{CellValue}
use Rattle.snapshot_pins.specs.Values.{value_at, DoNotFall, IsCell, has_live, is_kept, kept}
use Rattle.snapshot_pins.specs.Cells.{IsRead}

pub value_at-cons : (x : CellValue) (xs : List CellValue) (v : ℕ) → value_at (x ∷ xs) v ≡ option_or (value_at xs v) (cond (leb x.version v) (Some x) None)
value_at-cons x xs v =
    let test : CellValue → Bool = λ value. leb value.version v in
    ap (find test) (reverse-append (x ∷ []) xs) ∙ find-append test (reverse xs) (x ∷ [])

or_none : {X : Type 0} (o : Option X) → option_or o None ≡ o
or_none None = refl
or_none (Some x) = refl

or_some : {X : Type 0} (o other : Option X) → is_some o ≡ true → option_or o other ≡ o
or_some None other is = absurd (cc is)
or_some (Some x) other is = refl

some_or : {X : Type 0} (o : Option X) (x : X) → is_some (option_or o (Some x)) ≡ true
some_or None x = refl
some_or (Some y) x = refl

some_at : (w : CellValue) (later : List CellValue) (v : ℕ) → leb w.version v ≡ true → is_some (value_at (w ∷ later) v) ≡ true
some_at w later v here =
    ap (λ (o : Option CellValue). is_some o) (value_at-cons w later v)
    ∙ ap (λ (b : Bool). is_some (option_or (value_at later v) (cond b (Some w) None))) here ∙ some_or (value_at later v) w

-- a value that a later one hides is not read
hidden : (x w : CellValue) (later : List CellValue) (v : ℕ) → (leb x.version v ≡ true → leb w.version v ≡ true) → value_at (x ∷ w ∷ later) v ≡ value_at (w ∷ later) v
hidden x w later v hides =
    value_at-cons x (w ∷ later) v
    ∙ ⊎_elim
    (λ (early : leb x.version v ≡ true). or_some (value_at (w ∷ later) v) (cond (leb x.version v) (Some x) None) (some_at w later v (hides early)))
    (λ (late : leb x.version v ≡ false). ap (λ (b : Bool). option_or (value_at (w ∷ later) v) (cond b (Some x) None)) late ∙ or_none (value_at (w ∷ later) v))
    (cases_Bool (leb x.version v))

live_between : (live : List ℕ) (from below v : ℕ) → Contains live v → from ≤ v → v < below → has_live live from below ≡ true
live_between live from below v there least under =
    let test : (leb from v && ltb v below) ≡ true = grind (arith, nat_tests) in
    list_any_at (λ u. leb from u && ltb u below) live there.0 v there.1 (ap (λ (u : ℕ). leb from u && ltb u below) there.2 ∙ test)

still_hidden : (live : List ℕ) (newest v : ℕ) (x w : CellValue) → w.version ≤ newest → has_live live x.version w.version ≡ false → IsRead live newest v →
    leb x.version v ≡ true → leb w.version v ≡ true
still_hidden live newest v x w upto none (inr later) early = le-leb w.version v (omega (arith, upto, later))
still_hidden live newest v x w upto none (inl there) early =
    ⊎_elim
    (λ (under : v < w.version). absurd (let some = live_between live x.version w.version v there (leb-true x.version v early) under in cc (none, some)))
    (λ (over : w.version ≤ v). le-leb w.version v over)
    (cases_lt v w.version)

-- what is read of a cell at a version that is still read stays
pub reads_stay : (live : List ℕ) (newest v : ℕ) (values : List CellValue) → AllByRecursion (λ x. x.version ≤ newest) values → IsRead live newest v →
    value_at (kept live values) v ≡ value_at values v
reads_stay live newest v [] upto read = refl
reads_stay live newest v (x ∷ []) upto read = refl
reads_stay live newest v (x ∷ w ∷ later) upto read =
    let rest = reads_stay live newest v (w ∷ later) upto.1 read in
    ⊎_elim
    (λ (needed : has_live live x.version w.version ≡ true).
    ap (λ (b : Bool). value_at (cond b (x ∷ kept live (w ∷ later)) (kept live (w ∷ later))) v) needed
    ∙ value_at-cons x (kept live (w ∷ later)) v
    ∙ ap (λ (o : Option CellValue). option_or o (cond (leb x.version v) (Some x) None)) rest
    ∙ sym (value_at-cons x (w ∷ later) v))
    (λ (not_needed : has_live live x.version w.version ≡ false).
    ap (λ (b : Bool). value_at (cond b (x ∷ kept live (w ∷ later)) (kept live (w ∷ later))) v) not_needed
    ∙ rest ∙ sym (hidden x w later v (still_hidden live newest v x w upto.1.0 not_needed read)))
    (cases_Bool (has_live live x.version w.version))

count-cons : (p : ℕ → Bool) (u : ℕ) (live : List ℕ) → count_by p (u ∷ live) ≡ cond (p u) 1 0 + count_by p live
count-cons p u live = sum_by-cons (λ x. cond (p x) 1 0) u live

one_less : (a b u : ℕ) → a ≤ b → cond (leb b u) 1 0 ≤ cond (leb a u) 1 0
one_less a b u under = grind (arith, nat_tests)

one_gap : (a b u : ℕ) → (leb a u && ltb u b) ≡ true → cond (leb b u) 1 0 + 1 ≤ cond (leb a u) 1 0
one_gap a b u between = grind (arith, nat_tests)

count_less : (a b : ℕ) → a ≤ b → (live : List ℕ) → count_by (λ u. leb b u) live ≤ count_by (λ u. leb a u) live
count_less a b under [] = omega arith
count_less a b under (u ∷ live) =
    omega (arith, count_less a b under live, one_less a b u under, count-cons (λ v. leb b v) u live, count-cons (λ v. leb a v) u live)

-- more versions are at least the first number, if one is below the second
count_gap : (a b : ℕ) → a ≤ b → (live : List ℕ) → has_live live a b ≡ true → count_by (λ u. leb b u) live + 1 ≤ count_by (λ u. leb a u) live
count_gap a b under [] some = absurd (cc some)
count_gap a b under (u ∷ live) some =
    let counts = count-cons (λ v. leb b v) u live in
    let others = count-cons (λ v. leb a v) u live in
    ⊎_elim
    (λ (here : (leb a u && ltb u b) ≡ true). omega (arith, counts, others, one_gap a b u here, count_less a b under live))
    (λ (there : (leb a u && ltb u b) ≡ false).
    let rest : has_live live a b ≡ true = ap (λ (t : Bool). t || has_live live a b) (sym there) ∙ some in
    omega (arith, counts, others, one_less a b u under, count_gap a b under live rest))
    (cases_Bool (leb a u && ltb u b))

few_from : (live : List ℕ) (x : CellValue) (later : List CellValue) → DoNotFall (x ∷ later) → length (kept live (x ∷ later)) ≤ count_by (λ u. leb x.version u) live + 1
few_from live x [] rise = omega arith
few_from live x (w ∷ later) rise =
    let rest = few_from live w later rise.1 in
    let under : x.version ≤ w.version = rise.0.0 in
    ⊎_elim
    (λ (needed : has_live live x.version w.version ≡ true).
    let P : Bool → Type 0 = λ b. length (cond b (x ∷ kept live (w ∷ later)) (kept live (w ∷ later))) ≤ count_by (λ u. leb x.version u) live + 1 in
    subst P (sym needed) (omega (arith, rest, count_gap x.version w.version under live needed)))
    (λ (not_needed : has_live live x.version w.version ≡ false).
    let P : Bool → Type 0 = λ b. length (cond b (x ∷ kept live (w ∷ later)) (kept live (w ∷ later))) ≤ count_by (λ u. leb x.version u) live + 1 in
    subst P (sym not_needed) (omega (arith, rest, count_less x.version w.version under live)))
    (cases_Bool (has_live live x.version w.version))

-- at most one value more than there are live versions is left
pub few_stay : (live : List ℕ) (values : List CellValue) → DoNotFall values → length (kept live values) ≤ length live + 1
few_stay live [] rise = omega arith
few_stay live (x ∷ later) rise = omega (arith, few_from live x later rise, count_by-le-length (λ u. leb x.version u) live)

all_stay : (P : CellValue → Type 0) (live : List ℕ) (values : List CellValue) → AllByRecursion P values → AllByRecursion P (kept live values)
all_stay P live [] all = tt
all_stay P live (x ∷ later) all =
    let rest = all_stay P live later all.1 in
    let Q : Bool → Type 0 = λ b. AllByRecursion P (cond b (x ∷ kept live later) (kept live later)) in
    ⊎_elim (λ (yes : is_kept live x later ≡ true). subst Q (sym yes) (all.0, rest)) (λ (not : is_kept live x later ≡ false). subst Q (sym not) rest) (cases_Bool (is_kept live x later))

rise_still : (live : List ℕ) (values : List CellValue) → DoNotFall values → DoNotFall (kept live values)
rise_still live [] rise = tt
rise_still live (x ∷ later) rise =
    let rest = rise_still live later rise.1 in
    let Q : Bool → Type 0 = λ b. DoNotFall (cond b (x ∷ kept live later) (kept live later)) in
    ⊎_elim (λ (yes : is_kept live x later ≡ true). subst Q (sym yes) (all_stay (λ next. x.version ≤ next.version) live later rise.0, rest)) (λ (not : is_kept live x later ≡ false). subst Q (sym not) rest)
    (cases_Bool (is_kept live x later))

-- a cell stays one when values are dropped
pub cell_stays : (live : List ℕ) (newest feed number : ℕ) (values : List CellValue) → IsCell newest feed number values → IsCell newest feed number (kept live values)
cell_stays live newest feed number values cell = record {
  rising = rise_still live values cell.rising;
  upto = all_stay (λ value. value.version ≤ newest) live values cell.upto;
  placed = all_stay (λ value. IfSome value.offer (IsPlaced feed number)) live values cell.placed;
}

upto_more : (newest version : ℕ) → newest ≤ version → (values : List CellValue) → AllByRecursion (λ value. value.version ≤ newest) values → AllByRecursion (λ value. value.version ≤ version) values
upto_more newest version later [] upto = tt
upto_more newest version later (x ∷ values) upto = (omega (arith, upto.0, later), upto_more newest version later values upto.1)

-- a cell stays one when a later value is added to another
pub cell_waits : (newest version feed number : ℕ) (values : List CellValue) → newest ≤ version → IsCell newest feed number values → IsCell version feed number values
cell_waits newest version feed number values later cell = record { rising = cell.rising; upto = upto_more newest version later values cell.upto; placed = cell.placed }

all_push : (P : CellValue → Type 0) (values : List CellValue) (value : CellValue) → AllByRecursion P values → P value → AllByRecursion P (values ++ value ∷ [])
all_push P [] value all here = (here, tt)
all_push P (x ∷ values) value all here = (all.0, all_push P values value all.1 here)

rise_push : (newest : ℕ) (values : List CellValue) (value : CellValue) → DoNotFall values → AllByRecursion (λ x. x.version ≤ newest) values → newest ≤ value.version → DoNotFall (values ++ value ∷ [])
rise_push newest [] value rise upto later = (tt, tt)
rise_push newest (x ∷ values) value rise upto later =
    (all_push (λ next. x.version ≤ next.version) values value rise.0 (omega (arith, upto.0, later)), rise_push newest values value rise.1 upto.1 later)

-- a cell stays one when a later value is added to it
pub cell_grows : (newest feed number : ℕ) (values : List CellValue) (value : CellValue) → newest ≤ value.version → IfSome value.offer (IsPlaced feed number) →
    IsCell newest feed number values → IsCell value.version feed number (values ++ value ∷ [])
cell_grows newest feed number values value later here cell = record {
  rising = rise_push newest values value cell.rising cell.upto later;
  upto = all_push (λ x. x.version ≤ value.version) values value (upto_more newest value.version later values cell.upto) (omega arith);
  placed = all_push (λ x. IfSome x.offer (IsPlaced feed number)) values value cell.placed here;
}
