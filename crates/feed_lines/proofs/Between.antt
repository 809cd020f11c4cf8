-- A reader between two answers: what it answered stays.
use Rattle.std.proofs.Common.{◌≡◌, ℕ, ◌≤◌, Bool, true, false, not, List, ◌++◌, take, refl, sym, ap, ◌∙◌, subst}
use Rattle.std.specs.Prelude.{Option}
use Rattle.scan_types.specs.declared.limits.TheConstants.{MOST_LINES}
use Rattle.feed_definitions.proofs.Prefixes.{steps_stay}
use Rattle.feed_lines.specs.Reader.{steps_so, IsAtLine, IsReading}
use Rattle.feed_lines.proofs.Lines.{enough}

-- the answers given so far stay the same list
pub kept_answers : (old now more : List ℕ) (start k : ℕ) (was is : Bool) → k ≤ MOST_LINES → (was ≡ false → IsAtLine old start k) → now ≡ old ++ more →
    (was ≡ true → (is ≡ true) × (now ≡ old)) → take k (steps_so is now) ≡ take k (steps_so was old)
kept_answers old now more start k true is few at appended same =
    let kept = same refl in
    ap (λ (b : Bool). take k (steps_so b now)) kept.0 ∙ ap (λ (b : List ℕ). take k (steps_so true b)) kept.1
kept_answers old now more start k false is few at appended same =
    ap (λ (b : List ℕ). take k (steps_so is b)) appended
    ∙ steps_stay old more (not false) (not is) k (enough old start k (at refl) true few)

pub same_list : (k : ℕ) (a b : Bool) (x y : List ℕ) → a ≡ b → x ≡ y → take k (steps_so a x) ≡ take k (steps_so b y)
same_list k a b x y e h = ap (λ (d : Bool). take k (steps_so d x)) e ∙ ap (λ (l : List ℕ). take k (steps_so b l)) h

pub reading_so : (a b : Bool) (x y : List ℕ) (start k : ℕ) (row_of : List ℕ → Option (List Bool)) (rows : ℕ) → a ≡ b → x ≡ y → IsReading y start k b row_of rows → IsReading x start k a row_of rows
reading_so a b x y start k row_of rows e h r =
    subst (λ (d : Bool). IsReading x start k d row_of rows) (sym e) (subst (λ (l : List ℕ). IsReading l start k b row_of rows) (sym h) r)
