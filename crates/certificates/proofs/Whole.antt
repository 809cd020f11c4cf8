-- A whole text: it is read exactly if it is a readable finding's, and else the fault is where it stops beginning one.
use Rattle.std.proofs.Common.{ℕ, suc, ◌≡◌, ◌+◌, ◌-◌, ◌≤◌, ◌<◌, Bool, true, false, cond, eqb, inl, inr, List, [], ◌∷◌, ◌++◌, length, take, All, refl, sym, ap, subst, ◌∙◌, arith, append_assoc}
use Rattle.std.specs.Prelude.{Result, Ok, Err}
use Rattle.std.specs.List.{AllByRecursion}
use Rattle.std.proofs.lemmas.Bool.Decides.{nat_tests}
use Rattle.std.proofs.lemmas.List.{append-nil, length-append}
use Rattle.std.proofs.lemmas.List.Elements.{All-from_recursion, recursion_from_All}
use Rattle.std.proofs.Math.Seq.{take-append_seam, take-append-add}
use Rattle.scan_types.specs.declared.outcome.Outcome.{Outcome}
use Rattle.scan_types.specs.declared.outcome.Outcome.TheVariants.{Full, Abandoned}
use Rattle.scan_types.specs.declared.limits.TheConstants.{MOST_OFFERS, MOST_MEASURE_ENTRIES}
use Rattle.finding_definitions.specs.declared.finding.Stage.{Stage}
use Rattle.finding_definitions.specs.declared.finding.WideAt.{WideAt}
use Rattle.finding_definitions.specs.declared.finding.WideAt.TheVariants.{Entry, Weight, Stake}
use Rattle.finding_definitions.specs.declared.finding.Finding.{Finding}
use Rattle.finding_definitions.specs.declared.finding.Finding.TheVariants.{Arb, Coherent, Thin, Narrow, Wide, OutOfPivots}
use Rattle.finding_definitions.specs.Fractions.{Fractions}
use Rattle.finding_definitions.specs.Text.{finding_text}
use Rattle.finding_definitions.specs.Readable.{IsShort, IsLong, AreReadableParts, IsReadableOutcome, IsReadableMeasure, IsReadablePlace, IsReadable, IsFaultAt}
use Rattle.certificates.specs.Reading.{MOST_SHORT, MOST_LONG, finding_at, whole_at}
use Rattle.certificates.proofs.Readers.{Stuck, SameHead, bind_ok, bind_err, ok_is, not_both, bind_is}
use Rattle.certificates.proofs.Findings.{AtMost, AreFew, AreParts, AreOutcomes, AreEntries, AreMeasures, AreRuns, ArePlaces, AreFindings, every_stage, Reads-finding}

-- ---- the reader's parts are the readable ones

map_all : {A : Type 0} (P Q : A → Type 0) → ((x : A) → P x → Q x) → (xs : List A) → AllByRecursion P xs → AllByRecursion Q xs
map_all P Q f [] h = tt
map_all P Q f (x ∷ xs) h = (f x h.0, map_all P Q f xs h.1)

few_there : {A : Type 0} (most : ℕ) (P Q : A → Type 0) → ((x : A) → P x → Q x) → (xs : List A) → AreFew most P xs → (length xs ≤ most) × All Q xs
few_there most P Q f xs h = (h.0, All-from_recursion Q xs (map_all P Q f xs h.1))

few_back : {A : Type 0} (most : ℕ) (P Q : A → Type 0) → ((x : A) → Q x → P x) → (xs : List A) → (length xs ≤ most) × All Q xs → AreFew most P xs
few_back most P Q f xs h = (h.0, map_all Q P f xs (recursion_from_All Q xs h.1))

short_there : (n : ℕ) → AtMost MOST_SHORT n → IsShort n
short_there n h = omega arith

short_back : (n : ℕ) → IsShort n → AtMost MOST_SHORT n
short_back n h = omega arith

long_there : (n : ℕ) → AtMost MOST_LONG n → IsLong n
long_there n h = omega arith

long_back : (n : ℕ) → IsLong n → AtMost MOST_LONG n
long_back n h = omega arith

parts_there : (p : Fractions) → AreParts p → AreReadableParts p
parts_there p (d, xs, le, few, e) =
    let all = few_there MOST_OFFERS (AtMost MOST_LONG) IsLong long_there xs few in
    subst AreReadableParts (sym e) (long_there d le, all.0, all.1)

parts_back : (p : Fractions) → AreReadableParts p → AreParts p
parts_back p (d, few, all) = (p.divisor, p.parts, long_back p.divisor d, few_back MOST_OFFERS (AtMost MOST_LONG) IsLong long_back p.parts (few, all), refl)

outcome_there : (x : Outcome) → AreOutcomes x → IsReadableOutcome x
outcome_there x (inl (h, a, p, q, e)) = subst IsReadableOutcome (sym e) (long_there h p, long_there a q)
outcome_there x (inr (h, a, p, q, e)) = subst IsReadableOutcome (sym e) (long_there h p, long_there a q)

outcome_back : (x : Outcome) → IsReadableOutcome x → AreOutcomes x
outcome_back (Full h a) r = inl (h, a, long_back h r.0, long_back a r.1, refl)
outcome_back (Abandoned h a) r = inr (h, a, long_back h r.0, long_back a r.1, refl)

abbrev IsReadableEntry : Outcome × ℕ → Type 0
IsReadableEntry entry = IsReadableOutcome entry.0 × IsLong entry.1

entry_there : (e : Outcome × ℕ) → AreEntries e → IsReadableEntry e
entry_there e (x, w, p, q, is) = subst IsReadableEntry (sym is) (outcome_there x p, long_there w q)

entry_back : (e : Outcome × ℕ) → IsReadableEntry e → AreEntries e
entry_back e r = (e.0, e.1, outcome_back e.0 r.0, long_back e.1 r.1, refl)

measure_there : (m : List (Outcome × ℕ)) → AreMeasures m → IsReadableMeasure m
measure_there m h = few_there MOST_MEASURE_ENTRIES AreEntries IsReadableEntry entry_there m h

measure_back : (m : List (Outcome × ℕ)) → IsReadableMeasure m → AreMeasures m
measure_back m h = few_back MOST_MEASURE_ENTRIES AreEntries IsReadableEntry entry_back m h

place_there : (p : WideAt) → ArePlaces p → IsReadablePlace p
place_there p (inl (r, c, a, b, e)) = subst IsReadablePlace (sym e) (short_there r a, short_there c b)
place_there p (inr (inl (n, a, e))) = subst IsReadablePlace (sym e) (short_there n a)
place_there p (inr (inr (n, a, e))) = subst IsReadablePlace (sym e) (short_there n a)

place_back : (p : WideAt) → IsReadablePlace p → ArePlaces p
place_back (Entry row column) h = inl (row, column, short_back row h.0, short_back column h.1, refl)
place_back (Weight n) h = inr (inl (n, short_back n h, refl))
place_back (Stake n) h = inr (inr (n, short_back n h, refl))

run_there : (k : Stage × ℕ) → AreRuns k → IsShort k.1
run_there k (s, n, p, q, e) = subst (λ (y : Stage × ℕ). IsShort y.1) (sym e) (short_there n q)

run_back : (s : Stage) (n : ℕ) → IsShort n → AreRuns (s, n)
run_back s n h = (s, n, every_stage s, short_back n h, refl)

readable : (f : Finding) → AreFindings f → IsReadable f
readable f (inl (x, p, e)) = subst IsReadable (sym e) (few_there MOST_OFFERS (AtMost MOST_SHORT) IsShort short_there x p)
readable f (inr (inl (x, p, e))) = subst IsReadable (sym e) (measure_there x p)
readable f (inr (inr (inl (x, m, p, q, e)))) = subst IsReadable (sym e) (parts_there x p, measure_there m q)
readable f (inr (inr (inr (inl (x, m, p, q, e))))) = subst IsReadable (sym e) (parts_there x p, measure_there m q)
readable f (inr (inr (inr (inr (inl (k, w, p, q, e)))))) = subst IsReadable (sym e) (run_there k p, place_there w q)
readable f (inr (inr (inr (inr (inr (k, p, e)))))) = subst IsReadable (sym e) (run_there k p)

reader_reads : (f : Finding) → IsReadable f → AreFindings f
reader_reads (Arb x) h = inl (x, few_back MOST_OFFERS (AtMost MOST_SHORT) IsShort short_back x h, refl)
reader_reads (Coherent m) h = inr (inl (m, measure_back m h, refl))
reader_reads (Thin x m) h = inr (inr (inl (x, m, parts_back x h.0, measure_back m h.1, refl)))
reader_reads (Narrow x m) h = inr (inr (inr (inl (x, m, parts_back x h.0, measure_back m h.1, refl))))
reader_reads (Wide s n w) h = inr (inr (inr (inr (inl ((s, n), w, run_back s n h.0, place_back w h.1, refl)))))
reader_reads (OutOfPivots s n) h = inr (inr (inr (inr (inr ((s, n), run_back s n h, refl)))))

-- ---- whole texts

abbrev at_end : Finding × List ℕ → Result Finding ℕ
at_end x = cond (eqb (length x.1) 0) (Ok x.0) (Err (length x.1))

end_ok : (x : Finding × List ℕ) (f : Finding) → at_end x ≡ Ok f → (x.1 ≡ []) × (x.0 ≡ f)
end_ok (g, []) f e = (refl, cc)
end_ok (g, c ∷ rest) f e = absurd (differs (eqb (length (c ∷ rest)) 0) refl e)
  where
    differs : (b : Bool) → eqb (length (c ∷ rest)) 0 ≡ b → cond b (Ok g) (Err (length (c ∷ rest))) ≡ Ok f → ⊥
    differs true is e = let zero_long : length (c ∷ rest) ≡ 0 = grind (arith, nat_tests) in omega arith
    differs false is e = cc

end_err : (x : Finding × List ℕ) (n : ℕ) → at_end x ≡ Err n → (c : ℕ) × (more : List ℕ) × (x.1 ≡ c ∷ more) × (length x.1 ≡ n)
end_err (g, []) n e = absurd cc
end_err (g, c ∷ rest) n e = (c, rest, refl, last (eqb (length (c ∷ rest)) 0) e)
  where
    last : (b : Bool) → cond b (Ok g) (Err (length (c ∷ rest))) ≡ Err n → length (c ∷ rest) ≡ n
    last true e = absurd cc
    last false e = cc

-- what is read is a readable finding's text
pub whole_takes : (s : List ℕ) (f : Finding) → whole_at s ≡ Ok f → IsReadable f × (finding_text f ≡ s)
unfolding whole_at
whole_takes s f e =
    let (x, ex, e1) = bind_ok (finding_at s) at_end f e in
    let one = Reads-finding.takes s x ex in
    let (none, is) = end_ok x f e1 in
    let whole : s ≡ finding_text x.0 = one.0 ∙ ap (λ (v : List ℕ). finding_text x.0 ++ v) none ∙ append-nil (finding_text x.0) in
    subst (λ (g : Finding). IsReadable g × (finding_text g ≡ s)) is (readable x.0 one.1, sym whole)

-- a readable finding's text is read
pub whole_again : (s : List ℕ) (f : Finding) → IsReadable f → finding_text f ≡ s → whole_at s ≡ Ok f
unfolding whole_at
whole_again s f fits e =
    let read : finding_at s ≡ Ok (f, []) = ap finding_at (sym e ∙ sym (append-nil (finding_text f))) ∙ Reads-finding.again f [] (reader_reads f fits) tt in
    bind_is (finding_at s) at_end (f, []) read

-- where the text stops being one that can be continued
record Stops (s : List ℕ) (n : ℕ) : Type 0 where
  front : List ℕ
  rest : List ℕ
  parts : s ≡ front ++ rest
  left : length rest ≡ n
  some : Finding
  more : List ℕ
  fits : IsReadable some
  goes_on : finding_text some ≡ front ++ more
  ends_here : (c : ℕ) (after z : List ℕ) (f : Finding) → rest ≡ c ∷ after → IsReadable f → finding_text f ≡ front ++ c ∷ z → ⊥

stops_of_stuck : (s : List ℕ) (n : ℕ) → Stuck AreFindings finding_text s n → Stops s n
stops_of_stuck s n S = record {
  front = S.front;
  rest = S.rest;
  parts = S.parts;
  left = S.left;
  some = S.some;
  more = S.more;
  fits = readable S.some S.fits;
  goes_on = S.goes_on;
  ends_here = λ c after z f er fits eq. S.ends_here c after z [] f er (reader_reads f fits) tt (append-nil (finding_text f) ∙ eq);
}

whole_stops : (s : List ℕ) (n : ℕ) → whole_at s ≡ Err n → Stops s n
unfolding whole_at
whole_stops s n e =
    elim (bind_err (finding_at s) at_end n e) [
      | inl e1 ↦ stops_of_stuck s n (Reads-finding.stuck s n e1)
      | inr found ↦
          let (x, ex, e1) = found in
          let one = Reads-finding.takes s x ex in
          let (c, more, is, left) = end_err x n e1 in
          record {
            front = finding_text x.0;
            rest = x.1;
            parts = one.0;
            left = left;
            some = x.0;
            more = [];
            fits = readable x.0 one.1;
            goes_on = sym (append-nil (finding_text x.0));
            ends_here = λ d after z f er fits eq.
                let same : SameHead x.1 (d ∷ z) = subst (λ (v : List ℕ). SameHead v (d ∷ z)) (sym er) refl in
                let here = Reads-finding.here s x (d ∷ z) ex same in
                let again = Reads-finding.again f [] (reader_reads f fits) tt in
                let both = sym again ∙ ap finding_at (append-nil (finding_text f) ∙ eq) ∙ here in
                let rests : [] ≡ d ∷ z = ap (λ (y : Finding × List ℕ). y.1) (ok_is (f, []) (x.0, d ∷ z) both) in
                absurd cc;
          }
    ]

front_of : (front rest : List ℕ) → take (length front) (front ++ rest) ≡ front
front_of front rest = take-append_seam front rest

-- the fault is where the text stops beginning one
pub whole_fault : (s : List ℕ) (n : ℕ) → whole_at s ≡ Err n → IsFaultAt s (length s - n)
whole_fault s n e =
    let S = whole_stops s n e in
    let long : length s ≡ length S.front + length S.rest = ap length S.parts ∙ length-append S.front S.rest in
    let left : length S.rest ≡ n = S.left in
    let place : length s - n ≡ length S.front = omega arith in
    let front : take (length s - n) s ≡ S.front = ap (λ (k : ℕ). take k s) place ∙ ap (take (length S.front)) S.parts ∙ front_of S.front S.rest in
    record {
      no_finding = λ f fits is. absurd (not_both f n (sym (whole_again s f fits is) ∙ e));
      within = omega arith;
      begins = (S.some, S.more, S.fits, S.goes_on ∙ ap (λ (v : List ℕ). v ++ S.more) (sym front));
      longest = λ longer less within begins.
          let (f, z, fits, is) = begins in
          past S longer (omega arith) (omega arith) f z fits is;
    }
  where
    past : (S : Stops s n) (longer : ℕ) → length S.front < longer → longer ≤ length S.front + length S.rest → (f : Finding) (z : List ℕ) → IsReadable f → finding_text f ≡ take longer s ++ z → ⊥
    past S longer less within f z fits is = beyond S.rest refl
      where
        beyond : (rest : List ℕ) → S.rest ≡ rest → ⊥
        beyond [] er = let none : length S.rest ≡ 0 = ap length er in omega arith
        beyond (c ∷ after) er =
            let k : ℕ = longer - length S.front - 1 in
            let count : longer ≡ length S.front + suc k = omega arith in
            let shown : take longer s ≡ S.front ++ c ∷ take k after = ap (λ (j : ℕ). take j s) count ∙ ap (take (length S.front + suc k)) (S.parts ∙ ap (λ (v : List ℕ). S.front ++ v) er) ∙ take-append-add S.front (c ∷ after) (suc k) in
            S.ends_here c after (take k after ++ z) f er fits (is ∙ ap (λ (v : List ℕ). v ++ z) shown ∙ append_assoc S.front (c ∷ take k after) z)

-- no more bytes are left than the text has
pub left_within : (s : List ℕ) (n : ℕ) → whole_at s ≡ Err n → n ≤ length s
left_within s n e =
    let S = whole_stops s n e in
    omega (arith, S.left, ap length S.parts, length-append S.front S.rest)
