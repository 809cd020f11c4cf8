-- When each entry can stand at its place, and one is a final score, the entries are a price measure; and the other way round.
use Rattle.std.proofs.Common.{◌≡◌, ◌≢◌, ℕ, ◌<◌, ◌≤◌, ◌-◌, List, [], ◌∷◌, length, get_or, sym, ◌∙◌, ap, arith}
use Rattle.std.specs.Prelude.{Any, AllPairs}
use Rattle.std.proofs.lemmas.List.{length-take, get_or-take}
use Rattle.scan_types.specs.declared.outcome.Outcome.{Outcome}
use Rattle.scan_types.specs.declared.outcome.Outcome.TheVariants.{Full}
use Rattle.scan_types.specs.declared.limits.TheConstants.{MOST_MEASURE_ENTRIES}
use Rattle.finding_definitions.specs.Measure.{IsFinal, IsMeasure, IsPriceMeasure}
use Rattle.cert_checker.specs.Places.{AllHold}
use Rattle.cert_checker.specs.Shapes.{IsEntry}
use Rattle.cert_checker.proofs.Searches.{get_or-any}

abbrev Entry : Type 0
Entry = Outcome × ℕ

-- entries that can stand at their places are distinct
entries_distinct : (m : List Entry) → AllHold (IsEntry m) m → AllPairs (λ e f. e.0 ≢ f.0) m
entries_distinct m fit i j d less below =
    λ same. (fit j d below).new (i, get_or m i d, omega (arith, length-take j m), get_or-take j m i (get_or m i d) less ∙ get_or-any m i (get_or m i d) d (omega arith), same)

pub price_measure : (m : List Entry) → AllHold (IsEntry m) m → Any (λ e. IsFinal e.0) m → IsPriceMeasure m
price_measure m fit final =
    let some : 1 ≤ length m = omega (arith, final.2) in
    let nothing : Entry = (Full 0 0, 0) in
    let last = fit (length m - 1) nothing (omega arith) in
    record {
      form =
          record {
            some = some;
            few = omega (arith, last.few);
            distinct = entries_distinct m fit;
            scores = λ k d lt. (fit k d lt).scores;
            weights = λ k d lt. ((fit k d lt).weight_at_least, (fit k d lt).weight_at_most);
          };
      final = final;
    }

pub entries_fit : (m : List Entry) → IsMeasure m → AllHold (IsEntry m) m
entries_fit m form j d below = record {
  few = omega (arith, form.few);
  weight_at_least = (form.weights j d below).0;
  weight_at_most = (form.weights j d below).1;
  scores = form.scores j d below;
  new = λ early.
      let (i, e, short, is, same) = early in
      let less : i < j = omega (arith, length-take j m, short) in
      let here : get_or m i e ≡ e = sym (get_or-take j m i e less) ∙ is in
      form.distinct i j d less below (ap (λ x. x.0) (get_or-any m i d e (omega arith) ∙ here) ∙ same);
}

pub few_entries : (m : List Entry) → AllHold (IsEntry m) m → length m ≤ MOST_MEASURE_ENTRIES
few_entries [] fit = omega arith
few_entries (e ∷ m) fit = let last = fit (length m) e (omega arith) in omega (arith, last.few)
