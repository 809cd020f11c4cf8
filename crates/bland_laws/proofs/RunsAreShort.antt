-- No basis comes twice, so a run meets one basis more than it makes pivots, and these are few.
use Rattle.std.proofs.Common.{◌≡◌, ◌≢◌, ℕ, suc, ◌+◌, ◌<◌, List, map, sym, ap, ◌∙◌, arith}
use Rattle.std.specs.List.{All, AllPairs, range_with_len}
use Rattle.std.proofs.lemmas.List.Elements.{All-map}
use Rattle.std.proofs.lemmas.List.FromFn.{length-map-range_with_len, get_or-map-range_with_len}
use Rattle.pivot_definitions.specs.Tableaus.{built}
use Rattle.pivot_definitions.proofs.Built.{All-range}
use Rattle.bland_laws.specs.Ways.{IsWay}
use Rattle.bland_laws.specs.Bases.{basis_of}
use Rattle.bland_laws.specs.Laws.{BasisIsWay, NoBasisTwice, RunIsShort, OutOfPivotsIsShort}
use Rattle.bland_laws.proofs.FewBases.{few_bases}
use Rattle.bland_laws.proofs.BasesAreWays.{basis_is_way_at, same_basis}
use Rattle.bland_laws.proofs.Walks.{walk_of, plain_run, run_is_one, reached}
use Rattle.bland_laws.proofs.GreatestFickle.{no_circle}

pub basis_is_way : BasisIsWay
basis_is_way program is capped pivots end run = basis_is_way_at program end (reached program is capped pivots end run)

pub no_basis_twice : NoBasisTwice
no_basis_twice program is capped k l t u run run' less same =
    let w = walk_of program is capped l u run' in
    let first : w.at k ≡ t = run_is_one (built program) k (w.at k) t (w.run k (omega arith)) run in
    let second : w.at l ≡ u = run_is_one (built program) l (w.at l) u (w.run l (omega arith)) run' in
    let one = reached program is capped k (w.at k) (w.run k (omega arith)) in
    let other = reached program is capped l (w.at l) (w.run l (omega arith)) in
    let bases : basis_of (w.at k) ≡ basis_of (w.at l) = ap basis_of first ∙ same ∙ ap basis_of (sym second) in
    no_circle program l w k l (record {
      some_pivot = less;
      inside = omega arith;
      forth = same_basis program (w.at k) (w.at l) one other bases;
      back = same_basis program (w.at l) (w.at k) other one (sym bases);
    })

pub run_is_short : RunIsShort
run_is_short program is capped n end run =
    let w = walk_of program is capped n end run in
    let f : ℕ → List ℕ = λ k. basis_of (w.at k) in
    let lists = map f (range_with_len 0 (suc n)) in
    let W : List ℕ → Type 0 = IsWay (program.columns + program.rows) program.rows in
    let count = length-map-range_with_len f 0 (suc n) in
    let ways_each : All W lists = All-map W f (range_with_len 0 (suc n)) (All-range (λ k. W (f k)) 0 (suc n) (λ k low high. basis_is_way program is capped k (w.at k) (w.run k (omega arith)))) in
    let differ : AllPairs (λ x y. x ≢ y) lists = λ i j d less inside same.
    (let high : j < suc n = omega (arith, inside, count) in
    no_basis_twice program is capped i j (w.at i) (w.at j) (w.run i (omega arith)) (w.run j (omega arith)) less
    (sym (get_or-map-range_with_len f 0 (suc n) i i d (omega arith) (omega arith)) ∙ same ∙ get_or-map-range_with_len f 0 (suc n) j j d high (omega arith))) in
    let few = few_bases (program.columns + program.rows) program.rows lists ways_each differ in
    omega (arith, few, count)

pub out_of_pivots_is_short : OutOfPivotsIsShort
out_of_pivots_is_short program is capped budget pivots end out =
    let short = run_is_short program is capped budget end (plain_run (built program) budget end out.run) in
    let whole = out.whole_budget in
    omega (arith, short, whole)
