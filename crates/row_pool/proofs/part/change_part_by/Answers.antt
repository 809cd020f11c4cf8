use Rattle.std.proofs.Common.{◌≡◌, ◌∙◌, refl, ◌++◌, ◌+◌, ap, ap₂, sym, List, ℤ, length, take, drop, arith}
use Rattle.std.proofs.lemmas.List.{append_assoc, drop-drop}
use Rattle.row_pool.specs.Parts.{part_of}
use Rattle.row_pool.proofs.Blocks.{part_before, joined, first_ends, second_ends}
use Rattle.row_pool.proofs.part.change_part_by.Goals as goal

pub change-requires : goal.change-requires
change-requires g c =
    let a = c.args in
    let ends = first_ends a.target a.pivot a.width c.requires.apart c.if-target-pivot.true in
    let rest : List ℤ → List ℤ = λ front. take a.width (drop a.target front) in
    let row : List ℤ → List ℤ = take a.width in
    c.requires.callable _ _
    (c.split_at_mut-row.ensures.front ∙ ap row c.split_at_mut-rest.ensures.back ∙ ap rest c.split_at_mut-front.ensures.front ∙ part_before a.block.now a.target a.pivot a.width ends)
    (c.part.ensures ∙ ap row c.split_at_mut-front.ensures.back)

pub change-requires-else-target-pivot : goal.change-requires-else-target-pivot
change-requires-else-target-pivot g c =
    let a = c.args in
    let ends = second_ends a.target a.pivot a.width c.requires.apart (omega (arith, c.if-target-pivot.false)) in
    let rest : List ℤ → List ℤ = λ front. take a.width (drop a.pivot front) in
    let row : List ℤ → List ℤ = take a.width in
    c.requires.callable _ _
    (c.split_at_mut-row-else-target-pivot.ensures.front ∙ ap row c.split_at_mut-front-else-target-pivot.ensures.back)
    (c.part-else-target-pivot.ensures ∙ ap rest c.split_at_mut-front-else-target-pivot.ensures.front ∙ part_before a.block.now a.pivot a.target a.width ends)

pub returns-then-target-pivot : goal.returns-then-target-pivot
returns-then-target-pivot g c =
    let a = c.args in
    let block = a.block.now in
    let ends = first_ends a.target a.pivot a.width c.requires.apart c.if-target-pivot.true in
    let row : List ℤ → List ℤ = take a.width in
    let rest : List ℤ → List ℤ = λ front. drop a.target front in
    let start : List ℤ → List ℤ = take a.target in
    let behind : List ℤ → List ℤ = drop a.width in
    let front = c.split_at_mut-front.ensures.front in
    let middle = c.split_at_mut-rest.ensures.back ∙ ap rest front in
    let shows : c.split_at_mut-row.result.0.now ≡ part_of block a.target a.width = c.split_at_mut-row.ensures.front ∙ ap row middle ∙ part_before block a.target a.pivot a.width ends in
    let shows_second : c.part.result.now ≡ part_of block a.pivot a.width = c.part.ensures ∙ ap row c.split_at_mut-front.ensures.back in
    let as_many : length c.change.new.arg2 ≡ a.width = c.change.auto.arg2 ∙ c.split_at_mut-row.ensures.front_len in
    record {
      new = c.change.new.arg2;
      as_many = as_many;
      returned = record {
        first = _;
        second = c.part.result;
        shows = shows;
        shows_second = shows_second;
        left = _;
        met = c.change.ensures;
        leaves = refl;
      };
      is = ap₂ (λ (xs ys : List ℤ). xs ++ ys) (ap₂ (λ (xs ys : List ℤ). xs ++ (c.change.new.arg2 ++ ys)) (c.split_at_mut-rest.ensures.front ∙ ap start front) (c.split_at_mut-row.ensures.back ∙ ap behind middle)) c.split_at_mut-front.ensures.back
          ∙ joined block c.change.new.arg2 a.target a.pivot a.width ends as_many;
    }

pub returns-else-target-pivot : goal.returns-else-target-pivot
returns-else-target-pivot g c =
    let a = c.args in
    let block = a.block.now in
    let ends = second_ends a.target a.pivot a.width c.requires.apart (omega (arith, c.if-target-pivot.false)) in
    let row : List ℤ → List ℤ = take a.width in
    let rest : List ℤ → List ℤ = λ front. take a.width (drop a.pivot front) in
    let behind : List ℤ → List ℤ = drop a.width in
    let back = c.split_at_mut-front-else-target-pivot.ensures.back in
    let shows : c.split_at_mut-row-else-target-pivot.result.0.now ≡ part_of block a.target a.width = c.split_at_mut-row-else-target-pivot.ensures.front ∙ ap row back in
    let shows_second : c.part-else-target-pivot.result.now ≡ part_of block a.pivot a.width = c.part-else-target-pivot.ensures ∙ ap rest c.split_at_mut-front-else-target-pivot.ensures.front ∙ part_before block a.pivot a.target a.width ends in
    let new = c.change-else-target-pivot.new.arg2 in
    let as_many : length new ≡ a.width = c.change-else-target-pivot.auto.arg2 ∙ c.split_at_mut-row-else-target-pivot.ensures.front_len in
    record {
      new = new;
      as_many = as_many;
      returned = record {
        first = _;
        second = c.part-else-target-pivot.result;
        shows = shows;
        shows_second = shows_second;
        left = _;
        met = c.change-else-target-pivot.ensures;
        leaves = refl;
      };
      is = ap₂ (λ (xs ys : List ℤ). xs ++ (new ++ ys)) c.split_at_mut-front-else-target-pivot.ensures.front (c.split_at_mut-row-else-target-pivot.ensures.back ∙ ap behind back ∙ drop-drop a.width a.target block)
          ∙ sym (append_assoc (take a.target block) new (drop (a.target + a.width) block))
          ∙ ap (λ n. take a.target block ++ new ++ drop (a.target + n) block) (sym as_many);
    }
