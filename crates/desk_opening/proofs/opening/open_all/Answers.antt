use Rattle.std.proofs.Common.{◌≡◌, ◌++◌, ◌∷◌, refl, true, is_ok, MatchOption, Some, ◌<◌, ◌+◌, map, length, string_bytes, arith, get_or, [], take, Global, sym, ◌∙◌, ap, subst, ℕ, ◌≤◌, List}
use Rattle.std.proofs.lemmas.List.{get_or-map, length-map, take_all}
use Rattle.std.specs.Bool.{⊤}
use Rattle.std.proofs.lemmas.List.Elements.{All-push}
use Rattle.desk_definitions.specs.Opening.{told_bytes, HasSources}
use Rattle.outside_definitions.specs.Opener.{TakenUnder}
use Rattle.desk_io.proofs.Openings.{opened_under_none, taken_under}
use Rattle.desk_opening.proofs.Opened.{opened_more, tells, enough_none, enough_more, AreOpened_push, stays_untold, lacks, taken_still}
use Rattle.desk_opening.proofs.opening.open_all.Goals as goal

pub loop-number-init : goal.loop-number-init
loop-number-init g c = record {
  count = omega (arith, c.in-Ok.ensures.len);
  faults = refl;
  few = omega arith;
  promise = λ promise. promise;
  promises_kept = λ promise. promise;
  never = λ promise. rw c.in-Ok.ensures.items (λ k d lt. absurd (omega (arith, lt)));
  untold = λ name untold. untold;
  told = opened_under_none (g.O.Opener.told c.args.opener.now);
  enough = enough_none (g.O.Opener.told c.args.opener.now);
  opened = rw c.in-Ok.ensures.items tt;
}

pub returns-in-Err-Failed-clause-opener : goal.returns-in-Err-Failed-clause-opener
returns-in-Err-Failed-clause-opener g c =
    let names = map (string_bytes {Z = Global}) c.args.names.now in
    let n = c.loop-number.number in
    let inv = c.loop-number.invariant in
    let before = g.O.Opener.told c.args.opener.now in
    let now = g.O.Opener.told c.loop-number.opener in
    let is : c.as_str.result.now ≡ get_or names n [] =
    c.as_str.ensures.value ∙ ap (string_bytes {Z = Global}) c.index-names-number.is
    ∙ sym (get_or-map (string_bytes {Z = Global}) c.args.names.now n c.index-names-number.result [] c.loop-number-test.true) in
    record {
      is_named = omega (arith, length-map c.args.names.now (string_bytes {Z = Global}), c.loop-number-test.true);
      taken = taken_still (take n names) before now (g.O.Opener.told c.open_feed.new.self) (taken_under (take n names) before now inv.told inv.untold) c.in-Err-Failed.ensures.nothing_opened;
      earlier = inv.enough;
      fault = omega (arith, c.open_feed.ensures.failed (rw (c.in-Err-Failed.is, c.in-Err-Failed.field-0-is) refl), inv.faults);
      lacks = λ promise. lacks before now names n c.as_str.result.now is inv.untold inv.told (c.open_feed.ensures.none_left (inv.promise promise) (rw (c.in-Err-Failed.is, c.in-Err-Failed.field-0-is) refl));
    }

pub returns-in-Err-WantOfMemory-clause-opener : goal.returns-in-Err-WantOfMemory-clause-opener
returns-in-Err-WantOfMemory-clause-opener g c =
    let names = map (string_bytes {Z = Global}) c.args.names.now in
    let n = c.loop-number.number in
    let inv = c.loop-number.invariant in
    let before = g.O.Opener.told c.args.opener.now in
    let now = g.O.Opener.told c.loop-number.opener in (
      n,
      record {
        few = omega (arith, length-map c.args.names.now (string_bytes {Z = Global}), inv.few);
        taken = taken_still (take n names) before now (g.O.Opener.told c.open_feed.new.self) (taken_under (take n names) before now inv.told inv.untold) c.in-Err-WantOfMemory.ensures.nothing_opened;
        earlier = inv.enough;
        no_fault = ap g.O.Opener.faults (c.open_feed.ensures.unchanged (rw (c.in-Err-WantOfMemory.is, c.in-Err-WantOfMemory.field-0-is) refl)) ∙ inv.faults;
      },
    )

pub returns-then-is_err-clause-opener : goal.returns-then-is_err-clause-opener
returns-then-is_err-clause-opener g c =
    let names = map (string_bytes {Z = Global}) c.args.names.now in
    let n = c.loop-number.number in
    let inv = c.loop-number.invariant in
    let before = g.O.Opener.told c.args.opener.now in
    let now = g.O.Opener.told c.loop-number.opener in
    let after = g.O.Opener.told c.open_feed.new.self in
    let left = g.O.S.Source.left c.in-Ok-open_feed.source in
    let lt : n < length names = omega (arith, length-map c.args.names.now (string_bytes {Z = Global}), c.loop-number-test.true) in
    let is : c.as_str.result.now ≡ get_or names n [] =
    c.as_str.ensures.value ∙ ap (string_bytes {Z = Global}) c.index-names-number.is
    ∙ sym (get_or-map (string_bytes {Z = Global}) c.args.names.now n c.index-names-number.result [] c.loop-number-test.true) in
    let told = opened_more before now after names n c.as_str.result.now left lt is inv.told c.in-Ok-open_feed.ensures.opened c.in-Ok-open_feed.ensures.others in
    let untold = stays_untold before now after c.as_str.result.now left inv.untold c.in-Ok-open_feed.ensures.opened c.in-Ok-open_feed.ensures.others in (
      n + 1,
      record {
        few = omega (arith, lt);
        taken = taken_under (take (n + 1) names) before after told untold;
        earlier = enough_more before now after names n c.as_str.result.now left lt is inv.told inv.enough c.in-Ok-open_feed.ensures.opened;
        no_fault = c.in-Ok-open_feed.ensures.no_fault ∙ inv.faults;
      },
    )

pub loop-number-preserved : goal.loop-number-preserved
loop-number-preserved g c =
    let names = map string_bytes c.args.names.now in
    let n = c.loop-number.number in
    let before = g.O.Opener.told c.args.opener.now in
    let now = g.O.Opener.told c.loop-number.opener in
    let after = g.O.Opener.told c.open_feed.new.self in
    let left = g.O.S.Source.left c.in-Ok-open_feed.source in
    let lt : n < length names = omega (arith, length-map c.args.names.now (string_bytes {Z = Global}), c.loop-number-test.true) in
    let is : c.as_str.result.now ≡ get_or names n [] =
    c.as_str.ensures.value ∙ ap (string_bytes {Z = Global}) c.index-names-number.is
    ∙ sym (get_or-map (string_bytes {Z = Global}) c.args.names.now n c.index-names-number.result [] c.loop-number-test.true) in
    let ok : is_ok c.push_back.result ≡ true = c.if-is_err.ensures.negation in
    let items : c.push_back.new.self.items ≡ c.loop-number.sources.items ++ c.in-Ok-open_feed.source ∷ [] = rw ok at c.push_back.ensures.items in
    record {
      count = rw ok at c.push_back.ensures.len ∙ ap (λ k. k + 1) c.loop-number.invariant.count;
      faults = c.in-Ok-open_feed.ensures.no_fault ∙ c.loop-number.invariant.faults;
      few = omega (arith, c.loop-number-test.true);
      promise = λ promise. c.open_feed.ensures.opens_told_kept (c.loop-number.invariant.promise promise);
      promises_kept = λ promise. c.open_feed.ensures.promise_kept (c.loop-number.invariant.promises_kept promise);
      never = λ promise. rw items (All-push g.O.S.Source.never_fails c.loop-number.sources.items c.in-Ok-open_feed.source (c.loop-number.invariant.never promise) (c.in-Ok-open_feed.ensures.promised (c.loop-number.invariant.promises_kept promise)));
      untold = stays_untold before now after c.as_str.result.now left c.loop-number.invariant.untold c.in-Ok-open_feed.ensures.opened c.in-Ok-open_feed.ensures.others;
      told = opened_more before now after names n c.as_str.result.now left lt is c.loop-number.invariant.told c.in-Ok-open_feed.ensures.opened c.in-Ok-open_feed.ensures.others;
      enough = enough_more before now after names n c.as_str.result.now left lt is c.loop-number.invariant.told c.loop-number.invariant.enough c.in-Ok-open_feed.ensures.opened;
      opened = rw items (AreOpened_push g.O.S.Source.left g.O.S.Source.faults (told_bytes before names) 0 c.loop-number.sources.items c.in-Ok-open_feed.source c.loop-number.invariant.opened (record {
        fresh = c.in-Ok-open_feed.ensures.fresh;
        tells = let P : ℕ → Type 0 = λ k. MatchOption (told_bytes before names k) ⊤ (λ bytes. left ≡ Some bytes) in
            subst P (omega (arith, c.loop-number.invariant.count)) (tells before now after names n c.as_str.result.now left is c.loop-number.invariant.told c.in-Ok-open_feed.ensures.opened c.in-Ok-open_feed.ensures.others);
      }));
    }

pub returns-clause-each : goal.returns-clause-each
returns-clause-each g c = omega (arith, c.loop-number.invariant.count)

pub returns-clause-opened : goal.returns-clause-opened
returns-clause-opened g c = c.loop-number.invariant.opened

pub returns-clause-opener : goal.returns-clause-opener
returns-clause-opener g c =
    let names = map (string_bytes {Z = Global}) c.args.names.now in
    let inv = c.loop-number.invariant in
    let before = g.O.Opener.told c.args.opener.now in
    let now = g.O.Opener.told c.loop-number.opener in
    let all : length names ≤ c.loop-number.number = omega (arith, length-map c.args.names.now (string_bytes {Z = Global}), c.loop-number-test.false) in
    let whole = take_all c.loop-number.number names all in
    let P : List (List ℕ) → Type 0 = λ xs. HasSources before xs in
    let Q : List (List ℕ) → Type 0 = λ xs. TakenUnder xs before now in
    record {
      taken = subst Q whole (taken_under (take c.loop-number.number names) before now inv.told inv.untold);
      enough = subst P whole inv.enough;
      no_fault = inv.faults;
    }

pub returns-clause-promised : goal.returns-clause-promised
returns-clause-promised g c = λ promise. c.loop-number.invariant.never promise
