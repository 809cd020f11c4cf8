use Rattle.std.proofs.Common.{◌≡◌, ◌∙◌, ℕ, ◌+◌, ◌<◌, List, [], ◌∷◌, ◌++◌, length, ap, sym, subst, arith, All}
use Rattle.std.proofs.lemmas.List.{length-append}
use Rattle.std.proofs.lemmas.List.Elements.{All-head, All-tail, All-append, All-cons, All-nil}
use Rattle.desk_definitions.specs.Opening.{AreOpened}
use Rattle.desk_opening.specs.declared.begun.Begun.{Begun}
use Rattle.desk_opening.specs.Headers.{IsHeaderRead, AreHeadersRead, HasNone}
use Rattle.desk_opening.proofs.BegunFeeds.{headers_push}
use Rattle.desk_opening.proofs.headers.read_headers.Goals as goal

pub loop-source-preserved : goal.loop-source-preserved
loop-source-preserved g c =
    let begun = c.loop-source.begun.items in
    let next = c.in-Ok-read_header.next in
    let rest = c.pop_front.new.self.items in
    let pushed : c.push_back.new.self.items ≡ begun ++ next ∷ [] = c.in-Ok-push_back.ensures.items in
    let longer : length c.push_back.new.self.items ≡ length begun + 1 = ap (λ (bs : List (Begun g.row.S.Denot)). length bs) pushed ∙ length-append begun (next ∷ []) in
    let popped : c.loop-source.sources.items ≡ c.in-Some.source ∷ rest = c.in-Some.ensures.items in
    let fewer = ap (λ (ss : List g.row.S.Denot). length ss) popped in
    let count = c.loop-source.invariant.count in
    record {
      read = λ told opened.
          (let before = c.loop-source.invariant.read told opened in
          let there = subst (AreOpened g.S.Source.left g.S.Source.faults told (length begun)) popped before.1 in
          let P : ℕ → Type 0 = λ n. IsHeaderRead g.S.Source.left (told (length begun)) n next.header next.reader in
          let R : ℕ → Type 0 = λ n. IsHeaderRead g.S.Source.left (told n) n next.header next.reader in
          let header = subst R (let e : length begun ≡ 0 + length begun = omega arith in e) (subst P (let e : c.len-in-Some.result ≡ length begun = omega (arith, c.len-in-Some.ensures) in e) (c.in-Ok-read_header.ensures.header (told (length begun)) there.0)) in
          let Q : ℕ → Type 0 = λ n. AreOpened g.S.Source.left g.S.Source.faults told n rest in (
            subst (AreHeadersRead g.S.Source.left told 0) (sym pushed) (headers_push g.S.Source.left told 0 begun next before.0 header),
            subst Q (sym longer) there.1,
          ));
      count = omega (arith, longer, fewer, count);
      promises = λ all.
          (let before = c.loop-source.invariant.promises all in
          let there = subst (All g.S.Source.never_fails) popped before.1 in
          let R : Begun g.row.S.Denot → Type 0 = λ feed. g.S.Source.never_fails feed.reader.source in (
            subst (All R) (sym pushed) (All-append R begun (next ∷ []) before.0 (All-cons R next [] (c.in-Ok-read_header.ensures.promise_kept (All-head g.S.Source.never_fails c.in-Some.source rest there)) (All-nil R))),
            All-tail g.S.Source.never_fails c.in-Some.source rest there,
          ));
      counts = λ all.
          (let before = c.loop-source.invariant.counts all in
          let Z : g.row.S.Denot → Type 0 = λ source. g.S.Source.faults source ≡ 0 in
          let there = subst (All Z) popped before.1 in
          let R : Begun g.row.S.Denot → Type 0 = λ feed. g.S.Source.faults feed.reader.source ≡ 0 in (
            subst (All R) (sym pushed) (All-append R begun (next ∷ []) before.0 (All-cons R next [] (c.in-Ok-read_header.ensures.fresh (All-head Z c.in-Some.source rest there)) (All-nil R))),
            All-tail Z c.in-Some.source rest there,
          ));
    }

pub returns-in-Err-clause-stop : goal.returns-in-Err-clause-stop
returns-in-Err-clause-stop g c told opened =
    let begun = c.loop-source.begun.items in
    let popped : c.loop-source.sources.items ≡ c.in-Some.source ∷ c.pop_front.new.self.items = c.in-Some.ensures.items in
    let fewer = ap (λ (ss : List g.row.S.Denot). length ss) popped in
    let count = c.loop-source.invariant.count in
    let before = c.loop-source.invariant.read told opened in
    let there = subst (AreOpened g.S.Source.left g.S.Source.faults told (length begun)) popped before.1 in
    let few : length begun < length c.args.sources.items = omega (arith, fewer, count) in
    let P : ℕ → Type 0 = λ n. HasNone g.S.Source.left g.S.Source.faults (told (length begun)) n c.in-Err.last.stop c.in-Err.last.end in
    c.stopped.ensures.stop told (length c.args.sources.items) before.0 few (subst P (let e : c.len-in-Some.result ≡ length begun = omega (arith, c.len-in-Some.ensures) in e) (c.in-Err.ensures.stop (told (length begun)) there.0))

pub returns-in-Err-clause-promised : goal.returns-in-Err-clause-promised
returns-in-Err-clause-promised g c promise =
    let popped : c.loop-source.sources.items ≡ c.in-Some.source ∷ c.pop_front.new.self.items = c.in-Some.ensures.items in
    let there = subst (All g.S.Source.never_fails) popped (c.loop-source.invariant.promises promise).1 in
    c.stopped.ensures.promised (c.in-Err.ensures.promised (All-head g.S.Source.never_fails c.in-Some.source c.pop_front.new.self.items there))

pub returns-clause-headers : goal.returns-clause-headers
returns-clause-headers g c told opened = (c.loop-source.invariant.read told opened).0

pub returns-in-Err-clause-counted : goal.returns-in-Err-clause-counted
returns-in-Err-clause-counted g c all =
    let popped : c.loop-source.sources.items ≡ c.in-Some.source ∷ c.pop_front.new.self.items = c.in-Some.ensures.items in
    let before = c.loop-source.invariant.counts all in
    let Z : g.row.S.Denot → Type 0 = λ source. g.S.Source.faults source ≡ 0 in
    let there = subst (All Z) popped before.1 in
    c.stopped.ensures.counted before.0 (c.in-Err.ensures.counted (All-head Z c.in-Some.source c.pop_front.new.self.items there))

pub returns-clause-promise_kept : goal.returns-clause-promise_kept
returns-clause-promise_kept g c all = (c.loop-source.invariant.promises all).0

pub returns-clause-fresh : goal.returns-clause-fresh
returns-clause-fresh g c all = (c.loop-source.invariant.counts all).0
