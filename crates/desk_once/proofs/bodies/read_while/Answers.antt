use Rattle.std.proofs.Common.{◌≡◌, ◌∙◌, ℕ, Option, None, is_ok, length, true, false, List, sym, subst, ap, arith, length-append, []}
use Rattle.std.specs.Prelude.{◌∷◌}
use Rattle.scan_types.specs.declared.rule.VoidRule.{VoidRule}
use Rattle.desk_once.specs.Bodies.{AreReadSoFar, IsNextRead, headers_of}
use Rattle.desk_once.proofs.Counts.{counted_on}
use Rattle.desk_once.proofs.Promises.{promised_on}
use Rattle.desk_once.proofs.SoFar.{cut_next, popped, same_headers, ready_next, so_far_next}
use Rattle.desk_once.proofs.bodies.read_while.Goals as goal

pub loop-next-preserved : goal.loop-next-preserved
loop-next-preserved g c =
    let left = g.S.Source.left in
    let faults = g.S.Source.faults in
    let none : ℕ → Option (List ℕ) = λ _. None in
    let next = c.in-Some.next in
    let rest = c.pop_front.new.self.items in
    let ends = c.loop-next.ends.items in
    let old = c.loop-next.board in
    let Start : (ℕ → Option (List ℕ)) → Type 0 = λ told. AreReadSoFar left faults told c.args.board.now.fixed.rules c.args.ends.now.items c.args.begun.now.items c.args.board.now.history in
    let so_far : (told : ℕ → Option (List ℕ)) → Start told → AreReadSoFar left faults told old.fixed.rules ends (next ∷ rest) old.history =
    λ told h. popped left faults told old.fixed.rules ends c.loop-next.begun.items next rest old.history c.in-Some.ensures.items (c.loop-next.invariant.so_far told h) in
    let read : (told : ℕ → Option (List ℕ)) → Start told → IsNextRead left faults told next.header ends c.read_next.new.ends.items old c.read_next.new.board true =
    λ told h. c.if-not-read_next.ensures.next told ((so_far told h).others.0) in
    let n = read none c.requires.so_far in
    let same : c.read_next.new.board.fixed ≡ old.fixed = ap (λ b. b.fixed) n.board_is in
    record {
      fixed = same ∙ c.loop-next.invariant.fixed;
      headers = sym (same_headers left faults none ends c.read_next.new.ends.items n.end next rest n.ends_are n.header_is) ∙ ap (λ xs. headers_of ends xs) (sym c.in-Some.ensures.items) ∙ c.loop-next.invariant.headers;
      few = omega (arith, ap length n.ends_are, length-append ends (n.end ∷ []), c.loop-next.invariant.few, c.in-Some.ensures.len, ap length c.in-Some.ensures.items);
      promised = λ none never. promised_on g.S.Source.never_fails ends c.loop-next.begun.items next rest c.read_next.new.ends.items c.in-Some.ensures.items
          (c.loop-next.invariant.promised none never) c.read_next.ensures.promised;
      counted = λ counted fresh. counted_on g.S.Source.faults ends c.loop-next.begun.items next rest c.read_next.new.ends.items c.in-Some.ensures.items
          (c.loop-next.invariant.counted counted fresh) c.read_next.ensures.counted;
      room = omega (arith, c.loop-next.invariant.room, c.read_next.ensures.room);
      so_far = λ told h.
          let P : List (Option VoidRule) → Type 0 = λ rules. AreReadSoFar left faults told rules c.read_next.new.ends.items rest c.read_next.new.board.history in
          subst P (ap (λ f. f.rules) (sym same)) (so_far_next left faults told ends c.read_next.new.ends.items next rest old c.read_next.new.board (so_far told h) (read told h));
    }

pub returns-then-not-read_next-clause-bodies : goal.returns-then-not-read_next-clause-bodies
returns-then-not-read_next-clause-bodies g c =
    let left = g.S.Source.left in
    let faults = g.S.Source.faults in
    let next = c.in-Some.next in
    let rest = c.pop_front.new.self.items in
    let ends = c.loop-next.ends.items in
    let old = c.loop-next.board in
    let Start : (ℕ → Option (List ℕ)) → Type 0 = λ told. AreReadSoFar left faults told c.args.board.now.fixed.rules c.args.ends.now.items c.args.begun.now.items c.args.board.now.history in
    let so_far : (told : ℕ → Option (List ℕ)) → Start told → AreReadSoFar left faults told old.fixed.rules ends (next ∷ rest) old.history =
    λ told h. popped left faults told old.fixed.rules ends c.loop-next.begun.items next rest old.history c.in-Some.ensures.items (c.loop-next.invariant.so_far told h) in
    let read : (told : ℕ → Option (List ℕ)) → Start told → IsNextRead left faults told next.header ends c.read_next.new.ends.items old c.read_next.new.board false =
    λ told h. c.if-not-read_next.ensures.next told ((so_far told h).others.0) in
    λ told h. cut_next left faults told ends c.read_next.new.ends.items next rest old c.read_next.new.board (so_far told h) (read told h)

pub returns-then-not-read_next-clause-promised : goal.returns-then-not-read_next-clause-promised
returns-then-not-read_next-clause-promised g c = λ none never.
    (promised_on g.S.Source.never_fails c.loop-next.ends.items c.loop-next.begun.items c.in-Some.next c.pop_front.new.self.items c.read_next.new.ends.items c.in-Some.ensures.items
    (c.loop-next.invariant.promised none never) c.read_next.ensures.promised).0

pub returns-then-not-read_next-clause-fixed : goal.returns-then-not-read_next-clause-fixed
returns-then-not-read_next-clause-fixed g c =
    let left = g.S.Source.left in
    let faults = g.S.Source.faults in
    let none : ℕ → Option (List ℕ) = λ _. None in
    let next = c.in-Some.next in
    let rest = c.pop_front.new.self.items in
    let ends = c.loop-next.ends.items in
    let old = c.loop-next.board in
    let Start : (ℕ → Option (List ℕ)) → Type 0 = λ told. AreReadSoFar left faults told c.args.board.now.fixed.rules c.args.ends.now.items c.args.begun.now.items c.args.board.now.history in
    let so_far : (told : ℕ → Option (List ℕ)) → Start told → AreReadSoFar left faults told old.fixed.rules ends (next ∷ rest) old.history =
    λ told h. popped left faults told old.fixed.rules ends c.loop-next.begun.items next rest old.history c.in-Some.ensures.items (c.loop-next.invariant.so_far told h) in
    let read : (told : ℕ → Option (List ℕ)) → Start told → IsNextRead left faults told next.header ends c.read_next.new.ends.items old c.read_next.new.board false =
    λ told h. c.if-not-read_next.ensures.next told ((so_far told h).others.0) in
    let n = read none c.requires.so_far in
    ap (λ b. b.fixed) n.board_is ∙ c.loop-next.invariant.fixed

pub returns-then-not-read_next-clause-headers : goal.returns-then-not-read_next-clause-headers
returns-then-not-read_next-clause-headers g c =
    let left = g.S.Source.left in
    let faults = g.S.Source.faults in
    let none : ℕ → Option (List ℕ) = λ _. None in
    let next = c.in-Some.next in
    let rest = c.pop_front.new.self.items in
    let ends = c.loop-next.ends.items in
    let old = c.loop-next.board in
    let Start : (ℕ → Option (List ℕ)) → Type 0 = λ told. AreReadSoFar left faults told c.args.board.now.fixed.rules c.args.ends.now.items c.args.begun.now.items c.args.board.now.history in
    let so_far : (told : ℕ → Option (List ℕ)) → Start told → AreReadSoFar left faults told old.fixed.rules ends (next ∷ rest) old.history =
    λ told h. popped left faults told old.fixed.rules ends c.loop-next.begun.items next rest old.history c.in-Some.ensures.items (c.loop-next.invariant.so_far told h) in
    let read : (told : ℕ → Option (List ℕ)) → Start told → IsNextRead left faults told next.header ends c.read_next.new.ends.items old c.read_next.new.board false =
    λ told h. c.if-not-read_next.ensures.next told ((so_far told h).others.0) in
    let n = read none c.requires.so_far in
    sym (same_headers left faults none ends c.read_next.new.ends.items n.end next rest n.ends_are n.header_is) ∙ ap (λ xs. headers_of ends xs) (sym c.in-Some.ensures.items) ∙ c.loop-next.invariant.headers

pub returns-then-not-read_next-clause-few : goal.returns-then-not-read_next-clause-few
returns-then-not-read_next-clause-few g c =
    let left = g.S.Source.left in
    let faults = g.S.Source.faults in
    let none : ℕ → Option (List ℕ) = λ _. None in
    let next = c.in-Some.next in
    let rest = c.pop_front.new.self.items in
    let ends = c.loop-next.ends.items in
    let old = c.loop-next.board in
    let Start : (ℕ → Option (List ℕ)) → Type 0 = λ told. AreReadSoFar left faults told c.args.board.now.fixed.rules c.args.ends.now.items c.args.begun.now.items c.args.board.now.history in
    let so_far : (told : ℕ → Option (List ℕ)) → Start told → AreReadSoFar left faults told old.fixed.rules ends (next ∷ rest) old.history =
    λ told h. popped left faults told old.fixed.rules ends c.loop-next.begun.items next rest old.history c.in-Some.ensures.items (c.loop-next.invariant.so_far told h) in
    let read : (told : ℕ → Option (List ℕ)) → Start told → IsNextRead left faults told next.header ends c.read_next.new.ends.items old c.read_next.new.board false =
    λ told h. c.if-not-read_next.ensures.next told ((so_far told h).others.0) in
    let n = read none c.requires.so_far in
    omega (arith, ap length n.ends_are, length-append ends (n.end ∷ []), c.loop-next.invariant.few, c.in-Some.ensures.len, ap length c.in-Some.ensures.items)

pub read_next-requires-clause-board : goal.read_next-requires-clause-board
read_next-requires-clause-board g c =
    let left = g.S.Source.left in
    let faults = g.S.Source.faults in
    let none : ℕ → Option (List ℕ) = λ _. None in
    let old = c.loop-next.board in
    ready_next left faults none c.loop-next.ends.items c.in-Some.next c.pop_front.new.self.items old
    (popped left faults none old.fixed.rules c.loop-next.ends.items c.loop-next.begun.items c.in-Some.next c.pop_front.new.self.items old.history c.in-Some.ensures.items
    (c.loop-next.invariant.so_far none c.requires.so_far))

pub read_next-requires-clause-reader : goal.read_next-requires-clause-reader
read_next-requires-clause-reader g c =
    let left = g.S.Source.left in
    let faults = g.S.Source.faults in
    let none : ℕ → Option (List ℕ) = λ _. None in
    let old = c.loop-next.board in
    (popped left faults none old.fixed.rules c.loop-next.ends.items c.loop-next.begun.items c.in-Some.next c.pop_front.new.self.items old.history c.in-Some.ensures.items
    (c.loop-next.invariant.so_far none c.requires.so_far)).others.0

pub returns-then-not-read_next-clause-counted : goal.returns-then-not-read_next-clause-counted
returns-then-not-read_next-clause-counted g c = λ counted fresh.
    (counted_on g.S.Source.faults c.loop-next.ends.items c.loop-next.begun.items c.in-Some.next c.pop_front.new.self.items c.read_next.new.ends.items c.in-Some.ensures.items
    (c.loop-next.invariant.counted counted fresh) c.read_next.ensures.counted).0
