use Rattle.std.proofs.Common.{◌≤◌, List, length, sym, ap, subst, arith}
use Rattle.std.specs.Prelude.{vec_capacity}
use Rattle.std.specs.Map.{lookup}
use Rattle.std.specs.Str.{bytes_eq}
use Rattle.std.specs.BTreeMap.{is_at}
use Rattle.std.specs.Ordering.{nat_cmp}
use Rattle.board_definitions.specs.declared.event.Entry.{Entry}
use Rattle.quote_board.specs.Kept.{IsSound}
use Rattle.quote_board.proofs.Start.{sound_start}
use Rattle.quote_board.proofs.board.Board.new.Goals as goal

pub invariant_of-result : goal.invariant_of-result
invariant_of-result g c =
    let P : List Entry → Type 0 = λ xs. IsSound (g.W.Law.allows c.args.law) c.rules_by_feed.result xs (vec_capacity c.in_ok-history.history)
    c.new.result c.new-2.result c.new-3.result (length c.args.rules.now) in
    let room : length c.args.rules.now ≤ vec_capacity c.in_ok-history.history = omega (arith, c.in_ok-history.ensures.exact) in
    subst P (sym c.in_ok-history.ensures.items)
    (sound_start (g.W.Law.allows c.args.law) c.args.rules.now c.rules_by_feed.result (vec_capacity c.in_ok-history.history) c.new.result c.new-2.result c.new-3.result
    c.rules_by_feed.ensures.rules c.requires.few c.rules_by_feed.ensures.eight room
    (λ m. ap (lookup (bytes_eq m)) c.new.ensures.empty) (λ place. ap (lookup (is_at (nat_cmp place))) c.new-2.ensures.empty) (λ k. ap (lookup (is_at (nat_cmp k))) c.new-3.ensures.empty)
    c.new-3.ensures.len)
