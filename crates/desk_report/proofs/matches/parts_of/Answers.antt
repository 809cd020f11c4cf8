use Rattle.std.proofs.Common.{ℕ, ◌≡◌, ◌≤◌, ◌<◌, List, [], ◌∷◌, ◌++◌, length, map, Some, subst, arith, rules}
use Rattle.std.specs.Prelude.{Option, IfSome, IsSome, option_and_then, vec_len, vec_capacity}
use Rattle.std.specs.Str.{bytes_eq}
use Rattle.indexmap.specs.IndexMap.{get}
use Rattle.std.specs.List.{AllZip}
use Rattle.std.specs.Map.Iter.{deref_pair}
use Rattle.std.specs.Cmp.Lexicographic.{nat_list_eq_equiv}
use Rattle.std.proofs.lemmas.List.{map-append, length-map}
use Rattle.std.proofs.lemmas.Grind.{common_steps}
use Rattle.desk_report.proofs.Zips.{AllZip-push_pair, length-all_zip}
use Rattle.std.proofs.lemmas.Map.Iter.{hash_map_turn, iter_end}
use Rattle.report_definitions.specs.declared.match_part.MatchPart.{MatchPart}
use Rattle.desk_report.specs.declared.marks.Mark.{Mark}
use Rattle.desk_report.specs.Judged.{filed_at, IsPart}
use Rattle.desk_report.proofs.matches.parts_of.Goals as goal

pub part_of-requires : goal.part_of-requires
part_of-requires g c =
    let turn = hash_map_turn deref_pair c.loop-match_name.yielded c.into_iter-match_name-iterator.result c.loop-match_name.match_name-iterator c.next.new.self c.next.result
    (c.in-Some.match_name, c.in-Some.mark) c.loop-match_name.yielded_by c.in-Some.is c.next.ensures.steps nat_list_eq_equiv c.args.marks.now (search rules) c.len.ensures.unique in
    let found : get bytes_eq c.args.marks.now c.in-Some.match_name.now ≡ Some c.in-Some.mark.now = turn.1 in
    subst (λ (o : Option Mark). IfSome o (λ mark. IsSome (option_and_then (filed_at c.args.board.now.history) mark.filed))) found (c.requires c.in-Some.match_name.now)

pub prove-unreachable-requires : goal.prove-unreachable-requires
prove-unreachable-requires g c =
    let turn = hash_map_turn deref_pair c.loop-match_name.yielded c.into_iter-match_name-iterator.result c.loop-match_name.match_name-iterator c.next.new.self c.next.result
    (c.in-Some.match_name, c.in-Some.mark) c.loop-match_name.yielded_by c.in-Some.is c.next.ensures.steps nat_list_eq_equiv c.args.marks.now (search rules) c.len.ensures.unique in
    let more : length c.loop-match_name.yielded < length c.args.marks.now.entries = turn.0 in
    let same : length c.loop-match_name.parts.items ≡ length (map deref_pair c.loop-match_name.yielded) =
    length-all_zip (λ (entry : List ℕ × Mark) (part : MatchPart). IsPart c.args.board.now.fixed.rules c.args.board.now.history entry.0 entry.1 part) (map deref_pair c.loop-match_name.yielded) c.loop-match_name.parts.items c.loop-match_name.invariant.parts in
    let room : length c.args.marks.now.entries ≤ vec_capacity c.loop-match_name.parts = c.loop-match_name.invariant.room in
    let below : vec_len c.loop-match_name.parts < vec_capacity c.loop-match_name.parts =
    omega (arith, c.loop-match_name.parts.ok, more, same, length-map c.loop-match_name.yielded deref_pair, room) in
    grind (arith, common_steps, c.push-pushed.ensures.succeeds below)

pub loop-match_name-preserved : goal.loop-match_name-preserved
loop-match_name-preserved g c = record {
  parts =
      let pushed : c.push-pushed.new.self.items ≡ c.loop-match_name.parts.items ++ c.in_ok-part.part ∷ [] = search rules in
      rw (map-append deref_pair c.loop-match_name.yielded ((c.in-Some.match_name, c.in-Some.mark) ∷ []), pushed)
      (AllZip-push_pair (λ (entry : List ℕ × Mark) (part : MatchPart). IsPart c.args.board.now.fixed.rules c.args.board.now.history entry.0 entry.1 part) (map deref_pair c.loop-match_name.yielded) c.loop-match_name.parts.items
      (c.in-Some.match_name.now, c.in-Some.mark.now) c.in_ok-part.part c.loop-match_name.invariant.parts c.in_ok-part.ensures);
  room = let room = c.loop-match_name.invariant.room in let grown = c.push-pushed.ensures.capacity in omega arith;
}

pub returns-clause-parts : goal.returns-clause-parts
returns-clause-parts g c =
    let whole : map deref_pair c.loop-match_name.yielded ≡ c.args.marks.now.entries = search (rules, iter_end) in
    subst (λ (es : List (List ℕ × Mark)). AllZip (λ (entry : List ℕ × Mark) (part : MatchPart). IsPart c.args.board.now.fixed.rules c.args.board.now.history entry.0 entry.1 part) es c.loop-match_name.parts.items)
    whole c.loop-match_name.invariant.parts
