-- From the headers of all feeds to their bodies.
use Rattle.std.proofs.Common.{◌≡◌, ◌≢◌, ℕ, zero, suc, ◌+◌, ◌≤◌, List, [], ◌∷◌, ◌++◌, length, map, Option, Some, None, refl, sym, ap, ◌∙◌, subst, arith, append-nil, inl, inr}
use Rattle.std.specs.Prelude.{slice_get, All, IsTrue, take, option_map}
use Rattle.std.specs.List.{AllPairs}
use Rattle.std.proofs.Math.Seq.{take-append_seam}
use Rattle.scan_types.specs.declared.rule.VoidRule.{VoidRule}
use Rattle.feed_definitions.specs.declared.header.Header.{Header}
use Rattle.board_definitions.specs.declared.event.Entry.{Entry}
use Rattle.report_definitions.specs.Stops.{is_reported}
use Rattle.quote_board.specs.Answers.{AreRulesOf}
use Rattle.desk_opening.specs.declared.begun.Begun.{Begun}
use Rattle.desk_opening.specs.Headers.{AreHeadersRead}
use Rattle.desk_opening.specs.Twins.{books_of}
use Rattle.desk_opening.proofs.TwinEnds.{HaveHeaders, different_ends}
use Rattle.desk_definitions.specs.declared.feed_end.FeedEnd.{FeedEnd}
use Rattle.desk_definitions.specs.Reads.{FeedRead, AreReadSo, rule_at}
use Rattle.desk_definitions.specs.History.{bodies_of}
use Rattle.desk_definitions.specs.Course.{Outcome, HaveBodies, StopsInBodies}
use Rattle.desk_once.specs.Bodies.{AreCutAt, AreReadSoFar, headers_of}
use Rattle.desk_once.proofs.SoFar.{read_more, same_count, item_behind}

some_some : (a b : Header) → Some (Some a) ≡ Some (Some b) → a ≡ b
some_some a b e = cc

-- the rule of a header, by the number of its feed
begun_rule : {S : Type 0} (begun : List (Begun S)) (feed : ℕ) (header : Header) → slice_get (map (λ (b : Begun S). Some b.header) begun) feed ≡ Some (Some header)
    → slice_get (map (λ (h : Header). h.rule) (map (λ (b : Begun S). b.header) begun)) feed ≡ Some header.rule
begun_rule [] feed header e = absurd (cc)
begun_rule (b ∷ begun) zero header e = ap (λ (h : Header). Some h.rule) (some_some b.header header e)
begun_rule (b ∷ begun) (suc feed) header e = begun_rule begun feed header e

pub starts : {S : Type 0} (left : S → Option (List ℕ)) (faults : S → ℕ) (told : ℕ → Option (List ℕ)) (begun : List (Begun S)) (headers : List Header) (rules : List (Option VoidRule))
    → AreHeadersRead left told 0 begun → headers ≡ map (λ (b : Begun S). b.header) begun → AreRulesOf (map (λ (h : Header). h.rule) headers) rules → AreReadSoFar left faults told rules [] begun []
starts left faults told begun headers rules read are given =
    record {
      reads = [];
      read = tt;
      headers = λ k d less. absurd (omega (arith, less));
      stopped = λ k d less. absurd (omega (arith, less));
      history_is = refl;
      others = read;
      rules_are = λ feed header is. given feed ∙ ap (λ hs. slice_get (map (λ (h : Header). h.rule) hs) feed) are ∙ begun_rule begun feed header is;
    }

cons_head : (a b : Option Header) (xs ys : List (Option Header)) → a ∷ xs ≡ b ∷ ys → a ≡ b
cons_head a b xs ys e = cc

cons_tail : (a b : Option Header) (xs ys : List (Option Header)) → a ∷ xs ≡ b ∷ ys → xs ≡ ys
cons_tail a b xs ys e = cc

pub have_ends : {S : Type 0} (ends : List (FeedEnd S)) (begun : List (Begun S)) → map (λ (end : FeedEnd S). end.header) ends ≡ map (λ (b : Begun S). Some b.header) begun → HaveHeaders ends (map (λ (b : Begun S). b.header) begun)
have_ends [] [] e = tt
have_ends [] (b ∷ begun) e = absurd (cc)
have_ends (end ∷ ends) [] e = absurd (cc)
have_ends (end ∷ ends) (b ∷ begun) e =
    let xs = map (λ (end : FeedEnd _). end.header) ends in
    let ys = map (λ (b : Begun _). Some b.header) begun in
    (cons_head end.header (Some b.header) xs ys e, have_ends ends begun (cons_tail end.header (Some b.header) xs ys e))

-- the rule of a feed that was left with its header
rules_there : {S : Type 0} (ends : List (FeedEnd S)) (headers : List Header) (feed : ℕ) → HaveHeaders ends headers → slice_get (map (λ (h : Header). h.rule) headers) feed ≡ rule_at ends feed
rules_there [] [] feed have = refl
rules_there [] (header ∷ headers) feed have = absurd have
rules_there (end ∷ ends) [] feed have = absurd have
rules_there (end ∷ ends) (header ∷ headers) zero have = ap (λ (o : Option Header). option_map (λ (h : Header). h.rule) o) (sym have.0)
rules_there (end ∷ ends) (header ∷ headers) (suc feed) have = rules_there ends headers feed have.1

pub whole_bodies : {S : Type 0} (left : S → Option (List ℕ)) (faults : S → ℕ) (told : ℕ → Option (List ℕ)) (ends : List (FeedEnd S)) (begun : List (Begun S)) (headers : List Header)
    (rules : List (Option VoidRule)) (history : List Entry) → headers ≡ map (λ (b : Begun S). b.header) begun → AreRulesOf (map (λ (h : Header). h.rule) headers) rules
    → AllPairs (λ (book other : List ℕ). book ≢ other) (books_of headers) → headers_of ends [] ≡ headers_of [] begun → (s : AreReadSoFar left faults told rules ends [] history)
    → HaveBodies left faults told (length ends) ends s.reads rules
whole_bodies left faults told ends begun headers rules history are given differ same s =
    let P : List Header → Type 0 = λ hs. HaveHeaders ends hs in
    let have : HaveHeaders ends headers = subst P (sym are) (have_ends ends begun (sym (append-nil (map (λ (end : FeedEnd _). end.header) ends)) ∙ same)) in
    record {
      read = s.read;
      all_named = refl;
      headers = s.headers;
      different = different_ends ends headers have differ;
      stopped = s.stopped;
      rules_are = λ feed. given feed ∙ rules_there ends headers feed have;
    }

pub cut_bodies : {S : Type 0} (left : S → Option (List ℕ)) (faults : S → ℕ) (told : ℕ → Option (List ℕ)) (names : ℕ) (out : Outcome S) (begun : List (Begun S)) → length out.ends ≤ names
    → AreCutAt left faults told out.ends begun out.history → StopsInBodies left faults told names out
cut_bodies left faults told names out begun few c =
    let P : List (FeedEnd _) → Type 0 = λ ends. AreReadSo left faults told 0 ends (c.reads ++ c.next ∷ []) in
    let R : List (FeedEnd _) → Type 0 = λ ends. All (λ end. IsTrue (is_reported end.stop)) ends in
    let zero_plus : length c.front ≡ 0 + length c.front = omega arith in
    let L : ℕ → Type 0 = λ k. Rattle.desk_definitions.specs.Ends.IsReadSo left faults (told k) k c.last c.next.text c.next.lines in
    let count : length c.reads ≡ length c.front = same_count left faults told 0 c.front c.reads c.read in
    let front_is : take (length c.front) out.ends ≡ c.front = ap (take (length c.front)) c.ends_are ∙ take-append_seam c.front (c.last ∷ []) in
    let reads_are : take (length c.front) (c.reads ++ c.next ∷ []) ≡ c.reads = ap (λ n. take n (c.reads ++ c.next ∷ [])) (sym count) ∙ take-append_seam c.reads (c.next ∷ []) in
    record {
      reads = c.reads ++ c.next ∷ [];
      read = subst P (sym c.ends_are) (read_more left faults told 0 c.front c.reads c.last c.next c.read (subst L zero_plus c.next_read));
      few = few;
      whole = length c.front;
      stopped = subst R (sym front_is) c.stopped;
      part = c.entries;
      history_is = c.history_is ∙ ap (λ xs. bodies_of 0 xs c.reads ++ c.entries) (sym front_is) ∙ ap (λ xs. bodies_of 0 (take (length c.front) out.ends) xs ++ c.entries) (sym reads_are);
      part_is = inr (c.next, item_behind c.reads c.next [] (length c.front) (sym count), c.cut);
    }

pub nothing_read : {S : Type 0} (left : S → Option (List ℕ)) (faults : S → ℕ) (told : ℕ → Option (List ℕ)) (names : ℕ) (out : Outcome S) → out.ends ≡ [] → out.history ≡ [] → StopsInBodies left faults told names out
nothing_read left faults told names out no_ends no_history =
    let P : List (FeedEnd _) → Type 0 = λ ends. AreReadSo left faults told 0 ends [] in
    record {
      reads = [];
      read = subst P (sym no_ends) tt;
      few = omega (arith, ap length no_ends);
      whole = 0;
      stopped = λ k d less. absurd (omega (arith, less));
      part = [];
      history_is = no_history;
      part_is = inl refl;
    }
