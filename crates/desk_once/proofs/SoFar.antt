-- One more feed among those that were read so far.
use Rattle.std.proofs.Common.{◌≡◌, ◌≢◌, ℕ, zero, suc, ◌+◌, ◌<◌, ◌≤◌, Bool, true, false, List, [], ◌∷◌, ◌++◌, length, map, Option, Some, None, refl, sym, ap, ap₂, ◌∙◌, subst, arith, append_assoc, length-append}
use Rattle.std.specs.Prelude.{All, IsSome, IsTrue, slice_get}
use Rattle.std.proofs.lemmas.List.{map-append}
use Rattle.std.proofs.lemmas.List.Elements.{All-push}
use Rattle.scan_types.specs.declared.rule.VoidRule.{VoidRule}
use Rattle.feed_definitions.specs.declared.header.Header.{Header}
use Rattle.feed_definitions.specs.Feed.{accepted_in}
use Rattle.board_definitions.specs.declared.event.Entry.{Entry}
use Rattle.report_definitions.specs.Stops.{is_reported}
use Rattle.quote_board.specs.Views.{BoardView}
use Rattle.feed_bodies.specs.Bodies.{IsReadyFor}
use Rattle.desk_opening.specs.declared.begun.Begun.{Begun}
use Rattle.desk_opening.specs.Headers.{AreHeadersRead}
use Rattle.desk_definitions.specs.declared.feed_end.FeedEnd.{FeedEnd}
use Rattle.desk_definitions.specs.Ends.{IsReadSo}
use Rattle.desk_definitions.specs.Lines.{body_of}
use Rattle.desk_definitions.specs.Reads.{FeedRead, AreReadSo}
use Rattle.desk_definitions.specs.History.{bodies_of}
use Rattle.desk_once.specs.Bodies.{AreCutAt, AreReadSoFar, HasRules, IsNextRead, headers_of}
use Rattle.desk_once.proofs.Histories.{bodies_more, no_lines, not_ended}

some_header : (o : Option Header) (header : Header) → o ≡ Some header → IsSome o
some_header None header e = absurd (cc)
some_header (Some x) header e = refl

-- the item behind some
pub item_behind : {X : Type 0} (xs : List X) (x : X) (ys : List X) (n : ℕ) → n ≡ length xs → slice_get (xs ++ x ∷ ys) n ≡ Some x
item_behind [] x ys zero e = refl
item_behind [] x ys (suc n) e = absurd (omega (arith, e))
item_behind (y ∷ xs) x ys zero e = absurd (omega (arith, e))
item_behind (y ∷ xs) x ys (suc n) e = item_behind xs x ys n (omega (arith, e))

length-map : {X Y : Type 0} (f : X → Y) (xs : List X) → length (map f xs) ≡ length xs
length-map f [] = refl
length-map f (x ∷ xs) = ap suc (length-map f xs)

module _ {S : Type 0} (left : S → Option (List ℕ)) (faults : S → ℕ) (told : ℕ → Option (List ℕ)) where
  pub same_count : (number : ℕ) (ends : List (FeedEnd S)) (reads : List FeedRead) → AreReadSo left faults told number ends reads → length reads ≡ length ends
  same_count number [] [] h = refl
  same_count number [] (read ∷ reads) h = absurd h
  same_count number (end ∷ ends) [] h = absurd h
  same_count number (end ∷ ends) (read ∷ reads) h = ap suc (same_count (number + 1) ends reads h.1)

  pub read_more : (number : ℕ) (ends : List (FeedEnd S)) (reads : List FeedRead) (end : FeedEnd S) (read : FeedRead) → AreReadSo left faults told number ends reads
      → IsReadSo left faults (told (number + length ends)) (number + length ends) end read.text read.lines → AreReadSo left faults told number (ends ++ end ∷ []) (reads ++ read ∷ [])
  read_more number [] [] end read h last =
      let e : number + 0 ≡ number = omega arith in
      let P : ℕ → Type 0 = λ k. IsReadSo left faults (told k) k end read.text read.lines in
      (subst P e last, tt)
  read_more number [] (other ∷ reads) end read h last = absurd h
  read_more number (first ∷ ends) [] end read h last = absurd h
  read_more number (first ∷ ends) (other ∷ reads) end read h last =
      let e : number + suc (length ends) ≡ number + 1 + length ends = omega arith in
      let P : ℕ → Type 0 = λ k. IsReadSo left faults (told k) k end read.text read.lines in
      (h.0, read_more (number + 1) ends reads end read h.1 (subst P e last))

  -- the board is ready for the next feed
  pub ready_next : {W : Type 0} (ends : List (FeedEnd S)) (next : Begun S) (rest : List (Begun S)) (board : BoardView W) → AreReadSoFar left faults told board.fixed.rules ends (next ∷ rest) board.history
      → IsReadyFor board (length ends) next.header
  ready_next ends next rest board h =
      let P : List Entry → Type 0 = λ history. Rattle.board_definitions.specs.Pins.has_ended history (length ends) ≡ false in
      let Q : List Entry → Type 0 = λ history. Rattle.feed_board_laws.specs.Bodies.lines_in history (length ends) ≡ [] in
      record {
        rule = h.rules_are (length ends) next.header (item_behind (map (λ (end : FeedEnd S). end.header) ends) (Some next.header) (map (λ (b : Begun S). Some b.header) rest) (length ends)
            (sym (length-map (λ (end : FeedEnd S). end.header) ends)));
        running = subst P (sym h.history_is) (not_ended 0 ends h.reads (length ends) (omega arith));
        no_lines = subst Q (sym h.history_is) (no_lines 0 ends h.reads (length ends) (omega arith));
      }

  pub popped : (rules : List (Option VoidRule)) (ends : List (FeedEnd S)) (begun : List (Begun S)) (next : Begun S) (rest : List (Begun S)) (history : List Entry) → begun ≡ next ∷ rest
      → AreReadSoFar left faults told rules ends begun history → AreReadSoFar left faults told rules ends (next ∷ rest) history
  popped rules ends begun next rest history is h =
      let P : List (Begun S) → Type 0 = λ xs. AreReadSoFar left faults told rules ends xs history in
      subst P is h

  pub same_headers : (ends after : List (FeedEnd S)) (end : FeedEnd S) (next : Begun S) (rest : List (Begun S)) → after ≡ ends ++ end ∷ [] → end.header ≡ Some next.header → headers_of ends (next ∷ rest) ≡ headers_of after rest
  same_headers ends after end next rest is header =
      let f : FeedEnd S → Option Header = λ x. x.header in
      let others : List (Option Header) = map (λ (b : Begun S). Some b.header) rest in
      ap (λ o. map f ends ++ o ∷ others) (sym header) ∙ sym (append_assoc (map f ends) (end.header ∷ []) others) ∙ ap (λ xs. xs ++ others) (sym (map-append f ends (end ∷ [])))
      ∙ ap (λ xs. map f xs ++ others) (sym is)

  others_on : (ends after : List (FeedEnd S)) (end : FeedEnd S) (rest : List (Begun S)) → after ≡ ends ++ end ∷ [] → AreHeadersRead left told (length ends + 1) rest → AreHeadersRead left told (length after) rest
  others_on ends after end rest is h =
      let e : length ends + 1 ≡ length after = omega (arith, ap length is, length-append ends (end ∷ [])) in
      let P : ℕ → Type 0 = λ k. AreHeadersRead left told k rest in
      subst P e h

  module _ {W : Type 0} (ends after : List (FeedEnd S)) (next : Begun S) (rest : List (Begun S)) (old new : BoardView W) where
    pub so_far_next : AreReadSoFar left faults told old.fixed.rules ends (next ∷ rest) old.history → IsNextRead left faults told next.header ends after old new true
        → AreReadSoFar left faults told old.fixed.rules after rest new.history
    so_far_next s n =
        let whole = n.when_whole refl in
        let P : List (FeedEnd S) → Type 0 = λ xs. AreReadSo left faults told 0 xs (s.reads ++ n.read ∷ []) in
        let Q : List (FeedEnd S) → Type 0 = λ xs. All (λ end. IsSome end.header) xs in
        let R : List (FeedEnd S) → Type 0 = λ xs. All (λ end. IsTrue (is_reported end.stop)) xs in
        let H : List (Option Header) → Type 0 = λ xs. HasRules old.fixed.rules xs in
        let zero_plus : length ends ≡ 0 + length ends = omega arith in
        let L : ℕ → Type 0 = λ k. IsReadSo left faults (told k) k n.end n.read.text n.read.lines in
        record {
          reads = s.reads ++ n.read ∷ [];
          read = subst P (sym n.ends_are) (read_more 0 ends s.reads n.end n.read s.read (subst L zero_plus n.read_is));
          headers = subst Q (sym n.ends_are) (All-push (λ (end : FeedEnd S). IsSome end.header) ends n.end s.headers (some_header n.end.header next.header n.header_is));
          stopped = subst R (sym n.ends_are) (All-push (λ (end : FeedEnd S). IsTrue (is_reported end.stop)) ends n.end s.stopped whole.0);
          history_is = ap (λ (b : BoardView W). b.history) n.board_is ∙ ap₂ (λ (a b : List Entry). a ++ b) s.history_is whole.1
              ∙ ap (λ k. bodies_of 0 ends s.reads ++ body_of k (accepted_in n.read.lines) n.end.stop) zero_plus
              ∙ sym (bodies_more 0 ends s.reads n.end n.read (same_count 0 ends s.reads s.read)) ∙ ap (λ xs. bodies_of 0 xs (s.reads ++ n.read ∷ [])) (sym n.ends_are);
          others = others_on ends after n.end rest n.ends_are s.others.1;
          rules_are = subst H (same_headers ends after n.end next rest n.ends_are n.header_is) s.rules_are;
        }

    pub cut_next : AreReadSoFar left faults told old.fixed.rules ends (next ∷ rest) old.history → IsNextRead left faults told next.header ends after old new false → AreCutAt left faults told after rest new.history
    cut_next s n = record {
      front = ends;
      last = n.end;
      ends_are = n.ends_are;
      reads = s.reads;
      read = s.read;
      stopped = s.stopped;
      next = n.read;
      next_read = n.read_is;
      entries = n.entries;
      cut = n.when_cut refl;
      history_is = ap (λ (b : BoardView W). b.history) n.board_is ∙ ap (λ xs. xs ++ n.entries) s.history_is;
      others = others_on ends after n.end rest n.ends_are s.others.1;
    }
