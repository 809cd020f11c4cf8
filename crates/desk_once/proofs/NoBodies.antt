-- Runs of which no body is read.
use Rattle.std.proofs.Common.{◌≡◌, ℕ, suc, ◌+◌, ◌≤◌, List, [], ◌∷◌, ◌++◌, length, map, Option, Some, None, refl, sym, ap, ◌∙◌, subst, arith, length-append, inl, inr}
use Rattle.std.specs.Io.KnownBytes.{Keeps}
use Rattle.feed_definitions.specs.declared.header.Header.{Header}
use Rattle.board_definitions.specs.declared.event.Entry.{Entry}
use Rattle.board_definitions.specs.declared.event.FeedStop.{FeedStop}
use Rattle.desk_definitions.specs.declared.feed_end.FeedEnd.{FeedEnd}
use Rattle.desk_definitions.specs.declared.status.TheConstants.{NOT_READ, BAD_HEADER, WANT_OF_MEMORY}
use Rattle.desk_definitions.specs.Texts.{cannot_be_read, is_no_header, have_one_name}
use Rattle.desk_definitions.specs.Seen.{Due, IsWritten, SinkSeen, sink_seen}
use Rattle.desk_definitions.specs.Reads.{AreBegun}
use Rattle.desk_definitions.specs.Course.{IsDueForHeader, StopsInBodies, WritesNothing}
use Rattle.desk_opening.specs.declared.begun.Begun.{Begun}
use Rattle.desk_opening.specs.declared.begun.HeaderStop.{HeaderStop}
use Rattle.desk_opening.specs.declared.begun.HeaderStop.TheVariants.{ReadFault, BadHeader, NoMemory}
use Rattle.desk_opening.specs.Headers.{StopsSo, begun_ends, begun_read}
use Rattle.desk_opening.specs.Twins.{AreFirstTwinBooks, books_of}
use Rattle.desk_opening.proofs.TwinEnds.{HaveHeaders, begun_have, twins_of_ends}
use Rattle.desk_once.specs.Headless.{IsSaidOf}
use Rattle.desk_once.specs.Outcomes.{RunsSo}

keeps_itself : (o : Option (List ℕ)) → Keeps o o
keeps_itself None = tt
keeps_itself (Some xs) = refl

-- a sink that was not touched
pub untouched : {K : Type 0} (written : K → Option (List ℕ)) (faults : K → ℕ) (sink : K) → WritesNothing (sink_seen written faults sink sink)
untouched written faults sink = record { kept = keeps_itself (written sink); no_fault = refl }

-- the text that was written is the one that is due
pub written_as : (status due : ℕ) (text other : List ℕ) (sink : SinkSeen) → text ≡ other → IsWritten (record { status = due; text = text }) status sink → IsWritten (record { status = due; text = other }) status sink
written_as status due text other sink same h =
    let P : List ℕ → Type 0 = λ t. IsWritten (record { status = due; text = t }) status sink in
    subst P same h

-- the same for what is said of a stop
pub said_as : (stop other : HeaderStop) (number status : ℕ) (sink : SinkSeen) → stop ≡ other → IsSaidOf other number status sink → IsSaidOf stop number status sink
said_as stop other number status sink same h =
    let P : HeaderStop → Type 0 = λ s. IsSaidOf s number status sink in
    subst P (sym same) h

before_last : {A : Type 0} (front : List A) (last : A) (ends : List A) (number : ℕ) → (1 ≤ length ends → number + 1 ≡ length ends) → ends ≡ front ++ last ∷ [] → number ≡ length front
before_last front last ends number counted are =
    let count = ap length are ∙ length-append front (last ∷ []) in
    omega (arith, count, counted (omega (arith, count)))

count_ends : {S : Type 0} (number : ℕ) (begun : List (Begun S)) → length (begun_ends number begun) ≡ length begun
count_ends number [] = refl
count_ends number (first ∷ others) = ap suc (count_ends (number + 1) others)

module _ {S : Type 0} (left : S → Option (List ℕ)) (faults : S → ℕ) (told : ℕ → Option (List ℕ)) (names budget : ℕ) (ends : List (FeedEnd S)) (history : List Entry) (none : history ≡ []) (status : ℕ) (sink : SinkSeen) where
  -- the last of the feeds has no header
  pub unheaded : (stop : HeaderStop) (number : ℕ) → (1 ≤ length ends → number + 1 ≡ length ends) → IsSaidOf stop number status sink → StopsSo left faults told names stop ends
      → RunsSo left faults told names budget (record { ends = ends; history = history }) status sink
  unheaded ReadFault number counted said s =
      let due : Due = record { status = NOT_READ; text = cannot_be_read number } in
      let place = before_last s.front s.last ends number counted s.begun_are in
      let P : FeedStop → Type 0 = λ stop. IsDueForHeader stop (length s.front) s.none.read due in
      inl (
        due,
        inl (record {
          front = s.front;
          last = s.last;
          begun_are = s.begun_are;
          is_named = s.is_named;
          reads = s.reads;
          begun = s.begun;
          read = s.none.read;
          last_read = s.none.last_read;
          no_header = s.none.no_header;
          no_history = none;
          due_is = subst P (sym s.none.stops_for) (ap (λ (n : ℕ). record { status = NOT_READ; text = cannot_be_read n }) place);
        }),
        said,
      )
  unheaded (BadHeader refusal) number counted said s =
      let due : Due = record { status = BAD_HEADER; text = is_no_header number refusal.place.column refusal.cause } in
      let place = before_last s.front s.last ends number counted s.begun_are in
      let P : FeedStop → Type 0 = λ stop. IsDueForHeader stop (length s.front) s.none.read due in
      inl (
        due,
        inl (record {
          front = s.front;
          last = s.last;
          begun_are = s.begun_are;
          is_named = s.is_named;
          reads = s.reads;
          begun = s.begun;
          read = s.none.read;
          last_read = s.none.last_read;
          no_header = s.none.no_header;
          no_history = none;
          due_is = subst P (sym s.none.stops_for.0)
              (refusal, s.none.stops_for.1, ap (λ (n : ℕ). record { status = BAD_HEADER; text = is_no_header n refusal.place.column refusal.cause }) place);
        }),
        said,
      )
  unheaded NoMemory number counted said s =
      inr (
        said.0,
        said.1,
        inl (record {
          reads = s.reads;
          read = s.read;
          few = s.few;
          whole = 0;
          stopped = λ i d h. absurd (omega (arith, h));
          part = [];
          history_is = none;
          part_is = inl refl;
        }),
      )

  -- two of the feeds are of one book
  pub of_one_book : (begun : List (Begun S)) (earlier later : ℕ) → ends ≡ begun_ends 0 begun → AreBegun left faults told 0 ends (map begun_read begun) → length begun ≡ names
      → AreFirstTwinBooks (books_of (map (λ (b : Begun S). b.header) begun)) earlier later → IsWritten (record { status = BAD_HEADER; text = have_one_name earlier later }) status sink
      → RunsSo left faults told names budget (record { ends = ends; history = history }) status sink
  of_one_book begun earlier later are read named twins written =
      let headers : List Header = map (λ (b : Begun S). b.header) begun in
      let P : List (FeedEnd S) → Type 0 = λ xs. HaveHeaders xs headers in
      inl (
        record { status = BAD_HEADER; text = have_one_name earlier later },
        inr (inl (record {
          reads = map begun_read begun;
          begun = read;
          all_named = ap length are ∙ count_ends 0 begun ∙ named;
          earlier = earlier;
          later = later;
          twins = twins_of_ends ends headers earlier later (subst P (sym are) (begun_have 0 begun)) twins;
          no_history = none;
          due_is = refl;
        })),
        written,
      )

  -- no memory was left for the ends of the feeds
  pub without_ends : ends ≡ [] → status ≡ WANT_OF_MEMORY → WritesNothing sink → RunsSo left faults told names budget (record { ends = ends; history = history }) status sink
  without_ends no_ends is nothing =
      let Q : List (FeedEnd S) → Type 0 = λ xs. StopsInBodies left faults told names (record { ends = xs; history = history }) in
      let cut : Q [] = record {
        reads = [];
        read = tt;
        few = omega arith;
        whole = 0;
        stopped = λ i d h. absurd (omega (arith, h));
        part = [];
        history_is = none;
        part_is = inl refl;
      } in
      inr (is, nothing, inl (subst Q (sym no_ends) cut))
