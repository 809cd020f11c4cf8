-- What the first step of a feed says of its header.
use Rattle.std.proofs.Common.{◌≡◌, ℕ, ◌+◌, ◌<◌, Bool, true, false, not, List, [], ◌∷◌, ◌++◌, take, Option, Some, None, refl, sym, ap, ◌∙◌, subst, arith}
use Rattle.std.specs.Prelude.{slice_get, if◌then◌else◌}
use Rattle.std.specs.Io.KnownBytes.{Consumes, IsAtEnd}
use Rattle.std.proofs.KnownBytes.{Consumes-nil}
use Rattle.desk_io.specs.Faults.{Rose}
use Rattle.feed_definitions.specs.declared.cause.Refusal.{Refusal}
use Rattle.feed_definitions.specs.declared.header.Header.{Header}
use Rattle.feed_definitions.specs.declared.step.Step.{Step}
use Rattle.feed_definitions.specs.declared.step.Step.TheVariants as step
use Rattle.feed_definitions.specs.Feed.{steps}
use Rattle.feed_definitions.specs.Answers.{ends_feed}
use Rattle.feed_lines.specs.Taking.{Takes}
use Rattle.feed_lines.specs.Reader.{ReaderView, its_steps, answered, is_of_line}
use Rattle.board_definitions.specs.declared.event.FeedStop.{FeedStop}
use Rattle.board_definitions.specs.declared.event.FeedStop.TheVariants as stops
use Rattle.desk_definitions.specs.declared.feed_end.FeedEnd.{FeedEnd}
use Rattle.desk_definitions.specs.Opening.{IsOpened}
use Rattle.desk_definitions.specs.Ends.{IsStopOf, AreKept, refused_in}
use Rattle.desk_opening.specs.declared.begun.HeaderStop.TheVariants.{ReadFault, BadHeader, NoMemory}
use Rattle.desk_opening.specs.Headers.{IsHeaderRead, HasNone}
use Rattle.desk_opening.proofs.FirstSteps.{IsFirst, first_step, no_header, fault_is, clear_of}

-- a reader before its first step
abbrev pub fresh : {S : Type 0} → ℕ → S → ReaderView S
fresh feed source = record { feed = feed; taken = []; answers = 0; drained = false; ended = false; over = false; source = source }

-- what the first step says
pub record FirstStep {S : Type 0} (left : S → Option (List ℕ)) (source : S) (new : ReaderView S) (s : Step) : Type 0 where
  pub item : slice_get (its_steps new) 0 ≡ Some s
  pub answered_is : answered new ≡ s ∷ []
  pub last : ends_feed s ≡ true → its_steps new ≡ s ∷ []
  pub counted : new.answers ≡ 1
  pub ended : new.ended ≡ not (is_of_line s)
  pub given : Consumes (left source) (left new.source) new.taken
  pub at_end : new.drained ≡ true → IsAtEnd (left new.source)

none_answered : {S : Type 0} (reader : ReaderView S) → reader.answers ≡ 0 → answered reader ≡ []
none_answered reader e = ap (λ n. take n (its_steps reader)) e

taken_from : (a b : Option (List ℕ)) (old new : List ℕ) → old ≡ [] → Takes a b old new → Consumes a b new
taken_from a b old new e takes = subst (Consumes a b) (sym (takes.appended ∙ ap (λ xs. xs ++ takes.more) e)) takes.given

pub first_of : {S : Type 0} (left : S → Option (List ℕ)) (feed : ℕ) (source : S) (old new : ReaderView S) (s : Step) → old ≡ fresh feed source
    → slice_get (its_steps new) old.answers ≡ Some s → answered new ≡ answered old ++ s ∷ [] → (ends_feed s ≡ true → its_steps new ≡ answered new) → new.answers ≡ old.answers + 1
    → new.ended ≡ not (is_of_line s) → Takes (left old.source) (left new.source) old.taken new.taken → (old.drained ≡ false → new.drained ≡ true → IsAtEnd (left new.source))
    → FirstStep left source new s
first_of {S} left feed source old new s is item given last counted ended takes at_end =
    let start : old.answers ≡ 0 = ap (λ (r : ReaderView S). r.answers) is in
    let first = given ∙ ap (λ xs. xs ++ s ∷ []) (none_answered old start) in
    record {
      item = ap (slice_get (its_steps new)) (sym start) ∙ item;
      answered_is = first;
      last = λ h. last h ∙ first;
      counted = counted ∙ ap (λ n. n + 1) start;
      ended = ended;
      given = subst (λ (o : S). Consumes (left o) (left new.source) new.taken) (ap (λ (r : ReaderView S). r.source) is) (taken_from (left old.source) (left new.source) old.taken new.taken (ap (λ (r : ReaderView S). r.taken) is) takes);
      at_end = at_end (ap (λ (r : ReaderView S). r.drained) is);
    }

-- the first step is one of three
pub is_first : {S : Type 0} (left : S → Option (List ℕ)) (source : S) (new : ReaderView S) (s : Step) → FirstStep left source new s → IsFirst (not new.drained) s
is_first left source new s first = first_step (not new.drained) new.taken s first.item

-- what the source had left when it was opened, and what it gave
given_since : {S : Type 0} (left : S → Option (List ℕ)) (faults : S → ℕ) (told : Option (List ℕ)) (source later : S) (bytes : List ℕ) → IsOpened left faults told source → Consumes (left source) (left later) bytes → Consumes told (left later) bytes
given_since left faults None source later bytes opened h = tt
given_since left faults (Some xs) source later bytes opened h = let P : Option (List ℕ) → Type 0 = λ x. Consumes x (left later) bytes in subst P opened.tells h

-- a feed without a header, as it was left
pub record IsLeft {S : Type 0} (end : FeedEnd S) (feed : ℕ) (stop : FeedStop) (reader : ReaderView S) : Type 0 where
  pub number : end.feed ≡ feed
  pub header : end.header ≡ None
  pub lines : end.lines + (if reader.ended then 1 else 0) ≡ reader.answers
  pub refusals : end.refusals ≡ []
  pub stop_is : end.stop ≡ stop
  pub source : end.source ≡ reader.source

lines_of : (n answers : ℕ) (ended b : Bool) → n + (if ended then 1 else 0) ≡ answers → ended ≡ b → n + (if b then 1 else 0) ≡ answers
lines_of n answers ended b h e = subst (λ t. n + (if t then 1 else 0) ≡ answers) e h

kept_none : (stop known : FeedStop) (refusals : List Refusal) (lines : List Step) → stop ≡ known → refusals ≡ [] → AreKept known [] (refused_in lines) → AreKept stop refusals (refused_in lines)
kept_none stop known refusals lines is none kept =
    let P : FeedStop → Type 0 = λ s. AreKept s refusals (refused_in lines) in
    let Q : List Refusal → Type 0 = λ rs. AreKept known rs (refused_in lines) in
    subst P (sym is) (subst Q (sym none) kept)

pub header_of_feed : {S : Type 0} (left : S → Option (List ℕ)) (faults : S → ℕ) (told : Option (List ℕ)) (source : S) (reader : ReaderView S) (end : FeedEnd S) (feed : ℕ) (refusal : Refusal)
    → IsOpened left faults told source → FirstStep left source reader (step.BadHeader refusal) → IsLeft end feed stops.BadHeader reader → HasNone left faults told feed (BadHeader refusal) end
header_of_feed {S} left faults told source reader end feed refusal opened first is =
    let without = no_header reader.drained (left reader.source) reader.taken refusal (first.last refl) first.at_end in
    let count : end.lines ≡ 1 = (let h = lines_of end.lines reader.answers reader.ended false is.lines first.ended in let k = first.counted in omega (arith, h, k)) in
    let P : FeedStop → Type 0 = λ s. IsStopOf s (left reader.source) (faults reader.source) reader.taken (step.BadHeader refusal ∷ []) in
    let Q : S → Type 0 = λ o. IsStopOf end.stop (left o) (faults o) reader.taken (step.BadHeader refusal ∷ []) in
    let R : S → Type 0 = λ o. Consumes told (left o) reader.taken in
    record {
      read = record { text = reader.taken; lines = step.BadHeader refusal ∷ [] };
      last_read = record {
        given = subst R (sym is.source) (given_since left faults told source reader.source reader.taken opened first.given);
        is_end = record {
          number_is = is.number;
          header = is.header;
          count = count;
          refusals = kept_none end.stop stops.BadHeader end.refusals (step.BadHeader refusal ∷ []) is.stop_is is.refusals refl;
          stop = subst Q (sym is.source) (subst P (sym is.stop_is) (refusal, refl, without.steps_are, without.clear));
        };
      };
      no_header = refl;
      stops_for = (is.stop_is, refl);
    }

pub fault_of_feed : {S : Type 0} (left : S → Option (List ℕ)) (faults : S → ℕ) (told : Option (List ℕ)) (source : S) (reader : ReaderView S) (end : FeedEnd S) (feed before : ℕ)
    → IsOpened left faults told source → FirstStep left source reader step.ReadFault → Rose before (faults reader.source) → IsLeft end feed stops.ReadFault reader → HasNone left faults told feed ReadFault end
fault_of_feed {S} left faults told source reader end feed before opened first rose is =
    let steps_are = fault_is reader.drained reader.taken (first.last refl) in
    let some : 0 < faults reader.source = omega (arith, rose) in
    let count : end.lines ≡ 0 = (let h = lines_of end.lines reader.answers reader.ended true is.lines first.ended in let k = first.counted in omega (arith, h, k)) in
    let P : FeedStop → Type 0 = λ s. IsStopOf s (left reader.source) (faults reader.source) reader.taken [] in
    let Q : S → Type 0 = λ o. IsStopOf end.stop (left o) (faults o) reader.taken [] in
    let R : S → Type 0 = λ o. Consumes told (left o) reader.taken in
    record {
      read = record { text = reader.taken; lines = [] };
      last_read = record {
        given = subst R (sym is.source) (given_since left faults told source reader.source reader.taken opened first.given);
        is_end = record {
          number_is = is.number;
          header = is.header;
          count = count;
          refusals = kept_none end.stop stops.ReadFault end.refusals [] is.stop_is is.refusals refl;
          stop = subst Q (sym is.source) (subst P (sym is.stop_is) (steps_are, some));
        };
      };
      no_header = refl;
      stops_for = is.stop_is;
    }

-- no memory was left for the first step
pub unread_feed : {S : Type 0} (left : S → Option (List ℕ)) (faults : S → ℕ) (told : Option (List ℕ)) (source : S) (reader : ReaderView S) (end : FeedEnd S) (feed : ℕ)
    → IsOpened left faults told source → reader ≡ fresh feed source → IsLeft end feed stops.NoMemory reader → HasNone left faults told feed NoMemory end
unread_feed {S} left faults told source reader end feed opened fresh_is is =
    let start : reader.answers ≡ 0 = ap (λ (r : ReaderView S). r.answers) fresh_is in
    let count : end.lines ≡ 0 = (let h = lines_of end.lines reader.answers reader.ended false is.lines (ap (λ (r : ReaderView S). r.ended) fresh_is) in omega (arith, h, start)) in
    let from : source ≡ end.source = sym (is.source ∙ ap (λ (r : ReaderView S). r.source) fresh_is) in
    let P : FeedStop → Type 0 = λ s. IsStopOf s (left end.source) (faults end.source) [] [] in
    let R : S → Type 0 = λ o. Consumes told (left o) [] in
    record {
      read = record { text = []; lines = [] };
      last_read = record {
        given = subst R from (given_since left faults told source source [] opened (Consumes-nil (left source)));
        is_end = record {
          number_is = is.number;
          header = is.header;
          count = count;
          refusals = kept_none end.stop stops.NoMemory end.refusals [] is.stop_is is.refusals ([], refl);
          stop = subst P (sym is.stop_is) (false, steps false [], refl);
        };
      };
      no_header = refl;
      stops_for = is.stop_is;
    }

pub header_read : {S : Type 0} (left : S → Option (List ℕ)) (faults : S → ℕ) (told : Option (List ℕ)) (source : S) (reader : ReaderView S) (feed : ℕ) (header : Header)
    → IsOpened left faults told source → FirstStep left source reader (step.Header header) → reader.feed ≡ feed → reader.over ≡ false → IsHeaderRead left told feed header reader
header_read left faults told source reader feed header opened first number goes_on = record {
  feed_is = number;
  answered_is = first.answered_is;
  one_answer = first.counted;
  not_ended = first.ended;
  not_over = goes_on;
  at_end = first.at_end;
  given = given_since left faults told source reader.source reader.taken opened first.given;
  clear = clear_of reader.drained (left reader.source) reader.taken (step.Header header) first.item (λ e. cc) first.at_end;
}
