-- The feeds whose headers were read, one after another.
use Rattle.std.proofs.Common.{◌≡◌, ◌≢◌, All, ℕ, suc, ◌+◌, ◌<◌, not, List, [], ◌∷◌, ◌++◌, length, map, drop, Option, refl, sym, ap, ◌∙◌, subst, arith}
use Rattle.std.specs.Prelude.{Result, Ok, Err, IfOk}
use Rattle.std.proofs.lemmas.List.{length-append}
use Rattle.std.proofs.lemmas.List.Elements.{All-head, All-tail, All-cons, All-nil}
use Rattle.board_definitions.specs.declared.event.FeedStop.TheVariants as feed_stops
use Rattle.std.proofs.Math.ListN.{take-append-drop}
use Rattle.feed_definitions.specs.declared.step.Step.TheVariants as step
use Rattle.feed_lines.specs.Reader.{its_steps}
use Rattle.desk_definitions.specs.declared.feed_end.FeedEnd.{FeedEnd}
use Rattle.desk_definitions.specs.Ends.{IsReadSo}
use Rattle.desk_definitions.specs.Reads.{FeedRead, AreBegun, AreReadSo}
use Rattle.desk_opening.specs.declared.begun.Begun.{Begun}
use Rattle.desk_opening.specs.declared.begun.HeaderStop.{HeaderStop}
use Rattle.desk_opening.specs.declared.begun.HeaderStop.TheVariants.{ReadFault, BadHeader, NoMemory}
use Rattle.desk_opening.specs.Headers.{IsHeaderRead, AreHeadersRead, HasNone, StopsAtLast, StopsBefore, StopsSo, begun_end, begun_ends, begun_read}

-- so much was read of a feed whose header was read
read_so : {S : Type 0} (left : S → Option (List ℕ)) (faults : S → ℕ) (told : Option (List ℕ)) (number : ℕ) (begun : Begun S) → IsHeaderRead left told number begun.header begun.reader
    → IsReadSo left faults told number (begun_end number begun) begun.reader.taken (step.Header begun.header ∷ [])
read_so left faults told number begun is =
    let reader = begun.reader in
    let whole = sym (take-append-drop reader.answers (its_steps reader)) ∙ ap (λ xs. xs ++ drop reader.answers (its_steps reader)) is.answered_is in
    record {
      given = is.given;
      is_end = record { number_is = refl; header = refl; count = refl; refusals = ([], refl); stop = (not reader.drained, drop reader.answers (its_steps reader), whole) };
    }

pub are_begun : {S : Type 0} (left : S → Option (List ℕ)) (faults : S → ℕ) (told : ℕ → Option (List ℕ)) (number : ℕ) (begun : List (Begun S)) → AreHeadersRead left told number begun
    → AreBegun left faults told number (begun_ends number begun) (map begun_read begun)
are_begun left faults told number [] h = tt
are_begun left faults told number (first ∷ others) h = (record { header = first.header; first = refl; so_far = read_so left faults (told number) number first h.0; not_failed = λ e. let f : feed_stops.NoMemory ≡ feed_stops.ReadFault = e in absurd (cc); clear = h.0.clear }, are_begun left faults told (number + 1) others h.1)

pub are_read_so : {S : Type 0} (left : S → Option (List ℕ)) (faults : S → ℕ) (told : ℕ → Option (List ℕ)) (number : ℕ) (begun : List (Begun S)) → AreHeadersRead left told number begun
    → AreReadSo left faults told number (begun_ends number begun) (map begun_read begun)
are_read_so left faults told number [] h = tt
are_read_so left faults told number (first ∷ others) h = (read_so left faults (told number) number first h.0, are_read_so left faults told (number + 1) others h.1)

-- if no source of them has counted a fault, their ends have none
pub begun_counted : {S : Type 0} (faults : S → ℕ) (number : ℕ) (begun : List (Begun S)) → All (λ feed. faults feed.reader.source ≡ 0) begun
    → All (λ end. end.stop ≢ feed_stops.ReadFault → faults end.source ≡ 0) (begun_ends number begun)
begun_counted {S} faults number [] h =
    let P : FeedEnd S → Type 0 = λ end. end.stop ≢ feed_stops.ReadFault → faults end.source ≡ 0 in
    All-nil P
begun_counted {S} faults number (first ∷ others) h =
    let R : Begun S → Type 0 = λ feed. faults feed.reader.source ≡ 0 in
    let P : FeedEnd S → Type 0 = λ end. end.stop ≢ feed_stops.ReadFault → faults end.source ≡ 0 in
    All-cons P (begun_end number first) (begun_ends (number + 1) others) (λ _. All-head R first others h) (begun_counted faults (number + 1) others (All-tail R first others h))

pub length-begun_ends : {S : Type 0} (number : ℕ) (begun : List (Begun S)) → length (begun_ends number begun) ≡ length begun
length-begun_ends number [] = refl
length-begun_ends number (first ∷ others) = ap suc (length-begun_ends (number + 1) others)

-- one more at the end
read_so_push : {S : Type 0} (left : S → Option (List ℕ)) (faults : S → ℕ) (told : ℕ → Option (List ℕ)) (number : ℕ) (ends : List (FeedEnd S)) (reads : List FeedRead) (end : FeedEnd S) (read : FeedRead)
    → AreReadSo left faults told number ends reads → IsReadSo left faults (told (number + length ends)) (number + length ends) end read.text read.lines → AreReadSo left faults told number (ends ++ end ∷ []) (reads ++ read ∷ [])
read_so_push left faults told number [] [] end read all here = (let P : ℕ → Type 0 = λ k. IsReadSo left faults (told k) k end read.text read.lines in subst P (let e : number + 0 ≡ number = omega arith in e) here, tt)
read_so_push left faults told number [] (r ∷ reads) end read all here = absurd all
read_so_push left faults told number (e ∷ ends) [] end read all here = absurd all
read_so_push left faults told number (e ∷ ends) (r ∷ reads) end read all here =
    (all.0, read_so_push left faults told (number + 1) ends reads end read all.1 (let P : ℕ → Type 0 = λ k. IsReadSo left faults (told k) k end read.text read.lines in subst P (let e : number + suc (length ends) ≡ number + 1 + length ends = omega arith in e) here))

pub headers_push : {S : Type 0} (left : S → Option (List ℕ)) (told : ℕ → Option (List ℕ)) (number : ℕ) (begun : List (Begun S)) (next : Begun S)
    → AreHeadersRead left told number begun → IsHeaderRead left (told (number + length begun)) (number + length begun) next.header next.reader → AreHeadersRead left told number (begun ++ next ∷ [])
headers_push left told number [] next all here = (let P : ℕ → Type 0 = λ k. IsHeaderRead left (told k) k next.header next.reader in subst P (let e : number + 0 ≡ number = omega arith in e) here, tt)
headers_push left told number (first ∷ others) next all here =
    (all.0, headers_push left told (number + 1) others next all.1 (let P : ℕ → Type 0 = λ k. IsHeaderRead left (told k) k next.header next.reader in subst P (let e : number + suc (length others) ≡ number + 1 + length others = omega arith in e) here))

-- ---- the headers were not all read

last_of : {S : Type 0} (left : S → Option (List ℕ)) (faults : S → ℕ) (told : ℕ → Option (List ℕ)) (count : ℕ) (begun : List (Begun S)) (stop : HeaderStop) (last : FeedEnd S)
    → AreHeadersRead left told 0 begun → length begun < count → HasNone left faults (told (length begun)) (length begun) stop last → StopsAtLast left faults told count stop (begun_ends 0 begun ++ last ∷ [])
last_of left faults told count begun stop last read few none =
    let same = length-begun_ends 0 begun in
    let P : ℕ → Type 0 = λ k. HasNone left faults (told k) k stop last in
    record {
      front = begun_ends 0 begun;
      last = last;
      begun_are = refl;
      is_named = omega (arith, few, same);
      reads = map begun_read begun;
      begun = are_begun left faults told 0 begun read;
      none = subst P (sym same) none;
    }

pub before_of : {S : Type 0} (left : S → Option (List ℕ)) (faults : S → ℕ) (told : ℕ → Option (List ℕ)) (count : ℕ) (begun : List (Begun S))
    → AreHeadersRead left told 0 begun → length begun < count → StopsBefore left faults told count (begun_ends 0 begun)
before_of left faults told count begun read few = record { few = omega (arith, few, length-begun_ends 0 begun); reads = map begun_read begun; read = are_read_so left faults told 0 begun read }

pub stops_so : {S : Type 0} (left : S → Option (List ℕ)) (faults : S → ℕ) (told : ℕ → Option (List ℕ)) (count : ℕ) (begun : List (Begun S)) (stop : HeaderStop) (last : FeedEnd S)
    → AreHeadersRead left told 0 begun → length begun < count → HasNone left faults (told (length begun)) (length begun) stop last → StopsSo left faults told count stop (begun_ends 0 begun ++ last ∷ [])
stops_so left faults told count begun ReadFault last read few none = last_of left faults told count begun ReadFault last read few none
stops_so left faults told count begun (BadHeader refusal) last read few none = last_of left faults told count begun (BadHeader refusal) last read few none
stops_so left faults told count begun NoMemory last read few none =
    let same = length-begun_ends 0 begun in
    let P : ℕ → Type 0 = λ k. IsReadSo left faults (told k) k last none.read.text none.read.lines in
    record {
      few = omega (arith, few, same, length-append (begun_ends 0 begun) (last ∷ []));
      reads = map begun_read begun ++ none.read ∷ [];
      read = read_so_push left faults told 0 (begun_ends 0 begun) (map begun_read begun) last none.read (are_read_so left faults told 0 begun read) (subst P (let e : length begun ≡ 0 + length (begun_ends 0 begun) = omega (arith, same) in e) none.last_read);
    }

pub nothing_read : {S : Type 0} (left : S → Option (List ℕ)) (faults : S → ℕ) (told : ℕ → Option (List ℕ)) (count : ℕ) (ends : List (FeedEnd S)) → ends ≡ [] → StopsBefore left faults told count ends
nothing_read {S} left faults told count ends is = let P : List (FeedEnd S) → Type 0 = λ es. StopsBefore left faults told count es in subst P (sym is) (record { few = omega arith; reads = []; read = tt })

-- what follows of a value where there is one
pub if_ok : {A E : Type 0} (P Q : A → Type 0) (r : Result A E) → ((a : A) → P a → Q a) → IfOk r P → IfOk r Q
if_ok P Q (Ok a) more h = more a h
if_ok P Q (Err e) more h = tt
