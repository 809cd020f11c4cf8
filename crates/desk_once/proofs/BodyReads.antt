-- The next body that was read, as the run sees it.
use Rattle.std.proofs.Common.{◌≡◌, ◌≢◌, ℕ, ◌+◌, Bool, true, false, List, [], ◌∷◌, ◌++◌, length, Option, Some, refl, sym, ap, ◌∙◌, subst}
use Rattle.std.specs.Prelude.{IsTrue}
use Rattle.std.proofs.KnownBytes.{Consumes-trans}
use Rattle.std.specs.Io.KnownBytes.{Consumes}
use Rattle.feed_definitions.specs.declared.accepted.Accepted.{Accepted}
use Rattle.feed_definitions.specs.declared.header.Header.{Header}
use Rattle.feed_definitions.specs.Feed.{accepted_in}
use Rattle.feed_lines.specs.Reader.{ReaderView}
use Rattle.board_definitions.specs.declared.event.FeedStop.{FeedStop}
use Rattle.board_definitions.specs.declared.event.FeedStop.TheVariants as stops
use Rattle.report_definitions.specs.Stops.{is_reported}
use Rattle.quote_board.specs.Views.{BoardView}
use Rattle.feed_bodies.specs.Bodies.{ArePut, IsBodyRead}
use Rattle.desk_opening.specs.Headers.{IsHeaderRead}
use Rattle.desk_definitions.specs.declared.feed_end.FeedEnd.{FeedEnd}
use Rattle.desk_definitions.specs.Lines.{body_of, ended_entry, entries_of}
use Rattle.desk_definitions.specs.History.{IsCutBody}
use Rattle.desk_definitions.specs.Reads.{FeedRead}
use Rattle.desk_once.specs.Bodies.{IsNextRead}

-- all accepted lines were put on the board if the feed was read whole
put_all : (stop : FeedStop) (put accepted : List Accepted) → is_reported stop ≡ true → ArePut stop put accepted → put ≡ accepted
put_all stops.End put accepted e h = h
put_all stops.Cut put accepted e h = h
put_all stops.ReadFault put accepted e h = h
put_all stops.NoMemory put accepted e h = absurd (cc)
put_all stops.BadHeader put accepted e h = absurd (cc)

cut_body : (stop : FeedStop) (number : ℕ) (put : List Accepted) (read : FeedRead) → is_reported stop ≡ false → stop ≢ stops.BadHeader → ArePut stop put (accepted_in read.lines) → IsCutBody number read (body_of number put stop)
cut_body stops.End number put read e header h = absurd (cc)
cut_body stops.Cut number put read e header h = absurd (cc)
cut_body stops.ReadFault number put read e header h = absurd (cc)
cut_body stops.NoMemory number put read e header h = record { put = put; left_out = h.0; accepted = h.1; are = refl }
cut_body stops.BadHeader number put read e header h = absurd (header refl)

module _ {S : Type 0} (left : S → Option (List ℕ)) (faults : S → ℕ) (Later : S → S → Type 0) (NeverFails : S → Type 0) {W : Type 0} where
  pub next_read : (told : ℕ → Option (List ℕ)) (ends after : List (FeedEnd S)) (header : Header) (reader : ReaderView S) (end : FeedEnd S) (old new : BoardView W) (whole : Bool)
      → IsHeaderRead left (told (length ends)) (length ends) header reader → IsBodyRead left faults Later NeverFails (length ends) header reader end old new
      → after ≡ ends ++ end ∷ [] → whole ≡ is_reported end.stop → IsNextRead left faults told header ends after old new whole
  next_read told ends after header reader end old new whole head body after_is whole_is =
      let text_given : Consumes (told (length ends)) (left end.source) (reader.taken ++ body.goes_on.takes.more) =
      Consumes-trans (told (length ends)) (left reader.source) (left end.source) reader.taken body.goes_on.takes.more head.given body.goes_on.takes.given in
      let P : List ℕ → Type 0 = λ text. Consumes (told (length ends)) (left end.source) text in
      record {
        end = end;
        read = record { text = body.text; lines = body.lines };
        entries = body_of (length ends) body.put end.stop;
        ends_are = after_is;
        header_is = body.is_end.header ∙ body.begins;
        read_is = record { given = subst P (sym body.goes_on.takes.appended) text_given; is_end = body.is_end };
        board_is = body.after_is;
        when_whole = λ e. (sym whole_is ∙ e, ap (λ put. body_of (length ends) put end.stop) (put_all end.stop body.put (accepted_in body.lines) (sym whole_is ∙ e) body.put_is));
        when_cut = λ e. cut_body end.stop (length ends) body.put (record { text = body.text; lines = body.lines }) (sym whole_is ∙ e) body.header_read body.put_is;
      }
