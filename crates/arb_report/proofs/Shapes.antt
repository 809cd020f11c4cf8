-- The parts of a line, one after another, are the line.
use Rattle.std.proofs.Common.{ℕ, ◌≡◌, ◌<◌, ◌+◌, length, get_or, take, drop, List, [], ◌∷◌, ◌++◌, sym, ap, ◌∙◌, append_assoc, lit<}
use Rattle.std.specs.Prelude.{codes, decimal}
use Rattle.std.specs.List.{flat_map, join_with_byte}
use Rattle.std.proofs.lemmas.List.{append-nil}
use Rattle.std.proofs.lemmas.Fmt.{decimal_digit}
use Rattle.number_definitions.specs.Spellings.{odds_text}
use Rattle.scan_types.specs.declared.offer.Offer.{Offer}
use Rattle.scan_types.specs.declared.selection.Selection.{Selection}
use Rattle.text_out.specs.Written.{spaced}
use Rattle.text_out.proofs.Writes.{join_spaced, spaced-append, flat_map_take, flat_map_rest}
use Rattle.bet_definitions.specs.Bets.{market_text, bet_form, line_fields, selection_fields}
use Rattle.report_definitions.specs.Words.{line_of}
use Rattle.report_definitions.specs.Report.{offer_line, title_line}

-- fields appended one after another, each after a space
abbrev pub appended : List ℕ → List (List ℕ) → List ℕ
appended text [] = text
appended text (field ∷ fields) = appended (text ++ 32 ∷ field) fields

pub appended-spaced : (text : List ℕ) (fields : List (List ℕ)) → appended text fields ≡ text ++ spaced fields
appended-spaced text [] = sym (append-nil text)
appended-spaced text (field ∷ fields) = appended-spaced (text ++ 32 ∷ field) fields ∙ append_assoc text (32 ∷ field) (spaced fields)

-- a line whose fields were appended one after another
pub line_shape : (word : List ℕ) (fields : List (List ℕ)) → appended word fields ++ 10 ∷ [] ≡ line_of (word ∷ fields)
line_shape word fields = ap (λ (text : List ℕ). text ++ 10 ∷ []) (appended-spaced word fields ∙ sym (join_spaced word fields))

offer_chain : (b c s x o l t : List ℕ) → (((((b ++ c) ++ s) ++ x) ++ o) ++ l) ++ t ≡ (b ++ (c ++ (s ++ ((x ++ o) ++ (l ++ []))))) ++ t
offer_chain b c s x o l t = simp (append_assoc, append-nil)

-- a bet after a space
bet_shape : (text : List ℕ) (bet : Selection) → (text ++ codes " ") ++ join_with_byte 32 (selection_fields bet) ≡ text ++ spaced (selection_fields bet)
bet_shape text bet =
    let form = bet_form bet in
    append_assoc text (codes " ") (join_with_byte 32 (selection_fields bet))
    ∙ ap (λ (r : List ℕ). text ++ 32 ∷ r) (join_spaced (market_text form.market) (line_fields form.line ++ form.side ∷ []))

pub offer_shape : (offer : Offer)
    → ((((((codes "offer" ++ 32 ∷ decimal offer.feed) ++ codes " ") ++ join_with_byte 32 (selection_fields offer.selection)) ++ codes " ") ++ odds_text offer.odds.thousandths) ++ 32 ∷ decimal offer.limit) ++ codes "\n"
    ≡ offer_line offer
offer_shape offer =
    let more : List (List ℕ) = odds_text offer.odds.thousandths ∷ decimal offer.limit ∷ [] in
    let fields : List (List ℕ) = decimal offer.feed ∷ (selection_fields offer.selection ++ more) in
    ap (λ (r : List ℕ). (((r ++ codes " ") ++ odds_text offer.odds.thousandths) ++ 32 ∷ decimal offer.limit) ++ codes "\n") (bet_shape (codes "offer" ++ 32 ∷ decimal offer.feed) offer.selection)
    ∙ offer_chain (codes "offer") (32 ∷ decimal offer.feed) (spaced (selection_fields offer.selection)) (32 ∷ []) (odds_text offer.odds.thousandths) (32 ∷ decimal offer.limit) (10 ∷ [])
    ∙ ap (λ (r : List ℕ). (codes "offer" ++ ((32 ∷ decimal offer.feed) ++ r)) ++ 10 ∷ []) (sym (spaced-append (selection_fields offer.selection) more))
    ∙ ap (λ (r : List ℕ). r ++ 10 ∷ []) (sym (join_spaced (codes "offer") fields))

-- one more element, known to be the one of this number
pub one_more : {X : Type 0} (f : X → List ℕ) (xs : List X) (i : ℕ) (x : X) → i < length xs → x ≡ get_or xs i x → flat_map f (take i xs) ++ f x ≡ flat_map f (take (i + 1) xs)
one_more {X} f xs i x within is = ap (λ (y : X). flat_map f (take i xs) ++ f y) is ∙ flat_map_take f xs i x within

-- the elements so far, that one, and the rest
pub all_three : {X : Type 0} (f : X → List ℕ) (xs : List X) (i : ℕ) (x : X) → i < length xs → x ≡ get_or xs i x → (flat_map f (take i xs) ++ f x) ++ flat_map f (drop (i + 1) xs) ≡ flat_map f xs
all_three {X} f xs i x within is = ap (λ (y : X). (flat_map f (take i xs) ++ f y) ++ flat_map f (drop (i + 1) xs)) is ∙ flat_map_rest f xs i x within

pub title_is : codes "arbscan report 1\n" ≡ title_line
title_is = ap (λ (d : List ℕ). line_of (codes "arbscan" ∷ codes "report" ∷ d ∷ [])) (sym (decimal_digit 1 (lit< tt)))
