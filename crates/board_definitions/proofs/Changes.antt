-- What one more entry changes of what stands.
use Rattle.std.proofs.Common.{ℕ, ◌≡◌, Bool, true, false, cond, List, [], ◌∷◌, ◌++◌, refl, ap, ◌∙◌, Some}
use Rattle.std.specs.Prelude.{Option, find, option_and_then}
use Rattle.std.specs.Option.{option_map_or}
use Rattle.std.proofs.lemmas.List.{reverse-append}
use Rattle.scan_types.specs.declared.rule.VoidRule.{VoidRule}
use Rattle.board_definitions.specs.declared.event.Entry.{Entry}
use Rattle.board_definitions.specs.Entries.{is_about, is_quote}
use Rattle.board_definitions.specs.Sheets.{last_about, stands, standing, offer_of}

pub last_about-push : (entries : List Entry) (e : Entry) (m : List ℕ) (f n : ℕ) →
    last_about (entries ++ e ∷ []) m f n ≡ cond (is_about m f n e.event) (Some e) (last_about entries m f n)
last_about-push entries e m f n = ap (find (λ (entry : Entry). is_about m f n entry.event)) (reverse-append entries (e ∷ []))

map_or_cond : {X Y : Type 0} (g : X → Y) (b : Bool) (x : X) (o : Option X) (d : Y) → option_map_or g (cond b (Some x) o) d ≡ cond b (g x) (option_map_or g o d)
map_or_cond g true x o d = refl
map_or_cond g false x o d = refl

and_then_cond : {X Y : Type 0} (g : X → Option Y) (b : Bool) (x : X) (o : Option X) → option_and_then g (cond b (Some x) o) ≡ cond b (g x) (option_and_then g o)
and_then_cond g true x o = refl
and_then_cond g false x o = refl

pub stands-push : (entries : List Entry) (e : Entry) (m : List ℕ) (f n : ℕ) →
    stands (entries ++ e ∷ []) m f n ≡ cond (is_about m f n e.event) (is_quote e.event) (stands entries m f n)
stands-push entries e m f n =
    ap (λ (o : Option Entry). option_map_or (λ (entry : Entry). is_quote entry.event) o false) (last_about-push entries e m f n)
    ∙ map_or_cond (λ (entry : Entry). is_quote entry.event) (is_about m f n e.event) e (last_about entries m f n) false

pub standing-push : (rules : List (Option VoidRule)) (entries : List Entry) (e : Entry) (m : List ℕ) (f n : ℕ) →
    standing rules (entries ++ e ∷ []) m f n ≡ cond (is_about m f n e.event) (offer_of rules e.event) (standing rules entries m f n)
standing-push rules entries e m f n =
    ap (λ (o : Option Entry). option_and_then (λ (entry : Entry). offer_of rules entry.event) o) (last_about-push entries e m f n)
    ∙ and_then_cond (λ (entry : Entry). offer_of rules entry.event) (is_about m f n e.event) e (last_about entries m f n)
