-- Keys by their parts.
use Rattle.std.proofs.Common.{ℕ, ◌≡◌, true, List}
use Rattle.std.specs.Prelude.{◌==◌, ◌&&◌}
use Rattle.std.specs.Str.{bytes_eq}
use Rattle.std.proofs.lemmas.Bool.{and_parts, and_from}
use Rattle.std.proofs.lemmas.Bool.Decides.{Decides-eqb}
use Rattle.std.proofs.lemmas.Slice.Eq.{bytes_eq-Decides}
use Rattle.scan_types.specs.Selections.{selection_number}
use Rattle.board_definitions.specs.declared.key.Key.{Key}
use Rattle.board_definitions.specs.Entries.{is_key}

pub is_key_parts : (m : List ℕ) (f n : ℕ) (key : Key) → is_key m f n key ≡ true → (key.match_name ≡ m) × (key.feed ≡ f) × (selection_number key.selection ≡ n)
is_key_parts m f n key h =
    let outer = and_parts (bytes_eq key.match_name m) (key.feed == f && selection_number key.selection == n) h in
    let inner = and_parts (key.feed == f) (selection_number key.selection == n) outer.1 in
    ((bytes_eq-Decides key.match_name m).0 outer.0, (Decides-eqb key.feed f).0 inner.0, (Decides-eqb (selection_number key.selection) n).0 inner.1)

pub is_key_from : (m : List ℕ) (f n : ℕ) (key : Key) → key.match_name ≡ m → key.feed ≡ f → selection_number key.selection ≡ n → is_key m f n key ≡ true
is_key_from m f n key name feed number =
    and_from (bytes_eq key.match_name m) (key.feed == f && selection_number key.selection == n) ((bytes_eq-Decides key.match_name m).1 name)
    (and_from (key.feed == f) (selection_number key.selection == n) ((Decides-eqb key.feed f).1 feed) ((Decides-eqb (selection_number key.selection) n).1 number))
