-- Words of the program in which `clap` finds no fault are words that it takes, and they name a command.
use Rattle.std.proofs.Common.{◌≡◌, Bool, true, false, cond, ◌&&◌, List, [], Option, Some, None, is_some, refl, ap₂}
use Rattle.std.specs.Prelude.{codes, option_map}
use Rattle.std.specs.Option.{option_map_or}
use Rattle.std.specs.List.{list_all}
use Rattle.clap.specs.Walk.{Row, Text, Walk, answers_to, nothing_held, walk, walk_from}
use Rattle.clap.specs.Simple.{App, built, entered, label_of, names_of, rows_at}
use Rattle.clap.specs.Takes.{default_passes, entered_passes, level_passes, settle_passes, walk_passes}
use Rattle.clap.specs.Faults.{entered_fault, level_fault}
use Rattle.clap.specs.Words.{fault_of, subcommand_of, takes}
use Rattle.desk_words.specs.Program.{program}
use Rattle.desk_words.proofs.FaultFree.{level_ok}
use Rattle.desk_words.proofs.FeedWords.{once_built}

abbrev pub whole : App
whole = built program

below_ok : (stop : Option (Text × List Text)) → entered_fault whole stop ≡ [] → entered_passes whole stop ≡ true
below_ok None e = refl
below_ok (Some p) e = go (answers_to p.0 (label_of once_built)) e
  where
    go : (b : Bool) → option_map_or (λ s. level_fault s [] nothing_held p.1 false []) (cond b (Some once_built) None) [] ≡ []
        → option_map_or (λ s. level_passes s [] nothing_held p.1 false) (cond b (Some once_built) None) true ≡ true
    go true e = (level_ok once_built [] nothing_held p.1 false [] refl refl e).1
    go false e = refl

pub fault_free_taken : (words : List Text) → fault_of program words ≡ [] → takes program words ≡ true
fault_free_taken words e =
    let stop : Option (Text × List Text) = (walk [] (names_of whole) nothing_held words).stopped in
    let level = level_ok whole.top (names_of whole) nothing_held words (is_some (entered whole stop)) (entered_fault whole stop) refl refl e in
    ap₂ (λ (x y : Bool). x && y) (below_ok stop level.0) level.1

-- ---- they name a command

both : (a b : Bool) → (a && b) ≡ true → (a ≡ true) × (b ≡ true)
both true b h = (refl, h)
both false b h = absurd (cc)

entered_once : (stop : Option (Text × List Text)) → is_some (entered whole stop) ≡ true → (rows : List Row) × (entered whole stop ≡ Some (codes "once", rows))
entered_once None e = absurd (cc)
entered_once (Some p) e = go (answers_to p.0 (label_of once_built)) e
  where
    go : (b : Bool) → is_some (option_map (λ s. rows_at s p.1) (cond b (Some once_built) None)) ≡ true
        → (rows : List Row) × (option_map (λ s. rows_at s p.1) (cond b (Some once_built) None) ≡ Some (codes "once", rows))
    go true e = ((rows_at once_built p.1).1, refl)
    go false e = absurd (cc)

pub taken_names_once : (words : List Text) → takes program words ≡ true → (rows : List Row) × (subcommand_of program words ≡ Some (codes "once", rows))
taken_names_once words e =
    let w : Walk = walk [] (names_of whole) nothing_held words in
    let has : Bool = is_some (entered whole w.stopped) in
    let level = (both (entered_passes whole w.stopped) _ e).1 in
    let valid = (both (list_all default_passes whole.top.rules) _ (both (settle_passes [] false w.held) _ (both (walk_passes whole.top (names_of whole) (walk_from nothing_held) words) _ level).1).1).1 in
    entered_once w.stopped (both has _ valid).0
