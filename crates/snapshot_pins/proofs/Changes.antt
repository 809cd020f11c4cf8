-- What each cell has after a change of one cell, of one match, and of all.
use Rattle.std.proofs.Common.{ℕ, ◌≡◌, Bool, true, false, cond, List, [], ◌∷◌, refl, sym, ap, ◌∙◌, Some, None, Result, Ok, Err, arith, subst}
use Rattle.std.specs.Prelude.{◌==◌, ◌&&◌, Option, if◌then◌else◌}
use Rattle.std.specs.BTreeMap.{BTreeMap, get, is_at}
use Rattle.std.specs.Map.{lookup}
use Rattle.std.specs.Map.Calls.{RetainsPairs}
use Rattle.std.specs.Option.{option_map_or, unwrap_or}
use Rattle.std.specs.Result.{OnErr}
use Rattle.std.specs.Str.{bytes_eq}
use Rattle.std.proofs.lemmas.Bool.Decides.{nat_tests}
use Rattle.std.proofs.lemmas.Slice.Eq.{bytes_eq-Decides}
use Rattle.indexmap.specs.IndexMap.{IndexMap, get as entry_of}
use Rattle.snapshot_pins.specs.declared.value.CellValue.{CellValue}
use Rattle.snapshot_pins.specs.declared.cell.Cell.{Cell}
use Rattle.snapshot_pins.specs.declared.match_cells.Slot.{Slot}
use Rattle.snapshot_pins.specs.Kept.{slot_cmp, cell_in, cell_on}

after : {X A : Type 0} (read : X → A) (blank : A) (changed : A → A) (b : Bool) (new old : Option X) (there : X) → new ≡ cond b (Some there) old →
    (b ≡ true → read there ≡ changed (option_map_or read old blank)) →
    option_map_or read new blank ≡ (if b then changed (option_map_or read old blank) else option_map_or read old blank)
after {X} read blank changed true new old there is h = ap (λ (o : Option X). option_map_or read o blank) is ∙ h refl
after {X} read blank changed false new old there is h = ap (λ (o : Option X). option_map_or read o blank) is

pub at_slot : (slot : Slot) (feed number : ℕ) → is_at (slot_cmp slot) (record { feed = feed; number = number }) ≡ (slot.feed == feed && slot.number == number)
at_slot slot feed number = grind (arith, nat_tests)

slot_is : (slot : Slot) (feed number : ℕ) → (slot.feed == feed && slot.number == number) ≡ true → slot ≡ record { feed = feed; number = number }
slot_is slot feed number same =
    let feeds : slot.feed ≡ feed = grind (arith, nat_tests) in
    let numbers : slot.number ≡ number = grind (arith, nat_tests) in
    ap (λ (f : ℕ). record { feed = f; number = slot.number }) feeds ∙ ap (λ (n : ℕ). record { feed = feed; number = n }) numbers

-- the values that were kept of a cell, and none if there was no cell
abbrev pub values_of_cell : Option Cell → List CellValue
values_of_cell there = option_map_or (λ cell. cell.values.items) there []

-- one cell changes, and the others stay
pub cell_after : (changed : List CellValue → List CellValue) (old : BTreeMap Slot Cell) (entries : List (Slot × Cell)) (slot : Slot) (cell : Cell) →
    ((q : Slot) → lookup (is_at (slot_cmp q)) entries ≡ cond (is_at (slot_cmp slot) q) (Some cell) (get slot_cmp old q)) →
    cell.values.items ≡ changed (values_of_cell (get slot_cmp old slot)) →
    (feed number : ℕ) → values_of_cell (lookup (is_at (slot_cmp (record { feed = feed; number = number }))) entries) ≡
    (if slot.feed == feed && slot.number == number then changed (cell_in old feed number) else cell_in old feed number)
cell_after changed old entries slot cell h is feed number =
    let q : Slot = record { feed = feed; number = number } in
    let read : Cell → List CellValue = λ c. c.values.items in
    after read [] changed (is_at (slot_cmp slot) q) (lookup (is_at (slot_cmp q)) entries) (get slot_cmp old q) cell (h q)
    (λ same. is ∙ ap (λ (s : Slot). changed (values_of_cell (get slot_cmp old s))) (slot_is slot feed number (sym (at_slot slot feed number) ∙ same)))
    ∙ ap (λ (b : Bool). if b then changed (cell_in old feed number) else cell_in old feed number) (at_slot slot feed number)

alike : {A : Type 0} (b : Bool) (x : A) → (if b then x else x) ≡ x
alike true x = refl
alike false x = refl

-- no cell changes
pub cell_same : (old : BTreeMap Slot Cell) (entries : List (Slot × Cell)) (slot : Slot) (cell : Cell) →
    ((q : Slot) → lookup (is_at (slot_cmp q)) entries ≡ cond (is_at (slot_cmp slot) q) (Some cell) (get slot_cmp old q)) →
    cell.values.items ≡ values_of_cell (get slot_cmp old slot) →
    (feed number : ℕ) → values_of_cell (lookup (is_at (slot_cmp (record { feed = feed; number = number }))) entries) ≡ cell_in old feed number
cell_same old entries slot cell h is feed number =
    cell_after (λ values. values) old entries slot cell h is feed number ∙ alike (slot.feed == feed && slot.number == number) (cell_in old feed number)

-- what was read of a match, and what of none
abbrev pub values_on : (feed number : ℕ) → Option (BTreeMap Slot Cell) → List CellValue
values_on feed number there = option_map_or (λ cells. cell_in cells feed number) there []

-- one match changes, and the others stay
pub match_after : {S : Type 0} (changed : List CellValue → List CellValue) (feed number : ℕ) (old : IndexMap (List ℕ) (BTreeMap Slot Cell) S) (entries : List (List ℕ × BTreeMap Slot Cell))
    (name : List ℕ) (cells : BTreeMap Slot Cell) →
    ((q : List ℕ) → lookup (bytes_eq q) entries ≡ cond (bytes_eq name q) (Some cells) (entry_of bytes_eq old q)) →
    cell_in cells feed number ≡ changed (cell_on old name feed number) →
    (m : List ℕ) → values_on feed number (lookup (bytes_eq m) entries) ≡ (if bytes_eq name m then changed (cell_on old m feed number) else cell_on old m feed number)
match_after changed feed number old entries name cells h is m =
    let read : BTreeMap Slot Cell → List CellValue = λ c. cell_in c feed number in
    after read [] changed (bytes_eq name m) (lookup (bytes_eq m) entries) (entry_of bytes_eq old m) cells (h m)
    (λ same. is ∙ ap (λ (q : List ℕ). changed (cell_on old q feed number)) ((bytes_eq-Decides name m).0 same))

pub match_same : {S : Type 0} (feed number : ℕ) (old : IndexMap (List ℕ) (BTreeMap Slot Cell) S) (entries : List (List ℕ × BTreeMap Slot Cell)) (name : List ℕ) (cells : BTreeMap Slot Cell) →
    ((q : List ℕ) → lookup (bytes_eq q) entries ≡ cond (bytes_eq name q) (Some cells) (entry_of bytes_eq old q)) →
    cell_in cells feed number ≡ cell_on old name feed number →
    (m : List ℕ) → values_on feed number (lookup (bytes_eq m) entries) ≡ cell_on old m feed number
match_same feed number old entries name cells h is m =
    match_after (λ values. values) feed number old entries name cells h is m ∙ alike (bytes_eq name m) (cell_on old m feed number)

pick : {X A : Type 0} (read : X → A) (blank : A) (g : A → A) (b : Bool) (v w : X) (old new : Option X) → read w ≡ g (read v) → option_map_or read new blank ≡ g (option_map_or read old blank) →
    option_map_or read (cond b (Some w) new) blank ≡ g (option_map_or read (cond b (Some v) old) blank)
pick read blank g true v w old new here rest = here
pick read blank g false v w old new here rest = rest

-- each value changes alike
pub all_after : {F K X A : Type 0} (T : F → K → X → Bool → X → F → Type 0) (read : X → A) (blank : A) (g : A → A) → g blank ≡ blank → (f : F) →
    ((k : K) (v : X) (b : Bool) (w : X) (f' : F) → T f k v b w f' → (b ≡ true) × (read w ≡ g (read v)) × (f' ≡ f)) →
    (es kept : List (K × X)) → RetainsPairs T f es kept → (test : K → Bool) →
    option_map_or read (lookup test kept) blank ≡ g (option_map_or read (lookup test es) blank)
all_after {K = K} {X = X} T read blank g none f says [] kept h test = ap (λ (ys : List (K × X)). option_map_or read (lookup test ys) blank) h ∙ sym none
all_after {F} {K} {X} T read blank g none f says (e ∷ es) kept h test =
    let s = says e.0 e.1 h.0 h.1 h.2 h.4 in
    let rest = all_after T read blank g none f says es h.3 (subst (λ (f' : F). RetainsPairs T f' es h.3) s.2 h.5) test in
    let is : kept ≡ (e.0, h.1) ∷ h.3 = h.6 ∙ ap (λ (b : Bool). cond b ((e.0, h.1) ∷ h.3) h.3) s.0 in
    ap (λ (ys : List (K × X)). option_map_or read (lookup test ys) blank) is
    ∙ pick read blank g (test e.0) e.1 h.1 (lookup test es) (lookup test h.3) s.1 rest

-- what there was of a match, or of one that is new
pub match_there : (feed number : ℕ) (entry stood : Option (BTreeMap Slot Cell)) (blank there : BTreeMap Slot Cell) → there ≡ unwrap_or entry blank → entry ≡ stood →
    cell_in blank feed number ≡ [] → cell_in there feed number ≡ values_on feed number stood
match_there feed number None stood blank there found is none = ap (λ (c : BTreeMap Slot Cell). cell_in c feed number) found ∙ none ∙ ap (values_on feed number) is
match_there feed number (Some cells) stood blank there found is none = ap (λ (c : BTreeMap Slot Cell). cell_in c feed number) found ∙ ap (values_on feed number) is

-- what holds in any case holds of a call that failed
pub on_err_any : {A E : Type 0} {P : Type 0} (result : Result A E) → P → OnErr result P
on_err_any (Ok x) p = tt
on_err_any (Err e) p = p
