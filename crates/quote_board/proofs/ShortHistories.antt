-- In a short history few selections stand.
use Rattle.std.proofs.Common.{ℕ, ◌≡◌, ◌+◌, ◌≤◌, Bool, true, false, cond, List, [], ◌∷◌, ◌++◌, length, take, refl, sym, ap, ◌∙◌, arith, subst, zero, suc, ⊎_elim}
use Rattle.std.specs.Prelude.{count_by}
use Rattle.std.specs.List.{range_with_len}
use Rattle.std.proofs.lemmas.Bool.{cases_Bool}
use Rattle.std.proofs.lemmas.List.{take_all}
use Rattle.scan_types.specs.Selections.{selection_number}
use Rattle.board_definitions.specs.declared.key.TheConstants.{SELECTIONS}
use Rattle.board_definitions.specs.declared.event.Event.{Event}
use Rattle.board_definitions.specs.declared.event.Event.TheVariants.{Quoted, Withdrawn, Ended, Pinned, Filed, Released}
use Rattle.board_definitions.specs.declared.event.Entry.{Entry}
use Rattle.board_definitions.specs.Entries.{is_about, is_quote}
use Rattle.board_definitions.specs.Sheets.{stands, standing_count}
use Rattle.board_definitions.proofs.Keys.{is_key_parts}
use Rattle.board_definitions.proofs.Changes.{stands-push}
use Rattle.board_definitions.proofs.Counts.{count_le_but, count_step}
use Rattle.board_definitions.proofs.Live.{take_next}

-- the selection that an entry is about
abbrev number_of : Event → ℕ
number_of (Quoted key odds limit line) = selection_number key.selection
number_of (Withdrawn key line) = selection_number key.selection
number_of _ = 0

about_one : (m : List ℕ) (f k : ℕ) (event : Event) → is_about m f k event ≡ true → k ≡ number_of event
about_one m f k (Quoted key odds limit line) h = sym (is_key_parts m f k key h).2
about_one m f k (Withdrawn key line) h = sym (is_key_parts m f k key h).2
about_one m f k (Ended feed stop) h = absurd (cc h)
about_one m f k (Pinned pinned) h = absurd (cc h)
about_one m f k (Filed version finding) h = absurd (cc h)
about_one m f k (Released version) h = absurd (cc h)

-- one more entry raises the count by one at most
one_more : (h : List Entry) (e : Entry) (m : List ℕ) (f : ℕ) → standing_count (h ++ e ∷ []) m f ≤ standing_count h m f + 1
unfolding standing_count
one_more h e m f = count_le_but (stands (h ++ e ∷ []) m f) (stands h m f) (number_of e.event) 0 SELECTIONS
    (λ k other now. ⊎_elim
    (λ (about : is_about m f k e.event ≡ true). absurd (other (about_one m f k e.event about)))
    (λ (apart : is_about m f k e.event ≡ false). ap (λ (b : Bool). cond b (is_quote e.event) (stands h m f k)) (sym apart) ∙ sym (stands-push h e m f k) ∙ now)
    (cases_Bool (is_about m f k e.event)))

nothing : (p : ℕ → Bool) (a n : ℕ) → ((k : ℕ) → p k ≡ false) → count_by p (range_with_len a n) ≡ 0
nothing p a zero h = refl
nothing p a (suc n) h = let weight : cond {A = ℕ} (p a) 1 0 ≡ 0 = ap (λ (b : Bool). cond {A = ℕ} b 1 0) (h a) in omega (arith, count_step p a n, weight, nothing p (a + 1) n h)

none_yet : (m : List ℕ) (f : ℕ) → standing_count [] m f ≡ 0
unfolding standing_count
none_yet m f = nothing (stands [] m f) 0 SELECTIONS (λ k. refl)

upto : (h : List Entry) (m : List ℕ) (f n : ℕ) → n ≤ length h → standing_count (take n h) m f ≤ n
upto h m f zero within = let none = none_yet m f in omega (arith, none)
upto h m f (suc n) within =
    let next = take_next h n (omega (arith, within)) in
    let before = upto h m f n (omega (arith, within)) in
    let P : List Entry → Type 0 = λ xs. standing_count xs m f ≤ suc n in
    subst P (sym next.2) (let more = one_more (take n h) next.0 m f in omega (arith, more, before))

-- no more selections stand than the history has entries
pub short_history : (h : List Entry) (m : List ℕ) (f : ℕ) → standing_count h m f ≤ length h
short_history h m f =
    let P : List Entry → Type 0 = λ xs. standing_count xs m f ≤ length h in
    subst P (take_all (length h) h (omega arith)) (upto h m f (length h) (omega arith))
