-- Marks after one entry more.
use Rattle.std.proofs.Common.{ℕ, ◌≡◌, ◌+◌, ◌<◌, List, suc, sym, ap, ◌∙◌, subst, Some, length, get_or, add-one}
use Rattle.std.specs.Prelude.{Option, slice_get}
use Rattle.std.specs.Option.{option_map_or}
use Rattle.std.proofs.lemmas.Option.{slice_get-get_or}
use Rattle.board_definitions.specs.declared.event.Entry.{Entry}
use Rattle.desk_report.specs.declared.marks.Mark.{Mark}
use Rattle.desk_report.specs.Marks.{mark_step, mark_at}

-- the mark after the entry of this number
pub mark_next : (h : List Entry) (n : ℕ) (e : Entry) (q : List ℕ) → slice_get h n ≡ Some e → mark_at h (suc n) q ≡ mark_step h n e.event q (mark_at h n q)
mark_next h n e q is = ap (λ (o : Option Entry). option_map_or (λ (entry : Entry). mark_step h n entry.event q (mark_at h n q)) o (mark_at h n q)) is

pub mark_more : (h : List Entry) (n : ℕ) (e : Entry) (q : List ℕ) (old new : Option Mark) → n < length h → e ≡ get_or h n e → old ≡ mark_at h n q → new ≡ mark_step h n e.event q old → new ≡ mark_at h (n + 1) q
mark_more h n e q old new within is before after =
    let there : slice_get h n ≡ Some e = slice_get-get_or h n e within ∙ ap (λ (x : Entry). Some x) (sym is) in
    subst (λ (k : ℕ). new ≡ mark_at h k q) (sym (add-one n)) (after ∙ (ap (λ (o : Option Mark). mark_step h n e.event q o) before ∙ sym (mark_next h n e q there)))
