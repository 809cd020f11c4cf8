-- What a mark says is so, and each match that was quoted has one.
use Rattle.std.proofs.Common.{ℕ, ◌≡◌, ◌<◌, ◌≤◌, Bool, true, false, cond, List, [], ◌∷◌, length, take, zero, suc, refl, sym, ap, subst, ◌∙◌, Some, None, arith, inl, inr}
use Rattle.std.specs.Prelude.{◌||◌, nat_lt, Option, IfSome, IsSome, option_map, slice_get}
use Rattle.std.specs.Option.{is_some}
use Rattle.std.specs.List.{list_any}
use Rattle.std.specs.Str.{bytes_eq}
use Rattle.std.proofs.lemmas.Bool.{cases_lt, ltb-true, lt-ltb}
use Rattle.std.proofs.Math.Bool.{or-false, or-true}
use Rattle.std.proofs.lemmas.List.Folds.{list_any-append}
use Rattle.std.proofs.lemmas.Slice.Eq.{bytes_eq-Decides}
use Rattle.finding_definitions.specs.declared.finding.Finding.{Finding}
use Rattle.board_definitions.specs.declared.event.Event.{Event}
use Rattle.board_definitions.specs.declared.event.Event.TheVariants.{Quoted, Withdrawn, Ended, Pinned, Filed, Released}
use Rattle.board_definitions.specs.declared.event.Entry.{Entry}
use Rattle.board_definitions.specs.Entries.{changes}
use Rattle.board_definitions.proofs.Live.{take_next}
use Rattle.report_laws.specs.Boards.{quotes_match}
use Rattle.desk_report.specs.declared.marks.Mark.{Mark}
use Rattle.desk_report.specs.Marks.{pinned_name, changed_at, mark_filed, filed_on, mark_step, mark_at}
use Rattle.desk_report.specs.Judged.{HasNewFinding}
use Rattle.desk_report.proofs.Steps.{mark_next}

-- a finding is filed at this place for a pin of the match after its change
pub record IsFiledAt (h : List Entry) (m : List ℕ) (changed place : ℕ) : Type 0 where
  pub caller : ℕ
  pub version : ℕ
  pub finding : Finding
  pub is_filed : slice_get h place ≡ Some (record { caller = caller; event = Filed version finding })
  pub pinned : pinned_name h version ≡ Some m
  pub later : changed < version

-- the mark says where the match was last changed among the first entries, and where a finding was filed after that
pub record IsMark (h : List Entry) (n : ℕ) (m : List ℕ) (mark : Mark) : Type 0 where
  pub entry : Entry
  pub is : slice_get h mark.changed ≡ Some entry
  pub change : changes m entry.event ≡ true
  pub before : mark.changed < n
  pub after : (place : ℕ) (e : Entry) → mark.changed < place → place < n → slice_get h place ≡ Some e → changes m e.event ≡ false
  pub filed : IfSome mark.filed (IsFiledAt h m mark.changed)

one_entry : (h : List Entry) (n : ℕ) (e d : Entry) → slice_get h n ≡ Some e → slice_get h n ≡ Some d → e ≡ d
one_entry h n e d p q = let same : Some e ≡ Some d = sym p ∙ q in cc

-- one more entry that does not change the match
extend_mark : (h : List Entry) (n : ℕ) (m : List ℕ) (e : Entry) (mark : Mark) → slice_get h n ≡ Some e → changes m e.event ≡ false → IsMark h n m mark → IsMark h (suc n) m mark
extend_mark h n m e mark is same old = record {
  entry = old.entry;
  is = old.is;
  change = old.change;
  before = omega (arith, old.before);
  after = λ place d behind within there. elim (cases_lt place n) [
    | inl before ↦ old.after place d behind before there
    | inr past ↦
        let here : place ≡ n = omega (arith, past, within) in
        let one : e ≡ d = one_entry h n e d is (ap (slice_get h) (sym here) ∙ there) in
        ap (λ (x : Entry). changes m x.event) (sym one) ∙ same
  ];
  filed = old.filed;
}

extend : (h : List Entry) (n : ℕ) (m : List ℕ) (e : Entry) (old : Option Mark) → slice_get h n ≡ Some e → changes m e.event ≡ false → IfSome old (IsMark h n m) → IfSome old (IsMark h (suc n) m)
extend h n m e None is same before = tt
extend h n m e (Some mark) is same before = extend_mark h n m e mark is same before

-- the entry changes the match
fresh : (h : List Entry) (n : ℕ) (m : List ℕ) (e : Entry) → slice_get h n ≡ Some e → changes m e.event ≡ true → IsMark h (suc n) m (changed_at n)
fresh h n m e is change = record {
  entry = e;
  is = is;
  change = change;
  before = omega arith;
  after = λ place d behind within there. absurd (omega (arith, behind, within));
  filed = tt;
}

quoted_case : (h : List Entry) (n : ℕ) (m : List ℕ) (e : Entry) (old : Option Mark) (b : Bool) → changes m e.event ≡ b → slice_get h n ≡ Some e → IfSome old (IsMark h n m)
    → IfSome (cond b (Some (changed_at n)) old) (IsMark h (suc n) m)
quoted_case h n m e old true change is before = fresh h n m e is change
quoted_case h n m e old false change is before = extend h n m e old is change before

withdrawn_case : (h : List Entry) (n : ℕ) (m : List ℕ) (e : Entry) (old : Option Mark) (b : Bool) → changes m e.event ≡ b → slice_get h n ≡ Some e → IfSome old (IsMark h n m)
    → IfSome (cond b (option_map (λ _. changed_at n) old) old) (IsMark h (suc n) m)
withdrawn_case h n m e None true change is before = tt
withdrawn_case h n m e (Some mark) true change is before = fresh h n m e is change
withdrawn_case h n m e old false change is before = extend h n m e old is change before

-- a finding is filed
filed_mark : (h : List Entry) (n : ℕ) (m : List ℕ) (caller version : ℕ) (finding : Finding) (mark : Mark) (b : Bool) → slice_get h n ≡ Some (record { caller = caller; event = Filed version finding })
    → pinned_name h version ≡ Some m → nat_lt mark.changed version ≡ b → IsMark h (suc n) m mark
    → IsMark h (suc n) m (cond b (record { changed = mark.changed; filed = Some n }) mark)
filed_mark h n m caller version finding mark true is pinned later old = record {
  entry = old.entry;
  is = old.is;
  change = old.change;
  before = old.before;
  after = old.after;
  filed = record { caller = caller; version = version; finding = finding; is_filed = is; pinned = pinned; later = ltb-true mark.changed version later };
}
filed_mark h n m caller version finding mark false is pinned later old = old

filed_case : (h : List Entry) (n : ℕ) (m : List ℕ) (caller version : ℕ) (finding : Finding) (old : Option Mark) (pinned : Option (List ℕ))
    → slice_get h n ≡ Some (record { caller = caller; event = Filed version finding }) → pinned_name h version ≡ pinned → IfSome old (IsMark h (suc n) m)
    → IfSome (filed_on pinned version n m old) (IsMark h (suc n) m)
filed_case h n m caller version finding old None is at before = before
filed_case h n m caller version finding old (Some pinned) is at before = by (bytes_eq pinned m) refl old before
  where
    by : (b : Bool) → bytes_eq pinned m ≡ b → (o : Option Mark) → IfSome o (IsMark h (suc n) m) → IfSome (cond b (option_map (mark_filed version n) o) o) (IsMark h (suc n) m)
    by false same o known = known
    by true same None known = tt
    by true same (Some mark) known =
        let name : pinned ≡ m = (bytes_eq-Decides pinned m).0 same in
        filed_mark h n m caller version finding mark (nat_lt mark.changed version) is (at ∙ ap (λ (x : List ℕ). Some x) name) refl known

step_sound : (h : List Entry) (n : ℕ) (m : List ℕ) (caller : ℕ) (event : Event) (old : Option Mark) → slice_get h n ≡ Some (record { caller = caller; event = event }) → IfSome old (IsMark h n m)
    → IfSome (mark_step h n event m old) (IsMark h (suc n) m)
step_sound h n m caller (Quoted key odds limit line) old is before =
    quoted_case h n m (record { caller = caller; event = Quoted key odds limit line }) old (bytes_eq key.match_name m) refl is before
step_sound h n m caller (Withdrawn key line) old is before =
    withdrawn_case h n m (record { caller = caller; event = Withdrawn key line }) old (bytes_eq key.match_name m) refl is before
step_sound h n m caller (Filed version finding) old is before =
    filed_case h n m caller version finding old (pinned_name h version) is refl (extend h n m (record { caller = caller; event = Filed version finding }) old is refl before)
step_sound h n m caller (Ended feed stop) old is before = extend h n m (record { caller = caller; event = Ended feed stop }) old is refl before
step_sound h n m caller (Pinned name) old is before = extend h n m (record { caller = caller; event = Pinned name }) old is refl before
step_sound h n m caller (Released version) old is before = extend h n m (record { caller = caller; event = Released version }) old is refl before

-- what each mark says is so
pub marks_sound : (h : List Entry) (m : List ℕ) (n : ℕ) → n ≤ length h → IfSome (mark_at h n m) (IsMark h n m)
marks_sound h m zero within = tt
marks_sound h m (suc n) within =
    let next = take_next h n (omega (arith, within)) in
    subst (λ (o : Option Mark). IfSome o (IsMark h (suc n) m)) (sym (mark_next h n next.0 m next.1))
    (step_sound h n m next.0.caller next.0.event (mark_at h n m) next.1 (marks_sound h m n (omega (arith, within))))

-- a match that was quoted has a mark, and no other has

quoted_some : (b : Bool) (old : Option Mark) (mark : Mark) → is_some (cond b (Some mark) old) ≡ (is_some old || b)
quoted_some true old mark = sym (or-true (is_some old))
quoted_some false old mark = sym (or-false (is_some old))

withdrawn_some : (b : Bool) (old : Option Mark) (f : Mark → Mark) → is_some (cond b (option_map f old) old) ≡ (is_some old || false)
withdrawn_some true None f = refl
withdrawn_some true (Some mark) f = refl
withdrawn_some false old f = sym (or-false (is_some old))

filed_some : (pinned : Option (List ℕ)) (version place : ℕ) (m : List ℕ) (old : Option Mark) → is_some (filed_on pinned version place m old) ≡ (is_some old || false)
filed_some None version place m old = sym (or-false (is_some old))
filed_some (Some pinned) version place m old = withdrawn_some (bytes_eq pinned m) old (mark_filed version place)

step_some : (h : List Entry) (n : ℕ) (m : List ℕ) (caller : ℕ) (event : Event) (old : Option Mark) → is_some (mark_step h n event m old) ≡ (is_some old || quotes_match m (record { caller = caller; event = event }))
step_some h n m caller (Quoted key odds limit line) old = quoted_some (bytes_eq key.match_name m) old (changed_at n)
step_some h n m caller (Withdrawn key line) old = withdrawn_some (bytes_eq key.match_name m) old (λ _. changed_at n)
step_some h n m caller (Filed version finding) old = filed_some (pinned_name h version) version n m old
step_some h n m caller (Ended feed stop) old = sym (or-false (is_some old))
step_some h n m caller (Pinned name) old = sym (or-false (is_some old))
step_some h n m caller (Released version) old = sym (or-false (is_some old))

pub marks_quoted : (h : List Entry) (m : List ℕ) (n : ℕ) → n ≤ length h → is_some (mark_at h n m) ≡ list_any (quotes_match m) (take n h)
marks_quoted h m zero within = refl
marks_quoted h m (suc n) within =
    let next = take_next h n (omega (arith, within)) in
    ap is_some (mark_next h n next.0 m next.1)
    ∙ (step_some h n m next.0.caller next.0.event (mark_at h n m)
    ∙ (ap (λ (b : Bool). b || quotes_match m next.0) (marks_quoted h m n (omega (arith, within)))
    ∙ sym (ap (list_any (quotes_match m)) next.2 ∙ (list_any-append (quotes_match m) (take n h) (next.0 ∷ []) ∙ ap (λ (b : Bool). list_any (quotes_match m) (take n h) || b) (or-false (quotes_match m next.0))))))

-- where a finding is filed for a pin of the match after its last change, its mark has one

abbrev pub HasFiled : Option Mark → Type 0
HasFiled mark = IfSome mark (λ mark. IsSome mark.filed)

kept_filed : (version place : ℕ) (b : Bool) (mark : Mark) → IsSome mark.filed → IsSome (cond b (record { changed = mark.changed; filed = Some place }) mark).filed
kept_filed version place true mark has = refl
kept_filed version place false mark has = has

kept_on : (pinned : Option (List ℕ)) (version place : ℕ) (m : List ℕ) (old : Option Mark) → HasFiled old → HasFiled (filed_on pinned version place m old)
kept_on None version place m old has = has
kept_on (Some pinned) version place m old has = by (bytes_eq pinned m) old has
  where
    by : (b : Bool) (o : Option Mark) → HasFiled o → HasFiled (cond b (option_map (mark_filed version place) o) o)
    by false o known = known
    by true None known = tt
    by true (Some mark) known = kept_filed version place (nat_lt mark.changed version) mark known

step_keeps : (h : List Entry) (n : ℕ) (m : List ℕ) (event : Event) (old : Option Mark) → changes m event ≡ false → HasFiled old → HasFiled (mark_step h n event m old)
step_keeps h n m (Quoted key odds limit line) old same has = subst (λ (b : Bool). HasFiled (cond b (Some (changed_at n)) old)) (sym same) has
step_keeps h n m (Withdrawn key line) old same has = subst (λ (b : Bool). HasFiled (cond b (option_map (λ _. changed_at n) old) old)) (sym same) has
step_keeps h n m (Filed version finding) old same has = kept_on (pinned_name h version) version n m old has
step_keeps h n m (Ended feed stop) old same has = has
step_keeps h n m (Pinned name) old same has = has
step_keeps h n m (Released version) old same has = has

-- the finding itself is filed
step_files : (h : List Entry) (n : ℕ) (m : List ℕ) (version : ℕ) (old : Option Mark) → pinned_name h version ≡ Some m → IfSome old (λ mark. mark.changed < version) → HasFiled (filed_on (pinned_name h version) version n m old)
step_files h n m version None pinned later = subst (λ (o : Option (List ℕ)). HasFiled (filed_on o version n m None)) (sym pinned) (none (bytes_eq m m))
  where
    none : (b : Bool) → HasFiled (cond b (option_map (mark_filed version n) None) None)
    none true = tt
    none false = tt
step_files h n m version (Some mark) pinned later =
    subst (λ (o : Option (List ℕ)). HasFiled (filed_on o version n m (Some mark))) (sym pinned)
    (subst (λ (b : Bool). HasFiled (cond b (Some (mark_filed version n mark)) (Some mark))) (sym ((bytes_eq-Decides m m).1 refl))
    (subst (λ (b : Bool). IsSome (cond b (record { changed = mark.changed; filed = Some n }) mark).filed) (sym (lt-ltb mark.changed version later)) refl))

change_before : (h : List Entry) (m : List ℕ) (new : HasNewFinding h m) (n : ℕ) (old : Option Mark) → IfSome old (IsMark h n m) → IfSome old (λ mark. mark.changed < new.version)
change_before h m new n None sound = tt
change_before h m new n (Some mark) sound = elim (cases_lt mark.changed new.version) [
  | inl before ↦ before
  | inr past ↦ let none : changes m sound.entry.event ≡ false = new.newest mark.changed sound.entry past sound.is in absurd (let both : true ≡ false = sym sound.change ∙ none in cc)
]

pub marks_found : (h : List Entry) (m : List ℕ) (new : HasNewFinding h m) → new.version ≤ new.filed → (n : ℕ) → new.filed < n → n ≤ length h → HasFiled (mark_at h n m)
marks_found h m new order zero behind within = absurd (omega (arith, behind))
marks_found h m new order (suc n) behind within =
    let next = take_next h n (omega (arith, within)) in
    subst HasFiled (sym (mark_next h n next.0 m next.1)) (elim (cases_lt new.filed n) [
      | inl before ↦
          step_keeps h n m next.0.event (mark_at h n m) (new.newest n next.0 (omega (arith, before, order)) next.1) (marks_found h m new order n before (omega (arith, within)))
      | inr past ↦
          let here : new.filed ≡ n = omega (arith, past, behind) in
          let entry : record { caller = new.caller; event = Filed new.version new.finding } ≡ next.0 = one_entry h n _ next.0 (ap (slice_get h) (sym here) ∙ new.is_filed) next.1 in
          subst (λ (e : Entry). HasFiled (mark_step h n e.event m (mark_at h n m))) entry
          (step_files h n m new.version (mark_at h n m) new.pinned (change_before h m new n (mark_at h n m) (marks_sound h m n (omega (arith, within)))))
    ])
