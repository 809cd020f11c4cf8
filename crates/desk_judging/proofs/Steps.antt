-- One judgment on the board, by its two entries.
use Rattle.std.proofs.Common.{◌≡◌, ℕ, suc, ◌≤◌, Bool, true, false, ⊎_elim, List, [], ◌∷◌, ◌++◌, length, refl, sym, ap, ap₂, ◌∙◌, subst, arith, append_assoc, eq-eqb}
use Rattle.std.specs.Prelude.{Option}
use Rattle.scan_types.specs.declared.offer.Offer.{Offer}
use Rattle.scan_types.specs.declared.rule.VoidRule.{VoidRule}
use Rattle.finding_definitions.specs.declared.finding.Finding.{Finding}
use Rattle.board_definitions.specs.declared.event.Event.TheVariants.{Pinned}
use Rattle.board_definitions.specs.declared.event.Entry.{Entry}
use Rattle.board_definitions.specs.declared.pin.Pin.{Pin}
use Rattle.board_definitions.specs.Entries.{closes}
use Rattle.board_definitions.specs.Sheets.{sheet}
use Rattle.board_definitions.specs.Pins.{IsLive, HasNoPin, IsLongestDue}
use Rattle.board_definitions.proofs.Live.{sheet_stays}
use Rattle.board_definitions.proofs.More.{live_back, live_new}
use Rattle.quote_board.specs.Answers.{next_pin}
use Rattle.desk_definitions.specs.Judged.{pinned_entry, filed_entry, released_entry, JudgesLongestDue, IsJudged, GivesUpLongestDue}
use Rattle.desk_judging.proofs.Waiting.{waiting, waiting_most, waiting_less}

-- the pin is live once it is made
pub live_pinned : (before middle : List Entry) (caller : ℕ) (pin : Pin) → pin ≡ next_pin before caller pin.match_name → middle ≡ before ++ pinned_entry caller pin.match_name ∷ [] → IsLive middle pin
live_pinned before middle caller pin is entries =
    let caller_is : pin.caller ≡ caller = ap (λ (p : Pin). p.caller) is in
    let live = live_new before pin (ap (λ (p : Pin). p.version) is) in
    subst (λ h. IsLive h pin) (ap (λ c. before ++ pinned_entry c pin.match_name ∷ []) caller_is ∙ sym entries) live

two_behind : (before : List Entry) (a b : Entry) (middle after : List Entry) → middle ≡ before ++ a ∷ [] → after ≡ middle ++ b ∷ [] → after ≡ before ++ a ∷ b ∷ []
two_behind before a b middle after first next = next ∙ ap (λ h. h ++ b ∷ []) first ∙ append_assoc before (a ∷ []) (b ∷ [])

-- a finding is filed for the pin
pub judged_one : (rules : List (Option VoidRule)) (allows : List Offer → Finding → Type 0) (caller : ℕ) (before middle after : List Entry) (pin : Pin) (finding : Finding) → IsLongestDue before pin.match_name → pin ≡ next_pin before caller pin.match_name → middle ≡ before ++ pinned_entry caller pin.match_name ∷ [] → allows (sheet rules middle pin.version pin.match_name) finding → after ≡ middle ++ filed_entry pin.caller pin.version finding ∷ [] → JudgesLongestDue rules allows caller before after
judged_one rules allows caller before middle after pin finding longest is pinned allowed filed =
    let caller_is : pin.caller ≡ caller = ap (λ (p : Pin). p.caller) is in
    let version_is : pin.version ≡ length before = ap (λ (p : Pin). p.version) is in
    let m = pin.match_name in
    let same_sheet : sheet rules middle pin.version m ≡ sheet rules before (length before) m =
    ap₂ (λ h v. sheet rules h v m) pinned version_is ∙ sheet_stays rules before (pinned_entry caller m ∷ []) (length before) m (omega arith) in
    record {
      match_name = m;
      longest = longest;
      finding = finding;
      allowed = subst (λ s. allows s finding) same_sheet allowed;
      entries = two_behind before (pinned_entry caller m) (filed_entry caller (length before) finding) middle after pinned (filed ∙ ap₂ (λ c v. middle ++ filed_entry c v finding ∷ []) caller_is version_is);
    }

-- the pin is given up
pub given_up : (caller : ℕ) (before middle after : List Entry) (pin : Pin) → IsLongestDue before pin.match_name → pin ≡ next_pin before caller pin.match_name → middle ≡ before ++ pinned_entry caller pin.match_name ∷ [] → after ≡ middle ++ released_entry pin.caller pin.version ∷ [] → GivesUpLongestDue caller before after
given_up caller before middle after pin longest is pinned released =
    let caller_is : pin.caller ≡ caller = ap (λ (p : Pin). p.caller) is in
    let version_is : pin.version ≡ length before = ap (λ (p : Pin). p.version) is in
    record {
      match_name = pin.match_name;
      longest = longest;
      entries = two_behind before (pinned_entry caller pin.match_name) (released_entry caller (length before)) middle after pinned (released ∙ ap₂ (λ c v. middle ++ released_entry c v ∷ []) caller_is version_is);
    }

clash : (b : Bool) → b ≡ true → b ≡ false → ⊥
clash true e h = cc h
clash false e h = cc e

-- the caller has no pin once its own is closed
closed_after : (before : List Entry) (caller : ℕ) (m : List ℕ) (e : Entry) → HasNoPin before caller → closes (length before) e.event ≡ true → ((other : ℕ) (n : List ℕ) → e ≡ pinned_entry other n → ⊥) → HasNoPin (before ++ pinned_entry caller m ∷ e ∷ []) caller
closed_after before caller m e none closed quiet pin of_ live =
    let p = pinned_entry caller m in
    let long : IsLive ((before ++ p ∷ []) ++ e ∷ []) pin = subst (λ h. IsLive h pin) (sym (append_assoc before (p ∷ []) (e ∷ []))) live in
    ⊎_elim
    (λ (was : IsLive (before ++ p ∷ []) pin × (closes pin.version e.event ≡ false)).
    ⊎_elim
    (λ (old : IsLive before pin × (closes pin.version p.event ≡ false)). none pin of_ old.0)
    (λ (new : (pin.version ≡ length before) × (p ≡ record { caller = pin.caller; event = Pinned pin.match_name })).
    clash (closes pin.version e.event) (ap (λ v. closes v e.event) new.0 ∙ closed) was.1)
    (live_back before p pin was.0))
    (λ (last : (pin.version ≡ length (before ++ p ∷ [])) × (e ≡ record { caller = pin.caller; event = Pinned pin.match_name })). quiet pin.caller pin.match_name last.1)
    (live_back (before ++ p ∷ []) e pin long)

not_pinned_filed : (caller version : ℕ) (finding : Finding) (other : ℕ) (n : List ℕ) → filed_entry caller version finding ≡ pinned_entry other n → ⊥
not_pinned_filed caller version finding other n e = let f = ap (λ (x : Entry). x.event) e in cc f

not_pinned_released : (caller version other : ℕ) (n : List ℕ) → released_entry caller version ≡ pinned_entry other n → ⊥
not_pinned_released caller version other n e = let f = ap (λ (x : Entry). x.event) e in cc f

pub no_pin_after_judging : (rules : List (Option VoidRule)) (allows : List Offer → Finding → Type 0) (caller : ℕ) (before after : List Entry) → HasNoPin before caller → JudgesLongestDue rules allows caller before after → HasNoPin after caller
no_pin_after_judging rules allows caller before after none judges =
    let v = length before in
    subst (λ h. HasNoPin h caller) (sym judges.entries) (closed_after before caller judges.match_name (filed_entry caller v judges.finding) none (eq-eqb v v refl) (not_pinned_filed caller v judges.finding))

pub no_pin_after_release : (caller : ℕ) (before after : List Entry) → HasNoPin before caller → GivesUpLongestDue caller before after → HasNoPin after caller
no_pin_after_release caller before after none gives =
    let v = length before in
    subst (λ h. HasNoPin h caller) (sym gives.entries) (closed_after before caller gives.match_name (released_entry caller v) none (eq-eqb v v refl) (not_pinned_released caller v))

-- one more is judged
pub judged_more : (rules : List (Option VoidRule)) (allows : List Offer → Finding → Type 0) (caller : ℕ) (before middle after : List Entry) → IsJudged rules allows caller before middle → JudgesLongestDue rules allows caller middle after → IsJudged rules allows caller before after
judged_more rules allows caller before middle after judged one = (suc judged.0, (middle, judged.1, one))

-- fewer changes wait then
pub fewer_wait : (rules : List (Option VoidRule)) (allows : List Offer → Finding → Type 0) (caller : ℕ) (before after : List Entry) → JudgesLongestDue rules allows caller before after → suc (waiting after) ≤ waiting before
fewer_wait rules allows caller before after judges =
    let m = judges.match_name in
    let p = pinned_entry caller m in
    let f = filed_entry caller (length before) judges.finding in
    let less = waiting_less before m caller judges.longest.since judges.longest.due.change in
    let most = waiting_most (before ++ p ∷ []) f refl in
    let same : waiting after ≡ waiting ((before ++ p ∷ []) ++ f ∷ []) = ap waiting (judges.entries ∙ sym (append_assoc before (p ∷ []) (f ∷ []))) in
    omega (arith, less, most, same)
