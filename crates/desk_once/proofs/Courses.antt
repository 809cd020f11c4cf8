-- A run over the feeds of some names, from opening them on.
use Rattle.std.proofs.Common.{◌≡◌, ℕ, ◌+◌, List, [], ◌∷◌, length, Option, None, sym, subst, inl, inr}
use Rattle.std.specs.Prelude.{⊤}
use Rattle.desk_definitions.specs.Seen.{OpenerSeen, SinkSeen}
use Rattle.desk_definitions.specs.Opening.{AreOpened, IsOpened, OpensAll, told_bytes}
use Rattle.desk_definitions.specs.Course.{IsCourse, Outcome}
use Rattle.desk_once.specs.Outcomes.{RunsSo}

-- without what was told
pub untold : {S : Type 0} (left : S → Option (List ℕ)) (faults : S → ℕ) (told : ℕ → Option (List ℕ)) (number : ℕ) (sources : List S) → AreOpened left faults told number sources
    → AreOpened left faults (λ _. None) number sources
untold left faults told number [] h = tt
untold left faults told number (source ∷ sources) h = (record { fresh = h.0.fresh; tells = tt }, untold left faults told (number + 1) sources h.1)

pub opened_course : {S : Type 0} (left : S → Option (List ℕ)) (faults : S → ℕ) (names : List (List ℕ)) (budget count : ℕ) (opener : OpenerSeen) (out : Outcome S) (status : ℕ) (sink : SinkSeen)
    → OpensAll names opener → count ≡ length names → RunsSo left faults (told_bytes opener.told names) count budget out status sink → IsCourse left faults names budget opener out status sink
opened_course left faults names budget count opener out status sink opens same runs =
    let P : ℕ → Type 0 = λ n. RunsSo left faults (told_bytes opener.told names) n budget out status sink in
    elim (subst P same runs) [
      | inl due ↦ inl (due.0, inr (opens, due.1), due.2)
      | inr cut ↦ inr (cut.0, cut.1, inr (opens, cut.2))
    ]
