-- What a call that writes a text to a sink came to.
use Rattle.std.specs.Prelude.{ℕ, ◌≡◌, ◌≤◌, List, ◌∷◌, ◌++◌, Option, Result, OnOk, OnErr}
use Rattle.std.specs.List.{flat_map}
use Rattle.std.specs.Io.KnownBytes.{Appends}
use Rattle.desk_io.specs.Faults.{Rose}
use Rattle.desk_io.specs.Sink.{AppendsPrefix}

-- all of the text was appended and no write failed, or some of it where a write failed; the counts are those of faults
pub record Wrote {E : Type 0} (before after : Option (List ℕ)) (faults_before faults_after : ℕ) (text : List ℕ) (result : Result Unit E) : Type 0 where
  pub written : OnOk result (Appends before after text)
  pub cut_short : OnErr result (AppendsPrefix before after text)
  pub failed : OnErr result (Rose faults_before faults_after)
  pub no_fault : OnOk result (faults_after ≡ faults_before)
  pub faults_kept : faults_before ≤ faults_after

-- the text was put behind what was held: a front of the two was appended and the rest is held, or some of the two was appended where a write failed
pub record Gathered {E : Type 0} (before after : Option (List ℕ)) (faults_before faults_after : ℕ) (held_before held_after text : List ℕ) (result : Result Unit E) : Type 0 where
  pub gathered : OnOk result ((front : List ℕ) × (front ++ held_after ≡ held_before ++ text) × Appends before after front)
  pub cut_short : OnErr result (AppendsPrefix before after (held_before ++ text))
  pub failed : OnErr result (Rose faults_before faults_after)
  pub no_fault : OnOk result (faults_after ≡ faults_before)
  pub faults_kept : faults_before ≤ faults_after

-- each field after a space
abbrev pub spaced : List (List ℕ) → List ℕ
spaced fields = flat_map (λ field. 32 ∷ field) fields
