-- What a run was seen to do to its opener and its sink.
use Rattle.std.specs.Prelude.{ℕ, ◌≡◌, ◌⊎◌, List, Option}
use Rattle.std.specs.Io.KnownBytes.{Appends}
use Rattle.outside_definitions.specs.Faults.{Rose}
use Rattle.outside_definitions.specs.Opener.{Told}
use Rattle.outside_definitions.specs.Sink.{AppendsPrefix}
use Rattle.desk_definitions.specs.declared.status.TheConstants.{NOT_WRITTEN}

-- what an opener tells of its sources, before and after; its promises that no read of a source fails, and that an opening fails only under
-- a name that has no source left; and its counts of failed openings
pub record OpenerSeen : Type 1 where
  pub told : Told
  pub told_after : Told
  pub promises : Type 0
  pub opens_told : Type 0
  pub faults_before : ℕ
  pub faults_after : ℕ

abbrev pub opener_seen : {O : Type 0} → (O → Told) → (O → Type 0) → (O → Type 0) → (O → ℕ) → O → O → OpenerSeen
opener_seen told promises opens_told faults before after =
    record {
      told = told before;
      told_after = told after;
      promises = promises before;
      opens_told = opens_told before;
      faults_before = faults before;
      faults_after = faults after;
    }

-- what a sink tells as written, and its counts of failed writes, before and after
pub record SinkSeen : Type 0 where
  pub written_before : Option (List ℕ)
  pub written_after : Option (List ℕ)
  pub faults_before : ℕ
  pub faults_after : ℕ

abbrev pub sink_seen : {K : Type 0} → (K → Option (List ℕ)) → (K → ℕ) → K → K → SinkSeen
sink_seen written faults before after =
    record {
      written_before = written before;
      written_after = written after;
      faults_before = faults before;
      faults_after = faults after;
    }

-- what a run has to write, and the status that goes with it
pub record Due : Type 0 where
  pub status : ℕ
  pub text : List ℕ

-- the text was written, and no write failed
pub record IsWhollyWritten (due : Due) (status : ℕ) (sink : SinkSeen) : Type 0 where
  pub status_is : status ≡ due.status
  pub written : Appends sink.written_before sink.written_after due.text
  pub no_fault : sink.faults_after ≡ sink.faults_before

-- a write failed after a part of the text
pub record IsPartlyWritten (due : Due) (status : ℕ) (sink : SinkSeen) : Type 0 where
  pub status_is : status ≡ NOT_WRITTEN
  pub written : AppendsPrefix sink.written_before sink.written_after due.text
  pub fault : Rose sink.faults_before sink.faults_after

abbrev pub IsWritten : Due → ℕ → SinkSeen → Type 0
IsWritten due status sink = IsWhollyWritten due status sink ⊎ IsPartlyWritten due status sink
