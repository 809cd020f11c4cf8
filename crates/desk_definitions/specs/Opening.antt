-- The sources of the named feeds, as an opener tells and gives them.
use Rattle.std.specs.Prelude.{ℕ, ◌≡◌, ◌<◌, ◌≤◌, ◌+◌, List, [], ◌∷◌, length, take, Option, Some, IfSome, MatchOption, ⊤, slice_index_or}
use Rattle.outside_definitions.specs.Faults.{Rose}
use Rattle.outside_definitions.specs.Opener.{Told, TakenUnder, times, next_under}
use Rattle.desk_definitions.specs.Seen.{OpenerSeen}

-- the bytes of the source that is opened under name number k of these, one after another
abbrev pub told_bytes : Told → List (List ℕ) → ℕ → Option (List ℕ)
told_bytes told names k = next_under (take k names) (slice_index_or names k []) told

-- the opener has a source for each of these names: under each name of which it tells, at least as many as the name stands among them
abbrev pub HasSources : Told → List (List ℕ) → Type 0
HasSources told names = (name : List ℕ) → IfSome (told name) (λ sources. times name names ≤ length sources)

-- the opener tells that it has no source for name number k of these: under that name no more than it stands among the names before
pub record LacksSource (told : Told) (names : List (List ℕ)) (k : ℕ) : Type 0 where
  pub sources : List (List ℕ)
  pub are_told : told (slice_index_or names k []) ≡ Some sources
  pub too_few : length sources ≤ times (slice_index_or names k []) (take k names)

-- a source that was just opened: no read of it failed, and it has left what the opener told
pub record IsOpened {S : Type 0} (left : S → Option (List ℕ)) (faults : S → ℕ) (told : Option (List ℕ)) (source : S) : Type 0 where
  pub fresh : faults source ≡ 0
  pub tells : MatchOption told ⊤ (λ bytes. left source ≡ Some bytes)

-- these sources were opened for the feeds from this number on
abbrev pub AreOpened : {S : Type 0} → (S → Option (List ℕ)) → (S → ℕ) → (ℕ → Option (List ℕ)) → ℕ → List S → Type 0
AreOpened left faults told number [] = Unit {0}
AreOpened left faults told number (source ∷ sources) = IsOpened left faults (told number) source × AreOpened left faults told (number + 1) sources

-- a source was opened for each name, in order, and nothing else was opened; no opening failed
pub record OpensAll (names : List (List ℕ)) (opener : OpenerSeen) : Type 0 where
  pub taken : TakenUnder names opener.told opener.told_after
  pub enough : HasSources opener.told names
  pub no_fault : opener.faults_after ≡ opener.faults_before

-- the opening under name number k failed, and the count of faults rose. A source was opened for each name before, and nothing else was
-- opened; with the opener's promise it has none for this name
pub record FailsAt (names : List (List ℕ)) (opener : OpenerSeen) (k : ℕ) : Type 0 where
  pub is_named : k < length names
  pub taken : TakenUnder (take k names) opener.told opener.told_after
  pub earlier : HasSources opener.told (take k names)
  pub fault : Rose opener.faults_before opener.faults_after
  pub lacks : opener.opens_told → LacksSource opener.told names k

-- no memory was left after so many openings, none of which failed
pub record StopsAt (names : List (List ℕ)) (opener : OpenerSeen) (k : ℕ) : Type 0 where
  pub few : k ≤ length names
  pub taken : TakenUnder (take k names) opener.told opener.told_after
  pub earlier : HasSources opener.told (take k names)
  pub no_fault : opener.faults_after ≡ opener.faults_before
