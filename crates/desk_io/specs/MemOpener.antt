-- Files in memory and their opener, as contracts see them.
use Rattle.std.specs.Prelude.{◌≡◌, List, ◌∷◌, ℕ, All, filter, map, []}
use Rattle.std.specs.Str.{bytes_eq}
use Rattle.desk_io.specs.MemSource.{SourceState}

-- a file's name and bytes, how many of them a read gives at most, and the numbers of the reads that fail
pub record FileState : Type 0 where
  pub name : List ℕ
  pub bytes : List ℕ
  pub piece : ℕ
  pub failing : List ℕ

-- the files still to be opened, the numbers of the openings that fail, and the counts of openings and of faults
pub record OpenerState : Type 0 where
  pub files : List FileState
  pub failing : List ℕ
  pub openings : ℕ
  pub faults : ℕ

-- the files of this name, in order
abbrev pub files_under : List ℕ → List FileState → List FileState
files_under name files = filter (λ file. bytes_eq file.name name) files

-- their bytes
abbrev pub bytes_under : List ℕ → List FileState → List (List ℕ)
bytes_under name files = map (λ file. file.bytes) (files_under name files)

-- the file as a source that nothing was read from
abbrev pub unread : FileState → SourceState
unread file = record { left = file.bytes; piece = file.piece; failing = file.failing; reads = 0; faults = 0 }

-- the source is the first file of this name, unread, and the others are still to be opened
pub record OpensFirstFile (name : List ℕ) (old new : List FileState) (source : SourceState) : Type 0 where
  pub file : FileState
  pub first : files_under name old ≡ file ∷ files_under name new
  pub unread_yet : source ≡ unread file

-- no read of any of the files fails
abbrev pub AllNeverFail : List FileState → Type 0
AllNeverFail files = All (λ file. file.failing ≡ []) files
