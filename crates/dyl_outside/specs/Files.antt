-- What the calls on files answer.
-- This profile: docs/DECISIONS.md, "The outside".
use Rattle.std.specs.Prelude.{◌≡◌, ℕ, ◌<◌, ◌≤◌, List, length, Option, Some, None, IsSomeAnd, IfOk, Result, Ok, Err, Vec}
use Rattle.std.specs.Option.{ForSome}
use Rattle.std.specs.declared.alloc.Global.{Global}
use Rattle.std.specs.FinMap.{get, insert}
use Rattle.dyl_outside.specs.declared.fault.FileFault.{FileFault}
use Rattle.dyl_outside.specs.declared.fault.FileFault.TheVariants as fetch
use Rattle.dyl_outside.specs.declared.fault.IoFault.{IoFault}
use Rattle.dyl_outside.specs.declared.fault.IoFault.TheVariants as store
use Rattle.dyl_outside.specs.Faults.{Rises, RisesByOne, FaultCount}
use Rattle.dyl_outside.specs.FileMap.{FileMap, SameBut}

-- What is seen of files: the files, where they are told, and the counts of the fetches that failed, of the stores that failed, and of the
-- Absent answers, each of which stays at its last value, 2^64 - 1.
pub record FilesState : Type 0 where
  pub told : Option FileMap
  pub read_faults : ℕ
  pub write_faults : ℕ
  pub absents : ℕ

-- what a fetch may answer over these files
abbrev pub IsFetched : FileMap → List ℕ → ℕ → Result (Vec ℕ Global) FileFault → Type 0
IsFetched files path most (Ok bytes) = get files path ≡ Some bytes.items
IsFetched files path most (Err fetch.Absent) = get files path ≡ None
IsFetched files path most (Err fetch.TooLong) = IsSomeAnd (get files path) (λ bytes. most < length bytes)
IsFetched files path most (Err fetch.Failed) = Unit {0}
IsFetched files path most (Err fetch.Memory) = Unit {0}

-- the count of read faults rises at Failed, and at no other answer
abbrev pub ReadCount : {T : Type 0} → Result T FileFault → ℕ → ℕ → Type 0
ReadCount (Ok _) before now = now ≡ before
ReadCount (Err fetch.Absent) before now = now ≡ before
ReadCount (Err fetch.Failed) before now = Rises before now
ReadCount (Err fetch.TooLong) before now = now ≡ before
ReadCount (Err fetch.Memory) before now = now ≡ before

-- the count of Absent answers rises by one at Absent, and at no other answer does it rise
abbrev pub AbsentCount : {T : Type 0} → Result T FileFault → ℕ → ℕ → Type 0
AbsentCount (Ok _) before now = now ≡ before
AbsentCount (Err fetch.Absent) before now = RisesByOne before now
AbsentCount (Err fetch.Failed) before now = now ≡ before
AbsentCount (Err fetch.TooLong) before now = now ≡ before
AbsentCount (Err fetch.Memory) before now = now ≡ before

-- what is told after a store over these files
abbrev pub IsStored : {T : Type 0} → FileMap → List ℕ → List ℕ → Result T IoFault → Option FileMap → Type 0
IsStored files path bytes (Ok _) after = after ≡ Some (insert files path bytes)
IsStored files path bytes (Err store.Failed) after = IsSomeAnd after (SameBut path files)
IsStored files path bytes (Err store.Memory) after = after ≡ Some files

-- a fetch of the file at a path, of at most so many bytes
pub record Fetches (path : List ℕ) (most : ℕ) (result : Result (Vec ℕ Global) FileFault) (old new : FilesState) : Type 0 where
  pub answer : ForSome old.told (λ files. IsFetched files path most result)
  pub size : IfOk result (λ bytes. length bytes.items ≤ most)
  pub files : new.told ≡ old.told
  pub reads : ReadCount result old.read_faults new.read_faults
  pub writes : new.write_faults ≡ old.write_faults
  pub absents : AbsentCount result old.absents new.absents

-- a store of these bytes at a path
pub record Stores (path bytes : List ℕ) (result : Result (Unit {0}) IoFault) (old new : FilesState) : Type 0 where
  pub files : ForSome old.told (λ files. IsStored files path bytes result new.told)
  pub reads : new.read_faults ≡ old.read_faults
  pub writes : FaultCount result old.write_faults new.write_faults
  pub absents : new.absents ≡ old.absents
