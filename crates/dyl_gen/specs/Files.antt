-- The files of the generated set.
-- This profile: docs/FORMATS.md, "The generated set".
use Rattle.std.specs.Prelude.{◌≡◌, ◌≢◌, ◌⊎◌, ℕ, ◌<◌, ◌≤◌, List, [], length, None, IsSomeAnd}
use Rattle.std.specs.FinMap.{get, insert}
use Rattle.wasm_form.specs.declared.module.Module.{Module}
use Rattle.spec_reading.specs.spec_binary.Number.{IsShortest}
use Rattle.spec_reading.specs.spec_binary.Modules.{SpellsModule}
use Rattle.spec_linking.specs.Records.{HasRecord}
use Rattle.dyl_outside.specs.FileMap.{FileMap}
use Rattle.dyl_outside.specs.MemFiles.{MemFilesState}
use Rattle.dyl_section.specs.declared.record.Dylink.{Dylink}
use Rattle.dyl_section.specs.Recorded.{record_of}
use Rattle.dyl_section.specs.Written.{IsWritten}
use Rattle.dyl_gen.specs.Generated.{file_name, further_name, dylink, no_dylink, member, further}

-- The bytes spell the module whose `dylink.0` section says this, which is its record, and none that spell it are fewer. The section holds the
-- numbers of the record and then the lists that aren't empty, with every number in its shortest form. The bytes are few.
pub record IsFile (d : Dylink) (module_with : List ℕ → Module) (bytes : List ℕ) : Type 0 where
  pub note : List ℕ
  pub written : IsWritten d note
  pub recorded : HasRecord (module_with note) (record_of d)
  pub spelled : IsShortest (SpellsModule (module_with note)) bytes
  pub few : length bytes ≤ 8192

-- the file of member k of n, and the further one
abbrev pub IsMemberFile : ℕ → ℕ → List ℕ → Type 0
IsMemberFile n k bytes = IsFile (dylink n k) (member n k) bytes

abbrev pub IsFurtherFile : List ℕ → Type 0
IsFurtherFile bytes = IsFile no_dylink further bytes

-- the path of a member of n or of the further file
abbrev pub IsPath : ℕ → List ℕ → Type 0
IsPath n path = (path ≡ further_name) ⊎ ((k : ℕ) × (k < n) × (path ≡ file_name k))

-- These are the files of the set of n members, and there are no others.
pub record AreGenerated (n : ℕ) (files : FileMap) : Type 0 where
  pub members : (k : ℕ) → k < n → IsSomeAnd (get files (file_name k)) (IsMemberFile n k)
  pub further : IsSomeAnd (get files further_name) IsFurtherFile
  pub alone : (path : List ℕ) → get files path ≢ None → IsPath n path

-- ---- how they are added

-- files of which none was asked for, and where no call is to fail
abbrev pub fresh : FileMap → MemFilesState
fresh files = record { files = files; failing = []; next_call = 0; read_faults = 0; write_faults = 0; absents = 0 }

-- such files, which are those of the first k members
pub record HasFirst (n k : ℕ) (s : MemFilesState) : Type 0 where
  pub state : s ≡ fresh s.files
  pub members : (j : ℕ) → j < k → IsSomeAnd (get s.files (file_name j)) (IsMemberFile n j)
  pub alone : (path : List ℕ) → get s.files path ≢ None → (j : ℕ) × (j < k) × (path ≡ file_name j)

-- a file with such bytes was added at a path
pub record Adds (path : List ℕ) (Is : List ℕ → Type 0) (old new : MemFilesState) : Type 0 where
  pub bytes : List ℕ
  pub is : Is bytes
  pub state : new ≡ record old { files = insert old.files path bytes }
