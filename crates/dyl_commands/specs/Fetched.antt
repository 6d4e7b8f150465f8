-- What comes of reading the file at a path, of a module or of a trace.
-- Cited by no clause of `serve`: what its parts promise.
-- Serves the contracts of this crate, which follow OneFile and Traced of `dyl_commands`.
use Rattle.std.specs.Prelude.{◌≡◌, ◌<◌, ◌≤◌, ℕ, List, length, false, None, Some, IsSomeAnd, IfOk, IfErr, OnOk, Result, Ok, Err, Vec}
use Rattle.std.specs.declared.alloc.Global.{Global}
use Rattle.std.specs.Option.{ForSome}
use Rattle.std.specs.FinMap.{get}
use Rattle.wasm_form.specs.declared.module.Module.{Module}
use Rattle.spec_hosts.specs.dyl_outside.Faults.{Rises, RisesByOne}
use Rattle.spec_hosts.specs.dyl_outside.Files.{FilesState}
use Rattle.spec_reading.specs.spec_binary.declared.fault.DecodeFault.{DecodeFault}
use Rattle.spec_reading.specs.spec_binary.declared.fault.DecodeFault.TheVariants as decode
use Rattle.spec_loading.specs.spec_validation.declared.fault.CheckFault.{CheckFault}
use Rattle.spec_loading.specs.spec_validation.declared.fault.CheckFault.TheVariants as check
use Rattle.spec_loading.specs.spec_linking.declared.fault.SetFault.{SetFault}
use Rattle.spec_loading.specs.spec_linking.declared.fault.SetFault.TheVariants.{Missing, ReadFault, Decode, Check, SetSize, Memory}
use Rattle.spec_loading.specs.spec_linking.Sets.{Files, main_name}
use Rattle.dyl_commands.specs.OneFile.{most_run, OfBytes, TellsFile}
use Rattle.dyl_commands.specs.Causes.{FileCause, TraceFileCause, wants_inside}

-- how a fault of module 0 is answered
abbrev pub decode_fault : DecodeFault → SetFault
decode_fault decode.Memory = Memory
decode_fault fault = Decode 0 fault

abbrev pub check_fault : CheckFault → SetFault
check_fault check.Memory = Memory
check_fault fault = Check 0 fault

-- that there is no file at a path, or that it can't be read; or there was no memory to say so
abbrev pub IsMissing : List ℕ → SetFault → Type 0
IsMissing path (Missing name) = name ≡ main_name path
IsMissing path Memory = Unit {0}
IsMissing path _ = ⊥

abbrev pub IsUnread : List ℕ → SetFault → Type 0
IsUnread path (ReadFault at) = at ≡ path
IsUnread path Memory = Unit {0}
IsUnread path _ = ⊥

-- this is said, or memory was wanting
abbrev pub OrMemory : (Result Module SetFault → Type 0) → Result Module SetFault → Type 0
OrMemory Said (Err Memory) = Unit {0}
OrMemory Said said = Said said

-- some bytes spell the module, no more than may be
pub record IsOfSome (wasm : Module) : Type 0 where
  pub bytes : List ℕ
  pub few : length bytes ≤ most_run
  pub said : OfBytes bytes (Ok wasm)

-- the one fetch failed, or found no file, exactly where that is answered
abbrev pub FileReads : {A : Type 0} → Result A SetFault → ℕ → ℕ → Type 0
FileReads (Err (ReadFault at)) before now = Rises before now
FileReads (Err Memory) before now = before ≤ now
FileReads _ before now = now ≡ before

abbrev pub FileAbsents : {A : Type 0} → Result A SetFault → ℕ → ℕ → Type 0
FileAbsents (Err (Missing name)) before now = RisesByOne before now
FileAbsents (Err Memory) before now = before ≤ now
FileAbsents _ before now = now ≡ before

-- what there is to say of the bytes at a path, or what is answered in their place
abbrev pub TellsBytes : Files → List ℕ → Result (Vec ℕ Global) SetFault → Type 0
TellsBytes files path (Ok bytes) = files path ≡ Some bytes.items
TellsBytes files path (Err (Missing name)) = (files path ≡ None) × (name ≡ main_name path)
TellsBytes files path (Err SetSize) = IsSomeAnd (files path) (λ bytes. most_run < length bytes)
TellsBytes files path (Err (ReadFault at)) = at ≡ path
TellsBytes files path (Err Memory) = Unit {0}
TellsBytes files path (Err _) = ⊥

-- why they aren't had, whatever the files tell
abbrev pub NoBytesCause : List ℕ → SetFault → FilesState → FilesState → Type 0
NoBytesCause path Memory old new = Unit {0}
NoBytesCause path fault old new = TraceFileCause path fault old new

-- What comes of fetching the file.
pub record FetchesFile (path : List ℕ) (result : Result (Vec ℕ Global) SetFault) (old new : FilesState) : Type 0 where
  pub tells : ForSome old.told (λ told. TellsBytes (get told) path result)
  pub few : IfOk result (λ bytes. length bytes.items ≤ most_run)
  pub caused : IfErr result (λ fault. NoBytesCause path fault old new)
  pub files : new.told ≡ old.told
  pub reads : FileReads result old.read_faults new.read_faults
  pub writes : new.write_faults ≡ old.write_faults
  pub absents : FileAbsents result old.absents new.absents
  pub same : OnOk result (new ≡ old)

-- What comes of reading the file: what there is to say of it where the files are told; and, whatever they tell, a module that some bytes
-- spell, or a fault that has its cause.
pub record ReadsFile (path : List ℕ) (result : Result Module SetFault) (old new : FilesState) : Type 0 where
  pub tells : ForSome old.told (λ told. TellsFile (get told) path result)
  pub spelled : IfOk result IsOfSome
  pub caused : IfErr result (λ fault. FileCause path fault old new)
  pub inner : IfErr result (λ fault. wants_inside fault ≡ false)
  pub files : new.told ≡ old.told
  pub reads : FileReads result old.read_faults new.read_faults
  pub writes : new.write_faults ≡ old.write_faults
  pub absents : FileAbsents result old.absents new.absents
