-- What there is to say of the file at a path that is run: of the file, of its bytes, of the module that they spell, and of its opening.
-- Cited by every clause of `serve` that speaks of the file of `exec`, or of the one module of a trace.
-- This profile: docs/FORMATS.md, "The commands" and "How it ends".
use Rattle.std.specs.Prelude.{◌≡◌, ◌≤◌, ◌<◌, ℕ, List, length, None, Some, IsSomeAnd, Result, Ok, Err}
use Rattle.wasm_form.specs.declared.module.Module.{Module}
use Rattle.spec_hosts.specs.spec_runtime.Names.{HostNames}
use Rattle.spec_reading.specs.spec_binary.DecodeAnswers.{DecodeAnswer}
use Rattle.spec_loading.specs.spec_execution.declared.fault.SingleFault.{SingleFault}
use Rattle.spec_loading.specs.spec_execution.OneModule.{ModuleState, module_opening}
use Rattle.spec_loading.specs.spec_validation.Faults as validation
use Rattle.spec_loading.specs.spec_linking.declared.fault.SetFault.{SetFault}
use Rattle.spec_loading.specs.spec_linking.declared.fault.SetFault.TheVariants.{Missing, ReadFault, Decode, Check, SetSize, Memory}
use Rattle.spec_loading.specs.spec_linking.Sets.{Files, main_name}

-- the most bytes of a file that is run, or of the text of a trace
abbrev pub most_run : ℕ
most_run = 67108864

-- what there is to say of a module, which has number 0
abbrev pub OfModule : Module → Result Module SetFault → Type 0
OfModule wasm (Ok same) = (same ≡ wasm) × (validation.fault wasm ≡ None)
OfModule wasm (Err (Check member fault)) = (member ≡ 0) × (validation.fault wasm ≡ Some fault)
OfModule wasm _ = ⊥

-- what there is to say of its bytes
abbrev pub OfBytes : List ℕ → Result Module SetFault → Type 0
OfBytes bytes (Err (Decode member fault)) = (member ≡ 0) × DecodeAnswer bytes (Err fault)
OfBytes bytes said = (wasm : Module) × DecodeAnswer bytes (Ok wasm) × OfModule wasm said

-- What there is to say of the file at a path: its module, or why there is none.
abbrev pub OfFile : Files → List ℕ → Result Module SetFault → Type 0
OfFile files path (Err (Missing name)) = (files path ≡ None) × (name ≡ main_name path)
OfFile files path (Err SetSize) = IsSomeAnd (files path) (λ bytes. most_run < length bytes)
OfFile files path said = IsSomeAnd (files path) (λ bytes. (length bytes ≤ most_run) × OfBytes bytes said)

-- What may be answered in place of it: a read fault, which names the path, or want of memory.
abbrev pub TellsFile : Files → List ℕ → Result Module SetFault → Type 0
TellsFile files path (Err (ReadFault at)) = at ≡ path
TellsFile files path (Err Memory) = Unit {0}
TellsFile files path said = OfFile files path said

-- the module at a path has an opening state over these host functions
pub record OpensAt (names : HostNames) (files : Files) (path : List ℕ) : Type 0 where
  pub wasm : Module
  pub file : OfFile files path (Ok wasm)
  pub opening : ModuleState
  pub opens : module_opening wasm names ≡ Ok opening

-- it has none, and why
pub record IsRefusedAt (names : HostNames) (files : Files) (path : List ℕ) (fault : SingleFault) : Type 0 where
  pub wasm : Module
  pub file : OfFile files path (Ok wasm)
  pub refused : module_opening wasm names ≡ Err fault
