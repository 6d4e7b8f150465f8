-- What the bytes of a member come to.
-- Serves the contracts of this crate, which follow Gathering of `spec_linking`.
use Rattle.std.specs.Prelude.{◌≡◌, ◌≢◌, ℕ, List, Some, None, Result, Ok, Err}
use Rattle.wasm_form.specs.declared.module.Module.{Module}
use Rattle.spec_reading.specs.spec_binary.declared.fault.DecodeFault.{DecodeFault}
use Rattle.spec_reading.specs.spec_binary.declared.fault.DecodeFault.TheVariants as decode
use Rattle.spec_reading.specs.spec_binary.DecodeAnswers.{DecodeAnswer}
use Rattle.spec_linking.specs.spec_validation.declared.fault.CheckFault.{CheckFault}
use Rattle.spec_linking.specs.spec_validation.declared.fault.CheckFault.TheVariants as check
use Rattle.spec_linking.specs.spec_validation.Faults as validation
use Rattle.spec_linking.specs.declared.fault.RecordFault.{RecordFault}
use Rattle.spec_linking.specs.declared.fault.RecordFault.TheVariants as record_faults
use Rattle.spec_linking.specs.declared.fault.SetFault.{SetFault}
use Rattle.spec_linking.specs.declared.fault.SetFault.TheVariants.{Decode, Record, Check, Memory}
use Rattle.spec_linking.specs.Records.{DylinkRecord, HasRecord, RecordAnswer}
use Rattle.dyl_section.specs.Recorded.{record_of}
use Rattle.dyl_search.specs.declared.load.Loaded.{Loaded}

-- how a fault of the member with a number is answered: want of memory is merged with nothing
abbrev pub decode_answer : ℕ → DecodeFault → SetFault
decode_answer n decode.Memory = Memory
decode_answer n fault = Decode n fault

abbrev pub record_answer : ℕ → RecordFault → SetFault
record_answer n record_faults.Memory = Memory
record_answer n fault = Record n fault

abbrev pub check_answer : ℕ → CheckFault → SetFault
check_answer n check.Memory = Memory
check_answer n fault = Check n fault

-- the fault of a module is this one, and isn't want of memory
pub record IsFault (wasm : Module) (fault : CheckFault) : Type 0 where
  pub told : fault ≢ check.Memory
  pub is : validation.fault wasm ≡ Some fault

-- the module has no fault, or this one
abbrev pub IsValid : ℕ → Module → Result Module SetFault → Type 0
IsValid n wasm (Ok checked) = (checked ≡ wasm) × (validation.fault wasm ≡ None)
IsValid n wasm (Err (Check k fault)) = (k ≡ n) × IsFault wasm fault
IsValid n wasm (Err Memory) = Unit {0}
IsValid n wasm (Err _) = ⊥

-- the module is this one, with its record and no fault
pub record IsModule (wasm : Module) (l : Loaded) : Type 0 where
  pub same : l.checked ≡ wasm
  pub dylink : HasRecord wasm (record_of l.dylink)
  pub valid : validation.fault wasm ≡ None

-- the module has a record and this fault
pub record IsNotValid (wasm : Module) (fault : CheckFault) : Type 0 where
  pub dylink : DylinkRecord
  pub recorded : HasRecord wasm dylink
  pub why : IsFault wasm fault

-- what a module comes to as the member with a number
abbrev pub IsTested : ℕ → Module → Result Loaded SetFault → Type 0
IsTested n wasm (Ok l) = IsModule wasm l
IsTested n wasm (Err (Record k fault)) = (k ≡ n) × RecordAnswer wasm (Err fault)
IsTested n wasm (Err (Check k fault)) = (k ≡ n) × IsNotValid wasm fault
IsTested n wasm (Err Memory) = Unit {0}
IsTested n wasm (Err _) = ⊥

-- the bytes spell a module, of which this holds
pub record Holds (bytes : List ℕ) (P : Module → Type 0) : Type 0 where
  pub wasm : Module
  pub told : DecodeAnswer bytes (Ok wasm)
  pub is : P wasm

-- what bytes come to as those of the member with a number
abbrev pub IsLoaded : ℕ → List ℕ → Result Loaded SetFault → Type 0
IsLoaded n bytes (Ok l) = Holds bytes (λ wasm. IsModule wasm l)
IsLoaded n bytes (Err (Decode k fault)) = (k ≡ n) × DecodeAnswer bytes (Err fault)
IsLoaded n bytes (Err (Record k fault)) = (k ≡ n) × Holds bytes (λ wasm. RecordAnswer wasm (Err fault))
IsLoaded n bytes (Err (Check k fault)) = (k ≡ n) × Holds bytes (λ wasm. IsNotValid wasm fault)
IsLoaded n bytes (Err Memory) = Unit {0}
IsLoaded n bytes (Err _) = ⊥
