-- What is so of the calls of WASI, and of the names that are declared for a run: those of WASI, and then those of a table.
-- Part of the statement of laws: docs/LAWS.md, "The answers of WASI fit" and "Laws of the parts".
use Rattle.std.specs.Prelude.{◌≡◌, ℕ, List, [], ◌∷◌, Option, Some, None, IsSomeAnd, false, ◌&&◌, bytes_eq, IsTrue, if◌then◌else◌}
use Rattle.spec_runtime.specs.wasm_form.declared.types.FuncType.{FuncType}
use Rattle.spec_runtime.specs.wasm_form.declared.runtime.Answer.{Answer}
use Rattle.spec_runtime.specs.Memories.{MemoryInstance}
use Rattle.spec_runtime.specs.Names.{HostName, HostNames, Fits, no_names, with_names, host_match, is_rest_type}
use Rattle.spec_runtime.specs.Hosts.{numbers_fit, fits_results}
use Rattle.spec_hosts.specs.Devices.{Devices}
use Rattle.spec_hosts.specs.Calls.{WasiCall, wasi_name, call_named, type_of_call, with_wasi, wanted}
use Rattle.spec_hosts.specs.Hosted.{IsAnswered}

-- the names of a run: WASI goes before the host functions of a table
abbrev pub run_names : List HostName → HostNames
run_names table = with_names (with_wasi no_names) table

-- the first of these host functions with a module and a name
abbrev pub host_called : List ℕ → List ℕ → List HostName → Option HostName
host_called from name [] = None
host_called from name (h ∷ hs) = if bytes_eq h.module_name from && bytes_eq h.name name then Some h else host_called from name hs

-- A name of WASI has this type: that of its call, if it is that of one, or else integer parameters and the one result i32.
abbrev pub IsTypeWhere : Option WasiCall → FuncType → Type 0
IsTypeWhere (Some c) ty = ty ≡ type_of_call c
IsTypeWhere None ty = IsTrue (is_rest_type ty)

abbrev pub IsWasiType : List ℕ → FuncType → Type 0
IsWasiType name ty = IsTypeWhere (call_named name) ty

-- a name of WASI that is declared with a type has it by WASI
abbrev pub WasiGoesFirst : Type 0
WasiGoesFirst = (table : List HostName) (name : List ℕ) (ty : FuncType) → host_match (run_names table) wasi_name name ty ≡ Fits → IsWasiType name ty

-- every other name that is declared with a type has it by the table
abbrev pub OthersAreOfTheTable : Type 0
OthersAreOfTheTable = (table : List HostName) (from name : List ℕ) (ty : FuncType)
    → bytes_eq from wasi_name ≡ false → host_match (run_names table) from name ty ≡ Fits → IsSomeAnd (host_called from name table) (λ h. h.ty ≡ ty)

-- what WASI answers fits the type of the call and the memory
abbrev pub WasiAnswersFit : Type 0
WasiAnswersFit = (texts : List (List ℕ)) (memory : MemoryInstance) (name : List ℕ) (ty : FuncType) (args : List ℕ) (answer : Answer) (old new : Devices)
    → IsWasiType name ty → IsTrue (numbers_fit ty.params args) → IsAnswered (wanted texts memory name args) answer old new → IsTrue (fits_results ty.results memory answer)
