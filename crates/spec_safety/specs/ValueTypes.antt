-- Values, references, memories and tables as valid code sees them (WebAssembly Core 2.0, section 4.5.2).
use Rattle.std.specs.Prelude.{◌≡◌, ◌≤◌, ◌<◌, ◌*◌, ◌^◌, ℕ, Bool, List, [], ◌∷◌, length, reverse, nat_lt, true, false}
use Rattle.std.specs.Int.{cast_unsigned, w32, w64}
use Rattle.std.specs.List.{All}
use Rattle.spec_execution.specs.wasm_form.declared.runtime.Write.{Write}
use Rattle.spec_execution.specs.wasm_form.declared.runtime.Answer.{Answer}
use Rattle.spec_execution.specs.wasm_form.declared.runtime.Answer.TheVariants.{Reply, Exit}
use Rattle.spec_execution.specs.wasm_form.declared.types.ValType.{ValType}
use Rattle.spec_execution.specs.wasm_form.declared.types.FuncType.{FuncType}
use Rattle.spec_execution.specs.wasm_form.declared.instr.Instr.{Instr}
use Rattle.spec_execution.specs.wasm_form.declared.instr.Instr.TheOpen as Open
use Rattle.spec_execution.specs.wasm_form.declared.runtime.Value.{Value}
use Rattle.spec_execution.specs.wasm_form.declared.runtime.Value.TheVariants.{Num, Func}
use Rattle.spec_execution.specs.spec_binary.Trees.{Test, every_of}
use Rattle.spec_execution.specs.spec_validation.Faults.{most_entries, most_pages}
use Rattle.spec_execution.specs.spec_runtime.Memories.{MemoryInstance, page_size, pages}
use Rattle.spec_execution.specs.spec_runtime.Tables.{TableInstance}
use Rattle.spec_execution.specs.Values.{is_number}
use Rattle.spec_execution.specs.Views.{View, type_bits}
use Rattle.spec_execution.specs.Runs.{arguments}
use Rattle.spec_execution.specs.Ranges.{ReferenceExists, AllExist}

-- A value of a type: a number of its width, or null or a reference to a function that there is.
abbrev pub HasType : {Units : Type 0} → View Units → ValType → Value → Type 0
HasType V t (Num n) = (is_number t ≡ true) × (n < 2 ^ type_bits t)
HasType V t (Func r) = (is_number t ≡ false) × ReferenceExists V r

-- values, each of its type
abbrev pub HaveTypes : {Units : Type 0} → View Units → List ValType → List Value → Type 0
HaveTypes V [] [] = Unit {0}
HaveTypes V [] (v ∷ vs) = ⊥
HaveTypes V (t ∷ ts) [] = ⊥
HaveTypes V (t ∷ ts) (v ∷ vs) = HasType V t v × HaveTypes V ts vs

-- the numbers among arguments of a function of this type
abbrev pub AreArguments : {Units : Type 0} → View Units → FuncType → List ℕ → Type 0
AreArguments V ty args = (taken : List Value) × HaveTypes V (reverse ty.params) taken × (args ≡ arguments ty taken)

-- a constant is a number of its type
abbrev pub constant_fits : Test
constant_fits (Open.I32Const n) = nat_lt (cast_unsigned w32 n) (2 ^ 32)
constant_fits (Open.I64Const n) = nat_lt (cast_unsigned w64 n) (2 ^ 64)
constant_fits _ = true

-- and so is each in this code
abbrev pub constants_fit : List Instr → Bool
constants_fit is = every_of constant_fits is

abbrev pub AreBytes : List ℕ → Type 0
AreBytes bytes = All (λ b. b < 256) bytes

-- the writes of an answer are of bytes
abbrev pub IsOfBytes : Answer → Type 0
IsOfBytes (Reply results writes) = All (λ (w : Write). AreBytes w.bytes) writes
IsOfBytes (Exit code) = Unit {0}

-- a memory: bytes in whole pages, and no more of these than its maximum
pub record IsMemory (memory : MemoryInstance) : Type 0 where
  pub bytes : AreBytes memory.bytes
  pub whole : length memory.bytes ≡ pages memory * page_size
  pub few : pages memory ≤ memory.max
  pub most : memory.max ≤ most_pages

-- a table: entries that there are, and no more of them than its maximum
pub record IsTable {Units : Type 0} (V : View Units) (table : TableInstance) : Type 0 where
  pub entries : AllExist V table.entries
  pub few : length table.entries ≤ table.max
  pub most : table.max ≤ most_entries
