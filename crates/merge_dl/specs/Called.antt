-- What the functions do that the functions of the loader call: one that gives the length of a string, and for each member one that searches the
-- names which it defines. Each is said of a call, from wherever it is made, over any store, and over any memory that ends before the last address.
-- Nothing is said of their code: other code may do the same.
-- Part of the statement of laws: docs/LAWS.md, "Laws of the parts".
use Rattle.std.specs.Prelude.{◌≡◌, ℕ, ◌+◌, ◌*◌, List, [], ◌∷◌, length, drop, Option, Some, None, true, slice_get}
use Rattle.wasm_form.specs.declared.instr.Instr.{Index}
use Rattle.wasm_form.specs.declared.module.Module.{Module}
use Rattle.wasm_form.specs.declared.runtime.Trap.{Trap}
use Rattle.wasm_form.specs.declared.runtime.Trap.TheVariants.{MemoryBounds}
use Rattle.wasm_form.specs.declared.runtime.Value.{Value}
use Rattle.wasm_form.specs.declared.runtime.Value.TheVariants.{Num}
use Rattle.spec_loading.specs.spec_validation.Context.{Context}
use Rattle.spec_loading.specs.spec_runtime.Numerics.{W32}
use Rattle.spec_loading.specs.spec_execution.Values.{low}
use Rattle.spec_loading.specs.spec_linking.Definitions.{member_definition}
use Rattle.spec_loading.specs.spec_linking.LinkedSets.{LinkedSet}
use Rattle.spec_loading.specs.spec_linking.Slots.{cell_number}
use Rattle.spec_loading.specs.LoaderAnswers.{string_at}
use Rattle.spec_loading.specs.SetCosts.{search_cost, exports_count}
use Rattle.merge_match.specs.Bounded.{IsBounded}
use Rattle.merge_pieces.specs.Opcodes as op
use Rattle.merge_start.specs.Running.{Changing, Does}
use Rattle.wasm_form.specs.declared.module.Part.{Part}
pub use Rattle.merge_find.specs.Finding.{HasFunction, search_value}
use Rattle.merge_dl.specs.Words.{unary_type, search_type}
use Rattle.merge_dl.specs.Typed.{HasHeight}

-- ---- calls

-- A call of the function with these numbers, the last argument first, gives this value in at most so many steps, and changes nothing else. The
-- function calls no other.
abbrev pub CallGives : Module → ℕ → ℕ → Changing → List Value → Value → Type 0
CallGives wasm n f c args v = Does wasm 1 n (Index op.call f ∷ []) c args c (v ∷ []) None

-- A call of the function with these numbers traps within so many steps, and changes nothing.
abbrev pub CallTraps : Module → ℕ → ℕ → Changing → List Value → Trap → Type 0
CallTraps wasm n f c args why = Does wasm 1 n (Index op.call f ∷ []) c args c [] (Some why)

-- ---- the length of a string

-- With an address, the function gives the length of the string there. Where no zero byte follows inside the memory, it traps as a load past
-- the end of the memory does. It takes eight steps for each byte that it goes over.
abbrev pub GivesLength : Module → ℕ → Changing → ℕ → Option (List ℕ) → Type 0
GivesLength wasm f c a None = CallTraps wasm (8 * length (drop (low W32 a) c.memory.bytes) + 6) f c (Num a ∷ []) MemoryBounds
GivesLength wasm f c a (Some s) = CallGives wasm (8 * length s + 13) f c (Num a ∷ []) (Num (length s))

-- The function gives the length of the string at each address, or its trap. Of the number on the stack the low 32 bits are the address.
pub record GivesLengths (wasm : Module) (f : ℕ) : Type 0 where
  pub calls : (c : Changing) → IsBounded c.memory → (a : ℕ) → GivesLength wasm f c a (string_at c.memory (low W32 a))

-- ---- the search of a member

-- the slot of the function, or the address of the data, that member m defines a name as, if it defines it
abbrev pub defined_number : LinkedSet → ℕ → List ℕ → Option ℕ
defined_number L m name = cell_number L name (member_definition L.set m name)

-- With the address of a string and its length, the function gives what member m defines the name as, or 0, in at most the steps of a search
-- among what the member exports, in bytes of so many bits, and four.
pub record SearchesMember (bits : ℕ) (L : LinkedSet) (m : ℕ) (wasm : Module) (f : ℕ) : Type 0 where
  pub calls : (c : Changing) → IsBounded c.memory → (a : ℕ) (s : List ℕ) → string_at c.memory (low W32 a) ≡ Some s
      → CallGives wasm (search_cost bits (exports_count L m) (length s) + 4) f c (Num (length s) ∷ Num a ∷ []) (Num (search_value (defined_number L m s)))

-- ---- functions to be put into a module

-- A function that is well typed in any module with a memory, and gives lengths of strings at whatever number it stands.
pub record IsLengthPart (p : Part) : Type 0 where
  pub ty : p.ty ≡ unary_type
  pub typed : (c : Context) → c.memory ≡ true → HasHeight c p.ty p.code
  pub works : (wasm : Module) (f : ℕ) → HasFunction wasm f p.ty p.code → GivesLengths wasm f

-- A function that is well typed in any module with a memory, and searches member m at whatever number it stands.
pub record IsSearchPart (L : LinkedSet) (m : ℕ) (p : Part) : Type 0 where
  pub ty : p.ty ≡ search_type
  pub typed : (c : Context) → c.memory ≡ true → HasHeight c p.ty p.code
  pub works : (wasm : Module) (f : ℕ) → HasFunction wasm f p.ty p.code → SearchesMember 8 L m wasm f

-- one for each member of the set, in order
pub record AreSearchParts (L : LinkedSet) (parts : List Part) : Type 0 where
  pub count : length parts ≡ length L.set.members
  pub each : (m : ℕ) (p : Part) → slice_get parts m ≡ Some p → IsSearchPart L m p
