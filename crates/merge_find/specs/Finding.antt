-- What a search finds, and in how many steps.
-- Part of the statement of laws: docs/LAWS.md, "Laws of the parts".
use Rattle.std.specs.Prelude.{◌≡◌, ℕ, ◌+◌, ◌*◌, ◌^◌, ◌<◌, min, List, [], ◌∷◌, length, drop, map, slice_get, get_or, bytes_eq, Option, Some, None, unwrap_or, if◌then◌else◌}
use Rattle.std.specs.List.{All}
use Rattle.wasm_form.specs.declared.types.ValType.TheVariants.{I32, I64}
use Rattle.wasm_form.specs.declared.types.FuncType.{FuncType}
use Rattle.wasm_form.specs.declared.instr.Instr.{Instr, Index}
use Rattle.wasm_form.specs.declared.module.Code.{Code}
use Rattle.wasm_form.specs.declared.module.Module.{Module}
use Rattle.wasm_form.specs.declared.runtime.Ref.TheVariants.{Own}
use Rattle.wasm_form.specs.declared.runtime.Value.{Value}
use Rattle.wasm_form.specs.declared.runtime.Value.TheVariants.{Num}
use Rattle.spec_execution.specs.spec_binary.Exports.{AllDistinct}
use Rattle.spec_execution.specs.spec_binary.Indices.{function_with, function_at}
use Rattle.spec_execution.specs.spec_runtime.Memories.{MemoryInstance}
use Rattle.spec_execution.specs.spec_runtime.Numerics.{W32}
use Rattle.spec_execution.specs.Values.{low}
use Rattle.spec_execution.specs.Instances.{ModuleParts, module_target}
use Rattle.merge_pieces.specs.Opcodes as op
use Rattle.merge_find.specs.Decisions.{Goal, Named, wide, return_code, search_code, strings}
use Rattle.merge_find.specs.Counted.{DoesWithin, Comes}

-- what stands by the first name that is this string
abbrev pub first_named : {A : Type 0} → List (List ℕ × A) → List ℕ → Option A
first_named [] s = None
first_named (x ∷ xs) s = if bytes_eq s x.0 then Some x.1 else first_named xs s

-- ---- names

-- fewer than 2^32 bytes
pub record IsText (name : List ℕ) : Type 0 where
  pub short : length name < 2 ^ 32
  pub bytes : (j : ℕ) → get_or name j 0 < 256

abbrev pub AreTexts : {A : Type 0} → List (List ℕ × A) → Type 0
AreTexts xs = All (λ x. IsText x.0) xs

-- no two names are the same
abbrev pub AreApart : {A : Type 0} → List (List ℕ × A) → Type 0
AreApart xs = AllDistinct (map (λ x. x.0) xs)

-- ---- the string

-- the bytes begin with those of a string, as code loads them
abbrev pub Begins : List ℕ → List ℕ → Type 0
Begins [] bytes = Unit {0}
Begins (b ∷ s) [] = ⊥
Begins (b ∷ s) (y ∷ bytes) = (low W32 y ≡ b) × Begins s bytes

-- A string of fewer than 2^32 bytes lies in the memory at an address, which is the low 32 bits of a number.
pub record Lies (memory : MemoryInstance) (p : ℕ) (s : List ℕ) : Type 0 where
  pub short : length s < 2 ^ 32
  pub begins : Begins s (drop (low W32 p) memory.bytes)

-- ---- the code of a search

-- Among so many names, of bytes of so many bits, how many steps it takes for a string of k bytes. Each byte is compared in five steps. Each
-- question takes six: there are no more than names, nor than bits, of which a length has 32.
abbrev pub search_steps : ℕ → ℕ → ℕ → ℕ
search_steps bits names k = 5 * k + 6 * min names (bits * k + 33)

-- Among whatever names, the search comes to the code of the first one that is the string, or to that for no name, in at most so many steps. It
-- changes nothing.
abbrev pub SearchComes : Type 0
SearchComes = (wasm : Module) (g : Goal) (xs : List Named) (us : ModuleParts) (memory : MemoryInstance) (p : ℕ) (s : List ℕ) → Lies memory p s
    → (ls : List Value) → slice_get ls 0 ≡ Some (Num p) → slice_get ls g.len ≡ Some (Num (length s))
    → Comes wasm (search_steps 32 (length xs) (length s)) (search_code g (strings xs)) us memory ls (unwrap_or (first_named xs s) g.missed)

-- Where the names are of bytes, and no two are the same, a byte has eight bits.
abbrev pub SearchComesSoon : Type 0
SearchComesSoon = (wasm : Module) (g : Goal) (xs : List Named) → AreTexts xs → AreApart xs
    → (us : ModuleParts) (memory : MemoryInstance) (p : ℕ) (s : List ℕ) → Lies memory p s
    → (ls : List Value) → slice_get ls 0 ≡ Some (Num p) → slice_get ls g.len ≡ Some (Num (length s))
    → Comes wasm (search_steps 8 (length xs) (length s)) (search_code g (strings xs)) us memory ls (unwrap_or (first_named xs s) g.missed)

-- ---- a function that searches for numbers

-- what it gives: 2^32 with the number of the name, or 0 where no name is the string
abbrev pub search_value : Option ℕ → ℕ
search_value None = 0
search_value (Some k) = 2 ^ 32 + k

-- the address of the string is in local 0, and its length in local 1
abbrev pub number_goal : Goal
number_goal = record { len = 1; missed = wide 0 ∷ return_code }

abbrev pub number_code : ℕ → List Instr
number_code k = wide (2 ^ 32 + k) ∷ return_code

abbrev pub numbered : List (List ℕ × ℕ) → List Named
numbered xs = map (λ x. (x.0, number_code x.1)) xs

abbrev pub AreWords : List (List ℕ × ℕ) → Type 0
AreWords xs = All (λ x. x.1 < 2 ^ 32) xs

abbrev pub search_type : FuncType
search_type = record { params = I32 ∷ I32 ∷ []; results = I64 ∷ [] }

abbrev pub search_body : List (List ℕ × ℕ) → Code
search_body xs = record { locals = []; body = record { list = search_code number_goal (strings (numbered xs)) } }

-- the module itself defines a function of this number, type and code
pub record HasFunction (wasm : Module) (f : ℕ) (ty : FuncType) (body : Code) : Type 0 where
  pub target : module_target wasm f ≡ Some (Own 0 f)
  pub code : function_at wasm f ≡ Some (function_with ty body)

-- Among whatever names, a call of the function, wherever it is made, gives the number of the first one that the string is, or 0, and changes
-- nothing else. At most the steps of the search, and four, lead from the state before the call to that after its return.
abbrev pub SearchFindsAny : Type 0
SearchFindsAny = (wasm : Module) (f : ℕ) (xs : List (List ℕ × ℕ)) → HasFunction wasm f search_type (search_body xs) → AreWords xs
    → (us : ModuleParts) (memory : MemoryInstance) (p : ℕ) (s : List ℕ) → Lies memory p s
    → DoesWithin wasm 1 (search_steps 32 (length xs) (length s) + 4) (Index op.call f ∷ []) us memory (Num (length s) ∷ Num p ∷ []) (Num (search_value (first_named xs s)) ∷ [])

-- Where the names are of bytes, and no two are the same, a byte has eight bits.
abbrev pub SearchFinds : Type 0
SearchFinds = (wasm : Module) (f : ℕ) (xs : List (List ℕ × ℕ)) → HasFunction wasm f search_type (search_body xs) → AreWords xs → AreTexts xs
    → AreApart xs → (us : ModuleParts) (memory : MemoryInstance) (p : ℕ) (s : List ℕ) → Lies memory p s
    → DoesWithin wasm 1 (search_steps 8 (length xs) (length s) + 4) (Index op.call f ∷ []) us memory (Num (length s) ∷ Num p ∷ []) (Num (search_value (first_named xs s)) ∷ [])
