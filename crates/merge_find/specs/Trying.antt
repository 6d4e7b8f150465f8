-- The code that has a name searched by the call of a function, and what it costs.
-- This profile: docs/FORMATS.md, "What merge writes".
use Rattle.std.specs.Prelude.{◌≡◌, ℕ, suc, ◌+◌, List, [], ◌∷◌, length, slice_get, slice_set, Some}
use Rattle.wasm_form.specs.declared.instr.Instr.{Instr, Plain, Index}
use Rattle.wasm_form.specs.declared.module.Module.{Module}
use Rattle.wasm_form.specs.declared.runtime.Value.{Value}
use Rattle.wasm_form.specs.declared.runtime.Value.TheVariants.{Num}
use Rattle.spec_execution.specs.spec_runtime.Memories.{MemoryInstance}
use Rattle.spec_execution.specs.Activations.{Activation}
use Rattle.spec_execution.specs.Limits.{activations}
use Rattle.spec_execution.specs.Runs.{Frame}
use Rattle.spec_execution.specs.Instances.{ModuleParts}
use Rattle.spec_execution.specs.OneModule.{Starting}
use Rattle.merge_pieces.specs.Opcodes as op
use Rattle.merge_pieces.specs.Running.{Reaches}
use Rattle.merge_find.specs.Decisions.{when, return_code}
use Rattle.merge_find.specs.Counted.{standing, DoesWithin}

-- The address of the name is in local 1, and its length in local 2. What the function gives is kept in local 3; the low half of it is returned,
-- unless it is 0.
abbrev pub try_code : ℕ → List Instr
try_code find =
    Index op.local_get 1 ∷ Index op.local_get 2 ∷ Index op.call find ∷ Index op.local_tee 3 ∷ Plain op.i64_eqz ∷ Plain op.i32_eqz
    ∷ when (Index op.local_get 3 ∷ Plain op.i32_wrap_i64 ∷ return_code) ∷ []

-- Where a call of the function gives 0, it is made once: the code is gone through in the steps of one call, and seven.
abbrev pub SearchesOnce : ℕ → List Instr → Type 0
SearchesOnce find code = (wasm : Module) (h n : ℕ) (us : ModuleParts) (memory : MemoryInstance) (p k old : Value)
    → DoesWithin wasm (suc h) n (Index op.call find ∷ []) us memory (k ∷ p ∷ []) (Num 0 ∷ []) → (a : Activation) (under : List (Frame Starting))
    → slice_get a.locals 1 ≡ Some p → slice_get a.locals 2 ≡ Some k → slice_get a.locals 3 ≡ Some old
    → Reaches wasm (length (activations under) + suc (suc h)) (n + 7) (standing us memory a under [] code)
    (standing us memory (record a { locals = slice_set a.locals 3 (Num 0) }) under [] [])
