-- The code that has a name searched calls the function once.
use denote.Hole.Carrier.{out}
use Rattle.std.proofs.Common.{◌≡◌, ℕ, suc, ◌+◌, List, [], ◌∷◌, length, slice_get, slice_set, Some, refl, arith}
use Rattle.wasm_form.specs.declared.instr.Instr.{Instr, Plain, Index, out-Instr}
use Rattle.wasm_form.specs.declared.module.Module.{Module}
use Rattle.wasm_form.specs.declared.runtime.Value.{Value}
use Rattle.wasm_form.specs.declared.runtime.Value.TheVariants.{Num}
use Rattle.spec_execution.specs.spec_runtime.Memories.{MemoryInstance}
use Rattle.spec_execution.specs.Activations.{Activation}
use Rattle.spec_execution.specs.Limits.{activations}
use Rattle.spec_execution.specs.Runs.{Frame}
use Rattle.spec_execution.specs.Instances.{ModuleParts}
use Rattle.spec_execution.specs.OneModule.{Starting}
use Rattle.merge_pieces.specs.Opcodes as op
use Rattle.merge_pieces.specs.Running.{Reaches}
use Rattle.merge_pieces.proofs.Running.{reaches_deeper, one_step}
use Rattle.merge_find.specs.Decisions.{when, return_code}
use Rattle.merge_find.specs.Counted.{standing, DoesWithin}
use Rattle.merge_find.specs.Trying.{try_code, SearchesOnce}
use Rattle.merge_find.proofs.Steps.{within_then, spot, before, Steps, steps_then, steps_get, over_when}

module _ (wasm : Module) (h n find : ℕ) (us : ModuleParts) (memory : MemoryInstance) (p k old : Value)
    (calls : DoesWithin wasm (suc h) n (Index op.call find ∷ []) us memory (k ∷ p ∷ []) (Num 0 ∷ [])) (a : Activation) (under : List (Frame Starting))
    (at_p : slice_get a.locals 1 ≡ Some p) (at_k : slice_get a.locals 2 ≡ Some k) (at_old : slice_get a.locals 3 ≡ Some old) where
  abbrev d : ℕ
  d = length (activations under) + suc (suc h)

  abbrev found : List Instr
  found = Index op.local_get 3 ∷ Plain op.i32_wrap_i64 ∷ return_code

  abbrev test : List Instr
  test = Plain op.i64_eqz ∷ Plain op.i32_eqz ∷ when found ∷ []

  abbrev kept : List Value
  kept = slice_set a.locals 3 (Num 0)

  -- the name is given
  gives : Reaches wasm d 2 (standing us memory a under [] (try_code find)) (spot us memory a.locals (before (Index op.call find ∷ Index op.local_tee 3 ∷ test) a) under (k ∷ p ∷ []) [])
  gives =
      let both : Steps wasm 2 (Index op.local_get 1 ∷ Index op.local_get 2 ∷ []) us memory a.locals [] (k ∷ p ∷ []) =
      steps_then 1 2 (omega arith) (steps_get 1 p [] at_p) (steps_get 2 k (p ∷ []) at_k) in
      reaches_deeper (omega arith) (both.runs (before (Index op.call find ∷ Index op.local_tee 3 ∷ test) a) under)

  asks : Reaches wasm d n (spot us memory a.locals (before (Index op.call find ∷ Index op.local_tee 3 ∷ test) a) under (k ∷ p ∷ []) [])
      (spot us memory a.locals (before (Index op.local_tee 3 ∷ test) a) under (Num 0 ∷ []) [])
  asks = reaches_deeper (omega arith) (calls.runs (before (Index op.local_tee 3 ∷ test) a) under)

  keeps : Reaches wasm d 1 (spot us memory a.locals (before (Index op.local_tee 3 ∷ test) a) under (Num 0 ∷ []) []) (spot us memory kept (before test a) under (Num 0 ∷ []) [])
  unfolding out-Instr out
  keeps = one_step (omega arith) refl (rw at_old refl)

  tests : Reaches wasm d 2 (spot us memory kept (before test a) under (Num 0 ∷ []) []) (spot us memory kept a under (Num 0 ∷ []) (when found ∷ []))
  unfolding out-Instr out
  tests =
      within_then {u = spot us memory kept (before (Plain op.i32_eqz ∷ when found ∷ []) a) under (Num 1 ∷ []) []} 1 2 (omega arith)
      (one_step (omega arith) refl refl) (one_step (omega arith) refl refl)

  passes : Reaches wasm d 2 (spot us memory kept a under (Num 0 ∷ []) (when found ∷ [])) (spot us memory kept a under [] [])
  passes = reaches_deeper (omega arith) (over_when {ls = kept} a under found 0 refl)

  pub tries_once : Reaches wasm d (n + 7) (standing us memory a under [] (try_code find)) (standing us memory (record a { locals = kept }) under [] [])
  tries_once =
      within_then (n + 5) (n + 7) (omega arith) gives
      (within_then 5 (n + 5) (omega arith) asks
      (within_then 4 5 (omega arith) keeps
      (within_then 2 4 (omega arith) tests passes)))

pub searches_once : (find : ℕ) → SearchesOnce find (try_code find)
searches_once find wasm h n us memory p k old calls a under at_p at_k at_old = tries_once wasm h n find us memory p k old calls a under at_p at_k at_old
