-- What a guard costs: each of its instructions is a step.
use denote.Hole.Carrier.{out}
use Rattle.std.proofs.Common.{◌≡◌, ◌<◌, ◌≤◌, ◌+◌, ◌^◌, ℕ, List, [], ◌∷◌, length, slice_get, slice_set, nat_lt, Some, None, Bool, true, false, refl, subst, arith, append-nil, mod-eq_of_lt}
use Rattle.std.specs.Int.{cast_unsigned, cast_signed, w32}
use Rattle.std.proofs.Math.Dec.{leb-zero}
use Rattle.std.proofs.lemmas.Int.{of_z-to_z}
use Rattle.std.proofs.lemmas.Bool.Decides.{nat_tests}
use Rattle.wasm_form.specs.declared.instr.BlockType.TheVariants.{Empty}
use Rattle.wasm_form.specs.declared.instr.Instr.{Instr, Plain, Index, If, out-Instr}
use Rattle.wasm_form.specs.declared.instr.Instr.TheVariants.{outs-If}
use Rattle.wasm_form.specs.declared.module.Module.{Module}
use Rattle.wasm_form.specs.declared.runtime.Value.{Value}
use Rattle.wasm_form.specs.declared.runtime.Value.TheVariants.{Num}
use Rattle.spec_execution.specs.spec_runtime.Memories.{MemoryInstance}
use Rattle.spec_execution.specs.spec_runtime.Numerics.{W32}
use Rattle.spec_execution.specs.Values.{low}
use Rattle.spec_execution.specs.Activations.{Activation, one_if}
use Rattle.spec_execution.specs.Limits.{activations}
use Rattle.spec_execution.specs.Runs.{Frame}
use Rattle.spec_execution.specs.Instances.{ModuleParts}
use Rattle.spec_execution.specs.OneModule.{Starting}
use Rattle.merge_pieces.specs.Opcodes as op
use Rattle.merge_pieces.specs.Code.{number, guarded}
use Rattle.merge_pieces.specs.Running.{Reaches}
use Rattle.merge_pieces.specs.Guards.{before_code, in_block, GuardsWithin}
use Rattle.merge_pieces.proofs.Running.{reaches_then, one_step}

module _ (wasm : Module) (us : ModuleParts) (memory : MemoryInstance) (guard stage k : ℕ) (work : List Instr) (held : slice_get us.globals guard ≡ Some (Num k))
    (small : k < 2 ^ 32) (word : stage < 2 ^ 32) (a : Activation) (under : List (Frame Starting)) where
  abbrev d : ℕ
  d = length (activations under) + 1

  -- what is done in the block
  abbrev raising : List Instr
  raising = number stage ∷ Index op.global_set guard ∷ work

  abbrev last : List Instr
  last = If Empty (record { list = raising }) None ∷ []

  abbrev raised : ModuleParts
  raised = record us { globals = slice_set us.globals guard (Num stage) }

  numbers : (vs : ModuleParts) (b : Activation) (on : List Value) (rest : List Instr)
      → Reaches wasm d 1 (before_code vs memory b under on (number stage ∷ rest)) (before_code vs memory b under (Num stage ∷ on) rest)
  unfolding out-Instr out
  numbers vs b on rest = one_step (omega arith) refl (let q : cast_unsigned w32 (cast_signed w32 stage) ≡ stage = of_z-to_z w32 stage word in rw q refl)

  reads : Reaches wasm d 1 (before_code us memory a under [] (Index op.global_get guard ∷ number stage ∷ Plain op.i32_lt_u ∷ last))
      (before_code us memory a under (Num k ∷ []) (number stage ∷ Plain op.i32_lt_u ∷ last))
  unfolding out-Instr out
  reads = one_step (omega arith) refl (rw held refl)

  tests : Reaches wasm d 1 (before_code us memory a under (Num stage ∷ Num k ∷ []) (Plain op.i32_lt_u ∷ last))
      (before_code us memory a under (Num (one_if (nat_lt (low W32 k) (low W32 stage))) ∷ []) last)
  unfolding out-Instr out
  tests = one_step (omega arith) refl refl

  -- the guard is read, and whether it is below the stage
  tested : (z : Bool) → nat_lt k stage ≡ z
      → Reaches wasm d 3 (before_code us memory a under [] (guarded guard stage work)) (before_code us memory a under (Num (one_if z) ∷ []) last)
  unfolding guarded
  tested z e =
      let low_k : low W32 k ≡ k = mod-eq_of_lt small in
      let low_stage : low W32 stage ≡ stage = mod-eq_of_lt word in
      let q : nat_lt (low W32 k) (low W32 stage) ≡ z = rw (low_k, low_stage) e in
      subst (λ t. Reaches wasm d 3 (before_code us memory a under [] (Index op.global_get guard ∷ number stage ∷ Plain op.i32_lt_u ∷ last)) (before_code us memory a under (Num (one_if t) ∷ []) last)) q
      (reaches_then reads (reaches_then (numbers us a (Num k ∷ []) (Plain op.i32_lt_u ∷ last)) tests))

  -- the block is left where nothing is done in it
  leaves : Reaches wasm d 1 (before_code us memory (in_block a) under [] []) (before_code us memory a under [] [])
  leaves = one_step (omega arith) refl refl

  skips : Reaches wasm d 2 (before_code us memory a under (Num 0 ∷ []) last) (before_code us memory a under [] [])
  skips = reaches_then (one_step {u = before_code us memory (in_block a) under [] []} (omega arith) refl (rw (outs-If Empty (record { list = raising }) None, leb-zero (length a.values)) refl)) leaves

  enters : Reaches wasm d 1 (before_code us memory a under (Num 1 ∷ []) last) (before_code us memory (in_block a) under [] raising)
  enters = rw (append-nil work) (one_step (omega arith) refl (rw (outs-If Empty (record { list = raising }) None, leb-zero (length a.values)) refl))

  sets : Reaches wasm d 1 (before_code us memory (in_block a) under (Num stage ∷ []) (Index op.global_set guard ∷ work)) (before_code raised memory (in_block a) under [] work)
  unfolding out-Instr out
  sets = one_step (omega arith) refl (rw held refl)

  pub over_guard : stage ≤ k → Reaches wasm d 5 (before_code us memory a under [] (guarded guard stage work)) (before_code us memory a under [] [])
  over_guard le = (let q : nat_lt k stage ≡ false = grind (arith, nat_tests) in reaches_then (tested false q) skips)

  pub into_guard : k < stage → Reaches wasm d 6 (before_code us memory a under [] (guarded guard stage work)) (before_code raised memory (in_block a) under [] work)
  into_guard lt =
      let q : nat_lt k stage ≡ true = grind (arith, nat_tests) in
      reaches_then (tested true q) (reaches_then enters (reaches_then (numbers us (in_block a) [] (Index op.global_set guard ∷ work)) sets))

pub guards_within : (guard stage : ℕ) (work : List Instr) → stage < 2 ^ 32 → GuardsWithin guard stage work (guarded guard stage work)
guards_within guard stage work word = record {
  passes = λ wasm us memory k held small le a under. over_guard wasm us memory guard stage k work held small word a under le;
  begins = λ wasm us memory k held small lt a under. into_guard wasm us memory guard stage k work held small word a under lt;
}
