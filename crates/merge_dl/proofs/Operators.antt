-- The run of each instruction that the code of the loader's functions has, and what reading a byte comes to.
use denote.Hole.Carrier.{out}
use Rattle.std.proofs.Common.{◌≡◌, ℕ, ◌+◌, ◌%◌, ◌^◌, ◌<◌, List, [], ◌∷◌, length, take, drop, nat_eq, nat_le, bit_and, Some, None, option_map, Bool, true, false, if◌then◌else◌, refl, arith, slice_get}
use Rattle.std.proofs.lemmas.Option.{slice_get-get_or}
use Rattle.std.proofs.lemmas.Bool.Decides.{nat_tests}
use Rattle.wasm_form.specs.declared.instr.Instr.{Plain, Access, out-Instr}
use Rattle.wasm_form.specs.declared.module.Module.{Module}
use Rattle.wasm_form.specs.declared.runtime.Trap.TheVariants.{MemoryBounds}
use Rattle.wasm_form.specs.declared.runtime.Value.{Value}
use Rattle.wasm_form.specs.declared.runtime.Value.TheVariants.{Num}
use Rattle.spec_loading.specs.spec_runtime.Memories.{little_value, bytes_at}
use Rattle.spec_loading.specs.spec_runtime.Numerics.{W32, W64, isub}
use Rattle.spec_loading.specs.spec_execution.Values.{low}
use Rattle.spec_loading.specs.spec_execution.Activations.{one_if}
use Rattle.merge_start.specs.Running.{Changing, Does}
use Rattle.merge_pieces.proofs.Running.{one_step}
use Rattle.merge_find.proofs.Steps.{byte_there}

-- ---- reading a byte

byte_past : (bytes : List ℕ) (i : ℕ) → slice_get bytes i ≡ None → option_map little_value (bytes_at bytes i 1) ≡ None
byte_past bytes i e = go (nat_le (i + 1) (length bytes)) refl
  where
    go : (b : Bool) → nat_le (i + 1) (length bytes) ≡ b → option_map little_value (if b then Some (take 1 (drop i bytes)) else None) ≡ None
    go false q = refl
    go true q =
        let inside : i < length bytes = grind (arith, nat_tests) in
        let there = slice_get-get_or bytes i 0 inside in
        absurd cc

module _ {wasm : Module} {h : ℕ} where
  pub does_equal : {c : Changing} (a b : ℕ) (vs : List Value)
      → Does wasm h 1 (Plain 0x46 ∷ []) c (Num b ∷ Num a ∷ vs) c (Num (one_if (nat_eq (low W32 a) (low W32 b))) ∷ vs) None
  unfolding out-Instr out
  does_equal a b vs = record { runs = λ x. one_step (omega arith) refl refl }

  pub does_sub : {c : Changing} (a b : ℕ) (vs : List Value)
      → Does wasm h 1 (Plain 0x6B ∷ []) c (Num b ∷ Num a ∷ vs) c (Num (isub 32 (low W32 a) (low W32 b)) ∷ vs) None
  unfolding out-Instr out
  does_sub a b vs = record { runs = λ x. one_step (omega arith) refl refl }

  pub does_and : {c : Changing} (a b : ℕ) (vs : List Value)
      → Does wasm h 1 (Plain 0x71 ∷ []) c (Num b ∷ Num a ∷ vs) c (Num (bit_and (low W32 a) (low W32 b)) ∷ vs) None
  unfolding out-Instr out
  does_and a b vs = record { runs = λ x. one_step (omega arith) refl refl }

  pub does_wide_eqz : {c : Changing} (a : ℕ) (vs : List Value)
      → Does wasm h 1 (Plain 0x50 ∷ []) c (Num a ∷ vs) c (Num (one_if (nat_eq (low W64 a) 0)) ∷ vs) None
  unfolding out-Instr out
  does_wide_eqz a vs = record { runs = λ x. one_step (omega arith) refl refl }

  pub does_wrap : {c : Changing} (a : ℕ) (vs : List Value)
      → Does wasm h 1 (Plain 0xA7 ∷ []) c (Num a ∷ vs) c (Num (low W64 a % 2 ^ 32) ∷ vs) None
  unfolding out-Instr out
  does_wrap a vs = record { runs = λ x. one_step (omega arith) refl refl }

  pub does_load : {c : Changing} (a offset b : ℕ) (vs : List Value) → slice_get c.memory.bytes (low W32 a + offset) ≡ Some b
      → Does wasm h 1 (Access 0x2D 0 offset ∷ []) c (Num a ∷ vs) c (Num b ∷ vs) None
  unfolding out-Instr out
  does_load {c} a offset b vs e = record { runs = λ x. one_step (omega arith) refl (rw (byte_there c.memory.bytes (low W32 a + offset) b e) refl) }

  pub does_load_past : {c : Changing} (a offset : ℕ) (vs ws : List Value) → slice_get c.memory.bytes (low W32 a + offset) ≡ None
      → Does wasm h 1 (Access 0x2D 0 offset ∷ []) c (Num a ∷ vs) c ws (Some MemoryBounds)
  unfolding out-Instr out
  does_load_past {c} a offset vs ws e = record { runs = λ x. one_step (omega arith) refl (rw (byte_past c.memory.bytes (low W32 a + offset) e) refl) }
