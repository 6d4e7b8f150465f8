-- How counted runs of pieces of code are put together, and the step of each instruction that a search has.
use denote.Hole.Carrier.{out}
use Rattle.std.proofs.Common.{◌≡◌, ℕ, zero, suc, ◌+◌, ◌^◌, ◌<◌, ◌≤◌, List, [], ◌∷◌, ◌++◌, length, take, drop, nat_eq, nat_lt, nat_le, not, slice_get, Some, None, option_map, true, refl, ap, arith, append_assoc, append-nil}
use Rattle.std.specs.Int.{cast_unsigned, cast_signed, w32, w64}
use Rattle.std.proofs.Math.Dec.{leb-zero}
use Rattle.std.proofs.lemmas.Int.{of_z-to_z}
use Rattle.std.proofs.lemmas.Option.{slice_get_within}
use Rattle.std.proofs.lemmas.Bool.Decides.{nat_tests}
use Rattle.wasm_form.specs.declared.instr.BlockType.TheVariants.{Empty}
use Rattle.wasm_form.specs.declared.instr.Instr.{Instr, Plain, Index, Block, Access, out-Instr}
use Rattle.wasm_form.specs.declared.instr.Instr.TheVariants.{outs-If, outs-Block}
use Rattle.wasm_form.specs.declared.module.Module.{Module}
use Rattle.wasm_form.specs.declared.runtime.Value.{Value}
use Rattle.wasm_form.specs.declared.runtime.Value.TheVariants.{Num}
use Rattle.spec_execution.specs.spec_runtime.Memories.{MemoryInstance, little_value, bytes_at}
use Rattle.spec_execution.specs.spec_runtime.Numerics.{W32}
use Rattle.spec_execution.specs.Values.{low}
use Rattle.spec_execution.specs.Activations.{Level, Activation, to_level, branched, one_if}
use Rattle.spec_execution.specs.Limits.{activations}
use Rattle.spec_execution.specs.Runs.{Frame}
use Rattle.spec_execution.specs.Instances.{ModuleParts}
use Rattle.spec_execution.specs.OneModule.{Starting, ModuleState}
use Rattle.merge_pieces.specs.Opcodes as op
use Rattle.merge_pieces.specs.Code.{number}
use Rattle.merge_find.specs.Decisions.{wide, when}
use Rattle.merge_pieces.specs.Running.{Reaches, there}
use Rattle.merge_pieces.proofs.Running.{reaches_more, reaches_then, one_step}
use Rattle.merge_find.specs.Counted.{standing}

-- ---- counting

pub within_then : {wasm : Module} {d j : ℕ} {t u v : ModuleState} (k n : ℕ) → j + k ≤ n → Reaches wasm d j t u → Reaches wasm d k u v → Reaches wasm d n t v
within_then k n le a b = reaches_more le (reaches_then a b)

-- ---- where code stands

-- with these locals
abbrev pub spot : ModuleParts → MemoryInstance → List Value → Activation → List (Frame Starting) → List Value → List Instr → ModuleState
spot us memory ls a under vs code = standing us memory (record a { locals = ls }) under vs code

-- before other code
abbrev pub before : List Instr → Activation → Activation
before q a = record a { rest = q ++ a.rest }

-- in a block without values of its own
abbrev pub inner : Activation → Activation
inner a = record a { values = []; rest = []; levels = record { below = a.values; arity = 0; again = None; after = a.rest } ∷ a.levels }

-- code that is gone through
pub record Steps (wasm : Module) (n : ℕ) (code : List Instr) (us : ModuleParts) (memory : MemoryInstance) (ls vs ws : List Value) : Type 0 where
  pub runs : (a : Activation) (under : List (Frame Starting)) → Reaches wasm (length (activations under) + 1) n (spot us memory ls a under vs code) (spot us memory ls a under ws [])

-- ---- reading a byte

one_item : (bytes : List ℕ) (i b : ℕ) → slice_get bytes i ≡ Some b → take 1 (drop i bytes) ≡ b ∷ []
one_item [] i b e = absurd cc
one_item (x ∷ xs) zero b e = (let same : x ≡ b = cc in ap (λ y. y ∷ []) same)
one_item (x ∷ xs) (suc i) b e = one_item xs i b e

pub byte_there : (bytes : List ℕ) (i b : ℕ) → slice_get bytes i ≡ Some b → option_map little_value (bytes_at bytes i 1) ≡ Some b
byte_there bytes i b e =
    let inside = slice_get_within bytes i b e in
    let fits : nat_le (i + 1) (length bytes) ≡ true = grind (arith, nat_tests) in
    rw (fits, one_item bytes i b e) (ap Some (omega arith))

module _ {wasm : Module} {us : ModuleParts} {memory : MemoryInstance} {ls : List Value} where
  pub steps_then : {p q : List Instr} {j : ℕ} {vs ws xs : List Value} (k n : ℕ) → j + k ≤ n → Steps wasm j p us memory ls vs ws
      → Steps wasm k q us memory ls ws xs → Steps wasm n (p ++ q) us memory ls vs xs
  steps_then {p} {q} k n le x y = record { runs = λ a under. rw append_assoc (within_then k n le (x.runs (before q a) under) (y.runs a under)) }

  pub steps_nothing : {vs : List Value} → Steps wasm 0 [] us memory ls vs vs
  steps_nothing = record { runs = λ a under. there }

  pub steps_get : (k : ℕ) (v : Value) (vs : List Value) → slice_get ls k ≡ Some v → Steps wasm 1 (Index op.local_get k ∷ []) us memory ls vs (v ∷ vs)
  unfolding out-Instr out
  steps_get k v vs e = record { runs = λ a under. one_step (omega arith) refl (rw e refl) }

  pub steps_number : (k : ℕ) (vs : List Value) → k < 2 ^ 32 → Steps wasm 1 (number k ∷ []) us memory ls vs (Num k ∷ vs)
  unfolding out-Instr out
  steps_number k vs small = record { runs = λ a under. one_step (omega arith) refl (let q : cast_unsigned w32 (cast_signed w32 k) ≡ k = of_z-to_z w32 k small in rw q refl) }

  pub steps_wide : (k : ℕ) (vs : List Value) → k < 2 ^ 64 → Steps wasm 1 (wide k ∷ []) us memory ls vs (Num k ∷ vs)
  unfolding out-Instr out
  steps_wide k vs small = record { runs = λ a under. one_step (omega arith) refl (let q : cast_unsigned w64 (cast_signed w64 k) ≡ k = of_z-to_z w64 k small in rw q refl) }

  pub steps_less : (x y : ℕ) (vs : List Value)
      → Steps wasm 1 (Plain op.i32_lt_u ∷ []) us memory ls (Num y ∷ Num x ∷ vs) (Num (one_if (nat_lt (low W32 x) (low W32 y))) ∷ vs)
  unfolding out-Instr out
  steps_less x y vs = record { runs = λ a under. one_step (omega arith) refl refl }

  pub steps_least : (x y : ℕ) (vs : List Value)
      → Steps wasm 1 (Plain op.i32_ge_u ∷ []) us memory ls (Num y ∷ Num x ∷ vs) (Num (one_if (nat_le (low W32 y) (low W32 x))) ∷ vs)
  unfolding out-Instr out
  steps_least x y vs = record { runs = λ a under. one_step (omega arith) refl refl }

  pub steps_differ : (x y : ℕ) (vs : List Value)
      → Steps wasm 1 (Plain op.i32_ne ∷ []) us memory ls (Num y ∷ Num x ∷ vs) (Num (one_if (not (nat_eq (low W32 x) (low W32 y)))) ∷ vs)
  unfolding out-Instr out
  steps_differ x y vs = record { runs = λ a under. one_step (omega arith) refl refl }

  pub steps_load : (x offset b : ℕ) (vs : List Value) → slice_get memory.bytes (low W32 x + offset) ≡ Some b
      → Steps wasm 1 (Access op.i32_load8_u 0 offset ∷ []) us memory ls (Num x ∷ vs) (Num b ∷ vs)
  unfolding out-Instr out
  steps_load x offset b vs e = record { runs = λ a under. one_step (omega arith) refl (rw (byte_there memory.bytes (low W32 x + offset) b e) refl) }

  -- ---- blocks

  pub steps_stays : (x deep : ℕ) → low W32 x ≡ 0 → Steps wasm 1 (Index op.br_if deep ∷ []) us memory ls (Num x ∷ []) []
  unfolding out-Instr out
  steps_stays x deep e = record { runs = λ a under. one_step (omega arith) refl (rw e refl) }

  module _ (a : Activation) (under : List (Frame Starting)) where
    off_inner : Reaches wasm (length (activations under) + 1) 1 (spot us memory ls (inner a) under [] []) (spot us memory ls a under [] [])
    off_inner = one_step (omega arith) refl refl

    into_when : (p : List Instr) (x k : ℕ) → low W32 x ≡ suc k
        → Reaches wasm (length (activations under) + 1) 1 (spot us memory ls a under (Num x ∷ []) (when p ∷ [])) (spot us memory ls (inner a) under [] p)
    into_when p x k e = rw (append-nil p) (one_step (omega arith) refl (rw (outs-If Empty (record { list = p }) None, e, leb-zero (length a.values)) refl))

    pub over_when : (p : List Instr) (x : ℕ) → low W32 x ≡ 0
        → Reaches wasm (length (activations under) + 1) 2 (spot us memory ls a under (Num x ∷ []) (when p ∷ [])) (spot us memory ls a under [] [])
    over_when p x e = within_then 1 2 (omega arith) (one_step (omega arith) refl (rw (outs-If Empty (record { list = p }) None, e, leb-zero (length a.values)) refl)) off_inner

    pub into_block : (p : List Instr) → Reaches wasm (length (activations under) + 1) 1 (spot us memory ls a under [] (Block Empty (record { list = p }) ∷ [])) (spot us memory ls (inner a) under [] p)
    into_block p = rw (append-nil p) (one_step (omega arith) refl (rw (outs-Block Empty (record { list = p }), leb-zero (length a.values)) refl))

-- ---- in whatever blocks

-- the same activation in other blocks, with these values and this code behind
abbrev pub moved : Activation → List Value → List Instr → List Level → Activation
moved a vs r lv = record a { values = vs; rest = r; levels = lv }

-- a block that takes no values, with this code behind it
abbrev pub level : List Value → List Instr → Level
level below after = record { below = below; arity = 0; again = None; after = after }

-- So many blocks further out is one that code follows.
pub record LeavesTo (end : List Instr) (deep : ℕ) (lv : List Level) : Type 0 where
  pub below : List Value
  pub more : List Instr
  pub there : slice_get lv deep ≡ Some (level below (end ++ more))

branched_at : (a : Activation) (deep : ℕ) (lv : List Level) (l : Level) → slice_get lv deep ≡ Some l → branched a deep lv ≡ to_level a l (drop (suc deep) lv)
branched_at a zero [] l e = absurd cc
branched_at a (suc deep) [] l e = absurd cc
branched_at a zero (x ∷ lv) l e = (let same : x ≡ l = cc in ap (λ k. to_level a k lv) same)
branched_at a (suc deep) (x ∷ lv) l e = branched_at a deep lv l e

module _ (a : Activation) (under : List (Frame Starting)) where
  -- At most so many steps lead from this code, in whatever blocks of the activation of which this is so, to other code.
  pub record Leads (wasm : Module) (n : ℕ) (code : List Instr) (us : ModuleParts) (memory : MemoryInstance) (ls : List Value) (In : List Level → Type 0) (end : List Instr) : Type 0 where
    pub runs : (vs : List Value) (r : List Instr) (lv : List Level) → In lv → (below : List Value) × (more : List Instr) × (levels : List Level)
        × Reaches wasm (length (activations under) + 1) n (spot us memory ls (moved a vs r lv) under [] code) (spot us memory ls (moved a below more levels) under [] end)

  module _ {wasm : Module} {us : ModuleParts} {memory : MemoryInstance} {ls : List Value} {In : List Level → Type 0} where
    pub leads_here : {code : List Instr} → Leads wasm 0 code us memory ls In code
    leads_here = record { runs = λ vs r lv at. (vs, r, lv, there) }

    pub leads_more : {code end : List Instr} {m : ℕ} (n : ℕ) → m ≤ n → Leads wasm m code us memory ls In end → Leads wasm n code us memory ls In end
    leads_more n le x = record { runs = λ vs r lv at. (let o = x.runs vs r lv at in (o.0, o.1, o.2, reaches_more le o.3)) }

    pub leads_after : {p q end : List Instr} {j : ℕ} (k n : ℕ) → j + k ≤ n → Steps wasm j p us memory ls [] [] → Leads wasm k q us memory ls In end
        → Leads wasm n (p ++ q) us memory ls In end
    leads_after {p} {q} k n le x y = record {
      runs = λ vs r lv at. (let o = y.runs vs r lv at in (o.0, o.1, o.2, rw append_assoc (within_then k n le (x.runs (before q (moved a vs r lv)) under) o.3)));
    }

    -- code in a block that is entered, whatever follows
    pub leads_when : {Inner : List Level → Type 0} {p end : List Instr} {j : ℕ} (q code : List Instr) (x i : ℕ) (k n : ℕ) → j + 1 + k ≤ n → low W32 x ≡ suc i
        → ((l : Level) (lv : List Level) → In lv → Inner (l ∷ lv)) → Steps wasm j p us memory ls [] (Num x ∷ []) → Leads wasm k code us memory ls Inner end
        → Leads wasm n ((p ++ when code ∷ []) ++ q) us memory ls In end
    leads_when {p} q code x i k n le e within s y = record {
      runs = λ vs r lv at.
          (let b = moved a vs (q ++ r) lv in
          let l = level vs (q ++ r) in
          let o = y.runs [] [] (l ∷ lv) (within l lv at) in
          let enters = within_then k (1 + k) (omega arith) (into_when b under code x i e) o.3 in
          (o.0, o.1, o.2, simp append_assoc (within_then (1 + k) n (omega arith) (s.runs (before (when code ∷ []) b) under) enters)));
    }

    pub leads_over : {p q end : List Instr} {j : ℕ} (code : List Instr) (x : ℕ) (k n : ℕ) → j + 2 + k ≤ n → low W32 x ≡ 0
        → Steps wasm j p us memory ls [] (Num x ∷ []) → Leads wasm k q us memory ls In end → Leads wasm n ((p ++ when code ∷ []) ++ q) us memory ls In end
    leads_over {p} {q} code x k n le e s y = record {
      runs = λ vs r lv at.
          (let b = moved a vs (q ++ r) lv in
          let o = y.runs vs r lv at in
          let passes = within_then k (2 + k) (omega arith) (over_when b under code x e) o.3 in
          (o.0, o.1, o.2, simp append_assoc (within_then (2 + k) n (omega arith) (s.runs (before (when code ∷ []) b) under) passes)));
    }

    -- code in a block that other code follows, to which a branch leads
    pub leads_block : {Inner : List Level → Type 0} {end : List Instr} (q code : List Instr) (k n : ℕ) → 1 + k ≤ n
        → ((vs : List Value) (r : List Instr) (lv : List Level) → Inner (level vs (q ++ r) ∷ lv)) → Leads wasm k code us memory ls Inner end
        → Leads wasm n (Block Empty (record { list = code }) ∷ q) us memory ls In end
    leads_block q code k n le within y = record {
      runs = λ vs r lv at.
          (let o = y.runs [] [] (level vs (q ++ r) ∷ lv) (within vs r lv) in
          (o.0, o.1, o.2, within_then k n le (into_block (moved a vs (q ++ r) lv) under code) o.3));
    }

  module _ {wasm : Module} {us : ModuleParts} {memory : MemoryInstance} {ls : List Value} {end : List Instr} {deep : ℕ} where
    branches : (x k : ℕ) (code : List Instr) → low W32 x ≡ suc k → (vs : List Value) (r : List Instr) (lv : List Level) → (to : LeavesTo end deep lv)
        → Reaches wasm (length (activations under) + 1) 1 (spot us memory ls (moved a vs r lv) under (Num x ∷ []) (Index op.br_if deep ∷ code))
        (spot us memory ls (moved a to.below to.more (drop (suc deep) lv)) under [] end)
    unfolding out-Instr out
    branches x k code e vs r lv to =
        one_step (omega arith) refl (rw (e, branched_at (record a { unit = 0; locals = ls; values = vs; rest = code ++ r; levels = lv }) deep lv (level to.below (end ++ to.more)) to.there, leb-zero (length vs)) refl)

    -- what is left for where a number isn't 0
    pub leads_off : {p : List Instr} {j : ℕ} (q : List Instr) (x k n : ℕ) → j + 1 ≤ n → low W32 x ≡ suc k → Steps wasm j p us memory ls [] (Num x ∷ [])
        → Leads wasm n ((p ++ Index op.br_if deep ∷ []) ++ q) us memory ls (LeavesTo end deep) end
    leads_off {p} q x k n le e s = record {
      runs = λ vs r lv to. (
        to.below,
        to.more,
        drop (suc deep) lv,
        simp append_assoc (within_then 1 n le (s.runs (before (Index op.br_if deep ∷ q) (moved a vs r lv)) under) (branches x k q e vs r lv to)),
      );
    }
