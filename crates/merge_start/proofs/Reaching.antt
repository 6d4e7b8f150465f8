-- How runs of pieces of code are put together, and the run of each instruction.
use denote.Hole.Carrier.{out}
use Rattle.std.proofs.Common.{◌≡◌, ◌+◌, ◌≤◌, arith, ℕ, zero, suc, List, [], ◌∷◌, ◌++◌, Option, Some, None, Bool, true, false, refl, sym, subst, append_assoc, append-nil, mod-eq_of_lt, nat_lt, nat_eq, length, slice_get, slice_set}
use Rattle.std.proofs.Math.Dec.{leb-zero}
use Rattle.std.specs.Int.{cast_unsigned, cast_signed, w32}
use Rattle.std.proofs.lemmas.Int.{of_z-to_z}
use Rattle.wasm_form.specs.declared.instr.BlockType.TheVariants.{Empty}
use Rattle.wasm_form.specs.declared.instr.Instr.{Instr, Plain, Index, If, Prefixed, out-Instr}
use Rattle.wasm_form.specs.declared.instr.Instr.TheVariants.{outs-If}
use Rattle.wasm_form.specs.declared.module.Module.{Module}
use Rattle.wasm_form.specs.declared.runtime.Trap.{Trap}
use Rattle.wasm_form.specs.declared.runtime.Value.{Value}
use Rattle.wasm_form.specs.declared.runtime.Value.TheVariants.{Num}
use Rattle.spec_loading.specs.spec_runs.Systems.{Moving}
use Rattle.spec_loading.specs.spec_runs.Agreement.{Silent}
use Rattle.spec_loading.specs.spec_runtime.Numerics.{W32, iadd}
use Rattle.spec_loading.specs.spec_execution.Values.{low}
use Rattle.spec_loading.specs.spec_execution.Activations.{Level, Activation, Effect, TableInit, ElemDrop, MemoryInit, DataDrop, one_if}
use Rattle.spec_loading.specs.spec_execution.Views.{Effected, Gives, Traps, performed}
use Rattle.spec_loading.specs.Costs.{depth_at}
use Rattle.spec_loading.specs.spec_execution.Limits.{activations}
use Rattle.spec_loading.specs.spec_execution.Runs.{Frame}
use Rattle.spec_loading.specs.spec_execution.Runs as frames
use Rattle.spec_loading.specs.spec_execution.Instances.{ModuleParts, module_view}
use Rattle.spec_loading.specs.spec_execution.OneModule.{Starting, ModuleState, module_step}
use Rattle.merge_match.specs.Matching.{system_of}
use Rattle.merge_pieces.specs.Opcodes as op
use Rattle.merge_start.specs.Words.{number, effect_code, guarded}
use Rattle.merge_pieces.specs.Running.{Reaches, there, goes}
use Rattle.merge_pieces.proofs.Running.{reaches_more, reaches_then, one_more, one_step}
use Rattle.merge_start.specs.Running.{Changing, Around, at, ends_at, Does}
use Rattle.merge_start.specs.Started.{IsWord}

-- ---- silent steps

abbrev pub Lows : Module → ℕ → ℕ → ModuleState → Type 0
Lows wasm d k t = (j : ℕ) (v : ModuleState) → suc j ≤ k → Silent (system_of (module_step wasm)) j t v → depth_at v.status v.stack ≤ d

lows_first : (wasm : Module) (d k : ℕ) (t u : ModuleState) → length (activations t.stack) ≤ d → t.status ≡ Moving → module_step wasm t ≡ Some u
    → Lows wasm d k u → Lows wasm d (suc k) t
lows_first wasm d k t u low moving e more zero v le silent =
    subst (λ y. depth_at y.status y.stack ≤ d) silent (subst (λ status. depth_at status t.stack ≤ d) (sym moving) low)
lows_first wasm d k t u low moving e more (suc j) v le silent =
    let first : silent.0 ≡ u = cc in
    more j v (omega (arith, le)) (subst (λ y. Silent (system_of (module_step wasm)) j y v) first silent.3)

pub silent_of : {wasm : Module} {d n : ℕ} {t u : ModuleState} → Reaches wasm d n t u
    → (k : ℕ) × Silent (system_of (module_step wasm)) k t u × (k ≤ n) × Lows wasm d k t
silent_of there = (0, refl, omega arith, λ j v le silent. absurd (omega (arith, le)))
silent_of {wasm} {d} (goes {t} {u} lt low moving e more) =
    (let rest = silent_of more in let few = rest.2 in (suc rest.0, (u, moving, e, rest.1), omega (arith, lt, few), lows_first wasm d rest.0 t u low moving e rest.3))

pub of_silent : {wasm : Module} {d : ℕ} (k : ℕ) {t u : ModuleState} → Silent (system_of (module_step wasm)) k t u → Lows wasm d k t
    → Reaches wasm d k t u
of_silent {wasm} {d} zero {t} e lows = subst (λ v. Reaches wasm d 0 t v) e there
of_silent {wasm} {d} (suc k) {t} e lows =
    let here = lows 0 t (omega arith) refl in
    one_more (subst (λ status. depth_at status t.stack ≤ d) e.1 here) e.1 e.2
    (of_silent k e.3 (λ j v le silent. lows (suc j) v (omega (arith, le)) (e.0, e.1, e.2, silent)))

abbrev pub with_global : Changing → ℕ → Value → Changing
with_global c g v = record c { units = record c.units { globals = slice_set c.units.globals g v } }

-- where the code in a block of its own stands
abbrev pub level : Around → List Value → Level
level x vs = record { below = vs ++ x.below; arity = 0; again = None; after = x.more }

abbrev pub inside : Around → List Value → Around
inside x vs = record x { below = []; more = []; levels = level x vs ∷ x.levels }

-- ---- what an effect comes to

abbrev pub with_effected : Changing → Effected ModuleParts → Changing
with_effected c (Gives vs us memory) = record { units = us; memory = memory }
with_effected c (Traps why) = c

abbrev pub effected_values : {Units : Type 0} → Effected Units → List Value
effected_values (Gives vs us memory) = vs
effected_values (Traps why) = []

abbrev pub effected_trap : {Units : Type 0} → Effected Units → Option Trap
effected_trap (Gives vs us memory) = None
effected_trap (Traps why) = Some why

-- the code has the effect, whatever comes of it
abbrev pub Performs : Module → ℕ → ℕ → Effect → List Instr → List Value → Type 0
Performs wasm h k x code vs = (c : Changing) (p : Effected ModuleParts) → performed (module_view wasm) c.units c.memory 0 x ≡ Some p
    → Does wasm h k code c vs (with_effected c p) (effected_values p) (effected_trap p)

-- the numbers of an effect of segments are words
abbrev pub HasWords : Effect → Type 0
HasWords (TableInit e t to from count) = IsWord to × IsWord from × IsWord count
HasWords (ElemDrop e) = Unit {0}
HasWords (MemoryInit d to from count) = IsWord to × IsWord from × IsWord count
HasWords (DataDrop d) = Unit {0}
HasWords _ = ⊥

low_small : (k : ℕ) → IsWord k → low W32 k ≡ k
low_small k small = mod-eq_of_lt small

module _ {wasm : Module} {h : ℕ} where
  -- ---- pieces one after the other

  pub does_more : {a b : ℕ} {p : List Instr} {c d : Changing} {vs ws : List Value} {o : Option Trap} → a ≤ b → Does wasm h a p c vs d ws o
      → Does wasm h b p c vs d ws o
  does_more le does = record { runs = λ x. reaches_more le (does.runs x) }

  pub does_nothing : {c : Changing} {vs : List Value} → Does wasm h 0 [] c vs c vs None
  does_nothing = record { runs = λ x. there }

  pub does_then : {a' b' : ℕ} {p q : List Instr} {c d e : Changing} {vs ws us : List Value} {o : Option Trap} → Does wasm h a' p c vs d ws None
      → Does wasm h b' q d ws e us o → Does wasm h (a' + b') (p ++ q) c vs e us o
  does_then {p} {q} {c} {d} {e} {vs} {ws} {us} {o} a b = record {
    runs = λ x.
        let first = a.runs (record x { more = q ++ x.more }) in
        let second = b.runs x in
        rw append_assoc (reaches_then first second);
  }

  -- a trap ends the run
  pub does_trap : {k : ℕ} {p : List Instr} {c d : Changing} {vs ws : List Value} (q : List Instr) (us : List Value) {why : Trap}
      → Does wasm h k p c vs d ws (Some why) → Does wasm h k (p ++ q) c vs d us (Some why)
  does_trap {p} q us a = record { runs = λ x. rw append_assoc (a.runs (record x { more = q ++ x.more })) }

  -- ---- instructions

  pub does_number : {c : Changing} (k : ℕ) (vs : List Value) → IsWord k → Does wasm h 1 (number k ∷ []) c vs c (Num k ∷ vs) None
  unfolding out-Instr out
  does_number {c} k vs small = record {
    runs = λ x. one_step (omega arith) refl (let q : cast_unsigned w32 (cast_signed w32 k) ≡ k = of_z-to_z w32 k small in rw q refl);
  }

  pub does_global : {c : Changing} (g : ℕ) (v : Value) (vs : List Value) → slice_get c.units.globals g ≡ Some v
      → Does wasm h 1 (Index op.global_get g ∷ []) c vs c (v ∷ vs) None
  unfolding out-Instr out
  does_global g v vs e = record { runs = λ x. one_step (omega arith) refl (rw e refl) }

  pub does_set : {c : Changing} (g : ℕ) (v old : Value) (vs : List Value) → slice_get c.units.globals g ≡ Some old
      → Does wasm h 1 (Index op.global_set g ∷ []) c (v ∷ vs) (with_global c g v) vs None
  unfolding out-Instr out
  does_set g v old vs e = record { runs = λ x. one_step (omega arith) refl (rw e refl) }

  pub does_less : {c : Changing} (a b : ℕ) (vs : List Value)
      → Does wasm h 1 (Plain op.i32_lt_u ∷ []) c (Num b ∷ Num a ∷ vs) c (Num (one_if (nat_lt (low W32 a) (low W32 b))) ∷ vs) None
  unfolding out-Instr out
  does_less a b vs = record { runs = λ x. one_step (omega arith) refl refl }

  pub does_eqz : {c : Changing} (a : ℕ) (vs : List Value)
      → Does wasm h 1 (Plain op.i32_eqz ∷ []) c (Num a ∷ vs) c (Num (one_if (nat_eq (low W32 a) 0)) ∷ vs) None
  unfolding out-Instr out
  does_eqz a vs = record { runs = λ x. one_step (omega arith) refl refl }

  pub does_add : {c : Changing} (a b : ℕ) (vs : List Value)
      → Does wasm h 1 (Plain op.i32_add ∷ []) c (Num b ∷ Num a ∷ vs) c (Num (iadd 32 (low W32 a) (low W32 b)) ∷ vs) None
  unfolding out-Instr out
  does_add a b vs = record { runs = λ x. one_step (omega arith) refl refl }

module _ {wasm : Module} (h : ℕ) where
  -- ---- blocks

  off_block : {c : Changing} (x : Around) (vs : List Value) → Reaches wasm (length (activations x.under) + suc h) 1 (at c (inside x vs) [] []) (at c x vs [])
  off_block x vs = one_step (omega arith) refl refl

  into_if : {c : Changing} (x : Around) (p : List Instr) (vs : List Value)
      → Reaches wasm (length (activations x.under) + suc h) 1 (at c x (Num 1 ∷ vs) (If Empty (record { list = p }) None ∷ [])) (at c (inside x vs) [] p)
  into_if {c} x p vs = rw (append-nil p) (one_step (omega arith) refl (rw (outs-If Empty (record { list = p }) None, leb-zero (length (vs ++ x.below))) refl))

  into_skip : {c : Changing} (x : Around) (p : List Instr) (vs : List Value)
      → Reaches wasm (length (activations x.under) + suc h) 1 (at c x (Num 0 ∷ vs) (If Empty (record { list = p }) None ∷ [])) (at c (inside x vs) [] [])
  into_skip {c} x p vs = one_step (omega arith) refl (rw (outs-If Empty (record { list = p }) None, leb-zero (length (vs ++ x.below))) refl)

module _ {wasm : Module} {h : ℕ} where
  pub does_skip : {c : Changing} (p : List Instr) (vs : List Value) → Does wasm h 2 (If Empty (record { list = p }) None ∷ []) c (Num 0 ∷ vs) c vs None
  does_skip p vs = record { runs = λ x. reaches_then (into_skip h x p vs) (off_block h x vs) }

  pub does_if : {k : ℕ} {p : List Instr} {c d : Changing} {o : Option Trap} (vs : List Value) → Does wasm h k p c [] d [] o
      → Does wasm h (1 + (k + 1)) (If Empty (record { list = p }) None ∷ []) c (Num 1 ∷ vs) d vs o
  does_if {k} {p} {c} {d} {o} vs a = record { runs = λ x. reaches_then (into_if h x p vs) (reaches_then (a.runs (inside x vs)) (off o x)) }
    where
      off : (o : Option Trap) (x : Around) → Reaches wasm (length (activations x.under) + suc h) 1 (ends_at d (inside x vs) [] o) (ends_at d x vs o)
      off None x = off_block h x vs
      off (Some why) x = there

  -- ---- effects

  three : {c : Changing} (to from count : ℕ) → IsWord to → IsWord from → IsWord count
      → Does wasm h 3 (number to ∷ number from ∷ number count ∷ []) c [] c (Num count ∷ Num from ∷ Num to ∷ []) None
  three to from count far off many =
      does_then (does_number to [] far) (does_then (does_number from (Num to ∷ []) off) (does_number count (Num from ∷ Num to ∷ []) many))

  init_table : (e t to from count : ℕ) → IsWord to → IsWord from → IsWord count
      → Performs wasm h 1 (TableInit e t to from count) (Prefixed op.table_init e t ∷ []) (Num count ∷ Num from ∷ Num to ∷ [])
  unfolding out-Instr out
  init_table e t to from count far off many c (Gives vs us memory) q =
      record { runs = λ x. one_step (omega arith) refl (rw (low_small to far, low_small from off, low_small count many, q) refl) }
  init_table e t to from count far off many c (Traps why) q =
      record { runs = λ x. one_step (omega arith) refl (rw (low_small to far, low_small from off, low_small count many, q) refl) }

  init_memory : (d to from count : ℕ) → IsWord to → IsWord from → IsWord count
      → Performs wasm h 1 (MemoryInit d to from count) (Prefixed op.memory_init d 0 ∷ []) (Num count ∷ Num from ∷ Num to ∷ [])
  unfolding out-Instr out
  init_memory d to from count far off many c (Gives vs us memory) q =
      record { runs = λ x. one_step (omega arith) refl (rw (low_small to far, low_small from off, low_small count many, q) refl) }
  init_memory d to from count far off many c (Traps why) q =
      record { runs = λ x. one_step (omega arith) refl (rw (low_small to far, low_small from off, low_small count many, q) refl) }

  pub does_effect : (x : Effect) → HasWords x → Performs wasm h 4 x (effect_code x) []
  unfolding out-Instr out
  does_effect (TableInit e t to from count) words c p q =
      does_then (three to from count words.0 words.1 words.2) (init_table e t to from count words.0 words.1 words.2 c p q)
  does_effect (ElemDrop e) words c (Gives vs us memory) q = record { runs = λ x. reaches_more {m = 1} (omega arith) (one_step (omega arith) refl (rw q refl)) }
  does_effect (ElemDrop e) words c (Traps why) q = record { runs = λ x. reaches_more {m = 1} (omega arith) (one_step (omega arith) refl (rw q refl)) }
  does_effect (MemoryInit d to from count) words c p q =
      does_then (three to from count words.0 words.1 words.2) (init_memory d to from count words.0 words.1 words.2 c p q)
  does_effect (DataDrop d) words c (Gives vs us memory) q = record { runs = λ x. reaches_more {m = 1} (omega arith) (one_step (omega arith) refl (rw q refl)) }
  does_effect (DataDrop d) words c (Traps why) q = record { runs = λ x. reaches_more {m = 1} (omega arith) (one_step (omega arith) refl (rw q refl)) }
  does_effect _ words c p q = absurd words

  -- ---- guards

  module _ {c : Changing} (g stage new : ℕ) (small : IsWord stage) (less : IsWord new) (held : slice_get c.units.globals g ≡ Some (Num stage)) where
    -- the guard is read, and whether it is below the stage
    tested : (b : Bool) → nat_lt stage new ≡ b → Does wasm h 3 (Index op.global_get g ∷ number new ∷ Plain op.i32_lt_u ∷ []) c [] c (Num (one_if b) ∷ []) None
    tested b q =
        let same : one_if (nat_lt (low W32 stage) (low W32 new)) ≡ one_if b = rw (low_small stage small, low_small new less, q) refl in
        subst (λ k. Does wasm h 3 (Index op.global_get g ∷ number new ∷ Plain op.i32_lt_u ∷ []) c [] c (Num k ∷ []) None) same
        (does_then (does_global g (Num stage) [] held) (does_then (does_number new (Num stage ∷ []) less) (does_less stage new [])))

    -- what has the stage already is passed over
    pub does_passed : (work : List Instr) → nat_lt stage new ≡ false → Does wasm h 5 (guarded g new work) c [] c [] None
    unfolding guarded
    does_passed work q = does_then (tested false q) (does_skip (number new ∷ Index op.global_set g ∷ work) [])

    raises : Does wasm h 2 (number new ∷ Index op.global_set g ∷ []) c [] (with_global c g (Num new)) [] None
    raises = does_then (does_number new [] less) (does_set g (Num new) (Num stage) [] held)

    -- else the stage is raised, and the work done
    pub does_guarded : {k : ℕ} {d : Changing} {o : Option Trap} (work : List Instr) → nat_lt stage new ≡ true
        → Does wasm h k work (with_global c g (Num new)) [] d [] o → Does wasm h (7 + k) (guarded g new work) c [] d [] o
    unfolding guarded
    does_guarded {k} work q a = does_more {a = 3 + (1 + ((2 + k) + 1))} (omega arith) (does_then (tested true q) (does_if [] (does_then raises a)))

module _ {wasm : Module} (h : ℕ) {c : Changing} (g stage new : ℕ) (small : IsWord stage) (less : IsWord new)
    (held : slice_get c.units.globals g ≡ Some (Num stage)) where
  -- the same up to where the work begins
  pub reaches_work : (x : Around) (work : List Instr) → nat_lt stage new ≡ true
      → Reaches wasm (length (activations x.under) + suc h) 6 (at c x [] (guarded g new work)) (at (with_global c g (Num new)) (inside x []) [] work)
  unfolding guarded
  reaches_work x work q =
      let test = (tested {h = h} g stage new small less held true q).runs (record x { more = If Empty (record { list = number new ∷ Index op.global_set g ∷ work }) None ∷ x.more }) in
      let raise = (raises {h = h} g stage new small less held).runs (record (inside x []) { more = work ++ [] }) in
      reaches_then test (reaches_then (into_if h x (number new ∷ Index op.global_set g ∷ work) []) raise)

module _ {wasm : Module} where
  -- a function without results comes to its end
  pub reaches_under : {c : Changing} {e : ℕ} (f : ℕ) (b : Activation) (gs : List (Frame Starting)) → length (activations gs) + 2 ≤ e
      → Reaches wasm e 1 (at c (record { func = f; results = 0; locals = []; below = []; more = []; levels = []; under = frames.Active b ∷ gs }) [] [])
      (record { units = c.units; memory = c.memory; stack = frames.Active b ∷ gs; status = Moving })
  reaches_under f b gs enough = one_step (omega (arith, enough)) refl refl
