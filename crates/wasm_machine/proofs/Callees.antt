-- What a call comes to by the function that it calls.
use Rattle.std.proofs.Common.{arith, length, ◌≤◌, ◌≡◌, ◌≢◌, ℕ, ◌<◌, true, false, List, [], ◌∷◌, drop, refl, ap, ◌∙◌, Bool, Option, Some, None, Ok, Err}
use Rattle.std.specs.Prelude.{reverse, is_some, IsSome, if◌then◌else◌, Result}
use Rattle.wasm_form.specs.declared.instr.Instr.{Instr, out-Instr}
use Rattle.wasm_form.specs.declared.types.FuncType.{FuncType}
use Rattle.wasm_form.specs.declared.runtime.Ref.{Ref}
use Rattle.wasm_form.specs.declared.runtime.Ref.TheVariants.{Own, Stub}
use Rattle.wasm_form.specs.declared.runtime.Trap.{Trap}
use Rattle.wasm_form.specs.declared.runtime.Trap.TheVariants as trap
use Rattle.wasm_form.specs.declared.runtime.Value.{Value}
use Rattle.wasm_form.specs.declared.runtime.Value.TheVariants.{Num, Func}
use Rattle.spec_safety.specs.spec_binary.Options.{◌>>=◌}
use Rattle.spec_safety.specs.spec_binary.Indices.{Function}
use Rattle.spec_safety.specs.spec_binary.SameTypes.{same_function_type}
use Rattle.spec_safety.specs.spec_runtime.Numerics.{W32}
use Rattle.spec_safety.specs.spec_runtime.Memories.{MemoryInstance}
use Rattle.spec_safety.specs.spec_runtime.Tables.{TableInstance, entry_at}
use Rattle.spec_safety.specs.spec_execution.Values.{low, take_values}
use Rattle.spec_safety.specs.spec_execution.Activations.{Activation, Move, CallsEntry, with_values, with_i32}
use Rattle.spec_safety.specs.spec_execution.Views.{View, Counts, type_of}
use Rattle.spec_safety.specs.spec_execution.Ranges.{AreInRange, Exists}
use Rattle.spec_safety.specs.spec_execution.Runs.{Frame, Active, Next, Traps, Caller, call_own, call, calling, call_entry, carried_out}
use Rattle.wasm_step.specs.Named.{NamesAreThere}
use Rattle.wasm_step.specs.Primitives.{first_of, number_on, with_rest}
use Rattle.wasm_machine.specs.Machines.{past_call, indirect, is_outside, some_outside, next_of, calls_outside, calls_outside_here, entry_of_type, entry_is_outside}
use Rattle.wasm_machine.specs.Outside.{callee_of}
use Rattle.wasm_machine.specs.Callees.{callee_move, above_of, IsNamed, HasIndex, is_outside_callee, entry_result, IsCalled}
use Rattle.wasm_machine.specs.declared.calls.Callee.{Callee}
use Rattle.wasm_machine.specs.declared.calls.Callee.TheVariants as callee
use Rattle.wasm_machine.proofs.Called.{target_exists}
use Rattle.wasm_machine.proofs.Coming.{outside_at, entry_called, function_step, function_outside, entry_step, called_in_range, type_in_range, table_in_range}

-- ---- the instruction that comes next

pub callee_named : (c : Counts) (is : List Instr) (i : Instr) → AreInRange c is → Some i ≡ first_of is → (k : Callee) → callee_of (out-Instr i) ≡ Some k → IsNamed c k
callee_named c is i h e (callee.Function f) q = called_in_range c is i h e f q
callee_named c is i h e (callee.Entry ty table) q = (type_in_range c is i h e ty table q, table_in_range c is i h e ty table q)

module _ {Units : Type 0} (V : View Units) (us : Units) (a : Activation) (i : Instr) (e : Some i ≡ first_of a.rest) where
  pub callee_step : (k : Callee) → callee_of (out-Instr i) ≡ Some k → (memory : MemoryInstance) (frames : List (Frame ℕ)) → next_of V us memory (Active a ∷ frames) ≡ carried_out V us memory frames (callee_move k a)
  callee_step (callee.Function f) q memory frames = function_step V us a i e f q memory frames
  callee_step (callee.Entry ty table) q memory frames = entry_step V us a i e ty table q memory frames

  pub callee_outside : (k : Callee) → callee_of (out-Instr i) ≡ Some k → calls_outside V us a ≡ is_outside_callee V us a k
  callee_outside (callee.Function f) q = function_outside V us a i e f q
  callee_outside (callee.Entry ty table) q = outside_at V us a.rest a i e ∙ ap (calls_outside_here V us a) (entry_called (out-Instr i) ty table q)

-- a call that isn't stuck has the index of its entry on top
module _ {Units : Type 0} (V : View Units) (us : Units) (memory : MemoryInstance) (frames : List (Frame ℕ)) where
  index_on : (vs : List Value) (go : ℕ → List Value → Move) → carried_out V us memory frames (with_i32 vs go) ≢ None → IsSome (number_on vs)
  index_on [] go m = absurd (m refl)
  index_on (Num n ∷ vs) go m = refl
  index_on (Func r ∷ vs) go m = absurd (m refl)

  pub has_index : (k : Callee) (a : Activation) → carried_out V us memory frames (callee_move k a) ≢ None → HasIndex a.values k
  has_index (callee.Function f) a m = tt
  has_index (callee.Entry ty table) a m = index_on a.values (λ i vs. CallsEntry table ty i (with_values (with_rest a (drop 1 a.rest)) vs)) m

pub above_within : (k : Callee) (vs : List Value) → HasIndex vs k → above_of k ≤ length vs
above_within (callee.Function f) vs h = omega arith
above_within (callee.Entry ty table) [] h = absurd cc
above_within (callee.Entry ty table) (v ∷ vs) h = omega arith

-- ---- calls that aren't stuck

always : {X Y : Type 0} (o : Option X) (y : Y) → (o >>= λ _. Some y) ≢ None → (o >>= λ _. Some y) ≡ Some y
always None y m = absurd (m refl)
always (Some x) y m = refl

taken_some : {X Y : Type 0} (o : Option X) (f : X → Y) → (o >>= λ p. Some (f p)) ≢ None → is_some o ≡ true
taken_some None f m = absurd (m refl)
taken_some (Some x) f m = refl

module _ {Units : Type 0} (us : Units) (memory : MemoryInstance) (caller : Caller ℕ) (values : List Value) where
  own_taken : (o : Option Function) (unit f : ℕ) (ty : FuncType) → Some ty ≡ (o >>= λ x. Some x.ty) → (o >>= call_own us memory caller values unit f) ≢ None → is_some (take_values (reverse ty.params) values) ≡ true
  own_taken None unit f ty e m = absurd (m refl)
  own_taken (Some x) unit f ty e m = let q : ty ≡ x.ty = cc in rw q (taken_some (take_values (reverse x.ty.params) values) _ m)

  stub_trapped : (o : Option FuncType) (y : Next Units ℕ) → (o >>= λ ty. take_values (reverse ty.params) values >>= λ p. Some y) ≢ None → (o >>= λ ty. take_values (reverse ty.params) values >>= λ p. Some y) ≡ Some y
  stub_trapped None y m = absurd (m refl)
  stub_trapped (Some ty) y m = always (take_values (reverse ty.params) values) y m

  module _ (V : View Units) (unit f : ℕ) where
    pub arguments_there : (ty : FuncType) → Some ty ≡ type_of V (Own unit f) → call V us memory caller values (Own unit f) ≢ None → is_some (take_values (reverse ty.params) values) ≡ true
    arguments_there ty e m = own_taken (V.code unit f) unit f ty e m

    pub stub_traps : call V us memory caller values (Stub unit f) ≢ None → call V us memory caller values (Stub unit f) ≡ Some (Traps trap.Unreachable)
    stub_traps m = stub_trapped (V.stub unit f) (Traps trap.Unreachable) m

-- ---- entries

module _ (ty : FuncType) (s : Ref) where
  abbrev chosen : Bool → Option (Result Ref Trap)
  chosen b = if b then Some (Ok s) else Some (Err trap.WrongType)

  by_same : (b : Bool) (r : Ref) → Some (Ok r) ≡ chosen b → (s ≡ r) × (b ≡ true)
  by_same true r e = (cc, refl)
  by_same false r e = absurd cc

  by_other : (b : Bool) (why : Trap) → Some (Err why) ≡ chosen b → (why ≡ trap.WrongType) × (b ≡ false)
  by_other true why e = absurd cc
  by_other false why e = (cc, refl)

module _ {Units : Type 0} (V : View Units) (us : Units) (memory : MemoryInstance) (ty : FuncType) where
  of_type : (o : Option FuncType) (s r : Ref) → Some (Ok r) ≡ (o >>= λ found. if same_function_type found ty then Some (Ok s) else Some (Err trap.WrongType))
      → (s ≡ r) × ((n m : Option (Next Units ℕ)) → (o >>= λ found. if same_function_type found ty then n else m) ≡ n) × ((n m : Option Ref) → (o >>= λ found. if same_function_type found ty then n else m) ≡ n)
  of_type None s r e = absurd cc
  of_type (Some found) s r e = let h = by_same ty s (same_function_type found ty) r e in (h.0, (λ n m. rw h.1 refl), (λ n m. rw h.1 refl))

  of_other : (o : Option FuncType) (s : Ref) (why : Trap) → Some (Err why) ≡ (o >>= λ found. if same_function_type found ty then Some (Ok s) else Some (Err trap.WrongType))
      → (why ≡ trap.WrongType) × ((n m : Option (Next Units ℕ)) → (o >>= λ found. if same_function_type found ty then n else m) ≡ m)
  of_other None s why e = absurd cc
  of_other (Some found) s why e = let h = by_other ty s (same_function_type found ty) why e in (h.0, (λ n m. rw h.1 refl))

  entry_goes : (o : Option (Option Ref)) (r : Ref) → Some (Ok r) ≡ entry_result V ty o
      → (o ≡ Some (Some r)) × ((a : Activation) (frames : List (Frame ℕ)) → call_entry V us memory frames a ty o ≡ call V us memory (calling a frames) a.values r) × (some_outside (entry_of_type V (Some ty) o) ≡ is_outside r)
  entry_goes None r e = absurd cc
  entry_goes (Some None) r e = absurd cc
  entry_goes (Some (Some s)) r e =
      let h = of_type (type_of V s) s r e in
      (ap (λ x. Some (Some x)) h.0, (λ a frames. h.1 _ _ ∙ ap (call V us memory (calling a frames) a.values) h.0), ap some_outside (h.2 _ _) ∙ ap is_outside h.0)

  entry_traps : (o : Option (Option Ref)) (why : Trap) → Some (Err why) ≡ entry_result V ty o → (a : Activation) (frames : List (Frame ℕ)) → call_entry V us memory frames a ty o ≡ Some (Traps why)
  entry_traps None why e a frames = let q : why ≡ trap.TableBounds = cc in rw q refl
  entry_traps (Some None) why e a frames = let q : why ≡ trap.NullEntry = cc in rw q refl
  entry_traps (Some (Some s)) why e a frames = let h = of_other (type_of V s) s why e in rw h.0 (h.1 _ _)

module _ {Units : Type 0} (V : View Units) (us : Units) (memory : MemoryInstance) (a : Activation) (ty table n : ℕ) (on : number_on a.values ≡ Some n) where
  -- the activation past the call, with the index taken
  abbrev after : Activation
  after = past_call a 1

  carried_at : (b : Activation) (vs : List Value) (frames : List (Frame ℕ)) → number_on vs ≡ Some n
      → carried_out V us memory frames (with_i32 vs (λ i ws. CallsEntry table ty i (with_values b ws))) ≡ (V.table us b.unit table >>= λ x. V.declared b.unit ty >>= λ f. call_entry V us memory frames (with_values b (drop 1 vs)) f (entry_at x (low W32 n)))
  carried_at b [] frames e = absurd cc
  carried_at b (Num m ∷ vs) frames e = let q : m ≡ n = cc in rw q refl
  carried_at b (Func r ∷ vs) frames e = absurd cc

  outside_with : (vs : List Value) → number_on vs ≡ Some n → (number_on vs >>= λ k. V.table us a.unit table >>= λ x. entry_of_type V (V.declared a.unit ty) (entry_at x (low W32 k))) ≡ (V.table us a.unit table >>= λ x. entry_of_type V (V.declared a.unit ty) (entry_at x (low W32 n)))
  outside_with vs e = rw e refl

  module _ (x : TableInstance) (f : FuncType) (ex : Some x ≡ V.table us a.unit table) (ef : Some f ≡ V.declared a.unit ty) where
    carried_there : (frames : List (Frame ℕ)) → carried_out V us memory frames (indirect ty table a) ≡ call_entry V us memory frames after f (entry_at x (low W32 n))
    carried_there frames = carried_at (with_rest a (drop 1 a.rest)) a.values frames on ∙ rw (← ex, ← ef) refl

    outside_there : entry_is_outside V us a ty table ≡ some_outside (entry_of_type V (Some f) (entry_at x (low W32 n)))
    outside_there = ap some_outside (outside_with a.values on ∙ rw (← ex, ← ef) refl)

    pub called_entry : (result : Result Ref Trap) → Some result ≡ entry_result V f (entry_at x (low W32 n)) → ((r : Ref) → entry_at x (low W32 n) ≡ Some (Some r) → Exists V r) → IsCalled V us memory (callee.Entry ty table) a result
    called_entry (Ok r) e there =
        let h = entry_goes V us memory f (entry_at x (low W32 n)) r e in
        (there r h.0, outside_there ∙ h.2, λ frames. carried_there frames ∙ h.1 after frames)
    called_entry (Err why) e there = λ frames. carried_there frames ∙ entry_traps V us memory f (entry_at x (low W32 n)) why e after frames

-- ---- functions by their numbers

module _ {Units : Type 0} (V : View Units) (us : Units) (memory : MemoryInstance) (a : Activation) (f : ℕ) (r : Ref) (names : NamesAreThere V) (named : f < (V.counts a.unit).functions) (e : Some r ≡ V.target a.unit f) where
  pub called_function : IsCalled V us memory (callee.Function f) a (Ok r)
  called_function = (target_exists V names a.unit f r named e, rw (← e) refl, λ frames. rw (← e) refl)
