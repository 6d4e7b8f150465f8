-- A step keeps what lies under, and one that goes on or asks a host function leaves something on the call stack.
use Rattle.std.proofs.Common.{◌≡◌, ◌≢◌, ℕ, zero, suc, List, [], ◌∷◌, Option, Some, None, Bool, true, false, refl}
use Rattle.std.specs.Prelude.{IfSome, reverse}
use Rattle.wasm_form.specs.declared.types.FuncType.{FuncType}
use Rattle.wasm_form.specs.declared.runtime.Ref.{Ref}
use Rattle.wasm_form.specs.declared.runtime.Ref.TheVariants.{Own, Loader, Host, Stub}
use Rattle.wasm_form.specs.declared.runtime.Trap.TheVariants as trap
use Rattle.wasm_form.specs.declared.runtime.Value.{Value}
use Rattle.spec_safety.specs.spec_runs.Systems.{only_if}
use Rattle.spec_safety.specs.spec_binary.Options.{◌>>=◌}
use Rattle.spec_safety.proofs.of_spec_binary.Options.{each, either_way}
use Rattle.spec_safety.specs.spec_binary.SameTypes.{same_function_type}
use Rattle.spec_safety.specs.spec_runtime.Memories.{MemoryInstance}
use Rattle.spec_safety.specs.spec_runtime.Tables.{entry_at}
use Rattle.spec_safety.specs.spec_execution.Values.{take_values}
use Rattle.spec_safety.specs.spec_execution.Activations.{Activation, Move, On, Calls, CallsEntry, Refers, Does, Leaves, Fails, Stuck, move}
use Rattle.spec_safety.specs.spec_execution.Views.{View, type_of, loader_type, Effected, performed}
use Rattle.spec_safety.specs.spec_execution.Views as effects
use Rattle.spec_safety.specs.spec_execution.Runs.{Frame, Active, Marked, Traps, Caller, call_own, call_host, call_loader, call, calling, call_entry, given, left_with, effected_with, carried_out}
use Rattle.wasm_machine.specs.Machines.{next_of}
use Rattle.wasm_machine.specs.Marks.{LiesUnder, AreMarks, AreMarksOver, IsStack, IsStackOver, Keeps, KeepsOver, KeepsUnder}

if_there : {X Y : Type 0} (P : Y → Type 0) (b : Bool) (x : X) (f : X → Option Y) → (b ≡ true → IfSome (f x) P) → IfSome (only_if b x >>= f) P
if_there P true x f k = k refl
if_there P false x f k = tt

-- What a step leaves on the call stack is so, if it is so of an activation over a stack of which `Q` is so, and where values are given to what is on
-- top of such a stack.
module _ (P Q : List (Frame ℕ) → Type 0) (top : (a : Activation) (frames : List (Frame ℕ)) → Q frames → P (Active a ∷ frames)) (back : (values : List Value) (f : Frame ℕ) (frames : List (Frame ℕ)) → Q (f ∷ frames) → P (given values f ∷ frames)) {Units : Type 0} (V : View Units) (us : Units) (memory : MemoryInstance) where
  own_keeps : (caller : Caller ℕ) (values : List Value) → ((vs : List Value) → Q (caller vs)) → (unit f : ℕ) → IfSome (call V us memory caller values (Own unit f)) (Keeps P V)
  own_keeps caller values k unit f =
      each (Keeps P V) (V.code unit f) (call_own us memory caller values unit f)
      (λ x. each (Keeps P V) (take_values (reverse x.ty.params) values) _ (λ p. top _ (caller p.1) (k p.1)))

  host_keeps : (caller : Caller ℕ) (values : List Value) → ((vs : List Value) → P (caller vs)) → (entry : ℕ) → IfSome (call V us memory caller values (Host entry)) (Keeps P V)
  host_keeps caller values k entry =
      each (Keeps P V) (V.host entry) (call_host {Units = Units} caller values entry)
      (λ ty. each (Keeps P V) (take_values (reverse ty.params) values) _ (λ p. k p.1))

  call_keeps : (caller : Caller ℕ) (values : List Value) → ((vs : List Value) → P (caller vs)) → ((vs : List Value) → Q (caller vs)) → (r : Ref) → IfSome (call V us memory caller values r) (Keeps P V)
  call_keeps caller values k q (Own unit f) = own_keeps caller values q unit f
  call_keeps caller values k q (Host entry) = host_keeps caller values k entry
  call_keeps caller values k q (Loader which) =
      if_there (Keeps P V) V.has_loader (loader_type which) (call_loader {Units = Units} caller values which)
      (λ there. each (Keeps P V) (take_values (reverse (loader_type which).params) values) _ (λ p. (there, k p.1)))
  call_keeps caller values k q (Stub unit f) = each (Keeps P V) (V.stub unit f) _ (λ ty. each (Keeps P V) (take_values (reverse ty.params) values) _ (λ p. tt))

  module _ (frames : List (Frame ℕ)) (code : (a : Activation) → Q (Active a ∷ frames)) (h : Q frames) where
    from_keeps : (a : Activation) (r : Ref) → IfSome (call V us memory (calling a frames) a.values r) (Keeps P V)
    from_keeps a r = call_keeps (calling a frames) a.values (λ vs. top _ frames h) (λ vs. code _) r

    entry_keeps : (a : Activation) (ty : FuncType) (o : Option (Option Ref)) → IfSome (call_entry V us memory frames a ty o) (Keeps P V)
    entry_keeps a ty None = tt
    entry_keeps a ty (Some None) = tt
    entry_keeps a ty (Some (Some r)) =
        each (Keeps P V) (type_of V r) _
        (λ found. either_way (Keeps P V) (same_function_type found ty) (call V us memory (calling a frames) a.values r) (Some (Traps trap.WrongType)) (from_keeps a r) tt)

    effected_keeps : (a : Activation) (e : Effected Units) → Keeps P V (effected_with frames a e)
    effected_keeps a (effects.Gives values units space) = top _ frames h
    effected_keeps a (effects.Traps why) = tt

  left_keeps : (values : List Value) (frames : List (Frame ℕ)) → Q frames → Keeps P V (left_with us memory values frames)
  left_keeps values [] h = tt
  left_keeps values (f ∷ fs) h = back values f fs h

  module _ (code : (a : Activation) (frames : List (Frame ℕ)) → Q frames → Q (Active a ∷ frames)) where
    move_keeps : (frames : List (Frame ℕ)) (m : Move) → Q frames → IfSome (carried_out V us memory frames m) (Keeps P V)
    move_keeps frames (On a) h = top a frames h
    move_keeps frames (Calls f a) h = each (Keeps P V) (V.target a.unit f) _ (from_keeps frames (λ b. code b frames h) h a)
    move_keeps frames (CallsEntry t ty i a) h =
        each (Keeps P V) (V.table us a.unit t) _ (λ table. each (Keeps P V) (V.declared a.unit ty) _ (λ f. entry_keeps frames (λ b. code b frames h) h a f (entry_at table i)))
    move_keeps frames (Refers f a) h = each (Keeps P V) (V.target a.unit f) _ (λ r. top _ frames h)
    move_keeps frames (Does effect a) h = each (Keeps P V) (performed V us memory a.unit effect) _ (effected_keeps frames (λ b. code b frames h) h a)
    move_keeps frames (Leaves values) h = left_keeps values frames h
    move_keeps frames (Fails why) h = tt
    move_keeps frames Stuck h = tt

-- something is left on it
pub some_left : {Units : Type 0} (V : View Units) (us : Units) (memory : MemoryInstance) (frames : List (Frame ℕ)) → IfSome (next_of V us memory frames) (Keeps (λ fs. fs ≢ []) V)
some_left V us memory [] = tt
some_left V us memory (Active a ∷ frames) = move_keeps (λ fs. fs ≢ []) (λ fs. Unit {0}) (λ b fs h e. cc) (λ values f fs h e. cc) V us memory (λ b fs h. tt) frames (move (V.declared a.unit) a) tt
some_left V us memory (Marked tag ∷ frames) = tt

module _ (L : ℕ → List (Frame ℕ) → Type 0) where
  on_top : (n : ℕ) (a : Activation) (frames : List (Frame ℕ)) → AreMarksOver L n frames → IsStackOver L n (Active a ∷ frames)
  on_top n a frames h = record { some = λ e. cc; marks = h }

  -- values are given to what is on top
  pub given_over : (n : ℕ) (values : List Value) (f : Frame ℕ) (frames : List (Frame ℕ)) → AreMarksOver L n (f ∷ frames) → AreMarksOver L n (given values f ∷ frames)
  given_over n values (Active a) frames h = h
  given_over zero values (Marked tag) frames h = h
  given_over (suc n) values (Marked tag) frames h = h

  back_over : (n : ℕ) (values : List Value) (f : Frame ℕ) (frames : List (Frame ℕ)) → AreMarksOver L n (f ∷ frames) → IsStackOver L n (given values f ∷ frames)
  back_over n values f frames h = record { some = λ e. cc; marks = given_over n values f frames h }

  module _ {Units : Type 0} (V : View Units) (us : Units) (memory : MemoryInstance) (n : ℕ) where
    pub own_over : (caller : Caller ℕ) (values : List Value) → ((vs : List Value) → AreMarksOver L n (caller vs)) → (unit f : ℕ) → IfSome (call V us memory caller values (Own unit f)) (KeepsOver L V n)
    own_over = own_keeps (IsStackOver L n) (AreMarksOver L n) (on_top n) (back_over n) V us memory

    pub call_over : (caller : Caller ℕ) (values : List Value) → ((vs : List Value) → IsStackOver L n (caller vs)) → (r : Ref) → IfSome (call V us memory caller values r) (KeepsOver L V n)
    call_over caller values k = call_keeps (IsStackOver L n) (AreMarksOver L n) (on_top n) (back_over n) V us memory caller values k (λ vs. (k vs).marks)

    pub step_over : (frames : List (Frame ℕ)) → AreMarksOver L n frames → IfSome (next_of V us memory frames) (KeepsOver L V n)
    step_over [] h = tt
    step_over (Active a ∷ frames) h = move_keeps (IsStackOver L n) (AreMarksOver L n) (on_top n) (back_over n) V us memory (λ b fs k. k) frames (move (V.declared a.unit) a) h
    step_over (Marked tag ∷ frames) h = tt

-- ---- where nothing lies under the first mark, and an activation under each other

module _ {Units : Type 0} (V : View Units) (us : Units) (memory : MemoryInstance) (n : ℕ) where
  pub own_under : (caller : Caller ℕ) (values : List Value) → ((vs : List Value) → AreMarks n (caller vs)) → (unit f : ℕ) → IfSome (call V us memory caller values (Own unit f)) (KeepsUnder V n)
  own_under = own_over LiesUnder V us memory n

  pub call_under : (caller : Caller ℕ) (values : List Value) → ((vs : List Value) → IsStack n (caller vs)) → (r : Ref) → IfSome (call V us memory caller values r) (KeepsUnder V n)
  call_under = call_over LiesUnder V us memory n

  pub step_under : (frames : List (Frame ℕ)) → AreMarks n frames → IfSome (next_of V us memory frames) (KeepsUnder V n)
  step_under = step_over LiesUnder V us memory n
