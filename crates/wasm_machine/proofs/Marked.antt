-- A step of the machine is one of the run, where each mark stands for something of it.
use Rattle.std.proofs.Common.{◌≡◌, ℕ, List, [], ◌∷◌, Option, Some, None, refl, ap}
use Rattle.std.specs.Prelude.{reverse, length, nat_lt, ◌||◌}
use Rattle.std.specs.Option.{option_map}
use Rattle.wasm_form.specs.declared.types.FuncType.{FuncType}
use Rattle.wasm_form.specs.declared.runtime.Ref.{Ref}
use Rattle.wasm_form.specs.declared.runtime.Ref.TheVariants.{Own, Loader, Host, Stub}
use Rattle.wasm_form.specs.declared.runtime.Trap.TheVariants as trap
use Rattle.wasm_form.specs.declared.runtime.Value.{Value}
use Rattle.spec_safety.specs.spec_runs.Systems.{only_if}
use Rattle.spec_safety.proofs.of_spec_binary.Options.{map_then, map_either}
use Rattle.spec_safety.specs.spec_binary.SameTypes.{same_function_type}
use Rattle.spec_safety.specs.spec_runtime.Memories.{MemoryInstance}
use Rattle.spec_safety.specs.spec_runtime.Tables.{entry_at}
use Rattle.spec_safety.specs.spec_execution.Values.{take_values}
use Rattle.spec_safety.specs.spec_execution.Activations.{Activation, Move, On, Calls, CallsEntry, Refers, Does, Leaves, Fails, Stuck}
use Rattle.spec_safety.specs.spec_execution.Views.{View, type_of, loader_type, Effected, performed}
use Rattle.spec_safety.specs.spec_execution.Views as effects
use Rattle.spec_safety.specs.spec_execution.Limits.{most_activations, most_values, activations, rooms_of, is_deep}
use Rattle.spec_safety.specs.spec_execution.Runs.{Frame, Active, Marked, Next, Traps, Caller, call_own, call_host, call_loader, call, calling, call_entry, left_with, effected_with, carried_out}
use Rattle.wasm_machine.specs.Marks.{marked_stack, marked_next}

-- ---- calls and moves

module _ {Units Mark : Type 0} (V : View Units) (us : Units) (memory : MemoryInstance) (h : ℕ → Mark) where
  module _ (caller : Caller ℕ) (values : List Value) where
    pub marked_call : (r : Ref) → call V us memory (λ vs. marked_stack h (caller vs)) values r ≡ option_map (marked_next h) (call V us memory caller values r)
    marked_call (Own unit f) =
        map_then (marked_next h) (V.code unit f) (call_own us memory caller values unit f) (call_own us memory (λ vs. marked_stack h (caller vs)) values unit f)
        (λ x. map_then (marked_next h) (take_values (reverse x.ty.params) values) _ _ (λ p. refl))
    marked_call (Host entry) =
        map_then (marked_next h) (V.host entry) (call_host caller values entry) (call_host (λ vs. marked_stack h (caller vs)) values entry)
        (λ ty. map_then (marked_next h) (take_values (reverse ty.params) values) _ _ (λ p. refl))
    marked_call (Loader which) =
        map_then (marked_next h) (only_if V.has_loader (loader_type which)) (call_loader caller values which) (call_loader (λ vs. marked_stack h (caller vs)) values which)
        (λ ty. map_then (marked_next h) (take_values (reverse ty.params) values) _ _ (λ p. refl))
    marked_call (Stub unit f) = map_then (marked_next h) (V.stub unit f) _ _ (λ ty. map_then (marked_next h) (take_values (reverse ty.params) values) _ _ (λ p. refl))

  marked_entry : (frames : List (Frame ℕ)) (a : Activation) (ty : FuncType) (o : Option (Option Ref)) → call_entry V us memory (marked_stack h frames) a ty o ≡ option_map (marked_next h) (call_entry V us memory frames a ty o)
  marked_entry frames a ty None = refl
  marked_entry frames a ty (Some None) = refl
  marked_entry frames a ty (Some (Some r)) =
      map_then (marked_next h) (type_of V r) _ _
      (λ found.
      map_either (marked_next h) (same_function_type found ty) (call V us memory (calling a frames) a.values r) (Some (Traps trap.WrongType)) (call V us memory (calling a (marked_stack h frames)) a.values r) (Some (Traps trap.WrongType))
      (marked_call (calling a frames) a.values r) refl)

  marked_effect : (frames : List (Frame ℕ)) (a : Activation) (e : Effected Units) → effected_with (marked_stack h frames) a e ≡ marked_next h (effected_with frames a e)
  marked_effect frames a (effects.Gives values units space) = refl
  marked_effect frames a (effects.Traps why) = refl

  marked_return : (frames : List (Frame ℕ)) (values : List Value) → left_with us memory values (marked_stack h frames) ≡ marked_next h (left_with us memory values frames)
  marked_return [] values = refl
  marked_return (Active a ∷ frames) values = refl
  marked_return (Marked tag ∷ frames) values = refl

  pub marked_move : (frames : List (Frame ℕ)) (m : Move) → carried_out V us memory (marked_stack h frames) m ≡ option_map (marked_next h) (carried_out V us memory frames m)
  marked_move frames (On a) = refl
  marked_move frames (Calls f a) = map_then (marked_next h) (V.target a.unit f) _ _ (marked_call (calling a frames) a.values)
  marked_move frames (CallsEntry t ty i a) =
      map_then (marked_next h) (V.table us a.unit t) _ _
      (λ table. map_then (marked_next h) (V.declared a.unit ty) _ _ (λ f. marked_entry frames a f (entry_at table i)))
  marked_move frames (Refers f a) = map_then (marked_next h) (V.target a.unit f) _ _ (λ r. refl)
  marked_move frames (Does effect a) = map_then (marked_next h) (performed V us memory a.unit effect) _ _ (λ e. ap (λ (n : Next Units Mark). Some n) (marked_effect frames a e))
  marked_move frames (Leaves values) = ap (λ (n : Next Units Mark). Some n) (marked_return frames values)
  marked_move frames (Fails why) = refl
  marked_move frames Stuck = refl

-- ---- depths

pub marked_activations : {Mark : Type 0} (h : ℕ → Mark) (frames : List (Frame ℕ)) → activations (marked_stack h frames) ≡ activations frames
marked_activations h [] = refl
marked_activations h (Active a ∷ frames) = ap (λ (rest : List Activation). a ∷ rest) (marked_activations h frames)
marked_activations h (Marked tag ∷ frames) = marked_activations h frames

pub marked_deep : {Units Mark : Type 0} (V : View Units) (h : ℕ → Mark) (frames : List (Frame ℕ)) → is_deep V (marked_stack h frames) ≡ is_deep V frames
marked_deep V h frames = ap (λ (all : List Activation). nat_lt most_activations (length all) || nat_lt most_values (rooms_of V all)) (marked_activations h frames)
