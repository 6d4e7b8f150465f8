-- Code that calls a function of the loader waits on top, and what it gives are as many arguments as the function takes.
use Rattle.std.proofs.Common.{◌≡◌, ℕ, List, [], ◌∷◌, Option, Some, None, Bool, true, false, refl, ap, length}
use Rattle.std.specs.Prelude.{IfSome, reverse}
use Rattle.spec_loading.specs.wasm_form.declared.types.FuncType.{FuncType}
use Rattle.spec_loading.specs.wasm_form.declared.runtime.LoaderCall.{LoaderCall}
use Rattle.spec_loading.specs.wasm_form.declared.runtime.LoaderCall.TheVariants.{Dlopen, Dlsym, Dlclose, Dlerror}
use Rattle.spec_loading.specs.wasm_form.declared.runtime.Ref.{Ref}
use Rattle.spec_loading.specs.wasm_form.declared.runtime.Ref.TheVariants.{Own, Loader, Host, Stub}
use Rattle.spec_loading.specs.wasm_form.declared.runtime.Trap.TheVariants as trap
use Rattle.spec_loading.specs.wasm_form.declared.runtime.Value.{Value}
use Rattle.spec_loading.specs.wasm_form.declared.runtime.Value.TheVariants.{Num, Func}
use Rattle.spec_loading.specs.spec_runs.Systems.{only_if}
use Rattle.spec_loading.specs.spec_binary.Options.{◌>>=◌}
use Rattle.spec_loading.specs.spec_binary.Indices.{nullary}
use Rattle.spec_loading.proofs.of_spec_binary.Options.{each, either_way}
use Rattle.spec_loading.specs.spec_binary.SameTypes.{same_function_type}
use Rattle.spec_loading.specs.spec_runtime.Memories.{MemoryInstance}
use Rattle.spec_loading.specs.spec_runtime.Tables.{entry_at}
use Rattle.spec_loading.specs.spec_execution.Values.{take_values}
use Rattle.spec_loading.specs.spec_execution.Activations.{Activation, Move, On, Calls, CallsEntry, Refers, Does, Leaves, Fails, Stuck, move}
use Rattle.spec_loading.specs.spec_execution.Views.{View, type_of, loader_type, Effected, performed}
use Rattle.spec_loading.specs.spec_execution.Views as effects
use Rattle.spec_loading.specs.spec_execution.Runs.{Frame, Active, Marked, Next, Goes, Asks, Loads, Ends, Traps, Caller, is_running, call_own, call_host, call_loader, call, calling, call_entry, left_with, effected_with, carried_out}
use Rattle.wasm_machine.specs.Machines.{next_of, first_of, second_of}
use Rattle.dyl_frames.specs.Cores.{loader_arguments}

-- where a function of the loader is called
abbrev pub IsLoad : {Units : Type 0} → Next Units ℕ → Type 0
IsLoad (Loads which args frames) = (is_running frames ≡ true) × (args ≡ loader_arguments which (first_of args) (second_of args))
IsLoad _ = Unit {0}

-- no function of the loader is called
abbrev pub IsPlain : {Units : Type 0} → Next Units ℕ → Type 0
IsPlain (Loads which args frames) = ⊥
IsPlain _ = Unit {0}

pub plain_load : {Units : Type 0} (next : Option (Next Units ℕ)) → IfSome next IsPlain → IfSome next IsLoad
plain_load None h = tt
plain_load (Some (Goes us memory frames)) h = tt
plain_load (Some (Asks entry args frames)) h = tt
plain_load (Some (Loads which args frames)) h = absurd h
plain_load (Some Ends) h = tt
plain_load (Some (Traps why)) h = tt

module _ {Units : Type 0} (V : View Units) (us : Units) (memory : MemoryInstance) where
  module _ (frames : List (Frame ℕ)) (a : Activation) where
    loader_load : (which : LoaderCall) (values : List Value) → IfSome (call_loader {Units = Units} (calling a frames) values which (loader_type which)) IsLoad
    loader_load Dlopen [] = tt
    loader_load Dlopen (Func r ∷ vs) = tt
    loader_load Dlopen (Num x ∷ []) = tt
    loader_load Dlopen (Num x ∷ Func r ∷ vs) = tt
    loader_load Dlopen (Num x ∷ Num y ∷ vs) = (refl, refl)
    loader_load Dlsym [] = tt
    loader_load Dlsym (Func r ∷ vs) = tt
    loader_load Dlsym (Num x ∷ []) = tt
    loader_load Dlsym (Num x ∷ Func r ∷ vs) = tt
    loader_load Dlsym (Num x ∷ Num y ∷ vs) = (refl, refl)
    loader_load Dlclose [] = tt
    loader_load Dlclose (Func r ∷ vs) = tt
    loader_load Dlclose (Num x ∷ vs) = (refl, refl)
    loader_load Dlerror values = (refl, refl)

    if_loader : (b : Bool) (which : LoaderCall) (values : List Value) → IfSome (only_if b (loader_type which) >>= call_loader {Units = Units} (calling a frames) values which) IsLoad
    if_loader true which values = loader_load which values
    if_loader false which values = tt

    call_load : (r : Ref) → IfSome (call V us memory (calling a frames) a.values r) IsLoad
    call_load (Own unit f) =
        each IsLoad (V.code unit f) (call_own us memory (calling a frames) a.values unit f) (λ x. each IsLoad (take_values (reverse x.ty.params) a.values) _ (λ p. tt))
    call_load (Host entry) =
        each IsLoad (V.host entry) (call_host {Units = Units} (calling a frames) a.values entry) (λ ty. each IsLoad (take_values (reverse ty.params) a.values) _ (λ p. tt))
    call_load (Loader which) = if_loader V.has_loader which a.values
    call_load (Stub unit f) = each IsLoad (V.stub unit f) _ (λ ty. each IsLoad (take_values (reverse ty.params) a.values) _ (λ p. tt))

    entry_load : (ty : FuncType) (o : Option (Option Ref)) → IfSome (call_entry V us memory frames a ty o) IsLoad
    entry_load ty None = tt
    entry_load ty (Some None) = tt
    entry_load ty (Some (Some r)) =
        each IsLoad (type_of V r) _ (λ found. either_way IsLoad (same_function_type found ty) (call V us memory (calling a frames) a.values r) (Some (Traps trap.WrongType)) (call_load r) tt)

    effected_load : (e : Effected Units) → IsLoad (effected_with frames a e)
    effected_load (effects.Gives values units space) = tt
    effected_load (effects.Traps why) = tt

  left_load : (values : List Value) (frames : List (Frame ℕ)) → IsLoad (left_with us memory values frames)
  left_load values [] = tt
  left_load values (f ∷ fs) = tt

  move_load : (frames : List (Frame ℕ)) (m : Move) → IfSome (carried_out V us memory frames m) IsLoad
  move_load frames (On a) = tt
  move_load frames (Calls f a) = each IsLoad (V.target a.unit f) _ (call_load frames a)
  move_load frames (CallsEntry t ty i a) =
      each IsLoad (V.table us a.unit t) _ (λ table. each IsLoad (V.declared a.unit ty) _ (λ f. entry_load frames a f (entry_at table i)))
  move_load frames (Refers f a) = each IsLoad (V.target a.unit f) _ (λ r. tt)
  move_load frames (Does effect a) = each IsLoad (performed V us memory a.unit effect) _ (effected_load frames a)
  move_load frames (Leaves values) = left_load values frames
  move_load frames (Fails why) = tt
  move_load frames Stuck = tt

  pub step_load : (frames : List (Frame ℕ)) → IfSome (next_of V us memory frames) IsLoad
  step_load [] = tt
  step_load (Active a ∷ frames) = move_load frames (move (V.declared a.unit) a)
  step_load (Marked tag ∷ frames) = tt

  -- ---- a function without parameters and results is none of the loader's

  abbrev results_in : Option FuncType → ℕ
  results_in None = 0
  results_in (Some ty) = length ty.results

  one_result : (which : LoaderCall) → length (loader_type which).results ≡ 0 → ⊥
  one_result Dlopen e = cc
  one_result Dlsym e = cc
  one_result Dlclose e = cc
  one_result Dlerror e = cc

  loader_plain : (caller : Caller ℕ) (b : Bool) (which : LoaderCall) → only_if b (loader_type which) ≡ Some nullary → IfSome (only_if b (loader_type which) >>= call_loader {Units = Units} caller [] which) IsPlain
  loader_plain caller true which e = absurd (one_result which (ap results_in e))
  loader_plain caller false which e = tt

  pub nullary_plain : (caller : Caller ℕ) (r : Ref) → type_of V r ≡ Some nullary → IfSome (call V us memory caller [] r) IsPlain
  nullary_plain caller (Own unit f) e =
      each IsPlain (V.code unit f) (call_own us memory caller [] unit f) (λ x. each IsPlain (take_values (reverse x.ty.params) []) _ (λ p. tt))
  nullary_plain caller (Host entry) e =
      each IsPlain (V.host entry) (call_host {Units = Units} caller [] entry) (λ ty. each IsPlain (take_values (reverse ty.params) []) _ (λ p. tt))
  nullary_plain caller (Loader which) e = loader_plain caller V.has_loader which e
  nullary_plain caller (Stub unit f) e = each IsPlain (V.stub unit f) _ (λ ty. each IsPlain (take_values (reverse ty.params) []) _ (λ p. tt))
