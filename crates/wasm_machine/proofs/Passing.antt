-- Which steps pass a limit of depth: only calls of code.
use Rattle.std.proofs.Common.{arith, ◌≡◌, ℕ, List, [], ◌∷◌, length, drop, refl, ap, ap₂, sym, ◌∙◌, Option, Some, None, Bool, true, false}
use Rattle.std.specs.Option.{option_map}
use Rattle.std.specs.Prelude.{reverse, is_some, nat_eq, nat_lt, ◌||◌, if◌then◌else◌}
use Rattle.std.proofs.lemmas.Bool.{ltb-false, le-ltb, or_parts, or_from}
use Rattle.wasm_form.specs.declared.types.FuncType.{FuncType}
use Rattle.wasm_form.specs.declared.instr.Instr.{Instr, out-Instr}
use Rattle.wasm_form.specs.declared.runtime.Ref.{Ref}
use Rattle.wasm_form.specs.declared.runtime.Ref.TheVariants.{Own, Loader, Host, Stub}
use Rattle.wasm_form.specs.declared.runtime.Value.{Value}
use Rattle.spec_safety.specs.spec_runs.Systems.{only_if}
use Rattle.spec_safety.specs.spec_binary.Options.{◌>>=◌}
use Rattle.spec_safety.specs.spec_binary.Indices.{Function}
use Rattle.spec_safety.specs.spec_runtime.Memories.{MemoryInstance}
use Rattle.spec_safety.specs.spec_execution.Values.{take_values}
use Rattle.spec_safety.specs.spec_execution.Activations.{Level, Activation, Move, On, Calls, CallsEntry, Refers, Does, Leaves, Fails, Stuck, end_move, instr_move, code_move}
use Rattle.spec_safety.specs.spec_execution.Views.{View, loader_type, Effected, performed}
use Rattle.spec_safety.specs.spec_execution.Views as effects
use Rattle.spec_safety.specs.spec_execution.Limits.{most_activations, most_values, rooms_of, activations, is_deep, passes_limit}
use Rattle.spec_safety.specs.spec_execution.Runs.{Frame, Active, Marked, Next, Goes, Asks, Loads, Ends, Traps, Caller, entered, call_own, call_host, call_loader, call, left_with, effected_with, carried_out}
use Rattle.wasm_step.specs.Tops.{Top}
use Rattle.wasm_step.specs.Primitives.{first_of, with_rest}
use Rattle.wasm_machine.specs.Stacks.{is_live, under_of, joined, IsJoined, passes_over}
use Rattle.wasm_machine.specs.Marks.{marked_next}
use Rattle.wasm_machine.specs.Machines.{RoomsAre, next_of}
use Rattle.wasm_machine.specs.Outside.{callee_of}
use Rattle.wasm_machine.specs.declared.callers.Caller as callers
use Rattle.wasm_machine.proofs.Staying.{StaysIn, instr-stays}
use Rattle.wasm_machine.proofs.Coming.{none_called, step_is}
use Rattle.wasm_machine.proofs.Depths.{not_deep_at}
use Rattle.wasm_machine.proofs.Joined.{frames_live}
use Rattle.wasm_machine.proofs.Marked.{marked_deep}

-- the same activations in the same room
pub over_sizes : (count taken n m room : ℕ) → count ≡ n → taken ≡ m → passes_over count taken room ≡ passes_over n m room
over_sizes count taken n m room p q = ap₂ (λ (x y : ℕ). passes_over x y room) p q

module _ {Units : Type 0} (V : View Units) where
  -- what is found leads to a step that passes none
  passes_none : {A : Type 0} (o : Option A) (f : A → Option (Next Units ℕ)) → ((a : A) → passes_limit V (f a) ≡ false) → passes_limit V (o >>= f) ≡ false
  passes_none None f h = refl
  passes_none (Some a) f h = h a

  -- ---- calls of what isn't code, or without its arguments

  module _ (us : Units) (memory : MemoryInstance) (caller : Caller ℕ) (values : List Value) where
    pub outside_passes : (r : Ref) → ((unit f : ℕ) → r ≡ Own unit f → ⊥) → passes_limit V (call V us memory caller values r) ≡ false
    outside_passes (Own unit f) other = absurd (other unit f refl)
    outside_passes (Host entry) other = passes_none (V.host entry) (call_host caller values entry) (λ ty. passes_none (take_values (reverse ty.params) values) _ (λ p. refl))
    outside_passes (Loader which) other =
        passes_none (only_if V.has_loader (loader_type which)) (call_loader caller values which) (λ ty. passes_none (take_values (reverse ty.params) values) _ (λ p. refl))
    outside_passes (Stub unit f) other = passes_none (V.stub unit f) _ (λ ty. passes_none (take_values (reverse ty.params) values) _ (λ p. refl))

    pub unfit_passes : (unit f : ℕ) (ty : FuncType) → Some ty ≡ (V.code unit f >>= λ x. Some x.ty) → is_some (take_values (reverse ty.params) values) ≡ false → passes_limit V (call V us memory caller values (Own unit f)) ≡ false
    unfit_passes unit f ty e none = by_code (V.code unit f) e
      where
        by_values : (o : Option (List Value × List Value)) (k : List Value × List Value → Option (Next Units ℕ)) → is_some o ≡ false → passes_limit V (o >>= k) ≡ false
        by_values None k h = refl
        by_values (Some p) k h = absurd cc

        by_code : (o : Option Function) → Some ty ≡ (o >>= λ x. Some x.ty) → passes_limit V (o >>= call_own us memory caller values unit f) ≡ false
        by_code None h = refl
        by_code (Some x) h =
            let same : ty ≡ x.ty = cc in
            by_values (take_values (reverse x.ty.params) values) _ (ap (λ (t : FuncType). is_some (take_values (reverse t.params) values)) (sym same) ∙ none)

  -- ---- a step that calls nothing

  -- fewer activations pass none
  under_flat : (a : Activation) (frames : List (Frame ℕ)) → is_deep V (Active a ∷ frames) ≡ false → is_deep V frames ≡ false
  under_flat a frames flat =
      let both = or_parts (nat_lt most_activations (length (activations (Active a ∷ frames)))) (nat_lt most_values (rooms_of V (activations (Active a ∷ frames)))) flat in
      let few = ltb-false most_activations (length (activations (Active a ∷ frames))) both.0 in
      let small = ltb-false most_values (rooms_of V (activations (Active a ∷ frames))) both.1 in
      or_from (nat_lt most_activations (length (activations frames))) (nat_lt most_values (rooms_of V (activations frames)))
      (le-ltb most_activations (length (activations frames)) (omega arith)) (le-ltb most_values (rooms_of V (activations frames)) (omega arith))

  module _ (us : Units) (memory : MemoryInstance) where
    left_passes : (values : List Value) (frames : List (Frame ℕ)) → is_deep V frames ≡ false → passes_limit V (Some (left_with us memory values frames)) ≡ false
    left_passes values [] flat = refl
    left_passes values (Active a ∷ frames) flat = flat
    left_passes values (Marked tag ∷ frames) flat = flat

    module _ (frames : List (Frame ℕ)) (a : Activation) (flat : is_deep V (Active a ∷ frames) ≡ false) where
      -- an activation of the same function takes the same room
      same_passes : (b : Activation) → b.unit ≡ a.unit → b.func ≡ a.func → is_deep V (Active b ∷ frames) ≡ false
      same_passes b u f = rw (u, f) flat

      effected_passes : (b : Activation) (e : Effected Units) → is_deep V (Active b ∷ frames) ≡ false → passes_limit V (Some (effected_with frames b e)) ≡ false
      effected_passes b (effects.Gives values us' memory') h = h
      effected_passes b (effects.Traps why) h = refl

      stays_passes : (m : Move) → StaysIn a.unit a.func (length a.locals) m → passes_limit V (carried_out V us memory frames m) ≡ false
      stays_passes (On b) h = same_passes b h.0 h.1
      stays_passes (Calls f b) h = absurd h
      stays_passes (CallsEntry t ty i b) h = absurd h
      stays_passes (Refers f b) h = passes_none (V.target b.unit f) _ (λ r. same_passes b h.0 h.1)
      stays_passes (Does effect b) h = passes_none (performed V us memory b.unit effect) _ (λ e. effected_passes b e (same_passes b h.0 h.1))
      stays_passes (Leaves values) h = absurd h
      stays_passes (Fails why) h = refl
      stays_passes Stuck h = refl

      ended_passes : (done : Bool) → passes_limit V (carried_out V us memory frames (if done then Leaves a.values else Stuck)) ≡ false
      ended_passes true = left_passes a.values frames (under_flat a frames flat)
      ended_passes false = refl

      end_passes : (ls : List Level) → passes_limit V (carried_out V us memory frames (end_move ls a)) ≡ false
      end_passes [] = ended_passes (nat_eq (length a.values) a.results)
      end_passes (l ∷ ls) = flat

-- ---- over other frames

module _ {Units : Type 0} (V : View Units) where
  -- what is found leads to steps of which both pass one or none does
  both_pass : {A M N : Type 0} (o : Option A) (f : A → Option (Next Units M)) (g : A → Option (Next Units N)) → ((a : A) → passes_limit V (f a) ≡ passes_limit V (g a)) → passes_limit V (o >>= f) ≡ passes_limit V (o >>= g)
  both_pass None f g h = refl
  both_pass (Some a) f g h = h a

  -- a call over the same activations
  pub alike_passes : {M N : Type 0} (us : Units) (memory : MemoryInstance) (fs : List (Frame M)) (gs : List (Frame N)) → activations fs ≡ activations gs → (r : Ref)
      → passes_limit V (call V us memory (λ _. fs) [] r) ≡ passes_limit V (call V us memory (λ _. gs) [] r)
  alike_passes us memory fs gs same (Own unit f) =
      both_pass (V.code unit f) _ _
      (λ x.
      both_pass (take_values (reverse x.ty.params) []) _ _
      (λ p. ap (λ (all : List Activation). nat_lt most_activations (length (entered unit f x p.0 ∷ all)) || nat_lt most_values (rooms_of V (entered unit f x p.0 ∷ all))) same))
  alike_passes us memory fs gs same (Host entry) = both_pass (V.host entry) _ _ (λ ty. both_pass (take_values (reverse ty.params) []) _ _ (λ p. refl))
  alike_passes us memory fs gs same (Loader which) =
      both_pass (only_if V.has_loader (loader_type which)) _ _ (λ ty. both_pass (take_values (reverse ty.params) []) _ _ (λ p. refl))
  alike_passes us memory fs gs same (Stub unit f) = both_pass (V.stub unit f) _ _ (λ ty. both_pass (take_values (reverse ty.params) []) _ _ (λ p. refl))

  -- a step over what the marks stand for
  pub marked_passes : {Mark : Type 0} (h : ℕ → Mark) (next : Option (Next Units ℕ)) → passes_limit V (option_map (marked_next h) next) ≡ passes_limit V next
  marked_passes h None = refl
  marked_passes h (Some (Goes us memory frames)) = marked_deep V h frames
  marked_passes h (Some (Asks entry args frames)) = refl
  marked_passes h (Some (Loads which args frames)) = refl
  marked_passes h (Some Ends) = refl
  marked_passes h (Some (Traps why)) = refl

-- ---- the code on top

none_left : (is : List Instr) → None ≡ first_of is → is ≡ []
none_left [] e = refl
none_left (i ∷ is) e = absurd cc

module _ {Units : Type 0} (V : View Units) (us : Units) (memory : MemoryInstance) (cs : List callers.Caller) (t : Top) (live : is_live t ≡ true) (lies : IsJoined cs t) (rooms : RoomsAre V (joined cs t)) where
  flat_here : is_deep V (Active t.act ∷ under_of cs t) ≡ false
  flat_here = not_deep_at V (joined cs t) (Active t.act ∷ under_of cs t) (frames_live cs t live) rooms lies.bounded

  pub on_top_of : next_of V us memory (joined cs t).frames ≡ next_of V us memory (Active t.act ∷ under_of cs t)
  on_top_of = ap (next_of V us memory) (frames_live cs t live)

  -- at the end of a block or of a body
  pub done_passes : None ≡ first_of t.act.rest → passes_limit V (next_of V us memory (joined cs t).frames) ≡ false
  done_passes e =
      ap (passes_limit V) on_top_of
      ∙ ap (λ (is : List Instr). passes_limit V (carried_out V us memory (under_of cs t) (code_move (V.declared t.act.unit) is t.act))) (none_left t.act.rest e)
      ∙ end_passes V us memory (under_of cs t) t.act flat_here t.act.levels

  -- an instruction that calls nothing
  pub plain_passes : (i : Instr) → Some i ≡ first_of t.act.rest → callee_of (out-Instr i) ≡ None → passes_limit V (next_of V us memory (joined cs t).frames) ≡ false
  plain_passes i e q =
      let past : Activation = with_rest t.act (drop 1 t.act.rest) in
      ap (passes_limit V) (on_top_of ∙ step_is V us t.act i e memory (under_of cs t))
      ∙ stays_passes V us memory (under_of cs t) t.act flat_here (instr_move (V.declared t.act.unit) (out-Instr i) past)
      (instr-stays (V.declared t.act.unit) (out-Instr i) past (none_called (out-Instr i) q))
