-- Calls of code: what they come to in the definitions, and when they pass a limit of depth.
use Rattle.std.proofs.Common.{arith, ◌≡◌, ℕ, ◌+◌, ◌≤◌, ◌<◌, List, [], ◌∷◌, length, take, drop, map, refl, ap, sym, subst, ◌∙◌, ap₂, Bool, Option, Some, None, IfSome, true, false}
use Rattle.std.specs.Prelude.{reverse, is_some, nat_lt, ◌||◌, min}
use Rattle.std.proofs.lemmas.Bool.{ltb-true, ltb-false, lt-ltb, le-ltb}
use Rattle.std.proofs.lemmas.List.{length-map}
use Rattle.wasm_form.specs.declared.types.FuncType.{FuncType}
use Rattle.wasm_form.specs.declared.module.Code.{Code}
use Rattle.wasm_form.specs.declared.runtime.Ref.{Ref}
use Rattle.wasm_form.specs.declared.runtime.Ref.TheVariants.{Own}
use Rattle.wasm_form.specs.declared.runtime.Value.{Value}
use Rattle.spec_safety.specs.spec_binary.Options.{◌>>=◌}
use Rattle.spec_safety.specs.spec_binary.Indices.{Function, declared_locals}
use Rattle.spec_safety.specs.spec_runtime.Memories.{MemoryInstance}
use Rattle.spec_safety.specs.spec_execution.Values.{take_values}
use Rattle.spec_safety.specs.spec_execution.Activations.{Activation}
use Rattle.spec_safety.specs.spec_execution.Views.{View, type_of}
use Rattle.spec_safety.specs.spec_execution.Runs.{Frame, Active, Next, Goes, Caller, entered, call}
use Rattle.spec_safety.specs.spec_execution.Ranges.{Exists}
use Rattle.spec_safety.specs.spec_execution.Limits.{most_activations, most_values, room_of, rooms_of, activations, is_deep, passes_limit}
use Rattle.wasm_step.specs.Primitives.{begun}
use Rattle.wasm_machine.specs.Stacks.{CallStack, total, passes_over}
use Rattle.wasm_step.specs.Moves.{Changes}
use Rattle.wasm_step.specs.Named.{NamesAreThere}
use Rattle.wasm_machine.specs.Machines.{Led}
use Rattle.wasm_step.specs.declared.done.Done.TheVariants as done
use Rattle.wasm_step.proofs.Arguments.{arguments_are}

-- ---- depth

same_test : (m a b : ℕ) → (m < a → m < b) → (a ≤ m → b ≤ m) → nat_lt m a ≡ nat_lt m b
same_test m a b to back = go (nat_lt m a) refl
  where
    go : (t : Bool) → nat_lt m a ≡ t → nat_lt m a ≡ nat_lt m b
    go true e = e ∙ sym (lt-ltb m b (to (ltb-true m a e)))
    go false e = e ∙ sym (le-ltb m b (back (ltb-false m a e)))

-- a room of 4,294,967,295 and more passes the limit of values by itself
values_test : (room r taken n : ℕ) → room ≡ min r 4294967295 → taken ≡ n → nat_lt most_values (r + n) ≡ nat_lt most_values (taken + room)
values_test room r taken n e q = same_test most_values (r + n) (taken + room) (λ h. omega (arith, e)) (λ h. omega (arith, e))

module _ {Units : Type 0} (V : View Units) where
  total_rooms : (bs : List Activation) → total (map (λ (b : Activation). room_of V b.unit b.func) bs) ≡ rooms_of V bs
  total_rooms [] = refl
  total_rooms (b ∷ bs) = ap (λ n. room_of V b.unit b.func + n) (total_rooms bs)

  -- whether one activation more passes a limit
  pub deep_with : (a : Activation) (frames : List (Frame ℕ)) (rooms : List ℕ) (room : ℕ) → rooms ≡ map (λ (b : Activation). room_of V b.unit b.func) (activations frames) → room ≡ min (room_of V a.unit a.func) 4294967295
      → is_deep V (Active a ∷ frames) ≡ passes_over (length rooms) (total rooms) room
  deep_with a frames rooms room e q =
      let len : length rooms ≡ length (activations frames) = ap length e ∙ length-map (activations frames) (λ (b : Activation). room_of V b.unit b.func) in
      let sum : total rooms ≡ rooms_of V (activations frames) = ap total e ∙ total_rooms (activations frames) in
      let more : length (a ∷ activations frames) ≡ length rooms + 1 = omega arith in
      ap₂ (λ (x y : Bool). x || y) (ap (nat_lt most_activations) more) (values_test room (room_of V a.unit a.func) (total rooms) (rooms_of V (activations frames)) q sum)

-- ---- code

-- a function is one with this code and of this type
record IsCodeOf (x : Function) (ty : FuncType) (c : Code) : Type 0 where
  ty_is : x.ty ≡ ty
  locals : x.locals ≡ declared_locals c.locals
  body : x.body ≡ c.body.list

typed : (o : Option Function) (ty : FuncType) → Some ty ≡ (o >>= λ x. Some x.ty) → (x : Function) × (o ≡ Some x) × (x.ty ≡ ty)
typed None ty e = absurd cc
typed (Some x) ty e = (x, refl, cc)

coded : (o : Option Function) (ty : FuncType) (c : Code) → Some ty ≡ (o >>= λ x. Some x.ty) → IfSome o (λ x. x.locals ≡ declared_locals c.locals) → IfSome o (λ x. x.body ≡ c.body.list) → (x : Function) × (o ≡ Some x) × IsCodeOf x ty c
coded None ty c e l b = absurd cc
coded (Some x) ty c e l b = (x, refl, record { ty_is = cc; locals = l; body = b })

entered_is : (unit f : ℕ) (x : Function) (ty : FuncType) (c : Code) (vs : List Value) → IsCodeOf x ty c → entered unit f x (take (length ty.params) vs) ≡ begun unit f (length ty.params) (length ty.results) c vs
entered_is unit f x ty c vs h = rw (h.ty_is, h.locals, h.body) refl

module _ {Units : Type 0} (V : View Units) (us : Units) (memory : MemoryInstance) (caller : Caller ℕ) (values : List Value) (unit f : ℕ) (ty : FuncType) (q : Some ty ≡ type_of V (Own unit f)) (args : is_some (take_values (reverse ty.params) values) ≡ true) where
  called_with : (x : Function) → V.code unit f ≡ Some x → x.ty ≡ ty → call V us memory caller values (Own unit f) ≡ Some (Goes us memory (Active (entered unit f x (take (length ty.params) values)) ∷ caller (drop (length ty.params) values)))
  called_with x cx tx = rw (cx, tx, arguments_are ty.params values args) refl

  -- whether the call passes a limit
  pub called_passes : (rooms : List ℕ) (room : ℕ) → ((vs : List Value) → rooms ≡ map (λ (b : Activation). room_of V b.unit b.func) (activations (caller vs))) → room ≡ min (room_of V unit f) 4294967295
      → passes_limit V (call V us memory caller values (Own unit f)) ≡ passes_over (length rooms) (total rooms) room
  called_passes rooms room e k =
      let t = typed (V.code unit f) ty q in
      let a : Activation = entered unit f t.0 (take (length ty.params) values) in
      ap (passes_limit V) (called_with t.0 t.1 t.2) ∙ deep_with V a (caller (drop (length ty.params) values)) rooms room (e _) k

  pub called_deep : (rooms : List ℕ) (room : ℕ) (Wanting : Type 0) (s : CallStack) → ((vs : List Value) → rooms ≡ map (λ (b : Activation). room_of V b.unit b.func) (activations (caller vs))) → room ≡ min (room_of V unit f) 4294967295
      → passes_over (length rooms) (total rooms) room ≡ true → Led V done.Deep (call V us memory caller values (Own unit f)) Wanting s s (record { old_units = us; old_memory = memory; new_units = us; new_memory = memory })
  called_deep rooms room Wanting s e k h =
      let t = typed (V.code unit f) ty q in
      let a : Activation = entered unit f t.0 (take (length ty.params) values) in
      let c : Changes Units = record { old_units = us; old_memory = memory; new_units = us; new_memory = memory } in
      subst (λ (n : Option (Next Units ℕ)). Led V done.Deep n Wanting s s c) (sym (called_with t.0 t.1 t.2)) (deep_with V a (caller (drop (length ty.params) values)) rooms room (e _) k ∙ h, refl, (refl, refl))

  pub called_goes : (c : Code) (Wanting : Type 0) (old new : CallStack) → IfSome (V.code unit f) (λ x. x.locals ≡ declared_locals c.locals) → IfSome (V.code unit f) (λ x. x.body ≡ c.body.list)
      → new.frames ≡ Active (begun unit f (length ty.params) (length ty.results) c values) ∷ caller (drop (length ty.params) values)
      → Led V done.Goes (call V us memory caller values (Own unit f)) Wanting old new (record { old_units = us; old_memory = memory; new_units = us; new_memory = memory })
  called_goes c Wanting old new l b e =
      let t = coded (V.code unit f) ty c q l b in
      let ch : Changes Units = record { old_units = us; old_memory = memory; new_units = us; new_memory = memory } in
      subst (λ (n : Option (Next Units ℕ)). Led V done.Goes n Wanting old new ch) (sym (called_with t.0 t.1 t.2.ty_is)) (e ∙ ap (λ (a : Activation). Active a ∷ caller (drop (length ty.params) values)) (sym (entered_is unit f t.0 ty c values t.2)), refl, refl)

-- ---- functions that are named

module _ {Units : Type 0} (V : View Units) (names : NamesAreThere V) where
  -- a number in range names a function that there is
  pub target_exists : (unit f : ℕ) (r : Ref) → f < (V.counts unit).functions → Some r ≡ V.target unit f → Exists V r
  target_exists unit f r h e =
      let w = names.functions unit f h in
      let same : w.0 ≡ r = cc (w.1) in
      subst (λ (q : Ref). Exists V q) same w.2
