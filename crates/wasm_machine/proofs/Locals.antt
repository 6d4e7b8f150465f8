-- Each activation has as many locals as its function, and a step keeps that.
use Rattle.std.proofs.Common.{arith, ◌≡◌, ℕ, ◌+◌, Bool, true, false, List, [], ◌∷◌, ◌++◌, length, map, take, refl, sym, ap, ◌∙◌, Option, None, Some, IfSome, length-append}
use Rattle.std.specs.Prelude.{reverse, is_some, nat_eq, if◌then◌else◌}
use Rattle.std.proofs.lemmas.List.{length-map, length-take, length-reverse}
use Rattle.wasm_form.specs.declared.types.FuncType.{FuncType}
use Rattle.wasm_form.specs.declared.instr.Instr.{Instr, out-Instr}
use Rattle.wasm_form.specs.declared.instr.Instr.TheOpen as Open
use Rattle.wasm_form.specs.declared.instr.Expr.{Expr}
use Rattle.wasm_form.specs.declared.index.IndexForm.{IndexForm}
use Rattle.wasm_form.specs.declared.index.IndexForm.TheVariants as index
use Rattle.wasm_form.specs.Index.{index_form}
use Rattle.wasm_form.specs.declared.runtime.Ref.{Ref}
use Rattle.wasm_form.specs.declared.runtime.Ref.TheVariants.{Own, Loader, Host, Stub}
use Rattle.wasm_form.specs.declared.runtime.Trap.TheVariants as trap
use Rattle.wasm_form.specs.declared.runtime.Value.{Value}
use Rattle.wasm_form.specs.declared.runtime.Value.TheVariants.{Num, Func}
use Rattle.spec_safety.specs.spec_runs.Systems.{only_if}
use Rattle.spec_safety.specs.spec_binary.Indices.{Function}
use Rattle.spec_safety.specs.spec_binary.SameTypes.{same_function_type}
use Rattle.spec_safety.specs.spec_runtime.Memories.{MemoryInstance}
use Rattle.spec_safety.specs.spec_runtime.Tables.{entry_at}
use Rattle.spec_safety.specs.spec_execution.Values.{take_values, zero_of}
use Rattle.spec_safety.specs.spec_execution.Activations.{Level, Activation, Move, On, Calls, CallsEntry, Refers, Does, Leaves, Fails, Stuck, with_values, with_i32, index_move, end_move, instr_move, code_move, move}
use Rattle.spec_safety.specs.spec_execution.Views.{View, type_of, loader_type, Effected, performed}
use Rattle.spec_safety.specs.spec_execution.Views as effects
use Rattle.spec_safety.specs.spec_execution.Runs.{Frame, Active, Marked, Next, Goes, Asks, Loads, Ends, Traps, entered, Caller, call_own, call_host, call_loader, call, calling, call_entry, given, left_with, effected_with, carried_out}
use Rattle.spec_safety.specs.spec_execution.Limits.{room_of, room_with}
use Rattle.spec_safety.proofs.of_spec_binary.Options.{each_found, each, either_way}
use Rattle.wasm_step.proofs.Arguments.{arguments_are, arguments_count}
use Rattle.wasm_machine.specs.Machines.{locals_of, HaveLocals, next_of}
use Rattle.wasm_machine.proofs.Staying.{StaysIn, index-stays, instr-stays}

-- ---- moves

-- the activation that goes on, or calls, is of this unit and function, with so many locals
abbrev KeepsFrame : ℕ → ℕ → ℕ → Move → Type 0
KeepsFrame unit func count (On a) = (a.unit ≡ unit) × (a.func ≡ func) × (length a.locals ≡ count)
KeepsFrame unit func count (Calls n a) = (a.unit ≡ unit) × (a.func ≡ func) × (length a.locals ≡ count)
KeepsFrame unit func count (CallsEntry t ty i a) = (a.unit ≡ unit) × (a.func ≡ func) × (length a.locals ≡ count)
KeepsFrame unit func count (Refers n a) = (a.unit ≡ unit) × (a.func ≡ func) × (length a.locals ≡ count)
KeepsFrame unit func count (Does effect a) = (a.unit ≡ unit) × (a.func ≡ func) × (length a.locals ≡ count)
KeepsFrame unit func count _ = Unit {0}

module _ (unit func count : ℕ) where
  stays_keeps : (m : Move) → StaysIn unit func count m → KeepsFrame unit func count m
  stays_keeps (On a) h = h
  stays_keeps (Calls n a) h = absurd h
  stays_keeps (CallsEntry t ty i a) h = absurd h
  stays_keeps (Refers n a) h = h
  stays_keeps (Does effect a) h = h
  stays_keeps (Leaves values) h = tt
  stays_keeps (Fails why) h = tt
  stays_keeps Stuck h = tt

module _ (a : Activation) where
  abbrev Keeps : Move → Type 0
  Keeps m = KeepsFrame a.unit a.func (length a.locals) m

  index_keeps : (n : ℕ) (o : Option IndexForm) → Keeps (index_move n o a)
  index_keeps n (Some index.Call) = (refl, refl, refl)
  index_keeps n o = stays_keeps a.unit a.func (length a.locals) (index_move n o a) (index-stays a n o refl)

  entry_keeps : (ty table : ℕ) (vs : List Value) → Keeps (with_i32 vs (λ i ws. CallsEntry table ty i (with_values a ws)))
  entry_keeps ty table [] = tt
  entry_keeps ty table (Num n ∷ vs) = (refl, refl, refl)
  entry_keeps ty table (Func r ∷ vs) = tt

  end_keeps : (ls : List Level) → Keeps (end_move ls a)
  end_keeps [] = go (nat_eq (length a.values) a.results)
    where
      go : (b : Bool) → Keeps (if b then Leaves a.values else Stuck)
      go true = tt
      go false = tt
  end_keeps (l ∷ ls) = (refl, refl, refl)

  instr_keeps : (types : ℕ → Option FuncType) (x : Open.Instr-F Instr Expr) → Keeps (instr_move types x a)
  instr_keeps types (Open.Index op n) = index_keeps n (index_form op)
  instr_keeps types (Open.CallIndirect ty table) = entry_keeps ty table a.values
  instr_keeps types x = stays_keeps a.unit a.func (length a.locals) (instr_move types x a) (instr-stays types x a refl)

code_keeps : (types : ℕ → Option FuncType) (is : List Instr) (a : Activation) → Keeps a (code_move types is a)
code_keeps types [] a = end_keeps a a.levels
code_keeps types (i ∷ is) a = instr_keeps (record a { rest = is }) types (out-Instr i)

-- ---- what a step comes to

abbrev pub NextHas : {Units : Type 0} → View Units → Next Units ℕ → Type 0
NextHas V (Goes us memory frames) = HaveLocals V frames
NextHas V (Asks entry args frames) = HaveLocals V frames
NextHas V (Loads which args frames) = HaveLocals V frames
NextHas V Ends = Unit {0}
NextHas V (Traps why) = Unit {0}

module _ {Units : Type 0} (V : View Units) where
  room_parts : (height : ℕ) (o : Option Function) → room_with height o ≡ room_with 0 o + height
  room_parts height None = omega arith
  room_parts height (Some x) = omega arith

  -- the room of a function is that of its locals, and of the values on them
  pub room_is : (unit func : ℕ) → room_of V unit func ≡ locals_of V unit func + V.height unit func
  room_is unit func = room_parts (V.height unit func) (V.code unit func)

  pub locals_given : (values : List Value) (f : Frame ℕ) (frames : List (Frame ℕ)) → HaveLocals V (f ∷ frames) → HaveLocals V (given values f ∷ frames)
  locals_given values (Active a) frames h = h
  locals_given values (Marked tag) frames h = h

  own_locals : (x : Function) (o : Option Function) (args : List Value) → o ≡ Some x → length args ≡ length x.ty.params → length (reverse args ++ map zero_of x.locals) ≡ room_with 0 o
  own_locals x o args e n =
      let l = length-append (reverse args) (map zero_of x.locals) in
      let r = length-reverse args in
      let z = length-map x.locals zero_of in
      rw e (omega arith)

  module _ (us : Units) (memory : MemoryInstance) where
    abbrev Has : Next Units ℕ → Type 0
    Has n = NextHas V n

    module _ (caller : Caller ℕ) (values : List Value) (k : (vs : List Value) → HaveLocals V (caller vs)) where
      taken_count : (x : Function) (p : List Value × List Value) → take_values (reverse x.ty.params) values ≡ Some p → length p.0 ≡ length x.ty.params
      taken_count x p found =
          let there : is_some (take_values (reverse x.ty.params) values) ≡ true = ap is_some found in
          let same : take (length x.ty.params) values ≡ p.0 = let e = sym (arguments_are x.ty.params values there) ∙ found in cc in
          ap length (sym same) ∙ omega (arith, length-take (length x.ty.params) values, arguments_count x.ty.params values there)

      own_has : (unit f : ℕ) (x : Function) → V.code unit f ≡ Some x → IfSome (call_own us memory caller values unit f x) Has
      own_has unit f x e =
          each_found Has (take_values (reverse x.ty.params) values) (λ p. Some (Goes us memory (Active (entered unit f x p.0) ∷ caller p.1)))
          (λ p found. (own_locals x (V.code unit f) p.0 e (taken_count x p found), k p.1))

      pub call_has : (r : Ref) → IfSome (call V us memory caller values r) Has
      call_has (Own unit f) = each_found Has (V.code unit f) (call_own us memory caller values unit f) (own_has unit f)
      call_has (Host entry) =
          each Has (V.host entry) (call_host caller values entry) (λ ty. each Has (take_values (reverse ty.params) values) _ (λ p. k p.1))
      call_has (Loader which) =
          each Has (only_if V.has_loader (loader_type which)) (call_loader caller values which) (λ ty. each Has (take_values (reverse ty.params) values) _ (λ p. k p.1))
      call_has (Stub unit f) =
          each Has (V.stub unit f) _ (λ ty. each Has (take_values (reverse ty.params) values) (λ p. Some (Traps trap.Unreachable)) (λ p. tt))

    module _ (frames : List (Frame ℕ)) (h : HaveLocals V frames) where
      from_has : (a : Activation) (r : Ref) → length a.locals ≡ locals_of V a.unit a.func → IfSome (call V us memory (calling a frames) a.values r) Has
      from_has a r e = call_has (calling a frames) a.values (λ vs. (e, h)) r

      entry_has : (a : Activation) (ty : FuncType) (o : Option (Option Ref)) → length a.locals ≡ locals_of V a.unit a.func → IfSome (call_entry V us memory frames a ty o) Has
      entry_has a ty None e = tt
      entry_has a ty (Some None) e = tt
      entry_has a ty (Some (Some r)) e =
          each Has (type_of V r) _
          (λ found. either_way Has (same_function_type found ty) (call V us memory (calling a frames) a.values r) (Some (Traps trap.WrongType)) (from_has a r e) tt)

      effected_has : (a : Activation) (e : Effected Units) → length a.locals ≡ locals_of V a.unit a.func → Has (effected_with frames a e)
      effected_has a (effects.Gives values us' memory') e = (e, h)
      effected_has a (effects.Traps why) e = tt

      left_has : (values : List Value) (fs : List (Frame ℕ)) → HaveLocals V fs → Has (left_with us memory values fs)
      left_has values [] g = tt
      left_has values (f ∷ fs) g = locals_given values f fs g

      module _ (unit func count : ℕ) (e : count ≡ locals_of V unit func) where
        counted : (b : Activation) → (b.unit ≡ unit) × (b.func ≡ func) × (length b.locals ≡ count) → length b.locals ≡ locals_of V b.unit b.func
        counted b q = rw (q.0, q.1) (q.2 ∙ e)

        carried_has : (m : Move) → KeepsFrame unit func count m → IfSome (carried_out V us memory frames m) Has
        carried_has (On a) q = (counted a q, h)
        carried_has (Calls f a) q = each Has (V.target a.unit f) _ (λ r. from_has a r (counted a q))
        carried_has (CallsEntry t ty i a) q =
            each Has (V.table us a.unit t) _ (λ table. each Has (V.declared a.unit ty) _ (λ f. entry_has a f (entry_at table i) (counted a q)))
        carried_has (Refers f a) q = each Has (V.target a.unit f) _ (λ r. (counted a q, h))
        carried_has (Does effect a) q = each Has (performed V us memory a.unit effect) _ (λ x. effected_has a x (counted a q))
        carried_has (Leaves values) q = left_has values frames h
        carried_has (Fails why) q = tt
        carried_has Stuck q = tt

    pub next_has : (frames : List (Frame ℕ)) → HaveLocals V frames → IfSome (next_of V us memory frames) Has
    next_has [] h = tt
    next_has (Marked tag ∷ frames) h = tt
    next_has (Active a ∷ frames) h =
        carried_has frames h.1 a.unit a.func (length a.locals) h.0 (move (V.declared a.unit) a) (code_keeps (V.declared a.unit) a.rest a)
