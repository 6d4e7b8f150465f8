-- What is typed and counted names only what there is: units that hold types, frames that stand, and the code of a view.
use Rattle.std.proofs.Common.{◌≡◌, ℕ, ◌<◌, List, ◌++◌, Option, Some, None, Bool, true, refl, sym, ap, ◌∙◌}
use Rattle.std.specs.Prelude.{is_some, IsTrue, nat_lt}
use Rattle.std.proofs.lemmas.Bool.{lt-ltb}
use Rattle.spec_execution.specs.wasm_form.declared.types.ValType.{ValType}
use Rattle.spec_execution.specs.wasm_form.declared.types.FuncType.{FuncType}
use Rattle.spec_execution.specs.wasm_form.declared.instr.Instr.{Instr}
use Rattle.spec_execution.specs.wasm_form.declared.runtime.Ref.{Ref}
use Rattle.spec_execution.specs.wasm_form.declared.runtime.Value.{Value}
use Rattle.spec_execution.specs.wasm_form.declared.runtime.Value.TheVariants.{Num, Func}
use Rattle.spec_execution.specs.spec_binary.Indices.{Function}
use Rattle.spec_execution.specs.spec_validation.Stacks.{Stack}
use Rattle.spec_execution.specs.spec_validation.Context.{Context, Labels}
use Rattle.spec_execution.specs.Activations.{Activation}
use Rattle.spec_execution.specs.Views.{View}
use Rattle.spec_execution.specs.Ranges.{AreInRange, Exists, ValueExists, HoldsAll}
use Rattle.spec_safety.specs.ValueTypes.{HasType}
use Rattle.spec_safety.specs.TypedActivations.{Leads, within, IsTyped}
use Rattle.spec_safety.specs.TypedViews.{AreCounted, HoldTypes, IsTypedView}
use Rattle.spec_safety.proofs.TypedCode.{IsNumbered, typed_in_range}

module _ {Units : Type 0} (V : View Units) (N : ℕ → Context) (Kept : Units → Type 0) (typed : IsTypedView V N Kept) (counted : (unit : ℕ) → AreCounted (N unit) (V.counts unit)) where
  named : {A : Type 0} (o : Option A) (b : Bool) (a : A) → is_some o ≡ b → o ≡ Some a → b ≡ true
  named o b a e h = sym e ∙ ap is_some h

  -- a number below the count has a name
  there : {A : Type 0} (o : Option A) (k n : ℕ) → is_some o ≡ nat_lt k n → k < n → (a : A) × (o ≡ Some a)
  there None k n e lt = absurd (let q = lt-ltb k n lt in let none = e ∙ q in cc)
  there (Some a) k n e lt = (a, refl)

  numbered : (unit : ℕ) (locals results : List ValType) → IsNumbered (within (N unit) locals results) (V.counts unit)
  numbered unit locals results =
      let c = counted unit in
      record {
        types = λ k f e. named ((N unit).types k) _ f (c.types k) e;
        functions = λ k f e. named ((N unit).functions k) _ f (c.functions k) e;
        globals = λ k g e. named ((N unit).globals k) _ g (c.globals k) e;
        tables = λ k t e. named ((N unit).tables k) _ t (c.tables k) e;
        elems = λ k t e. named ((N unit).elems k) _ t (c.elems k) e;
        datas = λ k e. rw c.datas at e;
        refers = λ k e. let ty = typed.refers unit k e in named ((N unit).functions k) _ ty.0 (c.functions k) ty.1;
      }

  value_exists : (t : ValType) (v : Value) → HasType V t v → ValueExists V v
  value_exists t (Num n) h = tt
  value_exists t (Func r) h = h.1

  module _ (unit : ℕ) (locals results : List ValType) (most : ℕ) where
    abbrev c : Context
    c = within (N unit) locals results

    code_in : (labels : Labels) (under : ℕ) (s : Stack) (ends : List ValType) (is : List Instr) → Leads c labels under most s ends is → AreInRange (V.counts unit) is
    code_in labels under s ends is x = typed_in_range c (V.counts unit) (numbered unit locals results) is labels s x.reach x.typed

  -- what is left of an activation's code
  pub rest_in : (function : Function) (taken given : List ValType) (a : Activation) → IsTyped V N function taken given a
      → AreInRange (V.counts a.unit) a.rest
  rest_in function taken given a x =
      code_in a.unit (function.ty.params ++ function.locals) function.ty.results (V.height a.unit a.func) x.labels _ _ x.ends a.rest x.rest

  -- the units
  pub units_in : (us : Units) → HoldTypes V N us → HoldsAll V us
  units_in us h = record {
    globals = λ unit g lt.
        let t = there ((N unit).globals g) g _ ((counted unit).globals g) lt in
        let v = h.globals unit g t.0 t.1 in
        (v.0, v.1, value_exists t.0.value v.0 v.2);
    tables = λ unit t lt.
        let ty = there ((N unit).tables t) t _ ((counted unit).tables t) lt in
        let x = h.tables unit t ty.0 ty.1 in
        (x.0, x.1, x.2.entries);
    elems = λ unit e lt.
        let ty = there ((N unit).elems e) e _ ((counted unit).elems e) lt in
        h.elems unit e ty.0 ty.1;
    datas = λ unit d lt.
        let bytes = h.datas unit d (rw (counted unit).datas lt) in
        ap is_some bytes.1;
  }

  -- the view
  pub types_there : (unit t : ℕ) → t < (V.counts unit).types → IsTrue (is_some (V.declared unit t))
  types_there unit t lt =
      let ty = there ((N unit).types t) t _ ((counted unit).types t) lt in
      ap is_some (ap (λ (d : ℕ → Option FuncType). d t) (sym (typed.types unit)) ∙ ty.1)

  pub functions_there : (unit f : ℕ) → f < (V.counts unit).functions → (r : Ref) × (V.target unit f ≡ Some r) × Exists V r
  functions_there unit f lt =
      let ty = there ((N unit).functions f) f _ ((counted unit).functions f) lt in
      let r = typed.functions unit f ty.0 ty.1 in
      (r.0, r.1, ap is_some r.2)
