-- What constant expressions and element segments of a valid module refer to is there.
use Rattle.std.proofs.Common.{◌≡◌, ℕ, Bool, true, false, List, [], ◌∷◌, length, map, Option, Some, None, refl, subst}
use Rattle.std.specs.Prelude.{if◌then◌else◌, is_some, unwrap_or}
use Rattle.std.specs.List.{list_all}
use Rattle.std.proofs.lemmas.Bool.{ltb-true, and_parts}
use Rattle.std.proofs.lemmas.List.Elements.{All-nil, All-cons}
use Rattle.spec_execution.specs.wasm_form.declared.types.ValType.{ValType}
use Rattle.spec_execution.specs.wasm_form.declared.types.ValType.TheVariants.{FuncRef}
use Rattle.spec_execution.specs.wasm_form.declared.instr.Instr.{Instr, out-Instr}
use Rattle.spec_execution.specs.wasm_form.declared.instr.Instr.TheOpen as Open
use Rattle.spec_execution.specs.wasm_form.declared.instr.Expr.{Expr}
use Rattle.spec_execution.specs.wasm_form.declared.module.GlobalDef.{GlobalDef}
use Rattle.spec_execution.specs.wasm_form.declared.module.ElemMode.{ElemMode}
use Rattle.spec_execution.specs.wasm_form.declared.module.ElemMode.TheVariants as elem_mode
use Rattle.spec_execution.specs.wasm_form.declared.module.ElemItems.{ElemItems}
use Rattle.spec_execution.specs.wasm_form.declared.module.ElemItems.TheVariants as elem_items
use Rattle.spec_execution.specs.wasm_form.declared.module.Elem.{Elem}
use Rattle.spec_execution.specs.wasm_form.declared.module.Module.{Module}
use Rattle.spec_execution.specs.wasm_form.declared.runtime.Ref.{Ref}
use Rattle.spec_execution.specs.wasm_form.declared.index.IndexForm.{IndexForm}
use Rattle.spec_execution.specs.wasm_form.declared.index.IndexForm.TheVariants.{RefFunc}
use Rattle.spec_execution.specs.wasm_form.Index.{index_form}
use Rattle.spec_execution.specs.wasm_form.declared.runtime.Value.{Value}
use Rattle.spec_execution.specs.wasm_form.declared.runtime.Value.TheVariants.{Num, Func}
use Rattle.spec_execution.specs.spec_binary.Options.{◌>>=◌}
use Rattle.spec_execution.specs.spec_binary.IndexSpaces.{function_space}
use Rattle.spec_execution.specs.spec_validation.Faults.{is_function, may_be_constant, is_constant, global_fits, elem_mode_fits, items_fit, elem_fits}
use Rattle.spec_execution.specs.spec_validation.Faults as valid
use Rattle.spec_execution.specs.spec_runtime.Constants.{index_constant, instruction_constant, no_globals, reference_in}
use Rattle.spec_execution.proofs.of_spec_runtime.Constants.{value_kept}
use Rattle.spec_execution.specs.Values.{zero_value, zero_of}
use Rattle.spec_execution.specs.Ranges.{ReferenceExists, ValueExists, AllExist}
use Rattle.spec_execution.specs.Instances.{module_target, module_view, constant_value, global_value, constant_reference, segment_items}
use Rattle.spec_execution.specs.Segments.{opened_items}
use Rattle.spec_safety.specs.Laws.{IsAlone}
use Rattle.spec_safety.proofs.Functions.{named_exists, target_there}

module _ (m : Module) (alone : IsAlone m) where
  function_exists : (f : ℕ) → is_function m f ≡ true → ReferenceExists (module_view m) (module_target m f)
  function_exists f e =
      let lt = ltb-true f (length (function_space m)) e in
      rw (target_there m alone f lt) (named_exists m alone f lt)

  number_exists : (n : ℕ) (v : Value) → Some (Num n) ≡ Some v → ValueExists (module_view m) v
  number_exists n v e = let is : Num n ≡ v = cc in subst (ValueExists (module_view m)) is tt

  -- a reference to the function of a number
  named_value : (o : Option Ref) (v : Value) → ReferenceExists (module_view m) o → (o >>= λ r. Some (Func (Some r))) ≡ Some v → ValueExists (module_view m) v
  named_value None v h e = absurd cc
  named_value (Some r) v h e = let is : Func (Some r) ≡ v = cc in subst (ValueExists (module_view m)) is h

  index_exists : (form : Option IndexForm) (f : ℕ) (v : Value) → is_some (form >>= λ i. valid.constant_index m i f) ≡ true
      → (form >>= λ i. index_constant (module_target m) no_globals i f) ≡ Some v → ValueExists (module_view m) v
  index_exists (Some RefFunc) f v may e = named_value (module_target m f) v (function_exists f (needs (is_function m f) may)) e
    where
      needs : (b : Bool) → is_some (if b then Some FuncRef else None) ≡ true → b ≡ true
      needs true h = refl
      needs false h = absurd cc
  index_exists _ f v may e = absurd cc

  -- what an instruction of a constant expression puts on the stack
  put_exists : (x : Open.Instr-F Instr Expr) (v : Value) → may_be_constant m x ≡ true → instruction_constant (module_target m) no_globals x ≡ Some v → ValueExists (module_view m) v
  put_exists (Open.I32Const n) v may e = number_exists _ v e
  put_exists (Open.I64Const n) v may e = number_exists _ v e
  put_exists (Open.RefNull u) v may e = let is : Func None ≡ v = cc in subst (ValueExists (module_view m)) is tt
  put_exists (Open.Index op f) v may e = index_exists (index_form op) f v may e
  put_exists _ v may e = absurd cc

  -- the value of a constant expression
  constant_exists : (t : ValType) (e : Expr) (v : Value) → is_constant m t e ≡ true → constant_value m e ≡ Some v → ValueExists (module_view m) v
  constant_exists t e v typed h =
      value_kept (module_target m) no_globals (λ i. may_be_constant m (out-Instr i)) (ValueExists (module_view m)) (λ n. tt) (λ i u. put_exists (out-Instr i) u) e.list v
      (and_parts (list_all (λ i. may_be_constant m (out-Instr i)) e.list) _ typed).0 h

  reference_exists : (e : Expr) → is_constant m FuncRef e ≡ true → ReferenceExists (module_view m) (constant_reference m e)
  reference_exists e typed = go (constant_value m e) (λ v h. constant_exists FuncRef e v typed h)
    where
      go : (o : Option Value) → ((v : Value) → o ≡ Some v → ValueExists (module_view m) v) → ReferenceExists (module_view m) (o >>= reference_in)
      go None exists = tt
      go (Some (Num n)) exists = tt
      go (Some (Func r)) exists = exists (Func r) refl

  zero_exists : (b : Bool) → ValueExists (module_view m) (zero_value b)
  zero_exists true = tt
  zero_exists false = tt

  pub global_exists : (g : GlobalDef) → global_fits m g ≡ true → ValueExists (module_view m) (global_value m g)
  global_exists g typed = go (constant_value m g.init) (λ v h. constant_exists g.ty.value g.init v typed h)
    where
      go : (o : Option Value) → ((v : Value) → o ≡ Some v → ValueExists (module_view m) v) → ValueExists (module_view m) (unwrap_or o (zero_of g.ty.value))
      go None exists = zero_exists _
      go (Some v) exists = exists v refl

  -- ---- element segments

  functions_exist : (fs : List ℕ) → list_all (is_function m) fs ≡ true → AllExist (module_view m) (map (module_target m) fs)
  functions_exist [] e = All-nil (ReferenceExists (module_view m))
  functions_exist (f ∷ fs) e =
      let both = and_parts (is_function m f) (list_all (is_function m) fs) e in
      All-cons (ReferenceExists (module_view m)) (module_target m f) (map (module_target m) fs) (function_exists f both.0) (functions_exist fs both.1)

  references_exist : (es : List Expr) → list_all (is_constant m FuncRef) es ≡ true → AllExist (module_view m) (map (constant_reference m) es)
  references_exist [] e = All-nil (ReferenceExists (module_view m))
  references_exist (x ∷ xs) e =
      let both = and_parts (is_constant m FuncRef x) (list_all (is_constant m FuncRef) xs) e in
      All-cons (ReferenceExists (module_view m)) (constant_reference m x) (map (constant_reference m) xs) (reference_exists x both.0) (references_exist xs both.1)

  items_exist : (items : ElemItems) → items_fit m items ≡ true → AllExist (module_view m) (segment_items m items)
  items_exist (elem_items.Funcs fs) e = functions_exist fs e
  items_exist (elem_items.Exprs t es) e = references_exist es (and_parts _ (list_all (is_constant m FuncRef) es) e).1

  pub segment_exists : (e : Elem) → elem_fits m e ≡ true → AllExist (module_view m) (segment_items m e.items)
  segment_exists e fits = items_exist e.items (and_parts (elem_mode_fits m e.mode) (items_fit m e.items) fits).1

  pub opened_exist : (e : Elem) → elem_fits m e ≡ true → AllExist (module_view m) (opened_items (segment_items m) e)
  opened_exist e fits = go e.mode refl
    where
      go : (mode : ElemMode) → e.mode ≡ mode → AllExist (module_view m) (opened_items (segment_items m) e)
      go (elem_mode.Active table offset) q = rw q (segment_exists e fits)
      go elem_mode.Passive q = rw q (segment_exists e fits)
      go elem_mode.Declarative q = rw q (All-nil (ReferenceExists (module_view m)))
