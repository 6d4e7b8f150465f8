-- The element segments of the merged module hold at first what those of the members hold, by the numbers.
use Rattle.std.proofs.Common.{◌≡◌, ℕ, suc, ◌+◌, true, List, [], ◌∷◌, ◌++◌, map, slice_get, Option, Some, None, option_map, refl, sym, ap, ap₂, ◌∙◌, arith, subst}
use Rattle.std.specs.List.{list_all}
use Rattle.std.proofs.lemmas.Bool.{and_parts}
use Rattle.std.proofs.lemmas.List.{map-append}
use Rattle.spec_reading.specs.wasm_form.declared.types.ValType.TheVariants.{FuncRef}
use Rattle.spec_reading.specs.wasm_form.declared.instr.Instr.{Instr, out-Instr}
use Rattle.spec_reading.specs.wasm_form.declared.instr.Instr.TheOpen as Open
use Rattle.spec_reading.specs.wasm_form.declared.instr.Expr.{Expr}
use Rattle.spec_reading.specs.wasm_form.declared.module.ElemMode.{ElemMode}
use Rattle.spec_reading.specs.wasm_form.declared.module.ElemMode.TheVariants as elem_mode
use Rattle.spec_reading.specs.wasm_form.declared.module.ElemItems.{ElemItems}
use Rattle.spec_reading.specs.wasm_form.declared.module.ElemItems.TheVariants as elem_items
use Rattle.spec_reading.specs.wasm_form.declared.module.Elem.{Elem}
use Rattle.spec_reading.specs.wasm_form.declared.module.Import.{Import}
use Rattle.spec_reading.specs.wasm_form.declared.module.Module.{Module}
use Rattle.spec_reading.specs.wasm_form.declared.runtime.Ref.{Ref}
use Rattle.spec_reading.specs.wasm_form.declared.index.IndexForm.{IndexForm}
use Rattle.spec_reading.specs.wasm_form.declared.index.IndexForm.TheVariants as index
use Rattle.spec_reading.specs.wasm_form.Index.{index_form}
use Rattle.spec_reading.specs.wasm_form.declared.runtime.Value.{Value}
use Rattle.spec_reading.specs.wasm_form.declared.runtime.Value.TheVariants.{Func}
use Rattle.spec_reading.specs.spec_binary.Options.{◌>>=◌}
use Rattle.spec_reading.specs.spec_binary.IndexSpaces.{globals_in}
use Rattle.spec_reading.specs.spec_binary.SameTypes.{same_type}
use Rattle.spec_loading.specs.spec_validation.Faults.{constant_step, is_constant, elem_mode_fits, items_fit, elem_fits}
use Rattle.spec_loading.proofs.of_spec_runtime.Constants.{put_alone}
use Rattle.spec_loading.proofs.of_spec_execution.Constants.{reference_value}
use Rattle.spec_loading.specs.spec_runtime.Constants.{instruction_constant, constant_in, constant_of, constant_entry, reference_in, no_globals}
use Rattle.spec_loading.specs.spec_execution.Segments.{opened_items}
use Rattle.spec_loading.specs.spec_execution.Instances.{module_target, segment_items}
use Rattle.spec_loading.specs.spec_linking.Sets.{Member}
use Rattle.spec_loading.specs.spec_linking.Imports.{ImportUse, SharedMemory, SharedTable, StackPointer, MemoryBase, TableBase, DataCell, SlotCell, EnvFunction, ModuleFunction, OtherUse, use_of, importing}
use Rattle.spec_loading.specs.spec_linking.LinkedSets.{LinkedSet, wasm_of, function_ref}
use Rattle.spec_loading.specs.spec_linking.Slots.{as_number, memory_base, table_base, base_as, base_value, imported_base, member_items}
use Rattle.spec_loading.specs.Members.{from_members}
use Rattle.merge_match.specs.Renumbering.{Numbers, reference, entry, instr, expr, renumbered}
use Rattle.merge_match.proofs.OneLevel.{inside, out_instr}
use Rattle.merge_module.specs.MergedModule.{renumbered_items, passive_elem}

-- what is made of what each member has
pub members_mapped : {A B C : Type 0} (f : A → C) (g : B → C) (of : ℕ → Module → List A) (other : ℕ → Module → List B) (k : ℕ) (xs : List Member)
    → ((i : ℕ) (y : Member) → slice_get xs i ≡ Some y → map f (of (k + i) y.wasm) ≡ map g (other (k + i) y.wasm))
    → map f (from_members of k xs) ≡ map g (from_members other k xs)
members_mapped f g of other k [] same = refl
members_mapped f g of other k (y ∷ ys) same =
    let place : k + 0 ≡ k = omega arith in
    let here : map f (of k y.wasm) ≡ map g (other k y.wasm) = subst (λ m. map f (of m y.wasm) ≡ map g (other m y.wasm)) place (same 0 y refl) in
    let rest = members_mapped f g of other (k + 1) ys (λ i z at. (let later : k + suc i ≡ k + 1 + i = omega arith in subst (λ m. map f (of m z.wasm) ≡ map g (other m z.wasm)) later (same (suc i) z at))) in
    map-append f (of k y.wasm) (from_members of (k + 1) ys) ∙ ap₂ (λ a b. a ++ b) here rest ∙ sym (map-append g (other k y.wasm) (from_members other (k + 1) ys))

module _ (L : LinkedSet) (n : Numbers) (merged : Module) (targets : (m f : ℕ) → module_target merged (n.named m f) ≡ option_map (reference n) (function_ref L m f)) (m : ℕ) where
  -- ---- items that are constant expressions

  number_no_reference : (o : Option ℕ) → (as_number o >>= reference_in) ≡ None
  number_no_reference None = refl
  number_no_reference (Some k) = refl

  base_no_reference : (i : Import) (u : ImportUse) → (base_as L m i u >>= reference_in) ≡ None
  base_no_reference i MemoryBase = number_no_reference (memory_base L m)
  base_no_reference i TableBase = number_no_reference (table_base L m)
  base_no_reference i SharedMemory = refl
  base_no_reference i SharedTable = refl
  base_no_reference i StackPointer = refl
  base_no_reference i DataCell = refl
  base_no_reference i SlotCell = refl
  base_no_reference i (EnvFunction t) = refl
  base_no_reference i (ModuleFunction t) = refl
  base_no_reference i OtherUse = refl

  -- a base is no reference
  global_no_reference : (g : ℕ) → (imported_base L m g >>= reference_in) ≡ None
  global_no_reference g = go (wasm_of L m)
    where
      found : (o : Option Import) → ((o >>= base_value L m) >>= reference_in) ≡ None
      found None = refl
      found (Some i) = base_no_reference i (use_of i)

      go : (o : Option Module) → ((o >>= λ wasm. slice_get (importing globals_in wasm.imports) g >>= base_value L m) >>= reference_in) ≡ None
      go None = refl
      go (Some wasm) = found (slice_get (importing globals_in wasm.imports) g)

  abbrev member_value : Open.Instr-F Instr Expr → Option Value
  member_value y = instruction_constant (function_ref L m) (imported_base L m) y

  abbrev merged_value : Open.Instr-F Instr Expr → Option Value
  merged_value y = instruction_constant (module_target merged) no_globals y

  function_item : (o : Option Ref) → ((option_map (reference n) o >>= λ r. Some (Func (Some r))) >>= reference_in)
      ≡ option_map (reference n) ((o >>= λ r. Some (Func (Some r))) >>= reference_in)
  function_item None = refl
  function_item (Some r) = refl

  index_item : (op f : ℕ) (form : Option IndexForm) → index_form op ≡ form
      → (merged_value (renumbered n m (Open.Index op f)) >>= reference_in) ≡ option_map (reference n) (member_value (Open.Index op f) >>= reference_in)
  index_item op f None q = rw q refl
  index_item op f (Some index.RefFunc) q = rw (q, targets m f) (function_item (function_ref L m f))
  index_item op f (Some index.GlobalGet) q = rw (q, global_no_reference f) refl
  index_item op f (Some index.Br) q = rw q refl
  index_item op f (Some index.BrIf) q = rw q refl
  index_item op f (Some index.Call) q = rw q refl
  index_item op f (Some index.LocalGet) q = rw q refl
  index_item op f (Some index.LocalSet) q = rw q refl
  index_item op f (Some index.LocalTee) q = rw q refl
  index_item op f (Some index.GlobalSet) q = rw q refl
  index_item op f (Some index.TableGet) q = rw q refl
  index_item op f (Some index.TableSet) q = rw q refl

  step_item : (y : Open.Instr-F Instr Expr)
      → (merged_value (renumbered n m (inside n m y)) >>= reference_in) ≡ option_map (reference n) (member_value y >>= reference_in)
  step_item (Open.Index op f) = index_item op f (index_form op) refl
  step_item y = refl

  -- a reference stays no operator
  no_operator : (wasm : Module) (y : Open.Instr-F Instr Expr) → constant_step wasm y ≡ Some FuncRef → (op : ℕ) → renumbered n m (inside n m y) ≡ Open.Plain op → ⊥
  no_operator wasm (Open.Index o k) h op e = cc
  no_operator wasm (Open.RefNull u) h op e = cc
  no_operator wasm _ h op e = cc

  item_same : (wasm : Module) (e : Expr) → is_constant wasm FuncRef e ≡ true
      → constant_entry (module_target merged) no_globals (expr n m e) ≡ entry n (constant_entry (function_ref L m) (imported_base L m) e)
  item_same wasm e typed =
      let one = reference_value wasm (function_ref L m) (imported_base L m) e typed in
      let i = instr n m one.0 in
      let merged_is : constant_of (module_target merged) no_globals (expr n m e) ≡ merged_value (renumbered n m (inside n m (out-Instr one.0))) =
      ap (λ l. constant_in (module_target merged) no_globals (map (instr n m) l)) one.1
      ∙ put_alone (module_target merged) no_globals i (λ op q. no_operator wasm (out-Instr one.0) one.2 op (sym (out_instr n m one.0) ∙ q))
      ∙ ap merged_value (out_instr n m one.0) in
      ap (λ (o : Option Value). o >>= reference_in) merged_is
      ∙ step_item (out-Instr one.0)
      ∙ ap (λ (o : Option Value). option_map (reference n) (o >>= reference_in)) (sym one.3)

  -- ---- segments

  exprs_same : (wasm : Module) (es : List Expr) → list_all (is_constant wasm FuncRef) es ≡ true
      → map (constant_entry (module_target merged) no_globals) (map (expr n m) es) ≡ map (entry n) (map (constant_entry (function_ref L m) (imported_base L m)) es)
  exprs_same wasm [] h = refl
  exprs_same wasm (e ∷ es) h =
      let both = and_parts (is_constant wasm FuncRef e) (list_all (is_constant wasm FuncRef) es) h in
      ap₂ (λ y ys. y ∷ ys) (item_same wasm e both.0) (exprs_same wasm es both.1)

  items_same : (wasm : Module) (items : ElemItems) → items_fit wasm items ≡ true → segment_items merged (renumbered_items n m items) ≡ map (entry n) (member_items L m items)
  items_same wasm (elem_items.Funcs fs) h = functions_same fs
    where
      functions_same : (fs : List ℕ) → segment_items merged (renumbered_items n m (elem_items.Funcs fs)) ≡ map (entry n) (member_items L m (elem_items.Funcs fs))
      functions_same [] = refl
      functions_same (f ∷ fs) = (let rest = functions_same fs in let here = targets m f in cc)
  items_same wasm (elem_items.Exprs ty es) h = exprs_same wasm es (and_parts (same_type ty FuncRef) (list_all (is_constant wasm FuncRef) es) h).1

  elem_same : (wasm : Module) (e : Elem) → elem_fits wasm e ≡ true → opened_items (segment_items merged) (passive_elem n m e) ≡ map (entry n) (opened_items (member_items L m) e)
  elem_same wasm e fits = go e.mode refl
    where
      items : items_fit wasm e.items ≡ true
      items = (and_parts (elem_mode_fits wasm e.mode) (items_fit wasm e.items) fits).1

      go : (mode : ElemMode) → e.mode ≡ mode → opened_items (segment_items merged) (passive_elem n m e) ≡ map (entry n) (opened_items (member_items L m) e)
      go (elem_mode.Active t offset) q = rw q (items_same wasm e.items items)
      go elem_mode.Passive q = rw q (items_same wasm e.items items)
      go elem_mode.Declarative q = rw q refl

  pub elems_same : (wasm : Module) (es : List Elem) → list_all (elem_fits wasm) es ≡ true
      → map (opened_items (segment_items merged)) (map (passive_elem n m) es) ≡ map (map (entry n)) (map (opened_items (member_items L m)) es)
  elems_same wasm [] h = refl
  elems_same wasm (e ∷ es) h =
      let both = and_parts (elem_fits wasm e) (list_all (elem_fits wasm) es) h in
      ap₂ (λ y ys. y ∷ ys) (elem_same wasm e both.0) (elems_same wasm es both.1)
