-- Constant expressions that name the same have the same values.
use Rattle.std.proofs.Common.{◌≡◌, ℕ, Bool, true, false, List, [], ◌∷◌, ◌++◌, map, Option, Some, None, refl, ap, ap₂, ◌∙◌, slice_get, nat_lt, if◌then◌else◌}
use Rattle.std.specs.Prelude.{is_some}
use Rattle.std.specs.List.{list_all, filter_map, cons_option}
use Rattle.std.proofs.lemmas.Bool.{and_parts}
use Rattle.wasm_form.specs.declared.types.ValType.{ValType}
use Rattle.wasm_form.specs.declared.types.ValType.TheVariants.{I32, FuncRef}
use Rattle.wasm_form.specs.declared.types.GlobalType.{GlobalType}
use Rattle.wasm_form.specs.declared.instr.Instr.{Instr, out-Instr}
use Rattle.wasm_form.specs.declared.instr.Instr.TheOpen as Open
use Rattle.wasm_form.specs.declared.instr.Expr.{Expr}
use Rattle.wasm_form.specs.declared.module.ElemMode.{ElemMode}
use Rattle.wasm_form.specs.declared.module.ElemMode.TheVariants as elem_mode
use Rattle.wasm_form.specs.declared.module.ElemItems.{ElemItems}
use Rattle.wasm_form.specs.declared.module.ElemItems.TheVariants as elem_items
use Rattle.wasm_form.specs.declared.module.Elem.{Elem}
use Rattle.wasm_form.specs.declared.module.Module.{Module}
use Rattle.wasm_form.specs.declared.runtime.Ref.{Ref}
use Rattle.wasm_form.specs.declared.index.IndexForm.{IndexForm}
use Rattle.wasm_form.specs.declared.index.IndexForm.TheVariants.{RefFunc, GlobalGet}
use Rattle.wasm_form.specs.Index.{index_form}
use Rattle.wasm_form.specs.declared.runtime.Value.{Value}
use Rattle.wasm_form.specs.declared.runtime.Value.TheVariants.{Func}
use Rattle.spec_loading.specs.spec_binary.Options.{◌>>=◌}
use Rattle.spec_loading.specs.spec_binary.SameTypes.{same_type}
use Rattle.spec_loading.specs.spec_binary.IndexSpaces.{imports_of, globals_in, table_space}
use Rattle.spec_loading.specs.spec_validation.Faults.{has_functions, immutable, constant_index, may_be_constant, constant_context, is_constant, elem_mode_fits, items_fit, elem_fits}
use Rattle.spec_loading.specs.spec_runtime.Constants.{index_constant, instruction_constant, constant_of, number_in, reference_in, constant_number, constant_entry, constant_entries}
use Rattle.spec_loading.specs.spec_validation.Typing.{height}
use Rattle.spec_loading.proofs.of_spec_runtime.Constants.{same_constant}
use Rattle.spec_loading.specs.spec_linking.Slots.{Placing}
use Rattle.dyl_slots.specs.Placings.{placed_at, placed_as, placed_all}

pub map_same : {A B : Type 0} (f g : A → B) → ((x : A) → f x ≡ g x) → (xs : List A) → map f xs ≡ map g xs
map_same f g same [] = refl
map_same f g same (x ∷ xs) = ap₂ (λ y ys. y ∷ ys) (same x) (map_same f g same xs)

module _ (m : Module) (F E : ℕ → Option Ref) (functions : (f : ℕ) → F f ≡ E f) (G H : ℕ → Option Value)
    (globals : (g : ℕ) (ty : GlobalType) → slice_get (imports_of globals_in m.imports) g ≡ Some ty → ty.mutable ≡ false → G g ≡ H g) where
  fixed_global : (g : ℕ) (o : Option GlobalType) → slice_get (imports_of globals_in m.imports) g ≡ o → is_some (o >>= immutable) ≡ true → G g ≡ H g
  fixed_global g None q h = absurd cc
  fixed_global g (Some ty) q h = by ty.mutable refl h
    where
      by : (b : Bool) → ty.mutable ≡ b → is_some (if b then None else Some ty.value) ≡ true → G g ≡ H g
      by true p k = absurd cc
      by false p k = globals g ty q p

  index_same : (form : IndexForm) (n : ℕ) → is_some (constant_index m form n) ≡ true → index_constant F G form n ≡ index_constant E H form n
  index_same RefFunc n h = ap (λ (o : Option Ref). o >>= λ r. Some (Func (Some r))) (functions n)
  index_same GlobalGet n h = fixed_global n (slice_get (imports_of globals_in m.imports) n) refl h
  index_same _ n h = refl

  form_same : (o : Option IndexForm) (n : ℕ) → is_some (o >>= λ f. constant_index m f n) ≡ true → (o >>= λ f. index_constant F G f n) ≡ (o >>= λ f. index_constant E H f n)
  form_same None n h = refl
  form_same (Some form) n h = index_same form n h

  step_same : (x : Open.Instr-F Instr Expr) → may_be_constant m x ≡ true → instruction_constant F G x ≡ instruction_constant E H x
  step_same (Open.Index op n) h = form_same (index_form op) n h
  step_same _ h = refl

  list_same : (t : ValType) (e : Expr) → is_constant m t e ≡ true → constant_of F G e ≡ constant_of E H e
  list_same t e h =
      same_constant F E G H (λ i. may_be_constant m (out-Instr i)) (λ i. step_same (out-Instr i)) e.list
      (and_parts (list_all (λ i. may_be_constant m (out-Instr i)) e.list) (is_some (height (constant_context m t) e.list)) h).0

  number_same : (e : Expr) → is_constant m I32 e ≡ true → constant_number F G e ≡ constant_number E H e
  number_same e h = ap (λ (o : Option Value). o >>= number_in) (list_same I32 e h)

  entry_same : (e : Expr) → is_constant m FuncRef e ≡ true → constant_entry F G e ≡ constant_entry E H e
  entry_same e h = ap (λ (o : Option Value). o >>= reference_in) (list_same FuncRef e h)

  entries_same : (es : List Expr) → list_all (is_constant m FuncRef) es ≡ true → map (constant_entry F G) es ≡ map (constant_entry E H) es
  entries_same [] h = refl
  entries_same (e ∷ es) h =
      let both = and_parts (is_constant m FuncRef e) (list_all (is_constant m FuncRef) es) h in
      ap₂ (λ y ys. y ∷ ys) (entry_same e both.0) (entries_same es both.1)

  items_same : (items : ElemItems) → items_fit m items ≡ true → constant_entries F G items ≡ constant_entries E H items
  items_same (elem_items.Funcs fs) h = map_same F E functions fs
  items_same (elem_items.Exprs t es) h = entries_same es (and_parts (same_type t FuncRef) (list_all (is_constant m FuncRef) es) h).1

  placed_same : (items : ElemItems) (at : Expr) → items_fit m items ≡ true → is_constant m I32 at ≡ true → placed_at F G items at ≡ placed_at E H items at
  placed_same items at h k =
      ap (λ (o : Option ℕ). o >>= λ n. Some (n, constant_entries F G items)) (number_same at k)
      ∙ ap (λ (list : List (Option Ref)). constant_number E H at >>= λ n. Some (n, list)) (items_same items h)

  -- what a segment places in one of the first tables, or nothing
  abbrev pub chosen : ℕ → ElemItems → ElemMode → Option Placing
  chosen tables items (elem_mode.Active t offset) = if nat_lt t tables then placed_at F G items offset else None
  chosen tables items elem_mode.Passive = None
  chosen tables items elem_mode.Declarative = None

  first_of : (o : Option Placing) (rest : List Placing) → cons_option o rest ≡ cons_option o [] ++ rest
  first_of None rest = refl
  first_of (Some p) rest = refl

  elem_same : (tables : ℕ) (items : ElemItems) (mode : ElemMode) (rest : List Placing) → elem_mode_fits m mode ≡ true → items_fit m items ≡ true
      → cons_option (chosen tables items mode) rest ≡ placed_as E H tables items mode ++ rest
  elem_same tables items (elem_mode.Active t offset) rest h k = by (nat_lt t tables)
    where
      constant : is_constant m I32 offset ≡ true
      constant = (and_parts (has_functions (slice_get (table_space m) t)) (is_constant m I32 offset) h).1

      by : (b : Bool) → cons_option (if b then placed_at F G items offset else None) rest ≡ (if b then cons_option (placed_at E H items offset) [] else []) ++ rest
      by true = ap (λ o. cons_option o rest) (placed_same items offset k constant) ∙ first_of (placed_at E H items offset) rest
      by false = refl
  elem_same tables items elem_mode.Passive rest h k = refl
  elem_same tables items elem_mode.Declarative rest h k = refl

  pub segments_same : (tables : ℕ) (es : List Elem) → list_all (elem_fits m) es ≡ true → filter_map (λ e. chosen tables e.items e.mode) es ≡ placed_all E H tables es
  segments_same tables [] h = refl
  segments_same tables (e ∷ es) h =
      let both = and_parts (elem_fits m e) (list_all (elem_fits m) es) h in
      let fits = and_parts (elem_mode_fits m e.mode) (items_fit m e.items) both.0 in
      ap (cons_option (chosen tables e.items e.mode)) (segments_same tables es both.1)
      ∙ elem_same tables e.items e.mode (placed_all E H tables es) fits.0 fits.1
