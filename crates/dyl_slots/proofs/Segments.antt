-- The slots that a member's region gives its functions are those of the linked set.
use Rattle.std.proofs.Common.{◌≡◌, ℕ, zero, suc, ◌<◌, ◌^◌, true, false, List, [], ◌∷◌, length, get_or, Option, Some, None, refl, sym, ap, ap₂, ◌∙◌, subst, arith, slice_get}
use Rattle.std.specs.Prelude.{is_none, Result, Ok, Err, IfOk}
use Rattle.std.proofs.lemmas.List.{length-map}
use Rattle.std.specs.List.{filter, filter_map, cons_option}
use Rattle.wasm_form.specs.declared.types.ValType.TheVariants.{I32}
use Rattle.wasm_form.specs.declared.types.GlobalType.{GlobalType}
use Rattle.wasm_form.specs.declared.module.Import.{Import}
use Rattle.wasm_form.specs.declared.module.ElemMode.{ElemMode}
use Rattle.wasm_form.specs.declared.module.ElemMode.TheVariants as elem_mode
use Rattle.wasm_form.specs.declared.module.ElemItems.{ElemItems}
use Rattle.wasm_form.specs.declared.module.Module.{Module}
use Rattle.wasm_form.specs.declared.runtime.Ref.{Ref}
use Rattle.wasm_form.specs.declared.runtime.Ref.TheVariants.{Own}
use Rattle.spec_loading.specs.spec_binary.Options.{◌>>=◌}
use Rattle.spec_loading.specs.spec_binary.IndexSpaces.{imports_of, globals_in, tables_in, function_space}
use Rattle.spec_loading.specs.spec_validation.Faults.{fault}
use Rattle.spec_loading.proofs.of_spec_validation.Parts.{parts_fit}
use Rattle.spec_loading.specs.spec_runtime.Constants.{numbered_globals}
use Rattle.spec_loading.specs.spec_linking.Sets.{Member}
use Rattle.spec_loading.specs.spec_linking.Orders.{is_among}
use Rattle.spec_loading.specs.spec_linking.Imports.{ImportUse, MemoryBase, TableBase, use_of, importing}
use Rattle.spec_loading.specs.spec_linking.LinkedSets.{LinkedSet, wasm_of, function_ref}
use Rattle.spec_loading.specs.spec_linking.Slots.{table_base, imported_base, placing_as, shared_placing, shared_placings, all_applied, nowhere, index_of, segment_slot, defined_functions, fresh_in, fresh_of}
use Rattle.spec_loading.specs.spec_linking.Links.{Finding, first_fault}
use Rattle.spec_loading.proofs.of_spec_linking.Importing.{importing_length}
use Rattle.dyl_imports.specs.wasm_check.declared.value.Constant.TheVariants.{Num}
use Rattle.dyl_imports.specs.wasm_check.Constants.{IsOfType, AreOfTypes}
use Rattle.dyl_imports.specs.dyl_search.declared.set.Member as code
use Rattle.dyl_slots.specs.declared.placings.Bases.{Bases}
use Rattle.dyl_slots.specs.declared.segmented.Segmented.{Segmented}
use Rattle.dyl_slots.specs.Fresh.{slot_at}
use Rattle.dyl_slots.specs.Placings.{base_number, base_numbers, placings_by}
use Rattle.dyl_slots.specs.Given.{IsAt, IsSegmentedOf}
use Rattle.dyl_slots.proofs.DefinedNumbers.{defined_below, filter_same}
use Rattle.dyl_slots.proofs.Globals.{named_global, numbers_are, number_at, global_is_word, global_same}
use Rattle.dyl_slots.proofs.Constants.{chosen, segments_same}

pub slot_read : (slots : List (Option ℕ)) (f : ℕ) → slot_at slots f ≡ get_or slots f None
slot_read [] f = refl
slot_read (x ∷ xs) zero = refl
slot_read (x ∷ xs) (suc f) = slot_read xs f

picked_same : {A B : Type 0} (f g : A → Option B) → ((x : A) → f x ≡ g x) → (xs : List A) → filter_map f xs ≡ filter_map g xs
picked_same f g same [] = refl
picked_same f g same (x ∷ xs) = ap₂ cons_option (same x) (picked_same f g same xs)

abbrev no_finding : Finding
no_finding = None

pub numbers_length : (bases : Bases) (is : List Import) → length (base_numbers bases is) ≡ length (imports_of globals_in is)
numbers_length bases is = ap length (numbers_are bases is) ∙ length-map (importing globals_in is) (λ i. base_number bases (use_of i)) ∙ importing_length globals_in is

none : (is : List Import) → first_fault (λ (i : Import). no_finding) is ≡ None
none [] = refl
none (i ∷ is) = none is

base_small : (bases : Bases) (u : ImportUse) → bases.memory < 2 ^ 32 → bases.table < 2 ^ 32 → base_number bases u < 2 ^ 32
base_small bases MemoryBase h k = h
base_small bases TableBase h k = k
base_small bases _ h k = omega arith

module _ (L : LinkedSet) (m : ℕ) (member : code.Member) (functions : List Ref) (bases : Bases) (at : IsAt L m member functions bases) (valid : fault member.checked ≡ None) where
  abbrev wasm : Module
  wasm = member.checked

  here : wasm_of L m ≡ Some wasm
  here = ap (λ (o : Option Member). o >>= λ x. Some x.wasm) at.here

  pub are_words : AreOfTypes wasm (base_numbers bases wasm.imports)
  are_words g ty n found number =
      let r = named_global (λ i. no_finding) wasm.imports g ty (none wasm.imports) found in
      let is : base_number bases (use_of r.import) ≡ n = (let q = number_at bases wasm.imports g r.import r.found in cc) in
      let table : bases.table < 2 ^ 32 = (let le = at.within in omega arith) in
      let small : n < 2 ^ 32 = subst (λ k. k < 2 ^ 32) is (base_small bases (use_of r.import) at.small table) in
      let word : ty.value ≡ I32 = global_is_word L m wasm here at.imports bases at.memory at.table g ty found in
      subst (λ t. IsOfType wasm t (Num n)) (sym word) small

  abbrev tables : ℕ
  tables = length (imports_of tables_in wasm.imports)

  fixed : (g : ℕ) (ty : GlobalType) → slice_get (imports_of globals_in wasm.imports) g ≡ Some ty → ty.mutable ≡ false → imported_base L m g ≡ numbered_globals (base_numbers bases wasm.imports) g
  fixed = global_same L m wasm here at.imports bases at.memory at.table

  chosen_same : (items : ElemItems) (mode : ElemMode)
      → placing_as L m wasm items mode ≡ chosen wasm (function_ref L m) (slice_get functions) (λ f. sym (at.names f)) (imported_base L m) (numbered_globals (base_numbers bases wasm.imports)) fixed tables items mode
  chosen_same items (elem_mode.Active t offset) = refl
  chosen_same items elem_mode.Passive = refl
  chosen_same items elem_mode.Declarative = refl

  pub shared_same : placings_by (slice_get functions) (numbered_globals (base_numbers bases wasm.imports)) wasm ≡ shared_placings L m wasm
  shared_same = sym (
      picked_same (shared_placing L m wasm) _ (λ e. chosen_same e.items e.mode) wasm.elems
      ∙ segments_same wasm (function_ref L m) (slice_get functions) (λ f. sym (at.names f)) (imported_base L m) (numbered_globals (base_numbers bases wasm.imports))
      fixed tables wasm.elems (parts_fit wasm valid).elems)

  pub segment_is : (f : ℕ) → segment_slot L m f ≡ index_of (Own m f) (all_applied nowhere (shared_placings L m wasm)) bases.table member.dylink.table_size
  segment_is f =
      ap (λ (o : Option Member). o >>= λ x. table_base L m >>= λ base. index_of (Own m f) (all_applied nowhere (shared_placings L m x.wasm)) base x.dylink.table_size) at.here
      ∙ ap (λ (o : Option ℕ). o >>= λ base. index_of (Own m f) (all_applied nowhere (shared_placings L m wasm)) base member.dylink.table_size) at.table

  fresh_is : fresh_of L m ≡ filter (λ f. is_none (segment_slot L m f)) (defined_functions wasm)
  fresh_is = ap (fresh_in L m) here

  pub segmented_is : (s : Segmented) → s.defined ≡ defined_functions wasm → length s.segments.items ≡ length (function_space wasm)
      → ((f : ℕ) → f < length (function_space wasm) → get_or s.segments.items f None ≡ segment_slot L m f)
      → s.fresh ≡ filter (λ f. is_none (slot_at s.segments.items f)) s.defined → IsSegmentedOf L m s
  segmented_is s defined count slots fresh = record {
    wasm = wasm;
    here = here;
    defined = defined;
    below = below;
    segments = λ f lt. slot_read s.segments.items f ∙ slots f (omega arith);
    fresh = fresh ∙ filter_same (λ f. is_none (slot_at s.segments.items f)) (λ f. is_none (segment_slot L m f)) s.defined (λ f h. ap is_none (slot_read s.segments.items f ∙ slots f (inside f h)))
        ∙ ap (filter (λ f. is_none (segment_slot L m f))) defined ∙ sym fresh_is;
  }
    where
      inside : (f : ℕ) → is_among f s.defined ≡ true → f < length (function_space wasm)
      inside f h = defined_below wasm f (ap (is_among f) (sym defined) ∙ h)

      below : (f : ℕ) → is_among f s.defined ≡ true → f < length s.segments.items
      below f h = let lt = inside f h in omega arith

pub if_ok_more : {A E : Type 0} (r : Result A E) (P Q : A → Type 0) → ((x : A) → P x → Q x) → IfOk r P → IfOk r Q
if_ok_more (Ok x) P Q more h = more x h
if_ok_more (Err e) P Q more h = h
