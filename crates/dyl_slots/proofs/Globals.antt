-- The imported globals of a member whose imports have no fault: all are i32s, and those that can't be set are its bases.
use Rattle.std.proofs.Common.{◌≡◌, ℕ, zero, suc, Bool, true, false, List, [], ◌∷◌, ◌++◌, map, Option, Some, None, refl, sym, ap, ◌∙◌, ◌⊎◌, inl, inr, slice_get, bytes_eq, if◌then◌else◌}
use Rattle.std.specs.Prelude.{codes}
use Rattle.spec_loading.specs.spec_linking.Definitions.{env_name, got_mem_name, got_func_name}
use Rattle.std.proofs.lemmas.Bool.{and_parts}
use Rattle.std.proofs.lemmas.List.{map-append}
use Rattle.std.proofs.lemmas.Simd.{map-map}
use Rattle.std.proofs.lemmas.Option.{slice_get-map}
use Rattle.std.specs.Option.{option_map}
use Rattle.wasm_form.specs.declared.types.ValType.TheVariants.{I32}
use Rattle.wasm_form.specs.declared.types.GlobalType.{GlobalType}
use Rattle.wasm_form.specs.declared.module.ImportDesc.{ImportDesc}
use Rattle.wasm_form.specs.declared.module.ImportDesc.TheVariants as imported
use Rattle.wasm_form.specs.declared.module.Import.{Import}
use Rattle.wasm_form.specs.declared.module.Module.{Module}
use Rattle.wasm_form.specs.declared.runtime.Value.TheVariants.{Num}
use Rattle.spec_loading.specs.spec_binary.Options.{◌>>=◌}
use Rattle.spec_loading.specs.spec_binary.SameTypes.{same_type}
use Rattle.spec_loading.specs.spec_binary.IndexSpaces.{imports_of, globals_in}
use Rattle.spec_loading.specs.spec_runtime.Constants.{numbered_globals}
use Rattle.spec_loading.specs.spec_linking.declared.fault.Kind.TheVariants as kind
use Rattle.spec_loading.specs.spec_linking.declared.fault.LinkFault.{LinkFault}
use Rattle.spec_loading.specs.spec_linking.declared.fault.LinkFault.TheVariants.{IllTyped}
use Rattle.spec_loading.specs.spec_linking.Imports.{ImportUse, SharedMemory, SharedTable, StackPointer, MemoryBase, TableBase, DataCell, SlotCell, EnvFunction, ModuleFunction, OtherUse, is_import, function_use, use_of, is_memory, is_function_table, is_i32_global, importing}
use Rattle.spec_loading.specs.spec_linking.LinkedSets.{LinkedSet, wasm_of, definition}
use Rattle.spec_loading.specs.spec_linking.Slots.{memory_base, table_base, as_number, base_as, base_value, imported_base}
use Rattle.spec_loading.specs.spec_linking.Links.{Finding, unless, first_fault, fault_as, import_fault, data_cell_fault, slot_cell_fault}
use Rattle.spec_loading.proofs.of_spec_binary.OneType.{one_type}
use Rattle.spec_loading.proofs.of_spec_linking.LinkedFacts.{or_none, holds_so}
use Rattle.dyl_slots.specs.declared.placings.Bases.{Bases}
use Rattle.dyl_slots.specs.Placings.{base_number, number_as, base_numbers}

-- ---- what stands for a function is a function

abbrev pub IsFitting : Import → ImportUse → Type 0
IsFitting i (EnvFunction t) = i.desc ≡ imported.Func t
IsFitting i (ModuleFunction t) = i.desc ≡ imported.Func t
IsFitting i _ = Unit {0}

function_fits : (i : Import) (of_env : Bool) (d : ImportDesc) → i.desc ≡ d → IsFitting i (function_use of_env d)
function_fits i true (imported.Func t) q = q
function_fits i false (imported.Func t) q = q
function_fits i of_env (imported.Table ty) q = tt
function_fits i of_env (imported.Space limits) q = tt
function_fits i of_env (imported.Global ty) q = tt

chosen : (i : Import) (b : Bool) (u v : ImportUse) → IsFitting i u → IsFitting i v → IsFitting i (if b then u else v)
chosen i true u v h k = h
chosen i false u v h k = k

pub use_fits : (i : Import) → IsFitting i (use_of i)
use_fits i =
    chosen i (is_import env_name (codes "memory") i) SharedMemory _ tt (
    chosen i (is_import env_name (codes "__indirect_function_table") i) SharedTable _ tt (
    chosen i (is_import env_name (codes "__stack_pointer") i) StackPointer _ tt (
    chosen i (is_import env_name (codes "__memory_base") i) MemoryBase _ tt (
    chosen i (is_import env_name (codes "__table_base") i) TableBase _ tt (
    chosen i (bytes_eq i.module got_mem_name) DataCell _ tt (
    chosen i (bytes_eq i.module got_func_name) SlotCell _ tt (function_fits i (bytes_eq i.module env_name) i.desc refl)))))))

-- ---- an imported global by its number

pub record NamedGlobal (find : Import → Finding) (is : List Import) (g : ℕ) (ty : GlobalType) : Type 0 where
  pub import : Import
  pub found : slice_get (importing globals_in is) g ≡ Some import
  pub desc : import.desc ≡ imported.Global ty
  pub none : find import ≡ None

pub named_global : (find : Import → Finding) (is : List Import) (g : ℕ) (ty : GlobalType) → first_fault find is ≡ None → slice_get (imports_of globals_in is) g ≡ Some ty → NamedGlobal find is g ty
named_global find [] g ty e h = absurd cc
named_global find (i ∷ is) g ty e h = go i.desc refl g (λ k q. named_global find is k ty both.1 q) h
  where
    both : (find i ≡ None) × (first_fault find is ≡ None)
    both = or_none (find i) (first_fault find is) e

    at : {d : ImportDesc} → i.desc ≡ d → (n : ℕ) → slice_get (importing globals_in (i ∷ is)) n ≡ slice_get (map (λ x. i) (globals_in d) ++ importing globals_in is) n
    at q n = ap (λ (k : ImportDesc). slice_get (map (λ x. i) (globals_in k) ++ importing globals_in is) n) q

    later : (k n : ℕ) (d : ImportDesc) → i.desc ≡ d → slice_get (map (λ x. i) (globals_in d) ++ importing globals_in is) n ≡ slice_get (importing globals_in is) k → NamedGlobal find is k ty → NamedGlobal find (i ∷ is) n ty
    later k n d q same r = record { import = r.import; found = at q n ∙ same ∙ r.found; desc = r.desc; none = r.none }

    go : (d : ImportDesc) → i.desc ≡ d → (n : ℕ) → ((k : ℕ) → slice_get (imports_of globals_in is) k ≡ Some ty → NamedGlobal find is k ty) → slice_get (globals_in d ++ imports_of globals_in is) n ≡ Some ty
        → NamedGlobal find (i ∷ is) n ty
    go (imported.Global t) q zero ih p =
        let same : t ≡ ty = cc in
        record { import = i; found = at q zero; desc = q ∙ ap imported.Global same; none = both.0 }
    go (imported.Global t) q (suc n) ih p = later n (suc n) (imported.Global t) q refl (ih n p)
    go (imported.Func t) q n ih p = later n n (imported.Func t) q refl (ih n p)
    go (imported.Table t) q n ih p = later n n (imported.Table t) q refl (ih n p)
    go (imported.Space t) q n ih p = later n n (imported.Space t) q refl (ih n p)

-- ---- what a global is, whose import has no fault

not_so : (b : Bool) (fault : LinkFault) → b ≡ false → unless b fault ≡ None → ⊥
not_so true fault e h = absurd cc
not_so false fault e h = absurd cc

word_of : (may : Bool) (d : ImportDesc) (ty : GlobalType) → d ≡ imported.Global ty → is_i32_global may d ≡ true → ty.value ≡ I32
word_of may d ty q e =
    let here : is_i32_global may (imported.Global ty) ≡ true = ap (is_i32_global may) (sym q) ∙ e in
    one_type ty.value I32 (and_parts (same_type ty.value I32) _ here).0

not_both : (d : ImportDesc) (ty : GlobalType) (t : ℕ) → d ≡ imported.Global ty → d ≡ imported.Func t → ⊥
not_both d ty t e h = cc

abbrev IsBase : ImportUse → Type 0
IsBase u = (u ≡ MemoryBase) ⊎ (u ≡ TableBase)

settable : (d : ImportDesc) (ty : GlobalType) → d ≡ imported.Global ty → is_i32_global true d ≡ true → ty.mutable ≡ false → ⊥
settable d ty q e fixed =
    let here : is_i32_global true (imported.Global ty) ≡ true = ap (is_i32_global true) (sym q) ∙ e in
    let last = (and_parts (same_type ty.value I32) _ here).1 in
    let h = rw fixed at last in cc

module _ (L : LinkedSet) (m : ℕ) (wasm : Module) where
  is_word : (i : Import) (ty : GlobalType) → i.desc ≡ imported.Global ty → (u : ImportUse) → IsFitting i u → fault_as L m wasm i u ≡ None → ty.value ≡ I32
  is_word i ty d SharedMemory fits none = absurd (not_so (is_memory i.desc) (IllTyped m kind.Other i.field) (ap is_memory d) none)
  is_word i ty d SharedTable fits none = absurd (not_so (is_function_table i.desc) (IllTyped m kind.Other i.field) (ap is_function_table d) none)
  is_word i ty d StackPointer fits none = word_of true i.desc ty d (holds_so (is_i32_global true i.desc) (IllTyped m kind.Other i.field) none)
  is_word i ty d MemoryBase fits none = word_of false i.desc ty d (holds_so (is_i32_global false i.desc) (IllTyped m kind.Other i.field) none)
  is_word i ty d TableBase fits none = word_of false i.desc ty d (holds_so (is_i32_global false i.desc) (IllTyped m kind.Other i.field) none)
  is_word i ty d DataCell fits none =
      let first = or_none (unless (is_i32_global true i.desc) (IllTyped m kind.Mem i.field)) (data_cell_fault m i.field (definition L m kind.Mem i.field)) none in
      word_of true i.desc ty d (holds_so (is_i32_global true i.desc) (IllTyped m kind.Mem i.field) first.0)
  is_word i ty d SlotCell fits none =
      let first = or_none (unless (is_i32_global true i.desc) (IllTyped m kind.Func i.field)) (slot_cell_fault m i.field (definition L m kind.Func i.field)) none in
      word_of true i.desc ty d (holds_so (is_i32_global true i.desc) (IllTyped m kind.Func i.field) first.0)
  is_word i ty d (EnvFunction t) fits none = absurd (not_both i.desc ty t d fits)
  is_word i ty d (ModuleFunction t) fits none = absurd (not_both i.desc ty t d fits)
  is_word i ty d OtherUse fits none = absurd cc

  is_base : (i : Import) (ty : GlobalType) → i.desc ≡ imported.Global ty → ty.mutable ≡ false → (u : ImportUse) → IsFitting i u → fault_as L m wasm i u ≡ None → IsBase u
  is_base i ty d fixed SharedMemory fits none = absurd (not_so (is_memory i.desc) (IllTyped m kind.Other i.field) (ap is_memory d) none)
  is_base i ty d fixed SharedTable fits none = absurd (not_so (is_function_table i.desc) (IllTyped m kind.Other i.field) (ap is_function_table d) none)
  is_base i ty d fixed StackPointer fits none = absurd (settable i.desc ty d (holds_so (is_i32_global true i.desc) (IllTyped m kind.Other i.field) none) fixed)
  is_base i ty d fixed MemoryBase fits none = inl refl
  is_base i ty d fixed TableBase fits none = inr refl
  is_base i ty d fixed DataCell fits none =
      let first = or_none (unless (is_i32_global true i.desc) (IllTyped m kind.Mem i.field)) (data_cell_fault m i.field (definition L m kind.Mem i.field)) none in
      absurd (settable i.desc ty d (holds_so (is_i32_global true i.desc) (IllTyped m kind.Mem i.field) first.0) fixed)
  is_base i ty d fixed SlotCell fits none =
      let first = or_none (unless (is_i32_global true i.desc) (IllTyped m kind.Func i.field)) (slot_cell_fault m i.field (definition L m kind.Func i.field)) none in
      absurd (settable i.desc ty d (holds_so (is_i32_global true i.desc) (IllTyped m kind.Func i.field) first.0) fixed)
  is_base i ty d fixed (EnvFunction t) fits none = absurd (not_both i.desc ty t d fits)
  is_base i ty d fixed (ModuleFunction t) fits none = absurd (not_both i.desc ty t d fits)
  is_base i ty d fixed OtherUse fits none = absurd cc

-- ---- numbers of globals

pub numbers_are : (bases : Bases) (is : List Import) → base_numbers bases is ≡ map (λ i. base_number bases (use_of i)) (importing globals_in is)
numbers_are bases [] = refl
numbers_are bases (i ∷ is) =
    ap (λ ns. number_as bases i i.desc ++ ns) (numbers_are bases is)
    ∙ ap (λ ns. ns ++ map (λ j. base_number bases (use_of j)) (importing globals_in is)) (sym (map-map (λ j. base_number bases (use_of j)) (λ x. i) (globals_in i.desc)))
    ∙ sym (map-append (λ j. base_number bases (use_of j)) (map (λ x. i) (globals_in i.desc)) (importing globals_in is))

pub number_at : (bases : Bases) (is : List Import) (g : ℕ) (i : Import) → slice_get (importing globals_in is) g ≡ Some i → slice_get (base_numbers bases is) g ≡ Some (base_number bases (use_of i))
number_at bases is g i e =
    ap (λ ns. slice_get ns g) (numbers_are bases is)
    ∙ slice_get-map (λ j. base_number bases (use_of j)) (importing globals_in is) g
    ∙ ap (option_map (λ j. base_number bases (use_of j))) e

module _ (L : LinkedSet) (m : ℕ) (wasm : Module) (here : wasm_of L m ≡ Some wasm) (none : first_fault (import_fault L m wasm) wasm.imports ≡ None) (bases : Bases)
    (memory : memory_base L m ≡ Some bases.memory) (table : table_base L m ≡ Some bases.table) where
  pub global_is_word : (g : ℕ) (ty : GlobalType) → slice_get (imports_of globals_in wasm.imports) g ≡ Some ty → ty.value ≡ I32
  global_is_word g ty e =
      let r = named_global (import_fault L m wasm) wasm.imports g ty none e in
      is_word L m wasm r.import ty r.desc (use_of r.import) (use_fits r.import) r.none

  base_same : (i : Import) (u : ImportUse) → IsBase u → base_as L m i u ≡ Some (Num (base_number bases u))
  base_same i u (inl q) = rw q (ap as_number memory)
  base_same i u (inr q) = rw q (ap as_number table)

  pub global_same : (g : ℕ) (ty : GlobalType) → slice_get (imports_of globals_in wasm.imports) g ≡ Some ty → ty.mutable ≡ false → imported_base L m g ≡ numbered_globals (base_numbers bases wasm.imports) g
  global_same g ty e fixed =
      let r = named_global (import_fault L m wasm) wasm.imports g ty none e in
      let based = is_base L m wasm r.import ty r.desc fixed (use_of r.import) (use_fits r.import) r.none in
      ap (λ (o : Option Module). o >>= λ w. slice_get (importing globals_in w.imports) g >>= base_value L m) here
      ∙ ap (λ (o : Option Import). o >>= base_value L m) r.found
      ∙ base_same r.import (use_of r.import) based
      ∙ ap (λ (o : Option ℕ). o >>= λ n. Some (Num n)) (sym (number_at bases wasm.imports g r.import r.found))
