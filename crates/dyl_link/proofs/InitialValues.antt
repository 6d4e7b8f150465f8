-- Each imported global of a member of a set that links has an initial value.
use Rattle.std.proofs.Common.{◌≡◌, ℕ, zero, suc, ◌+◌, ◌%◌, ◌^◌, ◌<◌, Bool, true, false, List, [], ◌∷◌, ◌++◌, length, map, slice_get, Option, Some, None, refl, sym, ap, ◌∙◌, subst, arith, if◌then◌else◌}
use Rattle.std.specs.Prelude.{bytes_eq, codes, is_some, unwrap_or}
use Rattle.std.specs.List.{list_any}
use Rattle.std.proofs.lemmas.List.{length-map}
use Rattle.std.proofs.lemmas.Option.{slice_get_within}
use Rattle.std.proofs.lemmas.Slice.Eq.{bytes_eq-Decides}
use Rattle.wasm_form.specs.declared.types.FuncType.{FuncType}
use Rattle.wasm_form.specs.declared.types.GlobalType.{GlobalType}
use Rattle.wasm_form.specs.declared.module.ImportDesc.{ImportDesc}
use Rattle.wasm_form.specs.declared.module.ImportDesc.TheVariants as imported
use Rattle.wasm_form.specs.declared.module.Import.{Import}
use Rattle.wasm_form.specs.declared.runtime.Ref.{Ref}
use Rattle.wasm_form.specs.declared.runtime.Ref.TheVariants.{Host}
use Rattle.spec_loading.specs.spec_binary.Options.{◌>>=◌}
use Rattle.spec_loading.specs.spec_binary.IndexSpaces.{imports_of, globals_in}
use Rattle.spec_loading.specs.spec_runtime.Names.{HostName, host_typed}
use Rattle.spec_loading.specs.spec_linking.declared.fault.Kind.{Kind}
use Rattle.spec_loading.specs.spec_linking.declared.fault.Kind.TheVariants as kind
use Rattle.spec_loading.specs.spec_linking.declared.fault.LinkFault.TheVariants.{IllTyped}
use Rattle.spec_loading.specs.spec_linking.Sets.{Member}
use Rattle.spec_loading.specs.spec_linking.Orders.{scope}
use Rattle.spec_loading.specs.spec_linking.Plans.{region_of, regions_of}
use Rattle.spec_loading.specs.spec_linking.Definitions.{Symbol, FunctionSymbol, DataSymbol, symbol_of, imported_globals, Definition, LoaderFunction, HeapBase, HeapEnd, MemberFunction, MemberData, HostFunction, WeakSymbol, Undefined, or_defined, loader_names, named_in, defined_by, member_definition, searched, found, where_so, env_name}
use Rattle.spec_loading.specs.spec_linking.Imports.{ImportUse, SharedMemory, SharedTable, StackPointer, MemoryBase, TableBase, DataCell, SlotCell, EnvFunction, ModuleFunction, OtherUse, use_of, is_memory, is_function_table, is_i32_global, importing}
use Rattle.spec_loading.specs.spec_linking.LinkedSets.{LinkedSet, is_host_for, weak_for, definition, host_named, host_defined, host_of_import, host_as, is_named, host_ref}
use Rattle.spec_loading.specs.spec_linking.Slots.{linked_plan, table_base, slot_of, outside_ref, outside_as, outside_of_import, cell_number, initial_as, initial_number, imported_number}
use Rattle.spec_loading.specs.spec_linking.Links.{unless, fault_as, data_cell_fault, slot_cell_fault, Links}
use Rattle.spec_loading.proofs.of_spec_linking.LinkedFacts.{or_none, holds_so, linked_member}
use Rattle.spec_loading.proofs.of_spec_linking.Placing.{bases_length}
use Rattle.spec_loading.proofs.of_spec_safety.Lookups.{got}
use Rattle.dyl_link.specs.Sets.{imported_globals_in}
use Rattle.dyl_slots.proofs.Globals.{IsFitting, use_fits}
use Rattle.spec_loading.proofs.of_spec_linking.DefinedSlots.{function_known, slot_there, memory_base_there}
use Rattle.dyl_link.proofs.OutsideSlots.{loader_slot_there, host_slot_there, host_there}

-- ---- what a name is defined as is there

-- A member's function or data is what a member defines the name as, and a host function is one that is declared.
abbrev IsKnown : LinkedSet → Kind → List ℕ → Definition → Type 0
IsKnown L of_kind name (MemberFunction k g) = (x : Member) × (slice_get L.set.members k ≡ Some x) × (symbol_of x.wasm name ≡ Some (FunctionSymbol g))
IsKnown L of_kind name (MemberData k place) = (x : Member) × (slice_get L.set.members k ≡ Some x)
IsKnown L of_kind name HostFunction = is_host_for L.names of_kind name ≡ true
IsKnown L of_kind name _ = Unit {0}

module _ (L : LinkedSet) (of_kind : Kind) (name : List ℕ) where
  abbrev Known : Definition → Type 0
  Known d = IsKnown L of_kind name d

  either_known : (a b : Definition) → Known a → Known b → Known (or_defined a b)
  either_known (LoaderFunction call) b h k = tt
  either_known HeapBase b h k = tt
  either_known HeapEnd b h k = tt
  either_known (MemberFunction m f) b h k = h
  either_known (MemberData m place) b h k = h
  either_known HostFunction b h k = h
  either_known WeakSymbol b h k = tt
  either_known Undefined b h k = k

  chosen_known : (choice : Bool) (a b : Definition) → Known a → Known b → Known (if choice then a else b)
  chosen_known true a b h k = h
  chosen_known false a b h k = k

  loader_known : Known (named_in loader_names name)
  loader_known =
      chosen_known (bytes_eq name (codes "dlopen")) _ _ tt (
      chosen_known (bytes_eq name (codes "dlsym")) _ _ tt (
      chosen_known (bytes_eq name (codes "dlclose")) _ _ tt (
      chosen_known (bytes_eq name (codes "dlerror")) _ _ tt (
      chosen_known (bytes_eq name (codes "__heap_base")) _ _ tt (
      chosen_known (bytes_eq name (codes "__heap_end")) _ _ tt tt)))))

  symbol_known : (m : ℕ) (x : Member) → slice_get L.set.members m ≡ Some x → (o : Option Symbol) → symbol_of x.wasm name ≡ o
      → Known (defined_by m o)
  symbol_known m x at None e = tt
  symbol_known m x at (Some (FunctionSymbol f)) e = (x, at, e)
  symbol_known m x at (Some (DataSymbol place)) e = (x, at)

  member_known : (m : ℕ) → Known (member_definition L.set m name)
  member_known m = go (slice_get L.set.members m) refl
    where
      go : (o : Option Member) → slice_get L.set.members m ≡ o → Known (defined_by m (o >>= λ member. symbol_of member.wasm name))
      go None e = tt
      go (Some x) e = symbol_known m x e (symbol_of x.wasm name) refl

  searched_known : (ms : List ℕ) → Known (searched L.set ms name)
  searched_known [] = tt
  searched_known (m ∷ ms) = either_known (member_definition L.set m name) (searched L.set ms name) (member_known m) (searched_known ms)

  host_known : (b : Bool) → is_host_for L.names of_kind name ≡ b → Known (where_so b HostFunction)
  host_known true e = e
  host_known false e = tt

  weak_known : (b : Bool) → Known (where_so b WeakSymbol)
  weak_known true = tt
  weak_known false = tt

  definition_known : (m : ℕ) → Known (definition L m of_kind name)
  definition_known m =
      let declared = where_so (is_host_for L.names of_kind name) HostFunction in
      let weak = where_so (weak_for L m name) WeakSymbol in
      either_known (found L.set m name) (or_defined declared weak)
      (either_known (named_in loader_names name) (searched L.set (scope L.set m) name) loader_known (searched_known (scope L.set m)))
      (either_known declared weak (host_known (is_host_for L.names of_kind name) refl) (weak_known (weak_for L m name)))

-- ---- bases

abbrev pub HasValue : Option ℕ → Type 0
HasValue o = (n : ℕ) × (o ≡ Some n)

table_bases_there : (L : LinkedSet) (m : ℕ) → m < length L.set.members → HasValue (table_base L m)
table_bases_there L m lt =
    let many = bases_length (λ r. r.table_size) (λ r. r.table_align) 1 (regions_of L.set.members) in
    let regions = length-map L.set.members (λ (x : Member). region_of x.dylink) in
    got (linked_plan L).table_bases m (omega arith)

-- ---- an import of a member

module _ (L : LinkedSet) (m j : ℕ) (x : Member) (i : Import) (at : slice_get L.set.members m ≡ Some x) (imported_at : slice_get x.wasm.imports j ≡ Some i) where
  inside : m < length L.set.members
  inside = slice_get_within L.set.members m x at

  data_there : use_of i ≡ DataCell → (d : Definition) → IsKnown L kind.Mem i.field d → data_cell_fault m i.field d ≡ None
      → HasValue (cell_number L i.field d)
  data_there u (LoaderFunction call) known none = absurd cc
  data_there u HeapBase known none = (_, refl)
  data_there u HeapEnd known none = (_, refl)
  data_there u (MemberFunction k g) known none = absurd cc
  data_there u (MemberData k place) known none =
      let base = memory_base_there L k (slice_get_within L.set.members k known.0 known.1) in
      ((base.0 + place) % 2 ^ 32, ap (λ (o : Option ℕ). o >>= λ b. Some ((b + place) % 2 ^ 32)) base.1)
  data_there u HostFunction known none = absurd cc
  data_there u WeakSymbol known none = (0, refl)
  data_there u Undefined known none = absurd cc

  outside_is : use_of i ≡ SlotCell → (d : Definition) → definition L m kind.Func i.field ≡ d → outside_of_import L m i ≡ outside_ref L i.field d
  outside_is u d is = ap (outside_as L m i) u ∙ ap (outside_ref L i.field) is

  named_itself : (ty : FuncType) → list_any (is_named env_name i.field) (host_named env_name i.field (Some ty)) ≡ true
  named_itself ty = rw ((bytes_eq-Decides env_name env_name).1 refl, (bytes_eq-Decides i.field i.field).1 refl) refl

  host_typed_there : (o : Option FuncType) → is_some o ≡ true → (ty : FuncType) × (o ≡ Some ty)
  host_typed_there None e = absurd cc
  host_typed_there (Some ty) e = (ty, refl)

  slot_through : (o : Option Ref) (r : Ref) (k : ℕ) → o ≡ Some r → slot_of L r ≡ Some k → (o >>= slot_of L) ≡ Some k
  slot_through o r k is slot = ap (λ (p : Option Ref). p >>= slot_of L) is ∙ slot

  slot_cell_there : use_of i ≡ SlotCell → (d : Definition) → definition L m kind.Func i.field ≡ d → IsKnown L kind.Func i.field d
      → slot_cell_fault m i.field d ≡ None → HasValue (cell_number L i.field d)
  slot_cell_there u (LoaderFunction call) is known none = loader_slot_there L m j x i at imported_at call (outside_is u (LoaderFunction call) is)
  slot_cell_there u HeapBase is known none = absurd cc
  slot_cell_there u HeapEnd is known none = absurd cc
  slot_cell_there u (MemberFunction k g) is known none =
      let there = known.1 in
      slot_there L k g known.0.wasm (slice_get_within L.set.members k known.0 there) (ap (λ (o : Option Member). o >>= λ y. Some y.wasm) there) (function_known known.0.wasm i.field g known.2)
  slot_cell_there u (MemberData k place) is known none = absurd cc
  slot_cell_there u HostFunction is known none =
      let ty = host_typed_there (host_typed L.names env_name i.field) known in
      let hosts : List HostName = host_named env_name i.field (host_typed L.names env_name i.field) in
      let as_cell : host_of_import L m x.wasm i ≡ host_as L m x.wasm i SlotCell = ap (host_as L m x.wasm i) u in
      let defined : host_as L m x.wasm i SlotCell ≡ hosts = ap (λ (d : Definition). host_defined d hosts) is in
      let typed : hosts ≡ host_named env_name i.field (Some ty.0) = ap (host_named env_name i.field) ty.1 in
      let gives : host_of_import L m x.wasm i ≡ host_named env_name i.field (Some ty.0) = as_cell ∙ defined ∙ typed in
      let named : list_any (is_named env_name i.field) (host_of_import L m x.wasm i) ≡ true =
      subst (λ (hs : List HostName). list_any (is_named env_name i.field) hs ≡ true) (sym gives) (named_itself ty.0) in
      let n = host_there L m j x i at imported_at env_name i.field named in
      let ref : host_ref L env_name i.field ≡ Some (Host n.0) = ap (λ (o : Option ℕ). o >>= λ k. Some (Host k)) n.1 in
      let slot = host_slot_there L m j x i at imported_at n.0 (outside_is u HostFunction is ∙ ref) in
      (slot.0, slot_through (host_ref L env_name i.field) (Host n.0) slot.0 ref slot.1)
  slot_cell_there u WeakSymbol is known none = (0, refl)
  slot_cell_there u Undefined is known none = absurd cc

  value_as : (ty : GlobalType) → i.desc ≡ imported.Global ty → (u : ImportUse) → use_of i ≡ u → IsFitting i u → fault_as L m x.wasm i u ≡ None
      → HasValue (initial_as L m i u)
  value_as ty d SharedMemory is fits none =
      let so = holds_so (is_memory i.desc) (IllTyped m kind.Other i.field) none in
      let not_so : is_memory i.desc ≡ false = ap is_memory d in
      absurd cc
  value_as ty d SharedTable is fits none =
      let so = holds_so (is_function_table i.desc) (IllTyped m kind.Other i.field) none in
      let not_so : is_function_table i.desc ≡ false = ap is_function_table d in
      absurd cc
  value_as ty d StackPointer is fits none = (_, refl)
  value_as ty d MemoryBase is fits none = memory_base_there L m inside
  value_as ty d TableBase is fits none = table_bases_there L m inside
  value_as ty d DataCell is fits none =
      let rest = (or_none (unless (is_i32_global true i.desc) (IllTyped m kind.Mem i.field)) (data_cell_fault m i.field (definition L m kind.Mem i.field)) none).1 in
      data_there is (definition L m kind.Mem i.field) (definition_known L kind.Mem i.field m) rest
  value_as ty d SlotCell is fits none =
      let rest = (or_none (unless (is_i32_global true i.desc) (IllTyped m kind.Func i.field)) (slot_cell_fault m i.field (definition L m kind.Func i.field)) none).1 in
      slot_cell_there is (definition L m kind.Func i.field) refl (definition_known L kind.Func i.field m) rest
  value_as ty d (EnvFunction t) is fits none = absurd (let other : i.desc ≡ imported.Func t = fits in cc)
  value_as ty d (ModuleFunction t) is fits none = absurd (let other : i.desc ≡ imported.Func t = fits in cc)
  value_as ty d OtherUse is fits none = absurd cc

-- ---- imported globals by their numbers

abbrev FoundGlobal : (Import → Type 0) → List Import → ℕ → Type 0
FoundGlobal P is g = (i : Import) × (slice_get (importing globals_in is) g ≡ Some i) × P i

each_global : (P : Import → Type 0) (is : List Import)
    → ((j : ℕ) (i : Import) → slice_get is j ≡ Some i → (ty : GlobalType) → i.desc ≡ imported.Global ty → P i)
    → (g : ℕ) → g < length (imports_of globals_in is) → FoundGlobal P is g
each_global P [] holds g lt = absurd (omega arith)
each_global P (x ∷ is) holds g lt = go x.desc refl g lt (λ k less. each_global P is (λ j i e. holds (suc j) i e) k less)
  where
    go : (d : ImportDesc) → x.desc ≡ d → (n : ℕ) → n < length (globals_in d ++ imports_of globals_in is)
        → ((k : ℕ) → k < length (imports_of globals_in is) → FoundGlobal P is k)
        → (i : Import) × (slice_get (map (λ y. x) (globals_in d) ++ importing globals_in is) n ≡ Some i) × P i
    go (imported.Global ty) q zero less later = (x, refl, holds 0 x refl ty q)
    go (imported.Global ty) q (suc n) less later = later n (omega arith)
    go (imported.Func t) q n less later = later n less
    go (imported.Table ty) q n less later = later n less
    go (imported.Space limits) q n less later = later n less

pub value_there : (L : LinkedSet) → Links L → (m g : ℕ) (x : Member) → slice_get L.set.members m ≡ Some x → g < imported_globals x.wasm
    → HasValue (imported_number L m g)
value_there L links m g x at less =
    let of_member = linked_member L m x links at in
    let global = each_global (λ i. HasValue (initial_number L m i)) x.wasm.imports
    (λ j i imported_at ty d. value_as L m j x i at imported_at ty d (use_of i) refl (use_fits i) (of_member.imports j i imported_at)) g less in (
      global.2.0,
      ap (λ (o : Option Member). (o >>= λ y. Some y.wasm) >>= λ wasm. slice_get (importing globals_in wasm.imports) g >>= initial_number L m) at
          ∙ ap (λ (o : Option Import). o >>= initial_number L m) global.1
          ∙ global.2.1,
    )

-- the same by the number of a member
pub cell_there : (L : LinkedSet) → Links L → (m g : ℕ) → g < imported_globals_in L m → HasValue (imported_number L m g)
cell_there L links m g less = go (slice_get L.set.members m) refl less
  where
    go : (o : Option Member) → slice_get L.set.members m ≡ o → g < unwrap_or ((o >>= λ x. Some x.wasm) >>= λ wasm. Some (imported_globals wasm)) 0
        → HasValue (imported_number L m g)
    go None e lt = absurd (omega arith)
    go (Some x) e lt = value_there L links m g x e lt
