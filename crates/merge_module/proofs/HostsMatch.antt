-- Each host function of a linked set is declared with its type, so the merged module's imports are met.
use Rattle.std.proofs.Common.{◌≡◌, ℕ, suc, ◌+◌, Bool, true, false, List, [], ◌∷◌, ◌++◌, slice_get, Option, Some, None, refl, subst, arith, if◌then◌else◌}
use Rattle.std.specs.Prelude.{Ok}
use Rattle.std.specs.List.{All, flat_map, list_any}
use Rattle.std.specs.Map.{lookup}
use Rattle.std.specs.Str.{bytes_eq}
use Rattle.std.proofs.lemmas.List.Elements.{All-nil, All-cons, All-head, All-tail, All-append}
use Rattle.spec_reading.specs.wasm_form.declared.types.FuncType.{FuncType}
use Rattle.spec_reading.specs.wasm_form.declared.module.Import.{Import}
use Rattle.spec_reading.specs.wasm_form.declared.module.Module.{Module}
use Rattle.spec_loading.specs.spec_runtime.Names.{HostName, HostMatch, Unknown, Fits, OtherType, host_module, host_match, host_typed}
use Rattle.spec_loading.specs.spec_execution.OneModule.{imports_met}
use Rattle.spec_loading.specs.spec_linking.declared.fault.Kind.TheVariants as kind
use Rattle.spec_loading.specs.spec_linking.declared.fault.LinkFault.TheVariants.{IllTyped}
use Rattle.spec_loading.specs.spec_linking.Sets.{Member}
use Rattle.spec_loading.specs.spec_linking.Definitions.{Definition, LoaderFunction, HeapBase, HeapEnd, MemberFunction, MemberData, HostFunction, WeakSymbol, Undefined, env_name}
use Rattle.spec_loading.specs.spec_linking.Imports.{ImportUse, SharedMemory, SharedTable, StackPointer, MemoryBase, TableBase, DataCell, SlotCell, EnvFunction, ModuleFunction, OtherUse, use_of}
use Rattle.spec_loading.specs.spec_linking.LinkedSets.{LinkedSet, definition, is_declared, host_named, where_declared, host_defined, host_as, host_of_import, hosts_from, is_same_name, first_names, hosts_of}
use Rattle.spec_loading.specs.spec_linking.Links.{where_fits, covers, has_first_type, is_host_type, function_fault, match_fault, fault_as, Links}
use Rattle.spec_loading.proofs.of_spec_linking.LinkedFacts.{holds_so, IsLinkedMember, linked_member}
use Rattle.merge_module.specs.MergedModule.{host_imports}
use Rattle.merge_module.proofs.AddedTypes.{function_itself}
use Rattle.merge_module.proofs.HostImports.{HasTypes, first_type, later_types}

-- ---- what is declared

fits_only : (first : Bool) (m : HostMatch) → where_fits first m ≡ true → m ≡ Fits
fits_only first Unknown e = absurd cc
fits_only first Fits e = refl
fits_only first OtherType e = absurd cc

matched_only : (m : ℕ) (name : List ℕ) (first : Bool) (found : HostMatch) → match_fault m name first found ≡ None → found ≡ Fits
matched_only m name first Unknown e = absurd cc
matched_only m name first Fits e = refl
matched_only m name first OtherType e = absurd cc

module _ (L : LinkedSet) where
  abbrev pub IsMet : HostName → Type 0
  IsMet h = host_match L.names h.module_name h.name h.ty ≡ Fits

  typed_met : (from name : List ℕ) (ty : FuncType) → host_typed L.names from name ≡ Some ty → host_match L.names from name ty ≡ Fits
  typed_met from name ty e =
      let found : lookup (bytes_eq name) (host_module L.names from).functions ≡ Some ty = e in
      rw (found, function_itself ty) refl

  named_met : (from name : List ℕ) (o : Option FuncType) → ((ty : FuncType) → o ≡ Some ty → host_match L.names from name ty ≡ Fits) → All IsMet (host_named from name o)
  named_met from name None met = All-nil IsMet
  named_met from name (Some ty) met = All-cons IsMet (record { module_name = from; name = name; ty = ty }) [] (met ty refl) (All-nil IsMet)

  covered_met : (from name : List ℕ) (o : Option FuncType) → covers L.names from name o ≡ Fits → (ty : FuncType) → o ≡ Some ty → host_match L.names from name ty ≡ Fits
  covered_met from name None e ty q = absurd cc
  covered_met from name (Some u) e ty q = (let same : u ≡ ty = cc in subst (λ t. host_match L.names from name t ≡ Fits) same e)

  function_met : (m : ℕ) (name : List ℕ) (wanted : Option FuncType) (d : Definition) → function_fault L m name wanted d ≡ None
      → All IsMet (host_defined d (host_named env_name name wanted))
  function_met m name wanted HostFunction none =
      let so = holds_so (is_host_type L env_name name wanted) (IllTyped m kind.Function name) none in
      named_met env_name name wanted (covered_met env_name name wanted (fits_only (has_first_type L env_name name wanted) (covers L.names env_name name wanted) so))
  function_met m name wanted (LoaderFunction call) none = All-nil IsMet
  function_met m name wanted HeapBase none = All-nil IsMet
  function_met m name wanted HeapEnd none = All-nil IsMet
  function_met m name wanted (MemberFunction k g) none = All-nil IsMet
  function_met m name wanted (MemberData k place) none = All-nil IsMet
  function_met m name wanted WeakSymbol none = All-nil IsMet
  function_met m name wanted Undefined none = All-nil IsMet

  declared_met : (b : Bool) (hs : List HostName) → All IsMet hs → All IsMet (where_declared b hs)
  declared_met true hs all = all
  declared_met false hs all = All-nil IsMet

  slot_met : (d : Definition) (hs : List HostName) → All IsMet hs → All IsMet (host_defined d hs)
  slot_met HostFunction hs all = all
  slot_met (LoaderFunction call) hs all = All-nil IsMet
  slot_met HeapBase hs all = All-nil IsMet
  slot_met HeapEnd hs all = All-nil IsMet
  slot_met (MemberFunction k g) hs all = All-nil IsMet
  slot_met (MemberData k place) hs all = All-nil IsMet
  slot_met WeakSymbol hs all = All-nil IsMet
  slot_met Undefined hs all = All-nil IsMet

  import_met : (m : ℕ) (wasm : Module) (i : Import) (u : ImportUse) → fault_as L m wasm i u ≡ None → All IsMet (host_as L m wasm i u)
  import_met m wasm i (EnvFunction t) none = function_met m i.field (slice_get wasm.types t) (definition L m kind.Function i.field) none
  import_met m wasm i (ModuleFunction t) none =
      let wanted = slice_get wasm.types t in
      let fits = matched_only m i.field (has_first_type L i.module i.field wanted) (covers L.names i.module i.field wanted) none in
      declared_met (is_declared L.names i.module i.field) (host_named i.module i.field wanted) (named_met i.module i.field wanted (covered_met i.module i.field wanted fits))
  import_met m wasm i SlotCell none =
      slot_met (definition L m kind.Func i.field) (host_named env_name i.field (host_typed L.names env_name i.field))
      (named_met env_name i.field (host_typed L.names env_name i.field) (typed_met env_name i.field))
  import_met m wasm i SharedMemory none = All-nil IsMet
  import_met m wasm i SharedTable none = All-nil IsMet
  import_met m wasm i StackPointer none = All-nil IsMet
  import_met m wasm i MemoryBase none = All-nil IsMet
  import_met m wasm i TableBase none = All-nil IsMet
  import_met m wasm i DataCell none = All-nil IsMet
  import_met m wasm i OtherUse none = All-nil IsMet

  members_imports : (m : ℕ) (wasm : Module) (is : List Import) → ((j : ℕ) (i : Import) → slice_get is j ≡ Some i → fault_as L m wasm i (use_of i) ≡ None)
      → All IsMet (flat_map (host_of_import L m wasm) is)
  members_imports m wasm [] none = All-nil IsMet
  members_imports m wasm (i ∷ is) none =
      All-append IsMet (host_of_import L m wasm i) (flat_map (host_of_import L m wasm) is) (import_met m wasm i (use_of i) (none 0 i refl))
      (members_imports m wasm is (λ j k at. none (suc j) k at))

  all_met : (k : ℕ) (xs : List Member) → ((i : ℕ) (y : Member) → slice_get xs i ≡ Some y → IsLinkedMember L (k + i) y) → All IsMet (hosts_from L k xs)
  all_met k [] linked = All-nil IsMet
  all_met k (y ∷ ys) linked =
      let place : k + 0 ≡ k = omega arith in
      let first : IsLinkedMember L k y = subst (λ m. IsLinkedMember L m y) place (linked 0 y refl) in
      All-append IsMet (flat_map (host_of_import L k y.wasm) y.wasm.imports) (hosts_from L (k + 1) ys)
      (members_imports k y.wasm y.wasm.imports first.imports)
      (all_met (k + 1) ys (λ i z at. (let later : k + suc i ≡ k + 1 + i = omega arith in subst (λ m. IsLinkedMember L m z) later (linked (suc i) z at))))

  first_met : (known hs : List HostName) → All IsMet hs → All IsMet (first_names known hs)
  first_met known [] all = All-nil IsMet
  first_met known (h ∷ hs) all =
      go (list_any (is_same_name h) known) (first_met known hs (All-tail IsMet h hs all)) (first_met (known ++ h ∷ []) hs (All-tail IsMet h hs all))
    where
      go : (b : Bool) → All IsMet (first_names known hs) → All IsMet (first_names (known ++ h ∷ []) hs)
          → All IsMet (if b then first_names known hs else h ∷ first_names (known ++ h ∷ []) hs)
      go true met more = met
      go false met more = All-cons IsMet h _ (All-head IsMet h hs all) more

  pub hosts_met : Links L → All IsMet (hosts_of L)
  hosts_met links =
      first_met [] (hosts_from L 0 L.set.members)
      (all_met 0 L.set.members (λ i y at. (let place : i ≡ 0 + i = omega arith in subst (λ m. IsLinkedMember L m y) place (linked_member L i y links at))))

  -- ---- the imports of the module

  pub are_met : (m : Module) (t : ℕ → FuncType → ℕ) (e : ℕ) (hs : List HostName) → HasTypes m t e hs → All IsMet hs
      → imports_met m L.names (host_imports t e hs) ≡ Ok tt
  are_met m t e [] types all = refl
  are_met m t e (h ∷ hs) types all =
      let first = first_type m t e h hs types in
      let rest = are_met m t (e + 1) hs (later_types m t e h hs types) (All-tail IsMet h hs all) in
      rw (first, All-head IsMet h hs all, rest) refl
